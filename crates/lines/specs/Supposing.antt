-- How a formula is read when each of some literals is false, with the code's values.
use Rattle.std.specs.Prelude.{ℕ, Bool, true, Option, Some, None, List, []}
use Rattle.std.proofs.Math.Option as maybe
use Rattle.meaning.specs.Formula.{Reading}
use Rattle.meaning.specs.Papers.{Literal}
use Rattle.meaning.specs.Rules.{supposed, not₃, and₃, or₃}
use Rattle.lines.specs.Named.{told}

-- the code's Option of one of the definitions
abbrev pub untold : {A : Type 0} → maybe.Option A → Option A
untold maybe.none = None
untold (maybe.some x) = Some x

-- given the credentials S
abbrev pub supposing : List Literal → List ℕ → Reading (Option Bool)
supposing ls S =
    record {
      always = Some true;
      atom = λ a. untold (supposed ls (record { creds = S; atoms = []; atom = a }));
      neg = λ a. untold (not₃ (told a));
      conj = λ a b. untold (and₃ (told a) (told b));
      disj = λ a b. untold (or₃ (told a) (told b));
    }
