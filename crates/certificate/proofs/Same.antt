-- Laws of the comparison of statements, and of the search for one among literals.
use Prim.Native.Nat.{ℕ, ◌-◌, ◌<◌, ◌≤◌}
use mathlib.Core.Path.{◌≡◌, sym, ap, ◌∙◌}
use mathlib.Core.Bool.{Bool, true, false}
use mathlib.Core.List.{List}
use Rattle.meaning.specs.Tests.{◌or◌, any}
use Rattle.meaning.specs.Papers.{Statement}
use Rattle.meaning.specs.Rules.{same_statement}
use Rattle.promise.specs.Place.{many}
use Rattle.promise.specs.Line.{literal_at, said_of, literal}
use Rattle.promise.proofs.Place.{many_none, many_on}
use Rattle.certificate.specs.Read.{spoken}

-- ---- one of the literals seen from p on speaks of s

module _ (s : Statement) (ws : List ℕ) (p k : ℕ) where
  pub spoken_none : k ≤ 0 → spoken s (many literal ws p k) ≡ false
  unfolding spoken any
  spoken_none h = ap (spoken s) (many_none literal ws p k h)

  module _ (more : 0 < k) {r : Bool} (e : r ≡ same_statement (said_of ws (literal_at ws p)) s) where
    pub spoken_yes : r ≡ true → spoken s (many literal ws p k) ≡ true
    unfolding spoken any ◌or◌
    spoken_yes y = let z = sym e ∙ y in ap (spoken s) (many_on literal ws p k more) ∙ rw z

    pub spoken_on : r ≡ false → spoken s (many literal ws p k) ≡ spoken s (many literal ws (literal_at ws p).next (k - 1))
    unfolding spoken any ◌or◌
    spoken_on y = let z = sym e ∙ y in ap (spoken s) (many_on literal ws p k more) ∙ rw z
