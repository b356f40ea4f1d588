-- The values of a formula when each literal is false, as the code has them.
use Prim.Native.Nat.{ℕ}
use mathlib.Core.Path.{◌≡◌, refl, ap, ap₂, ◌∙◌}
use mathlib.Core.Bool.{Bool, true, false, not, beq, true≢false, false≢true}
use mathlib.Core.List.{List}
use mathlib.Core.Option as maybe
use lib.Dec.{eqb}
use Rattle.std.specs.Prelude.{Option, Some, None, option_map}
use Rattle.std.specs.Option.{option_eq, option_and}
use Rattle.meaning.specs.Tests.{agree}
use Rattle.meaning.specs.Formula.{Formula, always, atom, neg, conj, disj, read}
use Rattle.meaning.specs.Papers.{Literal}
use Rattle.meaning.specs.Rules.{value, not₃, and₃, or₃, ◌gives◌}
use Rattle.promise.specs.Code.{bit}
use Rattle.lines.specs.Named.{told}
use Rattle.lines.specs.Supposing.{untold, supposing}

pub not_told : (a : Option Bool) → told (option_map not a) ≡ not₃ (told a)
unfolding not₃
not_told None = refl
not_told (Some b) = refl

pub and_left : (a b : Option Bool) → option_eq beq a (Some false) ≡ true → and₃ (told a) (told b) ≡ maybe.some false
unfolding and₃
and_left None b h = absurd (false≢true h)
and_left (Some true) b h = absurd (false≢true h)
and_left (Some false) b h = refl

pub and_right : (a b : Option Bool) → option_eq beq b (Some false) ≡ true → and₃ (told a) (told b) ≡ maybe.some false
unfolding and₃
and_right a None h = absurd (false≢true h)
and_right a (Some true) h = absurd (false≢true h)
and_right None (Some false) h = refl
and_right (Some true) (Some false) h = refl
and_right (Some false) (Some false) h = refl

pub and_else : (a b : Option Bool) → option_eq beq a (Some false) ≡ false → option_eq beq b (Some false) ≡ false → and₃ (told a) (told b) ≡ told (option_and a b)
unfolding and₃
and_else (Some true) b h k = refl
and_else (Some false) b h k = absurd (true≢false h)
and_else None None h k = refl
and_else None (Some true) h k = refl
and_else None (Some false) h k = absurd (true≢false k)

pub or_is : (a b : maybe.Option Bool) → or₃ a b ≡ not₃ (and₃ (not₃ a) (not₃ b))
unfolding or₃
or_is a b = refl

pub gives_told : (a : Option Bool) (b : Bool) → option_eq beq a (Some b) ≡ (told a gives b)
unfolding ◌gives◌ agree
gives_told None b = refl
gives_told (Some true) true = refl
gives_told (Some true) false = refl
gives_told (Some false) true = refl
gives_told (Some false) false = refl

pub ruleset values = (and_left, and_right, and_else, or_is, gives_told)

pub told_untold : {A : Type 0} (x : maybe.Option A) → told (untold x) ≡ x
told_untold maybe.none = refl
told_untold (maybe.some x) = refl

-- a formula that is read with the code's values has the value of the definitions
pub supposed_value : (ls : List Literal) (S : List ℕ) (f : Formula) → told (read (supposing ls S) f) ≡ value ls S f
unfolding read value
supposed_value ls S always = refl
supposed_value ls S (atom a) = told_untold _
supposed_value ls S (neg f) = told_untold _ ∙ ap not₃ (supposed_value ls S f)
supposed_value ls S (conj f g) = told_untold _ ∙ ap₂ and₃ (supposed_value ls S f) (supposed_value ls S g)
supposed_value ls S (disj f g) = told_untold _ ∙ ap₂ or₃ (supposed_value ls S f) (supposed_value ls S g)

-- rule 1 asks for the opposite of the answer that the table has
pub opposite : (a : Bool) {x : ℕ} → x ≡ bit a → eqb x 0 ≡ not a
opposite true e = rw e
opposite false e = rw e
