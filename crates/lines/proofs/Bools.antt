-- The tests of the definitions, as the search reads them: what each is when a part of it is known.
use Prim.Native.Nat.{ℕ, zero, suc}
use mathlib.Core.Path.{◌≡◌, refl}
use mathlib.Core.Bool.{Bool, true, false, beq}
use mathlib.Core.List.{List, [], ◌∷◌}
use mathlib.Core.Option.{none, some}
use native.Mathlib.Omega.{arith}
use lib.ListN.{length}
use lib.Dec.{eqb}
use Rattle.meaning.specs.Tests.{◌and◌, ◌or◌, ◌is◌, agree, all, named}
use Rattle.meaning.specs.Rules.{others}
use Rattle.meaning.proofs.Tests.{and_both, is→≡}

-- ---- two parts

module _ (a b : Bool) where
  pub and_first : a ≡ true → a and b ≡ b
  unfolding ◌and◌
  and_first e = rw e

  pub and_fails : a ≡ false → a and b ≡ false
  unfolding ◌and◌
  and_fails e = rw e

  pub or_first : a ≡ true → a or b ≡ true
  unfolding ◌or◌
  or_first e = rw e

  pub or_second : a ≡ false → a or b ≡ b
  unfolding ◌or◌
  or_second e = rw e

pub agree_beq : (a b : Bool) → agree a b ≡ beq a b
unfolding agree
agree_beq true true = refl
agree_beq true false = refl
agree_beq false true = refl
agree_beq false false = refl

pub and_last : (a b : Bool) → b ≡ true → a and b ≡ a
unfolding ◌and◌
and_last true b e = e
and_last false b e = refl

pub and_last_fails : (a b : Bool) → b ≡ false → a and b ≡ false
unfolding ◌and◌
and_last_fails true b e = e
and_last_fails false b e = refl

pub is_eqb : (m n : ℕ) → m is n ≡ eqb m n
unfolding ◌is◌
is_eqb m n = refl

-- what an Option names
pub named_none : {A : Type 0} (f : A → Bool) → named none f ≡ false
unfolding named
named_none f = refl

pub named_some : {A : Type 0} (x : A) (f : A → Bool) → named (some x) f ≡ f x
unfolding named
named_some x f = refl

-- one element alone leaves no others
pub others_alone : {A : Type 0} (P : A → Bool) (l : List A) (i : ℕ) → length l is 1 and i is 0 ≡ true → all P (others l i) ≡ true
unfolding others all
others_alone P [] i e = refl
others_alone P (x ∷ []) zero e = refl
others_alone P (x ∷ []) (suc i) e = absurd (let z = is→≡ (and_both e).1 in omega (arith, z))
others_alone P (x ∷ y ∷ l) i e = absurd (let z = is→≡ (and_both e).0 in omega (arith, z))

pub ruleset bools = (and_first, and_fails, or_first, or_second, and_last, and_last_fails, agree_beq, is_eqb, named_none, named_some, others_alone)
