-- Tests of two parts, and one step of a test along a list whose first element and rest are known.
use Prim.Native.Nat.{ℕ, zero, suc, ◌+◌, ◌-◌, ◌<◌, ◌≤◌}
use mathlib.Core.Path.{◌≡◌, refl, sym, ap, ◌∙◌}
use mathlib.Core.Bool.{Bool, true, false, not, beq, ◌&&◌}
use mathlib.Core.List.{List, [], ◌∷◌}
use native.Mathlib.Omega.{arith}
use borrow.Author.Tests.{eq-eqb, ne_eqb}
use lib.Dec.{eqb}
use lib.ListN.{length}
use Rattle.meaning.specs.Tests.{◌and◌, ◌or◌, ◌is◌, agree, same, all, any, put, keep}
use Rattle.meaning.specs.Rules.{omit, others}
use Rattle.meaning.proofs.Tests.{or_left}
use Rattle.promise.specs.Place.{part}
use Rattle.promise.proofs.Place.{part_none, part_cons}
use Rattle.std.specs.Str.{bytes_eq}

-- ---- two parts

pub yes_and : {a : Bool} (b : Bool) → a ≡ true → a and b ≡ b
unfolding ◌and◌
yes_and b e = rw e

pub no_and : {a : Bool} (b : Bool) → a ≡ false → a and b ≡ false
unfolding ◌and◌
no_and b e = rw e

pub and_yes : (a : Bool) {b : Bool} → b ≡ true → a and b ≡ a
unfolding ◌and◌
and_yes true e = e
and_yes false e = refl

pub and_no : (a : Bool) {b : Bool} → b ≡ false → a and b ≡ false
unfolding ◌and◌
and_no true e = e
and_no false e = refl

pub is_of : {m n : ℕ} → m ≡ n → m is n ≡ true
unfolding ◌is◌
is_of {m} {n} e = eq-eqb m n e

pub is_not : {m n : ℕ} → (m ≡ n → ⊥) → m is n ≡ false
unfolding ◌is◌
is_not {m} {n} e = ne_eqb m n e

-- what the code's test of two signs says
pub signs_differ : (a b : Bool) → not (beq a b) ≡ true → agree a b ≡ false
unfolding agree
signs_differ true true h = sym h
signs_differ true false h = refl
signs_differ false true h = refl
signs_differ false false h = sym h

pub signs_agree : (a b : Bool) → not (beq a b) ≡ false → agree a b ≡ true
unfolding agree
signs_agree true true h = refl
signs_agree true false h = sym h
signs_agree false true h = sym h
signs_agree false false h = refl

-- ---- one step along a list

module _ {A : Type 0} (P : A → Bool) {l : List A} where
  pub any_none : l ≡ [] → any P l ≡ false
  unfolding any
  any_none e = rw e

  pub all_none : l ≡ [] → all P l ≡ true
  unfolding all
  all_none e = rw e

  module _ {x : A} {m : List A} (e : l ≡ x ∷ m) where
    pub any_yes : P x ≡ true → any P l ≡ true
    unfolding any
    any_yes h = rw e (or_left _ h)

    pub any_on : P x ≡ false → any P l ≡ any P m
    unfolding any ◌or◌
    any_on h = rw (e, h)

    pub all_on : P x ≡ true → all P l ≡ all P m
    unfolding all
    all_on h = rw e (yes_and _ h)

    pub all_not : P x ≡ false → all P l ≡ false
    unfolding all
    all_not h = rw e (no_and _ h)

-- every element but number i; past the end that is every element
pub others_none : {A : Type 0} {l : List A} (i : ℕ) → l ≡ [] → others l i ≡ []
unfolding others
others_none i e = rw e

pub others_all : {A : Type 0} (l : List A) (i : ℕ) → length l ≤ i → others l i ≡ l
unfolding others
others_all [] i h = refl
others_all (x ∷ l) zero h = absurd (omega arith)
others_all (x ∷ l) (suc i) h = ap (λ m. x ∷ m) (others_all l i (omega arith))

module _ {A : Type 0} {l m : List A} {x : A} (e : l ≡ x ∷ m) (i : ℕ) where
  pub others_first : i ≡ 0 → others l i ≡ m
  unfolding others
  others_first h = rw (e, h)

  pub others_on : 0 < i → others l i ≡ x ∷ others m (i - 1)
  unfolding others
  others_on h = on (i - 1) (omega arith)
    where
      on : (j : ℕ) → i ≡ suc j → others l i ≡ x ∷ others m j
      on j z = rw (e, z)

-- two lists of numbers that begin with the same one
pub same_on : {l m l' m' : List ℕ} {x y : ℕ} → l ≡ x ∷ l' → m ≡ y ∷ m' → x ≡ y → same l m ≡ same l' m'
unfolding same
same_on e f h = rw (e, f) (yes_and _ (is_of h))

-- a part of the words beside no words
pub same_end : (ws : List ℕ) (a m : ℕ) → a + m ≤ length ws → {l : List ℕ} → l ≡ [] → eqb m 0 ≡ same (part ws a m) l
unfolding same
same_end ws a m h {l} e = rw e (go m refl)
  where
    go : (n : ℕ) → m ≡ n → eqb n 0 ≡ same (part ws a n) []
    go zero z = sym (ap (λ x. same x []) (part_none ws a zero (omega arith)))
    go (suc n) z = ne_eqb (suc n) 0 (λ y. omega (arith, y)) ∙ sym (ap (λ x. same x []) (part_cons ws a (suc n) (omega arith) (omega arith)))

-- a list without c
pub omit_none : (c : ℕ) {l : List ℕ} → l ≡ [] → omit c l ≡ []
unfolding omit keep
omit_none c e = rw e

module _ (c : ℕ) {l m : List ℕ} {x : ℕ} (e : l ≡ x ∷ m) where
  pub omit_skip : x ≡ c → omit c l ≡ omit c m
  unfolding omit keep put
  omit_skip h = rw e (simp (is_of h))

  pub omit_keep : (x ≡ c → ⊥) → omit c l ≡ x ∷ omit c m
  unfolding omit keep put
  omit_keep h = rw e (simp (is_not h))

-- a test can't say both
pub clash : {A : Type 0} {b : Bool} → b ≡ true → b ≡ false → A
clash e h = let c : true ≡ false = sym e ∙ h in cc

both_and : (a b : Bool) → (a && b) ≡ (a and b)
unfolding ◌and◌
both_and true b = refl
both_and false b = refl

-- what `==` says of two lists of numbers
pub same_is : (l m : List ℕ) → bytes_eq l m ≡ same l m
unfolding same ◌and◌ ◌is◌
same_is [] [] = refl
same_is [] (y ∷ m) = refl
same_is (x ∷ l) [] = refl
same_is (x ∷ l) (y ∷ m) = ap (λ (b : Bool). eqb x y && b) (same_is l m) ∙ both_and (eqb x y) (same l m)
