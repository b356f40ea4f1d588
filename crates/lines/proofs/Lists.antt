-- The searches of std, as the definitions have them.
use Prim.Native.Nat.{ℕ, zero, suc, ◌+◌, ◌<◌}
use mathlib.Core.Path.{◌≡◌, ◌∙◌, refl, ap}
use mathlib.Core.Bool.{Bool, true, false, not, cond, ◌&&◌, ◌||◌}
use mathlib.Core.List.{List, [], ◌∷◌}
use mathlib.Core.Option as maybe
use native.Mathlib.Omega.{arith}
use borrow.Author.Tests.{eq-eqb, ne_eqb}
use lib.Dec.{eqb}
use lib.ListN.{length}
use lib.Pointwise.{pointwise}
use Rattle.std.specs.Iterator.{ChecksAll, ChecksAny}
use Rattle.std.proofs.Common.{Iter}
use Rattle.std.specs.Slice.Iter.{iter_rest}
use Rattle.std.specs.Fn.{Called}
use Rattle.std.proofs.iter.Yields.{fronts}
use Rattle.std.proofs.lemmas.Iterator.{YieldsList-from_slice}
use Rattle.std.proofs.lemmas.Iterator.Search.{all_from_yields_List, any_from_yields_List}
use denote.Param.Members.{Mut}
use denote.Ref.{Bor}
use Rattle.std.specs.Prelude.{Option, Some, None, MatchOption, IsSomeAnd, option_map}
use Rattle.std.specs.List.{list_any, list_all, filter, slice_get, zip, range_with_len, find}
use Rattle.meaning.specs.Tests.{◌and◌, ◌or◌, ◌is◌, same, all, any, put, keep, at, choose}
use Rattle.meaning.specs.Papers.{Statement, Literal}
use Rattle.meaning.specs.Rules.{same_statement, supposed, others}
use Rattle.lines.specs.Named.{told}

module _ {A : Type 0} (p : A → Bool) where
  pub any_is : (l : List A) → list_any p l ≡ any p l
  unfolding any ◌or◌
  any_is [] = refl
  any_is (x ∷ l) = go (p x) (any_is l)
    where
      go : (b : Bool) → list_any p l ≡ any p l → (b || list_any p l) ≡ (b or any p l)
      go true e = refl
      go false e = e

  pub all_is : (l : List A) → list_all p l ≡ all p l
  unfolding all ◌and◌
  all_is [] = refl
  all_is (x ∷ l) = go (p x) (all_is l)
    where
      go : (b : Bool) → list_all p l ≡ all p l → (b && list_all p l) ≡ (b and all p l)
      go true e = e
      go false e = refl

-- element j of a list
pub at_is : {A : Type 0} (l : List A) (j : ℕ) → told (slice_get l j) ≡ at l j
unfolding at
at_is [] j = refl
at_is (x ∷ l) zero = refl
at_is (x ∷ l) (suc j) = at_is l j

-- the elements that pass
pub keep_is : {A : Type 0} (p : A → Bool) (l : List A) → filter p l ≡ keep p l
unfolding keep put
keep_is p [] = refl
keep_is p (x ∷ l) = go (p x) (keep_is p l)
  where
    go : (b : Bool) → filter p l ≡ keep p l → cond b (x ∷ filter p l) (filter p l) ≡ put b x (keep p l)
    go true e = ap (λ m. x ∷ m) e
    go false e = e

-- two lists of numbers
pub same_is : (l m : List ℕ) → pointwise eqb l m ≡ same l m
unfolding same ◌and◌ ◌is◌
same_is [] [] = refl
same_is [] (y ∷ m) = refl
same_is (x ∷ l) [] = refl
same_is (x ∷ l) (y ∷ m) = go (eqb x y) (same_is l m)
  where
    go : (b : Bool) → pointwise eqb l m ≡ same l m → (b && pointwise eqb l m) ≡ (b and same l m)
    go true e = e
    go false e = refl

-- what a closure that computes f makes of an Option
pub mapped : {A B : Type 0} (f : A → B) {P : A → B → Type 0} (o : Option A) (r : Option B) → MatchOption o (r ≡ None) (λ x. IsSomeAnd r (P x)) → ((x : A) (y : B) → P x y → y ≡ f x) → r ≡ option_map f o
mapped f None r e g = e
mapped f (Some x) None e g = absurd e
mapped f (Some x) (Some y) e g = ap Some (g x y e)

-- the value of a statement, by the first literal that has it
pub supposed_is : (s : Statement) (ls : List Literal) → told (option_map (λ (m : Literal). not m.positive) (find (λ (m : Literal). same_statement m.said s) ls)) ≡ supposed ls s
unfolding supposed choose
supposed_is s [] = refl
supposed_is s (m ∷ ls) = go (same_statement m.said s) (supposed_is s ls)
  where
    go : (b : Bool) → told (option_map (λ (m : Literal). not m.positive) (find (λ (m : Literal). same_statement m.said s) ls)) ≡ supposed ls s
        → told (option_map (λ (m : Literal). not m.positive) (cond b (Some m) (find (λ (m : Literal). same_statement m.said s) ls))) ≡ choose b (maybe.some (not m.positive)) (supposed ls s)
    go true e = refl
    go false e = e

-- the elements but number i, each beside its number
module _ {A : Type 0} (p : A → Bool) (i : ℕ) where
  abbrev passes : ℕ × A → Bool
  passes x = x.0 is i or p x.1

  later : (l : List A) (a : ℕ) → i < a → list_all passes (zip (range_with_len a (length l)) l) ≡ all p l
  unfolding all ◌or◌ ◌and◌ ◌is◌
  later [] a h = refl
  later (x ∷ l) a h = rw (ne_eqb a i (λ e. omega (arith, e))) (go (p x) (later l (a + 1) (omega arith)))
    where
      go : (b : Bool) → list_all passes (zip (range_with_len (a + 1) (length l)) l) ≡ all p l → (b && list_all passes (zip (range_with_len (a + 1) (length l)) l)) ≡ (b and all p l)
      go true e = e
      go false e = refl

  pub others_is : (l : List A) (a k : ℕ) → a + k ≡ i → list_all passes (zip (range_with_len a (length l)) l) ≡ all p (others l k)
  unfolding all others ◌or◌ ◌and◌ ◌is◌
  others_is [] a k h = refl
  others_is (x ∷ l) a zero h = rw (eq-eqb a i (omega arith)) (later l (a + 1) (omega arith))
  others_is (x ∷ l) a (suc k) h = rw (ne_eqb a i (λ e. omega (arith, e))) (go (p x) (others_is l (a + 1) k (omega arith)))
    where
      go : (b : Bool) → list_all passes (zip (range_with_len (a + 1) (length l)) l) ≡ all p (others l k) → (b && list_all passes (zip (range_with_len (a + 1) (length l)) l)) ≡ (b and all p (others l k))
      go true e = e
      go false e = refl

-- ---- what `all` and `any` answer over a slice of numbers, where the closure computes the test

module _ {F : Type 0} {g : Mut F (Bor ℕ × Unit {0}) Bool} (test : ℕ → Bool) {s u : Iter ℕ} {f : F} {r : Bool} (l : List ℕ) where
  pub all_over : ChecksAll fronts g s f r u → iter_rest s ≡ l → ((x : Bor ℕ) (b : Bool) (q : F) → Called g f (x, tt) b q → (q ≡ f) × (b ≡ test x.now)) → r ≡ all test l
  all_over ran e k = all_from_yields_List test u f r ran (YieldsList-from_slice l e) k ∙ all_is test l

  pub any_over : ChecksAny fronts g s f r u → iter_rest s ≡ l → ((x : Bor ℕ) (b : Bool) (q : F) → Called g f (x, tt) b q → (q ≡ f) × (b ≡ test x.now)) → r ≡ any test l
  any_over ran e k = any_from_yields_List test u f r ran (YieldsList-from_slice l e) k ∙ any_is test l
