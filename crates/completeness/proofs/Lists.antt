-- Laws of lists: elements of a flat_map, sublists, the numbers below n, the credentials without one.
use mathlib.Core.Path.{◌≡◌, refl, ap, ◌∙◌}
use mathlib.Core.Bool.{Bool, true, false, not, true≢false}
use mathlib.Core.List.Memᴰ
use mathlib.Core.List.{List, [], ◌∷◌, ◌++◌, map, flat_map, Sublistᴰ}
use mathlib.Core.Logic.{◌⊎◌, inl, inr}
use Prim.Native.Nat.{ℕ, zero, suc, ◌+◌, ◌≤◌, ◌<◌, zero-le}
use native.Mathlib.Omega.{arith}
use native.Mathlib.Decide.{ℕ_discrete}
use lib.ListN.{length}
use Rattle.meaning.specs.Tests.{◌∈◌, ◌and◌, ◌is◌, all, put, keep, mem}
use Rattle.meaning.specs.Rules.{omit}
use Rattle.meaning.proofs.Tests.{is_refl, any_of, map_of, map_at}
use Rattle.completeness.specs.Form.{Pairwise, Rising}

module _ {A B : Type 0} (f : A → List B) where
  pub flat_map_of : {x : A} {l : List A} {y : B} → x ∈ l → y ∈ f x → y ∈ flat_map f l
  unfolding flat_map
  flat_map_of (Memᴰ.head {x = z} {xs = r} e) m = Memᴰ.append_left {s = f z} (flat_map f r) (rw (← e) m)
  flat_map_of (Memᴰ.tail {x = z} n) m = Memᴰ.append_right (f z) (flat_map_of n m)

  pub flat_map_at : (l : List A) {y : B} → y ∈ flat_map f l → (x : A) × x ∈ l × y ∈ f x
  unfolding flat_map
  flat_map_at [] m = absurd (Memᴰ.not-nil m)
  flat_map_at (x ∷ l) {y} m = go (Memᴰ.append_cases (f x) m) (λ k. flat_map_at l k)
    where
      go : y ∈ f x ⊎ y ∈ flat_map f l → (y ∈ flat_map f l → (z : A) × z ∈ l × y ∈ f z) → (z : A) × z ∈ (x ∷ l) × y ∈ f z
      go (inl n) ih = (x, Memᴰ.head refl, n)
      go (inr n) ih = let (z, mz, k) = ih n in (z, Memᴰ.tail mz, k)

pub mem_of : {a : ℕ} {l : List ℕ} → a ∈ l → mem a l ≡ true
unfolding mem
mem_of {a} m = any_of _ m (is_refl a)

-- an element that fails
pub not_all : {A : Type 0} (p : A → Bool) (l : List A) → all p l ≡ false → (x : A) × x ∈ l × (p x ≡ false)
unfolding all ◌and◌
not_all p [] h = absurd (true≢false h)
not_all {A} p (x ∷ l) h = go (p x) refl h (λ k. not_all p l k)
  where
    go : (b : Bool) → p x ≡ b → b and all p l ≡ false → (all p l ≡ false → (y : A) × y ∈ l × (p y ≡ false)) → (y : A) × y ∈ (x ∷ l) × (p y ≡ false)
    go true e k ih = let (y, m, q) = ih k in (y, Memᴰ.tail m, q)
    go false e k ih = (x, Memᴰ.head refl, e)

-- ---- sublists

module _ {A : Type 0} where
  pub sublist_in : {l m : List A} {x : A} → Sublistᴰ l m → x ∈ l → x ∈ m
  sublist_in Sublistᴰ.slnil n = n
  sublist_in (Sublistᴰ.cons s) n = Memᴰ.tail (sublist_in s n)
  sublist_in (Sublistᴰ.cons-cons q s) (Memᴰ.head e) = Memᴰ.head (e ∙ q)
  sublist_in (Sublistᴰ.cons-cons q s) (Memᴰ.tail n) = Memᴰ.tail (sublist_in s n)

  pub sublist_pairwise : (R : A → A → Type 0) {l m : List A} → Sublistᴰ l m → Pairwise R m → Pairwise R l
  unfolding Pairwise
  sublist_pairwise R Sublistᴰ.slnil p = p
  sublist_pairwise R (Sublistᴰ.cons s) p = sublist_pairwise R s p.1
  sublist_pairwise R (Sublistᴰ.cons-cons q s) p = (λ y n. rw q (p.0 y (sublist_in s n)), sublist_pairwise R s p.1)

  pub keep_sublist : (p : A → Bool) (l : List A) → Sublistᴰ (keep p l) l
  unfolding keep put
  keep_sublist p [] = Sublistᴰ.slnil
  keep_sublist p (x ∷ l) = go (p x) (keep_sublist p l)
    where
      go : (b : Bool) → Sublistᴰ (keep p l) l → Sublistᴰ (put b x (keep p l)) (x ∷ l)
      go true s = Sublistᴰ.cons-cons refl s
      go false s = Sublistᴰ.cons s

  -- all sublists
  pub sublists : List A → List (List A)
  sublists [] = [] ∷ []
  sublists (x ∷ l) = map (λ (s : List A). x ∷ s) (sublists l) ++ sublists l

  pub sublists_of : {s l : List A} → Sublistᴰ s l → s ∈ sublists l
  unfolding sublists
  sublists_of Sublistᴰ.slnil = Memᴰ.head refl
  sublists_of (Sublistᴰ.cons {a = x} {l₂ = l} d) = Memᴰ.append_right (map (λ (s : List A). x ∷ s) (sublists l)) (sublists_of d)
  sublists_of (Sublistᴰ.cons-cons {b = x} {l₁ = s} {l₂ = l} q d) = Memᴰ.append_left (sublists l) (Memᴰ.cast (ap {B = List A} (λ (y : A). y ∷ s) q) (map_of (λ (t : List A). x ∷ t) (sublists_of d)))

  pub sublists_at : {s : List A} (l : List A) → s ∈ sublists l → Sublistᴰ s l
  unfolding sublists
  sublists_at [] (Memᴰ.head e) = rw e Sublistᴰ.slnil
  sublists_at [] (Memᴰ.tail m) = absurd (Memᴰ.not-nil m)
  sublists_at {s} (x ∷ l) m = go (Memᴰ.append_cases (map (λ (t : List A). x ∷ t) (sublists l)) m) (λ t n. sublists_at {s = t} l n)
    where
      go : s ∈ map (λ (t : List A). x ∷ t) (sublists l) ⊎ s ∈ sublists l → ((t : List A) → t ∈ sublists l → Sublistᴰ t l) → Sublistᴰ s (x ∷ l)
      go (inl n) ih = let (t, k, e) = map_at (λ (t : List A). x ∷ t) (sublists l) n in rw e (Sublistᴰ.cons-cons refl (ih t k))
      go (inr n) ih = Sublistᴰ.cons (ih s n)

-- ---- the numbers below n

-- the n numbers from k on
run : ℕ → ℕ → List ℕ
run k zero = []
run k (suc n) = k ∷ run (suc k) n

run_at : (k n : ℕ) {a : ℕ} → a ∈ run k n → (k ≤ a) × (a < k + n)
unfolding run
run_at k zero m = absurd (Memᴰ.not-nil m)
run_at k (suc n) (Memᴰ.head e) = (omega arith, omega arith)
run_at k (suc n) (Memᴰ.tail m) = let r = run_at (suc k) n m in (omega (arith, r.0), omega (arith, r.1))

run_of : (k n : ℕ) {a : ℕ} → k ≤ a → a < k + n → a ∈ run k n
unfolding run
run_of k zero p q = absurd (omega arith)
run_of k (suc n) {a} p q = go (ℕ_discrete a k) (λ h. run_of (suc k) n h (omega arith))
  where
    go : Dec (a ≡ k) → (suc k ≤ a → a ∈ run (suc k) n) → a ∈ (k ∷ run (suc k) n)
    go (yes e) ih = Memᴰ.head e
    go (no ne) ih = Memᴰ.tail (ih (omega arith))

run_rising : (k n : ℕ) → Rising (run k n)
unfolding run Pairwise
run_rising k zero = tt
run_rising k (suc n) = (λ y m. (run_at (suc k) n m).0, run_rising (suc k) n)

pub up_to : ℕ → List ℕ
up_to n = run 0 n

pub up_to_at : (n : ℕ) {a : ℕ} → a ∈ up_to n → a < n
unfolding up_to
up_to_at n m = omega (arith, (run_at 0 n m).1)

pub up_to_of : (n a : ℕ) → a < n → a ∈ up_to n
unfolding up_to
up_to_of n a h = run_of 0 n zero-le (omega arith)

pub up_to_rising : (n : ℕ) → Rising (up_to n)
unfolding up_to
up_to_rising n = run_rising 0 n

-- ---- the credentials without c

length_omit : (c : ℕ) (S : List ℕ) → length (omit c S) ≤ length S
unfolding omit keep put
length_omit c [] = zero-le
length_omit c (x ∷ S) = go (not (x is c)) (length_omit c S)
  where
    go : (b : Bool) → length (keep (λ i. not (i is c)) S) ≤ length S → length (put b x (keep (λ i. not (i is c)) S)) ≤ suc (length S)
    go true h = omega arith
    go false h = omega arith

pub omit_shorter : (c : ℕ) {S : List ℕ} → c ∈ S → length (omit c S) < length S
unfolding omit keep put
omit_shorter c (Memᴰ.head {xs = S} e) = rw (← e, is_refl c) (omega (arith, length_omit c S))
omit_shorter c (Memᴰ.tail {x = x} {xs = S} m) = go (not (x is c)) (omit_shorter c m)
  where
    go : (b : Bool) → length (keep (λ i. not (i is c)) S) < length S → length (put b x (keep (λ i. not (i is c)) S)) < suc (length S)
    go true h = omega arith
    go false h = omega arith
