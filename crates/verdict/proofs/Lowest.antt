-- The lowest number that fails a test.
use Prim.Native.Nat.{ℕ, zero, suc, ◌+◌, ◌-◌, ◌<◌, ◌≤◌}
use mathlib.Core.Path.{◌≡◌, ap, ◌∙◌}
use mathlib.Core.Bool.{Bool, true, false}
use mathlib.Core.Option.{Option, none, some}
use native.Mathlib.Omega.{arith}
use Rattle.meaning.specs.Tests.{choose, lowest}

module _ (p : ℕ → Bool) where
  -- the whole search is the search from i on
  abbrev pub From : ℕ → ℕ → Type 0
  From n i = (i ≤ n) × (lowest p 0 n ≡ lowest p i (n - i))

  pub from_start : (n : ℕ) → From n 0
  from_start n = let z : n ≡ n - 0 = omega arith in (omega arith, ap (λ (x : ℕ). lowest p 0 x) z)

  ahead : (i left : ℕ) → 0 < left → lowest p i left ≡ choose (p i) (lowest p (suc i) (left - 1)) (some i)
  unfolding lowest
  ahead i zero h = absurd (omega arith)
  ahead i (suc left) h = let z : left ≡ suc left - 1 = omega arith in ap (λ (x : ℕ). choose (p i) (lowest p (suc i) x) (some i)) z

  pub from_next : (n i : ℕ) → From n i → i < n → p i ≡ true → From n (i + 1)
  unfolding choose
  from_next n i f h e =
      let a : 0 < n - i = omega arith in
      let b : n - i - 1 ≡ n - (i + 1) = omega arith in
      let s : suc i ≡ i + 1 = omega arith in
      (omega arith, f.1 ∙ ahead i (n - i) a ∙ ap (λ (t : Bool). choose t (lowest p (suc i) (n - i - 1)) (some i)) e ∙ ap (λ (x : ℕ). lowest p (suc i) x) b ∙ ap (λ (x : ℕ). lowest p x (n - (i + 1))) s)

  pub from_fault : (n i : ℕ) → From n i → i < n → p i ≡ false → lowest p 0 n ≡ some i
  unfolding choose
  from_fault n i f h e =
      let a : 0 < n - i = omega arith in
      f.1 ∙ ahead i (n - i) a ∙ ap (λ (t : Bool). choose t (lowest p (suc i) (n - i - 1)) (some i)) e

  pub from_end : (n i : ℕ) → From n i → n ≤ i → lowest p 0 n ≡ none
  unfolding lowest
  from_end n i f h =
      let a : n - i ≡ 0 = omega arith in
      f.1 ∙ ap (λ (x : ℕ). lowest p i x) a

  some_number : (b : Bool) (k j : ℕ) (o : Option ℕ) (l : ℕ) → (o ≡ some j → j < l) → k < l → choose b o (some k) ≡ some j → j < l
  unfolding choose
  some_number true k j o l f h e = f e
  some_number false k j o l f h e = let z : k ≡ j = cc in omega arith

  lowest_before : (i left j : ℕ) → lowest p i left ≡ some j → j < i + left
  unfolding lowest
  lowest_before i zero j e = absurd (let z : ◌≡◌ {A = ℕ} 0 1 = ap from e in omega arith)
    where
      from : Option ℕ → ℕ
      from none = 0
      from (some x) = 1
  lowest_before i (suc left) j e =
      some_number (p i) i j (lowest p (suc i) left) (i + suc left) (λ h. let z = lowest_before (suc i) left j h in omega (arith, z)) (omega arith) e

  pub lowest_below : (n j : ℕ) → lowest p 0 n ≡ some j → j < n
  lowest_below n j e = let z = lowest_before 0 n j e in omega (arith, z)
