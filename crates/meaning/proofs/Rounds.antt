-- What the rounds add is closed under the policy and contained in all that is closed; and when it is all there.
use mathlib.Core.Path.{◌≡◌, refl, sym, ap, ◌∙◌}
use mathlib.Core.Bool.{Bool, true, false, false≢true}
use mathlib.Core.List.Memᴰ
use mathlib.Core.List.{List, [], ◌∷◌, map}
use mathlib.Core.Logic.{◌⊎◌, inl, inr, ◌↔◌}
use Prim.Native.Nat.{ℕ, zero, suc, ◌≤◌, ◌<◌, zero-le}
use native.Mathlib.Omega.{arith}
use native.Mathlib.Decide.{ℕ_discrete}
use lib.ListN.{length, length-map}
use Rattle.meaning.specs.Tests.{◌∈◌, ◌and◌, ◌is◌, all, any}
use Rattle.meaning.specs.Policy.{Clause, Policy, round, after, Holds, holds, Derivable, derived}
use Rattle.meaning.proofs.Tests.{cases, clash, together, and_both, and_of, or_cases, or_left, or_right, is→≡, is_refl, all_at, all_of, any_at, any_of, map_of}

-- the atoms of a set
abbrev pub In : (ℕ → Bool) → ℕ → Type 0
In X a = X a ≡ true

-- M has the head of every clause of P whose body it has
unfoldable pub ClosedIn : (ℕ → Type 0) → Policy → Type 0
ClosedIn M P = (c : Clause) → c ∈ P → ((b : ℕ) → b ∈ c.body → M b) → M c.head

-- ---- a round, taken apart and made

module _ (P : Policy) (X : ℕ → Bool) where
  pub round_keeps : (a : ℕ) → In X a → In (round P X) a
  unfolding round
  round_keeps a h = or_left _ h

  pub round_adds : {c : Clause} → c ∈ P → all X c.body ≡ true → In (round P X) c.head
  unfolding round
  round_adds {c} m h = or_right _ (any_of _ m (and_of (is_refl c.head) h))

  -- what has X and is closed under P where X has the body, has the round
  pub round_least : (M : ℕ → Type 0) → ((a : ℕ) → In X a → M a) → ((c : Clause) → c ∈ P → ((b : ℕ) → b ∈ c.body → In X b) → M c.head) → (a : ℕ) → In (round P X) a → M a
  unfolding round
  round_least M f g a h = go (or_cases h)
    where
      go : (X a ≡ true) ⊎ (any (λ (c : Clause). a is c.head and all X c.body) P ≡ true) → M a
      go (inl e) = f a e
      go (inr e) = let (c, m, t) = any_at _ P e in let q = and_both t in rw (is→≡ q.0) (g c m (λ b n. all_at _ _ q.1 n))

  closed_round : ClosedIn (In X) P → ClosedIn (In (round P X)) P
  unfolding ClosedIn
  closed_round f c m g = round_keeps c.head (f c m λ b n. round_least (In X) (λ a h. h) f b (g b n))

after_least : (M : ℕ → Type 0) (P : Policy) → ClosedIn M P → (k a : ℕ) → In (after P k) a → M a
unfolding after ClosedIn
after_least M P h zero a e = absurd (false≢true e)
after_least M P h (suc k) a e = round_least P (after P k) M (after_least M P h k) (λ c m f. h c m λ b n. after_least M P h k b (f b n)) a e

-- ---- a set is closed, or a clause would still add its head

Adds : Policy → (ℕ → Bool) → Type 0
Adds P X = (c : Clause) × c ∈ P × (all X c.body ≡ true) × (X c.head ≡ false)

closed? : (P : Policy) (X : ℕ → Bool) → ClosedIn (In X) P ⊎ Adds P X
unfolding ClosedIn Adds
closed? [] X = inl (λ c m h. absurd (Memᴰ.not-nil m))
closed? (d ∷ P) X = go (cases (all X d.body)) (cases (X d.head)) (closed? P X)
  where
    later : (all X d.body ≡ true → X d.head ≡ true) → ClosedIn (In X) P → ClosedIn (In X) (d ∷ P)
    later f ih c (Memᴰ.head e) h = rw e (f (rw (← e) (all_of X c.body h)))
    later f ih c (Memᴰ.tail m) h = ih c m h

    go : (all X d.body ≡ true) ⊎ (all X d.body ≡ false) → (X d.head ≡ true) ⊎ (X d.head ≡ false) → ClosedIn (In X) P ⊎ Adds P X → ClosedIn (In X) (d ∷ P) ⊎ Adds (d ∷ P) X
    go r s (inr (c, m, t, q)) = inr (c, Memᴰ.tail m, t, q)
    go (inl r) (inr s) (inl f) = inr (d, Memᴰ.head refl, r, s)
    go (inl r) (inl s) (inl f) = inl (later (λ _. s) f)
    go (inr r) s (inl f) = inl (later (λ e. clash e r) f)

-- ---- how many of U a set has

bump : Bool → ℕ → ℕ
bump true n = suc n
bump false n = n

count : (ℕ → Bool) → List ℕ → ℕ
count X [] = 0
count X (u ∷ U) = bump (X u) (count X U)

bump_le : (b : Bool) (n : ℕ) → bump b n ≤ suc n
unfolding bump
bump_le true n = omega arith
bump_le false n = omega arith

bump_mono : (b d : Bool) (m n : ℕ) → (b ≡ true → d ≡ true) → m ≤ n → bump b m ≤ bump d n
unfolding bump
bump_mono true true m n f h = omega arith
bump_mono true false m n f h = absurd (false≢true (f refl))
bump_mono false true m n f h = omega arith
bump_mono false false m n f h = h

bump_full : (b : Bool) (m n : ℕ) → suc m ≤ bump b n → n ≤ m → b ≡ true
unfolding bump
bump_full true m n h k = refl
bump_full false m n h k = absurd (omega arith)

bump_suc : (b : Bool) (n : ℕ) → bump b (suc n) ≡ suc (bump b n)
unfolding bump
bump_suc true n = refl
bump_suc false n = refl

count_le : (X : ℕ → Bool) (U : List ℕ) → count X U ≤ length U
unfolding count
count_le X [] = zero-le
count_le X (u ∷ U) = let h = count_le X U in let k = bump_le (X u) (count X U) in omega arith

module _ (X Y : ℕ → Bool) (f : (a : ℕ) → In X a → In Y a) where
  count_mono : (U : List ℕ) → count X U ≤ count Y U
  unfolding count
  count_mono [] = zero-le
  count_mono (u ∷ U) = bump_mono (X u) (Y u) (count X U) (count Y U) (f u) (count_mono U)

  count_more : (U : List ℕ) {u : ℕ} → u ∈ U → X u ≡ false → Y u ≡ true → count X U < count Y U
  unfolding count bump
  count_more [] m p q = elim m [ ]
  count_more (v ∷ U) (Memᴰ.head e) p q = let h = count_mono U in rw (← e) (rw (p, q) (omega arith))
  count_more (v ∷ U) (Memᴰ.tail m) p q = rw (← (bump_suc (X v) (count X U))) (bump_mono (X v) (Y v) (suc (count X U)) (count Y U) (f v) (count_more U m p q))

count_full : (X : ℕ → Bool) (U : List ℕ) {u : ℕ} → length U ≤ count X U → u ∈ U → X u ≡ true
unfolding count
count_full X [] h m = elim m [ ]
count_full X (v ∷ U) h (Memᴰ.head e) = rw e (bump_full (X v) (length U) (count X U) h (count_le X U))
count_full X (v ∷ U) h (Memᴰ.tail m) = let k = bump_le (X v) (count X U) in count_full X U (omega arith) m

-- ---- after as many rounds as there are possible heads nothing is added

module _ (P : Policy) (U : List ℕ) (heads : (c : Clause) → c ∈ P → c.head ∈ U) where
  settle : (k : ℕ) → ClosedIn (In (after P k)) P ⊎ (k ≤ count (after P k) U)
  unfolding after Adds
  settle zero = inr zero-le
  settle (suc k) = go (closed? P (after P k)) (settle k)
    where
      go : ClosedIn (In (after P k)) P ⊎ Adds P (after P k) → ClosedIn (In (after P k)) P ⊎ (k ≤ count (after P k) U) → ClosedIn (In (round P (after P k))) P ⊎ (suc k ≤ count (round P (after P k)) U)
      go (inl c) s = inl (closed_round P (after P k) c)
      go (inr r) (inl c) = inl (closed_round P (after P k) c)
      go (inr (c, m, t, q)) (inr h) = let g = count_more (after P k) (round P (after P k)) (round_keeps P (after P k)) U (heads c m) q (round_adds P (after P k) m t) in inr (omega arith)

  settled : (k : ℕ) → length U ≤ k → ClosedIn (In (after P k)) P
  unfolding ClosedIn
  settled k h c m r = go (settle k)
    where
      go : ClosedIn (In (after P k)) P ⊎ (k ≤ count (after P k) U) → after P k c.head ≡ true
      go (inl f) = f c m r
      go (inr g) = count_full (after P k) U (omega arith) (heads c m)

-- ---- what holds is the least closed set, and `holds` tests it

pub holds_closed : (P : Policy) → ClosedIn (In (holds P)) P
unfolding holds
holds_closed P = settled P (map (λ (c : Clause). c.head) P) (λ c m. map_of (λ (d : Clause). d.head) m) (length P) (omega (arith, length-map P (λ (c : Clause). c.head)))

pub holds_least : (M : ℕ → Type 0) (P : Policy) → ClosedIn M P → (a : ℕ) → holds P a ≡ true → M a
unfolding holds
holds_least M P h a e = after_least M P h (length P) a e

pub holds_tested_lem : (P : Policy) (a : ℕ) → Holds P a ↔ (holds P a ≡ true)
unfolding Holds holds
holds_tested_lem P a = (λ h. after_least (In (holds P)) P (holds_closed P) h.0 a h.1, λ h. (length P, h))

-- rounds that are closed give what holds
closed_holds : (P : Policy) (k : ℕ) → ClosedIn (In (after P k)) P → (a : ℕ) → holds P a ≡ after P k a
unfolding Holds
closed_holds P k f a = together (holds_least (In (after P k)) P f a) (λ h. (holds_tested_lem P a).0 (k, h))

-- As soon as a round adds no head, what is there is what holds.
pub stop_early : (P : Policy) (k : ℕ) → ((c : Clause) → c ∈ P → after P (suc k) c.head ≡ after P k c.head) → (a : ℕ) → holds P a ≡ after P k a
unfolding ClosedIn after
stop_early P k same a = closed_holds P k (λ c m h. sym (same c m) ∙ round_adds P (after P k) m (all_of _ c.body h)) a

-- ---- with heads below n

below : ℕ → List ℕ
below zero = []
below (suc n) = n ∷ below n

length_below : (n : ℕ) → length (below n) ≡ n
unfolding below
length_below zero = refl
length_below (suc n) = ap suc (length_below n)

mem_below : (n a : ℕ) → a < n → a ∈ below n
unfolding below
mem_below zero a h = absurd (omega arith)
mem_below (suc n) a h = go (ℕ_discrete a n) (λ k. mem_below n a k)
  where
    go : Dec (a ≡ n) → (a < n → a ∈ below n) → a ∈ (n ∷ below n)
    go (yes e) ih = Memᴰ.head e
    go (no ne) ih = Memᴰ.tail (ih (omega arith))

pub rounds_holds : (n k : ℕ) (P : Policy) → ((c : Clause) → c ∈ P → c.head < n) → n ≤ k → (a : ℕ) → holds P a ≡ after P k a
rounds_holds n k P h le a = closed_holds P k (settled P (below n) (λ c m. mem_below n c.head (h c m)) k (omega (arith, length_below n))) a

-- ---- derivable

derivable_holds : (P : Policy) {a : ℕ} → Derivable P a → holds P a ≡ true
unfolding ClosedIn
derivable_holds P (derived c m e f) = rw e (holds_closed P c m (λ b n. derivable_holds P (f b n)))

pub holds_derived_lem : (P : Policy) (a : ℕ) → Holds P a ↔ Derivable P a
unfolding ClosedIn
holds_derived_lem P a = (λ h. holds_least (Derivable P) P (λ c m f. derived c m refl f) a ((holds_tested_lem P a).0 h), λ d. (holds_tested_lem P a).1 (derivable_holds P d))
