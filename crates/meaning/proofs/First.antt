-- The number of the round that first adds an atom.
use mathlib.Core.Path.{◌≡◌, refl, sym, ◌∙◌}
use mathlib.Core.Bool.{true, false, not, false≢true}
use mathlib.Core.List.Memᴰ
use mathlib.Core.Option.{Option, none, some}
use mathlib.Core.Logic.{◌⊎◌, inl, inr, ◌↔◌}
use Prim.Native.Nat.{ℕ, zero, suc, ◌+◌, ◌≤◌, ◌<◌}
use native.Mathlib.Omega.{arith}
use native.Mathlib.Decide.{dec_lt}
use lib.ListN.{length}
use borrow.Author.Tests.{not-false}
use Rattle.meaning.specs.Tests.{◌∈◌, lowest}
use Rattle.meaning.specs.Policy.{Clause, Policy, round, after, Holds, holds, or_zero, first_of, first_round}
use Rattle.meaning.specs.Demands.{Lowest, FirstAdds, FirstRounds}
use Rattle.meaning.proofs.Tests.{cases, clash, not_true, not_opposite, all_of, Found, lowest_found}
use Rattle.meaning.proofs.Rounds.{round_keeps, round_adds, round_least, holds_tested_lem, rounds_holds}

-- what is there stays
pub after_more : (P : Policy) (a j k : ℕ) → j ≤ k → after P j a ≡ true → after P k a ≡ true
unfolding after
after_more P a j zero h e = let z : j ≡ 0 = omega arith in rw z at e
after_more P a j (suc k) h e = go (dec_lt k j) (λ l. after_more P a j k l e)
  where
    go : Dec (k < j) → (j ≤ k → after P k a ≡ true) → round P (after P k) a ≡ true
    go (yes l) ih = let z : j ≡ suc k = omega arith in rw z at e
    go (no l) ih = round_keeps P (after P k) a (ih (omega arith))

-- r is the least of the first k rounds that has a, or 0 where none of them has it
unfoldable First : Policy → ℕ → ℕ → ℕ → Type 0
First P a k r = ((r ≡ 0) × (after P k a ≡ false)) ⊎ (Lowest (λ j. after P j a ≡ true) r × (r ≤ k))

module _ (P : Policy) (a : ℕ) where
  none_there : (k : ℕ) → ((j : ℕ) → 1 ≤ j → j < 1 + k → not (after P j a) ≡ true) → after P k a ≡ false
  unfolding after
  none_there zero f = refl
  none_there (suc k) f = not_true _ (f (suc k) (omega arith) (omega arith))

  none_below : (i : ℕ) → ((j : ℕ) → 1 ≤ j → j < i → not (after P j a) ≡ true) → (j : ℕ) → j < i → after P j a ≡ true → ⊥
  unfolding after
  none_below i f zero h e = false≢true e
  none_below i f (suc j) h e = clash e (not_true _ (f (suc j) (omega arith) h))

  first_is : (k : ℕ) → First P a k (first_of P k a)
  unfolding first_of First Found or_zero
  first_is k = go (lowest (λ j. not (after P j a)) 1 k) (lowest_found _ 1 k)
    where
      go : (o : Option ℕ) → Found (λ j. not (after P j a)) 1 k o → First P a k (or_zero o)
      go none f = inl (refl, none_there k f)
      go (some i) f = inr (record { here = not-false _ f.2; below = none_below i f.3 }, omega (arith, f.1))

  first_once : (k r s : ℕ) → First P a k r → First P a k s → r ≡ s
  unfolding First
  first_once k r s (inl x) (inl y) = x.0 ∙ sym y.0
  first_once k r s (inl x) (inr y) = clash (after_more P a s k y.1 y.0.here) x.1
  first_once k r s (inr x) (inl y) = clash (after_more P a r k x.1 x.0.here) y.1
  first_once k r s (inr x) (inr y) = go (dec_lt r s) (dec_lt s r)
    where
      go : Dec (r < s) → Dec (s < r) → r ≡ s
      go (yes h) e = absurd (y.0.below r h x.0.here)
      go (no h) (yes e) = absurd (x.0.below s e y.0.here)
      go (no h) (no e) = omega arith

  first_of_lem : (k r : ℕ) → First P a k r → first_of P k a ≡ r
  first_of_lem k r h = first_once k _ r (first_is k) h

  -- ---- from one round to the next

  pub first_none : (k : ℕ) → after P k a ≡ false → first_of P k a ≡ 0
  unfolding First
  first_none k h = first_of_lem k 0 (inl (refl, h))

  pub first_new : (k : ℕ) → after P k a ≡ false → after P (suc k) a ≡ true → first_of P (suc k) a ≡ suc k
  unfolding First
  first_new k h e = first_of_lem (suc k) (suc k) (inr (record { here = e; below = λ j l t. clash (after_more P a j k (omega arith) t) h }, omega arith))

  -- where as many are there after m rounds as after k, the number is the same
  pub first_same : (k m : ℕ) → after P k a ≡ after P m a → first_of P k a ≡ first_of P m a
  unfolding First
  first_same k m e = sym (first_of_lem m _ (go (first_is k)))
    where
      go : First P a k (first_of P k a) → First P a m (first_of P k a)
      go (inl x) = inl (x.0, sym e ∙ x.1)
      go (inr x) = inr (x.0, stays (dec_lt m (first_of P k a)))
        where
          stays : Dec (m < first_of P k a) → first_of P k a ≤ m
          stays (yes h) = absurd (x.0.below m h (sym e ∙ after_more P a _ k x.1 x.0.here))
          stays (no h) = omega arith

  pub first_there : (k : ℕ) → after P k a ≡ true → (1 ≤ first_of P k a) × (first_of P k a ≤ k)
  unfolding First after
  first_there k h = go (first_of P k a) (first_is k)
    where
      go : (r : ℕ) → First P a k r → (1 ≤ r) × (r ≤ k)
      go r (inl x) = clash h x.1
      go zero (inr x) = absurd (false≢true x.0.here)
      go (suc r) (inr x) = (omega arith, x.1)

  first_most : (k : ℕ) → first_of P k a ≤ k
  first_most k = go (cases (after P k a))
    where
      go : (after P k a ≡ true) ⊎ (after P k a ≡ false) → first_of P k a ≤ k
      go (inl h) = (first_there k h).1
      go (inr h) = omega (arith, first_none k h)

  -- ---- of all rounds

  -- as many rounds as give what holds
  pub first_round_lem : (k : ℕ) → holds P a ≡ after P k a → first_round P a ≡ first_of P k a
  unfolding first_round holds
  first_round_lem k e = first_same (length P) k e

  -- a round that has it, and one that has it not
  first_by : (k : ℕ) → after P k a ≡ true → first_round P a ≡ first_of P k a
  unfolding Holds
  first_by k h = first_round_lem k ((holds_tested_lem P a).0 (k, h) ∙ sym h)

  least_at : (k : ℕ) → (first_round P a ≡ suc k) ↔ Lowest (λ j. after P j a ≡ true) (suc k)
  unfolding First first_round
  least_at k = (
    λ e. go (rw e at (first_is (length P))),
    λ l. first_by (suc k) l.here ∙ first_of_lem (suc k) (suc k) (inr (l, omega arith)),
  )
    where
      go : First P a (length P) (suc k) → Lowest (λ j. after P j a ≡ true) (suc k)
      go (inl x) = absurd (let z = x.0 in omega arith)
      go (inr x) = x.0

  holding_at : Holds P a ↔ (first_round P a ≡ 0 → ⊥)
  unfolding Holds holds first_round
  holding_at = (
    λ h z. let t = (first_there (length P) ((holds_tested_lem P a).0 h)).0 in omega arith,
    λ f. (holds_tested_lem P a).1 (not_opposite _ true (λ e. f (first_none (length P) e))),
  )

-- ---- clauses

module _ (P : Policy) (c : Clause) (k : ℕ) (f : FirstAdds P c k) where
  head_first : first_round P c.head ≡ suc k
  unfolding after
  head_first =
      let e = round_adds P (after P k) f.there (all_of _ c.body f.body) in
      first_by P c.head (suc k) e ∙ first_new P c.head k f.head e

  body_before : (b : ℕ) → b ∈ c.body → (1 ≤ first_round P b) × (first_round P b < suc k)
  body_before b m =
      let t = first_there P b k (f.body b m) in
      let e = first_by P b k (f.body b m) in
      (omega (arith, t.0), omega (arith, t.1))

adding : (P : Policy) (a k : ℕ) → Lowest (λ j. after P j a ≡ true) (suc k) → (c : Clause) × (c.head ≡ a) × FirstAdds P c k
unfolding after
adding P a k l = go (cases (after P k a))
  where
    go : (after P k a ≡ true) ⊎ (after P k a ≡ false) → (c : Clause) × (c.head ≡ a) × FirstAdds P c k
    go (inl h) = absurd (l.below k (omega arith) h)
    go (inr h) = round_least P (after P k) (λ x. after P k x ≡ false → (c : Clause) × (c.head ≡ x) × FirstAdds P c k) (λ x t n. clash t n) (λ c m g n. (c, refl, record { there = m; body = g; head = n })) a l.here h

pub first_rounds_lem : FirstRounds
unfolding after
first_rounds_lem =
    record {
      least = least_at;
      holding = holding_at;
      facts = λ P c m e. head_first P c 0 (record { there = m; body = λ b n. absurd (Memᴰ.not-nil (rw e at n)); head = refl });
      limit = λ n P h a. let e = first_round_lem P a n (rounds_holds n n P h (omega arith) a) in omega (arith, first_most P a n);
      before = λ P c k f. (head_first P c k f, body_before P c k f);
      added = λ P a k e. adding P a k ((least_at P a k).0 e);
    }
