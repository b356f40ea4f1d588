-- The test of a formula's truth is right; an answer is its Bool; what the joined policy has.
use mathlib.Core.Path.{◌≡◌, refl, sym, ap, ◌∙◌, subst}
use mathlib.Core.Bool.{Bool, true, false, not, false≢true, not-not}
use mathlib.Core.List.Memᴰ
use mathlib.Core.List.{List, [], ◌∷◌, ◌++◌, map}
use mathlib.Core.Option.{Option, none, some}
use mathlib.Core.Logic.{◌⊎◌, inl, inr, ◌↔◌}
use Prim.Native.Nat.{ℕ}
use Rattle.meaning.specs.Tests.{◌∈◌, ◌and◌, ◌or◌, at}
use Rattle.meaning.specs.Policy.{Clause, Policy, fact}
use Rattle.meaning.specs.Formula.{Formula, always, atom, neg, conj, disj, read, pick, chosen, joined, Given, given, Truth, truth}
use Rattle.meaning.specs.Papers.{Entry, Dossier, Yes, answer}
use Rattle.meaning.specs.Looks.{Value}
use Rattle.meaning.proofs.Tests.{clash, not_self, not_opposite, together, and_both, and_of, or_cases, or_left, or_right, map_of, map_at}
use Rattle.meaning.proofs.Rounds.{ClosedIn, holds_tested_lem}

-- ---- the test of truth

-- b tests A
abbrev Tests : Bool → Type 0 → Type 0
Tests b A = A ↔ (b ≡ true)

tests_not : (b : Bool) {A : Type 0} → Tests b A → Tests (not b) (A → ⊥)
tests_not true t = (λ h. absurd (h (t.1 refl)), λ h. absurd (false≢true h))
tests_not false t = (λ h. refl, λ h a. false≢true (t.0 a))

tests_and : {a b : Bool} {A B : Type 0} → Tests a A → Tests b B → Tests (a and b) (A × B)
tests_and s t = (λ m. and_of (s.0 m.0) (t.0 m.1), λ h. let q = and_both h in (s.1 q.0, t.1 q.1))

tests_or : {a b : Bool} {A B : Type 0} → Tests a A → Tests b B → Tests (a or b) (A ⊎ B)
tests_or {a} {b} {A} {B} s t = (to, λ h. from (or_cases h))
  where
    to : A ⊎ B → a or b ≡ true
    to (inl m) = or_left _ (s.0 m)
    to (inr m) = or_right _ (t.0 m)

    from : (a ≡ true) ⊎ (b ≡ true) → A ⊎ B
    from (inl e) = inl (s.1 e)
    from (inr e) = inr (t.1 e)

pub truth_tested_lem : (cs : List Clause) (P : Policy) (S : List ℕ) (f : Formula) → Truth cs P S f ↔ (truth cs P S f ≡ true)
unfolding Truth truth read Given given
truth_tested_lem cs P S always = (λ _. refl, λ _. tt)
truth_tested_lem cs P S (atom a) = holds_tested_lem (joined cs P S []) a
truth_tested_lem cs P S (neg f) = tests_not _ (truth_tested_lem cs P S f)
truth_tested_lem cs P S (conj f g) = tests_and (truth_tested_lem cs P S f) (truth_tested_lem cs P S g)
truth_tested_lem cs P S (disj f g) = tests_or (truth_tested_lem cs P S f) (truth_tested_lem cs P S g)

-- ---- answers

-- what b tests has the value that b is
pub value_test : {A : Type 0} {b : Bool} → Tests b A → (v : Bool) → Value v A ↔ (b ≡ v)
unfolding Value
value_test t true = t
value_test t false = (λ h. sym (together (λ z. absurd (false≢true z)) (λ z. absurd (h (t.1 z)))), λ h y. clash (t.0 y) h)

module _ (D : Dossier) where
  pub yes_tested : (P : Policy) (e : Entry) → Yes D P e ↔ (answer D P e ≡ true)
  unfolding Yes answer
  yes_tested P e = truth_tested_lem D.creds P e.creds e.formula

  pub value_tested : (P : Policy) (e : Entry) (b : Bool) → Value b (Yes D P e) ↔ (answer D P e ≡ b)
  value_tested P e = value_test (yes_tested P e)

  pub alike_tested : (P Q : Policy) (e : Entry) → (Yes D P e ↔ Yes D Q e) ↔ (answer D Q e ≡ answer D P e)
  alike_tested P Q e = (
    λ h. together (λ z. (yes_tested P e).0 (h.1 ((yes_tested Q e).1 z))) (λ z. (yes_tested Q e).0 (h.0 ((yes_tested P e).1 z))),
    λ h. (λ y. (yes_tested Q e).1 (h ∙ (yes_tested P e).0 y), λ y. (yes_tested P e).1 (sym h ∙ (yes_tested Q e).0 y)),
  )

  pub unlike_tested : (P Q : Policy) (e : Entry) → ((Yes D P e ↔ Yes D Q e) → ⊥) ↔ (answer D Q e ≡ not (answer D P e))
  unlike_tested P Q e = (
    λ f. not_opposite _ _ λ h. f ((alike_tested P Q e).1 (h ∙ not-not (answer D P e))),
    λ h y. not_self (answer D P e) (sym ((alike_tested P Q e).0 y) ∙ h),
  )

-- ---- the joined policy

pub chosen_at : (cs : List Clause) (S : List ℕ) {d : Clause} → d ∈ chosen cs S → (i : ℕ) × i ∈ S × (at cs i ≡ some d)
unfolding chosen pick
chosen_at cs [] m = absurd (Memᴰ.not-nil m)
chosen_at cs (i ∷ S) {d} m = go (at cs i) refl m (λ k. chosen_at cs S k)
  where
    go : (o : Option Clause) → at cs i ≡ o → d ∈ pick o (chosen cs S) → (d ∈ chosen cs S → (j : ℕ) × j ∈ S × (at cs j ≡ some d)) → (j : ℕ) × j ∈ (i ∷ S) × (at cs j ≡ some d)
    go none e n ih = let r = ih n in (r.0, Memᴰ.tail r.1, r.2)
    go (some c) e (Memᴰ.head q) ih = (i, Memᴰ.head refl, e ∙ ap {B = Option Clause} some (sym q))
    go (some c) e (Memᴰ.tail n) ih = let r = ih n in (r.0, Memᴰ.tail r.1, r.2)

chosen_of : (cs : List Clause) (S : List ℕ) {d : Clause} {i : ℕ} → i ∈ S → at cs i ≡ some d → d ∈ chosen cs S
unfolding chosen pick
chosen_of cs [] m h = elim m [ ]
chosen_of cs (j ∷ S) (Memᴰ.head e) h = rw (← e) (rw h (Memᴰ.head refl))
chosen_of cs (j ∷ S) {d} (Memᴰ.tail m) h = there (at cs j) (chosen_of cs S m h)
  where
    there : (o : Option Clause) → d ∈ chosen cs S → d ∈ pick o (chosen cs S)
    there none n = n
    there (some c) n = Memᴰ.tail n

module _ (cs : List Clause) (P : Policy) (S X : List ℕ) where
  pub joined_policy : {c : Clause} → c ∈ P → c ∈ joined cs P S X
  unfolding joined
  joined_policy m = Memᴰ.append_left (chosen cs S ++ map fact X) m

  pub joined_cred : {i : ℕ} {c : Clause} → i ∈ S → at cs i ≡ some c → c ∈ joined cs P S X
  unfolding joined
  joined_cred m e = Memᴰ.append_right P (Memᴰ.append_left (map fact X) (chosen_of cs S m e))

  pub joined_fact : {x : ℕ} → x ∈ X → fact x ∈ joined cs P S X
  unfolding joined
  joined_fact m = Memᴰ.append_right P (Memᴰ.append_right (chosen cs S) (map_of fact m))

  -- what is closed under the policy, the credentials and the facts is closed under their join
  pub joined_closed : (M : ℕ → Type 0) → ClosedIn M P → ((i : ℕ) (d : Clause) → i ∈ S → at cs i ≡ some d → ((b : ℕ) → b ∈ d.body → M b) → M d.head) → ((x : ℕ) → x ∈ X → M x) → ClosedIn M (joined cs P S X)
  unfolding joined ClosedIn
  joined_closed M p q r c m f = go (Memᴰ.append_cases P m)
    where
      last : c ∈ chosen cs S ⊎ c ∈ map fact X → M c.head
      last (inl n) = let k = chosen_at cs S n in q k.0 c k.1 k.2 f
      last (inr n) = let k = map_at fact X n in subst (λ (d : Clause). M d.head) (sym k.2) (r k.0 k.1)

      go : c ∈ P ⊎ c ∈ (chosen cs S ++ map fact X) → M c.head
      go (inl n) = p c n f
      go (inr n) = last (Memᴰ.append_cases (chosen cs S) n)
