-- A policy is a set: neither order nor repetition of its clauses matters, nor of a body's atoms.
use mathlib.Core.Path.{◌≡◌, refl, sym, ap, ap₂, ◌∙◌}
use mathlib.Core.Bool.{Bool, not}
use mathlib.Core.List.Memᴰ
use mathlib.Core.List.{List, [], ◌++◌, map}
use mathlib.Core.Logic.{◌⊎◌, inl, inr, ◌↔◌}
use Prim.Native.Nat.{ℕ, zero, suc}
use Rattle.meaning.specs.Tests.{◌∈◌, ◌and◌, ◌or◌}
use Rattle.meaning.specs.Policy.{Clause, Policy, fact, round, after, Holds, first_round}
use Rattle.meaning.specs.Formula.{Formula, always, atom, neg, conj, disj, read, chosen, joined, given, truth}
use Rattle.meaning.specs.Papers.{Entry, Dossier, answer}
use Rattle.meaning.specs.Looks.{Has, Alike}
use Rattle.meaning.specs.Demands.{SameSet}
use Rattle.meaning.proofs.Tests.{together, all_of}
use Rattle.meaning.proofs.Rounds.{In, round_keeps, round_adds, round_least, holds_tested_lem}
use Rattle.meaning.proofs.First.{first_rounds_lem}
use Rattle.meaning.proofs.Truth.{alike_tested}
use Rattle.meaning.proofs.Sound.{has_own, has_joined}

turned : {P Q : Policy} → SameSet P Q → SameSet Q P
turned s = record { there = s.back; back = s.there }

-- ---- the rounds

-- what a round of P adds to X, one of Q adds to what has X
round_in_lem : (P Q : Policy) (X Y : ℕ → Bool) → ((c : Clause) → c ∈ P → Has Q c) → ((a : ℕ) → In X a → In Y a) → (a : ℕ) → In (round P X) a → In (round Q Y) a
round_in_lem P Q X Y has more = round_least P X (In (round Q Y)) (λ a h. round_keeps Q Y a (more a h)) λ c m f.
    let h = has c m in
    rw (← h.head) (round_adds Q Y h.there (all_of Y _ λ b n. more b (f b ((h.body b).0 n))))

after_in : (P Q : Policy) → ((c : Clause) → c ∈ P → Has Q c) → (k a : ℕ) → In (after P k) a → In (after Q k) a
unfolding after
after_in P Q has zero a h = h
after_in P Q has (suc k) a h = round_in_lem P Q (after P k) (after Q k) has (after_in P Q has k) a h

pub rounds_same : (P Q : Policy) → SameSet P Q → (k a : ℕ) → after P k a ≡ after Q k a
rounds_same P Q s k a = together (after_in P Q s.there k a) (after_in Q P s.back k a)

pub holding_same : (P Q : Policy) → SameSet P Q → (a : ℕ) → Holds P a ↔ Holds Q a
unfolding Holds
holding_same P Q s a = (λ h. (h.0, after_in P Q s.there h.0 a h.1), λ h. (h.0, after_in Q P s.back h.0 a h.1))

first_in : (P Q : Policy) → SameSet P Q → (a k : ℕ) → first_round P a ≡ suc k → first_round Q a ≡ suc k
first_in P Q s a k e =
    let l = (first_rounds_lem.least P a k).0 e in
    (first_rounds_lem.least Q a k).1 (record { here = after_in P Q s.there (suc k) a l.here; below = λ j h t. l.below j h (after_in Q P s.back j a t) })

pub first_same_set : (P Q : Policy) → SameSet P Q → (a : ℕ) → first_round P a ≡ first_round Q a
first_same_set P Q s a = go (first_round P a) (first_round Q a) refl refl
  where
    go : (m n : ℕ) → first_round P a ≡ m → first_round Q a ≡ n → m ≡ n
    go zero zero e f = refl
    go zero (suc k) e f = sym e ∙ first_in Q P (turned s) a k f
    go (suc k) n e f = sym (first_in P Q s a k e) ∙ f

-- ---- the answers

-- given the same credentials and atoms they are sets of the same clauses
joined_in : (cs : List Clause) (P Q : Policy) (S X : List ℕ) → ((c : Clause) → c ∈ P → Has Q c) → (c : Clause) → c ∈ joined cs P S X → Has (joined cs Q S X) c
unfolding joined
joined_in cs P Q S X has c m = go (Memᴰ.append_cases P m)
  where
    go : c ∈ P ⊎ c ∈ (chosen cs S ++ map fact X) → Has (joined cs Q S X) c
    go (inl n) = has_joined cs Q S X (has c n)
    go (inr n) = has_own (Memᴰ.append_right Q n)

given_same : (cs : List Clause) (P Q : Policy) (S X : List ℕ) → SameSet P Q → (a : ℕ) → given cs P S X a ≡ given cs Q S X a
unfolding given
given_same cs P Q S X s a =
    let j = holding_same (joined cs P S X) (joined cs Q S X) (record { there = joined_in cs P Q S X s.there; back = joined_in cs Q P S X s.back }) a in
    together (λ h. (holds_tested_lem _ a).0 (j.0 ((holds_tested_lem _ a).1 h))) (λ h. (holds_tested_lem _ a).0 (j.1 ((holds_tested_lem _ a).1 h)))

truth_same : (cs : List Clause) (P Q : Policy) (S : List ℕ) → SameSet P Q → (f : Formula) → truth cs P S f ≡ truth cs Q S f
unfolding truth read
truth_same cs P Q S s always = refl
truth_same cs P Q S s (atom a) = given_same cs P Q S [] s a
truth_same cs P Q S s (neg f) = ap not (truth_same cs P Q S s f)
truth_same cs P Q S s (conj f g) = ap₂ ◌and◌ (truth_same cs P Q S s f) (truth_same cs P Q S s g)
truth_same cs P Q S s (disj f g) = ap₂ ◌or◌ (truth_same cs P Q S s f) (truth_same cs P Q S s g)

pub answers_same : (D : Dossier) (P Q : Policy) → SameSet P Q → (e : Entry) → Alike D e P Q
unfolding answer
answers_same D P Q s e = (alike_tested D P Q e).1 (sym (truth_same D.creds P Q e.creds s e.formula))
