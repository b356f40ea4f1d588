-- The theorems of specs/Former.antt, each under its name in small letters.
use mathlib.Core.Path.{◌≡◌, refl, ap}
use mathlib.Core.Bool.{Bool, true, false, not}
use mathlib.Core.List.{List}
use mathlib.Core.Option.{Option, none, some}
use Prim.Native.Nat.{ℕ, zero, suc}
use lib.ListN.{length}
use Rattle.meaning.specs.Tests.{◌is◌, agree, at, named, choose, lowest}
use Rattle.meaning.specs.Policy.{Policy}
use Rattle.meaning.specs.Formula.{read, truth}
use Rattle.meaning.specs.Papers.{Entry, Dossier, policy, visible, answer, Literal, Rule, Line, Certificate, witness, proof}
use Rattle.meaning.specs.Looks.{Value, aim}
use Rattle.meaning.specs.Rules.{not₃, value, ◌gives◌, follows, earlier, line_follows}
use Rattle.meaning.specs.Verdict.{opaque, detectable, probe_differs, secret_kept, line_fails, last_not_empty, tried, probe_agrees, last_empty, decide, judge}
use Rattle.meaning.specs.Former.{former_follows, former_judge, TrueAsBefore, asking, denying, FalseAsDenied}
use Rattle.meaning.proofs.Truth.{value_tested}

-- ---- tests that agree everywhere

lowest_same : {p q : ℕ → Bool} → ((k : ℕ) → p k ≡ q k) → (k n : ℕ) → lowest p k n ≡ lowest q k n
unfolding lowest
lowest_same h k zero = refl
lowest_same h k (suc n) = rw (h k, lowest_same h (suc k) n)

named_same : {A : Type 0} {f g : A → Bool} → ((x : A) → f x ≡ g x) → (o : Option A) → named o f ≡ named o g
unfolding named
named_same h none = refl
named_same h (some x) = h x

-- ---- rule 2 and 15 alone differ

-- e, asked of the former judge, passes rule 2 and 15 where D's own secret passes them
module _ (D : Dossier) (e : Entry) (rule2 : (ls : List Literal) → value ls D.secret.creds D.secret.formula gives aim D ≡ value ls e.creds e.formula gives true) where
  follows_same : (before : List Line) (ls : List Literal) (r : Rule) → follows D before ls r ≡ former_follows (asking D e) before ls r
  unfolding follows former_follows asking ◌is◌ choose policy answer
  follows_same before ls (Rule.probe k) = refl
  follows_same before ls Rule.secret = rule2 ls
  follows_same before ls (Rule.clause i j) = refl
  follows_same before ls (Rule.assumed j) = refl
  follows_same before ls (Rule.credential c j) = refl
  follows_same before ls (Rule.cut j i) = refl
  follows_same before ls (Rule.without c i j k) = refl
  follows_same before ls (Rule.resolve u v i j) = refl

  judge_same : ((P : Policy) → agree (answer D P D.secret) (not (aim D)) ≡ agree (answer D P e) false) → (C : Certificate) → judge D C ≡ former_judge (asking D e) C
  unfolding judge former_judge line_follows asking probe_agrees tried visible answer policy
  judge_same row15 (witness W) = ap (λ (b : Bool). decide (lowest (probe_agrees D W) 0 (length D.probes)) probe_differs b opaque secret_kept) (row15 (tried D W))
  judge_same row15 (proof lines) =
      ap (λ (x : Option ℕ). decide x line_fails (last_empty lines) detectable last_not_empty)
      (lowest_same (λ k. named_same (λ l. follows_same (earlier lines k) l.literals l.rule) (at lines k)) 0 (length lines))

pub true_as_before : TrueAsBefore
unfolding aim Value asking
true_as_before D C y = let a = (value_tested D (policy D) D.secret true).0 y in judge_same D D.secret (λ ls. rw a) (λ P. rw a) C

-- ---- what denying does

not_gives : (v : Option Bool) → v gives false ≡ not₃ v gives true
unfolding ◌gives◌ not₃ agree
not_gives none = refl
not_gives (some true) = refl
not_gives (some false) = refl

agree_not : (b : Bool) → agree b true ≡ agree (not b) false
unfolding agree
agree_not true = refl
agree_not false = refl

pub false_as_denied : FalseAsDenied
unfolding aim Value denying value answer truth read
false_as_denied D C n =
    let a = (value_tested D (policy D) D.secret false).0 n in
    judge_same D _ (λ ls. rw a (not_gives (value ls D.secret.creds D.secret.formula))) (λ P. rw a (agree_not (answer D P D.secret))) C
