-- The theorems of specs/Demands.antt, each under its name in small letters.
use mathlib.Core.Path.{◌≡◌, refl, sym, ap, ◌∙◌}
use mathlib.Core.List.Memᴰ
use mathlib.Core.List.{List, ◌∷◌}
use Prim.Native.Nat.{suc}
use native.Mathlib.Omega.{arith}
use Rattle.meaning.specs.Tests.{◌∈◌}
use Rattle.meaning.specs.Policy.{Policy}
use Rattle.meaning.specs.Papers.{Entry, Dossier, policy, visible, answer, Line, witness, proof}
use Rattle.meaning.specs.Looks.{aim, Detectable, Opaque}
use Rattle.meaning.specs.Verdict.{opaque, detectable, tried, WitnessAccepted, ProofAccepted}
use Rattle.meaning.specs.Extends.{Extends, WellNamed}
use Rattle.meaning.specs.Demands.{HoldsTested, HoldsDerived, RoundsEnough, FirstRounds, TruthTested, LooksLikeItself, AimMeant, DetectableTested, OpaqueTested, PolicyIsSet, LineSound, NotBoth, When, WitnessShows, Demand2, ExtensionKeeps, Demand3}
use Rattle.meaning.proofs.Tests.{not_opposite}
use Rattle.meaning.proofs.Rounds.{holds_tested_lem, holds_derived_lem, rounds_holds}
use Rattle.meaning.proofs.First.{first_rounds_lem}
use Rattle.meaning.proofs.Truth.{truth_tested_lem, value_tested, alike_tested, unlike_tested}
use Rattle.meaning.proofs.Sound.{line_sound_lem, none_denies}
use Rattle.meaning.proofs.Sets.{rounds_same, holding_same, first_same_set, answers_same}
use Rattle.meaning.proofs.Verdict.{own_visible, tried_visible, judge_exactly}
use Rattle.meaning.proofs.Extends.{extension_keeps_lem, policy_same, aim_same, answer_same, line_up}

pub holds_tested : HoldsTested
holds_tested = holds_tested_lem

pub holds_derived : HoldsDerived
holds_derived = holds_derived_lem

pub rounds_enough : RoundsEnough
rounds_enough n k P h le a =
    let e = rounds_holds n k P h le a in
    let t = holds_tested_lem P a in
    ((λ y. sym e ∙ t.0 y, λ y. t.1 (e ∙ y)), sym (rounds_holds n (suc k) P h (omega arith) a) ∙ e)

pub first_rounds : FirstRounds
first_rounds = first_rounds_lem

pub truth_tested : TruthTested
truth_tested = truth_tested_lem

pub looks_like_itself : LooksLikeItself
looks_like_itself D = record { first = own_visible D; second = own_visible D; alike = λ e m. (λ y. y, λ y. y) }

pub aim_meant : AimMeant
unfolding aim
aim_meant D = (value_tested D (policy D) D.secret _).1 refl

pub detectable_tested : DetectableTested
unfolding Detectable aim
detectable_tested D = (
  λ d Q l. (alike_tested D (policy D) Q D.secret).0 (d Q l),
  λ h Q l. (alike_tested D (policy D) Q D.secret).1 (h Q l),
)

pub opaque_tested : OpaqueTested
unfolding Opaque aim
opaque_tested D = (
  λ o. (o.0, o.1, (unlike_tested D (policy D) o.0 D.secret).0 o.2),
  λ o. (o.0, o.1, (unlike_tested D (policy D) o.0 D.secret).1 o.2),
)

pub not_both : NotBoth
unfolding Detectable Opaque
not_both D d (Q, l, v) = v (d Q l)

pub policy_is_set : PolicyIsSet
policy_is_set = record { rounds = rounds_same; holding = holding_same; first = first_same_set; answers = answers_same }

pub line_sound : LineSound
line_sound = line_sound_lem

pub demand2 : Demand2
demand2 = judge_exactly

-- ---- demand 3

pub extension_keeps : ExtensionKeeps
extension_keeps = extension_keeps_lem

every : (D : Dossier) (lines : List Line) → ProofAccepted D lines → Detectable D
unfolding Detectable When aim
every D lines h Q l =
    let (each, last) = (judge_exactly D (proof lines) detectable).0 h in
    (alike_tested D (policy D) Q D.secret).1 (not_opposite (answer D Q D.secret) (aim D) λ e. none_denies D Q l e lines each last)

pub witness_shows : WitnessShows
unfolding Opaque When
witness_shows D W h = let r = (judge_exactly D (witness W) opaque).0 h in (tried D W, r.0, r.1)

module _ (D E : Dossier) (x : Extends D E) (wn : WellNamed D) where
  proof_stays_lem : (lines : List Line) → ProofAccepted D lines → ProofAccepted E lines
  unfolding When
  proof_stays_lem lines h =
      let (each, last) = (judge_exactly D (proof lines) detectable).0 h in
      (judge_exactly E (proof lines) detectable).1 ((λ k b. line_up D E x wn lines k (each k b)), last)

  module _ (marks : E.clauses ≡ D.clauses) (W : Policy) where
    tried_same : tried E W ≡ tried D W
    unfolding tried visible
    tried_same = rw marks

    -- an entry of D has in the policy tried for E the answer that it has in the one tried for D
    entry_same : (e : Entry) → e ∈ (D.secret ∷ D.probes) → answer E (tried E W) e ≡ answer D (tried D W) e
    entry_same e m = rw tried_same (answer_same D E x wn (tried D W) e m)

    witness_stays_lem : WitnessAccepted E W → WitnessAccepted D W
    unfolding When aim
    witness_stays_lem h =
        let (l, v) = (judge_exactly E (witness W) opaque).0 h in
        (judge_exactly D (witness W) opaque).1 (
          record {
            first = own_visible D;
            second = tried_visible D W;
            alike = λ e m. (alike_tested D (policy D) (tried D W) e).1 (
                sym (entry_same e (Memᴰ.tail m))
                ∙ (alike_tested E (policy E) (tried E W) e).0 (l.alike e (rw x.probes (Memᴰ.append_left x.new_probes m)))
                ∙ (rw (policy_same D E x) (answer_same D E x wn (policy D) e (Memᴰ.tail m)))
                );
          },
          λ y. v ((alike_tested E (policy E) (tried E W) E.secret).1 (
              ap (answer E (tried E W)) x.secret
              ∙ entry_same D.secret (Memᴰ.head refl)
              ∙ (alike_tested D (policy D) (tried D W) D.secret).0 y
              ∙ sym (aim_same D E x wn)
              )),
        )

pub demand3 : Demand3
demand3 =
    record {
      every = every;
      proof_stays = proof_stays_lem;
      no_witness = λ D E x wn lines h W w. not_both E (every E lines (proof_stays_lem D E x wn lines h)) (witness_shows E W w);
      witness_stays = witness_stays_lem;
    }
