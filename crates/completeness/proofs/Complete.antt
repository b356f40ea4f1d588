-- The theorems of specs/Complete.antt, each under its name in small letters; and `seven_enough` of specs/Needed.antt.
use mathlib.Core.Logic.{◌⊎◌, ⊎_elim, ⊎_map}
use Rattle.meaning.specs.Papers.{Dossier, Line, proof}
use Rattle.meaning.specs.Looks.{Detectable, Opaque}
use Rattle.meaning.specs.Verdict.{detectable}
use Rattle.meaning.specs.Demands.{When}
use Rattle.meaning.proofs.Verdict.{judge_exactly}
use Rattle.meaning.proofs.Demands.{not_both, witness_shows, demand3}
use Rattle.completeness.specs.Form.{WellFormed}
use Rattle.completeness.specs.Complete.{ProofBy, SomeWitness, DetectableExactly, OpaqueExactly, Decided, ElseOpaque}
use Rattle.completeness.specs.Needed.{Narrow, SevenEnough}
use Rattle.completeness.proofs.Tree.{proved}
use Rattle.completeness.proofs.Statements.{statements, statement_form}
use Rattle.completeness.proofs.Leaf.{follows_or_witness}

module _ (D : Dossier) (wf : WellFormed D) where
  -- there is a certificate
  certificate : ProofBy D (Narrow D) ⊎ SomeWitness D
  unfolding When
  certificate = ⊎_map (λ (lines, good, last). (
    lines,
    (judge_exactly D (proof lines) detectable).1 (good.each, last),
    λ l m. record {
      form = record { each = λ x n. (statement_form D wf ((good.over l m).inside x n)).0; once = (good.over l m).once };
      rule = good.rules l m;
      plain = λ x n. (statement_form D wf ((good.over l m).inside x n)).1;
    },
  )) (λ w. w) (proved D (statements D) (SomeWitness D) (follows_or_witness D wf))

  shows : {So : Line → Type 0} → ProofBy D So → Detectable D
  shows p = demand3.every D p.0 p.1

  hides : SomeWitness D → Opaque D
  hides w = witness_shows D w.0 w.1

pub seven_enough : SevenEnough
seven_enough D wf d = ⊎_elim (λ p. p) (λ w. absurd (not_both D d (hides D wf w))) (certificate D wf)

pub detectable_exactly : DetectableExactly
detectable_exactly D wf = (λ d. let (lines, accepted, narrow) = seven_enough D wf d in (lines, accepted, λ l m. (narrow l m).form), shows D wf)

pub opaque_exactly : OpaqueExactly
opaque_exactly D wf = (λ o. ⊎_elim (λ p. absurd (not_both D (shows D wf p) o)) (λ w. w) (certificate D wf), hides D wf)

pub decided : Decided
decided D wf = ⊎_map (shows D wf) (hides D wf) (certificate D wf)

pub else_opaque : ElseOpaque
else_opaque D wf = (λ n. ⊎_elim (λ d. absurd (n d)) (λ o. o) (decided D wf), λ o d. not_both D d o)
