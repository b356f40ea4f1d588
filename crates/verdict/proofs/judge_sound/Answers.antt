-- `verdict::judge_sound` meets its contract: it fills the tables and asks for the proposal.
use mathlib.Core.Path.{refl}
use Rattle.promise.proofs.Place.{front_things}
use Rattle.evaluation.specs.Which.{WhichFits}
use Rattle.lines.proofs.Tables.{creds_begin, probes_begin}
use Rattle.verdict.proofs.Tables.{creds_fit, probes_fit, told_filled, own_aim, witness_there, proof_there, witness_judged, proof_judged}
use Rattle.verdict.proofs.judge_sound.Goals as goal

pub starts-requires : goal.starts-requires
starts-requires c =
    let laid = c.requires.0 in
    front_things _ _ _ _ _ _ laid.few_creds (creds_fit _ _ laid)

pub starts-requires-2 : goal.starts-requires-2
starts-requires-2 c =
    let laid = c.requires.0 in
    front_things _ _ _ _ _ _ laid.few (probes_fit _ _ laid)

pub invariant_of-own : goal.invariant_of-own
unfolding WhichFits
invariant_of-own c =
    let a = c.args in
    let laid = c.requires.0 in
    record { laid = laid; starts = creds_begin a.d.now a.o _ laid.few_creds c.starts.ensures; witness = tt }

pub own_answers-goal-requires : goal.own_answers-goal-requires
own_answers-goal-requires c =
    let a = c.args in
    let laid = c.requires.0 in
    (refl, probes_begin a.d.now a.o _ laid.few c.starts-2.ensures, laid.few)

pub invariant_of-tried : goal.invariant_of-tried
unfolding WhichFits
invariant_of-tried c =
    let a = c.args in
    let laid = c.requires.0 in
    record { laid = laid; starts = creds_begin a.d.now a.o _ laid.few_creds c.starts.ensures; witness = witness_there a.o.atoms a.c.now c.in-Witness.is c.requires.1 }

pub judge_witness-requires : goal.judge_witness-requires
judge_witness-requires c =
    let a = c.args in
    let laid = c.requires.0 in (
      record {
        tried = refl;
        probes_at = probes_begin a.d.now a.o _ laid.few c.starts-2.ensures;
        answers = told_filled a.d.now a.o _ c.own_answers-goal.ensures.0 laid.few;
        aimed = own_aim a.d.now a.o _ c.own_answers-goal.ensures.1;
      },
      c.requires.2,
    )

pub judge_lines-requires : goal.judge_lines-requires
judge_lines-requires c =
    let a = c.args in
    let laid = c.requires.0 in
    let t = proof_there a.o.atoms a.c.now c.in-Proof.is c.requires.1 in
    (probes_begin a.d.now a.o _ laid.few c.starts-2.ensures, told_filled a.d.now a.o _ c.own_answers-goal.ensures.0 laid.few, own_aim a.d.now a.o _ c.own_answers-goal.ensures.1, t.0, t.1, t.2)

pub returns-in-Witness : goal.returns-in-Witness
returns-in-Witness c =
    let a = c.args in
    witness_judged a.d.now a.o a.c.now c.in-Witness.is c.judge_witness.ensures

pub returns-in-Proof : goal.returns-in-Proof
returns-in-Proof c =
    let a = c.args in
    proof_judged a.d.now a.o a.c.now c.in-Proof.is c.judge_lines.ensures refl
