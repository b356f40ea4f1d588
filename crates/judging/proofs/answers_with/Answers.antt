-- `judging::answers_with` meets its contract: 18, or the answers.
use Prim.Native.Nat.{ℕ}
use mathlib.Core.Path.{refl}
use native.Mathlib.Omega.{arith}
use lib.ListN.{length-take, replicate}
use Rattle.promise.proofs.Place.{front_things}
use Rattle.evaluation.specs.Which.{WhichFits}
use Rattle.lines.proofs.Tables.{creds_begin, probes_begin}
use Rattle.verdict.proofs.Tables.{creds_fit, probes_fit}
use Rattle.judging.proofs.Judged.{answers_short, answers_given}
use Rattle.judging.proofs.Sound.{sound_laid}
use Rattle.judging.proofs.answers_with.Goals as goal

pub returns-then-table-n : goal.returns-then-table-n
returns-then-table-n c =
    let a = c.args in
    answers_short a.d.now a.table.now a.o c.requires c.if-table-n.true c.refused.ensures

pub slice_bounds-creds-end : goal.slice_bounds-creds-end
slice_bounds-creds-end c = (sound_laid _ _ c.requires).few_creds

pub slice_bounds-starts-end : goal.slice_bounds-starts-end
slice_bounds-starts-end c = omega (arith, length-take {A = ℕ} c.args.o.ncreds (replicate 32 0), (sound_laid _ _ c.requires).few_creds)

pub slice_bounds-probes-end : goal.slice_bounds-probes-end
slice_bounds-probes-end c = (sound_laid _ _ c.requires).few

pub slice_bounds-starts-end-2 : goal.slice_bounds-starts-end-2
slice_bounds-starts-end-2 c = omega (arith, length-take {A = ℕ} c.args.o.nprobes (replicate 64 0), (sound_laid _ _ c.requires).few)

pub starts-requires : goal.starts-requires
starts-requires c =
    let a = c.args in
    let l = sound_laid a.d.now a.o c.requires in
    front_things _ _ _ _ _ _ l.few_creds (creds_fit a.d.now a.o l)

pub starts-requires-2 : goal.starts-requires-2
starts-requires-2 c =
    let a = c.args in
    let l = sound_laid a.d.now a.o c.requires in
    front_things _ _ _ _ _ _ l.few (probes_fit a.d.now a.o l)

pub invariant_of-own : goal.invariant_of-own
unfolding WhichFits
invariant_of-own c =
    let a = c.args in
    let l = sound_laid a.d.now a.o c.requires in
    record { laid = l; starts = creds_begin a.d.now a.o _ l.few_creds c.starts.ensures; witness = tt }

pub answers-requires : goal.answers-requires
answers-requires c =
    let a = c.args in
    let l = sound_laid a.d.now a.o c.requires in
    (refl, probes_begin a.d.now a.o _ l.few c.starts-2.ensures, omega (arith, c.if-table-n.false))

pub returns : goal.returns
returns c =
    let a = c.args in
    answers_given a.d.now a.table.now a.o c.requires (omega (arith, c.if-table-n.false)) c.answers.ensures
