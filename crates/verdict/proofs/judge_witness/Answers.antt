-- `verdict::judge_witness` meets its contract.
use native.Mathlib.Omega.{arith}
use borrow.Author.Rules.{scaled_Fits}
use Rattle.evaluation.proofs.Entry.{probe_there}
use Rattle.verdict.proofs.Outcome.{probe_below, witness_differs, witness_alike}
use Rattle.verdict.proofs.Papers.{entry_ends}
use Rattle.verdict.proofs.judge_witness.Goals as goal

pub offset_bounds-answered-j : goal.offset_bounds-answered-j
offset_bounds-answered-j c =
    let D = c.tried.inside in
    let first = rw (← c.tried.view_is) at c.first_differing.ensures in
    let h = probe_below D.words.now D.layout D.witness.now c.args.count first.0 c.in-Some.is in
    scaled_Fits _ 64 8 (omega (arith, c.tried.invariant.laid.few)) (omega arith)

pub bounds-answered-j : goal.bounds-answered-j
bounds-answered-j c =
    let D = c.tried.inside in
    let on = rw (← c.tried.view_is) at c.requires.0 in
    let first = rw (← c.tried.view_is) at c.first_differing.ensures in
    omega (arith, on.probes_at.long, probe_below D.words.now D.layout D.witness.now c.args.count first.0 c.in-Some.is)

pub refusing-requires : goal.refusing-requires
refusing-requires c =
    let D = c.tried.inside in
    let on = rw (← c.tried.view_is) at c.requires.0 in
    let first = rw (← c.tried.view_is) at c.first_differing.ensures in
    ((probe_there c.tried.invariant on.probes_at _ (probe_below D.words.now D.layout D.witness.now c.args.count first.0 c.in-Some.is)).ends, entry_ends _ _)

pub returns-in-Some : goal.returns-in-Some
returns-in-Some c =
    let D = c.tried.inside in
    let a = c.args in
    let on = rw (← c.tried.view_is) at c.requires.0 in
    let first = rw (← c.tried.view_is) at c.first_differing.ensures in
    rw (← c.tried.view_is) (witness_differs D.words.now D.layout D.witness.now a.count first.0 a.answered.now.probes.now on.probes_at c.in-Some.is c.refusing.ensures first.1)

pub returns-in-None : goal.returns-in-None
returns-in-None c =
    let a = c.args in
    witness_alike a.tried.now.words a.tried.now.layout a.tried.now.witness a.count c.first_differing.ensures.0 c.in-None.is c.first_differing.ensures.1 c.judge_secret.ensures
