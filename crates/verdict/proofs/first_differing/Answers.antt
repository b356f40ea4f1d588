-- `first_differing` meets its contract: each turn compares one probe's answer, by what holds there.
use Prim.Native.Nat.{ℕ}
use mathlib.Core.Path.{refl, sym, ap, ap₂, ◌∙◌}
use native.Mathlib.Omega.{arith}
use Rattle.meaning.specs.Verdict.{probe_agrees}
use Rattle.promise.specs.Clause.{credential}
use Rattle.promise.specs.Layout.{dossier_at}
use Rattle.promise.specs.Place.{many, filled}
use Rattle.evaluation.specs.Answer.{round_of}
use Rattle.evaluation.specs.declared.Kept.{Kept}
use Rattle.evaluation.specs.declared.Which.{Which}
use Rattle.evaluation.proofs.Entry.{probe_there, probe_reads, probe_rounds, kept_none, kept_some}
use Rattle.lines.specs.Supposing.{untold}
use Rattle.verdict.specs.Trial.{rounds_there}
use Rattle.verdict.proofs.Lowest.{from_start, from_next, from_fault, from_end}
use Rattle.verdict.proofs.Papers.{probe_judged}
use Rattle.verdict.proofs.first_differing.Goals as goal

pub loop-i-init : goal.loop-i-init
loop-i-init c =
    let P = c.args.tried.now in
    (from_start (probe_agrees (dossier_at P.words P.layout) (many (credential P.layout.atoms) P.witness 2 c.args.count)) P.layout.nprobes, kept_none _, refl)

pub known-known-requires : goal.known-known-requires
known-known-requires c =
    let on = rw (← c.tried.view_is) at c.requires.0 in
    let there = probe_there c.tried.invariant on.probes_at c.loop-i.i (omega arith) in
    (c.loop-i.invariant.1, rw (← c.tried.view_is) there)

pub probe_agrees-requires : goal.probe_agrees-requires
probe_agrees-requires c =
    let on = rw (← c.tried.view_is) at c.requires.0 in
    let found = ap (λ (k : Kept). k.table) (rw (← c.tried.view_is) at c.known-known.ensures) in
    let reads = probe_reads c.tried.invariant on.probes_at c.loop-i.i (omega arith) found in
    (omega (arith, on.answers.long), reads.0, reads.1)

pub returns-then-not-probe_agrees : goal.returns-then-not-probe_agrees
unfolding rounds_there
returns-then-not-probe_agrees c =
    let D = c.tried.inside in
    let i = c.loop-i.i in
    let on = rw (← c.tried.view_is) at c.requires.0 in
    let before = rw (← c.tried.view_is) at c.loop-i.invariant in
    let kept = rw (← c.tried.view_is) at c.known-known.ensures in
    let found = ap (λ (k : Kept). k.table) kept in
    let same = probe_judged c.tried.invariant on.probes_at on.answers on.tried i (omega arith) found c.probe_agrees.ensures in
    let numbers = probe_rounds c.tried.invariant on.probes_at i (omega arith) found _ (rw c.loop-i.invariant.2 at c.widen.ensures) in
    let there = ap₂ (λ (v : Which) (q : ℕ). filled (round_of D.words.now D.layout D.witness.now v q) D.layout.atoms c.args.rounds.now) on.tried (on.probes_at.each i (omega arith)) in
    rw (← c.tried.view_is) (sym (ap untold (from_fault (probe_agrees (dossier_at D.words.now D.layout) (many (credential D.layout.atoms) D.witness.now 2 c.args.count)) D.layout.nprobes i before.0 (omega arith) (sym same ∙ c.if-not-probe_agrees.true))), numbers ∙ there)

pub loop-i-preserved : goal.loop-i-preserved
loop-i-preserved c =
    let D = c.tried.inside in
    let i = c.loop-i.i in
    let on = rw (← c.tried.view_is) at c.requires.0 in
    let before = rw (← c.tried.view_is) at c.loop-i.invariant in
    let kept = rw (← c.tried.view_is) at c.known-known.ensures in
    let found = ap (λ (k : Kept). k.table) kept in
    let same = probe_judged c.tried.invariant on.probes_at on.answers on.tried i (omega arith) found c.probe_agrees.ensures in
    rw (← c.tried.view_is) (from_next (probe_agrees (dossier_at D.words.now D.layout) (many (credential D.layout.atoms) D.witness.now 2 c.args.count)) D.layout.nprobes i before.0 (omega arith) (sym same ∙ c.if-not-probe_agrees.false), kept_some _ _ (probe_there c.tried.invariant on.probes_at i (omega arith)) kept, c.loop-i.invariant.2)

pub returns : goal.returns
unfolding rounds_there
returns c =
    let D = c.tried.inside in
    let before = rw (← c.tried.view_is) at c.loop-i.invariant in
    rw (← c.tried.view_is) (sym (ap untold (from_end (probe_agrees (dossier_at D.words.now D.layout) (many (credential D.layout.atoms) D.witness.now 2 c.args.count)) D.layout.nprobes c.loop-i.i before.0 (omega arith))), c.loop-i.invariant.2)
