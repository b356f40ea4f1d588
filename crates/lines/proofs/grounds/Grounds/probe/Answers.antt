-- `lines::grounds::Grounds::probe` meets its contract.
use Prim.Native.Nat.{ℕ}
use mathlib.Core.Path.{◌∙◌, ap, sym}
use native.Mathlib.Omega.{arith}
use Rattle.meaning.specs.Tests.{◌is◌}
use Rattle.promise.specs.Formula.{entry}
use Rattle.promise.specs.Layout.{dossier_at}
use Rattle.promise.proofs.Seen.{is_bit}
use Rattle.lines.proofs.Names.{picked, thing_at, thing_fits, thing_no}
use Rattle.lines.proofs.grounds.Grounds.probe.Goals as goal

pub returns-in_err-q-clause-probe : goal.returns-in_err-q-clause-probe
unfolding dossier_at
returns-in_err-q-clause-probe c = rw (c.from_residual.ensures, ← c.self.view_is) (thing_no (entry _ _) _ _ _ _ _ c.self.invariant.probes c.in_err-q.ensures)

pub entry_at-requires : goal.entry_at-requires
entry_at-requires c = (thing_fits (entry _ _) _ _ _ _ _ c.self.invariant.probes c.in_ok-q.ensures c.self.invariant.laid.probes).ends

pub invariant_of-entry : goal.invariant_of-entry
invariant_of-entry c =
    let f = thing_fits (entry _ _) _ _ _ _ _ c.self.invariant.probes c.in_ok-q.ensures c.self.invariant.laid.probes in
    rw c.entry_at.ensures (omega (arith, f.ends), f.formula)

pub word-requires : goal.word-requires
word-requires c = omega (arith, (picked _ _ _ c.self.invariant.probes.long c.in_ok-q.ensures).0, c.self.invariant.long)

pub returns-clause-probe : goal.returns-clause-probe
unfolding dossier_at
returns-clause-probe c = rw (c.entry_at.ensures, ← c.self.view_is) (thing_at (entry _ _) _ _ _ _ _ c.self.invariant.probes c.in_ok-q.ensures)

pub returns-clause-answer : goal.returns-clause-answer
unfolding dossier_at ◌is◌
returns-clause-answer c =
    let there = thing_at (entry _ _) _ _ _ _ _ c.self.invariant.probes c.in_ok-q.ensures in
    rw (c.entry_at.ensures, ← c.self.view_is) (ap (λ (x : ℕ). x is 1) (c.word.ensures.0 ∙ c.self.invariant.told c.args.i _ (sym there)) ∙ is_bit _)
