-- `evaluation::body_holds` meets its contract.
use Prim.Native.Nat.{ℕ, ◌+◌, ◌-◌, ◌<◌}
use mathlib.Core.Path.{◌≡◌, sym, ap, ap₂, ◌∙◌}
use native.Mathlib.Omega.{arith}
use Rattle.meaning.specs.Tests.{all}
use Rattle.promise.specs.Place.{part}
use Rattle.promise.proofs.Place.{part_none, part_cons, part_in, part_item, part_size}
use Rattle.promise.proofs.Step.{all_none, all_on, all_not}
use Rattle.evaluation.specs.Table.{before}
use Rattle.evaluation.proofs.body_holds.Goals as goal

pub loop-x-init : goal.loop-x-init
loop-x-init c =
    let a = c.args in
    let e : a.p ≡ a.p + 0 = omega arith in
    let f : a.k ≡ a.k - 0 = omega arith in
    ap₂ (λ (p k : ℕ). all (before a.round a.table.now) (part a.s.now p k)) e f

pub was_there-requires : goal.was_there-requires
was_there-requires c =
    let a = c.args in
    let i : c.loop-x.x-index < a.k = omega (arith, part_size a.s.now a.p a.k c.requires.0) in
    c.requires.1 _ (rw (c.from.ensures, part_item a.s.now a.p a.k _ i) (part_in a.s.now _ a.p a.k c.requires.0 i))

pub returns-then-not-was_there : goal.returns-then-not-was_there
returns-then-not-was_there c =
    let a = c.args in
    let i : c.loop-x.x-index < a.k = omega (arith, part_size a.s.now a.p a.k c.requires.0) in
    let x = c.from.ensures ∙ part_item a.s.now a.p a.k _ i in
    sym (c.loop-x.invariant ∙ all_not _ (part_cons a.s.now (a.p + c.loop-x.x-index) (a.k - c.loop-x.x-index) (omega arith) (omega (arith, c.requires.0))) (ap (before a.round a.table.now) (sym x) ∙ sym c.was_there.ensures ∙ c.if-not-was_there.true))

pub loop-x-preserved : goal.loop-x-preserved
loop-x-preserved c =
    let a = c.args in
    let n = c.loop-x.x-index in
    let i : n < a.k = omega (arith, part_size a.s.now a.p a.k c.requires.0) in
    let x = c.from.ensures ∙ part_item a.s.now a.p a.k _ i in
    let e : a.p + n + 1 ≡ a.p + (n + 1) = omega arith in
    let f : a.k - n - 1 ≡ a.k - (n + 1) = omega arith in
    c.loop-x.invariant
    ∙ all_on _ (part_cons a.s.now (a.p + n) (a.k - n) (omega arith) (omega (arith, c.requires.0))) (ap (before a.round a.table.now) (sym x) ∙ sym c.was_there.ensures ∙ c.if-not-was_there.false)
    ∙ ap₂ (λ (p k : ℕ). all (before a.round a.table.now) (part a.s.now p k)) e f

pub returns : goal.returns
returns c =
    let a = c.args in
    sym (c.loop-x.invariant ∙ all_none _ (part_none _ _ _ (omega (arith, part_size a.s.now a.p a.k c.requires.0))))
