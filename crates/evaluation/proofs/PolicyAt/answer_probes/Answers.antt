-- `answer_probes` meets its contract: each turn answers one probe, by what holds there.
use mathlib.Core.Path.{refl, ap, ◌∙◌}
use native.Mathlib.Omega.{arith}
use Prim.Native.Nat.{ℕ}
use mathlib.Core.Path.{◌≡◌}
use lib.ListN.{get_or, set}
use Rattle.promise.specs.Place.{filled}
use Rattle.promise.proofs.Place.{filled_none, filled_on}
use Rattle.evaluation.specs.Answer.{answer_of, answer_word}
use Rattle.evaluation.specs.Policy.{last_kept}
use Rattle.evaluation.specs.Posed.{Posed}
use Rattle.evaluation.specs.declared.Kept.{Kept}
use Rattle.evaluation.specs.declared.Which.{Which}
use Rattle.evaluation.proofs.Entry.{byte_bit, kept_first, kept_last, kept_none, kept_some, probe_there, probe_reads, probe_says, probe_word}
use Rattle.evaluation.proofs.PolicyAt.answer_probes.Goals as goal

pub loop-i-init : goal.loop-i-init
loop-i-init c = (filled_none _ _, kept_first _ _, kept_none _)

pub bounds-probes-i : goal.bounds-probes-i
bounds-probes-i c = let pre = rw (← c.self.view_is) at c.requires in omega (arith, pre.1.long)

pub known-known-requires : goal.known-known-requires
known-known-requires c =
    let pre = rw (← c.self.view_is) at c.requires in
    let there = probe_there c.self.invariant pre.1 _ c.loop-i-test.true in
    (c.loop-i.invariant.2, rw (← c.self.view_is) there)

pub answer_in-requires : goal.answer_in-requires
answer_in-requires c =
    let pre = rw (← c.self.view_is) at c.requires in
    let found = ap (λ (k : Kept). k.table) (rw (← c.self.view_is) at c.known-known.ensures) in
    probe_reads c.self.invariant pre.1 _ c.loop-i-test.true found

pub loop-i-preserved : goal.loop-i-preserved
loop-i-preserved c =
    let d = c.self.inside.words.now in
    let o = c.self.inside.layout in
    let w = c.self.inside.witness.now in
    let i = c.loop-i.i in
    let p = get_or c.args.probes.now i 0 in
    let pre = rw (← c.self.view_is) at c.requires in
    let kept = rw (← c.self.view_is) at c.known-known.ensures in
    let before = rw (← c.self.view_is) at c.loop-i.invariant.0 in
    let said = c.answer_in.ensures ∙ probe_says c.self.invariant pre.1 i c.loop-i-test.true (ap (λ (k : Kept). k.table) kept) ∙ ap (λ (v : Which). answer_of d o w v p) pre.0 in
    let word = probe_word d o c.args.probes.now pre.1 i c.loop-i-test.true w (c.from.ensures ∙ byte_bit _) said in
    rw (← c.self.view_is) (ap (set c.loop-i.table i) word ∙ filled_on (answer_word d o) i c.args.table.now before refl (omega (arith, pre.2)), kept_last _ _ i kept, kept_some _ p (probe_there c.self.invariant pre.1 i c.loop-i-test.true) kept)

pub returns : goal.returns
returns c =
    let o = c.self.inside.layout in
    let e : c.loop-i.i ≡ o.nprobes = omega arith in
    let before = rw (← c.self.view_is) at c.loop-i.invariant.0 in
    let last = rw (← c.self.view_is) at c.loop-i.invariant.1 in
    let kept = rw (← c.self.view_is) at c.loop-i.invariant.2 in
    let P : Posed = record { words = c.self.inside.words.now; layout = o; witness = c.self.inside.witness.now; which = c.self.inside.which } in
    rw (← c.self.view_is) (before ∙ ap (λ (n : ℕ). filled (answer_word c.self.inside.words.now o) n c.args.table.now) e, last ∙ ap (λ (n : ℕ). last_kept P c.args.probes.now n) e, kept)
