-- `words::item::items_from` meets its contract: an item that is refused is the whole's refusal, and after each that is not the rest answers.
use native.Mathlib.Omega.{arith}
use Prim.Native.Nat.{ℕ, ◌+◌, ◌-◌}
use mathlib.Core.Path.{◌≡◌, sym, ap, ◌∙◌}
use Rattle.words.specs.Items.{items_step}
use Rattle.words.proofs.Steps.{kept}
use Rattle.words.proofs.Sections.{items_none, items_stop, items_on}
use Rattle.words.proofs.item.items_from.Goals as goal

pub returns-in_err-p : goal.returns-in_err-p
returns-in_err-p g c =
    let e = kept c.from_residual.ensures in (
      e ∙ sym (c.loop.invariant.rest ∙ items_stop _ _ _ _ (omega arith) c.read.ensures.0 c.in_err-p.was),
      λ h. rw e (rw c.in_err-p.was at c.read.ensures.1 (c.loop.invariant.within h)),
    )

pub loop-preserved : goal.loop-preserved
loop-preserved g c =
    let less : c.args.k - c.loop.counter - 1 ≡ c.args.k - (c.loop.counter + 1) = omega arith in record {
      rest = c.loop.invariant.rest ∙ items_on _ _ _ _ (omega arith) c.read.ensures.0 c.in_ok-p.was ∙ ap (λ (j : ℕ). items_step (g.T.Item.reads c.args.item.now) j c.args.s.now c.in_ok-p.p) less;
      within = λ h. rw c.in_ok-p.was at c.read.ensures.1 (c.loop.invariant.within h);
    }

pub returns : goal.returns
returns g c = (sym (c.loop.invariant.rest ∙ items_none _ _ _ _ (omega arith)), c.loop.invariant.within)
