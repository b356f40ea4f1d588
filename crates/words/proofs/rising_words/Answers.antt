-- `words::rising_words` meets its contract: a word that is refused is the whole's refusal, and after each that is not the rest answers.
use native.Mathlib.Omega.{arith}
use Prim.Native.Nat.{ℕ, ◌+◌, ◌-◌}
use mathlib.Core.Path.{◌≡◌, sym, ap, ap₂, ◌∙◌}
use Rattle.std.specs.Prelude.{Ok}
use Rattle.words.specs.Read.{rising}
use Rattle.words.specs.Answer.{step_by, range_by}
use Rattle.words.proofs.Steps.{kept, next_here, rising_none, rising_stop, rising_on}
use Rattle.words.proofs.rising_words.Goals as goal

pub returns-in_err-low : goal.returns-in_err-low
returns-in_err-low g c = kept c.from_residual.ensures ∙ sym (c.loop-i.invariant.rest ∙ rising_stop _ _ _ _ _ _ (omega arith) c.next_word.ensures c.in_err-low.was)

pub loop-i-preserved : goal.loop-i-preserved
loop-i-preserved g c =
    let a = c.args in
    let i = c.loop-i.i in
    let here = next_here _ _ _ _ _ c.next_word.ensures c.in_ok-low.was in
    let less : a.k - i - 1 ≡ a.k - (i + 1) = omega arith in
    let place : a.at + i + 1 ≡ a.at + (i + 1) = omega arith in record {
      within = λ _. omega (arith, here);
      rest = c.loop-i.invariant.rest ∙ rising_on _ _ _ _ _ _ (omega arith) c.next_word.ensures c.in_ok-low.was ∙ ap₂ (λ (j p : ℕ). step_by g.W.Tells.from_number (rising (range_by g.W.Tells.as_number a.limit) c.in_ok-low.low j a.s.now p)) less place;
    }

pub returns : goal.returns
returns g c =
    let z : c.loop-i.i ≡ c.args.k = omega arith in
    sym (c.loop-i.invariant.rest ∙ rising_none _ _ _ _ _ _ (omega arith) ∙ ap (λ (i : ℕ). Ok (c.args.at + i)) z)
