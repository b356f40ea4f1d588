-- `text::split` meets its contract.
use Prim.Native.Nat.{ℕ, ◌<◌, ◌-◌, ◌/◌}
use mathlib.Core.Path.{sym, ap, ◌∙◌}
use native.Mathlib.Omega.{arith}
use lib.ListN.{length}
use Rattle.std.specs.Prelude.{Option, Some}
use Rattle.text.specs.declared.Papers.{Papers}
use Rattle.text.proofs.Sizes.{whole_is, input_odd, input_papers, input_short}
use Rattle.text.proofs.split.Goals as goal

pub returns-then-not-is_whole : goal.returns-then-not-is_whole
returns-then-not-is_whole c = input_odd _ (sym c.is_whole.ensures ∙ c.if-not-is_whole.true)

pub word_at-requires : goal.word_at-requires
word_at-requires c = omega (arith, whole_is _ (sym c.is_whole.ensures ∙ c.if-not-is_whole.false))

pub overflow_sub-n : goal.overflow_sub-n
overflow_sub-n c = omega (arith, whole_is _ (sym c.is_whole.ensures ∙ c.if-not-is_whole.false))

pub returns : goal.returns
returns c =
    let h = c.in_ok-certificate.ensures in
    ap {B = Option Papers} (λ (n : ℕ). Some (record { dossier = c.from-dossier.result; certificate = n })) h.1
    ∙ input_papers _ (sym c.is_whole.ensures ∙ c.if-not-is_whole.false) _ (c.from-dossier.ensures ∙ c.word_at.ensures.0) h.0

pub returns-in_err-certificate : goal.returns-in_err-certificate
returns-in_err-certificate c =
    let h : length c.args.bytes.now / 2 - 1 < c.from-dossier.result = omega (arith, c.in_err-certificate.ensures) in
    c.from_residual.ensures ∙ input_short _ (sym c.is_whole.ensures ∙ c.if-not-is_whole.false) _ (c.from-dossier.ensures ∙ c.word_at.ensures.0) h
