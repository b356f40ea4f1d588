-- `words::item::section_of` meets its contract: the count is refused or read, and the items answer for the rest.
use native.Mathlib.Omega.{arith}
use mathlib.Core.Path.{sym, ◌∙◌}
use Rattle.words.proofs.Steps.{kept, refused_in}
use Rattle.words.proofs.Sections.{section_stop, section_item, section_done}
use Rattle.words.proofs.item.section_of.Goals as goal

pub returns-in_err-count : goal.returns-in_err-count
returns-in_err-count g c =
    let e = kept c.from_residual.ensures in
    (e ∙ sym (section_stop _ _ _ _ c.word_in.ensures.0 c.in_err-count.was), rw e (refused_in _ _ _ _ _ _ (omega arith) c.word_in.ensures.0 c.in_err-count.was))

pub returns-in_err-next : goal.returns-in_err-next
returns-in_err-next g c =
    let i = c.items_from.ensures.1 (omega (arith, c.in_ok-count.ensures.1)) in
    let e = kept c.from_residual-in_err-next.ensures in
    (e ∙ sym (section_item _ _ _ _ c.word_in.ensures.0 c.in_ok-count.was c.items_from.ensures.0 c.in_err-next.was), rw e (rw c.in_err-next.was at i))

pub returns : goal.returns
returns g c =
    let i = c.items_from.ensures.1 (omega (arith, c.in_ok-count.ensures.1)) in
    (sym (section_done _ _ _ _ c.word_in.ensures.0 c.in_ok-count.was c.items_from.ensures.0 c.in_ok-next.was), rw c.in_ok-next.was at i)
