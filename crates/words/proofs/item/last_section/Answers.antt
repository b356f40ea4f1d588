-- `words::item::last_section` meets its contract: the section is refused, or was read and a word is left, or none is.
use mathlib.Core.Path.{sym, ap, ◌∙◌}
use Rattle.std.specs.Prelude.{Err}
use Rattle.words.proofs.Steps.{kept}
use Rattle.words.proofs.Sections.{last_refused, last_left, last_done}
use Rattle.words.proofs.item.last_section.Goals as goal

pub returns-in_err-section : goal.returns-in_err-section
returns-in_err-section g c = kept c.from_residual.ensures ∙ sym (last_refused _ _ _ _ _ c.section_after.ensures.0 c.in_err-section.was)

pub returns-then-section-s : goal.returns-then-section-s
returns-then-section-s g c = ap Err c.at_word.ensures ∙ sym (last_left _ _ _ _ _ c.section_after.ensures.0 c.in_ok-section.was c.if-section-s.true)

pub returns : goal.returns
returns g c = sym (last_done _ _ _ _ _ c.section_after.ensures.0 c.in_ok-section.was c.if-section-s.false)
