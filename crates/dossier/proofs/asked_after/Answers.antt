-- `dossier::asked_after` meets its contract: the probes, then the secret and that no word is left.
use mathlib.Core.Path.{◌∙◌}
use Rattle.words.proofs.Steps.{kept}
use Rattle.dossier.proofs.Chain.{probes_bad, probes_read, asked_bad, asked_done}
use Rattle.dossier.proofs.asked_after.Goals as goal

pub returns-in_err-probes : goal.returns-in_err-probes
returns-in_err-probes c =
    let e = kept c.from_residual.ensures in
    (e ∙ probes_bad _ _ c.requires.1 _ _ c.requires.0 c.section_after.ensures.0 c.in_err-probes.was, rw e tt)

pub returns-in_err-last_section : goal.returns-in_err-last_section
returns-in_err-last_section c =
    let a = probes_read _ _ c.requires.1 _ _ c.requires.0 c.section_after.ensures.0 c.in_ok-probes.was in
    let e = kept c.from_residual-in_err-last_section.ensures in
    (e ∙ asked_bad _ _ c.requires.1 _ _ c.requires.0 a c.last_section.ensures c.in_err-last_section.was, rw e tt)

pub returns : goal.returns
returns c =
    let a = probes_read _ _ c.requires.1 _ _ c.requires.0 c.section_after.ensures.0 c.in_ok-probes.was in
    (asked_done _ _ c.requires.1 _ _ c.requires.0 a c.last_section.ensures c.in_ok-last_section.was, a.within)
