-- `dossier::dossier` meets its contract: labels, clauses, credentials, then the probes and the secret, each where the former ended.
use native.Mathlib.Omega.{arith}
use mathlib.Core.Path.{◌∙◌}
use Rattle.words.proofs.Steps.{kept}
use Rattle.dossier.proofs.Chain.{labels_read, labels_bad, clauses_bad, clauses_read, creds_bad, creds_read, rest_bad, all_read}
use Rattle.dossier.proofs.dossier.Goals as goal

pub returns-in_err-labels : goal.returns-in_err-labels
returns-in_err-labels c = kept c.from_residual.ensures ∙ labels_bad _ c.list_at.ensures c.in_err-labels.was

pub overflow_sub-atoms : goal.overflow_sub-atoms
overflow_sub-atoms c = let l = labels_read _ c.list_at.ensures c.in_ok-labels.was in omega (arith, l.place)

pub section_after-requires : goal.section_after-requires
section_after-requires c = (labels_read _ c.list_at.ensures c.in_ok-labels.was).within

pub returns-in_err-clauses : goal.returns-in_err-clauses
returns-in_err-clauses c =
    let l = labels_read _ c.list_at.ensures c.in_ok-labels.was in
    kept c.from_residual-in_err-clauses.ensures ∙ clauses_bad _ l c.section_after.ensures.0 c.in_err-clauses.was

pub returns-in_err-creds : goal.returns-in_err-creds
returns-in_err-creds c =
    let l = labels_read _ c.list_at.ensures c.in_ok-labels.was in
    let s = clauses_read _ l c.section_after.ensures.0 c.in_ok-clauses.was in
    kept c.from_residual-in_err-creds.ensures ∙ creds_bad _ l s c.section_after-2.ensures.0 c.in_err-creds.was

pub asked_after-requires : goal.asked_after-requires
asked_after-requires c =
    let l = labels_read _ c.list_at.ensures c.in_ok-labels.was in
    let s = clauses_read _ l c.section_after.ensures.0 c.in_ok-clauses.was in
    let k = creds_read _ l s c.section_after-2.ensures.0 c.in_ok-creds.was in
    (k.within, omega (arith, l.place, l.few))

pub returns-in_err-probes : goal.returns-in_err-probes
returns-in_err-probes c =
    let l = labels_read _ c.list_at.ensures c.in_ok-labels.was in
    let s = clauses_read _ l c.section_after.ensures.0 c.in_ok-clauses.was in
    let k = creds_read _ l s c.section_after-2.ensures.0 c.in_ok-creds.was in
    kept c.from_residual-in_err-probes.ensures ∙ rest_bad _ l s k c.asked_after.ensures.0 c.in_err-probes.was

pub overflow_add-result : goal.overflow_add-result
overflow_add-result c = let l = labels_read _ c.list_at.ensures c.in_ok-labels.was in omega (arith, l.within)

pub returns : goal.returns
returns c =
    let l = labels_read _ c.list_at.ensures c.in_ok-labels.was in
    let s = clauses_read _ l c.section_after.ensures.0 c.in_ok-clauses.was in
    let k = creds_read _ l s c.section_after-2.ensures.0 c.in_ok-creds.was in
    all_read _ l s k c.asked_after.ensures.0 c.in_ok-probes.was
