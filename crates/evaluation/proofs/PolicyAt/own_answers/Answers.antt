-- `own_answers` meets its contract: the secret's answer is told by what holds at its entry.
use mathlib.Core.Path.{refl, ap, ◌∙◌}
use Rattle.evaluation.specs.declared.Kept.{Kept}
use Rattle.evaluation.proofs.Entry.{table_size, table_fits, answer_is}
use Rattle.evaluation.proofs.PolicyAt.own_answers.Goals as goal

pub known-known-requires : goal.known-known-requires
known-known-requires c = (c.answer_probes-kept.ensures.2, rw (← c.self.view_is) c.self.invariant.laid.secret)

pub slice_bounds-answer_in-end : goal.slice_bounds-answer_in-end
slice_bounds-answer_in-end c =
    let found = ap (λ (k : Kept). k.table) (rw (← c.self.view_is) at c.known-known.ensures) in
    table_size c.self.invariant c.self.invariant.laid.secret refl found

pub answer_in-requires : goal.answer_in-requires
answer_in-requires c =
    let secret = c.self.invariant.laid.secret in
    let found = ap (λ (k : Kept). k.table) (rw (← c.self.view_is) at c.known-known.ensures) in
    (secret.ends, table_fits c.self.invariant secret refl found)

pub returns : goal.returns
returns c =
    let found = ap (λ (k : Kept). k.table) (rw (← c.self.view_is) at c.known-known.ensures) in
    (c.answer_probes-kept.ensures.0, rw (← c.self.view_is) (c.answer_in.ensures ∙ answer_is c.self.invariant c.self.invariant.laid.secret refl found))
