-- `answer_at` meets its contract.
use mathlib.Core.Path.{◌∙◌}
use Rattle.evaluation.proofs.Entry.{entry_asked, table_size, table_fits, answer_is}
use Rattle.evaluation.proofs.PolicyAt.answer_at.Goals as goal

pub first_rounds-table-requires : goal.first_rounds-table-requires
first_rounds-table-requires c = rw (← c.self.view_is) (entry_asked _ c.args.p (rw (← c.self.view_is) at c.requires) c.entry_at.ensures)

pub slice_bounds-answer_in-end : goal.slice_bounds-answer_in-end
slice_bounds-answer_in-end c =
    let found = rw (← c.self.view_is) at c.first_rounds-table.ensures in
    table_size c.self.invariant (rw (← c.self.view_is) at c.requires) c.entry_at.ensures found

pub answer_in-requires : goal.answer_in-requires
answer_in-requires c =
    let fits = rw (← c.self.view_is) at c.requires in
    let found = rw (← c.self.view_is) at c.first_rounds-table.ensures in
    (fits.ends, table_fits c.self.invariant fits c.entry_at.ensures found)

pub returns : goal.returns
returns c =
    let fits = rw (← c.self.view_is) at c.requires in
    let found = rw (← c.self.view_is) at c.first_rounds-table.ensures in
    rw (← c.self.view_is) (c.answer_in.ensures ∙ answer_is c.self.invariant fits c.entry_at.ensures found)
