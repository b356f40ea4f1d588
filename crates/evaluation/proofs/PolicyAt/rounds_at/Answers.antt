-- `rounds_at` meets its contract.
use native.Mathlib.Omega.{arith}
use Rattle.evaluation.proofs.Entry.{entry_asked, table_size, rounds_are}
use Rattle.evaluation.proofs.PolicyAt.rounds_at.Goals as goal

pub first_rounds-found-requires : goal.first_rounds-found-requires
first_rounds-found-requires c = rw (← c.self.view_is) (entry_asked _ c.args.p (rw (← c.self.view_is) at c.requires.0) c.entry_at.ensures)

pub slice_bounds-widen-end : goal.slice_bounds-widen-end
slice_bounds-widen-end c =
    let found = rw (← c.self.view_is) at c.first_rounds-found.ensures in
    table_size c.self.invariant (rw (← c.self.view_is) at c.requires.0) c.entry_at.ensures found

pub widen-requires : goal.widen-requires
widen-requires c =
    let pre = rw (← c.self.view_is) at c.requires in
    let found = rw (← c.self.view_is) at c.first_rounds-found.ensures in
    omega (arith, pre.1, table_size c.self.invariant pre.0 c.entry_at.ensures found)

pub returns : goal.returns
returns c =
    let pre = rw (← c.self.view_is) at c.requires in
    let found = rw (← c.self.view_is) at c.first_rounds-found.ensures in
    rw (← c.self.view_is) (rounds_are c.self.invariant pre.0 c.entry_at.ensures found _ c.widen.ensures)
