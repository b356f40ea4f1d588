-- `evaluation::answer_in` meets its contract.
use mathlib.Core.Path.{◌∙◌}
use Rattle.promise.proofs.Formula.{fits_here, fits_atom, read_atom}
use Rattle.evaluation.specs.Table.{in_table}
use Rattle.evaluation.proofs.Entry.{view_fits, read_view}
use Rattle.evaluation.proofs.answer_in.Goals as goal

pub word-a-requires : goal.word-a-requires
word-a-requires c = fits_here _ _ _ _ (view_fits _ _ _ c.entry_at-e.ensures c.requires.1)

pub is_there-requires : goal.is_there-requires
is_there-requires c = fits_atom _ _ _ _ (view_fits _ _ _ c.entry_at-e.ensures c.requires.1) c.word-a.ensures.0 c.if-a-lt256.true

pub returns-then-a-lt256 : goal.returns-then-a-lt256
unfolding in_table
returns-then-a-lt256 c = c.is_there.ensures ∙ (read_atom _ _ _ _ (view_fits _ _ _ c.entry_at-e.ensures c.requires.1) c.word-a.ensures.0 (in_table _) c.if-a-lt256.true).0 ∙ read_view _ _ _ c.entry_at-e.ensures

pub value_at-holds-requires : goal.value_at-holds-requires
value_at-holds-requires c = view_fits _ _ _ c.entry_at-e.ensures c.requires.1

pub returns : goal.returns
returns c = c.value_at-holds.ensures.0 ∙ read_view _ _ _ c.entry_at-e.ensures
