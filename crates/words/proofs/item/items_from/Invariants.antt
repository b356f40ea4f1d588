-- The invariant: the items left to read from p on answer as all of them do, and p is a place of the paper if the first is.
use Prim.Native.Nat.{◌-◌, ◌≤◌}
use mathlib.Core.Path.{◌≡◌}
use lib.ListN.{length}
use Rattle.words.specs.Items.{items_step}
use Rattle.words.proofs.item.items_from.Given as goal

abbrev pub invariant-loop : goal.invariant-loop
invariant-loop g l = record {
  rest : items_step (g.T.Item.reads l.item) l.k l.s l.at ≡ items_step (g.T.Item.reads l.item) (l.k - l.counter) l.s l.p;
  within : l.at ≤ length l.s → l.p ≤ length l.s;
}
