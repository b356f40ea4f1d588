-- The invariant: what is left to read from the place reached on answers as the whole does.
use Prim.Native.Nat.{◌+◌, ◌-◌, ◌<◌, ◌≤◌}
use mathlib.Core.Path.{◌≡◌}
use lib.ListN.{length}
use Rattle.words.specs.Read.{rising}
use Rattle.words.specs.Answer.{step_by, range_by}
use Rattle.words.proofs.rising_words.Given as goal

abbrev pub invariant-loop-i : goal.invariant-loop-i
invariant-loop-i g l = record {
  within : 0 < l.i → l.at + l.i ≤ length l.s;
  rest : step_by g.W.Tells.from_number (rising (range_by g.W.Tells.as_number l.limit) 0 l.k l.s l.at) ≡ step_by g.W.Tells.from_number (rising (range_by g.W.Tells.as_number l.limit) l.low (l.k - l.i) l.s (l.at + l.i));
}
