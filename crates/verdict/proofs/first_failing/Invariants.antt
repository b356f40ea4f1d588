-- The invariant: the whole search is the search from j on.
use Rattle.meaning.specs.Rules.{line_follows}
use Rattle.promise.specs.Line.{line}
use Rattle.promise.specs.Place.{many}
use Rattle.verdict.proofs.Lowest.{From}
use Rattle.verdict.proofs.first_failing.Given as goal

abbrev pub invariant-loop-j : goal.invariant-loop-j
invariant-loop-j l = From (line_follows l.grounds (many line l.s 2 l.k)) l.k l.j
