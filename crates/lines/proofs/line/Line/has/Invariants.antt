-- The invariant: the literals that are left answer as all of them do.
use mathlib.Core.Path.{◌≡◌}
use Rattle.meaning.specs.Rules.{is_in}
use Rattle.lines.proofs.line.Line.has.Given as goal

abbrev pub invariant-loop-m : goal.invariant-loop-m
invariant-loop-m l = is_in l.self.literals l.l ≡ is_in l.m-iterator l.l
