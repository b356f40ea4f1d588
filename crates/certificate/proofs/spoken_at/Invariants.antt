-- The invariant: the literals left to look at answer as all of them do.
use Prim.Native.Nat.{◌-◌}
use mathlib.Core.Path.{◌≡◌}
use Rattle.promise.specs.Place.{many, Fit}
use Rattle.promise.specs.Line.{literal_at, said_of, literal}
use Rattle.certificate.specs.Read.{spoken}
use Rattle.certificate.proofs.spoken_at.Given as goal

abbrev pub invariant-loop : goal.invariant-loop
invariant-loop l = record {
  fit : Fit literal l.s l.at (l.count - l.counter);
  rest : spoken (said_of l.s (literal_at l.s l.p)) (many literal l.s l.first l.count) ≡ spoken (said_of l.s (literal_at l.s l.p)) (many literal l.s l.at (l.count - l.counter));
}
