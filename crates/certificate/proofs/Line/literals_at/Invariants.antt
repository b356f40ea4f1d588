-- The invariant: the literals read so far are those seen from the start, and the rest answers as all do.
use Rattle.certificate.proofs.Several.{State}
use Rattle.certificate.proofs.Line.literals_at.Given as goal

abbrev pub invariant-loop-done : goal.invariant-loop-done
invariant-loop-done l = State l.self.atoms l.self.creds l.s l.at l.k l.done l.p
