-- The invariant: the table begins with the answers to the probes before this one, and what is kept is of the last of them.
use mathlib.Core.Path.{◌≡◌}
use Rattle.promise.specs.Place.{filled}
use Rattle.evaluation.specs.Answer.{answer_word}
use Rattle.evaluation.specs.Policy.{Keeps, last_kept}
use Rattle.evaluation.proofs.PolicyAt.answer_probes.Given as goal

abbrev pub invariant-loop-i : goal.invariant-loop-i
invariant-loop-i l = (l.table ≡ filled (answer_word l.self.words l.self.layout) l.i l.initial.table) × (l.kept ≡ last_kept l.self l.probes l.i) × Keeps l.self l.kept
