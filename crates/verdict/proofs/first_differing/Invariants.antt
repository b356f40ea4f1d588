-- The invariant: the whole search is the search from i on, what is kept is of a probe, and the table is as it was.
use mathlib.Core.Path.{◌≡◌}
use Rattle.meaning.specs.Verdict.{probe_agrees}
use Rattle.promise.specs.Clause.{credential}
use Rattle.promise.specs.Layout.{dossier_at}
use Rattle.promise.specs.Place.{many}
use Rattle.evaluation.specs.Policy.{Keeps}
use Rattle.verdict.proofs.Lowest.{From}
use Rattle.verdict.proofs.first_differing.Given as goal

abbrev pub invariant-loop-i : goal.invariant-loop-i
invariant-loop-i l =
    let P = l.tried in
    From (probe_agrees (dossier_at P.words P.layout) (many (credential P.layout.atoms) P.witness 2 l.count)) P.layout.nprobes l.i
    × Keeps P l.kept × (l.rounds ≡ l.initial.rounds)
