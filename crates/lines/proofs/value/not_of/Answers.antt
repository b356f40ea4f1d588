-- `lines::value::not_of` meets its contract.
use mathlib.Core.Bool.{not}
use mathlib.Core.Path.{◌∙◌, ap}
use Rattle.std.proofs.Common.{rules}
use Rattle.lines.specs.Named.{told}
use Rattle.lines.proofs.Lists.{mapped}
use Rattle.lines.proofs.Values.{not_told}
use Rattle.lines.proofs.value.not_of.Goals as goal

pub returns : goal.returns
returns c = ap told (mapped not c.args.a c.map.result c.map.ensures.cases (λ x y p. search rules)) ∙ not_told _
