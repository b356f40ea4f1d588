-- `lines::line::Line::literal` meets its contract.
use mathlib.Core.Path.{◌∙◌, ap, sym}
use Rattle.std.proofs.lemmas.Iterator.Adapters.{option_map_id}
use Rattle.std.proofs.lemmas.Iterator.Consumers.{YieldsList-from_first, nth_from_yields_List}
use Rattle.lines.specs.Named.{told}
use Rattle.lines.proofs.Lists.{at_is}
use Rattle.lines.proofs.line.Line.literal.Goals as goal

pub returns : goal.returns
returns c =
    ap told (sym (option_map_id _) ∙ nth_from_yields_List _ _ _ c.nth.ensures.ran (YieldsList-from_first (λ x. x) (λ s. s) c.args.self.now.literals c.literals.ensures))
    ∙ at_is _ _
