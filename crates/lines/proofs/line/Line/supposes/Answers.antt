-- `lines::line::Line::supposes` meets its contract.
use mathlib.Core.Bool.{not}
use mathlib.Core.Path.{◌∙◌, ap, sym}
use Rattle.std.proofs.Common.{rules, tests}
use Rattle.std.specs.Prelude.{option_map}
use Rattle.std.proofs.lemmas.Iterator.Adapters.{option_map_id}
use Rattle.std.proofs.lemmas.Iterator.Consumers.{YieldsList-from_first}
use Rattle.std.proofs.lemmas.Iterator.Search.{find_from_yields_List}
use Rattle.meaning.specs.Papers.{Literal}
use Rattle.meaning.specs.Rules.{same_statement}
use Rattle.lines.specs.Named.{told}
use Rattle.lines.proofs.Lists.{mapped, supposed_is}
use Rattle.lines.proofs.line.Line.supposes.Goals as goal

pub returns : goal.returns
returns c =
    let found = sym (option_map_id _) ∙ find_from_yields_List (λ (m : Literal). same_statement m.said c.args.l.now.said) _ _ c.find.result c.find.ensures.ran (YieldsList-from_first (λ x. x) (λ s. s) c.args.self.now.literals c.literals.ensures) (λ x b q k. search (rules, tests)) in
    ap told (mapped (λ (m : Literal). not m.positive) c.find.result c.map.result c.map.ensures.cases (λ x y p. search rules) ∙ ap (option_map (λ (m : Literal). not m.positive)) found)
    ∙ supposed_is c.args.l.now.said c.args.self.now.literals
