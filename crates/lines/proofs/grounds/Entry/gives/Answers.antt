-- `lines::grounds::Entry::gives` meets its contract.
use mathlib.Core.Option as maybe
use mathlib.Core.Bool.{Bool}
use mathlib.Core.Path.{◌≡◌, ◌∙◌, ap}
use Rattle.meaning.specs.Rules.{value, ◌gives◌}
use Rattle.promise.specs.Formula.{formula_at}
use Rattle.lines.specs.Named.{told}
use Rattle.lines.proofs.Values.{supposed_value}
use Rattle.lines.proofs.grounds.Entry.gives.Goals as goal

pub returns : goal.returns
returns c =
    let E = c.self.inside in
    let ls = c.args.line.now.literals in
    let read : told c.value_at-value.result.0 ≡ value ls c.part.result.now (formula_at 16 E.words.now E.at.formula) = ap told c.value_at-value.ensures.0 ∙ supposed_value ls c.part.result.now (formula_at 16 E.words.now E.at.formula) in
    let value = rw c.part.ensures at read in
    rw (← c.self.view_is) (c.gives.ensures ∙ ap {A = maybe.Option Bool} (λ v. v gives c.args.b) value)
