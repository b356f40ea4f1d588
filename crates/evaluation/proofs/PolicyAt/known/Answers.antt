-- `known` meets its contract: what is kept serves again, or the rounds are run.
use mathlib.Core.Path.{ap, subst, ◌∙◌}
use Rattle.promise.specs.Formula.{entry_at}
use Rattle.evaluation.specs.Policy.{Keeps, table_in}
use Rattle.evaluation.specs.Posed.{Posed}
use Rattle.evaluation.proofs.Entry.{entry_asked, kept_ends, kept_alike, kept_as}
use Rattle.evaluation.proofs.PolicyAt.known.Goals as goal

pub alike-requires : goal.alike-requires
alike-requires c =
    let P = c.args.self.now in
    let seen = c.entry_at-e.ensures ∙ ap (λ (Q : Posed). entry_at Q.words c.args.p) c.self.view_is in
    (kept_ends P c.in-Some.last (subst (Keeps P) c.in-Some.is c.requires.0), (entry_asked P c.args.p c.requires.1 seen).there)

pub returns-then-alike : goal.returns-then-alike
returns-then-alike c =
    let P = c.args.self.now in
    let seen = c.entry_at-e.ensures ∙ ap (λ (Q : Posed). entry_at Q.words c.args.p) c.self.view_is in
    kept_as P c.args.p (kept_alike P c.in-Some.last c.args.p (subst (Keeps P) c.in-Some.is c.requires.0) seen c.alike.ensures c.if-alike.true)

pub first_rounds-table-requires : goal.first_rounds-table-requires
first_rounds-table-requires c =
    let seen = c.entry_at-e.ensures ∙ ap (λ (Q : Posed). entry_at Q.words c.args.p) c.self.view_is in
    entry_asked c.args.self.now c.args.p c.requires.1 seen

pub returns : goal.returns
returns c =
    let P = c.args.self.now in
    let seen = c.entry_at-e.ensures ∙ ap (λ (Q : Posed). entry_at Q.words c.args.p) c.self.view_is in
    kept_as P c.args.p (c.first_rounds-table.ensures ∙ ap (table_in P) seen)
