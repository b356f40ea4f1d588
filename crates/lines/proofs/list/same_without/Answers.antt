-- `lines::list::same_without` meets its contract.
use mathlib.Core.Path.{◌≡◌, ◌∙◌, ap, refl}
use mathlib.Core.Bool.{not}
use Rattle.std.proofs.Common.{rules, tests}
use Rattle.std.proofs.lemmas.Iterator.{YieldsList-from_slice}
use Rattle.std.proofs.lemmas.Iterator.Consumers.{YieldsList-at, YieldsList-from_filter}
use Rattle.meaning.specs.Tests.{◌is◌, same}
use Rattle.meaning.specs.Rules.{omit}
use Rattle.lines.proofs.Equal.{same_from_eq}
use Rattle.lines.proofs.Lists.{keep_is}
use Rattle.lines.proofs.list.same_without.Goals as goal

pub returns : goal.returns
unfolding omit ◌is◌
returns c =
    same_from_eq (λ y. y.now) (λ x y. y ≡ x) _ _ c.eq.ensures.ran (YieldsList-from_slice c.args.s.now (cc))
    (λ it e. YieldsList-at e (YieldsList-from_filter _ (λ y. not (y is c.args.c)) (YieldsList-at c.filter.ensures.source (YieldsList-from_slice c.args.t.now (cc))) c.filter.ensures.closure (λ x b q k. search (rules, tests))))
    (λ x y. refl)
    ∙ ap (same c.args.s.now) (keep_is (λ y. not (y is c.args.c)) c.args.t.now)
