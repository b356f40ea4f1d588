-- `printed::shown_line` meets its contract: how many words are shown, and the words.
use native.Mathlib.Omega.{arith}
use lib.ListN.{length}
use mathlib.Core.Path.{ap}
use Rattle.text.proofs.Put.{wrote_more, wrote_is}
use Rattle.printed.specs.Lists.{asking, shown_head}
use Rattle.printed.proofs.Lists.{shown_few, shown_line_is}
use Rattle.printed.proofs.shown_line.Goals as goal

pub list-requires : goal.list-requires
unfolding asking
list-requires c =
    let a = c.args in
    let few = shown_few a.dossier.now a.certificate.now (asking a.paper a.place a.count) in
    let e = ap length c.shown-words.ensures.0 in
    omega (arith, c.requires, few, e, c.headed-p.ensures.2)

pub returns : goal.returns
unfolding asking shown_head
returns c =
    let a = c.args in
    let t = a.out.now in
    wrote_is t _ (wrote_more t _ _ (c.headed-p.ensures.0, c.headed-p.ensures.1) c.list.ensures) (shown_line_is a.dossier.now a.certificate.now (asking a.paper a.place a.count) c.shown-words.ensures.0)
