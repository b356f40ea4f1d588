-- `one_round` meets its contract: the policy, then the entry's credentials.
use mathlib.Core.Path.{◌∙◌}
use lib.ListN.{length}
use Rattle.promise.proofs.Place.{things_fit}
use Rattle.evaluation.specs.Which.{named}
use Rattle.evaluation.proofs.Entry.{asked_sources}
use Rattle.evaluation.proofs.Fired.{fold_fired}
use Rattle.evaluation.proofs.Firing.{firing, chosen_fits, joined_fired}
use Rattle.evaluation.proofs.Rounds.{any_list}
use Rattle.evaluation.proofs.PolicyAt.one_round.Goals as goal

pub fire_each-requires : goal.fire_each-requires
fire_each-requires c =
    let P = c.self.inside in
    let pre = rw (← c.self.view_is) at c.requires in
    things_fit (named (length c.fire_policy.new.table) P.creds.now) _ _ _ (chosen_fits P.words.now P.layout P.creds.now P.witness.now P.which c.args.e (asked_sources c.self.invariant pre.0) (c.fire_policy.auto.table ∙ pre.1))

pub returns : goal.returns
returns c =
    let a = c.args in
    let P = c.self.inside in
    let u = c.fire_policy.new.table in
    let pre = rw (← c.self.view_is) at c.requires in
    let f = rw (← c.self.view_is) at c.fire_policy.ensures in
    let g = c.fire_each.ensures ∙ fold_fired (firing a.round) (named (length u) P.creds.now) P.words.now a.e.count a.e.creds u in
    rw (← c.self.view_is) (joined_fired P.words.now P.layout P.creds.now P.witness.now P.which a.e (asked_sources c.self.invariant pre.0) a.round a.table.now (c.fire_policy.auto.table ∙ pre.1) f g, c.adds.ensures ∙ any_list _ _)
