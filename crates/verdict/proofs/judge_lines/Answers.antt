-- `verdict::judge_lines` meets its contract: it fills the table of the clauses, and either table has room for the lines.
use Rattle.promise.proofs.Place.{front_things}
use Rattle.lines.proofs.Tables.{clauses_begin}
use Rattle.verdict.proofs.Tables.{clauses_fit, rules_ready}
use Rattle.verdict.proofs.judge_lines.Goals as goal

pub starts-requires : goal.starts-requires
starts-requires c =
    let laid = c.own.invariant.laid in
    front_things _ _ _ _ _ _ laid.few_clauses (clauses_fit _ _ laid)

pub invariant_of-grounds : goal.invariant_of-grounds
invariant_of-grounds c =
    let D = c.own.inside in
    let own = c.own.invariant in
    let pre = rw (← c.own.view_is) at c.requires in
    rules_ready D.words.now D.layout c.args.answered.now.told.now pre.1 own.laid (clauses_begin D.words.now D.layout _ own.laid.few_clauses c.starts.ensures) own.starts pre.0 pre.2

pub invariant_of-grounds-2 : goal.invariant_of-grounds-2
invariant_of-grounds-2 c =
    let D = c.own.inside in
    let own = c.own.invariant in
    let pre = rw (← c.own.view_is) at c.requires in
    rules_ready D.words.now D.layout c.args.answered.now.told.now pre.1 own.laid (clauses_begin D.words.now D.layout _ own.laid.few_clauses c.starts.ensures) own.starts pre.0 pre.2
