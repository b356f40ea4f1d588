-- `verdict::judge_last` meets its contract.
use Rattle.verdict.proofs.Papers.{last_empty_lem, last_left, line_ends}
use Rattle.verdict.proofs.judge_last.Goals as goal

pub line_at-requires : goal.line_at-requires
line_at-requires c = c.requires.head

pub refusing-requires : goal.refusing-requires
refusing-requires c = (c.requires, line_ends _ _)

pub returns-then-line_at-eq0 : goal.returns-then-line_at-eq0
returns-then-line_at-eq0 c =
    let a = c.args in
    last_empty_lem a.s.now a.p c.line_at.ensures c.if-line_at-eq0.true c.accepting.ensures

pub returns-else-line_at-eq0 : goal.returns-else-line_at-eq0
returns-else-line_at-eq0 c =
    let a = c.args in
    last_left a.s.now a.p c.line_at.ensures c.if-line_at-eq0.false c.refusing.ensures
