-- `Memory::case_line` meets its contract: in each arm the line is that of the case's words.
use borrow.Author.Rules.{rules}
use Rattle.trial.proofs.Lines.{printed_as, judge_line, answers_line_lem, shown_line_lem, bytes_line, rounds_line_lem}
use Rattle.trial.proofs.Memory.case_line.Goals as goal

pub returns-in-Judge : goal.returns-in-Judge
returns-in-Judge c =
    let m = c.args.self.now in
    printed_as m.bytes c.args.case c.requires m.out c.papers_at.ensures
    (judge_line m.bytes c.args.case c.requires m.words c.body_size.ensures.0 (search rules) c.words.ensures (search rules) c.in-Judge.is)

pub returns-in-Answers : goal.returns-in-Answers
returns-in-Answers c =
    let m = c.args.self.now in
    printed_as m.bytes c.args.case c.requires m.out c.sevens_line.ensures
    (answers_line_lem m.bytes c.args.case c.requires m.words c.body_size.ensures.0 (search rules) c.words.ensures (search rules) m.lent c.in-Answers.is (search rules))

pub returns-in-Shown : goal.returns-in-Shown
returns-in-Shown c =
    let m = c.args.self.now in
    printed_as m.bytes c.args.case c.requires m.out c.shown_at.ensures
    (shown_line_lem m.bytes c.args.case c.requires m.words c.body_size.ensures.0 (search rules) c.words.ensures (search rules) c.in-Shown.is)

pub returns-in-Bytes : goal.returns-in-Bytes
returns-in-Bytes c =
    let m = c.args.self.now in
    printed_as m.bytes c.args.case c.requires m.out (c.stdin_line.ensures.0, c.stdin_line.ensures.1) (bytes_line m.bytes c.args.case c.in-Bytes.is)

pub returns-in-Rounds : goal.returns-in-Rounds
returns-in-Rounds c =
    let m = c.args.self.now in
    printed_as m.bytes c.args.case c.requires m.out c.rounds_at.ensures
    (rounds_line_lem m.bytes c.args.case c.requires m.words c.body_size.ensures.0 (search rules) c.words.ensures (search rules) m.lent c.in-Rounds.is (search rules))
