-- `verdict::first_failing` meets its contract.
use mathlib.Core.Path.{sym, ap, ◌∙◌}
use native.Mathlib.Omega.{arith}
use Rattle.meaning.specs.Rules.{line_follows}
use Rattle.promise.specs.Line.{line}
use Rattle.promise.specs.Place.{many}
use Rattle.lines.specs.Supposing.{untold}
use Rattle.verdict.proofs.Lowest.{from_start, from_next, from_fault, from_end}
use Rattle.verdict.proofs.Papers.{first_fit, first_starts, line_fits, line_at_lem}
use Rattle.verdict.proofs.first_failing.Goals as goal

pub loop-j-init : goal.loop-j-init
loop-j-init c =
    let a = c.args in
    from_start (line_follows a.grounds.now (many line a.s.now 2 a.k)) a.k

pub invariant_of-before : goal.invariant_of-before
invariant_of-before c =
    let a = c.args in
    (first_starts a.s.now c.requires.0 _ (omega arith), first_fit a.s.now c.requires.0 _ (omega arith) c.requires.1)

pub at-line-requires : goal.at-line-requires
at-line-requires c =
    let a = c.args in
    line_fits a.grounds.now a.s.now a.starts.now a.k c.requires.0 c.loop-j.j (omega arith) c.requires.1

pub returns-then-not-line_follows : goal.returns-then-not-line_follows
returns-then-not-line_follows c =
    let a = c.args in
    let j = c.loop-j.j in
    let said = line_at_lem a.grounds.now a.s.now a.starts.now a.k c.requires.0 j (omega arith) (rw c.at-line.ensures at c.line_follows.ensures) in
    sym (ap untold (from_fault (line_follows a.grounds.now (many line a.s.now 2 a.k)) a.k j c.loop-j.invariant (omega arith) (sym said ∙ c.if-not-line_follows.true)))

pub loop-j-preserved : goal.loop-j-preserved
loop-j-preserved c =
    let a = c.args in
    let j = c.loop-j.j in
    let said = line_at_lem a.grounds.now a.s.now a.starts.now a.k c.requires.0 j (omega arith) (rw c.at-line.ensures at c.line_follows.ensures) in
    from_next (line_follows a.grounds.now (many line a.s.now 2 a.k)) a.k j c.loop-j.invariant (omega arith) (sym said ∙ c.if-not-line_follows.false)

pub returns : goal.returns
returns c =
    let a = c.args in
    sym (ap untold (from_end (line_follows a.grounds.now (many line a.s.now 2 a.k)) a.k c.loop-j.j c.loop-j.invariant (omega arith)))
