-- `verdict::judge_proof` meets its contract.
use Prim.Native.Nat.{ℕ, ◌<◌, ◌≤◌, ◌-◌}
use native.Mathlib.Omega.{arith}
use borrow.Author.Rules.{scaled_Fits}
use lib.ListN.{length-replicate}
use Rattle.lines.proofs.Tables.{lines_begin}
use Rattle.promise.proofs.Place.{front_things}
use Rattle.verdict.proofs.Outcome.{line_below, proof_fails, proof_last}
use Rattle.verdict.proofs.Papers.{line_fits, line_ends}
use Rattle.verdict.proofs.Tables.{lines_fit}
use Rattle.verdict.proofs.judge_proof.Goals as goal

pub whole_as_front-starts : goal.whole_as_front-starts
whole_as_front-starts g c = (omega (arith, c.requires), omega (arith, c.requires))

pub starts-requires : goal.starts-requires
starts-requires g c = front_things _ _ c.args.s.now 2 c.args.k _ (omega (arith, c.requires, length-replicate {A = ℕ} g.row.ROOM 0)) (lines_fit c.args.s.now c.args.k c.requires.3)

pub shared_whole_as_slice-first_failing : goal.shared_whole_as_slice-first_failing
shared_whole_as_slice-first_failing g c = omega (arith, c.requires)

pub first_failing-requires : goal.first_failing-requires
first_failing-requires g c = (lines_begin c.args.s.now c.args.k _ (omega (arith, c.requires, length-replicate {A = ℕ} g.row.ROOM 0)) c.starts.ensures, c.requires.3)

pub offset_bounds-starts-j : goal.offset_bounds-starts-j
offset_bounds-starts-j g c =
    let a = c.args in
    let begun = lines_begin a.s.now a.k _ (omega (arith, c.requires, length-replicate {A = ℕ} g.row.ROOM 0)) c.starts.ensures in
    let h = line_below a.grounds.now a.s.now _ a.k begun c.first_failing.ensures c.in-Some.is in
    let b : a.k ≤ 1024 = omega (arith, c.requires) in
    scaled_Fits _ 1024 8 (omega arith) (omega arith)

pub bounds-starts-j : goal.bounds-starts-j
bounds-starts-j g c =
    let a = c.args in
    let begun = lines_begin a.s.now a.k _ (omega (arith, c.requires, length-replicate {A = ℕ} g.row.ROOM 0)) c.starts.ensures in
    omega (arith, c.requires, line_below a.grounds.now a.s.now _ a.k begun c.first_failing.ensures c.in-Some.is)

pub refusing-requires : goal.refusing-requires
refusing-requires g c =
    let a = c.args in
    let begun = lines_begin a.s.now a.k _ (omega (arith, c.requires, length-replicate {A = ℕ} g.row.ROOM 0)) c.starts.ensures in
    let h = line_below a.grounds.now a.s.now _ a.k begun c.first_failing.ensures c.in-Some.is in
    (line_fits a.grounds.now a.s.now _ a.k begun _ h c.requires.3, line_ends _ _)

pub judge_last-requires : goal.judge_last-requires
judge_last-requires g c =
    let a = c.args in
    let begun = lines_begin a.s.now a.k _ (omega (arith, c.requires, length-replicate {A = ℕ} g.row.ROOM 0)) c.starts.ensures in
    let z : a.k - 1 < a.k = omega (arith, c.requires) in
    line_fits a.grounds.now a.s.now _ a.k begun _ z c.requires.3

pub returns-in-Some : goal.returns-in-Some
returns-in-Some g c d o =
    let a = c.args in
    let begun = lines_begin a.s.now a.k _ (omega (arith, c.requires, length-replicate {A = ℕ} g.row.ROOM 0)) c.starts.ensures in
    proof_fails a.grounds.now a.s.now _ a.k begun c.first_failing.ensures d o c.in-Some.is c.refusing.ensures

pub returns-in-None : goal.returns-in-None
returns-in-None g c d o =
    let a = c.args in
    let begun = lines_begin a.s.now a.k _ (omega (arith, c.requires, length-replicate {A = ℕ} g.row.ROOM 0)) c.starts.ensures in
    proof_last a.grounds.now a.s.now _ a.k begun c.first_failing.ensures d o c.requires.0 c.in-None.is c.judge_last.ensures
