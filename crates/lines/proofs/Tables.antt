-- The tables that `promise::starts` fills, at the front of longer ones, are those that the rules ask for.
use Prim.Native.Nat.{ℕ, ◌≤◌}
use mathlib.Core.Path.{◌≡◌}
use mathlib.Core.List.{List, ◌++◌}
use lib.ListN.{length, take, drop}
use Rattle.promise.specs.Place.{place, rows}
use Rattle.promise.specs.Thing.{clause_next, marked_next, entry_next, line_next}
use Rattle.promise.specs.declared.Layout.{Layout}
use Rattle.promise.proofs.Place.{front_starts}
use Rattle.promise.specs.Layout.{ClauseStarts, CredStarts, ProbeStarts}
use Rattle.lines.specs.Ready.{LineStarts}

module _ (ws : List ℕ) (o : Layout) (old : List ℕ) {t : List ℕ} where
  pub clauses_begin : o.nclauses ≤ length old → t ≡ rows (place (marked_next ws) o.clauses) (length (take o.nclauses old)) → ClauseStarts ws o (t ++ drop o.nclauses old)
  clauses_begin = front_starts _ _ _ old

  pub creds_begin : o.ncreds ≤ length old → t ≡ rows (place (clause_next ws) o.creds) (length (take o.ncreds old)) → CredStarts ws o (t ++ drop o.ncreds old)
  creds_begin = front_starts _ _ _ old

  pub probes_begin : o.nprobes ≤ length old → t ≡ rows (place (entry_next ws) o.probes) (length (take o.nprobes old)) → ProbeStarts ws o (t ++ drop o.nprobes old)
  probes_begin = front_starts _ _ _ old

pub lines_begin : (ws : List ℕ) (k : ℕ) (old : List ℕ) {t : List ℕ} → k ≤ length old → t ≡ rows (place (line_next ws) 2) (length (take k old)) → LineStarts ws k (t ++ drop k old)
lines_begin ws k old = front_starts _ _ _ old
