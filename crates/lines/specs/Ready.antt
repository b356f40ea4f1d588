-- What the rules stand on: the dossier's words as laid out, where each clause, credential and probe begins, each probe's answer, and the value of the secret that a proof shows.
use Rattle.std.specs.Prelude.{ℕ, ◌≤◌, ◌≡◌, Bool, List, length, get_or}
use Rattle.std.proofs.Math.Option.{some}
use Rattle.meaning.specs.Tests.{at}
use Rattle.meaning.specs.Papers.{Entry, policy, answer}
use Rattle.meaning.specs.Looks.{aim}
use Rattle.promise.specs.Code.{bit}
use Rattle.promise.specs.Place.{Starts}
use Rattle.promise.specs.Line.{line}
use Rattle.promise.specs.Layout.{dossier_at, Laid, ClauseStarts, CredStarts, ProbeStarts}
use Rattle.promise.specs.declared.Layout.{Layout}

-- a table has where each of the n lines before this one begins
abbrev pub LineStarts : List ℕ → ℕ → List ℕ → Type 0
LineStarts s n t = Starts (line.next s) 2 n t

-- a table has the policy's answer to each probe
abbrev pub Told : List ℕ → Layout → List ℕ → Type 0
Told d o table = (j : ℕ) (e : Entry) → at (dossier_at d o).probes j ≡ some e → get_or table j 0 ≡ bit (answer (dossier_at d o) (policy (dossier_at d o)) e)

pub record Ready (d : List ℕ) (o : Layout) (at_clause at_cred at_probe answers : List ℕ) (goal : Bool) : Type 0 where
  pub laid : Laid d o
  pub clauses : ClauseStarts d o at_clause
  pub creds : CredStarts d o at_cred
  pub probes : ProbeStarts d o at_probe
  pub long : o.nprobes ≤ length answers
  pub told : Told d o answers
  pub aimed : goal ≡ aim (dossier_at d o)
