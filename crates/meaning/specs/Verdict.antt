-- The judge's outcome on decoded papers (01, "What the reply says": 14 to 17, opaque and detectable).
use Rattle.std.specs.Prelude.{◌≡◌, Bool, not, List, [], ◌++◌, ℕ, ◌-◌, length}
use Rattle.std.proofs.Math.Option.{Option, none, some}
use Rattle.meaning.specs.Tests.{◌is◌, agree, at, named, choose, lowest}
use Rattle.meaning.specs.Policy.{Policy, first_round}
use Rattle.meaning.specs.Formula.{joined}
use Rattle.meaning.specs.Papers.{Entry, Dossier, policy, visible, answer, Line, Certificate, witness, proof}
use Rattle.meaning.specs.Looks.{aim}
use Rattle.meaning.specs.Rules.{line_follows}

pub data Outcome : Type 0 where
  opaque detectable : Outcome
  -- 14, with the probe's number
  probe_differs : ℕ → Outcome
  -- 15: "when the witness gives the secret the policy's value" (A2)
  secret_kept : Outcome
  -- 16, with the line's number
  line_fails : ℕ → Outcome
  -- 17
  last_not_empty : Outcome

-- "The policy tried is these with the dossier's visible clauses."
unfoldable pub tried : Dossier → Policy → Policy
tried D W = W ++ visible D

-- the policy tried answers probe k as the dossier's policy does
unfoldable pub probe_agrees : Dossier → Policy → ℕ → Bool
probe_agrees D W k = named (at D.probes k) λ e. agree (answer D (tried D W) e) (answer D (policy D) e)

-- the last line is empty
unfoldable pub last_empty : List Line → Bool
last_empty lines = named (at lines (length lines - 1)) λ l. length l.literals is 0

-- the lowest that is at fault; with none, by the last test
unfoldable pub decide : Option ℕ → (ℕ → Outcome) → Bool → Outcome → Outcome → Outcome
decide (some k) fails b good bad = fails k
decide none fails b good bad = choose b good bad

-- "In meaning: lowest probe, then secret; or lowest line, then 17." The secret is to have the value b in the policy tried; line k is to pass the test.
abbrev pub judge_witness : Dossier → Policy → Bool → Outcome
judge_witness D W b =
    decide (lowest (probe_agrees D W) 0 (length D.probes)) probe_differs
    (agree (answer D (tried D W) D.secret) b) opaque secret_kept

abbrev pub judge_lines : List Line → (ℕ → Bool) → Outcome
judge_lines lines test =
    decide (lowest test 0 (length lines)) line_fails
    (last_empty lines) detectable last_not_empty

unfoldable pub judge : Dossier → Certificate → Outcome
judge D (witness W) = judge_witness D W (not (aim D))
judge D (proof lines) = judge_lines lines (line_follows D lines)

-- Request A5, "Why did the probe differ?": the entry that an outcome is about, 14 "that probe", 15 "the secret"
unfoldable pub about : Dossier → Outcome → Option Entry
about D opaque = none
about D detectable = none
about D (probe_differs k) = at D.probes k
about D secret_kept = some D.secret
about D (line_fails k) = none
about D last_not_empty = none

-- atom a's number "for the witness with the visible clauses and that probe's or the secret's credentials"
unfoldable pub round_in : Dossier → Policy → Entry → ℕ → ℕ
round_in D W e a = first_round (joined D.creds (tried D W) e.creds []) a

-- what the demands call accepted
abbrev pub WitnessAccepted : Dossier → Policy → Type 0
WitnessAccepted D W = judge D (witness W) ≡ opaque

abbrev pub ProofAccepted : Dossier → List Line → Type 0
ProofAccepted D lines = judge D (proof lines) ≡ detectable
