-- The judge before request A2, on decoded papers: a proof showed the secret true, a witness made it false. All else was as it is.
use Rattle.std.specs.Prelude.{◌≡◌, Bool, true, false, List}
use Rattle.meaning.specs.Tests.{◌is◌, choose}
use Rattle.meaning.specs.Formula.{neg}
use Rattle.meaning.specs.Papers.{Entry, Dossier, policy, Yes, Literal, Rule, number, Line, Certificate, witness, proof}
use Rattle.meaning.specs.Rules.{value, ◌gives◌, follows, line_by}
use Rattle.meaning.specs.Verdict.{Outcome, judge_witness, judge_lines, judge}

-- Rule 2, as 01 has it: "suppose each literal false: the secret's formula is true"
unfoldable pub former_follows : Dossier → List Line → List Literal → Rule → Bool
former_follows D before ls r = choose (number r is 2) (value ls D.secret.creds D.secret.formula gives true) (follows D before ls r)

-- 15, as 01 has it: "witness: the secret is true"
unfoldable pub former_judge : Dossier → Certificate → Outcome
former_judge D (witness W) = judge_witness D W false
former_judge D (proof lines) = judge_lines lines (line_by (former_follows D) lines)

-- "on a sound dossier whose secret is true in its policy every reply is what it was before": the outcome, sound or not. (Judging's `RepliesKept` has the replies.)
abbrev pub TrueAsBefore : Type 0
TrueAsBefore = (D : Dossier) (C : Certificate) → Yes D (policy D) D.secret → judge D C ≡ former_judge D C

-- "the dossier with the secret denied"
unfoldable pub asking : Dossier → Entry → Dossier
asking D e = record { labels = D.labels; clauses = D.clauses; creds = D.creds; probes = D.probes; secret = e }

unfoldable pub denying : Dossier → Dossier
denying D = asking D (record { creds = D.secret.creds; formula = neg D.secret.formula })

-- "on one whose secret is false the outcome is the one that the former judge gave to the dossier with the secret denied"
abbrev pub FalseAsDenied : Type 0
FalseAsDenied = (D : Dossier) (C : Certificate) → (Yes D (policy D) D.secret → ⊥) → judge D C ≡ former_judge (denying D) C
