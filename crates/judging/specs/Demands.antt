-- The customer's three demands, over words, of any two functions that might be the entries. That what keeps to the table meets them is `TableEnough`; that what the contracts allow
-- keeps to the table, slack's `Promised`.
use Rattle.std.specs.Prelude.{◌≡◌, List, [], ◌↔◌, ℕ, ◌≤◌, length, Result, Err}
use Rattle.std.proofs.Math.Option.{some}
use Rattle.meaning.specs.Tests.{at}
use Rattle.meaning.specs.Policy.{Policy}
use Rattle.meaning.specs.Formula.{Given}
use Rattle.meaning.specs.Papers.{Entry, Dossier, policy, Yes, Line, Certificate, witness, proof}
use Rattle.meaning.specs.Looks.{Detectable}
use Rattle.meaning.specs.Verdict.{tried, round_in}
use Rattle.meaning.specs.Demands.{Witnesses, Proves}
use Rattle.meaning.specs.Extends.{Extends}
use Rattle.promise.specs.Code.{code_dossier, code_certificate}
use Rattle.promise.specs.Form.{DossierForm}
use Rattle.reply.specs.Answer.{number_of, accepted}
use Rattle.reply.specs.Shown.{shown_of, shown_by}
use Rattle.reply.specs.declared.Reply.{Reply}
use Rattle.reply.specs.declared.Verdict as said
use Rattle.reply.specs.declared.Verdict.TheVariants as verdict
use Rattle.judging.specs.Entries.{Judging, Answering}
use Rattle.judging.specs.Table.{SoundFor, Long, Row, word_to, AnswersRow}

-- "Every dossier and certificate, however damaged, gets one reply: opaque, detectable, or a numbered refusal that shows the words at fault. Neither paper is altered; a refused
-- answers table keeps its contents." The reply is that of a row of the table, what is shown for it is what the row names, and the lent table then holds what the row says. (That
-- neither paper is altered is said of the code, by slack's `Unaltered`.)
abbrev pub Tabled : Judging → Type 0
Tabled f = (d c t : List ℕ) → Row d c t (f d c t).reply (shown_of d c (f d c t).reply) (f d c t).table

abbrev pub AnswersTabled : Answering → Type 0
AnswersTabled g = (d c t : List ℕ) → AnswersRow d t (g d t).reply (shown_by d c (g d t).reply) (g d t).table

pub record Demand1 (f : Judging) (g : Answering) : Type 0 where
  pub judge : Tabled f
  pub answers : AnswersTabled g

-- f accepts the certificate's words c for the dossier D, the lent table being t
abbrev pub Accepts : Judging → said.Verdict → Dossier → List ℕ → List ℕ → Type 0
Accepts f v D c t = (f (code_dossier D) c t).reply ≡ accepted v

-- "Both papers sound in form: a witness is accepted exactly when, with the visible clauses, it answers every probe as the dossier's policy does and" gives the secret
-- "the opposite value" (A2) of that policy's, "by the published Datalog meaning. A proof is accepted exactly when each line follows by its stated rule and the last is
-- empty." "Demands 2 and 3 speak of tables long enough" (A5).
abbrev pub Demand2 : Judging → Type 0
Demand2 f =
    (D : Dossier) (C : Certificate) → DossierForm D → SoundFor D C → (t : List ℕ) → Long D t
    → (Accepts f verdict.Opaque D (code_certificate C) t ↔ ((W : Policy) × (C ≡ witness W) × Witnesses D W))
    × (Accepts f verdict.Detectable D (code_certificate C) t ↔ ((ls : List Line) × (C ≡ proof ls) × Proves D ls))

-- "E = D plus credentials or probes added after D's own, or more clauses marked visible (both well formed)"
pub record Grown (D E : Dossier) : Type 0 where
  pub extends : Extends D E
  pub before : DossierForm D
  pub after : DossierForm E

-- a table with which a paper is accepted is long enough
pub record Demand3 (f : Judging) : Type 0 where
  -- "If a proof is accepted for D," in "every policy of any length with D's visible clauses and D's probe answers" the secret "has the policy's value" (A2).
  pub every : (D : Dossier) → DossierForm D → (c t : List ℕ) → Accepts f verdict.Detectable D c t → Detectable D
  -- "With E ..: the proof is accepted for E"
  pub proof_stays : (D E : Dossier) → Grown D E → (c t u : List ℕ) → Long E u → Accepts f verdict.Detectable D c t → Accepts f verdict.Detectable E c u
  -- "and no witness is"
  pub no_witness : (D E : Dossier) → Grown D E → (c w t u : List ℕ) → Accepts f verdict.Detectable D c t → Accepts f verdict.Opaque E w u → ⊥
  -- "Where no mark differs, a witness accepted for E is accepted for D."
  pub witness_stays : (D E : Dossier) → Grown D E → E.clauses ≡ D.clauses → (w t u : List ℕ) → Long D u → Accepts f verdict.Opaque E w t → Accepts f verdict.Opaque D w u

-- What keeps to the table meets them.
abbrev pub TableEnough : Type 0
TableEnough = (f : Judging) → Tabled f → Demand2 f × Demand3 f

-- ---- of the table itself

-- Some row applies to all words, and all rows that apply say the same: whatever keeps to the table has no choice.
pub record OneRow : Type 0 where
  pub some : (d c t : List ℕ) → (r : Reply) × ((us : List ℕ) × ((u : List ℕ) × Row d c t r us u))
  pub once : (d c t : List ℕ) (r q : Reply) (us vs u v : List ℕ) → Row d c t r us u → Row d c t q vs v → (r ≡ q) × (us ≡ vs) × (u ≡ v)
  pub answers_some : (d t : List ℕ) → (r : Result ℕ Reply) × ((us : List ℕ) × ((u : List ℕ) × AnswersRow d t r us u))
  pub answers_once : (d t : List ℕ) (r q : Result ℕ Reply) (us vs u v : List ℕ) → AnswersRow d t r us u → AnswersRow d t q vs v → (r ≡ q) × (us ≡ vs) × (u ≡ v)

-- "a refused answers table keeps its contents"; the judge's table keeps them but on 14 and 15: "Other replies leave it untouched" (A5)
pub record TablesKept : Type 0 where
  pub judge : (d c t : List ℕ) (r : Reply) (us u : List ℕ) → Row d c t r us u → (number_of r.verdict ≡ some 14 → ⊥) → (number_of r.verdict ≡ some 15 → ⊥) → u ≡ t
  pub answers : (d t : List ℕ) (r : Reply) (us u : List ℕ) → AnswersRow d t (Err r) us u → u ≡ t

-- A refusal's number is in the table; with 64 words lent it is not 18 (A5).
pub record Numbers : Type 0 where
  pub judge : (d c t : List ℕ) (r : Reply) (us u : List ℕ) → Row d c t r us u → (k : ℕ) → number_of r.verdict ≡ some k → (1 ≤ k) × (k ≤ 18) × (64 ≤ length t → k ≤ 17)
  pub answers : (d t : List ℕ) (r : Reply) (us u : List ℕ) → AnswersRow d t (Err r) us u → (k : ℕ) → number_of r.verdict ≡ some k → (1 ≤ k) × (k ≤ 18)

-- "writes every probe's answer, 0 or 1": 1 exactly when the answer is yes, by the published meaning
abbrev pub AnswersMeant : Type 0
AnswersMeant = (D : Dossier) (j : ℕ) (e : Entry) → at D.probes j ≡ some e → (word_to D j ≤ 1) × ((word_to D j ≡ 1) ↔ Yes D (policy D) e)

-- The numbers that 14 and 15 write (A5), by the published meaning: an atom holds exactly when its number is not 0, and no number is above 64. What else they are, meaning's
-- `FirstRounds` says.
abbrev pub RoundsMeant : Type 0
RoundsMeant =
    (D : Dossier) (W : Policy) → DossierForm D → SoundFor D (witness W) → (e : Entry) (a : ℕ)
    → (round_in D W e a ≤ 64) × (Given D.creds (tried D W) e.creds [] a ↔ (round_in D W e a ≡ 0 → ⊥))
