-- 01's table ("What the reply says"), for the judge and for the answers entry. The rows of form, 1 to 13, are promise/specs/Table.antt.
use Rattle.std.specs.Prelude.{ℕ, ◌+◌, ◌-◌, ◌<◌, ◌≤◌, ◌≡◌, List, [], length, take, Result, Ok, Err}
use Rattle.std.proofs.Math.Option.{some}
use Rattle.words.specs.Code.{code_all}
use Rattle.meaning.specs.Tests.{at, named}
use Rattle.meaning.specs.Policy.{Policy}
use Rattle.meaning.specs.Papers as papers
use Rattle.meaning.specs.Papers.{Entry, policy, answer, Line, witness, proof}
use Rattle.meaning.specs.Verdict.{round_in}
use Rattle.meaning.specs.Demands.{Lowest, Differs, Fails, Witnesses, KeepsSecret, Proves, EndsOpen}
use Rattle.promise.specs.Code.{bit, code_entry, code_line, code_dossier, code_certificate}
use Rattle.promise.specs.Form.{DossierForm, CertificateForm}
use Rattle.promise.specs.Layout.{probes_at, secret_at}
use Rattle.promise.specs.Place.{filled}
use Rattle.promise.specs.Table.{DossierRow, CertificateRow}
use Rattle.reply.specs.Answer.{accepted, refused}
use Rattle.reply.specs.declared.Paper.TheVariants.{Dossier, Certificate}
use Rattle.reply.specs.declared.Reply.{Reply}
use Rattle.reply.specs.declared.Verdict.TheVariants.{Opaque, Detectable}

-- a certificate that is sound in form for D
abbrev pub SoundFor : papers.Dossier → papers.Certificate → Type 0
SoundFor D C = CertificateForm (length D.labels) (length D.creds) C

-- the words d and c are those of two papers that are sound in form
pub record Both (d c : List ℕ) (D : papers.Dossier) (C : papers.Certificate) : Type 0 where
  pub dossier_words : d ≡ code_dossier D
  pub certificate_words : c ≡ code_certificate C
  pub form : DossierForm D
  pub sound : SoundFor D C

-- the lent table is long enough: a word for each atom (request A5)
abbrev pub Long : papers.Dossier → List ℕ → Type 0
Long D t = length D.labels ≤ length t

-- The rows, for the words d and c and the lent table t: the reply, the words that are shown, and what the table then holds.
-- "Order: the dossier's form from left to right; 10; the certificate's form from left to right; then meaning." And A5: "18 if the table is shorter than n, after the
-- certificate's form and before its meaning"; but for 14 and 15 "Other replies leave it untouched, as are words beyond n."
pub data Row (d c t : List ℕ) : Reply → List ℕ → List ℕ → Type 0 where
  -- 1 to 9 in the dossier
  in_dossier : {e p : ℕ} {us : List ℕ} → DossierRow d e p us → Row d c t (refused e Dossier p (length us)) us t
  -- 1 to 6 and 9 to 13 in the certificate, with a sound dossier
  in_certificate : (D : papers.Dossier) {e p : ℕ} {us : List ℕ} → d ≡ code_dossier D → DossierForm D → CertificateRow (length D.labels) (length D.creds) c e p us
      → Row d c t (refused e Certificate p (length us)) us t
  -- 18 (A5), for proofs and for witnesses that would be accepted too. It is about no word: the empty part at the dossier's start
  short : (D : papers.Dossier) (C : papers.Certificate) → Both d c D C → length t < length D.labels → Row d c t (refused 18 Dossier 0 0) [] t
  -- "For an acceptance: certificate, place 0, empty part."
  opaque : (D : papers.Dossier) (W : Policy) → Both d c D (witness W) → Long D t → Witnesses D W → Row d c t (accepted Opaque) [] t
  detectable : (D : papers.Dossier) (ls : List Line) → Both d c D (proof ls) → Long D t → Proves D ls → Row d c t (accepted Detectable) [] t
  -- 14: "witness: a probe's answer differs": "that probe in the dossier", probe k, after the probes before it. A5: "On 14 and 15 the judge writes these, for the witness with the
  -- visible clauses and that probe's or the secret's credentials, into a lent table of n words."
  probe : (D : papers.Dossier) (W : Policy) (k : ℕ) (e : Entry) → Both d c D (witness W) → Long D t → Lowest (Differs D W) k → at D.probes k ≡ some e
      → Row d c t (refused 14 Dossier (probes_at D + 1 + length (code_all code_entry (take k D.probes))) (length (code_entry e))) (code_entry e) (filled (round_in D W e) (length D.labels) t)
  -- 15: "when the witness gives the secret the policy's value" (A2): "the secret in the dossier"
  secret : (D : papers.Dossier) (W : Policy) → Both d c D (witness W) → Long D t → KeepsSecret D W
      → Row d c t (refused 15 Dossier (secret_at D + 1) (length (code_entry D.secret))) (code_entry D.secret) (filled (round_in D W D.secret) (length D.labels) t)
  -- 16: "a line doesn't follow": "that line", line k, after the lines before it
  line : (D : papers.Dossier) (ls : List Line) (k : ℕ) (l : Line) → Both d c D (proof ls) → Long D t → Lowest (Fails D ls) k → at ls k ≡ some l
      → Row d c t (refused 16 Certificate (2 + length (code_all code_line (take k ls))) (length (code_line l))) (code_line l) t
  -- 17: "the last line isn't empty": "that line"
  last : (D : papers.Dossier) (ls : List Line) (l : Line) → Both d c D (proof ls) → Long D t → EndsOpen D ls → at ls (length ls - 1) ≡ some l
      → Row d c t (refused 17 Certificate (2 + length (code_all code_line (take (length ls - 1) ls))) (length (code_line l))) (code_line l) t

-- "every probe's answer, 0 or 1, one word each": probe j's
unfoldable pub word_to : papers.Dossier → ℕ → ℕ
word_to D j = bit (named (at D.probes j) λ e. answer D (policy D) e)

-- The answers entry's rows, for the dossier's words d and the table t: what it answers, the words that are shown, and what the table then holds.
pub data AnswersRow (d t : List ℕ) : Result ℕ Reply → List ℕ → List ℕ → Type 0 where
  -- 1 to 9
  form : {e p : ℕ} {us : List ℕ} → DossierRow d e p us → AnswersRow d t (Err (refused e Dossier p (length us))) us t
  -- 18: "answers table shorter than the probe count": "empty part at the dossier's start"
  short : (D : papers.Dossier) → d ≡ code_dossier D → DossierForm D → length t < length D.probes → AnswersRow d t (Err (refused 18 Dossier 0 0)) [] t
  -- "replies with the count; words beyond stay"
  count : (D : papers.Dossier) → d ≡ code_dossier D → DossierForm D → length D.probes ≤ length t → AnswersRow d t (Ok (length D.probes)) [] (filled (word_to D) (length D.probes) t)
