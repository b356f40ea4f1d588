-- 01's table of refusals ("What the reply says"), the rows of form: 1 to 13.
use Rattle.std.specs.Prelude.{ℕ, suc, ◌+◌, ◌≤◌, ◌<◌, ◌≡◌, List, [], ◌∷◌, ◌++◌, length}
use Rattle.words.specs.Code.{code_list}
use Rattle.meaning.specs.Tests.{◌∈◌}
use Rattle.meaning.specs.Formula.{Formula}
use Rattle.meaning.specs.Papers.{Dossier, Literal, Certificate}
use Rattle.promise.specs.Code.{bit, code_formula, code_literal, code_dossier, code_certificate}
use Rattle.promise.specs.Form.{FormulaForm, StatementForm, DossierForm, PartsForm}
use Rattle.promise.specs.Due.{Word, count, label, atom, credential, mark, kind, rule, What, one, formula, literal, InDossier, InCertificate}

-- The rows that show a word tested by itself: what is due, the word that is there, and the number. "A word is tested for presence, then range, then rising order."
pub data Wrong : Word → ℕ → ℕ → Type 0 where
  -- 2: "a count or length outside its limits"
  limits : {lo hi x : ℕ} → (lo ≤ x → x ≤ hi → ⊥) → Wrong (count lo hi) x 2
  -- 3: "an atom number not below n"
  no_atom : {n low x : ℕ} → n ≤ x → Wrong (atom n low) x 3
  -- 4: "a list not strictly rising": "the later word"
  label_order : {low x : ℕ} → x < low → Wrong (label low) x 4
  atom_order : {n low x : ℕ} → x < n → x < low → Wrong (atom n low) x 4
  cred_order : {m low x : ℕ} → x < m → x < low → Wrong (credential m low) x 4
  -- 5: "a mark or sign above 1"
  no_mark : {x : ℕ} → 1 < x → Wrong mark x 5
  -- 6: "a credential number not below the count"
  no_cred : {m low x : ℕ} → m ≤ x → Wrong (credential m low) x 6
  -- 11: "certificate kind not 1 or 2"
  no_kind : {x : ℕ} → (x ≡ 1 → ⊥) → (x ≡ 2 → ⊥) → Wrong kind x 11
  -- 12: "rule not 1 to 8"
  no_rule : {x : ℕ} → (1 ≤ x → x ≤ 8 → ⊥) → Wrong rule x 12

-- "formula length (1 to 64)"
pub record LengthForm (fs : List ℕ) : Type 0 where
  pub least : 1 ≤ length fs
  pub most : length fs ≤ 64

-- "each operand in turn": the formula may be d deep, the words us of it have come, and the operand that is due next may be k deep
pub data Operand (n : ℕ) : ℕ → List ℕ → ℕ → Type 0 where
  first : {d : ℕ} → Operand n d [] d
  neg : {d k : ℕ} {us : List ℕ} → Operand n d us k → Operand n (suc d) (257 ∷ us) k
  left : {d k : ℕ} {us : List ℕ} (x : ℕ) → 258 ≤ x → x ≤ 259 → Operand n d us k → Operand n (suc d) (x ∷ us) k
  right : {d k : ℕ} {us : List ℕ} (x : ℕ) (f : Formula) → 258 ≤ x → x ≤ 259 → FormulaForm n d f → Operand n d us k → Operand n (suc d) (x ∷ (code_formula f ++ us)) k

-- All rows: what is due, the words of the paper from there on, the number, the place counted from there, and the words shown.
pub data Fault : What → List ℕ → ℕ → ℕ → List ℕ → Type 0 where
  -- 1: "a word is needed and the paper has ended": "empty part at its end"
  ended : {what : What} → Fault what [] 1 0 []
  -- the rows above: "that word"
  word : {w : Word} {x e : ℕ} {rest : List ℕ} → Wrong w x e → Fault (one w) (x ∷ rest) e 0 (x ∷ [])
  -- of a formula: "A formula's length is tested (2), then that so many words remain (1), then each word: depth, then kind."
  no_length : {n x e : ℕ} {rest : List ℕ} → Wrong (count 1 64) x e → Fault (formula n) (x ∷ rest) e 0 (x ∷ [])
  few_remain : {n len : ℕ} {fs : List ℕ} → 1 ≤ len → len ≤ 64 → length fs < len → Fault (formula n) (len ∷ fs) 1 (1 + length fs) []
  -- 3: "in a formula, n to 255"; 7: "a formula word above 259": "that word"
  high : {n d x : ℕ} (us fs rest : List ℕ) → LengthForm (us ++ (x ∷ fs)) → Operand n 16 us (suc d) → n ≤ x → x ≤ 255 → Fault (formula n) (code_list (us ++ (x ∷ fs)) ++ rest) 3 (1 + length us) (x ∷ [])
  unknown : {n d x : ℕ} (us fs rest : List ℕ) → LengthForm (us ++ (x ∷ fs)) → Operand n 16 us (suc d) → 259 < x → Fault (formula n) (code_list (us ++ (x ∷ fs)) ++ rest) 7 (1 + length us) (x ∷ [])
  -- 8: "a formula too deep, or not exactly its length": "its length word". "A formula complete before its length ends is 8 without a look at the words left; one that needs a word past its length is 8 too."
  too_deep : {n : ℕ} (us fs rest : List ℕ) → LengthForm (us ++ fs) → Operand n 16 us 0 → Fault (formula n) (code_list (us ++ fs) ++ rest) 8 0 (length (us ++ fs) ∷ [])
  complete : {n : ℕ} (f : Formula) (x : ℕ) (fs rest : List ℕ) → LengthForm (code_formula f ++ (x ∷ fs)) → FormulaForm n 16 f → Fault (formula n) (code_list (code_formula f ++ (x ∷ fs)) ++ rest) 8 0 (length (code_formula f ++ (x ∷ fs)) ∷ [])
  needs : {n d : ℕ} (fs rest : List ℕ) → LengthForm fs → Operand n 16 fs d → Fault (formula n) (code_list fs ++ rest) 8 0 (length fs ∷ [])
  -- 13: "a statement named twice in a line": "the later literal's sign". "13 is tested when the later literal's last word has passed."
  twice : {n m : ℕ} {before : List Literal} (l x : Literal) (rest : List ℕ) → StatementForm n m l.said → x ∈ before → x.said ≡ l.said → Fault (literal n m before) (code_literal l ++ rest) 13 0 (bit l.positive ∷ [])

-- Of a paper whose words are ws: the number, the place, and the words shown. Due says what is due after words that are sound so far, Whole which words are a whole paper.
pub data FormRow (Due : List ℕ → What → Type 0) (Whole : List ℕ → Type 0) (ws : List ℕ) : ℕ → ℕ → List ℕ → Type 0 where
  due : (us rest : List ℕ) (what : What) {e q : ℕ} {shown : List ℕ} → ws ≡ us ++ rest → Due us what → Fault what rest e q shown → FormRow Due Whole ws e (length us + q) shown
  -- 9: "words left over": "the first of them"
  left_over : (us : List ℕ) (x : ℕ) (rest : List ℕ) → ws ≡ us ++ (x ∷ rest) → Whole us → FormRow Due Whole ws 9 (length us) (x ∷ [])

-- ---- of a dossier

abbrev pub WholeDossier : List ℕ → Type 0
WholeDossier us = (D : Dossier) × DossierForm D × (us ≡ code_dossier D)

abbrev pub DossierRow : List ℕ → ℕ → ℕ → List ℕ → Type 0
DossierRow = FormRow InDossier WholeDossier

-- ---- of a certificate, for n atoms and m credentials

abbrev pub WholeCertificate : ℕ → ℕ → List ℕ → Type 0
WholeCertificate n m us = (C : Certificate) × PartsForm n m C × (us ≡ code_certificate C)

pub data CertificateRow (n m : ℕ) (ws : List ℕ) : ℕ → ℕ → List ℕ → Type 0 where
  -- 10: "certificate above 24,000 words": "empty part at its start"
  long : 24000 < length ws → CertificateRow n m ws 10 0 []
  form : {e p : ℕ} {shown : List ℕ} → length ws ≤ 24000 → FormRow (InCertificate n m) (WholeCertificate n m) ws e p shown → CertificateRow n m ws e p shown
