-- What is due where the words read so far end (01, "The two papers"): the layout once more, as the places where a paper may stop.
-- `InClause n us what` says that the words us begin a clause, sound so far and not whole, and that `what` must come next; and so for each thing.
use Rattle.std.specs.Prelude.{ℕ, suc, ◌≤◌, ◌<◌, ◌≡◌, List, [], ◌∷◌, ◌++◌, Bool, length}
use Rattle.words.specs.Code.{code_list, code_all, code_many, RisingFrom}
use Rattle.meaning.specs.Tests.{◌∈◌}
use Rattle.meaning.specs.Policy.{Clause}
use Rattle.meaning.specs.Papers.{Entry, Marked, Literal}
use Rattle.promise.specs.Code.{bit, code_clause, code_marked, code_entry, code_literal, code_line}
use Rattle.promise.specs.Form.{ListForm, ClauseForm, MarkedForm, EntryForm, LabelsForm, ClausesForm, CredsForm, ProbesForm, LiteralsForm, LineForm}
use Rattle.promise.specs.Line.{data_count}

-- a word that is tested by itself
pub data Word : Type 0 where
  -- a count, with the least and the most that it may be
  count : ℕ → ℕ → Word
  -- a label; an atom number, below n; a credential number, below m. Then the least that it may be: in a list, more than the one before it.
  label : ℕ → Word
  atom credential : ℕ → ℕ → Word
  -- a mark or a sign; a certificate's kind; a line's rule; a data word, of which form asks nothing
  mark kind rule datum : Word

pub data What : Type 0 where
  one : Word → What
  -- a formula over n atoms, with its length first
  formula : ℕ → What
  -- a literal for n atoms and m credentials, after these of its line
  literal : ℕ → ℕ → List Literal → What

-- "strictly rising": the least that may follow these words, if the first may be low
unfoldable pub above : ℕ → List ℕ → ℕ
above low [] = low
above low (x ∷ xs) = above (suc x) xs

-- a list: its count, then so many words, strictly rising
pub data InList (lo hi : ℕ) (Good : ℕ → Type 0) (next : ℕ → Word) : List ℕ → What → Type 0 where
  size : InList lo hi Good next [] (one (count lo hi))
  more : (k : ℕ) (xs : List ℕ) → lo ≤ k → k ≤ hi → length xs < k → RisingFrom 0 xs → ((x : ℕ) → x ∈ xs → Good x) → InList lo hi Good next (k ∷ xs) (one (next (above 0 xs)))

abbrev pub InAtoms : ℕ → List ℕ → What → Type 0
InAtoms n = InList 0 8 (λ x. x < n) (atom n)

abbrev pub InCredentials : ℕ → List ℕ → What → Type 0
InCredentials m = InList 0 32 (λ x. x < m) (credential m)

-- a section: its count, then so many things; In says what is due within one of them
pub data InSection {A : Type 0} (lo hi : ℕ) (code : A → List ℕ) (Form : A → Type 0) (In : List ℕ → What → Type 0) : List ℕ → What → Type 0 where
  size : InSection lo hi code Form In [] (one (count lo hi))
  more : (k : ℕ) (xs : List A) {us : List ℕ} {what : What} → lo ≤ k → k ≤ hi → length xs < k → ((x : A) → x ∈ xs → Form x) → In us what → InSection lo hi code Form In (k ∷ (code_all code xs ++ us)) what

-- ---- the dossier

-- "head, body count (0 to 8), body atoms strictly rising"
pub data InClause (n : ℕ) : List ℕ → What → Type 0 where
  head : InClause n [] (one (atom n 0))
  body : (h : ℕ) {us : List ℕ} {what : What} → h < n → InAtoms n us what → InClause n (h ∷ us) what

-- "mark (0 hidden, 1 visible)"
pub data InMarked (n : ℕ) : List ℕ → What → Type 0 where
  mark : InMarked n [] (one Word.mark)
  clause : (v : Bool) {us : List ℕ} {what : What} → InClause n us what → InMarked n (bit v ∷ us) what

-- "credential count (0 to 32), credential numbers strictly rising, formula length (1 to 64), formula words"
pub data InEntry (n m : ℕ) : List ℕ → What → Type 0 where
  creds : {us : List ℕ} {what : What} → InCredentials m us what → InEntry n m us what
  formula : (S : List ℕ) → ListForm 32 m S → InEntry n m (code_list S) (What.formula n)

-- "n (1 to 64), then n labels, strictly rising"
abbrev pub InLabels : List ℕ → What → Type 0
InLabels = InList 1 64 (λ x. Unit {0}) label

-- "Clause count (0 to 128)", "Credential count (0 to 32)", "Probe count (0 to 64)", "a count that must be 1, then the secret"
module _ (n : ℕ) where
  abbrev pub InClauses : List ℕ → What → Type 0
  InClauses = InSection 0 128 code_marked (MarkedForm n) (InMarked n)

  abbrev pub InCreds : List ℕ → What → Type 0
  InCreds = InSection 0 32 code_clause (ClauseForm n) (InClause n)

  module _ (m : ℕ) where
    abbrev pub InProbes : List ℕ → What → Type 0
    InProbes = InSection 0 64 code_entry (EntryForm n m) (InEntry n m)

    abbrev pub InSecret : List ℕ → What → Type 0
    InSecret = InSection 1 1 code_entry (EntryForm n m) (InEntry n m)

-- "Sections stand in a fixed order, each after its count, and each section is read as the part that begins where the former ended."
pub data InDossier : List ℕ → What → Type 0 where
  labels : {us : List ℕ} {what : What} → InLabels us what → InDossier us what
  clauses : (ls : List ℕ) {us : List ℕ} {what : What} → LabelsForm ls
      → InClauses (length ls) us what
      → InDossier (code_list ls ++ us) what
  creds : (ls : List ℕ) (cs : List Marked) {us : List ℕ} {what : What} → LabelsForm ls → ClausesForm (length ls) cs
      → InCreds (length ls) us what
      → InDossier (code_list ls ++ (code_many code_marked cs ++ us)) what
  probes : (ls : List ℕ) (cs : List Marked) (ks : List Clause) {us : List ℕ} {what : What} → LabelsForm ls → ClausesForm (length ls) cs → CredsForm (length ls) ks
      → InProbes (length ls) (length ks) us what
      → InDossier (code_list ls ++ (code_many code_marked cs ++ (code_many code_clause ks ++ us))) what
  secret : (ls : List ℕ) (cs : List Marked) (ks : List Clause) (es : List Entry) {us : List ℕ} {what : What} → LabelsForm ls → ClausesForm (length ls) cs → CredsForm (length ls) ks → ProbesForm (length ls) (length ks) es
      → InSecret (length ls) (length ks) us what
      → InDossier (code_list ls ++ (code_many code_marked cs ++ (code_many code_clause ks ++ (code_many code_entry es ++ us)))) what

-- ---- the certificate, for n atoms and m credentials

-- "sign, credential count (0 to 32), credential numbers rising, atom count (0 to 8), atoms rising, one atom"
pub data InLiteral (n m : ℕ) : List ℕ → What → Type 0 where
  sign : InLiteral n m [] (one mark)
  creds : (v : Bool) {us : List ℕ} {what : What} → InCredentials m us what → InLiteral n m (bit v ∷ us) what
  atoms : (v : Bool) (S : List ℕ) {us : List ℕ} {what : What} → ListForm 32 m S → InAtoms n us what → InLiteral n m (bit v ∷ (code_list S ++ us)) what
  atom : (v : Bool) (S X : List ℕ) → ListForm 32 m S → ListForm 8 n X → InLiteral n m (bit v ∷ (code_list S ++ code_list X)) (one (Word.atom n 0))

-- the rule's number, and all its data words
pub record Ruled (r : ℕ) (ds : List ℕ) : Type 0 where
  pub least : 1 ≤ r
  pub most : r ≤ 8
  pub all : length ds ≡ data_count r

-- "literal count (0 to 8), literals": k is the count, ls are those that have come
pub record Begun (n m k : ℕ) (ls : List Literal) : Type 0 where
  pub few : k ≤ 8
  pub more : length ls < k
  pub sound : LiteralsForm n m ls

-- "rule (1 to 8), the rule's data words, literal count (0 to 8), literals"
pub data InLine (n m : ℕ) : List ℕ → What → Type 0 where
  rule : InLine n m [] (one Word.rule)
  datum : (r : ℕ) (ds : List ℕ) → 1 ≤ r → r ≤ 8 → length ds < data_count r → InLine n m (r ∷ ds) (one Word.datum)
  count : (r : ℕ) (ds : List ℕ) → Ruled r ds → InLine n m (r ∷ ds) (one (Word.count 0 8))
  literal : (r : ℕ) (ds : List ℕ) (k : ℕ) (ls : List Literal) → Ruled r ds → Begun n m k ls → InLine n m (r ∷ (ds ++ (k ∷ code_all code_literal ls))) (What.literal n m ls)
  in_literal : (r : ℕ) (ds : List ℕ) (k : ℕ) (ls : List Literal) {us : List ℕ} {what : What} → Ruled r ds → Begun n m k ls → InLiteral n m us what → InLine n m (r ∷ (ds ++ (k ∷ (code_all code_literal ls ++ us)))) what

-- "Witness: 1, clause count (0 to 128), clauses." "Proof: 2, line count (1 to 1,024), lines."
pub data InCertificate (n m : ℕ) : List ℕ → What → Type 0 where
  kind : InCertificate n m [] (one Word.kind)
  witness : {us : List ℕ} {what : What} → InSection 0 128 code_clause (ClauseForm n) (InClause n) us what → InCertificate n m (1 ∷ us) what
  proof : {us : List ℕ} {what : What} → InSection 1 1024 code_line (LineForm n m) (InLine n m) us what → InCertificate n m (2 ∷ us) what
