-- An entry's answer and the rounds that first add each atom, from the table after 64 rounds.
use Prim.Native.Nat.{ℕ, zero, suc, ◌+◌, ◌-◌, ◌<◌, ◌≤◌}
use mathlib.Core.Path.{◌≡◌, refl, sym, ap, ap₂, ◌∙◌, subst}
use mathlib.Core.Bool.{Bool, true, false, not}
use mir.Val.{bool_byte}
use mathlib.Core.List.{List, [], ◌∷◌, ◌++◌}
use native.Mathlib.Omega.{arith}
use native.Mathlib.Numerals.{add-one}
use lib.ListN.{length, get_or, take, drop, replicate}
use lib.Seq.{take_at}
use Rattle.meaning.specs.Tests.{◌∈◌, ◌and◌, ◌or◌, same}
use Rattle.meaning.specs.Policy.{Clause, Policy, holds, first_round}
use Rattle.meaning.specs.Formula.{Formula, always, atom, neg, conj, disj, read, joined, given, truth}
use Rattle.meaning.specs.Papers.{Marked, answer}
use Rattle.meaning.proofs.Tests.{same→≡}
use Rattle.promise.specs.Code.{bit}
use Rattle.promise.specs.Form.{FormulaForm}
use Rattle.promise.specs.Place.{many, place, Fit, Starts, rows, filled}
use Rattle.promise.specs.Clause.{credential, marked}
use Rattle.promise.specs.Formula.{FormulaFits, formula_at, entry_at, entry_of, EntryFits, entry}
use Rattle.promise.specs.declared.EntryAt.{EntryAt}
use Rattle.promise.specs.Layout.{dossier_at, Laid}
use Rattle.promise.specs.declared.Layout.{Layout}
use Rattle.promise.proofs.Place.{fit_each, rows_length, rows_get, rows_are}
use Rattle.evaluation.specs.Table.{has, in_table}
use Rattle.evaluation.specs.Which.{policy_at, joined_at, WhichFits, Sources, Ready}
use Rattle.evaluation.specs.Answer.{answer_of, answer_word, round_of}
use Rattle.evaluation.specs.Held.{table_of, last_of, read_in}
use Rattle.evaluation.specs.Policy.{Asked, Keeps, kept_at, last_kept, table_in}
use Rattle.evaluation.specs.Posed.{Posed}
use Rattle.evaluation.specs.declared.Kept.{Kept}
use Rattle.std.specs.Prelude.{None, Some}
use Rattle.evaluation.specs.declared.Which.{Which}
use Rattle.evaluation.specs.declared.Which.TheVariants.{Own, Tried}
use Rattle.evaluation.proofs.Atoms.{BelowOne, own_below, tried_below, sent_below}
use Rattle.evaluation.proofs.Rounds.{Below, has_holds}

-- ---- the atoms of the joined policy are below n

below_clauses : (n : ℕ) (ws : List ℕ) (p k : ℕ) → Fit (credential n) ws p k → Below n (many (credential n) ws p k)
below_clauses n ws p k f = fit_each (credential n) ws (BelowOne n) (λ q h. (h.head, h.body)) p k f

module _ (d : List ℕ) (o : Layout) (creds w : List ℕ) (which : Which) (s : Ready d o creds w which) where
  clauses_below : (m : Marked) → m ∈ (dossier_at d o).clauses → BelowOne o.atoms m.clause
  unfolding dossier_at
  clauses_below = fit_each (marked o.atoms) d (λ (x : Marked). BelowOne o.atoms x.clause) (λ p h. (h.head, h.body)) o.clauses o.nclauses s.laid.clauses

  creds_below_lem : Below o.atoms (dossier_at d o).creds
  unfolding dossier_at
  creds_below_lem = below_clauses o.atoms d o.creds o.ncreds s.laid.creds

  policy_below : (v : Which) → WhichFits o.atoms w v → Below o.atoms (policy_at d o w v)
  unfolding policy_at WhichFits
  policy_below Own f = own_below o.atoms (dossier_at d o) clauses_below
  policy_below (Tried j) f = tried_below o.atoms (dossier_at d o) clauses_below (many (credential o.atoms) w 2 j) (below_clauses o.atoms w 2 j f)

  joined_below : (e : EntryAt) → Below o.atoms (joined_at d o w which e)
  unfolding joined_at
  joined_below e = sent_below o.atoms (dossier_at d o) creds_below_lem (policy_at d o w which) (policy_below which s.witness) (entry_of d e).creds

-- ---- a formula read in the table of the first rounds

truth_table : (n : ℕ) (t : List ℕ) (cs : List Clause) (P : Policy) (S : List ℕ) → ((a : ℕ) → a < n → has t a ≡ holds (joined cs P S []) a) → (e : ℕ) (f : Formula) → FormulaForm n e f → read (in_table t) f ≡ truth cs P S f
unfolding FormulaForm read in_table truth given
truth_table n t cs P S i zero f h = absurd h
truth_table n t cs P S i (suc e) always h = refl
truth_table n t cs P S i (suc e) (atom a) h = i a h
truth_table n t cs P S i (suc e) (neg f) h = ap not (truth_table n t cs P S i e f h)
truth_table n t cs P S i (suc e) (conj f g) h = ap₂ ◌and◌ (truth_table n t cs P S i e f h.0) (truth_table n t cs P S i e g h.1)
truth_table n t cs P S i (suc e) (disj f g) h = ap₂ ◌or◌ (truth_table n t cs P S i e f h.0) (truth_table n t cs P S i e g h.1)

-- ---- the first rounds

-- the first n of 64 zeros
take_zeros : (n m : ℕ) → n ≤ m → take n (replicate {A = ℕ} m 0) ≡ replicate n 0
take_zeros zero m h = refl
take_zeros (suc n) zero h = absurd (omega arith)
take_zeros (suc n) (suc m) h = ap (λ (l : List ℕ). 0 ∷ l) (take_zeros n m (omega arith))

pub zeros : {z : List ℕ} → z ≡ replicate 64 0 → (n : ℕ) → n ≤ 64 → take n z ≡ replicate n 0
zeros e n small = ap (take n) e ∙ take_zeros n 64 small

-- the table after the rounds, back in the longer one that was lent for it
pub run_back : (f : ℕ → ℕ) (n : ℕ) {z t : List ℕ} → z ≡ replicate 64 0 → t ≡ rows f n → t ++ drop n z ≡ filled f n (replicate 64 0)
unfolding filled
run_back f n e g = ap₂ (λ (x y : List ℕ). x ++ drop n y) g e

-- the atoms of the policy with the entry's credentials
pub sources_below : {d : List ℕ} {o : Layout} {creds w : List ℕ} {which : Which} {e : EntryAt} → Sources d o creds w which e → Below o.atoms (joined_at d o w which e)
sources_below {d} {o} {creds} {w} {which} {e} s = joined_below d o creds w which s.ready e

-- words written to the start of a table from a shorter one
pub widened : (src old : List ℕ) (i : ℕ) {t : List ℕ} → t ≡ filled (λ j. get_or src j 0) i old → i ≡ length src → t ≡ src ++ drop (length src) old
unfolding filled
widened src old i e z = e ∙ ap (λ (k : ℕ). rows (λ j. get_or src j 0) k ++ drop k old) z ∙ ap (λ (l : List ℕ). l ++ drop (length src) old) (sym (rows_are _ (length src) src refl (λ j h. refl)))

-- the first n of the table with the numbers
first_part : (f : ℕ → ℕ) (n : ℕ) (old : List ℕ) {t : List ℕ} → t ≡ filled f n old → take n t ≡ rows f n
unfolding filled
first_part f n old e = ap (take n) e ∙ take_at (rows f n) (drop n old) n (rows_length f n)

-- what firing asks, of a policy whose places are known
pub asked_sources : {d : List ℕ} {o : Layout} {creds w : List ℕ} {which : Which} {e : EntryAt} → Ready d o creds w which → Asked (record { words = d; layout = o; witness = w; which = which }) e → Sources d o creds w which e
asked_sources r a = record { ready = r; there = a.there; names = a.names }

pub entry_asked : (P : Posed) (p : ℕ) {e : EntryAt} → EntryFits P.layout.atoms P.layout.ncreds P.words p → e ≡ entry_at P.words p → Asked P e
entry_asked P p fits seen = rw seen (record { there = omega (arith, fits.ends); names = fits.creds })

-- ---- the answer

-- all that is known of the entry at p, whose view is e
module _ {d : List ℕ} {o : Layout} {creds w : List ℕ} {which : Which} (ready : Ready d o creds w which) {p : ℕ} (fits : EntryFits o.atoms o.ncreds d p) {e : EntryAt} (seen : e ≡ entry_at d p) where
  abbrev J : Policy
  J = joined (dossier_at d o).creds (policy_at d o w which) (entry_of d (entry_at d p)).creds []

  -- the table with the numbers
  module _ {t : List ℕ} (found : t ≡ table_of d o w which e) where
    table_is : take o.atoms t ≡ rows (first_round (joined_at d o w which (entry_at d p))) o.atoms
    unfolding table_of
    table_is = first_part _ o.atoms _ found ∙ ap (λ (v : EntryAt). rows (first_round (joined_at d o w which v)) o.atoms) seen

    pub table_size : o.atoms ≡ length (take o.atoms t)
    table_size = sym (ap length table_is ∙ rows_length _ o.atoms)

    has_is : (a : ℕ) → a < o.atoms → has (take o.atoms t) a ≡ holds J a
    unfolding joined_at
    has_is a h = has_holds J (take o.atoms t) a (ap (λ (x : List ℕ). get_or x a 0) table_is ∙ rows_get _ o.atoms a h)

    pub table_fits : FormulaFits (length (take o.atoms t)) 16 d (entry_at d p).formula
    table_fits = subst (λ (j : ℕ). FormulaFits j 16 d (entry_at d p).formula) table_size fits.formula

    pub answer_is : read_in d p (take o.atoms t) ≡ answer_of d o w which p
    unfolding read_in answer_of answer
    answer_is =
        truth_table o.atoms (take o.atoms t) (dossier_at d o).creds (policy_at d o w which) (entry_of d (entry_at d p)).creds has_is 16 (formula_at 16 d (entry_at d p).formula) fits.form

    -- written to the start of a longer one
    pub rounds_are : (old : List ℕ) {u : List ℕ} → u ≡ take o.atoms t ++ drop (length (take o.atoms t)) old → u ≡ filled (round_of d o w which p) o.atoms old
    unfolding filled round_of
    rounds_are old g = g ∙ ap₂ (λ (x : List ℕ) (k : ℕ). x ++ drop k old) table_is (sym table_size)

-- ---- the entry at p, whose view is e, and any table

pub view_fits : (n p : ℕ) (d : List ℕ) {e : EntryAt} → e ≡ entry_at d p → FormulaFits n 16 d (entry_at d p).formula → FormulaFits n 16 d e.formula
view_fits n p d seen h = subst (λ (v : EntryAt). FormulaFits n 16 d v.formula) (sym seen) h

pub read_view : (p : ℕ) (d : List ℕ) (t : List ℕ) {e : EntryAt} → e ≡ entry_at d p → read (in_table t) (formula_at 16 d e.formula) ≡ read_in d p t
unfolding read_in
read_view p d t seen = ap (λ (v : EntryAt). read (in_table t) (formula_at 16 d v.formula)) seen

-- ---- what is kept from one entry to the next

-- the same credentials give the same table
alike_table : (d : List ℕ) (o : Layout) (w : List ℕ) (which : Which) (f e : EntryAt) → same (entry_of d f).creds (entry_of d e).creds ≡ true → table_of d o w which f ≡ table_of d o w which e
unfolding table_of joined_at
alike_table d o w which f e h = ap (λ (S : List ℕ). filled (first_round (joined (dossier_at d o).creds (policy_at d o w which) S [])) o.atoms (replicate 64 0)) (same→≡ h)

-- what is kept of an entry serves at the entry at p, whose view is e, where that has the same credentials
pub kept_alike : (P : Posed) (k : Kept) (p : ℕ) {e : EntryAt} {b : Bool} → Keeps P (Some k) → e ≡ entry_at P.words p
    → b ≡ same (entry_of P.words (entry_at P.words k.entry)).creds (entry_of P.words e).creds → b ≡ true → k.table ≡ table_in P (entry_at P.words p)
unfolding Keeps
kept_alike P k p held seen g h =
    ap (λ (x : Kept). x.table) held.1 ∙ alike_table P.words P.layout P.witness P.which _ _ (sym g ∙ h) ∙ ap (table_in P) seen

pub kept_ends : (P : Posed) (k : Kept) → Keeps P (Some k) → (entry_at P.words k.entry).next ≤ length P.words
unfolding Keeps
kept_ends P k held = held.0.ends

pub kept_as : (P : Posed) (p : ℕ) {t : List ℕ} → t ≡ table_in P (entry_at P.words p) → record { entry = p; table = t } ≡ kept_at P p
kept_as P p e = rw e

pub kept_none : (P : Posed) → Keeps P None
unfolding Keeps
kept_none P = tt

pub kept_some : (P : Posed) {k : Kept} (p : ℕ) → EntryFits P.layout.atoms P.layout.ncreds P.words p → k ≡ kept_at P p → Keeps P (Some k)
unfolding Keeps
kept_some P p fits e = rw e (fits, refl)

pub kept_first : (P : Posed) (t : List ℕ) → None ≡ last_kept P t 0
unfolding last_kept
kept_first P t = refl

pub kept_last : (P : Posed) (t : List ℕ) (k : ℕ) {x : Kept} → x ≡ kept_at P (get_or t k 0) → Some x ≡ last_kept P t (k + 1)
unfolding last_kept
kept_last P t k e = rw (add-one k) (ap Some e)

-- where the last of k things begins
pub last_none : (t : List ℕ) (k : ℕ) → k ≡ 0 → last_of t k ≡ 0
unfolding last_of
last_none t k e = rw e

pub last_some : (t : List ℕ) (k : ℕ) → (k ≡ 0 → ⊥) → last_of t k ≡ get_or t (k - 1) 0
unfolding last_of
last_some t zero n = absurd (n refl)
last_some t (suc k) n = ap (λ (j : ℕ). get_or t j 0) (omega arith)

-- an answer as a word, as the library converts it
pub byte_bit : (b : Bool) → bool_byte b ≡ bit b
byte_bit true = refl
byte_bit false = refl

-- ---- probe j, through the table of starts

module _ (d : List ℕ) (o : Layout) (probes : List ℕ) (s : Starts ((entry o.atoms o.ncreds).next d) o.probes o.nprobes probes) (j : ℕ) (h : j < o.nprobes) where
  pub probe_fits : Laid d o → EntryFits o.atoms o.ncreds d (get_or probes j 0)
  unfolding Fit
  probe_fits l = rw (s.each j h) (l.probes j h)

  pub probe_answer : (w : List ℕ) (which : Which) {a : Bool} → a ≡ answer_of d o w which (get_or probes j 0) → a ≡ answer_of d o w which (place ((entry o.atoms o.ncreds).next d) o.probes j)
  probe_answer w which e = e ∙ ap (answer_of d o w which) (s.each j h)

  pub probe_word : (w : List ℕ) {x : ℕ} {a : Bool} → x ≡ bit a → a ≡ answer_of d o w Own (get_or probes j 0) → x ≡ answer_word d o j
  unfolding answer_word answer_of policy_at
  probe_word w e f = e ∙ ap bit (probe_answer w Own f)

-- and by the table of what holds there
module _ {d : List ℕ} {o : Layout} {creds w : List ℕ} {which : Which} (ready : Ready d o creds w which) {probes : List ℕ} (s : Starts ((entry o.atoms o.ncreds).next d) o.probes o.nprobes probes) (j : ℕ) (h : j < o.nprobes) where
  pub probe_there : EntryFits o.atoms o.ncreds d (get_or probes j 0)
  probe_there = probe_fits d o probes s j h ready.laid

  module _ {t : List ℕ} (found : t ≡ table_of d o w which (entry_at d (get_or probes j 0))) where
    pub probe_reads : ((entry_at d (get_or probes j 0)).next ≤ length d) × FormulaFits (length (take o.atoms t)) 16 d (entry_at d (get_or probes j 0)).formula
    probe_reads = (probe_there.ends, table_fits ready probe_there refl found)

    pub probe_says : read_in d (get_or probes j 0) (take o.atoms t) ≡ answer_of d o w which (get_or probes j 0)
    probe_says = answer_is ready probe_there refl found

    pub probe_rounds : (old : List ℕ) {u : List ℕ} → u ≡ take o.atoms t ++ drop (length (take o.atoms t)) old → u ≡ filled (round_of d o w which (get_or probes j 0)) o.atoms old
    probe_rounds old g = rounds_are ready probe_there refl found old g
