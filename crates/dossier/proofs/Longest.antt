-- How long a sound dossier can be: no section is longer than its limits allow, and one dossier meets them all.
use Prim.Native.Nat.{ℕ, zero, suc, ◌+◌, ◌*◌, ◌<◌, ◌≤◌}
use mathlib.Core.Path.{◌≡◌, refl}
use mathlib.Core.Bool.{false}
use mathlib.Core.List.Memᴰ
use mathlib.Core.List.{List, [], ◌∷◌, ◌++◌}
use mathlib.Core.Logic.{⊎_elim}
use native.Mathlib.Omega.{arith}
use lib.ListN.{length, length-append, replicate, length-replicate}
use Rattle.words.specs.Code.{code_list, code_all, code_many, RisingFrom}
use Rattle.meaning.specs.Tests.{◌∈◌}
use Rattle.meaning.specs.Policy.{Clause}
use Rattle.meaning.specs.Formula.{Formula, always, neg, conj}
use Rattle.meaning.specs.Papers.{Entry, Marked, Dossier}
use Rattle.promise.specs.Code.{code_formula, code_clause, code_marked, code_entry, code_dossier}
use Rattle.promise.specs.Form.{ListForm, ClauseForm, FormulaForm, EntryForm, DossierForm}

-- ---- the length of a section, and of the whole

module _ {A : Type 0} (code : A → List ℕ) where
  -- at most m things, of at most k words each
  many_most : (k : ℕ) (xs : List A) (m : ℕ) → length xs ≤ m → ((x : A) → x ∈ xs → length (code x) ≤ k) → length (code_all code xs) ≤ m * k
  unfolding code_all
  many_most k [] m h each = omega arith
  many_most k (x ∷ xs) zero h each = absurd (omega arith)
  many_most k (x ∷ xs) (suc m) h each =
      omega (arith, length-append (code x) (code_all code xs), each x (Memᴰ.head refl), many_most k xs m (omega arith) (λ y i. each y (Memᴰ.tail i)))

  -- one thing, m times
  many_same : (x : A) (m : ℕ) → length (code_all code (replicate m x)) ≡ m * length (code x)
  unfolding code_all
  many_same x zero = omega arith
  many_same x (suc m) = omega (arith, length-append (code x) (code_all code (replicate m x)), many_same x m)

entry_length : (e : Entry) → length (code_entry e) ≡ 2 + length e.creds + length (code_formula e.formula)
entry_length e = omega (arith, length-append (code_list e.creds) (code_list (code_formula e.formula)))

-- five counts, the labels, and the things of each section
dossier_length : (D : Dossier) → length (code_dossier D) ≡ 5 + length D.labels + length (code_all code_marked D.clauses) + length (code_all code_clause D.creds) + length (code_all code_entry D.probes) + length (code_entry D.secret)
unfolding code_dossier code_all
dossier_length D =
    let e = code_many code_entry (D.secret ∷ []) in
    let d = code_many code_entry D.probes in
    let c = code_many code_clause D.creds in
    let b = code_many code_marked D.clauses in
    omega (arith, length-append (code_list D.labels) (b ++ (c ++ (d ++ e))), length-append b (c ++ (d ++ e)), length-append c (d ++ e), length-append d e, length-append (code_entry D.secret) [])

-- ---- no sound dossier is longer

clause_most : {n : ℕ} (c : Clause) → ClauseForm n c → length (code_clause c) ≤ 10
clause_most c f = omega (arith, f.body.few)

entry_most : {n m : ℕ} (e : Entry) → EntryForm n m e → length (code_entry e) ≤ 98
entry_most e f = omega (arith, entry_length e, f.creds.few, f.short)

pub dossier_most : (D : Dossier) → DossierForm D → length (code_dossier D) ≤ 8167
dossier_most D f =
    let clauses : length (code_all code_marked D.clauses) ≤ 128 * 11 = many_most code_marked 11 D.clauses 128 f.clauses.most (λ c i. omega (arith, clause_most c.clause (f.clauses.each c i))) in
    let creds : length (code_all code_clause D.creds) ≤ 32 * 10 = many_most code_clause 10 D.creds 32 f.creds.most (λ c i. clause_most c (f.creds.each c i)) in
    let probes : length (code_all code_entry D.probes) ≤ 64 * 98 = many_most code_entry 98 D.probes 64 f.probes.most (λ e i. entry_most e (f.probes.each e i)) in
    omega (arith, dossier_length D, f.labels.few, entry_most D.secret f.secret)

-- ---- one is so long

-- k numbers from low on
numbers : ℕ → ℕ → List ℕ
numbers low zero = []
numbers low (suc k) = low ∷ numbers (suc low) k

numbers_length : (low k : ℕ) → length (numbers low k) ≡ k
unfolding numbers
numbers_length low zero = refl
numbers_length low (suc k) = omega (arith, numbers_length (suc low) k)

numbers_rising : (low k : ℕ) → RisingFrom low (numbers low k)
unfolding numbers RisingFrom
numbers_rising low zero = tt
numbers_rising low (suc k) = (omega arith, numbers_rising (suc low) k)

numbers_below : (low k x : ℕ) → x ∈ numbers low k → x < low + k
unfolding numbers
numbers_below low zero x i = absurd (Memᴰ.not-nil i)
numbers_below low (suc k) x i = ⊎_elim (λ e. omega (arith, e)) (λ j. omega (arith, numbers_below (suc low) k x j)) (Memᴰ.cases_cons i)

numbers_form : (most hi k : ℕ) → k ≤ most → k ≤ hi → ListForm most hi (numbers 0 k)
numbers_form most hi k h i = record { few = omega (arith, numbers_length 0 k); rising = numbers_rising 0 k; below = λ x j. omega (arith, numbers_below 0 k x j) }

-- the conjunction of 2 ^ k formulas
tree : ℕ → Formula
tree zero = always
tree (suc k) = conj (tree k) (tree k)

tree_form : (n d k : ℕ) → k < d → FormulaForm n d (tree k)
unfolding FormulaForm tree
tree_form n zero k h = absurd (omega arith)
tree_form n (suc d) zero h = tt
tree_form n (suc d) (suc k) h = let f = tree_form n d k (omega arith) in (f, f)

-- a copy of x is x
copy_is : {A : Type 0} (x : A) (m : ℕ) {y : A} → y ∈ replicate m x → y ≡ x
copy_is x zero i = absurd (Memᴰ.not-nil i)
copy_is x (suc m) i = ⊎_elim (λ e. e) (copy_is x m) (Memᴰ.cases_cons i)

-- each thing, and each section, as long as it may be
full_clause : Clause
full_clause = record { head = 0; body = numbers 0 8 }

full_marked : Marked
full_marked = record { visible = false; clause = full_clause }

full_entry : Entry
full_entry = record { creds = numbers 0 32; formula = neg (tree 5) }

full : Dossier
full = record { labels = numbers 0 64; clauses = replicate 128 full_marked; creds = replicate 32 full_clause; probes = replicate 64 full_entry; secret = full_entry }

clause_form : (n : ℕ) → 8 ≤ n → ClauseForm n full_clause
unfolding full_clause
clause_form n h = record { head = omega arith; body = numbers_form 8 n 8 (omega arith) h }

formula_length : length (code_formula (neg (tree 5))) ≡ 64
unfolding code_formula tree
formula_length = refl

neg_form : (n d : ℕ) (f : Formula) → FormulaForm n d f → FormulaForm n (suc d) (neg f)
unfolding FormulaForm
neg_form n d f h = h

entry_form : (n m : ℕ) → 32 ≤ m → EntryForm n m full_entry
unfolding full_entry
entry_form n m h = record { creds = numbers_form 32 m 32 (omega arith) h; formula = neg_form n 15 (tree 5) (tree_form n 15 5 (omega arith)); short = omega (arith, formula_length) }

full_form : DossierForm full
unfolding full full_marked
full_form =
    let n = length (numbers 0 64) in
    let m = length (replicate 32 full_clause) in
    let labels : n ≡ 64 = numbers_length 0 64 in
    let creds : m ≡ 32 = length-replicate 32 full_clause in
    let clause = clause_form n (omega arith) in
    let entry = entry_form n m (omega arith) in
    record {
      labels = record { some = omega arith; few = omega arith; rising = numbers_rising 0 64 };
      clauses = record { least = omega arith; most = omega (arith, length-replicate 128 full_marked); each = λ c i. rw (copy_is full_marked 128 i) clause };
      creds = record { least = omega arith; most = omega arith; each = λ c i. rw (copy_is full_clause 32 i) clause };
      probes = record { least = omega arith; most = omega (arith, length-replicate 64 full_entry); each = λ e i. rw (copy_is full_entry 64 i) entry };
      secret = entry;
    }

full_length : length (code_dossier full) ≡ 8167
unfolding full full_marked full_clause full_entry
full_length =
    let entry : length (code_entry full_entry) ≡ 98 = omega (arith, entry_length full_entry, numbers_length 0 32, formula_length) in
    omega (arith, dossier_length full, numbers_length 0 64, numbers_length 0 8, many_same code_marked full_marked 128, many_same code_clause full_clause 32, many_same code_entry full_entry 64)

pub dossier_full : (D : Dossier) × DossierForm D × (length (code_dossier D) ≡ 8167)
dossier_full = (full, full_form, full_length)
