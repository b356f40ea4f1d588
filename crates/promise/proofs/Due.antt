-- When the readers of a word, of a rising list and of a section refuse.
use Prim.Native.Nat.{ℕ, zero, suc, ◌+◌, ◌<◌, ◌≤◌}
use mathlib.Core.Path.{◌≡◌, refl, sym, subst}
use mathlib.Core.Bool.{Bool, true, false}
use mathlib.Core.List.Memᴰ
use mathlib.Core.List.{List, [], ◌∷◌, ◌++◌, append_assoc}
use native.Mathlib.Omega.{arith}
use native.Mathlib.Numerals.{add-one}
use lib.Dec.{ltb, leb}
use lib.ListN.{length}
use borrow.Author.Tests.{ltb-true, ltb-false, leb-true, leb-false}
use Rattle.words.specs.Out.{Out, got, need}
use Rattle.words.specs.Read.{Range, Any, Below, ranged, in_range, next, rising, listed, times, section}
use Rattle.words.specs.Code.{code_all, RisingFrom}
use Rattle.words.proofs.Promise.{Reads, reads_ranged, reads_next, Within, all_cons}
use Rattle.meaning.specs.Tests.{◌∈◌}
use Rattle.promise.specs.Due.{Word, What, one, count, label, atom, credential, above, InList, InSection}
use Rattle.promise.specs.Table.{Wrong}
use Rattle.promise.proofs.Refused.{Refuses, refuses_nothing, refuses_as, refuses_made, Seq, first, second, refuses_then, Only, only, Tested, passes, fails, refuses_word}

-- ---- a word in its range

-- the row for w has number e, and says that the word is out of its range
pub record Says (w : Word) (lo hi e : ℕ) : Type 0 where
  pub row : (x : ℕ) → (lo ≤ x → x < hi → ⊥) → Wrong w x e
  pub only : (x k : ℕ) → Wrong w x k → (k ≡ e) × (lo ≤ x → x < hi → ⊥)

pub refuses_ranged : {w : Word} {lo hi e : ℕ} → Says w lo hi e → Refuses (ranged lo hi e) (Only (one w))
unfolding ranged
refuses_ranged {w} {lo} {hi} {e} says = refuses_word w (λ x at p. need (leb lo x) e at (need (ltb x hi) e at (got x p))) (λ x at p. go x at p (leb lo x) refl (ltb x hi) refl)
  where
    go : (x at p : ℕ) (a : Bool) → leb lo x ≡ a → (b : Bool) → ltb x hi ≡ b → Tested w x at (need a e at (need b e at (got x p)))
    go x at p true h true i = passes (λ k f. (says.only x k f).1 (leb-true _ _ h) (ltb-true _ _ i))
    go x at p true h false i = fails (says.row x (λ a b. omega (arith, ltb-false x hi i))) (λ k f. (says.only x k f).0)
    go x at p false h b i = fails (says.row x (λ a b. omega (arith, leb-false lo x h))) (λ k f. (says.only x k f).0)

pub refuses_count : (lo hi : ℕ) → Refuses (ranged lo (suc hi) 2) (Only (one (count lo hi)))
refuses_count lo hi = refuses_ranged (record { row = λ x f. Wrong.limits (λ a b. f a (omega arith)); only = only' })
  where
    only' : (x k : ℕ) → Wrong (count lo hi) x k → (k ≡ 2) × (lo ≤ x → x < suc hi → ⊥)
    only' x k (Wrong.limits f) = (refl, λ a b. f a (omega arith))

pub refuses_atom : (n : ℕ) → Refuses (ranged 0 n 3) (Only (one (atom n 0)))
refuses_atom n = refuses_ranged (record { row = λ x f. Wrong.no_atom (omega (arith, f (omega arith))); only = only' })
  where
    only' : (x k : ℕ) → Wrong (atom n 0) x k → (k ≡ 3) × (0 ≤ x → x < n → ⊥)
    only' x k (Wrong.no_atom h) = (refl, λ a b. omega arith)
    only' x k (Wrong.atom_order h i) = absurd (omega arith)

-- ---- the next of a rising list

abbrev Numbers : Range → (ℕ → Word) → Type 0
Numbers range number = (low x at p : ℕ) → Tested (number low) x at (in_range range x at (need (leb low x) 4 at (got x p)))

label_only : {low x k : ℕ} → Wrong (label low) x k → (k ≡ 4) × (x < low)
label_only (Wrong.label_order h) = (refl, h)

labels : Numbers Any label
labels low x at p = go (leb low x) refl
  where
    go : (b : Bool) → leb low x ≡ b → Tested (label low) x at (need b 4 at (got x p))
    go true h = passes (λ k f. omega (arith, leb-true low x h, (label_only f).1))
    go false h = fails (Wrong.label_order (leb-false _ _ h)) (λ k f. (label_only f).0)

-- what a row may say of a number that is to be below n (else e) and at least low (else 4)
data Row (n e low x : ℕ) : ℕ → Type 0 where
  out : n ≤ x → Row n e low x e
  order : x < n → x < low → Row n e low x 4

module _ (n e : ℕ) (number : ℕ → Word) (row : (low x k : ℕ) → Row n e low x k → Wrong (number low) x k) (only' : (low x k : ℕ) → Wrong (number low) x k → Row n e low x k) where
  out_only : {low x k : ℕ} → n ≤ x → Row n e low x k → k ≡ e
  out_only h (out i) = refl
  out_only h (order i j) = absurd (omega arith)

  order_only : {low x k : ℕ} → x < n → Row n e low x k → k ≡ 4
  order_only h (out i) = absurd (omega arith)
  order_only h (order i j) = refl

  row_none : {low x k : ℕ} → x < n → low ≤ x → Row n e low x k → ⊥
  row_none h i (out j) = omega arith
  row_none h i (order j l) = omega arith

  below : Numbers (Below n e) number
  below low x at p = go (ltb x n) refl (leb low x) refl
    where
      go : (a : Bool) → ltb x n ≡ a → (b : Bool) → leb low x ≡ b → Tested (number low) x at (need a e at (need b 4 at (got x p)))
      go true h true i = passes (λ k f. row_none (ltb-true _ _ h) (leb-true _ _ i) (only' low x k f))
      go true h false i = fails (row low x 4 (order (ltb-true _ _ h) (leb-false _ _ i))) (λ k f. order_only (ltb-true _ _ h) (only' low x k f))
      go false h b i = fails (row low x e (out (ltb-false _ _ h))) (λ k f. out_only (ltb-false _ _ h) (only' low x k f))

atom_row : (n low x k : ℕ) → Row n 3 low x k → Wrong (atom n low) x k
atom_row n low x k (out h) = Wrong.no_atom h
atom_row n low x k (order h i) = Wrong.atom_order h i

atom_only : (n low x k : ℕ) → Wrong (atom n low) x k → Row n 3 low x k
atom_only n low x k (Wrong.no_atom h) = out h
atom_only n low x k (Wrong.atom_order h i) = order h i

cred_row : (m low x k : ℕ) → Row m 6 low x k → Wrong (credential m low) x k
cred_row m low x k (out h) = Wrong.no_cred h
cred_row m low x k (order h i) = Wrong.cred_order h i

cred_only : (m low x k : ℕ) → Wrong (credential m low) x k → Row m 6 low x k
cred_only m low x k (Wrong.no_cred h) = out h
cred_only m low x k (Wrong.cred_order h i) = order h i

-- so many things after their count
abbrev Counted : ℕ → ℕ → (ℕ → List ℕ → What → Type 0) → List ℕ → What → Type 0
Counted lo hi = Seq (Only (one (count lo hi))) (λ k. k ∷ []) (λ k. (lo ≤ k) × (k < suc hi))

-- ---- a rising list

-- k words, the first at least low
data InRising (Good : ℕ → Type 0) (number : ℕ → Word) (low k : ℕ) : List ℕ → What → Type 0 where
  after : (xs : List ℕ) → length xs < k → RisingFrom low xs → ((x : ℕ) → x ∈ xs → Good x) → InRising Good number low k xs (one (number (above low xs)))

module _ (range : Range) (number : ℕ → Word) (tested : Numbers range number) where
  refuses_next : (low : ℕ) → Refuses (next range low) (Only (one (number low)))
  unfolding next
  refuses_next low = refuses_word (number low) (λ x at p. in_range range x at (need (leb low x) 4 at (got x p))) (tested low)

  abbrev Rising : ℕ → ℕ → List ℕ → What → Type 0
  Rising = InRising (Within range) number

  abbrev Then : ℕ → ℕ → List ℕ → What → Type 0
  Then low k = Seq (Only (one (number low))) (λ x. x ∷ []) (λ x. Within range x × (low ≤ x)) (λ x. Rising (x + 1) k)

  rising_to : (low k : ℕ) (us : List ℕ) (what : What) → Then low k us what → Rising low (suc k) us what
  unfolding above RisingFrom
  rising_to low k us what (first only) = InRising.after [] (omega arith) tt (λ x m. absurd (Memᴰ.not-nil m))
  rising_to low k us what (second x f (InRising.after xs l r g)) = rw (add-one x) (InRising.after (x ∷ xs) (omega arith) (f.1, rw (add-one x) at r) (all_cons f.0 g))

  rising_from : (low k : ℕ) (us : List ℕ) (what : What) → Rising low (suc k) us what → Then low k us what
  unfolding above RisingFrom
  rising_from low k us what (InRising.after [] l r g) = first only
  rising_from low k us what (InRising.after (x ∷ xs) l r g) =
      let d : Rising (x + 1) k xs (one (number (above (suc x) xs))) = rw (add-one x) (InRising.after xs (omega arith) r.1 (λ y m. g y (Memᴰ.tail m))) in
      second x (g x (Memᴰ.head refl), r.0) d

  refuses_rising : (low k : ℕ) → Refuses (rising range low k) (Rising low k)
  unfolding rising
  refuses_rising low zero = refuses_nothing [] none
    where
      none : (us : List ℕ) (what : What) → Rising low 0 us what → ⊥
      none us what (InRising.after xs l r g) = omega arith
  refuses_rising low (suc k) =
      refuses_as (refuses_then {f = λ x q ws p. _} (reads_next range low) (refuses_next low) (λ x q f. refuses_made (refuses_rising (x + 1) k) (λ ws at xs. x ∷ xs))) (rising_to low k) (rising_from low k)

  pub refuses_listed : (lo hi : ℕ) → Refuses (listed lo (suc hi) range) (InList lo hi (Within range) number)
  unfolding listed
  refuses_listed lo hi = refuses_as (refuses_then {f = λ k q ws p. _} (reads_ranged lo (suc hi) 2) (refuses_count lo hi) (λ k q f. refuses_rising 0 k)) to from
    where
      to : (us : List ℕ) (what : What) → Counted lo hi (Rising 0) us what → InList lo hi (Within range) number us what
      to us what (first only) = InList.size
      to us what (second k f (InRising.after xs l r g)) = InList.more k xs f.0 (omega (arith, f.1)) l r g

      from : (us : List ℕ) (what : What) → InList lo hi (Within range) number us what → Counted lo hi (Rising 0) us what
      from us what InList.size = first only
      from us what (InList.more k xs a b l r g) = second k (a, omega arith) (InRising.after xs l r g)

-- "n labels", atoms, credential numbers
pub refuses_labels : Refuses (listed 1 65 Any) (InList 1 64 (λ x. Unit {0}) label)
refuses_labels = refuses_listed Any label labels 1 64

pub refuses_atoms : (n : ℕ) → Refuses (listed 0 9 (Below n 3)) (InList 0 8 (λ x. x < n) (atom n))
refuses_atoms n = refuses_listed (Below n 3) (atom n) (below n 3 (atom n) (atom_row n) (atom_only n)) 0 8

pub refuses_credentials : (m : ℕ) → Refuses (listed 0 33 (Below m 6)) (InList 0 32 (λ x. x < m) (credential m))
refuses_credentials m = refuses_listed (Below m 6) (credential m) (below m 6 (credential m) (cred_row m) (cred_only m)) 0 32

-- ---- things one after the other

pub data InTimes {A : Type 0} (code : A → List ℕ) (Form : A → Type 0) (In : List ℕ → What → Type 0) (k : ℕ) : List ℕ → What → Type 0 where
  behind : (xs : List A) {us : List ℕ} {what : What} → length xs < k → ((x : A) → x ∈ xs → Form x) → In us what → InTimes code Form In k (code_all code xs ++ us) what

module _ {A : Type 0} {r : List ℕ → ℕ → Out A} {code : A → List ℕ} {Form : A → Type 0} {In : List ℕ → What → Type 0} (R : Reads r code Form) (S : Refuses r In) where
  abbrev Times : ℕ → List ℕ → What → Type 0
  Times = InTimes code Form In

  times_to : (k : ℕ) (us : List ℕ) (what : What) → Seq In code Form (λ x. Times k) us what → Times (suc k) us what
  unfolding code_all
  times_to k us what (first d) = InTimes.behind [] (omega arith) (λ x m. absurd (Memᴰ.not-nil m)) d
  times_to k us what (second x f (InTimes.behind xs {us = vs} l g d)) = subst (λ (v : List ℕ). Times (suc k) v what) (append_assoc (code x) (code_all code xs) vs) (InTimes.behind (x ∷ xs) (omega arith) (all_cons f g) d)

  times_from : (k : ℕ) (us : List ℕ) (what : What) → Times (suc k) us what → Seq In code Form (λ x. Times k) us what
  unfolding code_all
  times_from k us what (InTimes.behind [] l g d) = first d
  times_from k us what (InTimes.behind (x ∷ xs) {us = vs} l g d) = subst (λ (v : List ℕ). Seq In code Form (λ x. Times k) v what) (sym (append_assoc (code x) (code_all code xs) vs)) (second x (g x (Memᴰ.head refl)) (InTimes.behind xs (omega arith) (λ y m. g y (Memᴰ.tail m)) d))

  pub refuses_times : (k : ℕ) → Refuses (times k r) (Times k)
  unfolding times
  refuses_times zero = refuses_nothing [] none
    where
      none : (us : List ℕ) (what : What) → Times 0 us what → ⊥
      none us what (InTimes.behind xs l g d) = omega arith
  refuses_times (suc k) = refuses_as (refuses_then {f = λ x q ws p. _} R S (λ x q f. refuses_made (refuses_times k) (λ ws at xs. x ∷ xs))) (times_to k) (times_from k)

  pub refuses_section : (lo hi : ℕ) → Refuses (section lo (suc hi) r) (InSection lo hi code Form In)
  unfolding section
  refuses_section lo hi = refuses_as (refuses_then {f = λ k q ws p. _} (reads_ranged lo (suc hi) 2) (refuses_count lo hi) (λ k q f. refuses_times k)) to from
    where
      to : (us : List ℕ) (what : What) → Counted lo hi Times us what → InSection lo hi code Form In us what
      to us what (first only) = InSection.size
      to us what (second k f (InTimes.behind xs l g d)) = InSection.more k xs f.0 (omega (arith, f.1)) l g d

      from : (us : List ℕ) (what : What) → InSection lo hi code Form In us what → Counted lo hi Times us what
      from us what InSection.size = first only
      from us what (InSection.more k xs a b l g d) = second k (a, omega arith) (InTimes.behind xs l g d)
