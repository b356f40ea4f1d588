-- Laws of things that lie one after the other, and of tables filled from their start.
use Prim.Native.Nat.{ℕ, zero, suc, ◌+◌, ◌-◌, ◌<◌, ◌≤◌}
use mathlib.Core.Path.{◌≡◌, refl, sym, ap, ◌∙◌, subst}
use mathlib.Core.List.Memᴰ
use mathlib.Core.List.{List, [], ◌∷◌, ◌++◌, append_assoc, append-nil}
use mathlib.Core.Option.{none, some}
use native.Mathlib.Omega.{arith}
use native.Mathlib.Numerals.{add-one}
use native.Mathlib.Decide.{dec_lt}
use lib.ListN.{length, get_or, take, drop, set, length-append, length-take, length-drop}
use Rattle.std.proofs.lemmas.List.{get_or-take, get_or-drop}
use lib.Seq.{set_at, get_or-append_seam, drop-cons, drop-length, ext_get_or}
use Rattle.meaning.specs.Tests.{◌∈◌, at}
use Rattle.promise.specs.Place.{part, Kind, place, many, Fit, Starts, rows, filled}
use Rattle.promise.specs.Thing.{Things}

-- ---- a part of the words

pub part_none : (ws : List ℕ) (p k : ℕ) → k ≤ 0 → part ws p k ≡ []
unfolding part
part_none ws p k h = let z : k ≡ 0 = omega arith in rw z

pub part_cons : (ws : List ℕ) (p k : ℕ) → 0 < k → p + k ≤ length ws → part ws p k ≡ get_or ws p 0 ∷ part ws (p + 1) (k - 1)
unfolding part
part_cons ws p k more h = let i : p < length ws = omega arith in on (k - 1) (omega arith) i
  where
    on : (j : ℕ) → k ≡ suc j → p < length ws → take k (drop p ws) ≡ get_or ws p 0 ∷ take j (drop (p + 1) ws)
    on j z i = rw (z, add-one, drop-cons ws p 0)

module _ (ws : List ℕ) (p k : ℕ) (more : 0 < k) (h : p + k ≤ length ws) where
  pub part_first : get_or ws p 0 ∈ part ws p k
  part_first = rw (part_cons ws p k more h) (Memᴰ.head refl)

  pub part_later : {x : ℕ} → x ∈ part ws (p + 1) (k - 1) → x ∈ part ws p k
  part_later m = rw (part_cons ws p k more h) (Memᴰ.tail m)

-- a part as the code takes it, from a place to a place
pub part_is : (ws : List ℕ) (p k : ℕ) → take (p + k - p) (drop p ws) ≡ part ws p k
unfolding part
part_is ws p k = ap (λ (n : ℕ). take n (drop p ws)) (omega arith)

-- what lies in it, as the code reads it
pub part_size : (ws : List ℕ) (p k : ℕ) → p + k ≤ length ws → length (take (p + k - p) (drop p ws)) ≡ k
part_size ws p k h = simp (length-take, length-drop) (omega arith)

pub part_item : (ws : List ℕ) (p k i : ℕ) → i < k → get_or (take (p + k - p) (drop p ws)) i 0 ≡ get_or ws (p + i) 0
part_item ws p k i less = get_or-take (p + k - p) (drop p ws) i 0 (omega arith) ∙ get_or-drop p ws i 0

pub part_in : (ws : List ℕ) (i p k : ℕ) → p + k ≤ length ws → i < k → get_or ws (p + i) 0 ∈ part ws p k
part_in ws zero p k h less = let e : p ≡ p + 0 = omega arith in subst (λ (q : ℕ). get_or ws q 0 ∈ part ws p k) e (part_first ws p k less h)
part_in ws (suc i) p k h less =
    let e : p + 1 + i ≡ p + suc i = omega arith in
    subst (λ (q : ℕ). get_or ws q 0 ∈ part ws p k) e (part_later ws p k (omega arith) h (part_in ws i (p + 1) (k - 1) (omega arith) (omega arith)))

-- ---- places

-- the places from the second thing on
pub place_next : (next : ℕ → ℕ) (p j : ℕ) → place next (next p) j ≡ place next p (suc j)
unfolding place
place_next next p zero = refl
place_next next p (suc j) = ap next (place_next next p j)

-- one step of a walk
pub place_on : (next : ℕ → ℕ) (p i : ℕ) {at r : ℕ} → at ≡ place next p i → r ≡ next at → r ≡ place next p (i + 1)
unfolding place
place_on next p i e f = f ∙ ap next e ∙ rw add-one

module _ {A : Type 0} (K : Kind A) (ws : List ℕ) (p k : ℕ) where
  pub many_none : k ≤ 0 → many K ws p k ≡ []
  unfolding many
  many_none h = let z : k ≡ 0 = omega arith in rw z

  module _ (more : 0 < k) where
    pub many_on : many K ws p k ≡ K.read ws p ∷ many K ws (K.next ws p) (k - 1)
    unfolding many
    many_on = on (k - 1) (omega arith)
      where
        on : (j : ℕ) → k ≡ suc j → many K ws p k ≡ K.read ws p ∷ many K ws (K.next ws p) j
        on j z = rw z

    -- the first, and those after it
    pub fit_first : Fit K ws p k → K.ok ws p
    unfolding Fit place
    fit_first f = f 0 more

    pub fit_on : Fit K ws p k → Fit K ws (K.next ws p) (k - 1)
    unfolding Fit
    fit_on f j h = rw (place_next (K.next ws) p j) (f (suc j) (omega arith))

-- of a kind, that the words of k things are there, as the code's walks ask it
pub things_fit : {A : Type 0} (K : Kind A) (ws : List ℕ) (p k : ℕ) → Fit K ws p k → Things K.next K.ok ws p k
unfolding Fit Things
things_fit K ws p k f = f

module _ {A : Type 0} (K : Kind A) (ws : List ℕ) where
  pub many_length : (p k : ℕ) → length (many K ws p k) ≡ k
  unfolding many
  many_length p zero = refl
  many_length p (suc k) = ap suc (many_length (K.next ws p) k)

  -- what holds of whatever fits holds of each of them
  pub fit_each : (Q : A → Type 0) → ((q : ℕ) → K.ok ws q → Q (K.read ws q)) → (p k : ℕ) → Fit K ws p k → (x : A) → x ∈ many K ws p k → Q x
  unfolding many Fit place
  fit_each Q g p (suc k) f x (Memᴰ.head e) = subst Q (sym e) (g p (f 0 (omega arith)))
  fit_each Q g p (suc k) f x (Memᴰ.tail m) = fit_each Q g (K.next ws p) k (λ j h. rw (place_next (K.next ws) p j) (f (suc j) (omega arith))) x m
  fit_each Q g p zero f x m = absurd (Memᴰ.not-nil m)

  -- thing j, and that there is none
  pub many_at : (p k j : ℕ) → j < k → at (many K ws p k) j ≡ some (K.read ws (place (K.next ws) p j))
  unfolding many at place
  many_at p zero j h = absurd (omega arith)
  many_at p (suc k) zero h = refl
  many_at p (suc k) (suc j) h = many_at (K.next ws p) k j (omega arith) ∙ ap (λ (q : ℕ). some (K.read ws q)) (place_next (K.next ws) p j)

  pub many_past : (p k j : ℕ) → k ≤ j → at (many K ws p k) j ≡ none
  unfolding many at
  many_past p zero j h = refl
  many_past p (suc k) zero h = absurd (omega arith)
  many_past p (suc k) (suc j) h = many_past (K.next ws p) k j (omega arith)

-- ---- tables

pub rows_length : (f : ℕ → ℕ) (k : ℕ) → length (rows f k) ≡ k
unfolding rows
rows_length f zero = refl
rows_length f (suc k) = length-append (rows f k) (f k ∷ []) ∙ (omega (arith, rows_length f k))

rows_at : (f : ℕ → ℕ) (k j : ℕ) (rest : List ℕ) → j < k → get_or (rows f k ++ rest) j 0 ≡ f j
unfolding rows
rows_at f zero j rest h = absurd (omega arith)
rows_at f (suc k) j rest h = rw (append_assoc (rows f k) (f k ∷ []) rest) (go (dec_lt j k) (rows_at f k j (f k ∷ rest)))
  where
    go : Dec (j < k) → (j < k → get_or (rows f k ++ (f k ∷ rest)) j 0 ≡ f j) → get_or (rows f k ++ (f k ∷ rest)) j 0 ≡ f j
    go (yes i) ih = ih i
    go (no ni) ih = let e : j ≡ k = omega arith in rw e (ap (λ (n : ℕ). get_or (rows f k ++ (f k ∷ rest)) n 0) (sym (rows_length f k)) ∙ get_or-append_seam (rows f k) (f k) rest 0)

pub rows_get : (f : ℕ → ℕ) (k j : ℕ) → j < k → get_or (rows f k) j 0 ≡ f j
rows_get f k j h = ap (λ (l : List ℕ). get_or l j 0) (sym (append-nil (rows f k))) ∙ rows_at f k j [] h

-- a table that has these values is their rows
pub rows_are : (f : ℕ → ℕ) (k : ℕ) (t : List ℕ) → length t ≡ k → ((j : ℕ) → j < k → get_or t j 0 ≡ f j) → t ≡ rows f k
rows_are f k t l h = ext_get_or 0 t (rows f k) (l ∙ sym (rows_length f k)) (λ j i. h j (omega arith) ∙ sym (rows_get f k j (omega arith)))

pub rows_same : (f g : ℕ → ℕ) (k : ℕ) → ((j : ℕ) → j < k → f j ≡ g j) → rows f k ≡ rows g k
rows_same f g k h = rows_are g k (rows f k) (rows_length f k) (λ j i. rows_get f k j i ∙ h j i)

-- entry j of a filled table, and its length
pub filled_at : (f : ℕ → ℕ) (k j : ℕ) (old : List ℕ) → j < k → get_or (filled f k old) j 0 ≡ f j
unfolding filled
filled_at f k j old h = rows_at f k j (drop k old) h

pub filled_length : (f : ℕ → ℕ) (k : ℕ) (old : List ℕ) → k ≤ length old → length (filled f k old) ≡ length old
unfolding filled
filled_length f k old h = length-append (rows f k) (drop k old) ∙ (omega (arith, rows_length f k, length-drop k old))

pub filled_starts : (next : ℕ → ℕ) (p k : ℕ) (old : List ℕ) {t : List ℕ} → t ≡ filled (place next p) k old → k ≤ length old → Starts next p k t
filled_starts next p k old e h = record { long = rw e (omega (arith, filled_length (place next p) k old h)); each = λ j i. ap (λ (l : List ℕ). get_or l j 0) e ∙ filled_at (place next p) k j old i }

-- the loop that fills: nothing yet, one more, and that the table is as long as before
pub filled_none : (f : ℕ → ℕ) (old : List ℕ) → old ≡ filled f 0 old
unfolding filled rows
filled_none f old = refl

-- a table whose front was filled
pub front_starts : (next : ℕ → ℕ) (p k : ℕ) (old : List ℕ) {t : List ℕ} → k ≤ length old → t ≡ rows (place next p) (length (take k old)) → Starts next p k (t ++ drop k old)
unfolding filled
front_starts next p k old h e =
    let n : length (take k old) ≡ k = length-take k old ∙ omega arith in
    filled_starts next p k old (ap (λ (l : List ℕ). l ++ drop k old) (e ∙ ap (rows (place next p)) n)) h

pub front_things : (next : List ℕ → ℕ → ℕ) (ok : List ℕ → ℕ → Type 0) (ws : List ℕ) (p k : ℕ) (old : List ℕ) → k ≤ length old → Things next ok ws p k → Things next ok ws p (length (take k old))
front_things next ok ws p k old h f = let n : k ≡ length (take k old) = omega (arith, length-take k old) in subst (Things next ok ws p) n f

-- a table that is filled to its end
pub filled_whole : (f : ℕ → ℕ) (old : List ℕ) → filled f (length old) old ≡ rows f (length old)
unfolding filled
filled_whole f old = ap (λ (l : List ℕ). rows f (length old) ++ l) (drop-length old) ∙ append-nil _

pub filled_on : (f : ℕ → ℕ) (i : ℕ) (old : List ℕ) {t : List ℕ} {v : ℕ} → t ≡ filled f i old → v ≡ f i → i < length old → set t i v ≡ filled f (i + 1) old
unfolding filled rows
filled_on f i old {t} {v} e g h =
    ap (λ (l : List ℕ). set l i v) e
    ∙ ap (λ (l : List ℕ). set (rows f i ++ l) i v) (drop-cons old i 0 h)
    ∙ set_at (rows f i) (get_or old i 0) (drop (suc i) old) v i (rows_length f i)
    ∙ (rw (add-one, g) (sym (append_assoc (rows f i) (f i ∷ []) (drop (suc i) old))))
