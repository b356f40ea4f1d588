-- Laws on answers: what an answer says of what was read, and one turn of each reader.
use Prim.Native.Nat.{ℕ, suc, ◌+◌, ◌-◌, ◌<◌, ◌≤◌}
use mathlib.Core.Path.{◌≡◌, refl, sym, ap, ap₂, ◌∙◌, subst}
use mathlib.Core.Bool.{Bool, true, false}
use mathlib.Core.List.{List, ◌∷◌}
use native.Mathlib.Omega.{arith}
use lib.Dec.{ltb, leb}
use lib.ListN.{length, get_or}
use borrow.Author.Tests.{ltb-true, leb-true, le-ltb, lt-ltb, le-leb, lt-leb}
use mathlib.Core.Logic.{◌⊎◌}
use Rattle.std.specs.Result.{IsErr, IsErrAnd}
use Rattle.std.proofs.lemmas.Result.{err_from_is_err_and}
use Rattle.std.specs.Ordering.{nat_cmp, is_le, is_lt}
use Rattle.std.proofs.lemmas.Bool.Decides.{nat_tests}
use Rattle.std.specs.Prelude.{Option, Some, None, Result, Ok, Err}
use Rattle.reply.specs.declared.Fault.{Fault}
use Rattle.reply.specs.Numbers.{number, fault_of, fault_number}
use Rattle.reply.specs.declared.Refusal.{Refusal}
use Rattle.words.specs.Out.{Out, got, bad, made, then, need, present}
use Rattle.words.specs.Read.{Range, ranged, in_range, next, rising, listed, times, section}
use Rattle.words.specs.Answer.{refusal_by, answer_by, step_by, got_by, low_by, answer, range_by}
use Rattle.words.specs.declared.Limit.{Limit}
use Rattle.words.proofs.Promise.{lies, ok_got, ok_next, bad_in, reads_ranged}

-- what is made of the value read does not change where it ends
pub step_made : {W : Type 0} (by : ℕ → W) {A B : Type 0} (f : A → B) (o : Out A) → step_by by (made f o) ≡ step_by by o
unfolding answer_by
step_made by f (got v p) = refl
step_made by f (bad e p w) = refl

pub answer_bad : {W : Type 0} (by : ℕ → W) {A B : Type 0} (tell : A → ℕ → B) {o : Out A} {e p w : ℕ} → o ≡ bad e p w → answer_by by tell o ≡ Err (refusal_by by e p w)
unfolding answer_by
answer_bad by tell h = rw h

-- the same, by what the number tells
pub answer_told : {W : Type 0} (by : ℕ → W) {A B : Type 0} (tell : A → ℕ → B) {o : Out A} {e p w : ℕ} {x : W} → by e ≡ x → o ≡ bad e p w → answer_by by tell o ≡ Err (record { fault = x; place = p; count = w })
answer_told by tell {p = p} {w} k h = answer_bad by tell h ∙ ap (λ y. Err (record { fault = y; place = p; count = w })) k

-- and by the fault
pub answer_fault : {A B : Type 0} (tell : A → ℕ → B) {o : Out A} {f : Fault} {p w : ℕ} → o ≡ bad (number f) p w → answer tell o ≡ Err (record { fault = f; place = p; count = w })
answer_fault tell {f = f} h = answer_told fault_of tell (fault_number f) h

pub answer_got : {W : Type 0} (by : ℕ → W) {A B : Type 0} (tell : A → ℕ → B) {o : Out A} {v : A} {p : ℕ} → o ≡ got v p → answer_by by tell o ≡ Ok (tell v p)
unfolding answer_by
answer_got by tell h = rw h

-- what has a number is what the number tells
pub told_is : {W : Type 0} (number : W → ℕ) (by : ℕ → W) {x : W} {e : ℕ} → by (number x) ≡ x → number x ≡ e → by e ≡ x
told_is number by back has = ap by (sym has) ∙ back

-- an answer taken apart: a refusal was that refusal, and what passed was read
pub record Failed {W : Type 0} (by : ℕ → W) {A : Type 0} (o : Out A) (x : Refusal W) : Type 0 where
  pub e : ℕ
  pub p : ℕ
  pub w : ℕ
  pub is : o ≡ bad e p w
  pub told : x ≡ refusal_by by e p w

pub failed : {W : Type 0} (by : ℕ → W) {A B : Type 0} (tell : A → ℕ → B) (o : Out A) {r : Result B (Refusal W)} {x : Refusal W} → r ≡ answer_by by tell o → r ≡ Err x → Failed by o x
unfolding answer_by
failed by tell (got v p) h g = absurd (let z : ◌≡◌ {A = ℕ} 0 1 = cc in omega arith)
failed by tell (bad e p w) h g = record { e = e; p = p; w = w; is = refl; told = cc }

pub record Passed {A B : Type 0} (tell : A → ℕ → B) (o : Out A) (b : B) : Type 0 where
  pub v : A
  pub p : ℕ
  pub is : o ≡ got v p
  pub told : b ≡ tell v p

pub passed : {W : Type 0} (by : ℕ → W) {A B : Type 0} (tell : A → ℕ → B) (o : Out A) {r : Result B (Refusal W)} {b : B} → r ≡ answer_by by tell o → r ≡ Ok b → Passed tell o b
unfolding answer_by
passed by tell (got v p) h g = record { v = v; p = p; is = refl; told = cc }
passed by tell (bad e p w) h g = absurd (let z : ◌≡◌ {A = ℕ} 0 1 = cc in omega arith)

-- a refusal told by its number, taken apart: it was that refusal
pub refused : {A : Type 0} (o : Out A) {r : Result ℕ (Refusal ℕ)} {e p w : ℕ} → r ≡ step_by (λ n. n) o → r ≡ Err (record { fault = e; place = p; count = w }) → o ≡ bad e p w
refused o h g = let a = failed _ _ o h g in a.is ∙ sym (ap (λ (x : Refusal ℕ). bad x.fault x.place x.count) a.told)

pub stopped : (o : Out ℕ) {r : Result ℕ (Refusal ℕ)} {e p w : ℕ} → r ≡ got_by (λ n. n) o → r ≡ Err (record { fault = e; place = p; count = w }) → o ≡ bad e p w
stopped o h g = let a = failed _ _ o h g in a.is ∙ sym (ap (λ (x : Refusal ℕ). bad x.fault x.place x.count) a.told)

-- where the place is what is told
pub stepped : {W : Type 0} (by : ℕ → W) {A : Type 0} (o : Out A) {r : Result ℕ (Refusal W)} {q : ℕ} → r ≡ step_by by o → r ≡ Ok q → (v : A) × (o ≡ got v q)
stepped by o h g = let a = passed by _ o h g in (a.v, a.is ∙ ap (got a.v) (sym a.told))

-- what `?` returns where it was handed a refusal: that refusal
pub kept : {W T : Type 0} {r : Result T (Refusal W)} {x : Refusal W} → IsErr r × IsErrAnd r (λ y. y ≡ x) → r ≡ Err x
kept {r = r} h = let (y, a, b) = err_from_is_err_and r h.1 in a ∙ ap Err b

-- a refusal is the same whatever is told of what was read
pub refused_as : {W : Type 0} (by : ℕ → W) {A B C : Type 0} (tell : A → ℕ → B) (tell' : A → ℕ → C) (o : Out A) {r : Result B (Refusal W)} {x : Refusal W} → r ≡ answer_by by tell o → r ≡ Err x → Err x ≡ answer_by by tell' o
unfolding answer_by
refused_as by tell tell' o h g = let a = failed by tell o h g in rw a.is (ap Err a.told)

-- a refusal is handed on: what would come after it does not matter
pub handed_on : {W : Type 0} (by : ℕ → W) {A B C D : Type 0} (tell : A → ℕ → B) (tell' : C → ℕ → D) (o : Out A) (f : A → ℕ → Out C) {r : Result B (Refusal W)} {x : Refusal W} → r ≡ answer_by by tell o → r ≡ Err x → Err x ≡ answer_by by tell' (then o f)
unfolding answer_by
handed_on by tell tell' o f h g = let a = failed by tell o h g in (rw a.is (ap Err a.told))

-- ---- one word

-- the word x lies at the place, and whether it is in the range
module _ (lo hi e : ℕ) (ws : List ℕ) (at : ℕ) where
  pub ranged_past : length ws ≤ at → ranged lo hi e ws at ≡ bad 1 (length ws) 0
  unfolding ranged
  ranged_past h = simp (le-ltb _ _ h)

  module _ (here : at < length ws) where
    pub ranged_out : (is_le (nat_cmp lo (get_or ws at 0)) ≡ false) ⊎ (is_lt (nat_cmp (get_or ws at 0) hi) ≡ false) → ranged lo hi e ws at ≡ bad e at 1
    unfolding ranged
    ranged_out h = simp (lt-ltb _ _ here) (go (leb lo (get_or ws at 0)) refl (ltb (get_or ws at 0) hi) refl)
      where
        go : (a : Bool) → leb lo (get_or ws at 0) ≡ a → (b : Bool) → ltb (get_or ws at 0) hi ≡ b → need a e at (need b e at (got (get_or ws at 0) (at + 1))) ≡ bad e at 1
        go false i b j = refl
        go true i false j = refl
        go true i true j = absurd (grind (arith, nat_tests, h, leb-true _ _ i, ltb-true _ _ j))

    pub ranged_in : (is_le (nat_cmp lo (get_or ws at 0)) ≡ true) × (is_lt (nat_cmp (get_or ws at 0) hi) ≡ true) → ranged lo hi e ws at ≡ got (get_or ws at 0) (at + 1)
    unfolding ranged
    ranged_in h =
        let i : lo ≤ get_or ws at 0 = grind (arith, nat_tests, h.0) in
        let j : get_or ws at 0 < hi = grind (arith, nat_tests, h.1) in
        simp (lt-ltb _ _ here, le-leb _ _ i, lt-ltb _ _ j)

-- the answer by an equal number
pub got_as : {W : Type 0} (by : ℕ → W) (lo hi : ℕ) (ws : List ℕ) (at : ℕ) {e f : ℕ} {r : Result ℕ (Refusal W)} → e ≡ f → r ≡ got_by by (ranged lo hi e ws at) → r ≡ got_by by (ranged lo hi f ws at)
got_as by lo hi ws at e h = h ∙ ap (λ (n : ℕ). got_by by (ranged lo hi n ws at)) e

-- what is known of a word that was read
pub record Read (lo hi : ℕ) (ws : List ℕ) (at x : ℕ) (o : Out ℕ) : Type 0 where
  pub is : o ≡ got x (at + 1)
  pub here : at < length ws
  pub word : x ≡ get_or ws at 0
  pub above : lo ≤ x
  pub below : x < hi

module _ (lo hi e : ℕ) (ws : List ℕ) (at : ℕ) where
  pub read_word : {W : Type 0} (by : ℕ → W) {r : Result ℕ (Refusal W)} {x : ℕ} → r ≡ got_by by (ranged lo hi e ws at) → r ≡ Ok x → Read lo hi ws at x (ranged lo hi e ws at)
  unfolding ranged answer_by
  read_word by {r} {x} h g = one (ltb at (length ws)) refl (sym h ∙ g)
    where
      two : at < length ws → (b₂ : Bool) → leb lo (get_or ws at 0) ≡ b₂ → (b₃ : Bool) → ltb (get_or ws at 0) hi ≡ b₃
          → got_by by (need b₂ e at (need b₃ e at (got (get_or ws at 0) (at + 1)))) ≡ Ok x
          → Read lo hi ws at x (need b₂ e at (need b₃ e at (got (get_or ws at 0) (at + 1))))
      two q₁ false q₂ b₃ q₃ k = absurd (let z : ◌≡◌ {A = ℕ} 0 1 = cc in omega arith)
      two q₁ true q₂ false q₃ k = absurd (let z : ◌≡◌ {A = ℕ} 0 1 = cc in omega arith)
      two q₁ true q₂ true q₃ k =
          let w : get_or ws at 0 ≡ x = cc in
          record { is = rw w; here = q₁; word = sym w; above = rw (← w) (leb-true _ _ q₂); below = rw (← w) (ltb-true _ _ q₃) }

      one : (b₁ : Bool) → ltb at (length ws) ≡ b₁
          → got_by by (then (present b₁ ws (got (get_or ws at 0) (at + 1))) (λ y p. need (leb lo y) e at (need (ltb y hi) e at (got y p)))) ≡ Ok x
          → Read lo hi ws at x (then (present b₁ ws (got (get_or ws at 0) (at + 1))) (λ y p. need (leb lo y) e at (need (ltb y hi) e at (got y p))))
      one false q₁ k = absurd (let z : ◌≡◌ {A = ℕ} 0 1 = cc in omega arith)
      one true q₁ k = two (ltb-true _ _ q₁) (leb lo (get_or ws at 0)) refl (ltb (get_or ws at 0) hi) refl k

  -- where it was refused, its place lies in the paper
  pub refused_in : {W : Type 0} (by : ℕ → W) {r : Result ℕ (Refusal W)} {x : Refusal W} → at ≤ length ws → r ≡ got_by by (ranged lo hi e ws at) → r ≡ Err x → x.place + x.count ≤ length ws
  refused_in by h t g =
      let b = failed by _ (ranged lo hi e ws at) t g in
      rw b.told (bad_in ((reads_ranged lo hi e).inside ws at h) b.is)

-- ---- the next word of a rising list

-- the word is within the limit
pub Allowed : {W : Type 0} → Option (Limit W) → ℕ → Type 0
Allowed {W} limit x = (l : Limit W) → limit ≡ Some l → x < l.below

allowed : {W : Type 0} (number : W → ℕ) (limit : Option (Limit W)) (x : ℕ) → Allowed limit x → {A : Type 0} (at : ℕ) (o : Out A) → in_range (range_by number limit) x at o ≡ o
unfolding Allowed
allowed number None x h at o = refl
allowed number (Some l) x h at o = rw (lt-ltb _ _ (h l refl))

pub allowed_below : {W : Type 0} {limit : Option (Limit W)} {x : ℕ} {l : Limit W} → limit ≡ Some l → x < l.below → Allowed limit x
unfolding Allowed
allowed_below {x = x} {l = l} e h m f = let z : l ≡ m = cc in subst (λ n. x < n.below) z h

pub allowed_any : {W : Type 0} {limit : Option (Limit W)} (x : ℕ) → limit ≡ None → Allowed limit x
unfolding Allowed
allowed_any x e m f = absurd (let z : ◌≡◌ {A = ℕ} 0 1 = cc in omega arith)

module _ {W : Type 0} (number : W → ℕ) (limit : Option (Limit W)) (low : ℕ) (ws : List ℕ) (p : ℕ) where
  pub next_past : length ws ≤ p → next (range_by number limit) low ws p ≡ bad 1 (length ws) 0
  unfolding next
  next_past h = simp (le-ltb _ _ h)

  module _ (here : p < length ws) where
    pub next_over : (l : Limit W) → limit ≡ Some l → l.below ≤ get_or ws p 0 → next (range_by number limit) low ws p ≡ bad (number l.fault) p 1
    unfolding next
    next_over l e h = simp (lt-ltb _ _ here, e, le-ltb _ _ h)

    module _ (h : Allowed limit (get_or ws p 0)) where
      pub next_low : get_or ws p 0 < low → next (range_by number limit) low ws p ≡ bad 4 p 1
      unfolding next
      next_low k = simp (lt-ltb _ _ here, allowed number limit (get_or ws p 0) h, lt-leb _ _ k)

      pub next_on : low ≤ get_or ws p 0 → next (range_by number limit) low ws p ≡ got (get_or ws p 0) (p + 1)
      unfolding next
      next_on k = simp (lt-ltb _ _ here, allowed number limit (get_or ws p 0) h, le-leb _ _ k)

-- a count above 0 is one more than the count less one
pub less_one : (k : ℕ) → 0 < k → k ≡ suc (k - 1)
less_one k h = omega arith

-- a word of a rising list that was read: there is one, and the next position is behind it
module _ {W : Type 0} (by : ℕ → W) (range : Range) (low : ℕ) (ws : List ℕ) (p : ℕ) {r : Result ℕ (Refusal W)} {y : ℕ} (t : r ≡ low_by by (next range low ws p)) (g : r ≡ Ok y) where
  pub next_here : p < length ws
  next_here = let a = passed by _ (next range low ws p) t g in (lies ws p (ok_got (ok_next range low ws p) a.is).0.words).here

  next_place : (passed by _ (next range low ws p) t g).p ≡ p + 1
  next_place = let a = passed by _ (next range low ws p) t g in (ok_got (ok_next range low ws p) a.is).0.next

-- one turn of a rising list, with k words to come
module _ {W : Type 0} (by : ℕ → W) (range : Range) (low k : ℕ) (ws : List ℕ) (p : ℕ) where
  pub rising_none : k ≤ 0 → step_by by (rising range low k ws p) ≡ Ok p
  unfolding rising answer_by
  rising_none h = let z : k ≡ 0 = omega arith in rw z

  module _ (more : 0 < k) {r : Result ℕ (Refusal W)} (t : r ≡ low_by by (next range low ws p)) where
    pub rising_stop : {x : Refusal W} → r ≡ Err x → step_by by (rising range low k ws p) ≡ Err x
    unfolding rising answer_by
    rising_stop g = let a = failed by _ (next range low ws p) t g in rw (less_one k more, a.is) (ap Err (sym a.told))

    pub rising_on : {y : ℕ} → r ≡ Ok y → step_by by (rising range low k ws p) ≡ step_by by (rising range y (k - 1) ws (p + 1))
    unfolding rising answer_by
    rising_on {y} g =
        let a = passed by _ (next range low ws p) t g in
        on (k - 1) a.v a.p (less_one k more) a.is ∙ ap₂ (λ (a b : ℕ). step_by by (rising range a (k - 1) ws b)) (sym a.told) (next_place by range low ws p t g)
      where
        on : (j x q : ℕ) → k ≡ suc j → next range low ws p ≡ got x q → step_by by (rising range low k ws p) ≡ step_by by (rising range (x + 1) j ws q)
        on j x q z e = rw (z, e) (step_made by (λ xs. x ∷ xs) (rising range (x + 1) j ws q))

-- a counted list: its count was read and the words follow
pub listed_on : (lo hi : ℕ) (range : Range) (ws : List ℕ) (at : ℕ) {k p : ℕ} → ranged lo hi 2 ws at ≡ got k p → listed lo hi range ws at ≡ rising range 0 k ws p
unfolding listed
listed_on lo hi range ws at h = rw h

-- one turn of k things
module _ {W : Type 0} (by : ℕ → W) {A : Type 0} (k : ℕ) (r : List ℕ → ℕ → Out A) (ws : List ℕ) (p : ℕ) where
  pub times_none : k ≤ 0 → step_by by (times k r ws p) ≡ Ok p
  unfolding times answer_by
  times_none h = let z : k ≡ 0 = omega arith in rw z

  pub times_bad : 0 < k → {e q w : ℕ} → r ws p ≡ bad e q w → step_by by (times k r ws p) ≡ Err (refusal_by by e q w)
  unfolding times answer_by
  times_bad more h = rw (less_one k more, h)

  pub times_on : 0 < k → {q : ℕ} → ((v : A) × (r ws p ≡ got v q)) → step_by by (times k r ws p) ≡ step_by by (times (k - 1) r ws q)
  unfolding times answer_by
  times_on more {q} h = on (k - 1) (less_one k more)
    where
      on : (j : ℕ) → k ≡ suc j → step_by by (times k r ws p) ≡ step_by by (times j r ws q)
      on j z = rw (z, h.1) (step_made by (λ vs. h.0 ∷ vs) (times j r ws q))

-- a section: its count was read and the things follow
pub section_on : {A : Type 0} (lo hi : ℕ) (r : List ℕ → ℕ → Out A) (ws : List ℕ) (at : ℕ) {k p : ℕ} → ranged lo hi 2 ws at ≡ got k p → section lo hi r ws at ≡ times k r ws p
unfolding section
section_on lo hi r ws at h = rw h
