-- What a reader promises, and how the promise of a reader follows from those of its parts.
use Prim.Native.Nat.{ℕ, zero, suc, ◌+◌, ◌<◌, ◌≤◌}
use mathlib.Core.Path.{◌≡◌, refl, sym, ap, ap₂, ◌∙◌, subst, subst₂}
use mathlib.Core.Bool.{Bool, true, false}
use mathlib.Core.List.Memᴰ
use mathlib.Core.List.{List, [], ◌∷◌, ◌++◌, append_assoc, Memᴰ}
use mathlib.Core.Logic.{⊎_elim, ◌↔◌}
use native.Mathlib.Omega.{arith}
use native.Mathlib.Numerals.{add-one}
use lib.Dec.{ltb, leb}
use lib.ListN.{length, get_or, take, drop, length-append, length-drop}
use lib.Seq.{drop-cons, drop-drop, take-append_seam, drop-append_seam}
use borrow.Author.Tests.{lt-ltb, le-leb, ltb-true, leb-true}
use Rattle.words.specs.Out.{Out, got, bad, then, made, need, present, word}
use Rattle.words.specs.Read.{Range, Any, Below, ranged, in_range, next, rising, listed, times, section}
use Rattle.words.specs.Code.{code_list, code_all, code_many, RisingFrom}

-- THE WORDS: those from `at` up to p are `code`
pub record Spans (ws : List ℕ) (at : ℕ) (code : List ℕ) (p : ℕ) : Type 0 where
  pub words : drop at ws ≡ code ++ drop p ws
  pub next : p ≡ at + length code

pub spans_none : (ws : List ℕ) (at : ℕ) → Spans ws at [] at
spans_none ws at = record { words = refl; next = omega arith }

pub spans_word : (ws : List ℕ) (at : ℕ) → at < length ws → Spans ws at (get_or ws at 0 ∷ []) (at + 1)
spans_word ws at h = record { words = rw (add-one at) (drop-cons ws at 0 h); next = refl }

pub spans_join : {ws : List ℕ} {at q p : ℕ} {a b : List ℕ} → Spans ws at a q → Spans ws q b p → Spans ws at (a ++ b) p
spans_join {ws} {at} {q} {p} {a} {b} s t =
    record { words = s.words ∙ ap (λ (l : List ℕ). a ++ l) t.words ∙ sym (append_assoc a b (drop p ws)); next = omega (arith, s.next, t.next, length-append a b) }

-- from the start
pub spans_whole : {ws : List ℕ} {p : ℕ} (code : List ℕ) → Spans ws 0 code p → take p ws ≡ code
spans_whole {ws} {p} code s =
    let z : p ≡ length code = omega (arith, s.next) in
    ap₂ (λ (k : ℕ) (l : List ℕ). take k l) z s.words ∙ take-append_seam code (drop p ws)

-- a word lies at `at`, and the rest after it
pub record Lies (ws : List ℕ) (at x : ℕ) (rest : List ℕ) : Type 0 where
  pub here : at < length ws
  pub this : get_or ws at 0 ≡ x
  pub after : drop (at + 1) ws ≡ rest

pub lies : (ws : List ℕ) (at : ℕ) {x : ℕ} {rest : List ℕ} → drop at ws ≡ x ∷ rest → Lies ws at x rest
lies ws at {x} {rest} h =
    let i : at < length ws = omega (arith, ap length h, length-drop at ws) in
    let s : x ∷ rest ≡ get_or ws at 0 ∷ drop (suc at) ws = sym h ∙ drop-cons ws at 0 i in
    record { here = i; this = cc; after = rw (add-one at) (cc) }

-- past the code lies the rest
pub past : (ws : List ℕ) (at : ℕ) (code : List ℕ) {rest : List ℕ} → drop at ws ≡ code ++ rest → drop (at + length code) ws ≡ rest
past ws at code {rest} h = sym (drop-drop (length code) at ws) ∙ ap (drop (length code)) h ∙ drop-append_seam code rest

-- WHAT IS ACCEPTED: what was read, if it was not refused, has P
pub data OK {A : Type 0} (P : A → ℕ → Type 0) : Out A → Type 0 where
  fine : {v : A} {p : ℕ} → P v p → OK P (got v p)
  none : {e p w : ℕ} → OK P (bad e p w)

pub ok_then : {A B : Type 0} {P : A → ℕ → Type 0} {Q : B → ℕ → Type 0} {o : Out A} (f : A → ℕ → Out B) → OK P o → ((u : A) (q : ℕ) → P u q → OK Q (f u q)) → OK Q (then o f)
ok_then f (fine h) k = k _ _ h
ok_then f none k = none

pub ok_made : {A B : Type 0} {P : A → ℕ → Type 0} {Q : B → ℕ → Type 0} {o : Out A} (f : A → B) → OK P o → ((u : A) (q : ℕ) → P u q → Q (f u) q) → OK Q (made f o)
ok_made f (fine h) k = fine (k _ _ h)
ok_made f none k = none

pub ok_need : {A : Type 0} {P : A → ℕ → Type 0} (b : Bool) (e at : ℕ) {o : Out A} → (b ≡ true → OK P o) → OK P (need b e at o)
ok_need true e at k = k refl
ok_need false e at k = none

pub ok_more : {A : Type 0} {P Q : A → ℕ → Type 0} {o : Out A} → OK P o → ((u : A) (q : ℕ) → P u q → Q u q) → OK Q o
ok_more (fine h) k = fine (k _ _ h)
ok_more none k = none

pub anything : {A : Type 0} (o : Out A) → OK (λ v q. Unit {0}) o
anything (got v q) = fine tt
anything (bad e q w) = none

pub ok_word : (ws : List ℕ) (at : ℕ) → OK (λ x p. Spans ws at (x ∷ []) p) (word ws at)
ok_word ws at = go (ltb at (length ws)) refl
  where
    go : (b : Bool) → ltb at (length ws) ≡ b → OK (λ x p. Spans ws at (x ∷ []) p) (present b ws (got (get_or ws at 0) (at + 1)))
    go false q = none
    go true q = fine (spans_word ws at (ltb-true _ _ q))

pub ok_got : {A : Type 0} {P : A → ℕ → Type 0} {o : Out A} {v : A} {p : ℕ} → OK P o → o ≡ got v p → P v p
ok_got {A} {P} {v = v'} {p = p'} (fine {v} {p} h) e =
    let a : v ≡ v' = cc in
    let b : p ≡ p' = cc in
    subst₂ P a b h
ok_got none e = absurd (let z : ◌≡◌ {A = ℕ} 0 1 = cc in omega arith)

-- THE PLACES: the next position, and the words that a refusal shows, lie within l words
pub data In {A : Type 0} (l : ℕ) : Out A → Type 0 where
  in_got : {v : A} {p : ℕ} → p ≤ l → In l (got v p)
  in_bad : {e p w : ℕ} → p + w ≤ l → In l (bad e p w)

pub bad_in : {A : Type 0} {l e p w : ℕ} {o : Out A} → In l o → o ≡ bad e p w → p + w ≤ l
bad_in (in_got h) q = absurd (let z : ◌≡◌ {A = ℕ} 0 1 = cc in omega arith)
bad_in {e = e} {p = p} {w = w} (in_bad {p = p'} {w = w'} h) q =
    let a : p' ≡ p = cc in
    let b : w' ≡ w = cc in
    omega arith

pub got_in : {A : Type 0} {l p : ℕ} {v : A} {o : Out A} → In l o → o ≡ got v p → p ≤ l
got_in {p = p} (in_got {p = p'} h) q = let a : p' ≡ p = cc in omega arith
got_in (in_bad h) q = absurd (let z : ◌≡◌ {A = ℕ} 0 1 = cc in omega arith)

pub in_then : {A B : Type 0} {l : ℕ} {o : Out A} (f : A → ℕ → Out B) → In l o → ((u : A) (q : ℕ) → q ≤ l → In l (f u q)) → In l (then o f)
in_then f (in_got h) k = k _ _ h
in_then f (in_bad h) k = in_bad h

-- the same where what follows goes by what was accepted
pub in_then_ok : {A B : Type 0} {P : A → ℕ → Type 0} {l : ℕ} {o : Out A} (f : A → ℕ → Out B) → OK P o → In l o → ((u : A) (q : ℕ) → P u q → q ≤ l → In l (f u q)) → In l (then o f)
in_then_ok f (fine a) i k = k _ _ a (got_in i refl)
in_then_ok f none i k = in_bad (bad_in i refl)

pub in_made : {A B : Type 0} {l : ℕ} {o : Out A} (f : A → B) → In l o → In l (made f o)
in_made f (in_got h) = in_got h
in_made f (in_bad h) = in_bad h

pub in_need : {A : Type 0} {l : ℕ} (b : Bool) (e at : ℕ) {o : Out A} → at < l → In l o → In l (need b e at o)
in_need true e at h k = k
in_need {l = l} false e at h k = let i : at + 1 ≤ l = omega arith in in_bad i

-- a word, and what follows where there is one
pub in_word : {B : Type 0} (ws : List ℕ) (at : ℕ) (f : ℕ → ℕ → Out B) → ((x : ℕ) → at < length ws → In (length ws) (f x (at + 1))) → In (length ws) (then (word ws at) f)
in_word ws at f k = go (ltb at (length ws)) refl
  where
    go : (b : Bool) → ltb at (length ws) ≡ b → In (length ws) (then (present b ws (got (get_or ws at 0) (at + 1))) f)
    go false q = let i : length ws + 0 ≤ length ws = omega arith in in_bad i
    go true q = k _ (ltb-true _ _ q)

-- THE PROMISE: what is accepted is the code of a well-formed value; the code of every well-formed value is accepted, as that value;
-- every place lies in the paper
pub record Reads {A : Type 0} (r : List ℕ → ℕ → Out A) (code : A → List ℕ) (Form : A → Type 0) : Type 0 where
  pub sound : (ws : List ℕ) (at : ℕ) → OK (λ x p. Spans ws at (code x) p × Form x) (r ws at)
  pub exact : (ws : List ℕ) (at : ℕ) (x : A) (rest : List ℕ) → drop at ws ≡ code x ++ rest → Form x → r ws at ≡ got x (at + length (code x))
  pub inside : (ws : List ℕ) (at : ℕ) → at ≤ length ws → In (length ws) (r ws at)

module _ {A : Type 0} {r : List ℕ → ℕ → Out A} {code : A → List ℕ} {Form : A → Type 0} (R : Reads r code Form) where
  -- what was read lies there and is well formed
  pub reads_got : {ws : List ℕ} {at : ℕ} {x : A} {p : ℕ} → r ws at ≡ got x p → Spans ws at (code x) p × Form x
  reads_got {ws} {at} e = ok_got (R.sound ws at) e

  -- well-formed values with the same code are equal, whatever follows each
  pub decoded_once : (x y : A) (s t : List ℕ) → code x ++ s ≡ code y ++ t → Form x → Form y → x ≡ y
  decoded_once x y s t e f g =
      let a : r (code x ++ s) 0 ≡ got x (0 + length (code x)) = R.exact (code x ++ s) 0 x s refl f in
      let b : r (code x ++ s) 0 ≡ got y (0 + length (code y)) = R.exact (code x ++ s) 0 y t e g in
      cc

  -- the code and the form said in another way
  pub reads_as : {code' : A → List ℕ} {Form' : A → Type 0} → ((x : A) → Form x → code x ≡ code' x) → ((x : A) → Form x ↔ Form' x) → Reads r code' Form'
  reads_as same form =
      record {
        sound = λ ws at. ok_more (R.sound ws at) (λ x p s. (rw (← same x s.1) s.0, (form x).0 s.1));
        exact = λ ws at x rest h f. let g = (form x).1 f in rw (← same x g) (R.exact ws at x rest (rw (same x g) h) g);
        inside = R.inside;
      }

  -- a value made of what was read: `back` finds that in it, and Keep tells the values that are so made
  pub reads_made : {C : Type 0} (mk : A → C) (back : C → A) (Keep : C → Type 0) → ((x : A) → Form x → Keep (mk x)) → ((x : A) → Form x → back (mk x) ≡ x) → ((c : C) → Keep c → mk (back c) ≡ c) → Reads (λ ws at. made mk (r ws at)) (λ c. code (back c)) (λ c. Keep c × Form (back c))
  reads_made mk back Keep keeps back-mk mk-back =
      record {
        sound = λ ws at. ok_made mk (R.sound ws at) (λ x p s. rw (back-mk x s.1) (s.0, (keeps x s.1, s.1)));
        exact = λ ws at c rest h f. ap (made mk) (R.exact ws at (back c) rest h f.1) ∙ ap (λ v. got v (at + length (code (back c)))) (mk-back c f.0);
        inside = λ ws at h. in_made mk (R.inside ws at h);
      }

  -- a reader, and after it one that may go by what the first read: `first` finds that in what the second makes.
  -- Keep is what the second keeps of readers before both.
  pub reads_bind : {C : Type 0} {f : A → List ℕ → ℕ → Out C} {code_c : A → C → List ℕ} {Keep : C → Type 0} {FormC : A → C → Type 0} (first : C → A) → ((x : A) → Form x → Reads (f x) (code_c x) (λ c. ((first c ≡ x) × Keep c) × FormC x c)) → Reads (λ ws at. then (r ws at) (λ x p. f x ws p)) (λ c. code (first c) ++ code_c (first c) c) (λ c. Keep c × (Form (first c) × FormC (first c) c))
  reads_bind {C} {f} {code_c} {Keep} {FormC} first S =
      record {
        sound = λ ws at. ok_then _ (R.sound ws at) (λ x p s. ok_more ((S x s.1).sound ws p) (λ c q t. joined ws at x p s c q t.0 t.1.0 t.1.1));
        exact = exact;
        inside = λ ws at h. in_then_ok _ (R.sound ws at) (R.inside ws at h) (λ x p s i. (S x s.1).inside ws p i);
      }
    where
      joined : (ws : List ℕ) (at : ℕ) (x : A) (p : ℕ) → (Spans ws at (code x) p × Form x) → (c : C) (q : ℕ) → Spans ws p (code_c x c) q → ((first c ≡ x) × Keep c) → FormC x c → Spans ws at (code (first c) ++ code_c (first c) c) q × (Keep c × (Form (first c) × FormC (first c) c))
      joined ws at x p s c q t k g = rw k.0 (spans_join s.0 t, (k.1, (s.1, g)))

      exact : (ws : List ℕ) (at : ℕ) (c : C) (rest : List ℕ) → drop at ws ≡ code (first c) ++ code_c (first c) c ++ rest → (Keep c × (Form (first c) × FormC (first c) c)) → then (r ws at) (λ x p. f x ws p) ≡ got c (at + length (code (first c) ++ code_c (first c) c))
      exact ws at c rest h g =
          let a = code (first c) in
          let b = code_c (first c) c in
          let k : drop at ws ≡ a ++ (b ++ rest) = h ∙ append_assoc a b rest in
          let n : at + length a + length b ≡ at + length (a ++ b) = omega (arith, length-append a b) in
          ap (λ o. then o (λ x p. f x ws p)) (R.exact ws at (first c) (b ++ rest) k g.1.0) ∙ (S (first c) g.1.0).exact ws (at + length a) c rest (past ws at a k) ((refl, g.0), g.1.1) ∙ ap (got c) n

module _ {A : Type 0} {r : List ℕ → ℕ → Out A} {code : A → List ℕ} {Form : A → Type 0} (R : Reads r code Form) where
  -- two things, and the record made of both
  pub reads_then : {B C : Type 0} {f : A → List ℕ → ℕ → Out B} {code_b : A → B → List ℕ} {FormB : A → B → Type 0} (mk : A → B → C) (first : C → A) (second : C → B) → ((x : A) (y : B) → Form x → first (mk x y) ≡ x) → ((x : A) (y : B) → second (mk x y) ≡ y) → ((c : C) → mk (first c) (second c) ≡ c) → ((x : A) → Form x → Reads (f x) (code_b x) (FormB x)) → Reads (λ ws at. then (r ws at) (λ x p. made (mk x) (f x ws p))) (λ c. code (first c) ++ code_b (first c) (second c)) (λ c. Form (first c) × FormB (first c) (second c))
  reads_then mk first second first-mk second-mk mk-both S =
      reads_as
      (reads_bind R first (λ x f. reads_made (S x f) (mk x) second (λ c. (first c ≡ x) × Unit {0}) (λ y g. (first-mk x y f, tt)) (λ y g. second-mk x y) (λ c k. ap (λ z. mk z (second c)) (sym k.0) ∙ mk-both c)))
      (λ c f. refl)
      (λ c. (λ f. f.1, λ f. (tt, f)))

-- so many things, of which nothing is kept for a reader before
reads_kept : {A : Type 0} {r : List ℕ → ℕ → Out A} {code : A → List ℕ} {Kept Form : A → Type 0} → Reads r code (λ x. Kept x × Form x) → Reads r code (λ x. (Kept x × Unit {0}) × Form x)
reads_kept R = reads_as R (λ x f. refl) (λ x. (λ f. ((f.0, tt), f.1), λ f. (f.0.0, f.1)))

-- A WORD in its range
pub reads_ranged : (lo hi e : ℕ) → Reads (ranged lo hi e) (λ x. x ∷ []) (λ x. (lo ≤ x) × (x < hi))
unfolding ranged
reads_ranged lo hi e =
    record {
      sound = λ ws at. ok_then _ (ok_word ws at) (λ x p s. ok_need (leb lo x) _ _ (λ a. ok_need (ltb x hi) _ _ (λ b. fine (s, (leb-true _ _ a, ltb-true _ _ b)))));
      exact = λ ws at x rest h f. let l = lies ws at h in simp (lt-ltb _ _ l.here, l.this, le-leb _ _ f.0, lt-ltb _ _ f.1);
      inside = λ ws at h. in_word ws at _ (λ x i. in_need (leb lo x) _ _ i (in_need (ltb x hi) _ _ i (let j : at + 1 ≤ length ws = omega arith in in_got j)));
    }

-- RISING WORDS in their range
abbrev pub Within : Range → ℕ → Type 0
Within Any x = Unit {0}
Within (Below hi e) x = x < hi

ok_range : {A : Type 0} {P : A → ℕ → Type 0} (range : Range) (x at : ℕ) {o : Out A} → (Within range x → OK P o) → OK P (in_range range x at o)
ok_range Any x at k = k tt
ok_range (Below hi e) x at k = ok_need (ltb x hi) e at (λ h. k (ltb-true _ _ h))

in_range_lem : {A : Type 0} {l : ℕ} (range : Range) (x at : ℕ) {o : Out A} → at < l → In l o → In l (in_range range x at o)
in_range_lem Any x at h k = k
in_range_lem (Below hi e) x at h k = in_need (ltb x hi) e at h k

within : (range : Range) (x : ℕ) → Within range x → {A : Type 0} (at : ℕ) (o : Out A) → in_range range x at o ≡ o
within Any x h at o = refl
within (Below hi e) x h at o = simp (lt-ltb _ _ h)

-- what holds of a first thing and of those after it holds of all
pub all_cons : {A : Type 0} {P : A → Type 0} {x : A} {xs : List A} → P x → ((y : A) → Memᴰ y xs → P y) → (y : A) → Memᴰ y (x ∷ xs) → P y
all_cons {P = P} p k y m = ⊎_elim (λ e. subst P (sym e) p) (k y) (Memᴰ.cases_cons m)

abbrev RisingIn : Range → ℕ → ℕ → List ℕ → Type 0
RisingIn range low k xs = (length xs ≡ k) × (RisingFrom low xs × ((x : ℕ) → Memᴰ x xs → Within range x))

-- the next of them
module _ (range : Range) (low : ℕ) (ws : List ℕ) (at : ℕ) where
  pub ok_next : OK (λ x p. Spans ws at (x ∷ []) p × (Within range x × (low ≤ x))) (next range low ws at)
  unfolding next
  ok_next = ok_then _ (ok_word ws at) (λ x p s. ok_range range x at (λ a. ok_need (leb low x) _ _ (λ b. fine (s, (a, leb-true _ _ b)))))

  exact_next : {x : ℕ} {rest : List ℕ} → drop at ws ≡ x ∷ rest → Within range x → low ≤ x → next range low ws at ≡ got x (at + 1)
  unfolding next
  exact_next {x} h a b = let l = lies ws at h in simp (lt-ltb _ _ l.here, l.this, within range x a, le-leb _ _ b)

  in_next : In (length ws) (next range low ws at)
  unfolding next
  in_next = in_word ws at _ (λ x h. in_range_lem range x at h (in_need (leb low x) _ _ h (let i : at + 1 ≤ length ws = omega arith in in_got i)))

pub reads_next : (range : Range) (low : ℕ) → Reads (next range low) (λ x. x ∷ []) (λ x. Within range x × (low ≤ x))
reads_next range low = record { sound = ok_next range low; exact = λ ws at x rest h f. exact_next range low ws at h f.0 f.1; inside = λ ws at h. in_next range low ws at }

ok_rising : (range : Range) (low k : ℕ) (ws : List ℕ) (at : ℕ) → OK (λ xs p. Spans ws at xs p × RisingIn range low k xs) (rising range low k ws at)
unfolding rising RisingFrom
ok_rising range low zero ws at = fine (spans_none ws at, (refl, (tt, λ x m. absurd (Memᴰ.not-nil m))))
ok_rising range low (suc k) ws at =
    ok_then _ (ok_next range low ws at) (λ x p s.
    ok_made _ (ok_rising range (x + 1) k ws p) (λ xs q t.
    (spans_join s.0 t.0, (ap suc t.1.0, ((s.1.1, rw (add-one x) at t.1.1.0), all_cons s.1.0 t.1.1.1)))))

exact_rising : (range : Range) (low k : ℕ) (ws : List ℕ) (at : ℕ) (xs rest : List ℕ) → drop at ws ≡ xs ++ rest → RisingIn range low k xs → rising range low k ws at ≡ got xs (at + length xs)
unfolding rising RisingFrom
exact_rising range low zero ws at [] rest h f = ap (got []) (omega arith)
exact_rising range low zero ws at (x ∷ xs) rest h f = absurd (omega (arith, f.0))
exact_rising range low (suc k) ws at [] rest h f = absurd (omega (arith, f.0))
exact_rising range low (suc k) ws at (x ∷ xs) rest h f =
    let l = lies ws at h in
    let n : at + 1 + length xs ≡ at + suc (length xs) = omega arith in
    let t = exact_rising range (x + 1) k ws (at + 1) xs rest l.after (omega (arith, f.0), (rw (add-one x) f.1.0.1, λ y m. f.1.1 y (Memᴰ.tail m))) in
    simp (exact_next range low ws at h (f.1.1 x (Memᴰ.head refl)) f.1.0.0, t) (ap (got (x ∷ xs)) n)

in_rising : (range : Range) (low k : ℕ) (ws : List ℕ) (at : ℕ) → at ≤ length ws → In (length ws) (rising range low k ws at)
unfolding rising
in_rising range low zero ws at i = in_got i
in_rising range low (suc k) ws at i = in_then _ (in_next range low ws at) (λ x p j. in_made _ (in_rising range (x + 1) k ws p j))

pub reads_rising : (range : Range) (low k : ℕ) → Reads (rising range low k) (λ xs. xs) (λ xs. (length xs ≡ k) × (RisingFrom low xs × ((x : ℕ) → Memᴰ x xs → Within range x)))
reads_rising range low k = record { sound = ok_rising range low k; exact = exact_rising range low k; inside = in_rising range low k }

-- A LIST after its count
pub reads_listed : (lo hi : ℕ) (range : Range) → Reads (listed lo hi range) code_list (λ xs. (lo ≤ length xs) × (length xs < hi) × RisingFrom 0 xs × ((x : ℕ) → Memᴰ x xs → Within range x))
unfolding listed
reads_listed lo hi range =
    reads_as
    (reads_bind (reads_ranged lo hi 2) length (λ k f. reads_kept (reads_rising range 0 k)))
    (λ xs f. refl)
    (λ xs. (λ f. (f.1.0.0, f.1.0.1, f.1.1.0, f.1.1.1), λ f. (tt, ((f.0, f.1), (f.2, f.3)))))

-- THINGS one after the other
module _ {A : Type 0} {r : List ℕ → ℕ → Out A} {code : A → List ℕ} {Form : A → Type 0} (R : Reads r code Form) where
  ok_times : (k : ℕ) (ws : List ℕ) (at : ℕ) → OK (λ xs p. Spans ws at (code_all code xs) p × ((length xs ≡ k) × ((x : A) → Memᴰ x xs → Form x))) (times k r ws at)
  unfolding times code_all
  ok_times zero ws at = fine (spans_none ws at, (refl, λ x m. absurd (Memᴰ.not-nil m)))
  ok_times (suc k) ws at =
      ok_then _ (R.sound ws at) (λ x p s.
      ok_made _ (ok_times k ws p) (λ xs q t. (spans_join s.0 t.0, (ap suc t.1.0, all_cons s.1 t.1.1))))

  exact_times : (k : ℕ) (ws : List ℕ) (at : ℕ) (xs : List A) (rest : List ℕ) → drop at ws ≡ code_all code xs ++ rest → ((length xs ≡ k) × ((x : A) → Memᴰ x xs → Form x)) → times k r ws at ≡ got xs (at + length (code_all code xs))
  unfolding times code_all
  exact_times zero ws at [] rest h f = ap (got []) (omega arith)
  exact_times zero ws at (x ∷ xs) rest h f = absurd (omega (arith, f.0))
  exact_times (suc k) ws at [] rest h f = absurd (omega (arith, f.0))
  exact_times (suc k) ws at (x ∷ xs) rest h f =
      let a = code x in
      let b = code_all code xs in
      let i : drop at ws ≡ a ++ (b ++ rest) = h ∙ append_assoc a b rest in
      let n : at + length a + length b ≡ at + length (a ++ b) = omega (arith, length-append a b) in
      let t = exact_times k ws (at + length a) xs rest (past ws at a i) (omega (arith, f.0), λ y m. f.1 y (Memᴰ.tail m)) in
      simp (R.exact ws at x (b ++ rest) i (f.1 x (Memᴰ.head refl)), t) (ap (got (x ∷ xs)) n)

  in_times : (k : ℕ) (ws : List ℕ) (at : ℕ) → at ≤ length ws → In (length ws) (times k r ws at)
  unfolding times
  in_times zero ws at i = in_got i
  in_times (suc k) ws at i = in_then _ (R.inside ws at i) (λ x p j. in_made _ (in_times k ws p j))

  pub reads_times : (k : ℕ) → Reads (times k r) (code_all code) (λ xs. (length xs ≡ k) × ((x : A) → Memᴰ x xs → Form x))
  reads_times k = record { sound = ok_times k; exact = exact_times k; inside = in_times k }

  -- a section: so many things, after their count
  pub reads_section : (lo hi : ℕ) → Reads (section lo hi r) (code_many code) (λ xs. (lo ≤ length xs) × (length xs < hi) × ((x : A) → Memᴰ x xs → Form x))
  unfolding section
  reads_section lo hi =
      reads_as
      (reads_bind (reads_ranged lo hi 2) length (λ k f. reads_kept (reads_times k)))
      (λ xs f. refl)
      (λ xs. (λ f. (f.1.0.0, f.1.0.1, f.1.1), λ f. (tt, ((f.0, f.1), f.2))))
