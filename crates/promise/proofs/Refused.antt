-- When a reader refuses: exactly where a row of the table says so, by what is due there. And how this follows for a reader from its parts.
use Prim.Native.Nat.{ℕ, ◌+◌, ◌≤◌}
use mathlib.Core.Path.{◌≡◌, refl, sym, ap, ◌∙◌, subst}
use mathlib.Core.Bool.{Bool, true, false}
use mathlib.Core.List.{List, [], ◌∷◌, ◌++◌, append_assoc}
use native.Mathlib.Omega.{arith}
use lib.Dec.{ltb}
use lib.ListN.{length, get_or, drop, length-append, length-drop, drop_of_length-le}
use borrow.Author.Tests.{lt-ltb, le-ltb, ltb-true, ltb-false}
use Rattle.words.specs.Out.{Out, got, bad, then, made, present, word, moved, after}
use Rattle.words.proofs.Promise.{OK, fine, none, Spans, spans_word, lies, past, Reads}
use Rattle.promise.specs.Due.{Word, What, one}
use Rattle.promise.specs.Table.{Wrong, Fault}

-- why the words from `at` on are refused with number e at place p, showing w words: by what is due once the words us have come, and the row
pub data Why (Due : List ℕ → What → Type 0) (ws : List ℕ) (at e p w : ℕ) : Type 0 where
  because : (us rest : List ℕ) {what : What} {q : ℕ} {shown : List ℕ} → drop at ws ≡ us ++ rest → Due us what → Fault what rest e q shown → p ≡ at + length us + q → w ≡ length shown → Why Due ws at e p w

-- what is due once the words `code` have come
pub why_further : {D E : List ℕ → What → Type 0} {ws : List ℕ} {at q e p w : ℕ} {code : List ℕ} → Spans ws at code q → ((us : List ℕ) (what : What) → D us what → E (code ++ us) what) → Why D ws q e p w → Why E ws at e p w
why_further {code = code} s f (because us rest v d g z c) =
    because (code ++ us) rest (s.words ∙ ap (λ (l : List ℕ). code ++ l) v ∙ sym (append_assoc code us rest)) (f us _ d) g (omega (arith, z, s.next, length-append code us)) c

pub why_as : {D E : List ℕ → What → Type 0} {ws : List ℕ} {at e p w : ℕ} → ((us : List ℕ) (what : What) → D us what → E us what) → Why D ws at e p w → Why E ws at e p w
why_as f (because us rest v d g z c) = because us rest v (f us _ d) g z c

-- what was read, or why not
pub data Stops (Due : List ℕ → What → Type 0) (ws : List ℕ) (at : ℕ) {A : Type 0} : Out A → Type 0 where
  went : {v : A} {p : ℕ} → Stops Due ws at (got v p)
  stops : {e p w : ℕ} → Why Due ws at e p w → Stops Due ws at (bad e p w)

-- THE LAW: a reader refuses exactly where a row says so
pub record Refuses {A : Type 0} (r : List ℕ → ℕ → Out A) (Due : List ℕ → What → Type 0) : Type 0 where
  pub why : (ws : List ℕ) (at : ℕ) → at ≤ length ws → Stops Due ws at (r ws at)
  pub so : (ws : List ℕ) (at : ℕ) → at ≤ length ws → {e p w : ℕ} → Why Due ws at e p w → r ws at ≡ bad e p w

module _ {A : Type 0} {r : List ℕ → ℕ → Out A} {D : List ℕ → What → Type 0} (R : Refuses r D) where
  -- what is due, said in another way
  pub refuses_as : {E : List ℕ → What → Type 0} → ((us : List ℕ) (what : What) → D us what → E us what) → ((us : List ℕ) (what : What) → E us what → D us what) → Refuses r E
  refuses_as {E} to from = record { why = λ ws at h. go ws at (R.why ws at h); so = λ ws at h y. R.so ws at h (why_as from y) }
    where
      go : (ws : List ℕ) (at : ℕ) {o : Out A} → Stops D ws at o → Stops E ws at o
      go ws at went = went
      go ws at (stops y) = stops (why_as to y)

  -- the reader, said in another way
  pub refuses_same : {r' : List ℕ → ℕ → Out A} → ((ws : List ℕ) (at : ℕ) → r ws at ≡ r' ws at) → Refuses r' D
  refuses_same same = record { why = λ ws at h. subst (λ (o : Out A). Stops D ws at o) (same ws at) (R.why ws at h); so = λ ws at h y. sym (same ws at) ∙ R.so ws at h y }

  pub refuses_made : {B : Type 0} (f : List ℕ → ℕ → A → B) → Refuses (λ ws at. made (f ws at) (r ws at)) D
  refuses_made f = record { why = λ ws at h. go ws at (R.why ws at h); so = λ ws at h y. ap (made (f ws at)) (R.so ws at h y) }
    where
      go : (ws : List ℕ) (at : ℕ) {o : Out A} → Stops D ws at o → Stops D ws at (made (f ws at) o)
      go ws at went = went
      go ws at (stops y) = stops y

  pub refuses_after : Refuses (after r) D
  unfolding after moved
  refuses_after = record { why = λ ws p h. go ws p (R.why (drop p ws) 0 (omega arith)); so = so }
    where
      go : (ws : List ℕ) (p : ℕ) {o : Out A} → Stops D (drop p ws) 0 o → Stops D ws p (moved p o)
      go ws p went = went
      go ws p (stops {p = i} (because us rest {q = q} v d f z c)) = let k : p + i ≡ p + length us + q = omega (arith, z) in stops (because us rest v d f k c)

      so : (ws : List ℕ) (at : ℕ) → at ≤ length ws → {e p w : ℕ} → Why D ws at e p w → after r ws at ≡ bad e p w
      so ws at h {e} {p} {w} (because us rest {q = q} v d f z c) =
          let k : at + (length us + q) ≡ p = omega (arith, z) in
          let j : length us + q ≡ 0 + length us + q = omega arith in
          ap (moved at) (R.so (drop at ws) 0 (omega arith) (because us rest v d f j c)) ∙ ap (λ (i : ℕ). bad e i w) k

-- nothing is due, and nothing is read
pub refuses_nothing : {A : Type 0} {D : List ℕ → What → Type 0} (v : A) → ((us : List ℕ) (what : What) → D us what → ⊥) → Refuses (λ ws at. got v at) D
refuses_nothing {A} {D} v never = record { why = λ ws at h. went; so = so }
  where
    so : (ws : List ℕ) (at : ℕ) → at ≤ length ws → {e p w : ℕ} → Why D ws at e p w → got v at ≡ bad e p w
    so ws at h (because us rest v d f z c) = absurd (never us _ d)

-- ---- one after the other

-- a first thing, or after a whole one the second
pub data Seq {A : Type 0} (First : List ℕ → What → Type 0) (code : A → List ℕ) (Form : A → Type 0) (Second : A → List ℕ → What → Type 0) : List ℕ → What → Type 0 where
  first : {us : List ℕ} {what : What} → First us what → Seq First code Form Second us what
  second : (x : A) {us : List ℕ} {what : What} → Form x → Second x us what → Seq First code Form Second (code x ++ us) what

-- what was read lies within the words
pub spans_within : (ws : List ℕ) {at p : ℕ} {code : List ℕ} → Spans ws at code p → at ≤ length ws → p ≤ length ws
spans_within ws {at} {p} {code} s h = omega (arith, s.next, ap length s.words, length-append code (drop p ws), length-drop at ws, length-drop p ws)

module _ {A B : Type 0} {r : List ℕ → ℕ → Out A} {code : A → List ℕ} {Form : A → Type 0} {f : A → ℕ → List ℕ → ℕ → Out B} {First : List ℕ → What → Type 0} {Second : A → List ℕ → What → Type 0}
    (R : Reads r code Form) (S : Refuses r First) (T : (x : A) (q : ℕ) → Form x → Refuses (f x q) (Second x)) where
  abbrev Both : List ℕ → What → Type 0
  Both = Seq First code Form Second

  pub refuses_then : Refuses (λ ws at. then (r ws at) (λ x q. f x q ws q)) Both
  refuses_then = record { why = λ ws at h. whole ws at h (R.sound ws at) (S.why ws at h); so = so }
    where
      later : (ws : List ℕ) {at q : ℕ} (x : A) → Spans ws at (code x) q → Form x → {o : Out B} → Stops (Second x) ws q o → Stops Both ws at o
      later ws x s g went = went
      later ws x s g (stops y) = stops (why_further s (λ us what d. second x g d) y)

      whole : (ws : List ℕ) (at : ℕ) → at ≤ length ws → {o : Out A} → OK (λ x q. Spans ws at (code x) q × Form x) o → Stops First ws at o → Stops Both ws at (then o (λ x q. f x q ws q))
      whole ws at h (fine {v = x} {p = q} s) went = later ws x s.0 s.1 ((T x q s.1).why ws q (spans_within ws s.0 h))
      whole ws at h none (stops y) = stops (why_as (λ us what d. first d) y)

      so : (ws : List ℕ) (at : ℕ) → at ≤ length ws → {e p w : ℕ} → Why Both ws at e p w → then (r ws at) (λ x q. f x q ws q) ≡ bad e p w
      so ws at h (because us rest v (first d) y z c) = ap (λ (o : Out A). then o (λ x q. f x q ws q)) (S.so ws at h (because us rest v d y z c))
      so ws at h {p = p} (because us rest {q = ahead} v (second x {us = vs} g d) y z c) =
          let k : drop at ws ≡ code x ++ (vs ++ rest) = v ∙ append_assoc (code x) vs rest in
          let q : ℕ = at + length (code x) in
          let i : drop q ws ≡ vs ++ rest = past ws at (code x) k in
          let j : q ≤ length ws = spans_within ws {code = code x} (record { words = k ∙ ap (λ (l : List ℕ). code x ++ l) (sym i); next = refl }) h in
          let t : p ≡ q + length vs + ahead = omega (arith, z, length-append (code x) vs) in
          ap (λ (o : Out A). then o (λ x q. f x q ws q)) (R.exact ws at x (vs ++ rest) k g) ∙ (T x q g).so ws q j (because vs rest i d y t c)

-- ---- one word

-- the one thing that is due is this
pub data Only (what : What) : List ℕ → What → Type 0 where
  only : Only what [] what

pub fault_none : {what : What} {e q : ℕ} {us : List ℕ} → Fault what [] e q us → (e ≡ 1) × (q ≡ 0) × (us ≡ [])
fault_none Fault.ended = (refl, refl, refl)

-- the word x at `at` was tested as w: it passed, and no row speaks of it; or just one does
pub data Tested (w : Word) (x at : ℕ) {A : Type 0} : Out A → Type 0 where
  passes : {v : A} {p : ℕ} → ((e : ℕ) → Wrong w x e → ⊥) → Tested w x at (got v p)
  fails : {e : ℕ} → Wrong w x e → ((k : ℕ) → Wrong w x k → k ≡ e) → Tested w x at (bad e at 1)

pub word_row : {w : Word} {x e q : ℕ} {rest us : List ℕ} → Fault (one w) (x ∷ rest) e q us → Wrong w x e × (q ≡ 0) × (us ≡ x ∷ [])
word_row (Fault.word f) = (f, refl, refl)

module _ (due : Word) {A : Type 0} (g : ℕ → ℕ → ℕ → Out A) (tested : (x at p : ℕ) → Tested due x at (g x at p)) where
  pub refuses_word : Refuses (λ ws at. then (word ws at) (λ x p. g x at p)) (Only (one due))
  refuses_word = record { why = λ ws at h. there ws at h (ltb at (length ws)) refl; so = so }
    where
      stopped : (ws : List ℕ) (at : ℕ) {x : ℕ} → drop at ws ≡ x ∷ drop (at + 1) ws → {o : Out A} → Tested due x at o → Stops (Only (one due)) ws at o
      stopped ws at v (passes f) = went
      stopped ws at {x} v (fails f k) = let z : at ≡ at + 0 + 0 = omega arith in stops (because [] (x ∷ drop (at + 1) ws) v only (Fault.word f) z refl)

      there : (ws : List ℕ) (at : ℕ) → at ≤ length ws → (b : Bool) → ltb at (length ws) ≡ b → Stops (Only (one due)) ws at (then (present b ws (got (get_or ws at 0) (at + 1))) (λ x p. g x at p))
      there ws at h true b = stopped ws at (spans_word ws at (ltb-true _ _ b)).words (tested (get_or ws at 0) at (at + 1))
      there ws at h false b =
          let i : length ws ≤ at = ltb-false _ _ b in
          let z : length ws ≡ at + 0 + 0 = omega arith in
          stops (because [] [] (drop_of_length-le ws i) only Fault.ended z refl)

      judged : {x e at p w q : ℕ} {shown : List ℕ} → Wrong due x e × (q ≡ 0) × (shown ≡ x ∷ []) → p ≡ at + 0 + q → w ≡ length shown → {o : Out A} → Tested due x at o → o ≡ bad e p w
      judged {e = e} f z c (passes k) = absurd (k e f.0)
      judged {e = e} {at} {p} {w} f z c (fails k only') =
          let a : e ≡ _ = only' e f.0 in
          let i : p ≡ at = omega (arith, z, f.1) in
          let j : w ≡ 1 = c ∙ ap length f.2 in
          rw (a, i, j) refl

      so : (ws : List ℕ) (at : ℕ) → at ≤ length ws → {e p w : ℕ} → Why (Only (one due)) ws at e p w → then (word ws at) (λ x p. g x at p) ≡ bad e p w
      so ws at h {p = p} {w = w} (because us [] v only f z c) =
          let (a, b, d) = fault_none f in
          let i : length ws ≤ at = omega (arith, ap length v, length-drop at ws) in
          let j : p ≡ length ws = omega (arith, z, b) in
          let k : w ≡ 0 = c ∙ ap length d in
          rw (a, j, k) (simp (le-ltb _ _ i))
      so ws at h (because us (x ∷ rest) v only f z c) = let l = lies ws at v in simp (lt-ltb _ _ l.here, l.this) (judged (word_row f) z c (tested x at (at + 1)))
