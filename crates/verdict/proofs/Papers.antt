-- What the promise says of a probe, of the secret and of a line, where the outcome speaks of them.
use Prim.Native.Nat.{ℕ, zero, suc, ◌<◌, ◌≤◌}
use mathlib.Core.Path.{◌≡◌, refl, sym, ap, ap₂, ◌∙◌}
use mathlib.Core.Bool.{Bool, true, false}
use mathlib.Core.List.{List, ◌∷◌}
use mathlib.Core.Option.{Option}
use native.Mathlib.Omega.{arith}
use lib.Dec.{eqb}
use lib.ListN.{get_or, take}
use Rattle.meaning.specs.Tests.{agree, named, choose, ◌is◌}
use Rattle.meaning.specs.Policy.{Policy}
use Rattle.meaning.specs.Papers.{Entry, Dossier, Line, policy, answer}
use Rattle.meaning.specs.Rules.{follows, earlier, line_follows}
use Rattle.meaning.specs.Verdict.{tried, probe_agrees}
use Rattle.promise.specs.Code.{bit}
use Rattle.promise.specs.Place.{Kind, many, place, Fit, Starts}
use Rattle.promise.specs.Clause.{credential}
use Rattle.promise.specs.Formula.{entry_at, entry_of, entry}
use Rattle.promise.specs.Line.{literal, line_at, line_of, line, LineFits}
use Rattle.promise.specs.Thing.{entry_next, line_next}
use Rattle.promise.specs.Layout.{dossier_at, ProbeStarts}
use Rattle.promise.specs.declared.Layout.{Layout}
use Rattle.promise.proofs.Place.{many_at}
use Rattle.promise.specs.declared.LineAt.{LineAt}
use Rattle.reply.specs.Answer.{accepted}
use Rattle.reply.specs.declared.Reply.{Reply}
use Rattle.reply.specs.declared.Paper.TheVariants as paper
use Rattle.reply.specs.declared.Verdict.TheVariants as said
use borrow.Author.Tests.{eq-eqb, ne_eqb}
use Rattle.evaluation.specs.Which.{policy_at, Ready}
use Rattle.evaluation.specs.Held.{read_in, table_of}
use Rattle.evaluation.specs.declared.Which.{Which}
use Rattle.evaluation.specs.Answer.{answer_of, answer_word}
use Rattle.evaluation.specs.declared.Which.TheVariants.{Tried}
use Rattle.evaluation.proofs.Entry.{probe_answer, probe_says}
use Rattle.verdict.specs.Told.{showing, Told}

-- ---- a probe

bits_agree : (a b : Bool) → eqb (bit a) (bit b) ≡ agree a b
unfolding agree
bits_agree true true = refl
bits_agree true false = refl
bits_agree false true = refl
bits_agree false false = refl

module _ (d : List ℕ) (o : Layout) (probes told w : List ℕ) (k : ℕ) (s : ProbeStarts d o probes) (t : Told d o told) (j : ℕ) (h : j < o.nprobes) where
  W : Policy
  W = many (credential o.atoms) w 2 k

  e : Entry
  e = entry_of d (entry_at d (place ((entry o.atoms o.ncreds).next d) o.probes j))

  tried_answer : {a : Bool} → a ≡ answer_of d o w (Tried k) (get_or probes j 0) → a ≡ answer (dossier_at d o) (tried (dossier_at d o) W) e
  unfolding answer_of policy_at W e
  tried_answer v = probe_answer d o probes s j h w (Tried k) v

  own_word : get_or told j 0 ≡ bit (answer (dossier_at d o) (policy (dossier_at d o)) e)
  unfolding answer_word answer_of policy_at e
  own_word = t.each j h

  agrees_at : probe_agrees (dossier_at d o) W j ≡ agree (answer (dossier_at d o) (tried (dossier_at d o) W) e) (answer (dossier_at d o) (policy (dossier_at d o)) e)
  unfolding probe_agrees named dossier_at W e
  agrees_at = ap (λ (x : Option Entry). named x (λ y. agree (answer (dossier_at d o) (tried (dossier_at d o) W) y) (answer (dossier_at d o) (policy (dossier_at d o)) y))) (many_at (entry o.atoms o.ncreds) d o.probes o.nprobes j h)

  pub probe_told : {x : ℕ} {a : Bool} → x ≡ bit a → a ≡ answer_of d o w (Tried k) (get_or probes j 0) → eqb x (get_or told j 0) ≡ probe_agrees (dossier_at d o) (many (credential o.atoms) w 2 k) j
  unfolding W
  probe_told u v = ap₂ eqb (u ∙ ap bit (tried_answer v)) own_word ∙ bits_agree _ _ ∙ sym agrees_at

-- by the table of what holds there
pub probe_judged : {d : List ℕ} {o : Layout} {creds w probes told : List ℕ} {which : Which} {k : ℕ} → Ready d o creds w which → ProbeStarts d o probes → Told d o told → which ≡ Tried k
    → (j : ℕ) → j < o.nprobes → {t : List ℕ} → t ≡ table_of d o w which (entry_at d (get_or probes j 0)) → {a : Bool} → a ≡ (bit (read_in d (get_or probes j 0) (take o.atoms t)) is get_or told j 0)
    → a ≡ probe_agrees (dossier_at d o) (many (credential o.atoms) w 2 k) j
unfolding ◌is◌
probe_judged {d} {o} {creds} {w} {probes} {told} {which} {k} ready s t e j h found same =
    same ∙ probe_told d o probes told w k s t j h refl (probe_says ready s j h found ∙ ap (λ (v : Which). answer_of d o w v (get_or probes j 0)) e)

-- ---- a thing ends after it begins

pub entry_ends : (ws : List ℕ) (p : ℕ) → p ≤ entry_next ws p
entry_ends ws p = omega arith

place_after : (next : ℕ → ℕ) → ((q : ℕ) → q ≤ next q) → (p k : ℕ) → p ≤ place next p k
unfolding place
place_after next f p zero = omega arith
place_after next f p (suc k) = omega (arith, place_after next f p k, f (place next p k))

pub line_ends : (ws : List ℕ) (p : ℕ) → p ≤ line_next ws p
line_ends ws p = let h = place_after (literal.next ws) (λ q. omega arith) (line_at ws p).literals (line_at ws p).count in omega (arith, h)

-- ---- a line

many_take : {A : Type 0} (K : Kind A) (ws : List ℕ) (p k j : ℕ) → j ≤ k → take j (many K ws p k) ≡ many K ws p j
unfolding many
many_take K ws p k zero h = refl
many_take K ws p zero (suc j) h = absurd (omega arith)
many_take {A} K ws p (suc k) (suc j) h = ap {B = List A} (λ l. K.read ws p ∷ l) (many_take K ws (K.next ws p) k j (omega arith))

-- the first n of k lines
module _ (s : List ℕ) {lines : List ℕ} {k : ℕ} (t : Starts (line.next s) 2 k lines) (n : ℕ) (h : n ≤ k) where
  pub first_fit : Fit line s 2 k → Fit line s 2 n
  unfolding Fit
  first_fit f i g = f i (omega arith)

  pub first_starts : Starts (line.next s) 2 n lines
  first_starts = record { long = omega (arith, t.long); each = λ i g. t.each i (omega arith) }

module _ (D : Dossier) (s lines : List ℕ) (k : ℕ) (t : Starts (line.next s) 2 k lines) (j : ℕ) (h : j < k) where
  pub line_fits : Fit line s 2 k → LineFits s (get_or lines j 0)
  unfolding Fit
  line_fits f = rw (t.each j h) (f j h)

  pub line_at_lem : {b : Bool} → b ≡ follows D (many line s 2 j) (line_of s (line_at s (get_or lines j 0))).literals (line_of s (line_at s (get_or lines j 0))).rule → b ≡ line_follows D (many line s 2 k) j
  unfolding line_follows named earlier
  line_at_lem {b} e =
      let q = t.each j h in
      e ∙ ap (λ (p : ℕ). follows D (many line s 2 j) (line_of s (line_at s p)).literals (line_of s (line_at s p)).rule) q
      ∙ ap (λ (l : List Line). follows D l (line_of s (line_at s (place (line.next s) 2 j))).literals (line_of s (line_at s (place (line.next s) 2 j))).rule) (sym (many_take line s 2 k j (omega arith)))
      ∙ ap (λ (x : Option Line). named x (λ l. follows D (take j (many line s 2 k)) l.literals l.rule)) (sym (many_at line s 2 k j h))

-- ---- the last line: it is empty, or not

module _ (s : List ℕ) (p : ℕ) {v : LineAt} (e : v ≡ line_at s p) {r : Reply} where
  pub last_empty_lem : v.count ≡ 0 → r ≡ accepted said.Detectable → r ≡ choose ((line_at s p).count is 0) (accepted said.Detectable) (showing 17 paper.Certificate line_next s p)
  unfolding choose ◌is◌
  last_empty_lem h g = rw (eq-eqb (line_at s p).count 0 (ap (λ (x : LineAt). x.count) (sym e) ∙ h)) g

  pub last_left : (v.count ≡ 0 → ⊥) → r ≡ showing 17 paper.Certificate line_next s p → r ≡ choose ((line_at s p).count is 0) (accepted said.Detectable) (showing 17 paper.Certificate line_next s p)
  unfolding choose ◌is◌
  last_left h g = rw (ne_eqb (line_at s p).count 0 (λ z. h (ap (λ (x : LineAt). x.count) e ∙ z))) g
