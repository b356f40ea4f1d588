-- A sound formula, and a sound entry, that lie in the words are the ones that are seen there.
use Prim.Native.Nat.{ℕ, zero, suc, ◌+◌, ◌<◌, ◌≤◌}
use mathlib.Core.Path.{◌≡◌, refl, ap, ap₂, ◌∙◌, subst}
use mathlib.Core.List.{List, ◌++◌, append_assoc}
use native.Mathlib.Omega.{arith}
use lib.ListN.{length, get_or, drop, length-append}
use borrow.Author.Tests.{lt-ltb, le-ltb}
use Rattle.words.specs.Code.{code_list}
use Rattle.meaning.specs.Tests.{◌∈◌, ◌is◌, choose}
use Rattle.meaning.specs.Formula.{Formula, always, atom, neg, conj, disj}
use Rattle.promise.specs.Code.{code_formula, code_entry}
use Rattle.promise.specs.Form.{FormulaForm, EntryForm}
use Rattle.promise.specs.Formula.{formula_at, formula_end, FormulaFits, entry_at, entry}
use Rattle.promise.proofs.Seen.{first_word, next_words, words_after, word_there, ends_within, listed, Seen}

pub record SeeFormula (n d : ℕ) (ws : List ℕ) (p : ℕ) (f : Formula) : Type 0 where
  pub that : formula_at d ws p ≡ f
  pub ends : formula_end d ws p ≡ p + length (code_formula f)
  pub fits : FormulaFits n d ws p

-- two operands: what lies after the first
second : (ws : List ℕ) (p q : ℕ) (a b rest : List ℕ) → q ≡ p + 1 + length a → drop (p + 1) ws ≡ (a ++ b) ++ rest → drop q ws ≡ b ++ rest
second ws p q a b rest e w = ap (λ (i : ℕ). drop i ws) e ∙ words_after ws (p + 1) a (w ∙ append_assoc a b rest)

module _ (n : ℕ) (small : n ≤ 256) where
  pub formula_seen : (d : ℕ) (ws : List ℕ) (p : ℕ) (f : Formula) (rest : List ℕ) → FormulaForm n d f → drop p ws ≡ code_formula f ++ rest → SeeFormula n d ws p f
  unfolding FormulaForm code_formula formula_at formula_end FormulaFits choose ◌is◌
  formula_seen zero ws p f rest s w = absurd s
  formula_seen (suc d) ws p (atom a) rest s w =
      let x = first_word ws p w in
      let i = word_there ws p w in
      let b : a < 256 = omega arith in
      let c : a < 257 = omega arith in
      let e : a ≤ 256 = omega arith in
      record { that = simp (x, lt-ltb _ _ b); ends = simp (x, lt-ltb _ _ c); fits = (i, simp (x, lt-ltb _ _ b) s, simp (x, le-ltb _ _ e) tt) }
  formula_seen (suc d) ws p always rest s w =
      let x = first_word ws p w in
      record { that = simp x; ends = simp x; fits = (word_there ws p w, simp x tt, simp x tt) }
  formula_seen (suc d) ws p (neg f) rest s w =
      let x = first_word ws p w in
      let r = formula_seen d ws (p + 1) f rest s (next_words ws p w) in
      record { that = simp x (ap neg r.that); ends = simp x (omega (arith, r.ends)); fits = (word_there ws p w, simp x tt, simp x (r.fits, tt)) }
  formula_seen (suc d) ws p (conj f g) rest s w =
      let x = first_word ws p w in
      let v = next_words ws p w in
      let r = formula_seen d ws (p + 1) f (code_formula g ++ rest) s.0 (v ∙ append_assoc (code_formula f) (code_formula g) rest) in
      let t = formula_seen d ws (formula_end d ws (p + 1)) g rest s.1 (second ws p _ (code_formula f) (code_formula g) rest r.ends v) in
      record { that = simp x (ap₂ conj r.that t.that); ends = simp x (omega (arith, r.ends, t.ends, length-append (code_formula f) (code_formula g))); fits = (word_there ws p w, simp x tt, simp x (r.fits, t.fits)) }
  formula_seen (suc d) ws p (disj f g) rest s w =
      let x = first_word ws p w in
      let v = next_words ws p w in
      let r = formula_seen d ws (p + 1) f (code_formula g ++ rest) s.0 (v ∙ append_assoc (code_formula f) (code_formula g) rest) in
      let t = formula_seen d ws (formula_end d ws (p + 1)) g rest s.1 (second ws p _ (code_formula f) (code_formula g) rest r.ends v) in
      record { that = simp x (ap₂ disj r.that t.that); ends = simp x (omega (arith, r.ends, t.ends, length-append (code_formula f) (code_formula g))); fits = (word_there ws p w, simp x tt, simp x (r.fits, t.fits)) }

  pub entries_seen : (m : ℕ) → Seen (entry n m) code_entry (EntryForm n m)
  entries_seen m ws p e rest w f =
      let code = code_formula e.formula in
      let s = listed ws p (p + 1) e.creds (code_list code ++ rest) refl (w ∙ append_assoc (code_list e.creds) (code_list code) rest) in
      let q = p + 1 + get_or ws p 0 in
      let v : drop (q + 1) ws ≡ code ++ rest = next_words ws q s.past in
      let t = formula_seen 16 ws (q + 1) e.formula rest f.formula v in
      let z : (entry_at ws p).next ≡ p + length (code_entry e) = omega (arith, s.count, first_word ws q s.past, length-append e.creds (code_list code)) in
      record {
        that = rw (s.that, t.that);
        next = z;
        ok =
            record {
              ends = rw z (ends_within ws p (code_entry e) rest (omega arith) w);
              creds = λ x i. f.creds.below x (subst (λ (l : List ℕ). x ∈ l) s.that i);
              formula = t.fits;
              form = rw t.that f.formula;
            };
      }
