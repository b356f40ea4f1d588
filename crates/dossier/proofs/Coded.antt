-- Reading a prefix formula: where each word leads, and that a well-formed formula's code is read.
use Prim.Native.Nat.{ℕ, zero, suc, ◌+◌, ◌<◌, ◌≤◌}
use mathlib.Core.Path.{◌≡◌, ap, ◌∙◌}
use mathlib.Core.List.{List, ◌++◌, append_assoc}
use native.Mathlib.Omega.{arith}
use lib.ListN.{length, get_or, drop, length-append}
use borrow.Author.Tests.{lt-ltb, le-ltb, ne_eqb}
use Rattle.words.specs.Out.{Out, got, bad, then, made}
use Rattle.words.proofs.Promise.{lies, past}
use Rattle.meaning.specs.Tests.{◌is◌, choose}
use Rattle.meaning.specs.Formula.{Formula, always, atom, neg, conj, disj}
use Rattle.promise.specs.Code.{code_formula}
use Rattle.promise.specs.Form.{FormulaForm}
use Rattle.promise.specs.Table.{Operand, first, left, right}
use Rattle.dossier.specs.Read.{by_kind, operand}

-- the joined formula of a word that is 258 or 259
abbrev pub both : ℕ → Formula → Formula → Formula
both x f g = choose (x is 258) (conj f g) (disj f g)

module _ (n lp end : ℕ) (ws : List ℕ) (small : n ≤ 256) where
  abbrev read : ℕ → ℕ → Out Formula
  read d at = operand n lp end d ws at

  not_reads : (d at : ℕ) → at < end → get_or ws at 0 ≡ 257 → read (suc d) at ≡ made neg (read d (at + 1))
  unfolding operand by_kind choose ◌is◌
  not_reads d at i w = let k : n ≤ 257 = omega arith in simp (w, lt-ltb _ _ i, le-ltb _ _ k)

  both_reads : (d at x : ℕ) → 258 ≤ x → x ≤ 259 → at < end → get_or ws at 0 ≡ x → read (suc d) at ≡ then (read d (at + 1)) (λ f p. made (both x f) (read d p))
  unfolding operand by_kind choose ◌is◌
  both_reads d at x lo hi i w =
      let a : n ≤ x = omega arith in
      let b : 256 ≤ x = omega arith in
      let c : x ≡ 256 → ⊥ = λ z. omega (arith, z) in
      let e : x ≡ 257 → ⊥ = λ z. omega (arith, z) in
      simp (w, lt-ltb _ _ i, le-ltb _ _ a, le-ltb _ _ b, ne_eqb _ _ c, ne_eqb _ _ e, le-ltb _ _ hi)

  -- both operands of such a word are read
  both_read : (d at x : ℕ) (f g : Formula) → 258 ≤ x → x ≤ 259 → at < end → get_or ws at 0 ≡ x
      → read d (at + 1) ≡ got f (at + 1 + length (code_formula f)) → read d (at + 1 + length (code_formula f)) ≡ got g (at + 1 + length (code_formula f) + length (code_formula g))
      → read (suc d) at ≡ got (both x f g) (at + suc (length (code_formula f ++ code_formula g)))
  both_read d at x f g lo hi i w a b =
      let z : at + 1 + length (code_formula f) + length (code_formula g) ≡ at + suc (length (code_formula f ++ code_formula g)) = omega (arith, length-append (code_formula f) (code_formula g)) in
      both_reads d at x lo hi i w ∙ rw (a, b) (ap (got (both x f g)) z)

  pub exact_operand : (d at : ℕ) (f : Formula) (rest : List ℕ) → drop at ws ≡ code_formula f ++ rest → FormulaForm n d f → at + length (code_formula f) ≤ end → read d at ≡ got f (at + length (code_formula f))
  unfolding operand by_kind FormulaForm code_formula choose ◌is◌
  exact_operand zero at f rest w s h = absurd s
  exact_operand (suc d) at (atom a) rest w s h = let l = lies ws at w in let i : at < end = omega arith in simp (l.this, lt-ltb _ _ i, lt-ltb _ _ s)
  exact_operand (suc d) at always rest w s h = let l = lies ws at w in let i : at < end = omega arith in simp (l.this, lt-ltb _ _ i, le-ltb _ _ small)
  exact_operand (suc d) at (neg f) rest w s h =
      let l = lies ws at w in
      let z : at + 1 + length (code_formula f) ≡ at + suc (length (code_formula f)) = omega arith in
      not_reads d at (omega arith) l.this ∙ ap (made neg) (exact_operand d (at + 1) f rest l.after s (omega arith)) ∙ ap (got (neg f)) z
  exact_operand (suc d) at (conj f g) rest w s h =
      let l = lies ws at w in
      let v = l.after ∙ append_assoc (code_formula f) (code_formula g) rest in
      let k = length-append (code_formula f) (code_formula g) in
      both_read d at 258 f g (omega arith) (omega arith) (omega arith) l.this
      (exact_operand d (at + 1) f (code_formula g ++ rest) v s.0 (omega arith))
      (exact_operand d (at + 1 + length (code_formula f)) g rest (past ws (at + 1) (code_formula f) v) s.1 (omega arith))
  exact_operand (suc d) at (disj f g) rest w s h =
      let l = lies ws at w in
      let v = l.after ∙ append_assoc (code_formula f) (code_formula g) rest in
      let k = length-append (code_formula f) (code_formula g) in
      both_read d at 259 f g (omega arith) (omega arith) (omega arith) l.this
      (exact_operand d (at + 1) f (code_formula g ++ rest) v s.0 (omega arith))
      (exact_operand d (at + 1 + length (code_formula f)) g rest (past ws (at + 1) (code_formula f) v) s.1 (omega arith))

  -- where the operand that is due is refused, the whole is
  pub operand_refused : (d at : ℕ) (us rest : List ℕ) (k : ℕ) → Operand n d us k → drop at ws ≡ us ++ rest → at + length us ≤ end → {e p w : ℕ} → read k (at + length us) ≡ bad e p w → read d at ≡ bad e p w
  operand_refused d at us rest k first v h {e} {p} {w} o = let z : at ≡ at + 0 = omega arith in ap (read d) z ∙ o
  operand_refused d at us rest k (Operand.neg {d = j} {us = vs} t) v h {e} {p} {w} o =
      let l = lies ws at v in
      let z : at + 1 + length vs ≡ at + suc (length vs) = omega arith in
      not_reads j at (omega arith) l.this ∙ ap (made neg) (operand_refused j (at + 1) vs rest k t l.after (omega arith) (ap (read k) z ∙ o))
  operand_refused d at us rest k (left {d = j} {us = vs} x lo hi t) v h {e} {p} {w} o =
      let l = lies ws at v in
      let z : at + 1 + length vs ≡ at + suc (length vs) = omega arith in
      both_reads j at x lo hi (omega arith) l.this ∙ ap (λ (a : Out Formula). then a (λ f p. made (both x f) (read j p))) (operand_refused j (at + 1) vs rest k t l.after (omega arith) (ap (read k) z ∙ o))
  operand_refused d at us rest k (right {d = j} {us = vs} x f lo hi s t) v h {e} {p} {w} o =
      let l = lies ws at v in
      let y = l.after ∙ append_assoc (code_formula f) vs rest in
      let m = length-append (code_formula f) vs in
      let q : ℕ = at + 1 + length (code_formula f) in
      let z : q + length vs ≡ at + suc (length (code_formula f ++ vs)) = omega arith in
      both_reads j at x lo hi (omega arith) l.this
      ∙ ap (λ (a : Out Formula). then a (λ f p. made (both x f) (read j p))) (exact_operand j (at + 1) f (vs ++ rest) y s (omega arith))
      ∙ ap (made (both x f)) (operand_refused j q vs rest k t (past ws (at + 1) (code_formula f) y) (omega arith) (ap (read k) z ∙ o))
