-- Reading a formula's words: a well-formed formula, or a word that is refused, or the place where it does not fit its length or its depth.
use Prim.Native.Nat.{ℕ, zero, suc, ◌+◌, ◌<◌, ◌≤◌}
use mathlib.Core.Path.{◌≡◌, refl, sym, ap, ◌∙◌, subst}
use mathlib.Core.Bool.{Bool, true, false}
use mathlib.Core.List.{List, [], ◌∷◌, ◌++◌, append_assoc}
use mathlib.Core.Logic.{◌⊎◌, inl, inr}
use native.Mathlib.Omega.{arith}
use lib.Dec.{ltb, eqb}
use lib.ListN.{length, get_or, drop, length-append}
use borrow.Author.Tests.{ltb-true, ltb-false, eqb-true, eqb-false}
use Rattle.words.specs.Out.{Out, got, bad, then, made, need}
use Rattle.words.proofs.Promise.{Spans, spans_word, spans_join}
use Rattle.meaning.specs.Tests.{◌is◌, choose}
use Rattle.meaning.specs.Formula.{Formula, neg, conj, disj}
use Rattle.promise.specs.Code.{code_formula}
use Rattle.promise.specs.Form.{FormulaForm}
use Rattle.promise.specs.Table.{Operand, first, left, right}
use Rattle.dossier.specs.Read.{by_kind, operand}
use Rattle.dossier.proofs.Coded.{both}

-- a word that no formula has: 3 and 7
pub data Strange (n x : ℕ) : ℕ → Type 0 where
  high : n ≤ x → x < 256 → Strange n x 3
  unknown : n ≤ x → 259 < x → Strange n x 7

module _ (n lp end : ℕ) (ws : List ℕ) where
  -- why the words from `at` up to `end` are refused, if they may be d deep: the number and the place
  pub data Amiss (d at : ℕ) : ℕ → ℕ → Type 0 where
    strange : {x e k : ℕ} (us rest : List ℕ) {p : ℕ} → drop at ws ≡ us ++ (x ∷ rest) → p ≡ at + length us → p < end → Operand n d us (suc k) → Strange n x e → Amiss d at e p
    misfit : {k : ℕ} (us rest : List ℕ) → drop at ws ≡ us ++ rest → at + length us ≤ end → Operand n d us k → (k ≡ 0) ⊎ (at + length us ≡ end) → Amiss d at 8 lp

  -- what reading them comes to
  pub data Comes (d at : ℕ) : Out Formula → Type 0 where
    formula : {f : Formula} {p : ℕ} → Spans ws at (code_formula f) p → FormulaForm n d f → p ≤ end → Comes d at (got f p)
    amiss : {e p : ℕ} → Amiss d at e p → Comes d at (bad e p 1)

  -- an operand after the words `code`, which lead to it
  module _ {d at q : ℕ} (code : List ℕ) (s : Spans ws at code q) (leads : (us : List ℕ) (k : ℕ) → Operand n d us k → Operand n (suc d) (code ++ us) k) where
    behind : (us rest : List ℕ) → drop q ws ≡ us ++ rest → drop at ws ≡ code ++ us ++ rest
    behind us rest v = s.words ∙ ap (λ (l : List ℕ). code ++ l) v ∙ sym (append_assoc code us rest)

    at_behind : (us : List ℕ) → q + length us ≡ at + length (code ++ us)
    at_behind us = omega (arith, s.next, length-append code us)

    ends_behind : (us : List ℕ) {k : ℕ} → (k ≡ 0) ⊎ (q + length us ≡ end) → (k ≡ 0) ⊎ (at + length (code ++ us) ≡ end)
    ends_behind us (inl z) = inl z
    ends_behind us (inr z) = inr (sym (at_behind us) ∙ z)

    amiss_behind : {e p : ℕ} → Amiss d q e p → Amiss (suc d) at e p
    amiss_behind (strange {x = x} us rest v z h o y) = strange (code ++ us) rest (behind us (x ∷ rest) v) (z ∙ at_behind us) h (leads us _ o) y
    amiss_behind (misfit us rest v h o y) = misfit (code ++ us) rest (behind us rest v) (omega (arith, at_behind us)) (leads us _ o) (ends_behind us y)

  by_choose : {d at : ℕ} (b : Bool) {o₁ o₂ : Out Formula} → (b ≡ true → Comes d at o₁) → (b ≡ false → Comes d at o₂) → Comes d at (choose b o₁ o₂)
  unfolding choose
  by_choose true f g = f refl
  by_choose false f g = g refl

  by_need : {d at : ℕ} (b : Bool) {e q : ℕ} {o : Out Formula} → (b ≡ false → Comes d at (bad e q 1)) → (b ≡ true → Comes d at o) → Comes d at (need b e q o)
  by_need true f g = g refl
  by_need false f g = f refl

  -- after 258 or 259: the first operand, and then the second
  module _ {d at : ℕ} (x : ℕ) (lo : 258 ≤ x) (hi : x ≤ 259) (s : Spans ws at (x ∷ []) (at + 1)) (operands : (p : ℕ) → p ≤ end → Comes d p (operand n lp end d ws p)) where
    code_both : (f g : Formula) → code_formula (both x f g) ≡ x ∷ (code_formula f ++ code_formula g)
    unfolding choose ◌is◌ code_formula
    code_both f g = go (eqb x 258) refl
      where
        go : (b : Bool) → eqb x 258 ≡ b → code_formula (choose b (conj f g) (disj f g)) ≡ x ∷ (code_formula f ++ code_formula g)
        go true e = ap (λ (y : ℕ). y ∷ (code_formula f ++ code_formula g)) (sym (eqb-true _ _ e))
        go false e = let n : x ≡ 258 → ⊥ = eqb-false _ _ e in let z : 259 ≡ x = omega arith in ap (λ (y : ℕ). y ∷ (code_formula f ++ code_formula g)) z

    form_both : (f g : Formula) → FormulaForm n d f → FormulaForm n d g → FormulaForm n (suc d) (both x f g)
    unfolding choose FormulaForm
    form_both f g a b = go (x is 258)
      where
        go : (c : Bool) → FormulaForm n (suc d) (choose c (conj f g) (disj f g))
        go true = (a, b)
        go false = (a, b)

    second_comes : (f : Formula) {p : ℕ} → Spans ws (at + 1) (code_formula f) p → FormulaForm n d f → {o : Out Formula} → Comes d p o → Comes (suc d) at (made (both x f) o)
    second_comes f t a (formula {f = g} {p = q} u b h) = formula (subst (λ (l : List ℕ). Spans ws at l q) (sym (code_both f g)) (spans_join s (spans_join t u))) (form_both f g a b) h
    second_comes f t a (amiss y) = amiss (amiss_behind (x ∷ code_formula f) (spans_join s t) (λ us k o. right x f lo hi a o) y)

    both_come : {o : Out Formula} → Comes d (at + 1) o → Comes (suc d) at (then o (λ f p. made (both x f) (operand n lp end d ws p)))
    both_come (formula {f = f} {p = p} t a h) = second_comes f t a (operands p h)
    both_come (amiss y) = amiss (amiss_behind (x ∷ []) s (λ us k o. left x lo hi o) y)

  not_comes : {d at : ℕ} → Spans ws at (257 ∷ []) (at + 1) → {o : Out Formula} → Comes d (at + 1) o → Comes (suc d) at (made neg o)
  unfolding FormulaForm code_formula
  not_comes s (formula t a h) = formula (spans_join s t) a h
  not_comes s (amiss y) = amiss (amiss_behind (257 ∷ []) s (λ us k o. Operand.neg o) y)

  pub operand_comes : (d at : ℕ) → end ≤ length ws → at ≤ end → Comes d at (operand n lp end d ws at)
  unfolding operand by_kind FormulaForm code_formula ◌is◌
  operand_comes zero at fits h = amiss (misfit [] (drop at ws) refl (omega arith) first (inl refl))
  operand_comes (suc d) at fits h =
      by_need (ltb at end) (λ i. amiss (misfit [] (drop at ws) refl (omega arith) first (inr (omega (arith, ltb-false at end i))))) (λ i.
      let x = get_or ws at 0 in
      let w : at < end = ltb-true _ _ i in
      let s : Spans ws at (get_or ws at 0 ∷ []) (at + 1) = spans_word ws at (omega arith) in
      by_choose (ltb x n) (λ a. formula s (ltb-true _ _ a) (omega arith)) (λ a.
      by_choose (ltb x 256) (λ b. amiss (strange [] (drop (at + 1) ws) s.words (omega arith) w first (high (ltb-false _ _ a) (ltb-true _ _ b)))) (λ b.
      by_choose (eqb x 256) (λ e. formula (rw (eqb-true x 256 e) at s) tt (omega arith)) (λ e.
      by_choose (eqb x 257) (λ k. not_comes (rw (eqb-true x 257 k) at s) (operand_comes d (at + 1) fits (omega arith))) (λ k.
      by_choose (ltb 259 x) (λ z. amiss (strange [] (drop (at + 1) ws) s.words (omega arith) w first (unknown (ltb-false _ _ a) (ltb-true _ _ z)))) (λ z.
      let lo : 258 ≤ x = omega (arith, ltb-false x 256 b, eqb-false x 256 e, eqb-false x 257 k) in
      both_come x lo (ltb-false _ _ z) s (λ p j. operand_comes d p fits j) (operand_comes d (at + 1) fits (omega arith))))))))
