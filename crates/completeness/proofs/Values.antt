-- Rule 6 is needed: values of the statements that obey every other rule, and that no policy has: 2 is true without credentials and false with some.
use mathlib.Core.Path.{◌≡◌, refl, sym, ap, ◌∙◌}
use mathlib.Core.Bool.{Bool, true, false, not, false≢true}
use mathlib.Core.List.{List, [], ◌∷◌}
use mathlib.Core.Option.{some}
use mathlib.Core.Logic.{⊎_elim}
use Prim.Native.Nat.{ℕ, zero, suc, ◌<◌}
use native.Mathlib.Omega.{arith}
use Rattle.meaning.specs.Tests.{◌∈◌, ◌or◌, agree, ◌is◌, same, all, any, mem, at}
use Rattle.meaning.specs.Policy.{Clause}
use Rattle.meaning.specs.Papers.{Statement, Literal, Rule, number, Line}
use Rattle.meaning.specs.Rules.{fires, is_in, others, follows, earlier}
use Rattle.meaning.specs.Verdict.{ProofAccepted}
use Rattle.meaning.proofs.Tests.{clash, not_true, not_opposite, and_both, and_five, or_cases, or_left, or_right, agree→≡, agree_not, is→≡, all_at, any_at, none_at, named_at_lem, at_mem, at_take}
use Rattle.meaning.proofs.Sound.{same_statement→≡}
use Rattle.completeness.proofs.Tree.{gives_at}
use Rattle.meaning.proofs.Example.{compute}
use Rattle.completeness.proofs.Sample.{sample, two, sample_probe, sample_secret, sample_clauses, sample_creds, sample_without}
use Rattle.completeness.proofs.Uses.{Uses, uses, line_follows_lem, empty_line}

val : Statement → Bool
val s = mem s.atom s.atoms or not (s.atom is 2) or same s.creds []

val_two : (val (two []) ≡ true) × (val (two (0 ∷ [])) ≡ false)
unfolding compute val two
val_two = (refl, refl)

true_lit : Literal → Bool
true_lit l = agree l.positive (val l.said)

-- a line whose literals are all false follows by no other rule
module _ (ls : List Literal) (denied : any true_lit ls ≡ false) where
  val_said : {l : Literal} → l ∈ ls → val l.said ≡ not l.positive
  unfolding true_lit
  val_said m = agree_not _ _ (none_at _ denied m)

  -- rules 3 and 5, on an atom other than 2
  fires_false : (c : Clause) {l : Literal} → l ∈ ls → not (c.head is 2) ≡ true → fires ls c l ≡ true → ⊥
  unfolding fires val
  fires_false c {l} m n h =
      let (most, body) = and_both h in
      let (plus, on) = and_both most in
      clash (or_left _ (or_right (mem l.said.atom l.said.atoms) (rw (← (is→≡ on)) at n))) (val_said m ∙ ap not plus)

  -- rule 8
  is_in_false : (x : Literal) → is_in ls x ≡ true → true_lit x ≡ false
  unfolding is_in
  is_in_false x h =
      let (y, m, t) = any_at _ ls h in
      let q = and_both t in
      let e : y ≡ x = λ i. record { positive = agree→≡ q.0 i; said = same_statement→≡ q.1 i } in
      rw (← e) (none_at _ denied m)

  pivot_true : (A : List Literal) (i : ℕ) {p : Literal} → any true_lit A ≡ true → at A i ≡ some p → all (is_in ls) (others A i) ≡ true → true_lit p ≡ true
  unfolding any all at others
  pivot_true [] i h e k = absurd (false≢true h)
  pivot_true (x ∷ A) zero {p} h e k = let z : x ≡ p = cc in rw (← z) (⊎_elim (λ t. t) (λ t. let (y, m, s) = any_at true_lit A t in clash s (is_in_false y (all_at _ A k m))) (or_cases h))
  pivot_true (x ∷ A) (suc i) h e k = ⊎_elim (λ t. clash t (is_in_false x (and_both k).0)) (λ t. pivot_true A i t e (and_both k).1) (or_cases h)

  module _ (b : List Line) (cited : (u : ℕ) (l : Line) → at b u ≡ some l → any true_lit l.literals ≡ true) where
    refuted : (r : Rule) → (number r ≡ 6 → ⊥) → follows sample b ls r ≡ true → ⊥
    unfolding follows val true_lit
    refuted (Rule.probe k) f h = let (j, e) = gives_at ls (two []) false (sample_probe b ls k h) in clash val_two.0 (val_said (at_mem ls j e))
    refuted Rule.secret f h = let (j, e) = gives_at ls (two (0 ∷ [])) true (sample_secret b ls h) in clash (val_said (at_mem ls j e)) val_two.1
    refuted (Rule.clause i j) f h =
        let (m, em, g) = named_at_lem _ _ h in
        let (l, el, t) = named_at_lem _ _ g in
        let (seen, fired) = and_both t in
        fires_false m.clause (at_mem ls j el) (sample_clauses m (at_mem _ i em) seen) fired
    refuted (Rule.assumed j) f h =
        let (l, e, t) = named_at_lem _ _ h in
        let (plus, m) = and_both t in
        clash (or_left _ (or_left _ m)) (val_said (at_mem ls j e) ∙ ap not plus)
    refuted (Rule.credential c j) f h =
        let (d, ed, g) = named_at_lem _ _ h in
        let (l, el, t) = named_at_lem _ _ g in
        fires_false d (at_mem ls j el) (sample_creds d (at_mem _ c ed)) (and_both t).1
    refuted (Rule.cut j i) f h = f refl
    refuted (Rule.without c i j k) f h = sample_without b ls c i j k h
    refuted (Rule.resolve u v i j) f h =
        let (x, ex, g₁) = named_at_lem _ _ h in
        let (y, ey, g₂) = named_at_lem _ _ g₁ in
        let (p, ep, g₃) = named_at_lem _ _ g₂ in
        let (q, eq, t) = named_at_lem _ _ g₃ in
        let (plus, minus, one, in_x, in_y) = and_five t in
        clash
        (sym (agree→≡ (pivot_true x.literals i (cited u x ex) ep in_x)) ∙ plus)
        (ap val (same_statement→≡ one) ∙ sym (agree→≡ (pivot_true y.literals j (cited v y ey) eq in_y)) ∙ not_true q.positive minus)

-- so each line of a proof without rule 6 has a true literal, and none is empty
module _ (lines : List Line) (accepted : ProofAccepted sample lines) (spared : (l : Line) → l ∈ lines → number l.rule ≡ 6 → ⊥) where
  true_before : (k j : ℕ) (l : Line) → j < k → at lines j ≡ some l → any true_lit l.literals ≡ true
  unfolding earlier
  true_before zero j l h e = absurd (omega arith)
  true_before (suc k) j l h e =
      not_opposite _ true λ s. refuted l.literals s (earlier lines j)
      (λ u a ea. let (lt, z) = at_take j lines u ea in true_before k u a (omega arith) z)
      l.rule (spared l (at_mem lines j e)) (line_follows_lem sample lines accepted j e)

pub uses_cut : (lines : List Line) → ProofAccepted sample lines → Uses 6 lines
unfolding any
uses_cut lines h = uses 6 lines λ f.
    let (k, l, e, z) = empty_line sample lines h in
    false≢true (rw z at (true_before lines h f (suc k) k l (omega arith) e))
