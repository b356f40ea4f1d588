-- A proof uses rule k: what shows that there is such a line.
use mathlib.Core.Path.{◌≡◌, refl, sym, ◌∙◌}
use mathlib.Core.Bool.{Bool, true, false}
use mathlib.Core.List.{List, [], ◌∷◌}
use mathlib.Core.Option.{some}
use mathlib.Core.Logic.{◌⊎◌, inl, inr}
use Prim.Native.Nat.{ℕ, ◌-◌}
use native.Mathlib.Omega.{arith}
use lib.ListN.{length}
use Rattle.meaning.specs.Tests.{◌∈◌, ◌is◌, any, at}
use Rattle.meaning.specs.Policy.{Policy}
use Rattle.meaning.specs.Papers.{Dossier, Literal, Rule, number, Line, proof}
use Rattle.meaning.specs.Rules.{follows, earlier, line_follows}
use Rattle.meaning.specs.Verdict.{detectable, last_empty, WitnessAccepted, ProofAccepted}
use Rattle.meaning.specs.Demands.{When}
use Rattle.meaning.proofs.Tests.{cases, clash, is→≡, is_refl, any_at, none_at, named_at_lem, named_of, named_is, at_mem, at_below}
use Rattle.meaning.proofs.Verdict.{judge_exactly}
use Rattle.meaning.proofs.Demands.{not_both, witness_shows, demand3}

abbrev pub Uses : ℕ → List Line → Type 0
Uses k lines = (l : Line) × l ∈ lines × (number l.rule ≡ k)

-- there cannot be none
pub uses : (k : ℕ) (lines : List Line) → (((l : Line) → l ∈ lines → number l.rule ≡ k → ⊥) → ⊥) → Uses k lines
uses k lines f = go (cases (any test lines))
  where
    test : Line → Bool
    test l = number l.rule is k

    go : (any test lines ≡ true) ⊎ (any test lines ≡ false) → Uses k lines
    go (inl h) = let (l, m, q) = any_at test lines h in (l, m, is→≡ q)
    go (inr h) = absurd (f (λ l m q. clash {b = test l} (rw q (is_refl k)) (none_at test h m)))

-- in an accepted proof each line follows, and some line is empty
module _ (D : Dossier) (lines : List Line) (accepted : ProofAccepted D lines) where
  pub line_follows_lem : (k : ℕ) {l : Line} → at lines k ≡ some l → follows D (earlier lines k) l.literals l.rule ≡ true
  unfolding When line_follows
  line_follows_lem k e = sym (named_is _ e) ∙ ((judge_exactly D (proof lines) detectable).0 accepted).0 k (at_below lines k e)

  pub empty_line : (k : ℕ) × (l : Line) × (at lines k ≡ some l) × (l.literals ≡ [])
  unfolding When last_empty
  empty_line = let (l, e, z) = named_at_lem _ _ ((judge_exactly D (proof lines) detectable).0 accepted).1 in (length lines - 1, l, e, empty l.literals (is→≡ z))
    where
      empty : (ls : List Literal) → length ls ≡ 0 → ls ≡ []
      empty [] q = refl
      empty (x ∷ ls) q = absurd (omega arith)

-- what follows for D by another rule than k follows for E
abbrev pub Carried : ℕ → Dossier → Dossier → Type 0
Carried k D E = (b : List Line) (ls : List Literal) (r : Rule) → (number r ≡ k → ⊥) → follows D b ls r ≡ true → follows E b ls r ≡ true

-- then, if E has a witness, every proof for D uses rule k
pub uses_by : (k : ℕ) (D E : Dossier) → Carried k D E → (W : Policy) → WitnessAccepted E W → (lines : List Line) → ProofAccepted D lines → Uses k lines
unfolding When line_follows
uses_by k D E carried W hidden lines h = uses k lines λ f.
    let (each, last) = (judge_exactly D (proof lines) detectable).0 h in
    not_both E (demand3.every E lines ((judge_exactly E (proof lines) detectable).1 (
      λ i b. let (l, e, t) = named_at_lem _ _ (each i b) in named_of _ e (carried _ _ _ (f l (at_mem _ _ e)) t),
      last,
    ))) (witness_shows E W hidden)
