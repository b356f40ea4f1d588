-- The atoms of the policies that are evaluated are below n.
use Prim.Native.Nat.{ℕ, ◌<◌}
use mathlib.Core.Path.{sym, subst}
use mathlib.Core.Bool.{Bool, true, false}
use mathlib.Core.List.Memᴰ
use mathlib.Core.List.{List, [], ◌++◌}
use mathlib.Core.Logic.{◌⊎◌, inl, inr}
use Rattle.meaning.specs.Tests.{◌∈◌, keep}
use Rattle.meaning.specs.Policy.{Clause, Policy}
use Rattle.meaning.specs.Formula.{chosen, joined}
use Rattle.meaning.specs.Papers.{Marked, Dossier, policy, visible}
use Rattle.meaning.specs.Verdict.{tried}
use Rattle.meaning.proofs.Tests.{map_at, keep_at, at_mem}
use Rattle.meaning.proofs.Truth.{chosen_at}
use Rattle.evaluation.specs.Which.{kept}
use Rattle.evaluation.proofs.Rounds.{Below}

abbrev pub BelowOne : ℕ → Clause → Type 0
BelowOne n c = (c.head < n) × ((b : ℕ) → b ∈ c.body → b < n)

below_kept : (n : ℕ) (b : Bool) (l : List Marked) → ((m : Marked) → m ∈ l → BelowOne n m.clause) → Below n (kept b l)
unfolding kept
below_kept n true l f c i = let (m, j, e) = map_at (λ (x : Marked). x.clause) l i in subst (BelowOne n) (sym e) (f m j)
below_kept n false l f c i = let (m, j, e) = map_at (λ (x : Marked). x.clause) (keep (λ (x : Marked). x.visible) l) i in subst (BelowOne n) (sym e) (f m (keep_at (λ (x : Marked). x.visible) l j).0)

below_join : (n : ℕ) (P Q : Policy) → Below n P → Below n Q → Below n (P ++ Q)
below_join n P Q f g c i = go (Memᴰ.append_cases P i)
  where
    go : c ∈ P ⊎ c ∈ Q → BelowOne n c
    go (inl j) = f c j
    go (inr j) = g c j

module _ (n : ℕ) (D : Dossier) (clauses : (m : Marked) → m ∈ D.clauses → BelowOne n m.clause) where
  pub own_below : Below n (policy D)
  unfolding policy kept
  own_below = below_kept n true D.clauses clauses

  pub tried_below : (W : Policy) → Below n W → Below n (tried D W)
  unfolding tried visible kept
  tried_below W f = below_join n W (kept false D.clauses) f (below_kept n false D.clauses clauses)

-- with the credentials that the numbers S name
pub sent_below : (n : ℕ) (D : Dossier) → Below n D.creds → (P : Policy) → Below n P → (S : List ℕ) → Below n (joined D.creds P S [])
unfolding joined
sent_below n D creds P f S =
    below_join n P (chosen D.creds S ++ []) f
    (below_join n (chosen D.creds S) [] (λ x i. let r = chosen_at D.creds S i in creds x (at_mem D.creds r.0 r.2)) (λ x i. absurd (Memᴰ.not-nil i)))
