-- Firing one after the other, step by step; and that it is going over a list of things.
use Prim.Native.Nat.{ℕ, zero, suc, ◌-◌, ◌<◌, ◌≤◌}
use mathlib.Core.Path.{◌≡◌, sym, ◌∙◌}
use mathlib.Core.List.{List}
use native.Mathlib.Omega.{arith}
use Rattle.promise.specs.Place.{Kind, many}
use Rattle.evaluation.specs.Fired.{fired_all}
use Rattle.evaluation.proofs.Firing.{Fold}

module _ (next : ℕ → ℕ) (one : ℕ → List ℕ → List ℕ) (p : ℕ) (t : List ℕ) where
  pub fired_none : {k : ℕ} → k ≤ 0 → fired_all next one p k t ≡ t
  unfolding fired_all
  fired_none {k} h = let z : k ≡ 0 = omega arith in rw z

  pub fired_on : (k : ℕ) → 0 < k → fired_all next one p k t ≡ fired_all next one (next p) (k - 1) (one p t)
  unfolding fired_all
  fired_on k h = go (k - 1) (omega arith)
    where
      go : (j : ℕ) → k ≡ suc j → fired_all next one p k t ≡ fired_all next one (next p) j (one p t)
      go j z = rw z

-- the place, the count and the table, as the code has them
pub fired_step : (next : ℕ → ℕ) (one : ℕ → List ℕ → List ℕ) {p q j k : ℕ} {t u : List ℕ} → j ≡ k → q ≡ next p → u ≡ one p t → fired_all next one (next p) j (one p t) ≡ fired_all next one q k u
fired_step next one e f g = rw (e, f, g)

-- over the k things from p on
pub fold_fired : {A : Type 0} (F : Fold A) (K : Kind A) (ws : List ℕ) (k p : ℕ) (t : List ℕ) → fired_all (K.next ws) (λ at. F.one (K.read ws at)) p k t ≡ F.whole (many K ws p k) t
unfolding fired_all many
fold_fired F K ws zero p t = sym (F.none t)
fold_fired F K ws (suc k) p t = fold_fired F K ws k (K.next ws p) (F.one (K.read ws p) t) ∙ sym (F.more (K.read ws p) (many K ws (K.next ws p) k) t)
