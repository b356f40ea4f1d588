-- A formula held as words, by its first word: for every way of reading it, and for its end.
use Prim.Native.Nat.{ℕ, zero, suc, ◌+◌, ◌-◌, ◌<◌, ◌≤◌}
use mathlib.Core.Path.{◌≡◌, refl, sym, subst, ap, ap₂, ◌∙◌}
use mathlib.Core.List.{List}
use mathlib.Core.Bool.{Bool, true, false}
use lib.Dec.{eqb, ltb}
use native.Mathlib.Omega.{arith}
use lib.ListN.{length, get_or}
use borrow.Author.Tests.{eq-eqb, ne_eqb, eqb-true, eqb-false, lt-ltb, le-ltb, ltb-true, ltb-false}
use Rattle.meaning.specs.Tests.{◌is◌, choose}
use Rattle.meaning.specs.Formula.{Reading, read}
use Rattle.promise.specs.Formula.{formula_at, formula_end, FormulaFits, sign_of}
use Rattle.promise.specs.declared.Sign.{Sign}
use Rattle.promise.specs.declared.Sign.TheVariants.{Atom, True, Not, And, Or}

-- what a sign says of its word
abbrev pub Says : Sign → ℕ → Type 0
Says (Atom a) x = (x ≡ a) × (x < 256)
Says True x = x ≡ 256
Says Not x = x ≡ 257
Says And x = x ≡ 258
Says Or x = 258 < x

pub sign_says : (x : ℕ) {s : Sign} → s ≡ sign_of x → Says s x
unfolding sign_of choose ◌is◌
sign_says x {s} e = subst (λ (t : Sign). Says t x) (sym e) (below (ltb x 256) refl)
  where
    last : (b : Bool) → eqb x 258 ≡ b → 257 < x → Says (choose b And Or) x
    last true e h = eqb-true _ _ e
    last false e h = let n : x ≡ 258 → ⊥ = eqb-false _ _ e in omega arith

    third : (b : Bool) → eqb x 257 ≡ b → 256 < x → Says (choose b Not (choose (eqb x 258) And Or)) x
    third true e h = eqb-true _ _ e
    third false e h = let n : x ≡ 257 → ⊥ = eqb-false _ _ e in last (eqb x 258) refl (omega arith)

    second : (b : Bool) → eqb x 256 ≡ b → 255 < x → Says (choose b True (choose (eqb x 257) Not (choose (eqb x 258) And Or))) x
    second true e h = eqb-true _ _ e
    second false e h = let n : x ≡ 256 → ⊥ = eqb-false _ _ e in third (eqb x 257) refl (omega arith)

    below : (b : Bool) → ltb x 256 ≡ b → Says (choose b (Atom x) (choose (eqb x 256) True (choose (eqb x 257) Not (choose (eqb x 258) And Or)))) x
    below true e = (refl, ltb-true _ _ e)
    below false e = let n : 256 ≤ x = ltb-false _ _ e in second (eqb x 256) refl (omega arith)

-- it is at least one deep
pub deep : (n d : ℕ) (ws : List ℕ) (p : ℕ) → FormulaFits n d ws p → d ≡ suc (d - 1)
unfolding FormulaFits
deep n zero ws p f = absurd f
deep n (suc d) ws p f = omega arith

module _ (n d : ℕ) (ws : List ℕ) (p : ℕ) (f : FormulaFits n d ws p) where
  fits_at : (c : ℕ) → d ≡ suc c → FormulaFits n (suc c) ws p
  fits_at c z = rw z at f

  -- its words are there, its atom is below n, its operands are at most one less deep
  pub fits_here : p < length ws
  unfolding FormulaFits
  fits_here = (fits_at (d - 1) (deep n d ws p f)).0

  module _ {x : ℕ} (w : x ≡ get_or ws p 0) where
    pub fits_atom : x < 256 → x < n
    unfolding FormulaFits
    fits_atom h = rw w (simp (lt-ltb (get_or ws p 0) 256 (rw (← w) h)) at (fits_at (d - 1) (deep n d ws p f)).1)

    pub fits_one : 256 < x → FormulaFits n (d - 1) ws (p + 1)
    unfolding FormulaFits
    fits_one h = (simp (lt-ltb 256 (get_or ws p 0) (rw (← w) h)) at (fits_at (d - 1) (deep n d ws p f)).2).0

    pub fits_two : 257 < x → FormulaFits n (d - 1) ws (formula_end (d - 1) ws (p + 1))
    unfolding FormulaFits
    fits_two h =
        let a : 256 < get_or ws p 0 = omega arith in
        let b : 257 < get_or ws p 0 = omega arith in
        (simp (lt-ltb _ _ a, lt-ltb _ _ b) at (fits_at (d - 1) (deep n d ws p f)).2).1

    module _ {A : Type 0} (R : Reading A) where
      -- v is the formula's value, and the next thing begins at q
      abbrev pub Valued : A → ℕ → Type 0
      Valued v q = (v ≡ read R (formula_at d ws p)) × (q ≡ formula_end d ws p)

      pub read_atom : x < 256 → Valued (R.atom x) (p + 1)
      unfolding read formula_at formula_end choose
      read_atom h =
          let a : get_or ws p 0 < 256 = omega arith in
          let b : get_or ws p 0 < 257 = omega arith in
          rw (deep n d ws p f) (simp (lt-ltb _ _ a, lt-ltb _ _ b) (ap R.atom w, refl))

      pub read_true : x ≡ 256 → Valued R.always (p + 1)
      unfolding read formula_at formula_end choose ◌is◌
      read_true h =
          let a : 256 ≤ get_or ws p 0 = omega arith in
          let b : get_or ws p 0 < 257 = omega arith in
          let e : get_or ws p 0 ≡ 256 = omega arith in
          rw (deep n d ws p f) (simp (le-ltb _ _ a, lt-ltb _ _ b, eq-eqb _ _ e) (refl, refl))

      module _ {v : A} {h : ℕ} (v₁ : v ≡ read R (formula_at (d - 1) ws (p + 1))) (h₁ : h ≡ formula_end (d - 1) ws (p + 1)) where
        pub read_not : x ≡ 257 → Valued (R.neg v) h
        unfolding read formula_at formula_end choose ◌is◌
        read_not e =
            let a : 256 ≤ get_or ws p 0 = omega arith in
            let b : 257 ≤ get_or ws p 0 = omega arith in
            let c : get_or ws p 0 ≡ 256 → ⊥ = λ z. omega (arith, z) in
            let g : get_or ws p 0 ≡ 257 = omega arith in
            rw (deep n d ws p f) (simp (le-ltb _ _ a, le-ltb _ _ b, ne_eqb _ _ c, eq-eqb _ _ g) (ap R.neg v₁, h₁))

        module _ {u : A} {z : ℕ} (u₁ : u ≡ read R (formula_at (d - 1) ws h)) (z₁ : z ≡ formula_end (d - 1) ws h) (big : 257 < x) where
          u₂ : u ≡ read R (formula_at (d - 1) ws (formula_end (d - 1) ws (p + 1)))
          u₂ = u₁ ∙ ap (λ (q : ℕ). read R (formula_at (d - 1) ws q)) h₁

          z₂ : z ≡ formula_end (d - 1) ws (formula_end (d - 1) ws (p + 1))
          z₂ = z₁ ∙ ap (formula_end (d - 1) ws) h₁

          pub read_and : x ≡ 258 → Valued (R.conj v u) z
          unfolding read formula_at formula_end choose ◌is◌
          read_and e =
              let a : 256 ≤ get_or ws p 0 = omega arith in
              let b : 257 ≤ get_or ws p 0 = omega arith in
              let c : get_or ws p 0 ≡ 256 → ⊥ = λ y. omega (arith, y) in
              let k : get_or ws p 0 ≡ 257 → ⊥ = λ y. omega (arith, y) in
              let g : get_or ws p 0 ≡ 258 = omega arith in
              rw (deep n d ws p f) (simp (le-ltb _ _ a, le-ltb _ _ b, ne_eqb _ _ c, ne_eqb _ _ k, eq-eqb _ _ g) (ap₂ R.conj v₁ u₂, z₂))

          pub read_or : (x ≡ 258 → ⊥) → Valued (R.disj v u) z
          unfolding read formula_at formula_end choose ◌is◌
          read_or e =
              let a : 256 ≤ get_or ws p 0 = omega arith in
              let b : 257 ≤ get_or ws p 0 = omega arith in
              let c : get_or ws p 0 ≡ 256 → ⊥ = λ y. omega (arith, y) in
              let k : get_or ws p 0 ≡ 257 → ⊥ = λ y. omega (arith, y) in
              let g : get_or ws p 0 ≡ 258 → ⊥ = λ y. e (w ∙ y) in
              rw (deep n d ws p f) (simp (le-ltb _ _ a, le-ltb _ _ b, ne_eqb _ _ c, ne_eqb _ _ k, ne_eqb _ _ g) (ap₂ R.disj v₁ u₂, z₂))
