-- What the tests of the input's length make of it.
use Prim.Native.Nat.{ℕ, ◌+◌, ◌-◌, ◌/◌, ◌%◌, ◌≤◌, ◌<◌}
use mathlib.Core.Path.{◌≡◌, refl, sym, ◌∙◌, subst}
use mathlib.Core.Bool.{true, false}
use mathlib.Core.List.{List}
use mathlib.Core.Logic.{◌⊎◌, inl, inr}
use native.Mathlib.Omega.{arith}
use native.Mathlib.Decide.{dec_lt}
use lib.ListN.{length}
use lib.Dec.{eqb}
use borrow.Author.Tests.{lt-ltb, le-ltb, le-leb, lt-leb, eqb-true}
use Rattle.meaning.proofs.Tests.{cases, clash}
use Rattle.text.specs.Bytes.{word_at, whole, announced, input_of}
use Rattle.std.specs.Prelude.{Option, None, Some}
use Rattle.text.specs.declared.Papers.{Papers}

module _ (n : ℕ) where
  pub whole_short : n < 2 → false ≡ whole n
  unfolding whole
  whole_short h = rw (lt-ltb n 2 h)

  pub whole_long : 2 ≤ n → 65536 < n → false ≡ whole n
  unfolding whole
  whole_long h k = rw (le-ltb n 2 h, lt-ltb 65536 n k)

  pub whole_even : 2 ≤ n → n ≤ 65536 → eqb (n % 2) 0 ≡ whole n
  unfolding whole
  whole_even h k = rw (le-ltb n 2 h, le-ltb 65536 n k)

  -- what is whole has a length word, is not too long and has no odd byte left
  pub whole_is : whole n ≡ true → (2 ≤ n) × (n ≤ 65536) × (n % 2 ≡ 0)
  whole_is e = go (dec_lt n 2) (dec_lt 65536 n)
    where
      go : Dec (n < 2) → Dec (65536 < n) → (2 ≤ n) × (n ≤ 65536) × (n % 2 ≡ 0)
      go (yes h) k = clash e (sym (whole_short h))
      go (no h) (yes k) = clash e (sym (whole_long (omega arith) k))
      go (no h) (no k) = (omega arith, omega arith, eqb-true (n % 2) 0 (whole_even (omega arith) (omega arith) ∙ e))

module _ (bs : List ℕ) where
  pub input_odd : whole (length bs) ≡ false → None ≡ input_of bs
  unfolding input_of
  input_odd e = rw e

  pub input_papers : whole (length bs) ≡ true → (d : ℕ) → d ≡ word_at bs 0 → d ≤ length bs / 2 - 1 → Some (record { dossier = d; certificate = length bs / 2 - 1 - d }) ≡ input_of bs
  unfolding input_of announced
  input_papers e d f h = rw (e, sym f, le-leb d (length bs / 2 - 1) h)

  pub input_short : whole (length bs) ≡ true → (d : ℕ) → d ≡ word_at bs 0 → length bs / 2 - 1 < d → None ≡ input_of bs
  unfolding input_of announced
  input_short e d f h = rw (e, sym f, lt-leb d (length bs / 2 - 1) h)

-- papers fill the input: the length word, the dossier's words and the certificate's
unfoldable pub Fills : ℕ → Option Papers → Type 0
Fills n None = Unit {0}
Fills n (Some p) = (p.dossier + p.certificate + 1 ≡ n / 2) × (n ≤ 65536)

pub input_fills : (bs : List ℕ) → Fills (length bs) (input_of bs)
unfolding Fills
input_fills bs = go (cases (whole (length bs))) (dec_lt (length bs / 2 - 1) (word_at bs 0))
  where
    go : (whole (length bs) ≡ true) ⊎ (whole (length bs) ≡ false) → Dec (length bs / 2 - 1 < word_at bs 0) → Fills (length bs) (input_of bs)
    go (inr e) k = subst (Fills (length bs)) (input_odd bs e) tt
    go (inl e) (yes k) = subst (Fills (length bs)) (input_short bs e (word_at bs 0) refl k) tt
    go (inl e) (no k) =
        let w = whole_is (length bs) e in
        subst (Fills (length bs)) (input_papers bs e (word_at bs 0) refl (omega arith)) (omega (arith, w), w.1)

pub papers_fill : (bs : List ℕ) {p : Papers} {r : Option Papers} → r ≡ input_of bs → r ≡ Some p → (p.dossier + p.certificate + 1 ≡ length bs / 2) × (length bs ≤ 65536)
unfolding Fills
papers_fill bs e f = subst (Fills (length bs)) (sym e ∙ f) (input_fills bs)
