-- The digits of a number mean it, and a line as 01 has it.
use Prim.Native.Nat.{ℕ, zero, suc, ◌+◌, ◌-◌, ◌*◌, ◌/◌, ◌%◌, ◌^◌, ◌<◌}
use mathlib.Core.Path.{◌≡◌, refl, ap, ◌∙◌}
use mathlib.Core.List.{List, [], ◌∷◌, ◌++◌}
use lib.ListN.{length, get_or, length-append, get_or-append}
use native.Mathlib.Omega.{arith}
use native.Mathlib.Decide.{dec_lt}
use native.Mathlib.Nat.{div-add-mod', pow-suc}
use Rattle.reply.specs.Answer.{refused}
use Rattle.reply.specs.declared.Paper.TheVariants.{Dossier}
use Rattle.text.proofs.Put.{digits_one, digits_more}
use Rattle.text.specs.Line.{digits_of, decimal, name_of, refusal_of, verdict_text, reply_text, line_of}

-- 'The judge prints for (e), whole: `REFUSED 14 dossier 21 3`'
pub line_of_e : line_of (refused 14 Dossier 21 3) ≡ 82 ∷ 69 ∷ 70 ∷ 85 ∷ 83 ∷ 69 ∷ 68 ∷ 32 ∷ 49 ∷ 52 ∷ 32 ∷ 100 ∷ 111 ∷ 115 ∷ 115 ∷ 105 ∷ 101 ∷ 114 ∷ 32 ∷ 50 ∷ 49 ∷ 32 ∷ 51 ∷ 10 ∷ []
unfolding line_of reply_text verdict_text refusal_of decimal digits_of name_of
line_of_e = refl

-- the number that digits mean, after a number that is read already
unfoldable pub value_of : ℕ → List ℕ → ℕ
value_of a [] = a
value_of a (x ∷ xs) = value_of (a * 10 + (x - 48)) xs

value_last : (a x : ℕ) (xs : List ℕ) → value_of a (xs ++ (x ∷ [])) ≡ value_of a xs * 10 + (x - 48)
unfolding value_of
value_last a x [] = refl
value_last a x (y ∷ xs) = value_last (a * 10 + (y - 48)) x xs

room : (m k : ℕ) → 0 < m → m < 10 ^ k → 0 < k
room m zero some h = absurd (omega arith)
room m (suc k) some h = omega arith

-- they mean the number, where there is room for them all
pub digits_mean : (k n : ℕ) → 0 < k → n < 10 ^ k → value_of 0 (digits_of k n) ≡ n
unfolding value_of
digits_mean zero n more h = absurd (omega arith)
digits_mean (suc k) n more h = go (dec_lt n 10) (digits_mean k (n / 10))
  where
    go : Dec (n < 10) → (0 < k → n / 10 < 10 ^ k → value_of 0 (digits_of k (n / 10)) ≡ n / 10) → value_of 0 (digits_of (suc k) n) ≡ n
    go (yes l) ih = ap (value_of 0) (digits_one (suc k) n more l) ∙ omega arith
    go (no l) ih =
        let p : 10 ^ suc k ≡ 10 ^ k * 10 = pow-suc 10 k in
        let q : n / 10 < 10 ^ k = omega (arith, p, h, div-add-mod' n 10) in
        let some : 0 < k = room (n / 10) k (omega arith) q in
        ap (value_of 0) (digits_more (suc k) n more (omega arith))
        ∙ value_last 0 (48 + n % 10) (digits_of (suc k - 1) (n / 10))
        ∙ (let e : suc k - 1 ≡ k = omega arith in rw (e, ih some q) (omega (arith, div-add-mod' n 10)))

-- every number of the machine: 2 ^ 64 is below 10 ^ 20
pub decimal_means : (n : ℕ) → n < 2 ^ 64 → value_of 0 (decimal n) ≡ n
unfolding decimal
decimal_means n h = digits_mean 20 n (omega arith) (omega arith)

-- without leading zeros: there is a digit, and the first of them is no zero unless the number is 0
pub digits_first : (k n : ℕ) → 0 < k → 0 < n → n < 10 ^ k → (0 < length (digits_of k n)) × (48 < get_or (digits_of k n) 0 0)
digits_first zero n more some h = absurd (omega arith)
digits_first (suc k) n more some h = go (dec_lt n 10) (digits_first k (n / 10))
  where
    go : Dec (n < 10) → (0 < k → 0 < n / 10 → n / 10 < 10 ^ k → (0 < length (digits_of k (n / 10))) × (48 < get_or (digits_of k (n / 10)) 0 0)) → (0 < length (digits_of (suc k) n)) × (48 < get_or (digits_of (suc k) n) 0 0)
    go (yes l) ih = rw (digits_one (suc k) n more l) (omega arith, omega arith)
    go (no l) ih =
        let p : 10 ^ suc k ≡ 10 ^ k * 10 = pow-suc 10 k in
        let q : n / 10 < 10 ^ k = omega (arith, p, h, div-add-mod' n 10) in
        let r = ih (room (n / 10) k (omega arith) q) (omega arith) q in
        let e : suc k - 1 ≡ k = omega arith in
        rw (digits_more (suc k) n more (omega arith), e) (omega (arith, r, length-append (digits_of k (n / 10)) ((48 + n % 10) ∷ [])), rw (get_or-append (digits_of k (n / 10)) ((48 + n % 10) ∷ []) 0 0 r.0) r.1)
