-- Laws of a table that has some bytes from a place on, and of the digits of a number.
use Prim.Native.Nat.{ℕ, zero, suc, ◌+◌, ◌-◌, ◌/◌, ◌%◌, ◌≤◌, ◌<◌}
use mathlib.Core.Path.{◌≡◌, sym, ap, ◌∙◌, subst}
use mathlib.Core.List.{List, [], ◌∷◌, ◌++◌, append_assoc}
use native.Mathlib.Omega.{arith}
use native.Mathlib.Decide.{dec_lt}
use lib.ListN.{length, get_or, take, drop, set, length-append, length-take, length-drop}
use lib.Seq.{set_at, drop-cons, length-take-le, take_at, drop_at, drop-drop, append_snoc, paste-zero, take-append-add, take-append-le}
use borrow.Author.Tests.{lt-ltb, le-ltb}
use borrow.Rule.Slice.PartMut.{put_mid, post_of}
use Rattle.std.specs.Prelude.{Option}
use Rattle.std.specs.Io.KnownBytes.{Consumes}
use Rattle.std.proofs.KnownBytes.{Consumes-trans}
use Rattle.reply.specs.declared.Paper.{Paper}
use Rattle.reply.specs.declared.Paper.TheVariants.{Dossier, Certificate}
use Rattle.reply.specs.declared.Verdict.{Verdict}
use Rattle.reply.specs.declared.Verdict.TheVariants.{Opaque, Detectable, Refused}
use Rattle.reply.specs.declared.Reply.{Reply}
use Rattle.text.specs.Line.{put, digits_of, name_of, decimal, refusal_of, verdict_text, reply_text, line_of, input_line}

-- nothing yet
pub put_none : (t : List ℕ) (at : ℕ) → t ≡ put t at []
unfolding put
put_none t at = paste-zero t at []

pub put_length : (t : List ℕ) (at : ℕ) (bs : List ℕ) → at + length bs ≤ length t → length (put t at bs) ≡ length t
unfolding put
put_length t at bs h = simp (length-append, length-take, length-drop) (omega arith)

-- a piece that the library copies to a part
pub put_part : (t : List ℕ) (at : ℕ) (piece : List ℕ) {u : List ℕ} → u ≡ piece → put_mid at (at + length piece - at) t u ≡ put t at piece
unfolding put
put_part t at piece e =
    let n : at + (at + length piece - at) ≡ at + length piece = omega arith in
    ap (λ (x : List ℕ). take at t ++ (x ++ drop (at + length piece - at) (drop at t))) e
    ∙ ap (λ (x : List ℕ). take at t ++ (piece ++ x)) (drop-drop (at + length piece - at) at t ∙ ap (λ (k : ℕ). drop k t) n)
    ∙ sym (append_assoc (take at t) piece (drop (at + length piece) t))

-- one byte more
pub put_on : (t : List ℕ) (at : ℕ) (bs : List ℕ) (v : ℕ) {u : List ℕ} {p : ℕ} → u ≡ put t at bs → p ≡ at + length bs → p < length t → set u p v ≡ put t at (bs ++ (v ∷ []))
unfolding put
put_on t at bs v {u} {p} e f h =
    let n = length-take-le at t (omega arith) in
    let m : length (take at t ++ bs) ≡ p = length-append (take at t) bs ∙ omega (arith, n) in
    let l : suc p ≡ at + length (bs ++ (v ∷ [])) = (omega arith) ∙ ap (λ (k : ℕ). at + k) (sym (length-append bs (v ∷ []))) in
    ap (λ (x : List ℕ). set x p v) (e ∙ ap (λ (k : ℕ). take at t ++ bs ++ drop k t) (sym f) ∙ ap (λ (x : List ℕ). take at t ++ bs ++ x) (drop-cons t p 0 h))
    ∙ set_at (take at t ++ bs) (get_or t p 0) (drop (suc p) t) v p m
    ∙ sym (append_snoc (take at t ++ bs) v (drop (suc p) t))
    ∙ ap (λ (x : List ℕ). x ++ drop (suc p) t) (append_assoc (take at t) bs (v ∷ []))
    ∙ ap (λ (k : ℕ). take at t ++ (bs ++ (v ∷ [])) ++ drop k t) l

-- some bytes more
pub put_more : (t : List ℕ) (at : ℕ) (xs bs : List ℕ) {u w : List ℕ} {p : ℕ} → u ≡ put t at xs → p ≡ at + length xs → w ≡ put u p bs → at ≤ length t → w ≡ put t at (xs ++ bs)
unfolding put
put_more t at xs bs {u} {w} {p} e f g h =
    let n = length-take-le at t h in
    let m : length (take at t ++ xs) ≡ p = length-append (take at t) xs ∙ omega (arith, n) in
    let l : p + length bs ≡ at + length (xs ++ bs) = (omega arith) ∙ ap (λ (k : ℕ). at + k) (sym (length-append xs bs)) in
    let e' : u ≡ take at t ++ xs ++ drop p t = e ∙ ap (λ (k : ℕ). take at t ++ xs ++ drop k t) (sym f) in
    let first : take p u ≡ take at t ++ xs = ap (take p) e' ∙ take_at (take at t ++ xs) (drop p t) p m in
    let last : drop (p + length bs) u ≡ drop (p + length bs) t = sym (drop-drop (length bs) p u) ∙ ap (drop (length bs)) (ap (drop p) e' ∙ drop_at (take at t ++ xs) (drop p t) p m) ∙ drop-drop (length bs) p t in
    g
    ∙ ap (λ (x : List ℕ). x ++ bs ++ drop (p + length bs) u) first
    ∙ ap (λ (x : List ℕ). take at t ++ xs ++ bs ++ x) last
    ∙ ap (λ (x : List ℕ). x ++ drop (p + length bs) t) (append_assoc (take at t) xs bs)
    ∙ ap (λ (k : ℕ). take at t ++ (xs ++ bs) ++ drop k t) l

-- the digits of a number: one, or those of its tens and one more
pub digits_one : (k n : ℕ) → 0 < k → n < 10 → digits_of k n ≡ (48 + n) ∷ []
unfolding digits_of
digits_one (suc k) n m h = rw (lt-ltb n 10 h)
digits_one zero n m h = absurd (omega arith)

pub digits_more : (k n : ℕ) → 0 < k → 10 ≤ n → digits_of k n ≡ digits_of (k - 1) (n / 10) ++ ((48 + n % 10) ∷ [])
unfolding digits_of
digits_more k n m h = on (k - 1) (omega arith)
  where
    on : (j : ℕ) → k ≡ suc j → digits_of k n ≡ digits_of j (n / 10) ++ ((48 + n % 10) ∷ [])
    on j z = rw z (rw (le-ltb n 10 h))

-- there are no more of them than asked for
pub digits_short : (k n : ℕ) → length (digits_of k n) ≤ k
unfolding digits_of
digits_short zero n = omega arith
digits_short (suc k) n = go (dec_lt n 10) (digits_short k (n / 10))
  where
    go : Dec (n < 10) → length (digits_of k (n / 10)) ≤ k → length (digits_of (suc k) n) ≤ suc k
    go (yes h) ih = rw (lt-ltb n 10 h) (omega arith)
    go (no h) ih = rw (le-ltb n 10 (omega arith)) (omega (arith, length-append (digits_of k (n / 10)) ((48 + n % 10) ∷ [])))

-- what writing the digits leaves: nothing, one digit, or the tens and one digit more
module _ (t : List ℕ) (at k n : ℕ) where
  pub write_none : k ≡ 0 → (t ≡ put t at (digits_of k n)) × (at ≡ at + length (digits_of k n))
  unfolding digits_of
  write_none z = rw z (put_none t at, omega arith)

  module _ (more : 0 < k) (fits : at + k ≤ length t) where
    pub write_one : (v : ℕ) → n < 10 → v ≡ 48 + n → (set t at v ≡ put t at (digits_of k n)) × (at + 1 ≡ at + length (digits_of k n))
    write_one v h e =
        let d : (v ∷ []) ≡ digits_of k n = ap (λ (x : ℕ). x ∷ []) e ∙ sym (digits_one k n more h) in
        (put_on t at [] v (put_none t at) (omega arith) (omega arith) ∙ ap (put t at) d, ap (λ (x : List ℕ). at + length x) d)

    pub write_room : {p : ℕ} → p ≡ at + length (digits_of (k - 1) (n / 10)) → p < length t
    write_room e = omega (arith, digits_short (k - 1) (n / 10))

    pub write_last : (v : ℕ) {u : List ℕ} {p : ℕ} → 10 ≤ n → u ≡ put t at (digits_of (k - 1) (n / 10)) → p ≡ at + length (digits_of (k - 1) (n / 10)) → v ≡ 48 + n % 10 → (set u p v ≡ put t at (digits_of k n)) × (p + 1 ≡ at + length (digits_of k n))
    write_last v {u} {p} h e f g =
        let d : digits_of (k - 1) (n / 10) ++ (v ∷ []) ≡ digits_of k n = ap (λ (x : ℕ). digits_of (k - 1) (n / 10) ++ (x ∷ [])) g ∙ sym (digits_more k n more h) in
        let l : p + 1 ≡ at + length (digits_of (k - 1) (n / 10) ++ (v ∷ [])) = omega (arith, length-append (digits_of (k - 1) (n / 10)) (v ∷ [])) in
        (put_on t at (digits_of (k - 1) (n / 10)) v e f (write_room f) ∙ ap (put t at) d, l ∙ ap (λ (x : List ℕ). at + length x) d)

-- a text that is written piece by piece from a place on: what is written so far, and where the next piece goes
abbrev pub Placed : List ℕ → ℕ → List ℕ → List ℕ → ℕ → Type 0
Placed t at xs u p = (u ≡ put t at xs) × (p ≡ at + length xs)

pub placed_more : (t : List ℕ) (at : ℕ) → at ≤ length t → (xs bs : List ℕ) {u w : List ℕ} {p q : ℕ} → Placed t at xs u p → Placed u p bs w q → Placed t at (xs ++ bs) w q
placed_more t at h xs bs (e, f) (g, k) = (put_more t at xs bs e f g h, omega (arith, length-append xs bs))

-- the same from the table's start
abbrev pub Wrote : List ℕ → List ℕ → List ℕ → ℕ → Type 0
Wrote t xs u p = (u ≡ put t 0 xs) × (p ≡ length xs)

pub wrote_first : (t xs : List ℕ) {u : List ℕ} {p : ℕ} → Placed t 0 xs u p → Wrote t xs u p
wrote_first t xs (e, f) = (e, omega arith)

pub wrote_more : (t xs bs : List ℕ) {u w : List ℕ} {p q : ℕ} → Wrote t xs u p → Placed u p bs w q → Wrote t (xs ++ bs) w q
wrote_more t xs bs (e, f) m = let r = placed_more t 0 (omega arith) xs bs (e, omega arith) m in (r.0, omega arith)

-- the text is another one, which it equals
pub wrote_is : (t xs : List ℕ) {ys u : List ℕ} {p : ℕ} → Wrote t xs u p → xs ≡ ys → Wrote t ys u p
wrote_is t xs (e, f) g = (e ∙ ap (put t 0) g, f ∙ ap length g)

pub name_short : (p : Paper) → length (name_of p) ≤ 13
unfolding name_of
name_short Dossier = omega arith
name_short Certificate = omega arith

-- a refusal, with its three numbers of at most 20 digits
pub refusal_short : (number : ℕ) (paper : Paper) (place count : ℕ) → length (refusal_of number paper place count) ≤ 82
unfolding refusal_of decimal
refusal_short number paper place count = simp length-append (omega (arith, digits_short 20 number, name_short paper, digits_short 20 place, digits_short 20 count))

pub reply_short : (r : Reply) → length (reply_text r) ≤ 82
unfolding reply_text verdict_text
reply_short r = go r.verdict r.paper r.place r.count
  where
    go : (v : Verdict) (p : Paper) (place count : ℕ) → length (verdict_text v p place count) ≤ 82
    go Opaque p place count = omega arith
    go Detectable p place count = omega arith
    go (Refused n) p place count = refusal_short n p place count

-- no line is longer than 96 bytes
pub line_short : (r : Reply) → length (line_of r) ≤ 96
unfolding line_of
line_short r = omega (arith, length-append (reply_text r) (10 ∷ []), reply_short r)

pub input_line_short : length input_line ≤ 96
unfolding input_line
input_line_short = omega arith

-- the first n of a part that is put after the first a
take_put : (a k n : ℕ) (xs ys : List ℕ) → a ≤ length xs → n ≤ length ys → take (a + n) (put_mid a k xs ys) ≡ take a xs ++ take n ys
take_put a k n xs ys within fits =
    let front = take a xs in
    let rest = ys ++ post_of a k xs in
    ap (λ (m : ℕ). take (m + n) (front ++ rest)) (sym (length-take-le a xs within)) ∙ take-append-add front rest n
    ∙ ap (λ (l : List ℕ). front ++ l) (take-append-le n ys (post_of a k xs) fits)

-- a reader gave the first a bytes of a table, and then the first n of what is put after them: it gave the first a + n
pub given_on : (old now new : Option (List ℕ)) (a k n : ℕ) (xs ys : List ℕ) → a ≤ length xs → n ≤ length ys → Consumes old now (take a xs) → Consumes now new (take n ys) → Consumes old new (take (a + n) (put_mid a k xs ys))
given_on old now new a k n xs ys within fits before after = subst (Consumes _ _) (sym (take_put a k n xs ys within fits)) (Consumes-trans _ _ _ _ _ before after)
