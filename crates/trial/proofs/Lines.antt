-- The line of a case, from the table that its words were written into.
use Prim.Native.Nat.{ℕ, ◌+◌, ◌*◌, ◌/◌, ◌%◌, ◌≤◌, min}
use mathlib.Core.Path.{◌≡◌, refl, sym, ap, subst, ◌∙◌}
use mathlib.Core.List.{List}
use native.Mathlib.Omega.{arith}
use Rattle.std.specs.Prelude.{Some}
use lib.ListN.{length, take, replicate, length-take, length-replicate}
use lib.Seq.{length-take-le}
use Rattle.std.proofs.lemmas.List.{take-take}
use Rattle.promise.specs.Place.{part, rows, filled}
use Rattle.reply.specs.declared.Paper.{Paper}
use Rattle.judging.specs.Judge.{judge_of}
use Rattle.text.specs.Bytes.{word_at}
use Rattle.text.specs.declared.Papers.{Papers}
use Rattle.text.specs.Line.{put, line_of}
use Rattle.text.proofs.Put.{line_short}
use Rattle.printed.specs.Printed.{words_of, printed}
use Rattle.printed.specs.Lists.{answers_line, rounds_line, asking, shown_line}
use Rattle.printed.proofs.Read.{part_rows, printed_short}
use Rattle.printed.proofs.Lists.{answers_line_short, rounds_line_short, shown_line_short}
use Rattle.trial.specs.Case.{Fits, size_of}
use Rattle.trial.specs.Line.{line_for, case_line}
use Rattle.trial.specs.declared.case.Case.{Case}
use Rattle.trial.specs.declared.case.Case.TheVariants.{Judge, Answers, Shown, Bytes, Rounds}

-- `&ws[..k]` is the part from the start on
pub first_part : (ws : List ℕ) (k : ℕ) → take k ws ≡ part ws 0 k
unfolding part
first_part ws k = refl

-- no line is longer than the room for it
part_few : (ws : List ℕ) (p k : ℕ) → length (part ws p k) ≤ k
unfolding part
part_few ws p k = simp length-take (omega arith)

pub case_line_short : (k : Case) (bs : List ℕ) → Fits k → length (case_line (Some k) bs) ≤ 196704
unfolding case_line line_for
case_line_short (Judge p) bs f = omega (arith, line_short (judge_of (part (words_of bs) 0 p.dossier) (part (words_of bs) p.dossier p.certificate) 64))
case_line_short (Answers t d) bs f = omega (arith, answers_line_short (part (words_of bs) 0 d) (replicate t 7), length-replicate {A = ℕ} t 7)
case_line_short (Shown paper place count p) bs f =
    omega (arith, shown_line_short (part (words_of bs) 0 p.dossier) (part (words_of bs) p.dossier p.certificate) (asking paper place count), part_few (words_of bs) 0 p.dossier, part_few (words_of bs) p.dossier p.certificate)
case_line_short (Bytes n) bs f = omega (arith, printed_short (take n bs))
case_line_short (Rounds x t p) bs f =
    omega (arith, f.0, rounds_line_short (part (words_of bs) 0 p.dossier) (part (words_of bs) p.dossier p.certificate) (replicate t x), length-replicate {A = ℕ} t x)

pub bytes_line : (bytes : List ℕ) (k : Case) {c : ℕ} → k ≡ Bytes c → printed (take c bytes) ≡ case_line (Some k) (take (size_of (Some k)) bytes)
unfolding case_line line_for
bytes_line bytes k {c} e = rw e (ap printed (sym (take-take c (c + c % 2) bytes (omega arith))))

-- Case k was printed, whose bytes are the first of `bytes`, as the line l; their words were written into a table.
module _ (bytes : List ℕ) (k : Case) (f : Fits k) where
  pub printed_as : (old : List ℕ) {out l : List ℕ} {r : ℕ} → (out ≡ put old 0 l) × (r ≡ length l) → l ≡ case_line (Some k) (take (size_of (Some k)) bytes)
      → (out ≡ put old 0 (case_line (Some k) (take (size_of (Some k)) bytes))) × (r ≡ length (case_line (Some k) (take (size_of (Some k)) bytes))) × (r ≤ 196704)
  printed_as old (e, g) h = (e ∙ ap (put old 0) h, g ∙ ap length h, omega (arith, g, ap length h, case_line_short k (take (size_of (Some k)) bytes) f))

  module _ (old : List ℕ) {n : ℕ} (size : n ≡ size_of (Some k)) (fits : n ≤ length bytes) {u : List ℕ} (is : u ≡ filled (word_at (take n bytes)) (min (length (take n bytes) / 2) (length old)) old) (room : 32768 ≤ length old) where
    -- a part of the words
    words_part : (p j : ℕ) → p + j ≤ n / 2 → n / 2 ≤ 32767 → part u p j ≡ part (words_of (take (size_of (Some k)) bytes)) p j
    unfolding words_of
    words_part p j h l =
        let w = length-take-le n bytes fits in
        let m : min (length (take n bytes) / 2) (length old) ≡ length (take n bytes) / 2 = omega (arith, w) in
        part_rows (word_at (take n bytes)) (length (take n bytes) / 2) p j old (is ∙ ap (λ (c : ℕ). filled (word_at (take n bytes)) c old) m) (omega (arith, w))
        ∙ ap (λ (c : ℕ). part (rows (word_at (take c bytes)) (length (take c bytes) / 2)) p j) size

    pub judge_line : {p : Papers} → k ≡ Judge p → line_of (judge_of (part u 0 p.dossier) (part u (0 + p.dossier) p.certificate) 64) ≡ case_line (Some k) (take (size_of (Some k)) bytes)
    unfolding case_line line_for
    judge_line {p} e =
        let l : p.dossier + p.certificate ≤ 32767 = subst Fits e f in
        let g : n ≡ 2 * (p.dossier + p.certificate) = size ∙ ap (λ (c : Case). size_of (Some c)) e in
        let z : 0 + p.dossier ≡ p.dossier = omega arith in
        rw (z, words_part 0 p.dossier (omega arith) (omega arith), words_part p.dossier p.certificate (omega arith) (omega arith), e)

    pub answers_line_lem : {t d : ℕ} (table : List ℕ) → k ≡ Answers t d → t ≤ length table → answers_line (take d u) (replicate (length (take t table)) 7) ≡ case_line (Some k) (take (size_of (Some k)) bytes)
    unfolding case_line line_for
    answers_line_lem {t} {d} table e h =
        let l : t + d ≤ 32767 = subst Fits e f in
        let g : n ≡ 2 * d = size ∙ ap (λ (c : Case). size_of (Some c)) e in
        rw (first_part u d, words_part 0 d (omega arith) (omega arith), length-take-le t table h, e)

    pub shown_line_lem : {paper : Paper} {place count : ℕ} {p : Papers} → k ≡ Shown paper place count p → shown_line (part u 0 p.dossier) (part u p.dossier p.certificate) (asking paper place count) ≡ case_line (Some k) (take (size_of (Some k)) bytes)
    unfolding case_line line_for
    shown_line_lem {p = p} e =
        let l : p.dossier + p.certificate ≤ 32767 = subst Fits e f in
        let g : n ≡ 2 * (p.dossier + p.certificate) = size ∙ ap (λ (c : Case). size_of (Some c)) e in
        rw (words_part 0 p.dossier (omega arith) (omega arith), words_part p.dossier p.certificate (omega arith) (omega arith), e)

    pub rounds_line_lem : {x t : ℕ} {p : Papers} (table : List ℕ) → k ≡ Rounds x t p → t ≤ length table → rounds_line (part u 0 p.dossier) (part u p.dossier p.certificate) (replicate (length (take t table)) x) ≡ case_line (Some k) (take (size_of (Some k)) bytes)
    unfolding case_line line_for
    rounds_line_lem {x} {t} {p} table e h =
        let l : (t ≤ 32767) × (p.dossier + p.certificate ≤ 32767) = subst Fits e f in
        let g : n ≡ 2 * (p.dossier + p.certificate) = size ∙ ap (λ (c : Case). size_of (Some c)) e in
        rw (words_part 0 p.dossier (omega (arith, l.1)) (omega (arith, l.1)), words_part p.dossier p.certificate (omega (arith, l.1)) (omega (arith, l.1)), length-take-le t table h, e)
