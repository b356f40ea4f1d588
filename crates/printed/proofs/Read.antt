-- Parts of a table that begins with the input's words.
use Prim.Native.Nat.{ℕ, ◌+◌, ◌-◌, ◌/◌, ◌≤◌, min}
use mathlib.Core.Path.{◌≡◌, sym, ap, ◌∙◌}
use mathlib.Core.List.{List}
use Rattle.std.specs.Prelude.{Option, None, Some}
use native.Mathlib.Omega.{arith}
use lib.ListN.{length, take, drop, length-drop}
use lib.Seq.{take-append-le, drop-append-le}
use Rattle.promise.specs.Place.{part, rows, filled}
use Rattle.promise.proofs.Place.{rows_length}
use Rattle.judging.specs.Judge.{judge_of}
use Rattle.text.specs.Bytes.{word_at, input_of}
use Rattle.text.specs.Line.{line_of, input_line}
use Rattle.text.proofs.Put.{line_short, input_line_short}
use Rattle.text.specs.declared.Papers.{Papers}
use Rattle.printed.specs.Printed.{words_of, printed, printed_for, table_for, table_read}

-- a part that ends within the rows
pub part_rows : (f : ℕ → ℕ) (n p k : ℕ) (old : List ℕ) {t : List ℕ} → t ≡ filled f n old → p + k ≤ n → part t p k ≡ part (rows f n) p k
unfolding part filled
part_rows f n p k old e h =
    let l = rows_length f n in
    ap (λ (x : List ℕ). take k (drop p x)) e
    ∙ ap (take k) (drop-append-le p (rows f n) (drop n old) (omega arith))
    ∙ take-append-le k (drop p (rows f n)) (drop n old) (omega (arith, length-drop p (rows f n)))

-- the line for papers, with the words in a table
pub printed_papers : (bs old : List ℕ) (found : Papers) {r : Option Papers} {t : List ℕ} → r ≡ input_of bs → r ≡ Some found → t ≡ filled (word_at bs) (min (length bs / 2) (length old)) old → length bs / 2 ≤ length old → found.dossier + found.certificate + 1 ≡ length bs / 2
    → line_of (judge_of (part t 1 found.dossier) (part t (1 + found.dossier) found.certificate) 64) ≡ printed bs
unfolding printed printed_for words_of
printed_papers bs old found {r} {t} e f g h l =
    let m : min (length bs / 2) (length old) ≡ length bs / 2 = omega arith in
    let g' : t ≡ filled (word_at bs) (length bs / 2) old = g ∙ ap (λ (n : ℕ). filled (word_at bs) n old) m in
    ap (λ (x : List ℕ). line_of (judge_of x (part t (1 + found.dossier) found.certificate) 64)) (part_rows (word_at bs) (length bs / 2) 1 found.dossier old g' (omega arith))
    ∙ ap (λ (x : List ℕ). line_of (judge_of (part (rows (word_at bs) (length bs / 2)) 1 found.dossier) x 64)) (part_rows (word_at bs) (length bs / 2) (1 + found.dossier) found.certificate old g' (omega arith))
    ∙ ap (printed_for (rows (word_at bs) (length bs / 2))) (sym f ∙ e)

pub printed_bad : (bs : List ℕ) {r : Option Papers} → r ≡ input_of bs → r ≡ None → input_line ≡ printed bs
unfolding printed printed_for
printed_bad bs e f = ap (printed_for (words_of bs)) (sym f ∙ e)

-- the table after it: as it was, or with the words at its start
pub table_bad : (bs t : List ℕ) {r : Option Papers} → r ≡ input_of bs → r ≡ None → t ≡ table_read bs t
unfolding table_read table_for
table_bad bs t e f = ap (table_for bs t) (sym f ∙ e)

pub table_papers : (bs old : List ℕ) (found : Papers) {r : Option Papers} {t : List ℕ} → r ≡ input_of bs → r ≡ Some found → t ≡ filled (word_at bs) (min (length bs / 2) (length old)) old → length bs / 2 ≤ length old → t ≡ table_read bs old
unfolding table_read table_for
table_papers bs old found e f g h =
    let m : min (length bs / 2) (length old) ≡ length bs / 2 = omega arith in
    g ∙ ap (λ (n : ℕ). filled (word_at bs) n old) m ∙ ap (table_for bs old) (sym f ∙ e)

-- no line is longer than 96 bytes
pub printed_short : (bs : List ℕ) → length (printed bs) ≤ 96
unfolding printed printed_for
printed_short bs = go (words_of bs) (input_of bs)
  where
    go : (ws : List ℕ) (i : Option Papers) → length (printed_for ws i) ≤ 96
    go ws None = input_line_short
    go ws (Some p) = line_short (judge_of (part ws 1 p.dossier) (part ws (1 + p.dossier) p.certificate) 64)

-- `&ws[p..p + k]` is the part of k words from p on
pub cut_part : (ws : List ℕ) (p k : ℕ) → take (p + k - p) (drop p ws) ≡ part ws p k
unfolding part
cut_part ws p k = let e : p + k - p ≡ k = omega arith in rw e

pub papers_cut : (ws : List ℕ) (p d c : ℕ) → line_of (judge_of (take (p + d - p) (drop p ws)) (take (p + d + c - (p + d)) (drop (p + d) ws)) 64) ≡ line_of (judge_of (part ws p d) (part ws (p + d) c) 64)
papers_cut ws p d c = rw (cut_part ws p d, cut_part ws (p + d) c)

pub printed_count : (bs : List ℕ) {r : ℕ} → r ≡ length (printed bs) → r ≤ 96
printed_count bs e = omega (arith, printed_short bs)
