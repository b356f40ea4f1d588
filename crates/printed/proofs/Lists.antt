-- Laws of words as text, and how long the lines are.
use Prim.Native.Nat.{ℕ, suc, ◌+◌, ◌*◌, ◌≤◌, ◌<◌}
use mathlib.Core.Path.{◌≡◌, sym, ap, ap₂, ◌∙◌}
use mathlib.Core.List.{List, [], ◌∷◌, ◌++◌, append_assoc, append-nil}
use native.Mathlib.Omega.{arith}
use native.Mathlib.Decide.{dec_lt}
use lib.ListN.{length, get_or, take, length-append}
use lib.Seq.{take-suc, take-length, length-take-le}
use Rattle.reply.specs.Part.{part_of}
use Rattle.reply.proofs.Part.{counted, unfit}
use Rattle.reply.specs.declared.Paper.{Paper}
use Rattle.reply.specs.declared.Paper.TheVariants.{Dossier, Certificate}
use Rattle.reply.specs.Shown.{of_paper, shown_of}
use Rattle.reply.specs.declared.Reply.{Reply}
use Rattle.judging.specs.Judge.{judge_of}
use Rattle.judging.specs.Rounds.{rounds_after}
use Rattle.judging.specs.Answers.{answers_of, table_after}
use Rattle.judging.proofs.Lengths.{table_length, rounds_length}
use Rattle.text.specs.Line.{digits_of, decimal, reply_text}
use Rattle.text.proofs.Value.{value_of, digits_mean}
use Rattle.text.proofs.Put.{digits_short, reply_short, put_none, put_length, Placed, placed_more}
use Rattle.printed.specs.Lists.{spaced, spaced_all, list_of, answers_head, answers_line, rounds_line, shown_head, shown_line}
use Rattle.std.specs.Prelude.{Result, Ok, Err}

pub spaced_short : (w : ℕ) → length (spaced w) ≤ 6
unfolding spaced
spaced_short w = omega (arith, length-append (32 ∷ []) (digits_of 5 w), digits_short 5 w)

pub spaced_all_short : (ws : List ℕ) → length (spaced_all ws) ≤ 6 * length ws
unfolding spaced_all
spaced_all_short [] = omega arith
spaced_all_short (w ∷ ws) = omega (arith, length-append (spaced w) (spaced_all ws), spaced_short w, spaced_all_short ws)

-- one word more
spaced_last : (ws : List ℕ) (w : ℕ) → spaced_all (ws ++ (w ∷ [])) ≡ spaced_all ws ++ spaced w
unfolding spaced_all
spaced_last [] w = append-nil (spaced w)
spaced_last (x ∷ ws) w = ap (λ (l : List ℕ). spaced x ++ l) (spaced_last ws w) ∙ sym (append_assoc (spaced x) (spaced_all ws) (spaced w))

-- the loop that writes words: nothing yet, one more, and the room that is taken
module _ (ws t : List ℕ) (at : ℕ) (fits : at + 6 * length ws ≤ length t) where
  pub spaced_none : Placed t at (spaced_all (take 0 ws)) t at
  unfolding spaced_all
  spaced_none = (put_none t at, omega arith)

  pub spaced_on : (i : ℕ) {u w : List ℕ} {p q : ℕ} → Placed t at (spaced_all (take i ws)) u p → Placed u p (spaced (get_or ws i 0)) w q → i < length ws → Placed t at (spaced_all (take (i + 1) ws)) w q
  spaced_on i so more h =
      let n : suc i ≡ i + 1 = omega arith in
      rw (← n, take-suc ws i 0, spaced_last) (placed_more t at (omega arith) (spaced_all (take i ws)) (spaced (get_or ws i 0)) so more)

  pub spaced_room : (i : ℕ) {u : List ℕ} {p : ℕ} → Placed t at (spaced_all (take i ws)) u p → i ≤ length ws → (p ≤ at + 6 * i) × (length u ≡ length t)
  spaced_room i so h =
      let l = spaced_all_short (take i ws) in
      let n = length-take-le i ws h in
      (omega arith, ap length so.0 ∙ put_length t at (spaced_all (take i ws)) (omega arith))

  pub spaced_whole : (i : ℕ) {u : List ℕ} {p : ℕ} → Placed t at (spaced_all (take i ws)) u p → i ≡ length ws → Placed t at (spaced_all ws) u p
  spaced_whole i so e = rw (e, take-length ws) at so

-- how long a list is
pub list_short : (ws : List ℕ) → length (list_of ws) ≤ 6 * length ws + 3
unfolding list_of
list_short ws = simp length-append (omega (arith, spaced_all_short ws))

-- a title, and a number of at most 20 digits
pub titled_short : (title : List ℕ) (n : ℕ) {r : ℕ} → r ≡ length (title ++ decimal n) → r ≤ length title + 20
unfolding decimal
titled_short title n e = omega (arith, length-append title (digits_of 20 n), digits_short 20 n)

pub head_short : (r : Result ℕ Reply) → length (answers_head r) ≤ 82
unfolding answers_head decimal
head_short (Ok n) = simp length-append (omega (arith, digits_short 20 n))
head_short (Err reply) = reply_short reply

pub shown_head_short : (ws : List ℕ) → length (shown_head ws) ≤ 26
unfolding shown_head decimal
shown_head_short ws = simp length-append (omega (arith, digits_short 20 (length ws)))

-- no more words are shown than the papers have
part_few : (ws : List ℕ) (place count : ℕ) → length (part_of ws place count) ≤ length ws
part_few ws place count = go (dec_lt (length ws) (place + count))
  where
    go : Dec (length ws < place + count) → length (part_of ws place count) ≤ length ws
    go (yes h) = rw (unfit ws place count h) (omega arith)
    go (no h) = omega (arith, counted ws place count (omega arith))

pub shown_few : (d c : List ℕ) (r : Reply) → length (shown_of d c r) ≤ length d + length c
unfolding shown_of
shown_few d c r = go r.paper (part_few d r.place r.count) (part_few c r.place r.count)
  where
    go : (p : Paper) → length (part_of d r.place r.count) ≤ length d → length (part_of c r.place r.count) ≤ length c → length (part_of (of_paper p d c) r.place r.count) ≤ length d + length c
    go Dossier h k = omega arith
    go Certificate h k = omega arith

-- the lines, of what was replied and of what was shown
pub answers_line_is : (d t : List ℕ) {r : Result ℕ Reply} {u : List ℕ} → r ≡ answers_of d t → u ≡ table_after d t → answers_head r ++ list_of u ≡ answers_line d t
unfolding answers_line
answers_line_is d t e f = ap₂ (λ (x : Result ℕ Reply) (y : List ℕ). answers_head x ++ list_of y) e f

pub rounds_line_is : (d c t : List ℕ) {r : Reply} {u : List ℕ} → r ≡ judge_of d c (length t) → u ≡ rounds_after d c t → reply_text r ++ list_of u ≡ rounds_line d c t
unfolding rounds_line
rounds_line_is d c t e f = ap₂ (λ (x : Reply) (y : List ℕ). reply_text x ++ list_of y) e f

pub shown_line_is : (d c : List ℕ) (r : Reply) {ws : List ℕ} → ws ≡ shown_of d c r → shown_head ws ++ list_of ws ≡ shown_line d c r
unfolding shown_line
shown_line_is d c r e = ap (λ (x : List ℕ). shown_head x ++ list_of x) e

-- how long they are
pub answers_line_short : (d t : List ℕ) → length (answers_line d t) ≤ 96 + 6 * length t
unfolding answers_line
answers_line_short d t = omega (arith, table_length d t, length-append (answers_head (answers_of d t)) (list_of (table_after d t)), head_short (answers_of d t), list_short (table_after d t))

pub rounds_line_short : (d c t : List ℕ) → length (rounds_line d c t) ≤ 96 + 6 * length t
unfolding rounds_line
rounds_line_short d c t = omega (arith, rounds_length d c t, length-append (reply_text (judge_of d c (length t))) (list_of (rounds_after d c t)), reply_short (judge_of d c (length t)), list_short (rounds_after d c t))

pub shown_line_short : (d c : List ℕ) (r : Reply) → length (shown_line d c r) ≤ 96 + 6 * (length d + length c)
unfolding shown_line
shown_line_short d c r = omega (arith, length-append (shown_head (shown_of d c r)) (list_of (shown_of d c r)), shown_head_short (shown_of d c r), list_short (shown_of d c r), shown_few d c r)

-- the digits of a word mean it: five are enough
pub word_means : (w : ℕ) → w < 65536 → value_of 0 (digits_of 5 w) ≡ w
word_means w h = digits_mean 5 w (omega arith) (omega arith)
