-- What is printed of the answers entry, of the judge with the table that it was lent, and of `shown`: the reply's text, and then words in decimal.
-- A letter is its number in ASCII: 32 the space, 58 the colon, 10 the line feed.
use Rattle.std.specs.Prelude.{ℕ, List, [], ◌∷◌, ◌++◌, length, Result, Ok, Err}
use Rattle.reply.specs.Shown.{shown_of}
use Rattle.reply.specs.declared.Paper.{Paper}
use Rattle.reply.specs.declared.Verdict.TheVariants.{Opaque}
use Rattle.reply.specs.declared.Reply.{Reply}
use Rattle.judging.specs.Judge.{judge_of}
use Rattle.judging.specs.Rounds.{rounds_after}
use Rattle.judging.specs.Answers.{answers_of, table_after}
use Rattle.text.specs.Line.{digits_of, decimal, reply_text}

-- a word after a space; a number below 65,536 has at most 5 digits
unfoldable pub spaced : ℕ → List ℕ
spaced w = (32 ∷ []) ++ digits_of 5 w

unfoldable pub spaced_all : List ℕ → List ℕ
spaced_all [] = []
spaced_all (w ∷ ws) = spaced w ++ spaced_all ws

-- a colon after a space, the words, and a line feed
unfoldable pub list_of : List ℕ → List ℕ
list_of ws = (32 ∷ 58 ∷ []) ++ spaced_all ws ++ (10 ∷ [])

-- ANSWERS and the count, or the refusal
unfoldable pub answers_head : Result ℕ Reply → List ℕ
answers_head (Ok n) = (65 ∷ 78 ∷ 83 ∷ 87 ∷ 69 ∷ 82 ∷ 83 ∷ 32 ∷ []) ++ decimal n
answers_head (Err reply) = reply_text reply

-- the line of the answers entry for the dossier d and the lent table t: what it answers, and the table after it
unfoldable pub answers_line : List ℕ → List ℕ → List ℕ
answers_line d t = answers_head (answers_of d t) ++ list_of (table_after d t)

-- the line of the judge's reply and of the table after it (A5), for the dossier d, the certificate c and the lent table t
unfoldable pub rounds_line : List ℕ → List ℕ → List ℕ → List ℕ
rounds_line d c t = reply_text (judge_of d c (length t)) ++ list_of (rounds_after d c t)

-- a reply that asks for so many words of a paper from a place on; `shown` does not read the verdict
unfoldable pub asking : Paper → ℕ → ℕ → Reply
asking paper place count = record { verdict = Opaque; paper = paper; place = place; count = count }

-- SHOWN, how many words, and the words
unfoldable pub shown_head : List ℕ → List ℕ
shown_head ws = (83 ∷ 72 ∷ 79 ∷ 87 ∷ 78 ∷ 32 ∷ []) ++ decimal (length ws)

-- the line of the words that the reply shows of the dossier d and the certificate c
unfoldable pub shown_line : List ℕ → List ℕ → Reply → List ℕ
shown_line d c reply = shown_head (shown_of d c reply) ++ list_of (shown_of d c reply)
