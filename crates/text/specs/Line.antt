-- 'one line: OPAQUE, DETECTABLE, or REFUSED, number, paper (dossier or certificate), place, count of words shown, with one space between and a line feed at the end'.
-- A letter is its number in ASCII: 32 the space, 10 the line feed.
use Rattle.std.specs.Prelude.{ℕ, zero, suc, ◌+◌, ◌/◌, ◌%◌, cond, List, [], ◌∷◌, ◌++◌, length, take, drop, ltb}
use Rattle.reply.specs.declared.Paper.{Paper}
use Rattle.reply.specs.declared.Paper.TheVariants.{Dossier, Certificate}
use Rattle.reply.specs.declared.Verdict.{Verdict}
use Rattle.reply.specs.declared.Verdict.TheVariants.{Opaque, Detectable, Refused}
use Rattle.reply.specs.declared.Reply.{Reply}

-- a table that has bs from a place on, and elsewhere what it had
unfoldable pub put : List ℕ → ℕ → List ℕ → List ℕ
put t at bs = take at t ++ bs ++ drop (at + length bs) t

-- n in decimal, without leading zeros, of at most so many digits
unfoldable pub digits_of : ℕ → ℕ → List ℕ
digits_of zero n = []
digits_of (suc k) n = cond (ltb n 10) ((48 + n) ∷ []) (digits_of k (n / 10) ++ ((48 + n % 10) ∷ []))

-- a number below 2 ^ 64 has at most 20 digits
unfoldable pub decimal : ℕ → List ℕ
decimal n = digits_of 20 n

-- 'dossier' and 'certificate', between two spaces
unfoldable pub name_of : Paper → List ℕ
name_of Dossier = 32 ∷ 100 ∷ 111 ∷ 115 ∷ 115 ∷ 105 ∷ 101 ∷ 114 ∷ 32 ∷ []
name_of Certificate = 32 ∷ 99 ∷ 101 ∷ 114 ∷ 116 ∷ 105 ∷ 102 ∷ 105 ∷ 99 ∷ 97 ∷ 116 ∷ 101 ∷ 32 ∷ []

-- 'REFUSED, number, paper, place, count'
unfoldable pub refusal_of : ℕ → Paper → ℕ → ℕ → List ℕ
refusal_of number paper place count =
    (82 ∷ 69 ∷ 70 ∷ 85 ∷ 83 ∷ 69 ∷ 68 ∷ 32 ∷ []) ++ decimal number ++ name_of paper ++ decimal place ++ (32 ∷ []) ++ decimal count

-- the text of a verdict that stands beside a paper, a place and a count, and of a reply
unfoldable pub verdict_text : Verdict → Paper → ℕ → ℕ → List ℕ
verdict_text Opaque paper place count = 79 ∷ 80 ∷ 65 ∷ 81 ∷ 85 ∷ 69 ∷ []
verdict_text Detectable paper place count = 68 ∷ 69 ∷ 84 ∷ 69 ∷ 67 ∷ 84 ∷ 65 ∷ 66 ∷ 76 ∷ 69 ∷ []
verdict_text (Refused number) paper place count = refusal_of number paper place count

unfoldable pub reply_text : Reply → List ℕ
reply_text r = verdict_text r.verdict r.paper r.place r.count

-- 'and a line feed at the end'
unfoldable pub line_of : Reply → List ℕ
line_of r = reply_text r ++ (10 ∷ [])

-- 'prints INPUT'
unfoldable pub input_line : List ℕ
input_line = 73 ∷ 78 ∷ 80 ∷ 85 ∷ 84 ∷ 10 ∷ []
