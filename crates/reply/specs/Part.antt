-- A part of lent words: 'the lent words themselves, so many from that place; where they don't fit the paper, the empty part at its end'.
-- A reference s to words has its pointer, `s.ref_ptr`, and the words that lie there, `s.now`. A part of them is told by both: `part_of` has its words, and `part_at` its pointer.
use Rattle.std.specs.Prelude.{ℕ, ◌+◌, ◌*◌, List, [], Bool, cond, length, take, drop, leb}
use Rattle.std.specs.Borrow.{Bor}

-- whether so many words from that place fit the paper. The sum has no bound: where the machine's would wrap, the words don't fit
abbrev pub fit : List ℕ → ℕ → ℕ → Bool
fit ws place count = leb (place + count) (length ws)

-- 'so many from that place; where they don't fit the paper, the empty part'
unfoldable pub part_of : List ℕ → ℕ → ℕ → List ℕ
part_of ws place count = cond (fit ws place count) (take count (drop place ws)) []

-- how many of the paper's words stand before the part: 'from that place; where they don't fit the paper, .. at its end'
unfoldable pub start_of : List ℕ → ℕ → ℕ → ℕ
start_of ws place count = cond (fit ws place count) place (length ws)

-- where in memory a word lies that stands k words after the one at p: a block, and a place in it in bytes, of which a word has two
abbrev pub word_at : ℕ × ℕ → ℕ → ℕ × ℕ
word_at p k = (p.0, k * 2 + p.1)

-- 'the lent words themselves': where in memory the part of the words begins that s lends
unfoldable pub part_at : Bor (List ℕ) → ℕ → ℕ → ℕ × ℕ
part_at s place count = word_at s.ref_ptr (start_of s.now place count)
