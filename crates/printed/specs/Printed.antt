-- What the program judge prints for the bytes of its standard input, and what the table that is lent for their words then holds.
use Rattle.std.specs.Prelude.{ℕ, ◌+◌, ◌/◌, List, length, Option, None, Some}
use Rattle.promise.specs.Place.{part, rows, filled}
use Rattle.judging.specs.Judge.{judge_of}
use Rattle.text.specs.Bytes.{word_at, input_of}
use Rattle.text.specs.Line.{line_of, input_line}
use Rattle.text.specs.declared.Papers.{Papers}

-- the words of the bytes, the length word first
unfoldable pub words_of : List ℕ → List ℕ
words_of bs = rows (word_at bs) (length bs / 2)

-- the line: INPUT; or that of the judge's reply, with the dossier after the length word and the certificate after the dossier. "The program lends 64 words" (request A5).
unfoldable pub printed_for : List ℕ → Option Papers → List ℕ
printed_for ws None = input_line
printed_for ws (Some p) = line_of (judge_of (part ws 1 p.dossier) (part ws (1 + p.dossier) p.certificate) 64)

unfoldable pub printed : List ℕ → List ℕ
printed bs = printed_for (words_of bs) (input_of bs)

-- the table: as it was; or, where papers were found, it begins with the words of the bytes and is as it was from there on
unfoldable pub table_for : List ℕ → List ℕ → Option Papers → List ℕ
table_for bs t None = t
table_for bs t (Some p) = filled (word_at bs) (length bs / 2) t

unfoldable pub table_read : List ℕ → List ℕ → List ℕ
table_read bs t = table_for bs t (input_of bs)
