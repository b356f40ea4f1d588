-- 'standard input: the dossier's length in words, itself one word, the dossier, the certificate, low byte first'.
use Rattle.std.specs.Prelude.{ℕ, ◌+◌, ◌-◌, ◌*◌, ◌/◌, ◌%◌, Bool, false, cond, Option, None, Some, List, length, get_or, leb, ltb, eqb}
use Rattle.text.specs.declared.Papers.{Papers}

-- word i of the bytes, 'low byte first'
unfoldable pub word_at : List ℕ → ℕ → ℕ
word_at bs i = get_or bs (2 * i) 0 + 256 * get_or bs (2 * i + 1) 0

-- 'Input above 65,536 bytes, too short for its length word .., or with an odd byte left' is not whole
unfoldable pub whole : ℕ → Bool
whole n = cond (ltb n 2) false (cond (ltb 65536 n) false (eqb (n % 2) 0))

-- the dossier's length, of so many words after the length word: 'too short .. for what that announces'
unfoldable pub announced : ℕ → ℕ → Option Papers
announced d have = cond (leb d have) (Some (record { dossier = d; certificate = have - d })) None

unfoldable pub input_of : List ℕ → Option Papers
input_of bs = cond (whole (length bs)) (announced (word_at bs 0) (length bs / 2 - 1)) None
