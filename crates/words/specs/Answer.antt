-- The code's answers: of what was decoded they keep what the caller goes on with, of a refusal all.
use Rattle.std.specs.Prelude.{ℕ, ◌+◌, ◌≤◌, List, length, Option, Some, None, Result, Ok, Err}
use Rattle.reply.specs.declared.Fault.{Fault}
use Rattle.reply.specs.declared.Refusal.{Refusal}
use Rattle.reply.specs.Numbers.{fault_of}
use Rattle.words.specs.Out.{Out, got, bad}
use Rattle.words.specs.Read.{Range, Any, Below}
use Rattle.words.specs.declared.Limit.{Limit}

-- the refusal that shows the one word at a place
abbrev pub at_word : {W : Type 0} → W → ℕ → Refusal W
at_word f p = record { fault = f; place = p; count = 1 }

-- where what is wrong is told of its number
module _ {W : Type 0} (told : ℕ → W) where
  -- the refusal with that number, place and count of words
  abbrev pub refusal_by : ℕ → ℕ → ℕ → Refusal W
  refusal_by e p w = record { fault = told e; place = p; count = w }

  -- 1: a word is needed and the paper has ended
  abbrev pub end_by : List ℕ → Refusal W
  end_by ws = refusal_by 1 (length ws) 0

  -- what the code answers: what `tell` says of the value that was read and of the place after it, or the refusal
  unfoldable pub answer_by : {A B : Type 0} → (A → ℕ → B) → Out A → Result B (Refusal W)
  answer_by tell (got v p) = Ok (tell v p)
  answer_by tell (bad e p w) = Err (refusal_by e p w)

  -- the place after what was read
  abbrev pub step_by : {A : Type 0} → Out A → Result ℕ (Refusal W)
  step_by o = answer_by (λ v p. p) o

  -- the word that was read
  abbrev pub got_by : Out ℕ → Result ℕ (Refusal W)
  got_by o = answer_by (λ v p. v) o

  -- a word of a rising list, told by the least that the one after it may be
  abbrev pub low_by : Out ℕ → Result ℕ (Refusal W)
  low_by o = answer_by (λ v p. v + 1) o

-- the same, told by the fault of the number
abbrev pub answer : {A B : Type 0} → (A → ℕ → B) → Out A → Result B (Refusal Fault)
answer tell o = answer_by fault_of tell o

abbrev pub as_step : {A : Type 0} → Out A → Result ℕ (Refusal Fault)
as_step o = answer (λ v p. p) o

abbrev pub as_got : Out ℕ → Result ℕ (Refusal Fault)
as_got o = answer (λ v p. v) o

-- the range of a list's words, as the code says it
abbrev pub range_by : {W : Type 0} → (W → ℕ) → Option (Limit W) → Range
range_by number None = Any
range_by number (Some l) = Below l.below (number l.fault)

-- the place after what was read, or the words that the refusal shows, lie within l words
abbrev pub Within : {W : Type 0} → ℕ → Result ℕ (Refusal W) → Type 0
Within l (Ok p) = p ≤ l
Within l (Err r) = r.place + r.count ≤ l
