-- The code's answers of items and sections, by what reading one item answers.
use Rattle.std.specs.Prelude.{ℕ, Bool, true, false, leb, zero, suc, ◌+◌, ◌≤◌, List, length, drop, Result, Ok, Err}
use Rattle.reply.specs.declared.Fault.{Fault}
use Rattle.reply.specs.declared.Fault.TheVariants as fault
use Rattle.reply.specs.declared.Refusal.{Refusal}
use Rattle.words.specs.declared.item.Section.{Section}
use Rattle.words.specs.Out.{Out}
use Rattle.words.specs.Read.{ranged}
use Rattle.words.specs.Answer.{answer, as_got, at_word}

-- go on with what was answered; a refusal stands
abbrev pub on_ok : {A B : Type 0} → Result A (Refusal Fault) → (A → Result B (Refusal Fault)) → Result B (Refusal Fault)
on_ok (Ok v) f = f v
on_ok (Err r) f = Err r

-- what was answered of the part that begins at p, as places of the whole
unfoldable pub moved_step : ℕ → Result Section (Refusal Fault) → Result Section (Refusal Fault)
moved_step p (Ok s) = Ok (record { count = s.count; next = p + s.next })
moved_step p (Err r) = Err (record { fault = r.fault; place = p + r.place; count = r.count })

-- the place after a section, or the words that its refusal shows, lie within l words
abbrev pub SectionWithin : ℕ → Result Section (Refusal Fault) → Type 0
SectionWithin l (Ok s) = s.next ≤ l
SectionWithin l (Err x) = x.place + x.count ≤ l

-- a section after which the words have ended; 9, "words left over": the first of them
abbrev pub ended_step : Bool → Section → Result ℕ (Refusal Fault)
ended_step true s = Ok s.count
ended_step false s = Err (at_word fault.LeftOver s.next)

module _ (r : List ℕ → ℕ → Result ℕ (Refusal Fault)) where
  -- so many items, one after the other
  unfoldable pub items_step : ℕ → List ℕ → ℕ → Result ℕ (Refusal Fault)
  items_step zero ws at = Ok at
  items_step (suc k) ws at = on_ok (r ws at) (λ p. items_step k ws p)

  -- the section that begins where the words do: a count that is at least lo and below hi, and so many items
  unfoldable pub section_step : ℕ → ℕ → List ℕ → Result Section (Refusal Fault)
  section_step lo hi ws = on_ok (as_got (ranged lo hi 2 ws 0)) (λ k. on_ok (items_step k ws 1) (λ p. Ok (record { count = k; next = p })))

  -- the section that begins at p, read as the part from there on
  unfoldable pub part_step : ℕ → ℕ → List ℕ → ℕ → Result Section (Refusal Fault)
  part_step lo hi ws p = moved_step p (section_step lo hi (drop p ws))

  -- that section, and no word after it: how many items it has
  unfoldable pub last_step : ℕ → ℕ → List ℕ → ℕ → Result ℕ (Refusal Fault)
  last_step lo hi ws p = on_ok (part_step lo hi ws p) (λ s. ended_step (leb (length ws) s.next) s)

-- of a section that was read: how many things it has, and the place after it
abbrev pub as_section : {A : Type 0} → Out (List A) → Result Section (Refusal Fault)
as_section o = answer (λ xs p. record { count = length xs; next = p }) o
