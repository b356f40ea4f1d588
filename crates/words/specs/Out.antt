-- What reading finds: the value and the position after it, or the refusal: its number, its place, the count of words that it shows.
use Rattle.std.specs.Prelude.{ℕ, ◌+◌, List, Bool, true, false, length, get_or, drop, ltb}

pub data Out (A : Type 0) : Type 0 where
  got : A → ℕ → Out A
  bad : ℕ → ℕ → ℕ → Out A

-- go on with the value and the position after it; a refusal stands
abbrev pub then : {A B : Type 0} → Out A → (A → ℕ → Out B) → Out B
then (got v p) f = f v p
then (bad e p w) f = bad e p w

-- a value is made of what was read
abbrev pub made : {A B : Type 0} → (A → B) → Out A → Out B
made f (got v p) = got (f v) p
made f (bad e p w) = bad e p w

-- the test, or else refusal e shows the one word at `at`
abbrev pub need : {A : Type 0} → Bool → ℕ → ℕ → Out A → Out A
need true e at o = o
need false e at o = bad e at 1

-- 1, "a word is needed and the paper has ended": the empty part at its end
abbrev pub present : {A : Type 0} → Bool → List ℕ → Out A → Out A
present true ws o = o
present false ws o = bad 1 (length ws) 0

abbrev pub word : List ℕ → ℕ → Out ℕ
word ws at = present (ltb at (length ws)) ws (got (get_or ws at 0) (at + 1))

-- what was read in the part that begins at k, as places of the whole
unfoldable pub moved : {A : Type 0} → ℕ → Out A → Out A
moved k (got v p) = got v (k + p)
moved k (bad e p w) = bad e (k + p) w

-- "each section is read as the part that begins where the former ended"
unfoldable pub after : {A : Type 0} → (List ℕ → ℕ → Out A) → List ℕ → ℕ → Out A
after r ws p = moved p (r (drop p ws) 0)
