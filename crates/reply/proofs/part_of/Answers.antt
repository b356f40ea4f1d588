-- `reply::part_of` meets its contract: past the first test and on the first arm of the second the words fit, and else they don't. Assumes nothing.
use Prim.Native.Nat.{ℕ, ◌+◌, ◌-◌, ◌≤◌, ◌<◌}
use mathlib.Core.Path.{◌≡◌}
use mathlib.Core.List.{List}
use native.Mathlib.Omega.{arith}
use native.Mathlib.Nat.{add-sub_cancel_left, sub_self}
use lib.ListN.{length, take, drop}
use denote.Ref.{Bor}
use Rattle.reply.specs.Part.{part_of, part_at, word_at}
use Rattle.reply.proofs.Part.{fits, starts, unfit, ends}
use Rattle.reply.proofs.part_of.Goals as goal

-- `&s[a..e]` is the part that the contract names, by its words and by its place in memory

abbrev Cut : Bor (List ℕ) → (a e place count : ℕ) → Type 0
Cut s a e place count =
    (take (e - a) (drop a s.now) ≡ part_of s.now place count) × (word_at s.ref_ptr a ≡ part_at s place count)

module _ (s : Bor (List ℕ)) (place count : ℕ) where
  at_place : place + count ≤ length s.now → Cut s place (place + count) place count
  unfolding part_at
  at_place h = (rw (fits s.now place count h, add-sub_cancel_left), rw (starts s.now place count h))

  at_end : length s.now < place + count → Cut s (length s.now) (length s.now) place count
  unfolding part_at
  at_end h = (rw (unfit s.now place count h, sub_self), rw (ends s.now place count h))

pub returns-then-end-place : goal.returns-then-end-place
returns-then-end-place c = at_end _ _ _ (omega arith)

pub returns-then-count-end : goal.returns-then-count-end
returns-then-count-end c = at_place _ _ _ (omega arith)

pub returns-else-count-end : goal.returns-else-count-end
returns-else-count-end c = at_end _ _ _ (omega arith)
