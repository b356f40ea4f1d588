-- Laws on a part of lent words: where so many words from that place fit the paper, and where they don't. They assume nothing.
use Prim.Native.Nat.{ℕ, ◌+◌, ◌*◌, ◌≤◌, ◌<◌}
use mathlib.Core.Path.{◌≡◌, ap}
use mathlib.Core.List.{List, []}
use native.Mathlib.Omega.{arith}
use lib.ListN.{length, take, drop, length-take, length-drop}
use borrow.Author.Tests.{le-leb, lt-leb}
use denote.Ref.{Bor}
use Rattle.reply.specs.Part.{part_of, start_of, part_at, word_at}

module _ (ws : List ℕ) (place count : ℕ) where
  -- where they fit: so many words, from that place
  pub fits : place + count ≤ length ws → part_of ws place count ≡ take count (drop place ws)
  unfolding part_of
  fits h = rw (le-leb _ _ h)

  pub counted : place + count ≤ length ws → length (part_of ws place count) ≡ count
  counted h = rw (fits h) (simp (length-take, length-drop) (omega arith))

  pub starts : place + count ≤ length ws → start_of ws place count ≡ place
  unfolding start_of
  starts h = rw (le-leb _ _ h)

  -- where they don't: no word, at the end
  pub unfit : length ws < place + count → part_of ws place count ≡ []
  unfolding part_of
  unfit h = rw (lt-leb _ _ h)

  pub ends : length ws < place + count → start_of ws place count ≡ length ws
  unfolding start_of
  ends h = rw (lt-leb _ _ h)

-- the lent words themselves: the part's word k lies where the paper's word `place + k` lies
pub themselves : (s : Bor (List ℕ)) (place count k : ℕ) → place + count ≤ length s.now → word_at (part_at s place count) k ≡ word_at s.ref_ptr (place + k)
unfolding part_at
themselves s place count k h =
    let e : k * 2 + (place * 2 + s.ref_ptr.1) ≡ (place + k) * 2 + s.ref_ptr.1 = omega arith in
    rw (starts s.now place count h) (ap (λ (o : ℕ). (s.ref_ptr.0, o)) e)
