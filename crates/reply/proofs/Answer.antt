-- Laws on the part that a reply shows. They assume nothing.
use Prim.Native.Nat.{ℕ, ◌+◌, ◌≤◌, ◌<◌}
use mathlib.Core.Path.{◌≡◌}
use mathlib.Core.List.{List, []}
use native.Mathlib.Omega.{arith}
use lib.ListN.{length, take, drop}
use Rattle.reply.specs.declared.Reply.{Reply}
use Rattle.reply.specs.declared.Verdict.{Verdict}
use Rattle.reply.specs.Shown.{of_paper, shown_of}
use Rattle.reply.specs.Answer.{accepted}
use Rattle.reply.proofs.Part.{fits, counted, unfit}

module _ (d c : List ℕ) (reply : Reply) where
  -- the paper that the reply names
  abbrev named : List ℕ
  named = of_paper reply.paper d c

  -- where its words fit: those words, and as many as it says
  pub shown_fits : reply.place + reply.count ≤ length named → shown_of d c reply ≡ take reply.count (drop reply.place named)
  unfolding shown_of
  shown_fits h = fits named reply.place reply.count h

  pub shown_count : reply.place + reply.count ≤ length named → length (shown_of d c reply) ≡ reply.count
  unfolding shown_of
  shown_count h = counted named reply.place reply.count h

  -- where they don't: no word
  pub shown_unfit : length named < reply.place + reply.count → shown_of d c reply ≡ []
  unfolding shown_of
  shown_unfit h = unfit named reply.place reply.count h

-- an acceptance shows no word
pub shown_accepted : (d c : List ℕ) (v : Verdict) → shown_of d c (accepted v) ≡ []
shown_accepted d c v = shown_fits d c (accepted v) (omega arith)
