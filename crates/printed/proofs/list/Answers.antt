-- `printed::list` meets its contract: piece by piece.
use native.Mathlib.Omega.{arith}
use Prim.Native.Nat.{◌≤◌}
use lib.ListN.{length}
use Rattle.printed.specs.Lists.{list_of}
use Rattle.printed.proofs.Lists.{spaced_all_short}
use Rattle.text.proofs.Put.{placed_more}
use Rattle.printed.proofs.list.Goals as goal

pub write-requires : goal.write-requires
write-requires c = omega (arith, c.requires, spaced_all_short c.args.words.now)

pub returns : goal.returns
unfolding list_of
returns c =
    let t = c.args.out.now in
    let h : c.args.at ≤ length t = omega (arith, c.requires) in
    placed_more t c.args.at h _ _ (placed_more t c.args.at h _ _ c.write-p.ensures c.spaced_words-q.ensures) c.write.ensures
