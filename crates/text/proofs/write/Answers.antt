-- `text::write` meets its contract.
use mathlib.Core.Path.{refl}
use Rattle.text.proofs.Put.{put_part}
use Rattle.text.proofs.write.Goals as goal

pub returns : goal.returns
returns c = (put_part c.args.out.now c.args.at c.args.piece.now c.copy_from_slice.ensures.after, refl)
