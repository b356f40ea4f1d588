-- A fault's number, as `u16::from` gives it, is the one that the table has.
use Rattle.reply.proofs.Numbers.{tag_number}
use Rattle.reply.proofs.U16FromFault.from.Goals as goal

pub returns : goal.returns
returns c = tag_number c.args.fault
