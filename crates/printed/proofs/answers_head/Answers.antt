-- `printed::answers_head` meets its contract: in each arm the answer is known.
use Rattle.printed.specs.Lists.{answers_head}
use Rattle.printed.proofs.answers_head.Goals as goal

pub returns-in-Ok : goal.returns-in-Ok
unfolding answers_head
returns-in-Ok c = rw c.in-Ok.is (c.headed.ensures.0, c.headed.ensures.1)

pub returns-in-Err : goal.returns-in-Err
unfolding answers_head
returns-in-Err c = rw c.in-Err.is c.reply_text.ensures
