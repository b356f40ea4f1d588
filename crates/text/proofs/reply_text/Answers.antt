-- `text::reply_text` meets its contract: in each arm the verdict is known.
use Rattle.text.specs.Line.{reply_text, verdict_text}
use Rattle.text.proofs.reply_text.Goals as goal

pub returns-in-Opaque : goal.returns-in-Opaque
unfolding reply_text verdict_text
returns-in-Opaque c = rw c.in-Opaque.is c.write.ensures

pub returns-in-Detectable : goal.returns-in-Detectable
unfolding reply_text verdict_text
returns-in-Detectable c = rw c.in-Detectable.is c.write-in-Detectable.ensures

pub returns-in-Refused : goal.returns-in-Refused
unfolding reply_text verdict_text
returns-in-Refused c = rw c.in-Refused.is c.refusal.ensures
