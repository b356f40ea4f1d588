-- `verdict::refusing` meets its contract.
use Prim.Native.Nat.{ℕ, ◌-◌}
use mathlib.Core.Path.{ap₂}
use Rattle.reply.specs.declared.Reply.{Reply}
use Rattle.reply.specs.declared.Verdict.TheVariants as said
use Rattle.verdict.specs.Told.{showing}
use Rattle.verdict.proofs.refusing.Goals as goal

pub returns : goal.returns
unfolding showing
returns g c =
    let a = c.args in
    ap₂ {C = Reply} (λ (e q : ℕ). record { verdict = said.Refused e; paper = a.paper; place = a.p; count = q - a.p }) c.from.ensures c.next_at.ensures
