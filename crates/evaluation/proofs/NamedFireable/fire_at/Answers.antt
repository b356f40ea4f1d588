-- Firing a credential that its number names meets its contract.
use Prim.Native.Nat.{ℕ}
use mathlib.Core.Path.{refl, ap, ◌∙◌}
use lib.ListN.{get_or}
use Rattle.promise.specs.Clause.{clause_at, clause_of}
use Rattle.promise.specs.declared.ClauseAt.{ClauseAt}
use Rattle.evaluation.specs.Table.{fire_one}
use Rattle.evaluation.proofs.Firing.{fires}
use Rattle.evaluation.proofs.NamedFireable.fire_at.Goals as goal

pub fire-requires : goal.fire-requires
fire-requires c = fires c.clause_at.ensures (rw c.word-i.ensures.0 c.requires.fits)

pub returns : goal.returns
returns c =
    let a = c.args in (
      refl,
      c.fire.ensures ∙ ap (λ (v : ClauseAt). fire_one a.round (clause_of a.s.now v) a.table.now) c.clause_at.ensures
          ∙ ap (λ (i : ℕ). fire_one a.round (clause_of a.s.now (clause_at a.s.now (get_or a.self.now.creds.now i 0))) a.table.now) c.word-i.ensures.0,
    )
