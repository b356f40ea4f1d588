-- `promise::same_words` meets its contract: what `==` tests of two slices is the test of two parts.
use mathlib.Core.Path.{◌∙◌}
use Rattle.promise.proofs.Place.{part_is}
use Rattle.promise.proofs.Step.{same_is}
use Rattle.promise.proofs.same_words.Goals as goal

pub returns : goal.returns
returns c =
    let a = c.args in
    c.eq.ensures ∙ (rw (part_is a.s.now a.p a.k, part_is a.t.now a.q a.j) (same_is _ _))
