-- `Sign::from` meets its contract: by the word.
use Prim.Native.Nat.{◌<◌}
use mathlib.Core.Path.{refl}
use native.Mathlib.Omega.{arith}
use borrow.Author.Tests.{lt-ltb, le-ltb, ne_eqb}
use Rattle.meaning.specs.Tests.{◌is◌, choose}
use Rattle.promise.specs.Formula.{sign_of}
use Rattle.promise.proofs.SignFromUsize.from.Goals as goal

pub returns-in-256 : goal.returns-in-256
unfolding sign_of choose ◌is◌
returns-in-256 c = rw c.in-256.is refl

pub returns-in-257 : goal.returns-in-257
unfolding sign_of choose ◌is◌
returns-in-257 c = rw c.in-257.is refl

pub returns-in-258 : goal.returns-in-258
unfolding sign_of choose ◌is◌
returns-in-258 c = rw c.in-258.is refl

pub returns-in-0-to-255 : goal.returns-in-0-to-255
unfolding sign_of choose ◌is◌
returns-in-0-to-255 c = let h : c.args.x < 256 = grind arith in simp (lt-ltb _ _ h)

pub returns-in_default : goal.returns-in_default
unfolding sign_of choose ◌is◌
returns-in_default c =
    let h : 258 < c.args.x = grind arith in
    simp (le-ltb c.args.x 256 (omega arith), ne_eqb c.args.x 256 (λ e. omega (arith, e)), ne_eqb c.args.x 257 (λ e. omega (arith, e)), ne_eqb c.args.x 258 (λ e. omega (arith, e)))
