-- `text::refusal` meets its contract: piece by piece, each after what is written so far.
use native.Mathlib.Omega.{arith}
use mathlib.Core.List.{[], ◌∷◌}
use Rattle.text.specs.Line.{decimal, name_of, refusal_of}
use Rattle.text.proofs.Put.{wrote_more, digits_short, name_short}
use Rattle.text.proofs.refusal.Goals as goal

pub name-c-requires : goal.name-c-requires
name-c-requires c = omega (arith, digits_short 20 c.from.result)

pub digits-d-requires : goal.digits-d-requires
digits-d-requires c = omega (arith, digits_short 20 c.from.result, name_short c.args.paper)

pub write-e-requires : goal.write-e-requires
write-e-requires c = omega (arith, digits_short 20 c.from.result, name_short c.args.paper, digits_short 20 c.args.place)

pub digits-requires : goal.digits-requires
digits-requires c = omega (arith, digits_short 20 c.from.result, name_short c.args.paper, digits_short 20 c.args.place)

pub returns : goal.returns
unfolding refusal_of decimal
returns c =
    let a = c.args in
    let t = a.out.now in
    let w2 = wrote_more t _ (decimal a.number) c.write-a.ensures (rw c.from.ensures at c.digits-b.ensures) in
    let w3 = wrote_more t _ (name_of a.paper) w2 c.name-c.ensures in
    let w4 = wrote_more t _ (decimal a.place) w3 c.digits-d.ensures in
    let w5 = wrote_more t _ (32 ∷ []) w4 c.write-e.ensures in
    wrote_more t _ (decimal a.count) w5 c.digits.ensures
