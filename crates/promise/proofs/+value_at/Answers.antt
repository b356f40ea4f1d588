-- `promise::value_at` meets its contract: by what the first word stands for.
use native.Mathlib.Omega.{arith}
use Rattle.promise.proofs.Formula.{deep, fits_here, fits_atom, fits_one, fits_two, read_atom, read_true, read_not, read_and, read_or, sign_says}
use Rattle.promise.proofs.+value_at.Goals as goal

pub word-requires : goal.word-requires
word-requires g t c = fits_here _ _ _ _ c.requires

pub atom-requires : goal.atom-requires
atom-requires g t c =
    let s = sign_says _ c.in-Atom.ensures in
    rw (← s.0) (fits_atom _ _ _ _ c.requires c.word.ensures.0 s.1)

pub overflow_add-result : goal.overflow_add-result
overflow_add-result g t c = omega (arith, fits_here _ _ _ _ c.requires)

pub overflow_add-result-in-True : goal.overflow_add-result-in-True
overflow_add-result-in-True g t c = omega (arith, fits_here _ _ _ _ c.requires)

pub overflow_add-at : goal.overflow_add-at
overflow_add-at g t c = omega (arith, fits_here _ _ _ _ c.requires)

pub overflow_add-at-in-And : goal.overflow_add-at-in-And
overflow_add-at-in-And g t c = omega (arith, fits_here _ _ _ _ c.requires)

pub overflow_add-at-in-Or : goal.overflow_add-at-in-Or
overflow_add-at-in-Or g t c = omega (arith, fits_here _ _ _ _ c.requires)

pub overflow_sub-deep : goal.overflow_sub-deep
overflow_sub-deep g t c = omega (arith, deep _ _ _ _ c.requires)

pub overflow_sub-deep-in-And : goal.overflow_sub-deep-in-And
overflow_sub-deep-in-And g t c = omega (arith, deep _ _ _ _ c.requires)

pub overflow_sub-deep-in-And-2 : goal.overflow_sub-deep-in-And-2
overflow_sub-deep-in-And-2 g t c = omega (arith, deep _ _ _ _ c.requires)

pub overflow_sub-deep-in-Or : goal.overflow_sub-deep-in-Or
overflow_sub-deep-in-Or g t c = omega (arith, deep _ _ _ _ c.requires)

pub overflow_sub-deep-in-Or-2 : goal.overflow_sub-deep-in-Or-2
overflow_sub-deep-in-Or-2 g t c = omega (arith, deep _ _ _ _ c.requires)

pub value_at-a-requires : goal.value_at-a-requires
value_at-a-requires g t c =
    let s = sign_says _ c.in-Not.ensures in
    λ κs l. (omega (arith, deep _ _ _ _ c.requires), (l.0, (l.1, (fits_one _ _ _ _ c.requires c.word.ensures.0 (omega (arith, s))))))

pub value_at-a-requires-in-And : goal.value_at-a-requires-in-And
value_at-a-requires-in-And g t c =
    let s = sign_says _ c.in-And.ensures in
    λ κs l. (omega (arith, deep _ _ _ _ c.requires), (l.0, (l.1, (fits_one _ _ _ _ c.requires c.word.ensures.0 (omega (arith, s))))))

pub value_at-a-requires-in-Or : goal.value_at-a-requires-in-Or
value_at-a-requires-in-Or g t c =
    let s = sign_says _ c.in-Or.ensures in
    λ κs l. (omega (arith, deep _ _ _ _ c.requires), (l.0, (l.1, (fits_one _ _ _ _ c.requires c.word.ensures.0 (omega (arith, s))))))

pub value_at-b-requires : goal.value_at-b-requires
value_at-b-requires g t c =
    let s = sign_says _ c.in-And.ensures in
    let f = fits_two _ _ _ _ c.requires c.word.ensures.0 (omega (arith, s)) in
    λ κs l. (omega (arith, deep _ _ _ _ c.requires), (l.0, (l.1, rw c.value_at-a-in-And.ensures.1 f)))

pub value_at-b-requires-in-Or : goal.value_at-b-requires-in-Or
value_at-b-requires-in-Or g t c =
    let s = sign_says _ c.in-Or.ensures in
    let f = fits_two _ _ _ _ c.requires c.word.ensures.0 (omega (arith, s)) in
    λ κs l. (omega (arith, deep _ _ _ _ c.requires), (l.0, (l.1, rw c.value_at-a-in-Or.ensures.1 f)))

pub returns-in-Atom : goal.returns-in-Atom
returns-in-Atom g t c =
    let s = sign_says _ c.in-Atom.ensures in
    rw c.atom.ensures (rw s.0 at (read_atom _ _ _ _ c.requires c.word.ensures.0 (g.V.Valuation.reading c.args.v.now) s.1))

pub returns-in-True : goal.returns-in-True
returns-in-True g t c = rw c.truth.ensures (read_true _ _ _ _ c.requires c.word.ensures.0 (g.V.Valuation.reading c.args.v.now) (sign_says _ c.in-True.ensures))

pub returns-in-Not : goal.returns-in-Not
returns-in-Not g t c =
    rw c.negated.ensures (read_not _ _ _ _ c.requires c.word.ensures.0 (g.V.Valuation.reading c.args.v.now) c.value_at-a.ensures.0 c.value_at-a.ensures.1 (sign_says _ c.in-Not.ensures))

pub returns-in-And : goal.returns-in-And
returns-in-And g t c =
    let s = sign_says _ c.in-And.ensures in
    let a = c.value_at-a-in-And.ensures in
    rw c.both.ensures (read_and _ _ _ _ c.requires c.word.ensures.0 (g.V.Valuation.reading c.args.v.now) a.0 a.1 c.value_at-b.ensures.0 c.value_at-b.ensures.1 (omega (arith, s)) s)

pub returns-in-Or : goal.returns-in-Or
returns-in-Or g t c =
    let s = sign_says _ c.in-Or.ensures in
    let a = c.value_at-a-in-Or.ensures in
    let b = c.value_at-b-in-Or.ensures in
    rw c.either.ensures (read_or _ _ _ _ c.requires c.word.ensures.0 (g.V.Valuation.reading c.args.v.now) a.0 a.1 b.0 b.1 (omega (arith, s)) (λ e. omega (arith, e, s)))
