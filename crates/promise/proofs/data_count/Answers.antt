-- `promise::data_count` meets its contract: the words that it reads are those of the decoder.
use native.Mathlib.Omega.{arith}
use mathlib.Core.Path.{sym}
use Rattle.meaning.specs.Tests.{◌is◌, choose}
use Rattle.promise.specs.Line.{data_count}
use borrow.Author.Tests.{lt-ltb, le-ltb, eq-eqb, ne_eqb}
use Rattle.promise.proofs.data_count.Goals as goal

pub returns-then-r-eq1 : goal.returns-then-r-eq1
unfolding data_count choose ◌is◌
returns-then-r-eq1 c = (sym (simp (lt-ltb _ _ c.if-r-lt3.true, eq-eqb _ _ c.if-r-eq1.true)), omega arith)

pub returns-then-r-lt3 : goal.returns-then-r-lt3
unfolding data_count choose ◌is◌
returns-then-r-lt3 c = (sym (simp (lt-ltb _ _ c.if-r-lt3.true, ne_eqb _ _ c.if-r-eq1.false)), omega arith)

pub returns-then-r-eq4 : goal.returns-then-r-eq4
unfolding data_count choose ◌is◌
returns-then-r-eq4 c = (sym (simp (le-ltb _ _ c.if-r-lt3.false, eq-eqb _ _ c.if-r-eq4.true)), omega arith)

pub returns-then-r-lt7 : goal.returns-then-r-lt7
unfolding data_count choose ◌is◌
returns-then-r-lt7 c = (sym (simp (le-ltb _ _ c.if-r-lt3.false, ne_eqb _ _ c.if-r-eq4.false, lt-ltb _ _ c.if-r-lt7.true)), omega arith)

pub returns : goal.returns
unfolding data_count choose ◌is◌
returns c = (sym (simp (le-ltb _ _ c.if-r-lt3.false, ne_eqb _ _ c.if-r-eq4.false, le-ltb _ _ c.if-r-lt7.false)), omega arith)
