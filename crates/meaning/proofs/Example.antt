-- The rules accept something: dossier T1 of 01 with its proof P is detectable, and T2 has a witness.
use mathlib.Core.Path.{◌≡◌, refl}
use Rattle.meaning.specs.Tests.{◌and◌, ◌or◌, agree, ◌is◌, same, all, any, put, keep, mem, at, named, choose, lowest}
use Rattle.meaning.specs.Policy.{round, after, holds}
use Rattle.meaning.specs.Formula.{read, pick, chosen, joined, given, truth}
use Rattle.meaning.specs.Papers.{policy, visible, answer, witness, proof}
use Rattle.meaning.specs.Looks.{aim}
use Rattle.meaning.specs.Rules.{same_statement, supposed, not₃, and₃, or₃, value, ◌gives◌, is_in, denied, fires, claims, omit, others, follows, earlier, line_follows}
use Rattle.meaning.specs.Verdict.{opaque, detectable, tried, probe_agrees, last_empty, decide, judge}
use Rattle.meaning.specs.Example.{clause_of, entry_of, example_with, t1, t2, t3, literal, line, fact_two, p}

-- all that the judge's outcome computes through
unfoldable pub compute : Unit {0}
unfolding ◌and◌ ◌or◌ agree ◌is◌ same all any put keep mem at named choose lowest round after holds read pick chosen joined given truth policy visible answer aim same_statement supposed not₃ and₃ or₃ value ◌gives◌ is_in denied fires claims omit others follows earlier line_follows tried probe_agrees last_empty decide judge clause_of entry_of example_with t1 t2 t3 literal line fact_two p
compute = tt

pub proof_example : judge t1 (proof p) ≡ detectable
unfolding compute
proof_example = refl

pub witness_example : judge t2 (witness fact_two) ≡ opaque
unfolding compute
witness_example = refl
