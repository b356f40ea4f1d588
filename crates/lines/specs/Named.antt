-- What the code's enums say, in the words of the definitions.
use Rattle.std.specs.Prelude.{Option, Some, None}
use Rattle.std.proofs.Math.Option as maybe
use Rattle.meaning.specs.Papers as papers
use Rattle.lines.specs.declared.rule.Rule.{Rule}
use Rattle.lines.specs.declared.rule.Rule.TheVariants.{Probe, Secret, Clause, Assumed, Credential, Cut, Without, Resolve}

-- the Option of the definitions that the code's is
abbrev pub told : {A : Type 0} → Option A → maybe.Option A
told None = maybe.none
told (Some x) = maybe.some x

-- the rule that the code's is
abbrev pub rule_told : Rule → papers.Rule
rule_told (Probe k) = papers.probe k
rule_told Secret = papers.secret
rule_told (Clause i j) = papers.clause i j
rule_told (Assumed j) = papers.assumed j
rule_told (Credential c j) = papers.credential c j
rule_told (Cut j i) = papers.cut j i
rule_told (Without c i j k) = papers.without c i j k
rule_told (Resolve u v i j) = papers.resolve u v i j
