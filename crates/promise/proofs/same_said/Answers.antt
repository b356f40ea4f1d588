-- `promise::same_said` meets its contract.
use mathlib.Core.Path.{◌∙◌, sym}
use borrow.Author.Tests.{ne_eqb}
use Rattle.meaning.specs.Rules.{same_statement}
use Rattle.promise.proofs.Step.{and_no, and_yes, clash, is_not, is_of, no_and, yes_and}
use Rattle.promise.proofs.same_said.Goals as goal
use Rattle.promise.proofs.same_said.Goals.{then-m-l, else-m-l}

pub returns-then-same_words : goal.returns-then-same_words
unfolding same_statement
returns-then-same_words c =
    elim c.if-m-l.branch [
      | then-m-l w ↦ c.same_words-then-same_words.ensures ∙ sym (and_yes _ (is_of w.if-m-l.true) ∙ yes_and _ (sym w.same_words.ensures ∙ sym w.value-is ∙ c.if-same_words.true))
      | else-m-l w ↦ clash c.if-same_words.true (w.value-is ∙ ne_eqb _ _ w.if-m-l.false)
    ]

pub returns-else-same_words : goal.returns-else-same_words
unfolding same_statement
returns-else-same_words c =
    c.if-same_words.false ∙ sym (elim c.if-m-l.branch [
      | then-m-l w ↦ no_and _ (no_and _ (sym w.same_words.ensures ∙ sym w.value-is ∙ c.if-same_words.false))
      | else-m-l w ↦ and_no _ (is_not w.if-m-l.false)
    ])
