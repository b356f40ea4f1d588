-- Lines, computed by the checker.
use mathlib.Core.Path.{◌≡◌, refl, sym}
use mathlib.Core.List.Memᴰ
use mathlib.Core.List.{[], ◌∷◌}
use Rattle.reply.specs.Part.{part_of}
use Rattle.reply.specs.Shown.{shown_of}
use Rattle.reply.specs.declared.Paper.TheVariants.{Certificate}
use Rattle.judging.specs.Answers.{answers_of, table_after}
use Rattle.judging.specs.Cases.{T1}
use Rattle.judging.proofs.Cases.{Computes, computed}
use Rattle.text.specs.Line.{digits_of, decimal}
use Rattle.printed.specs.Lists.{spaced, spaced_all, list_of, answers_head, answers_line, asking, shown_head, shown_line}
use Rattle.printed.proofs.Lists.{answers_line_is}
use Rattle.std.specs.Prelude.{Ok}

-- (a) in a table with a word more than T1 has probes: `ANSWERS 2 : 1 0 7`
answered_a : (answers_of T1 (7 ∷ 7 ∷ 7 ∷ []) ≡ Ok 2) × (table_after T1 (7 ∷ 7 ∷ 7 ∷ []) ≡ 1 ∷ 0 ∷ 7 ∷ [])
unfolding Computes
answered_a = computed _ (Memᴰ.head refl)

pub line_of_a : answers_line T1 (7 ∷ 7 ∷ 7 ∷ []) ≡ 65 ∷ 78 ∷ 83 ∷ 87 ∷ 69 ∷ 82 ∷ 83 ∷ 32 ∷ 50 ∷ 32 ∷ 58 ∷ 32 ∷ 49 ∷ 32 ∷ 48 ∷ 32 ∷ 55 ∷ 10 ∷ []
unfolding spaced spaced_all list_of answers_head digits_of decimal
line_of_a = sym (answers_line_is T1 (7 ∷ 7 ∷ 7 ∷ []) (sym answered_a.0) (sym answered_a.1))

-- two words of the certificate from place 1 on: `SHOWN 2 : 20 300`
pub line_of_shown : shown_line (5 ∷ 6 ∷ []) (1 ∷ 20 ∷ 300 ∷ []) (asking Certificate 1 2) ≡ 83 ∷ 72 ∷ 79 ∷ 87 ∷ 78 ∷ 32 ∷ 50 ∷ 32 ∷ 58 ∷ 32 ∷ 50 ∷ 48 ∷ 32 ∷ 51 ∷ 48 ∷ 48 ∷ 10 ∷ []
unfolding shown_line shown_head asking shown_of part_of spaced spaced_all list_of digits_of decimal
line_of_shown = refl
