-- 01's cases (a) to (j), computed by the checker: whatever keeps to the table meets them.
use mathlib.Core.Path.{◌≡◌, refl, sym, ap, subst, ◌∙◌}
use mathlib.Core.List.Memᴰ
use mathlib.Core.List.{List, [], ◌∷◌}
use Rattle.words.specs.Out as out
use Rattle.words.specs.Read.{ranged, next, rising, listed, times, section}
use Rattle.words.specs.Code.{code_all}
use Rattle.meaning.specs.Tests.{◌∈◌}
use Rattle.meaning.specs.Policy.{or_zero, first_of, first_round}
use Rattle.meaning.specs.Verdict.{about, round_in}
use Rattle.meaning.proofs.Example as meant
use Rattle.promise.specs.Code.{code_formula}
use Rattle.promise.specs.Place.{place, rows, filled}
use Rattle.promise.specs.Layout.{layout_of, proposal_of}
use Rattle.promise.specs.Line.{data_count, rule_of}
use Rattle.dossier.specs.Read.{clause, marked, by_kind, operand, formula, entry, secret, ended, sections, dossier}
use Rattle.certificate.specs.Read.{statement, literal, spoken, literals, line, witness_from, proof_from, proposal, certificate}
use Rattle.verdict.specs.Told.{showing, reply_at, numbered, rounds_at}
use Rattle.judging.specs.Judge.{judge_proposal, judge_read, judge_of}
use Rattle.judging.specs.Rounds.{rounds_proposal, rounds_read, rounds_after}
use Rattle.judging.specs.Table.{word_to}
use Rattle.judging.specs.Answers.{count_of, table_of, answers_of, table_after}
use Rattle.judging.specs.Cases.{Case, judged, answered, cases, Meets, CasesHold}
use Rattle.judging.specs.Entries.{Judging, Answering}
use Rattle.judging.specs.Demands.{Tabled, AnswersTabled}
use Rattle.judging.proofs.Table.{row_replied, row_kept}

-- what the definitions compute in a case
unfoldable pub Computes : Case → Type 0
Computes (judged d c reply) = judge_of d c 64 ≡ reply
Computes (answered d t reply after) = (answers_of d t ≡ reply) × (table_after d t ≡ after)

-- all that reading and judging compute through
unfoldable pub compute : Unit {0}
unfolding out.moved out.after ranged next rising listed times section code_all meant.compute code_formula place rows filled layout_of proposal_of data_count rule_of clause marked by_kind operand formula entry secret ended sections dossier statement literal spoken literals line witness_from proof_from proposal certificate showing reply_at judge_proposal judge_read judge_of first_of first_round or_zero about round_in numbered rounds_at rounds_proposal rounds_read rounds_after word_to count_of table_of answers_of table_after Computes
compute = tt

-- what holds of the first row and of each other holds of each
row : {x : Case} {l : List Case} → Computes x → ((c : Case) → c ∈ l → Computes c) → (c : Case) → c ∈ (x ∷ l) → Computes c
row h rest c (Memᴰ.head e) = subst Computes (sym e) h
row h rest c (Memᴰ.tail m) = rest c m

none_left : (c : Case) → c ∈ [] → Computes c
none_left c m = absurd (Memᴰ.not-nil m)

pub computed : (c : Case) → c ∈ cases → Computes c
unfolding compute
computed = row (refl, refl) (row refl (row refl (row refl (row refl (row refl (row refl (row refl (row refl (row refl none_left)))))))))

pub meets : (f : Judging) (g : Answering) → Tabled f → AnswersTabled g → (c : Case) → Computes c → Meets f g c
unfolding Meets Computes
meets f g s r (judged d c reply) h = λ t l. (row_replied d c t (s d c t)).0 ∙ ap (judge_of d c) l ∙ h
meets f g s r (answered d t reply after) h = let k = row_kept d t (r d [] t) in (k.0 ∙ h.0, k.1 ∙ h.1)

pub cases_hold : (f : Judging) (g : Answering) → Tabled f → AnswersTabled g → CasesHold f g
cases_hold f g s r c m = meets f g s r c (computed c m)
