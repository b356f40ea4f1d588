-- `judge_secret` meets its contract: the secret's answer in the policy tried, against its value in the dossier's.
use mathlib.Core.Path.{refl, ap, ◌∙◌}
use Rattle.promise.proofs.Step.{signs_agree, signs_differ}
use Rattle.promise.specs.Place.{filled}
use Rattle.evaluation.specs.Answer.{answer_of, round_of}
use Rattle.evaluation.specs.declared.Which.{Which}
use Rattle.verdict.proofs.Outcome.{secret_kept_lem, secret_changed}
use Rattle.verdict.proofs.Papers.{entry_ends}
use Rattle.verdict.proofs.judge_secret.Goals as goal

pub answer_at-requires : goal.answer_at-requires
answer_at-requires c = rw (← c.tried.view_is) c.tried.invariant.laid.secret

pub rounds_at-requires : goal.rounds_at-requires
rounds_at-requires c = (rw (← c.tried.view_is) c.tried.invariant.laid.secret, c.requires.1)

pub refusing-requires : goal.refusing-requires
refusing-requires c = (c.tried.invariant.laid.secret.ends, entry_ends _ _)

pub returns-then-answer_at-answered : goal.returns-then-answer_at-answered
returns-then-answer_at-answered c =
    let D = c.tried.inside in
    let on = rw (← c.tried.view_is) at c.requires.0 in
    let said = (rw (← c.tried.view_is) at c.answer_at.ensures) ∙ ap (λ (v : Which). answer_of D.words.now D.layout D.witness.now v D.layout.secret) on.tried in
    rw (← c.tried.view_is) (secret_changed D.words.now D.layout D.witness.now c.args.count said on.aimed (signs_differ _ _ c.if-answer_at-answered.true) c.accepting.ensures refl)

pub returns-else-answer_at-answered : goal.returns-else-answer_at-answered
returns-else-answer_at-answered c =
    let D = c.tried.inside in
    let on = rw (← c.tried.view_is) at c.requires.0 in
    let said = (rw (← c.tried.view_is) at c.answer_at.ensures) ∙ ap (λ (v : Which). answer_of D.words.now D.layout D.witness.now v D.layout.secret) on.tried in
    let numbers = (rw (← c.tried.view_is) at c.rounds_at.ensures) ∙ ap (λ (v : Which). filled (round_of D.words.now D.layout D.witness.now v D.layout.secret) D.layout.atoms c.args.rounds.now) on.tried in
    rw (← c.tried.view_is) (secret_kept_lem D.words.now D.layout D.witness.now c.args.count said on.aimed (signs_agree _ _ c.if-answer_at-answered.false) c.refusing.ensures numbers)
