-- The theorem of specs/Promised.antt: `promised`.
use Prim.Native.Nat.{ℕ}
use mathlib.Core.Path.{refl, sym, ◌∙◌, subst}
use mathlib.Core.List.{List, []}
use denote.Ref.{Bor}
use denote.MutBor.{MutBor}
use Rattle.reply.specs.Shown.{shown_of, shown_by}
use Rattle.judging.specs.Entries.{Judging, Answering}
use Rattle.judging.specs.Table.{Row, AnswersRow}
use Rattle.judging.specs.Demands.{Tabled, AnswersTabled}
use Rattle.judging.proofs.Table.{the_judge, the_answers, judge_tabled, answers_tabled, row_replied, row_kept}
use Rattle.judging.proofs.Demands.{table_enough}
use Rattle.judging.proofs.Cases.{cases_hold}
use Rattle.judging.proofs.Grown.{not_empty}
use Rattle.slack.specs.Promised.{Keeps, KeepsAnswers, Promised}

-- words, lent
lends : List ℕ → Bor (List ℕ)
lends ws = record { ref_ptr = (0, 0); now = ws }

-- and a table, lent
lends_table : List ℕ → MutBor (List ℕ)
lends_table ws = record { ref_ptr = (0, 0); ghost_name = 0; now = ws }

keeps_tabled : (f : Judging) → Keeps f → Tabled f
unfolding lends lends_table
keeps_tabled f k d c t = k ([], ([], ([], tt))) (lends d, (lends c, (lends_table t, tt))) (lends d, (lends c, (lends_table (f d c t).table, tt))) refl

keeps_answers : (g : Answering) → KeepsAnswers g → AnswersTabled g
unfolding lends lends_table
keeps_answers g k d c t = k ([], ([], tt)) (lends d, (lends_table t, tt)) (lends d, (lends_table (g d t).table, tt)) refl c

-- and what keeps to the table keeps the contract
tabled_keeps : (f : Judging) → Tabled f → Keeps f
tabled_keeps f s κs a e h = subst (λ (u : List ℕ). Row a.0.now a.1.0.now a.1.1.0.now (f a.0.now a.1.0.now a.1.1.0.now).reply (shown_of a.0.now a.1.0.now (f a.0.now a.1.0.now a.1.1.0.now).reply) u) (sym h) (s _ _ _)

answers_keeps : (g : Answering) → AnswersTabled g → KeepsAnswers g
answers_keeps g s κs a e h c = subst (λ (u : List ℕ). AnswersRow a.0.now a.1.0.now (g a.0.now a.1.0.now).reply (shown_by a.0.now c (g a.0.now a.1.0.now).reply) u) (sym h) (s _ c _)

pub promised : Promised
promised =
    record {
      table = λ f. (keeps_tabled f, tabled_keeps f);
      answers_table = λ g. (keeps_answers g, answers_keeps g);
      demands = λ f g k j.
          let s = keeps_tabled f k in
          let r = keeps_answers g j in
          let (two, three) = table_enough f s in
          (record { judge = s; answers = r }, two, three, cases_hold f g s r, not_empty f s);
      unaltered = record { judge = λ κs a ws. (refl, refl); answers = λ κs a ws. refl; shown = λ κs a ws. (refl, refl) };
      judge = (the_judge, tabled_keeps the_judge judge_tabled);
      judge_only = λ f k κs a x e p.
          let here = row_replied _ _ _ p in
          let its = row_replied _ _ _ (keeps_tabled f k a.0.now a.1.0.now a.1.1.0.now) in
          (here.0 ∙ sym its.0, here.1 ∙ sym its.1);
      answers = (the_answers, answers_keeps the_answers answers_tabled);
      answers_only = λ g k κs a x e p.
          let here = row_kept _ _ (p []) in
          let its = row_kept _ _ (keeps_answers g k a.0.now [] a.1.0.now) in
          (here.0 ∙ sym its.0, here.1 ∙ sym its.1);
    }
