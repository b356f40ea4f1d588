-- The theorem of specs/NoSlack.antt, under its name in small letters.
use mathlib.Core.Path.{◌≡◌, sym, ap, ap₂, ◌∙◌}
use mathlib.Core.List.{[]}
use Rattle.judging.proofs.Table.{row_replied, row_kept}
use Rattle.reply.specs.declared.Fault.{Fault}
use Rattle.reply.specs.Numbers.{number, fault_of, fault_number}
use Rattle.slack.specs.NoSlack.{NoSlack}

-- what equals one value is one
one : {A : Type 0} {v r q : A} → r ≡ v → q ≡ v → r ≡ q
one e f = e ∙ sym f

-- two faults with one number are one
one_fault : (f g : Fault) → number f ≡ number g → f ≡ g
one_fault f g e = sym (fault_number f) ∙ ap fault_of e ∙ fault_number g

pub no_slack : NoSlack
no_slack =
    record {
      judge = λ κs a x y e f p q. one (row_replied _ _ _ p).0 (row_replied _ _ _ q).0;
      judge_table = λ κs a x y e f p q. one (row_replied _ _ _ p).1 (row_replied _ _ _ q).1;
      answers = λ κs a x y e f p q. one (row_kept _ _ (p [])).0 (row_kept _ _ (q [])).0;
      answers_table = λ κs a x y e f p q. one (row_kept _ _ (p [])).1 (row_kept _ _ (q [])).1;
      judge_sound = λ κs a x y e f p q. one p.reply q.reply;
      judge_sound_table = λ κs a x y e f p q. one p.table q.table;
      line_follows = λ κs a x y e f p q. one p q;
      line_seen = λ κs a x y e f p q. one p q;
      answer_in = λ κs a x y e f p q. one p q;
      answer_at = λ κs a x y e f p q. one p q;
      known = λ κs a x y e f p q. one p q;
      last_of = λ κs a x y e f p q. one p q;
      word_of = λ κs a x y e f p q. one p q;
      widen_table = λ κs a x y e f p q. one p q;
      rounds_table = λ κs a x y e f p q. one p q;
      answered_table = λ κs a x y e f p q. one p q;
      own_answers = λ κs a x y e f p q. one p.1 q.1;
      own_answers_table = λ κs a x y e f p q. one p.0 q.0;
      certificate = λ κs a x y e f p q. one p q;
      dossier = λ κs a x y e f p q. one p q;
      line_read = λ κs a x y e f p q. one p.0 q.0;
      clause_read = λ κs a x y e f p q. one p.0 q.0;
      marked_read = λ κs a x y e f p q. one p.0 q.0;
      entry_read = λ κs a x y e f p q. one p.0 q.0;
      word = λ κs a x y e f p q. one p.0 q.0;
      clause_at = λ κs a x y e f p q. one p q;
      marked_at = λ κs a x y e f p q. one p q;
      entry_at = λ κs a x y e f p q. one p q;
      literal_at = λ κs a x y e f p q. one p q;
      line_at = λ κs a x y e f p q. one p q;
      data_count = λ κs a x y e f p q. one p.0 q.0;
      after_literals = λ κs a x y e f p q. one p q;
      clause_ends = λ κs a x y e f p q. one p q;
      marked_ends = λ κs a x y e f p q. one p q;
      entry_ends = λ κs a x y e f p q. one p q;
      line_ends = λ κs a x y e f p q. one p q;
      sign = λ κs a x y e f p q. one p q;
      same_words = λ κs a x y e f p q. one p q;
      same_said = λ κs a x y e f p q. one p q;
      starts_table = λ T laws thing dict κs a x y e f p q. one p q;
      value_at = λ V laws value plain copy valuation dict clone clone_dict κs a x y e f p q. ap₂ (λ u v. (u, v)) (one p.0 q.0) (one p.1 q.1);
      word_in = λ W laws copy tells dict clone clone_dict κs a x y e f p q. one p.0 q.0;
      rising_words = λ W laws copy tells dict clone clone_dict κs a x y e f p q. one p q;
      list_at = λ W laws copy tells dict clone clone_dict κs a x y e f p q. one p q;
      at_word = λ W laws κs a x y e f p q. one p q;
      at_end = λ W laws copy tells dict clone clone_dict κs a x y e f p q. one p q;
      section_after = λ T laws item dict κs a x y e f p q. one p.0 q.0;
      last_section = λ T laws item dict κs a x y e f p q. one p q;
      number = λ κs a x y e f p q. one p q;
      fault_told = λ κs a x y e f p q. one_fault x y (one p q);
      number_told = λ κs a x y e f p q. one p q;
      shown_words = λ κs a x y e f p q. one p.0 q.0;
      shown_place = λ κs a x y e f p q. one p.1 q.1;
      split = λ κs a x y e f p q. one p q;
      words_table = λ κs a x y e f p q. one p q;
      reply_text = λ κs a x y e f p q. one p.1 q.1;
      reply_text_table = λ κs a x y e f p q. one p.0 q.0;
      line = λ κs a x y e f p q. one p.1 q.1;
      line_table = λ κs a x y e f p q. one p.0 q.0;
      input_line = λ κs a x y e f p q. one p.1 q.1;
      input_line_table = λ κs a x y e f p q. one p.0 q.0;
      text_word = λ κs a x y e f p q. one p.0 q.0;
      write = λ κs a x y e f p q. one p.1 q.1;
      write_table = λ κs a x y e f p q. one p.0 q.0;
      digits = λ κs a x y e f p q. one p.1 q.1;
      digits_table = λ κs a x y e f p q. one p.0 q.0;
      papers_line = λ κs a x y e f p q. one p.1 q.1;
      papers_line_table = λ κs a x y e f p q. one p.0 q.0;
      papers_at = λ κs a x y e f p q. one p.1 q.1;
      papers_at_table = λ κs a x y e f p q. one p.0 q.0;
      stdin_line = λ κs a x y e f p q. one p.1 q.1;
      stdin_line_table = λ κs a x y e f p q. one p.0 q.0;
      stdin_words = λ κs a x y e f p q. one p.2 q.2;
      answers_line = λ κs a x y e f p q. one p.1 q.1;
      answers_line_table = λ κs a x y e f p q. one p.0 q.0;
      answers_line_answers = λ κs a x y e f p q. one p.2 q.2;
      rounds_line = λ κs a x y e f p q. one p.1 q.1;
      rounds_line_table = λ κs a x y e f p q. one p.0 q.0;
      rounds_line_rounds = λ κs a x y e f p q. one p.2 q.2;
      shown_line = λ κs a x y e f p q. one p.1 q.1;
      shown_line_table = λ κs a x y e f p q. one p.0 q.0;
    }
