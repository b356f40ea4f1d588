-- "That any two replies allowed by a promise coincide is a proved fact": for every public function, over its contract itself.
-- `Reads.Post` is what the checker reads of a function's contract: of the lifetimes, the arguments, the answer, and the parameters at exit.
use Rattle.std.specs.Prelude.{ℕ, ◌≡◌, List}
use Rattle.std.specs.Borrow.{MutBor}
use Rattle.judging.proofs.judge.Reads as judging-judge
use Rattle.judging.proofs.answers.Reads as judging-answers
use Rattle.verdict.proofs.judge_sound.Reads as verdict-judge-sound
use Rattle.lines.proofs.line_follows.Reads as lines-line-follows
use Rattle.lines.proofs.line.Line.at.Reads as lines-line-at
use Rattle.evaluation.proofs.answer_in.Reads as evaluation-answer-in
use Rattle.evaluation.proofs.PolicyAt.answer_at.Reads as evaluation-answer-at
use Rattle.evaluation.proofs.PolicyAt.known.Reads as evaluation-known
use Rattle.evaluation.proofs.last_of.Reads as evaluation-last-of
use Rattle.evaluation.proofs.word_of.Reads as evaluation-word-of
use Rattle.evaluation.proofs.widen.Reads as evaluation-widen
use Rattle.evaluation.proofs.PolicyAt.rounds_at.Reads as evaluation-rounds-at
use Rattle.evaluation.proofs.PolicyAt.answers.Reads as evaluation-answers
use Rattle.evaluation.proofs.PolicyAt.own_answers.Reads as evaluation-own-answers
use Rattle.certificate.proofs.certificate.Reads as certificate-certificate
use Rattle.dossier.proofs.dossier.Reads as dossier-dossier
use Rattle.certificate.proofs.LineItem.read.Reads as certificate-line
use Rattle.dossier.proofs.ClauseItem.read.Reads as dossier-clause
use Rattle.dossier.proofs.MarkedItem.read.Reads as dossier-marked
use Rattle.dossier.proofs.EntryItem.read.Reads as dossier-entry
use Rattle.promise.proofs.word.Reads as promise-word
use Rattle.promise.proofs.clause_at.Reads as promise-clause-at
use Rattle.promise.proofs.marked_at.Reads as promise-marked-at
use Rattle.promise.proofs.entry_at.Reads as promise-entry-at
use Rattle.promise.proofs.literal_at.Reads as promise-literal-at
use Rattle.promise.proofs.line_at.Reads as promise-line-at
use Rattle.promise.proofs.data_count.Reads as promise-data-count
use Rattle.promise.proofs.after_literals.Reads as promise-after-literals
use Rattle.promise.proofs.ClauseAtThing.next_at.Reads as promise-clause
use Rattle.promise.proofs.MarkedAtThing.next_at.Reads as promise-marked
use Rattle.promise.proofs.EntryAtThing.next_at.Reads as promise-entry
use Rattle.promise.proofs.LineAtThing.next_at.Reads as promise-line
use Rattle.promise.proofs.SignFromUsize.from.Reads as promise-sign
use Rattle.promise.proofs.value_at.Reads as promise-value-at
use Rattle.promise.proofs.starts.Reads as promise-starts
use Rattle.promise.proofs.same_words.Reads as promise-same-words
use Rattle.promise.proofs.same_said.Reads as promise-same-said
use Rattle.words.proofs.word_in.Reads as words-word-in
use Rattle.words.proofs.rising_words.Reads as words-rising-words
use Rattle.words.proofs.list_at.Reads as words-list-at
use Rattle.words.proofs.at_word.Reads as words-at-word
use Rattle.words.proofs.at_end.Reads as words-at-end
use Rattle.words.proofs.section_after.Reads as words-section-after
use Rattle.words.proofs.last_section.Reads as words-last-section
use Rattle.reply.proofs.U16FromFault.from.Reads as reply-number
use Rattle.reply.proofs.FaultTells.of.Reads as reply-fault-of
use Rattle.reply.proofs.U16Tells.of.Reads as reply-number-of
use Rattle.reply.proofs.shown.Reads as reply-shown
use Rattle.text.proofs.split.Reads as text-split
use Rattle.text.proofs.words.Reads as text-words
use Rattle.text.proofs.reply_text.Reads as text-reply-text
use Rattle.text.proofs.line.Reads as text-line
use Rattle.text.proofs.input_line.Reads as text-input-line
use Rattle.text.proofs.word_at.Reads as text-word-at
use Rattle.text.proofs.write.Reads as text-write
use Rattle.text.proofs.digits.Reads as text-digits
use Rattle.printed.proofs.papers_line.Reads as printed-papers-line
use Rattle.printed.proofs.papers_at.Reads as printed-papers-at
use Rattle.printed.proofs.stdin_line.Reads as printed-stdin-line
use Rattle.printed.proofs.answers_line.Reads as printed-answers-line
use Rattle.printed.proofs.rounds_line.Reads as printed-rounds-line
use Rattle.printed.proofs.shown_line.Reads as printed-shown-line

-- two answers to the same arguments that the promise allows are one
abbrev pub OneReply : {K A X E : Type 0} → (K → A → X → E → Type 0) → Type 0
OneReply {K} {A} {X} {E} Post = (κs : K) (a : A) (x y : X) (e f : E) → Post κs a x e → Post κs a y f → x ≡ y

-- what `of` gives of two such answers is one
abbrev pub OneOf : {K A X E B : Type 0} → (X → B) → (K → A → X → E → Type 0) → Type 0
OneOf {K} {A} {X} {E} of Post = (κs : K) (a : A) (x y : X) (e f : E) → Post κs a x e → Post κs a y f → of x ≡ of y

-- and a lent table then holds the same words: `table` finds it among the parameters at exit
abbrev pub OneTable : {K A X E : Type 0} → (E → MutBor (List ℕ)) → (K → A → X → E → Type 0) → Type 0
OneTable {K} {A} {X} {E} table Post = (κs : K) (a : A) (x y : X) (e f : E) → Post κs a x e → Post κs a y f → (table e).now ≡ (table f).now

pub record NoSlack : Type 2 where
  -- judging
  pub judge : OneReply judging-judge.Post
  pub judge_table : OneTable (λ e. e.1.1.0) judging-judge.Post
  pub answers : OneReply judging-answers.Post
  pub answers_table : OneTable (λ e. e.1.0) judging-answers.Post
  -- verdict, lines
  pub judge_sound : OneReply verdict-judge-sound.Post
  pub judge_sound_table : OneTable (λ e. e.1.1.1.1.0) verdict-judge-sound.Post
  pub line_follows : OneReply lines-line-follows.Post
  pub line_seen : OneReply lines-line-at.Post
  -- evaluation
  pub answer_in : OneReply evaluation-answer-in.Post
  pub answer_at : OneReply evaluation-answer-at.Post
  pub known : OneReply evaluation-known.Post
  pub last_of : OneReply evaluation-last-of.Post
  pub word_of : OneReply evaluation-word-of.Post
  pub widen_table : OneTable (λ e. e.1.0) evaluation-widen.Post
  pub rounds_table : OneTable (λ e. e.1.1.0) evaluation-rounds-at.Post
  pub answered_table : OneTable (λ e. e.1.1.0) evaluation-answers.Post
  pub own_answers : OneReply evaluation-own-answers.Post
  pub own_answers_table : OneTable (λ e. e.1.1.0) evaluation-own-answers.Post
  -- certificate, dossier
  pub certificate : OneReply certificate-certificate.Post
  pub dossier : OneReply dossier-dossier.Post
  pub line_read : OneReply certificate-line.Post
  pub clause_read : OneReply dossier-clause.Post
  pub marked_read : OneReply dossier-marked.Post
  pub entry_read : OneReply dossier-entry.Post
  -- promise
  pub word : OneReply promise-word.Post
  pub clause_at : OneReply promise-clause-at.Post
  pub marked_at : OneReply promise-marked-at.Post
  pub entry_at : OneReply promise-entry-at.Post
  pub literal_at : OneReply promise-literal-at.Post
  pub line_at : OneReply promise-line-at.Post
  pub data_count : OneReply promise-data-count.Post
  pub after_literals : OneReply promise-after-literals.Post
  pub clause_ends : OneReply promise-clause.Post
  pub marked_ends : OneReply promise-marked.Post
  pub entry_ends : OneReply promise-entry.Post
  pub line_ends : OneReply promise-line.Post
  pub sign : OneReply promise-sign.Post
  pub same_words : OneReply promise-same-words.Post
  pub same_said : OneReply promise-same-said.Post
  -- and of any kind of thing, and of any values
  pub starts_table : (T : _) (laws : _) (thing : _) (dict : _) → OneTable (λ e. e.1.1.0) (promise-starts.Post T laws thing dict)
  pub value_at : (V : _) (laws : _) (value : _) (plain : _) (copy : _) (valuation : _) (dict : _) (clone : _) (clone_dict : _) → OneReply (promise-value-at.Post V laws value plain copy valuation dict clone clone_dict)
  -- words, whatever a refusal tells by
  pub word_in : (W : _) (laws : _) (copy : _) (tells : _) (dict : _) (clone : _) (clone_dict : _) → OneReply (words-word-in.Post W laws copy tells dict clone clone_dict)
  pub rising_words : (W : _) (laws : _) (copy : _) (tells : _) (dict : _) (clone : _) (clone_dict : _) → OneReply (words-rising-words.Post W laws copy tells dict clone clone_dict)
  pub list_at : (W : _) (laws : _) (copy : _) (tells : _) (dict : _) (clone : _) (clone_dict : _) → OneReply (words-list-at.Post W laws copy tells dict clone clone_dict)
  pub at_word : (W : _) (laws : _) → OneReply (words-at-word.Post W laws)
  pub at_end : (W : _) (laws : _) (copy : _) (tells : _) (dict : _) (clone : _) (clone_dict : _) → OneReply (words-at-end.Post W laws copy tells dict clone clone_dict)
  -- and of any kind of item
  pub section_after : (T : _) (laws : _) (item : _) (dict : _) → OneReply (words-section-after.Post T laws item dict)
  pub last_section : (T : _) (laws : _) (item : _) (dict : _) → OneReply (words-last-section.Post T laws item dict)
  -- reply: a fault's number, and what tells it; the words that are shown, and their place in memory
  pub number : OneReply reply-number.Post
  pub fault_told : OneReply reply-fault-of.Post
  pub number_told : OneReply reply-number-of.Post
  pub shown_words : OneOf (λ x. x.now) reply-shown.Post
  pub shown_place : OneOf (λ x. x.ref_ptr) reply-shown.Post
  -- text
  pub split : OneReply text-split.Post
  pub words_table : OneTable (λ e. e.1.0) text-words.Post
  pub reply_text : OneReply text-reply-text.Post
  pub reply_text_table : OneTable (λ e. e.1.0) text-reply-text.Post
  pub line : OneReply text-line.Post
  pub line_table : OneTable (λ e. e.1.0) text-line.Post
  pub input_line : OneReply text-input-line.Post
  pub input_line_table : OneTable (λ e. e.0) text-input-line.Post
  pub text_word : OneReply text-word-at.Post
  pub write : OneReply text-write.Post
  pub write_table : OneTable (λ e. e.1.0) text-write.Post
  pub digits : OneReply text-digits.Post
  pub digits_table : OneTable (λ e. e.1.1.0) text-digits.Post
  -- printed
  pub papers_line : OneReply printed-papers-line.Post
  pub papers_line_table : OneTable (λ e. e.1.1.0) printed-papers-line.Post
  pub papers_at : OneReply printed-papers-at.Post
  pub papers_at_table : OneTable (λ e. e.1.1.1.1.0) printed-papers-at.Post
  pub stdin_line : OneReply printed-stdin-line.Post
  pub stdin_line_table : OneTable (λ e. e.1.1.0) printed-stdin-line.Post
  pub stdin_words : OneTable (λ e. e.1.0) printed-stdin-line.Post
  pub answers_line : OneReply printed-answers-line.Post
  pub answers_line_table : OneTable (λ e. e.1.1.0) printed-answers-line.Post
  pub answers_line_answers : OneTable (λ e. e.1.0) printed-answers-line.Post
  pub rounds_line : OneReply printed-rounds-line.Post
  pub rounds_line_table : OneTable (λ e. e.1.1.1.0) printed-rounds-line.Post
  pub rounds_line_rounds : OneTable (λ e. e.1.1.0) printed-rounds-line.Post
  pub shown_line : OneReply printed-shown-line.Post
  pub shown_line_table : OneTable (λ e. e.1.1.1.1.1.0) printed-shown-line.Post
