-- The customer's demands, of all that the entries' contracts allow. `Reads.Post` is what the checker reads of a contract: of the lifetimes, the arguments, the answer, and the
-- parameters at exit. proofs/Promised.antt has the theorem, `promised`.
use Rattle.std.specs.Prelude.{ℕ, ◌≡◌, List, ◌↔◌}
use contract.Lifetimes.{Lfts}
use Rattle.std.specs.Borrow.{MutBor}
use denote.Triple.Clauses.{Lasts, at_exit}
use denote.Triple.Entry.{Args}
use Rattle.judging.specs.Cases.{CasesHold}
use Rattle.judging.specs.Demands.{Tabled, AnswersTabled, Demand1, Demand2, Demand3}
use Rattle.judging.specs.Entries.{Gives, Judging, Answering}
use Rattle.judging.specs.Grown.{NotEmpty}
use Rattle.judging.specs.contracts.judge as judging-judge
use Rattle.judging.specs.contracts.answers as judging-answers
use Rattle.judging.proofs.judge.Reads as judge-contract
use Rattle.judging.proofs.answers.Reads as answers-contract
use Rattle.reply.specs.contracts.shown as reply-shown

-- the contract allows what `of` gives of the arguments: its reply, where the lent table then holds its table
abbrev pub Allows : {K A X E : Type 0} → (A → Gives X) → (E → MutBor (List ℕ)) → (K → A → X → E → Type 0) → Type 0
Allows {K} {A} {X} {E} of table Post = (κs : K) (a : A) (e : E) → (table e).now ≡ (of a).table → Post κs a (of a).reply e

-- and nothing else
abbrev pub AllowsOnly : {K A X E : Type 0} → (A → Gives X) → (E → MutBor (List ℕ)) → (K → A → X → E → Type 0) → Type 0
AllowsOnly {K} {A} {X} {E} of table Post = (κs : K) (a : A) (x : X) (e : E) → Post κs a x e → (x ≡ (of a).reply) × ((table e).now ≡ (of a).table)

-- everything that f gives is what the contract of `judge` allows, and so for `answers`
abbrev pub Keeps : Judging → Type 0
Keeps f = Allows (λ a. f a.0.now a.1.0.now a.1.1.0.now) (λ e. e.1.1.0) judge-contract.Post

abbrev pub KeepsAnswers : Answering → Type 0
KeepsAnswers g = Allows (λ a. g a.0.now a.1.0.now) (λ e. e.1.0) answers-contract.Post

-- "Neither paper is altered": what is lent for reading is at exit, as every contract sees it, what was passed, at its place and with its words, whatever is then in a lent table (ws).
pub record Unaltered : Type 0 where
  pub judge : (κs : Lfts 3) (a : Args judging-judge.signature κs) (ws : Lasts judging-judge.ended κs a)
      → ((at_exit judging-judge.ended κs a ws).0 ≡ a.0) × ((at_exit judging-judge.ended κs a ws).1.0 ≡ a.1.0)
  pub answers : (κs : Lfts 2) (a : Args judging-answers.signature κs) (ws : Lasts judging-answers.ended κs a) → (at_exit judging-answers.ended κs a ws).0 ≡ a.0
  pub shown : (κs : Lfts 1) (a : Args reply-shown.signature κs) (ws : Lasts reply-shown.ended κs a)
      → ((at_exit reply-shown.ended κs a ws).0 ≡ a.0) × ((at_exit reply-shown.ended κs a ws).1.0 ≡ a.1.0)

pub record Promised : Type 0 where
  -- the contracts are the table
  pub table : (f : Judging) → Keeps f ↔ Tabled f
  pub answers_table : (g : Answering) → KeepsAnswers g ↔ AnswersTabled g
  -- whatever keeps them meets the demands and the cases, and demand 3 is about something
  pub demands : (f : Judging) (g : Answering) → Keeps f → KeepsAnswers g → Demand1 f g × Demand2 f × Demand3 f × CasesHold f g × NotEmpty f
  pub unaltered : Unaltered
  -- there is such a judge, and the contracts allow nothing else than what it gives
  pub judge : (f : Judging) × Keeps f
  pub judge_only : (f : Judging) → Keeps f → AllowsOnly (λ a. f a.0.now a.1.0.now a.1.1.0.now) (λ e. e.1.1.0) judge-contract.Post
  pub answers : (g : Answering) × KeepsAnswers g
  pub answers_only : (g : Answering) → KeepsAnswers g → AllowsOnly (λ a. g a.0.now a.1.0.now) (λ e. e.1.0) answers-contract.Post
