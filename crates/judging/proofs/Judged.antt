-- From the code's findings to the replies of the two entries.
use Prim.Native.Nat.{ℕ, ◌<◌, ◌≤◌}
use mathlib.Core.Path.{◌≡◌, refl, sym, ap, ap₂, ◌∙◌, subst}
use mathlib.Core.List.{List, ◌++◌}
use mathlib.Core.Option.{Option}
use native.Mathlib.Omega.{arith}
use lib.ListN.{length, drop}
use borrow.Author.Tests.{le-leb, lt-leb}
use Rattle.words.specs.Out.{Out, got, bad}
use Rattle.meaning.specs.Tests.{at, named, choose}
use Rattle.meaning.specs.Papers.{Dossier, Certificate, Entry, policy, answer}
use Rattle.meaning.specs.Verdict as meant
use Rattle.promise.specs.Code.{bit}
use Rattle.promise.specs.Place.{filled, rows}
use Rattle.promise.specs.Formula.{entry}
use Rattle.promise.specs.Layout.{layout_of, proposal_of, dossier_at, certificate_at}
use Rattle.promise.specs.declared.Layout.{Layout}
use Rattle.promise.specs.declared.Proposal.{Proposal}
use Rattle.promise.proofs.Place.{many_at, rows_same}
use Rattle.dossier.specs.Read.{dossier}
use Rattle.certificate.specs.Read.{certificate}
use Rattle.reply.specs.Answer.{refused}
use Rattle.reply.specs.declared.Paper.TheVariants as paper
use Rattle.reply.specs.declared.Reply.{Reply}
use Rattle.evaluation.specs.Which.{policy_at}
use Rattle.evaluation.specs.Answer.{answer_of, answer_word}
use Rattle.verdict.specs.Told.{reply_at, rounds_at, Says, size_of}
use Rattle.judging.specs.Judge.{judge_proposal, judge_read, judge_of, Sound, Offered}
use Rattle.judging.specs.Rounds.{rounds_proposal, rounds_read, rounds_after}
use Rattle.judging.specs.Table.{word_to}
use Rattle.judging.specs.Answers.{count_of, table_of, answers_of, table_after}
use Rattle.judging.proofs.Sound.{sound_paper, offered_paper, atoms_are, creds_are, probes_are}
use Rattle.std.specs.Prelude.{Result, Ok, Err}

-- ---- judge

-- r is the judge's reply, and u what the table then holds, which held t
abbrev pub Replied : List ℕ → List ℕ → List ℕ → Reply → List ℕ → Type 0
Replied d c t r u = (r ≡ judge_of d c (length t)) × (u ≡ rounds_after d c t)

pub judge_refused : (d c t : List ℕ) {e p w : ℕ} {r : Reply} → dossier d ≡ bad e p w → r ≡ refused e paper.Dossier p w → Replied d c t r t
unfolding judge_of judge_read rounds_after rounds_read
judge_refused d c t h g = (g ∙ ap (λ (x : Out Dossier). judge_read meant.judge d x c (length t)) (sym h), ap (λ (x : Out Dossier). rounds_read x c t) (sym h))

-- with the dossier D read from d, and x from c: what the judge's entry gives
abbrev pub ByProposal : List ℕ → Dossier → List ℕ → List ℕ → Out Certificate → Reply → List ℕ → Type 0
ByProposal d D c t x r u = (r ≡ judge_proposal meant.judge d D c (length t) x) × (u ≡ rounds_proposal D x t)

pub by_dossier : (d c t : List ℕ) (D : Dossier) (q : ℕ) → dossier d ≡ got D q → {r : Reply} {u : List ℕ} → ByProposal d D c t (certificate (length D.labels) (length D.creds) c) r u → Replied d c t r u
unfolding judge_of judge_read rounds_after rounds_read
by_dossier d c t D q e h = (h.0 ∙ ap (λ (x : Out Dossier). judge_read meant.judge d x c (length t)) (sym e), h.1 ∙ ap (λ (x : Out Dossier). rounds_read x c t) (sym e))

module _ (d : List ℕ) (D : Dossier) (c t : List ℕ) where
  pub proposal_refused : {e p w : ℕ} {r : Reply} → r ≡ refused e paper.Certificate p w → ByProposal d D c t (bad e p w) r t
  unfolding judge_proposal rounds_proposal
  proposal_refused g = (g, refl)

  module _ (C : Certificate) (q : ℕ) where
    pub proposal_short : length t < length D.labels → {r : Reply} → r ≡ refused 18 paper.Dossier 0 0 → ByProposal d D c t (got C q) r t
    unfolding judge_proposal rounds_proposal choose
    proposal_short h g = rw (lt-leb _ _ h) (g, refl)

    pub proposal_meant : length D.labels ≤ length t → {r : Reply} {u : List ℕ} → r ≡ reply_at d (layout_of D) c (size_of (proposal_of C)) (meant.judge D C) → u ≡ rounds_at (length D.labels) D C (meant.judge D C) t → ByProposal d D c t (got C q) r u
    unfolding judge_proposal rounds_proposal choose
    proposal_meant h g z = rw (le-leb _ _ h) (g, z)

module _ (d c t : List ℕ) (o : Layout) (s : Sound d o) where
  asked : {out : Out Certificate} → certificate o.atoms o.ncreds c ≡ out → {r : Reply} {u : List ℕ} → ByProposal d s.paper c t out r u → Replied d c t r u
  asked {out} e {r} {u} h =
      by_dossier d c t s.paper s.end s.is_read
      (subst (λ (x : Out Certificate). ByProposal d s.paper c t x r u) (sym e ∙ ap₂ (λ (n m : ℕ). certificate n m c) (atoms_are d o s) (creds_are d o s)) h)

  pub judge_unsound : {e p w : ℕ} {r : Reply} → certificate o.atoms o.ncreds c ≡ bad e p w → r ≡ refused e paper.Certificate p w → Replied d c t r t
  judge_unsound h g = asked h (proposal_refused d s.paper c t g)

  module _ (x : Proposal) (f : Offered o.atoms o.ncreds c x) where
    pub judge_short : length t < o.atoms → {r : Reply} → r ≡ refused 18 paper.Dossier 0 0 → Replied d c t r t
    judge_short h g = asked f.is_read (proposal_short d s.paper c t f.paper f.end (omega (arith, atoms_are d o s)) g)

    pub judge_meant : o.atoms ≤ length t → {r : Reply} {u : List ℕ} → Says d o c (size_of x) (certificate_at o.atoms c x) (meant.judge (dossier_at d o) (certificate_at o.atoms c x)) t r u → Replied d c t r u
    judge_meant h g =
        let D = s.paper in
        let C = f.paper in
        let same : meant.judge (dossier_at d o) (certificate_at o.atoms c x) ≡ meant.judge D C = ap₂ meant.judge (sound_paper d o s) (offered_paper o.atoms o.ncreds c x f) in
        asked f.is_read
        (proposal_meant d D c t C f.end (omega (arith, atoms_are d o s))
        (g.reply ∙ ap (reply_at d o c (size_of x)) same ∙ ap₂ (λ (y : Layout) (z : Proposal). reply_at d y c (size_of z) (meant.judge D C)) s.layout f.proposal)
        (g.table ∙ ap (λ (y : meant.Outcome). rounds_at o.atoms (dossier_at d o) (certificate_at o.atoms c x) y t) same ∙ ap₂ (λ (y : Dossier) (z : Certificate). rounds_at o.atoms y z (meant.judge D C) t) (sound_paper d o s) (offered_paper o.atoms o.ncreds c x f) ∙ ap (λ (n : ℕ). rounds_at n D C (meant.judge D C) t) (atoms_are d o s)))

-- ---- answers

-- r is what the answers entry answers, and u what the table then holds, which held t
abbrev pub Kept : List ℕ → List ℕ → Result ℕ Reply → List ℕ → Type 0
Kept d t r u = (r ≡ answers_of d t) × (u ≡ table_after d t)

pub answers_refused : (d t : List ℕ) {e p w : ℕ} {r : Reply} → dossier d ≡ bad e p w → r ≡ refused e paper.Dossier p w → Kept d t (Err r) t
unfolding answers_of table_after count_of table_of
answers_refused d t h g = (ap Err g ∙ ap (λ (x : Out Dossier). count_of x t) (sym h), ap (λ (x : Out Dossier). table_of x t) (sym h))

module _ (d t : List ℕ) (o : Layout) (s : Sound d o) where
  words_are : (j : ℕ) → j < o.nprobes → answer_word d o j ≡ word_to s.paper j
  unfolding answer_word answer_of policy_at word_to named dossier_at
  words_are j h =
      ap (λ (x : Option Entry). bit (named x (λ e. answer (dossier_at d o) (policy (dossier_at d o)) e))) (sym (many_at (entry o.atoms o.ncreds) d o.probes o.nprobes j h))
      ∙ ap (λ (y : Dossier). bit (named (at y.probes j) (λ e. answer y (policy y) e))) (sound_paper d o s)

  pub answers_short : length t < o.nprobes → {r : Reply} → r ≡ refused 18 paper.Dossier 0 0 → Kept d t (Err r) t
  unfolding answers_of table_after count_of table_of choose
  answers_short h g =
      let z : length t < length s.paper.probes = omega (arith, probes_are d o s) in
      let q = lt-leb _ _ z in
      (ap Err g ∙ sym (ap (λ (x : Out Dossier). count_of x t) s.is_read ∙ (rw q refl)), sym (ap (λ (x : Out Dossier). table_of x t) s.is_read ∙ (rw q refl)))

  pub answers_given : {u : List ℕ} → o.nprobes ≤ length t → u ≡ filled (answer_word d o) o.nprobes t → Kept d t (Ok o.nprobes) u
  unfolding answers_of table_after count_of table_of choose filled
  answers_given {u} h e =
      let z : length s.paper.probes ≤ length t = omega (arith, probes_are d o s) in
      let q = le-leb _ _ z in (
        ap Ok (probes_are d o s) ∙ sym (ap (λ (x : Out Dossier). count_of x t) s.is_read ∙ (rw q refl)),
        e ∙ ap (λ (l : List ℕ). l ++ drop o.nprobes t) (rows_same _ _ o.nprobes words_are) ∙ ap (λ (n : ℕ). rows (word_to s.paper) n ++ drop n t) (probes_are d o s)
            ∙ sym (ap (λ (x : Out Dossier). table_of x t) s.is_read ∙ (rw q refl)),
      )
