-- The theorem of specs/Former.antt, under its name in small letters.
use mathlib.Core.Path.{◌≡◌, refl, sym, ap, ◌∙◌}
use mathlib.Core.List.{List}
use Prim.Native.Nat.{ℕ}
use lib.Dec.{leb}
use lib.ListN.{length}
use Rattle.meaning.specs.Tests.{choose}
use Rattle.words.specs.Out.{Out, got, bad}
use Rattle.meaning.specs.Papers.{Dossier, policy, Yes, Certificate}
use Rattle.meaning.specs.Verdict as meant
use Rattle.meaning.specs.Former.{former_judge}
use Rattle.meaning.proofs.Former.{true_as_before}
use Rattle.promise.specs.Code.{code_dossier}
use Rattle.promise.specs.Form.{DossierForm}
use Rattle.promise.specs.Layout.{layout_of, proposal_of}
use Rattle.dossier.specs.Read.{dossier}
use Rattle.dossier.proofs.Promise.{dossier_accepted}
use Rattle.certificate.specs.Read.{certificate}
use Rattle.reply.specs.Answer.{refused}
use Rattle.reply.specs.declared.Paper.TheVariants as paper
use Rattle.verdict.specs.Told.{reply_at, size_of}
use Rattle.judging.specs.Judge.{Judge, judge_proposal, judge_read, judge_of}
use Rattle.judging.specs.Former.{former_of, RepliesKept}
use Rattle.judging.proofs.Table.{row_replied}

-- with the dossier read: whatever was read from c
proposal_kept : (d : List ℕ) (D : Dossier) → Yes D (policy D) D.secret → (c : List ℕ) (room : ℕ) (x : Out Certificate) → judge_proposal meant.judge d D c room x ≡ judge_proposal former_judge d D c room x
unfolding judge_proposal
proposal_kept d D y c room (got C q) = ap (λ (o : meant.Outcome). choose (leb (length D.labels) room) (reply_at d (layout_of D) c (size_of (proposal_of C)) o) (refused 18 paper.Dossier 0 0)) (true_as_before D C y)
proposal_kept d D y c room (bad e p w) = refl

-- the dossier is read first, whatever judge is asked
read_by : (D : Dossier) → DossierForm D → (judge : Judge) (c : List ℕ) (room : ℕ) → judge_read judge (code_dossier D) (dossier (code_dossier D)) c room ≡ judge_proposal judge (code_dossier D) D c room (certificate (length D.labels) (length D.creds) c)
unfolding judge_read
read_by D form judge c room = ap (λ (x : Out Dossier). judge_read judge (code_dossier D) x c room) (dossier_accepted D form)

pub replies_kept : RepliesKept
unfolding judge_of former_of
replies_kept f tabled D form y c t =
    (row_replied _ c t (tabled _ c t)).0
    ∙ read_by D form meant.judge c _
    ∙ proposal_kept (code_dossier D) D y c _ (certificate (length D.labels) (length D.creds) c)
    ∙ sym (read_by D form former_judge c _)
