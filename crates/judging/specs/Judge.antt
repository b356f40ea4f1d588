-- The judge's reply to two lists of words (01, "What the reply says").
-- "Order: the dossier's form from left to right; 10; the certificate's form from left to right; then meaning." And "18 if the table is shorter than n, after the certificate's
-- form and before its meaning" (request A5): the lent table has room for so many words, and no more of it is looked at.
use Rattle.std.specs.Prelude.{ℕ, ◌≡◌, List, leb, length}
use Rattle.words.specs.Out.{Out, got, bad}
use Rattle.meaning.specs.Tests.{choose}
use Rattle.meaning.specs.Papers as papers
use Rattle.meaning.specs.Verdict as meant
use Rattle.promise.specs.Layout.{layout_of, proposal_of}
use Rattle.promise.specs.declared.Layout.{Layout}
use Rattle.promise.specs.declared.Proposal.{Proposal}
use Rattle.dossier.specs.Read.{dossier}
use Rattle.certificate.specs.Read.{certificate}
use Rattle.reply.specs.Answer.{refused}
use Rattle.reply.specs.declared.Paper.TheVariants.{Dossier, Certificate}
use Rattle.reply.specs.declared.Reply.{Reply}
use Rattle.verdict.specs.Told.{reply_at, size_of}

-- what gives the outcome of two decoded papers
abbrev pub Judge : Type 0
Judge = papers.Dossier → papers.Certificate → meant.Outcome

-- with the dossier D read from d, and what was read from c
unfoldable pub judge_proposal : Judge → List ℕ → papers.Dossier → List ℕ → ℕ → Out papers.Certificate → Reply
judge_proposal judge d D c room (got C q) = choose (leb (length D.labels) room) (reply_at d (layout_of D) c (size_of (proposal_of C)) (judge D C)) (refused 18 Dossier 0 0)
judge_proposal judge d D c room (bad e p w) = refused e Certificate p w

-- with what was read from d
unfoldable pub judge_read : Judge → List ℕ → Out papers.Dossier → List ℕ → ℕ → Reply
judge_read judge d (got D q) c room = judge_proposal judge d D c room (certificate (length D.labels) (length D.creds) c)
judge_read judge d (bad e p w) c room = refused e Dossier p w

unfoldable pub judge_of : List ℕ → List ℕ → ℕ → Reply
judge_of d c room = judge_read meant.judge d (dossier d) c room

-- d was read as a dossier, whose sections stand as o says; c as a certificate, which proposes x
pub record Sound (d : List ℕ) (o : Layout) : Type 0 where
  pub paper : papers.Dossier
  pub end : ℕ
  pub is_read : dossier d ≡ got paper end
  pub layout : o ≡ layout_of paper

pub record Offered (n m : ℕ) (c : List ℕ) (x : Proposal) : Type 0 where
  pub paper : papers.Certificate
  pub end : ℕ
  pub is_read : certificate n m c ≡ got paper end
  pub proposal : x ≡ proposal_of paper
