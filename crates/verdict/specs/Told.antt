-- The reply for an outcome, what the lent table then holds, and what judging needs to have been found.
use Rattle.std.specs.Prelude.{ℕ, ◌-◌, ◌<◌, ◌≤◌, ◌≡◌, List, length, get_or}
use Rattle.std.proofs.Math.Option.{Option, none, some}
use Rattle.meaning.specs.Policy.{Policy}
use Rattle.meaning.specs.Papers as papers
use Rattle.meaning.specs.Verdict.{Outcome, opaque, detectable, probe_differs, secret_kept, line_fails, last_not_empty, about, round_in}
use Rattle.promise.specs.Layout.{dossier_at}
use Rattle.promise.specs.Place.{place, filled}
use Rattle.promise.specs.Thing.{entry_next, line_next}
use Rattle.promise.specs.declared.Layout.{Layout}
use Rattle.promise.specs.declared.Proposal.{Proposal}
use Rattle.promise.specs.declared.Proposal.TheVariants.{Witness, Proof}
use Rattle.reply.specs.Answer.{accepted, refused}
use Rattle.reply.specs.declared.Paper.{Paper}
use Rattle.reply.specs.declared.Paper.TheVariants.{Dossier, Certificate}
use Rattle.reply.specs.declared.Reply.{Reply}
use Rattle.reply.specs.declared.Verdict.TheVariants.{Opaque, Detectable}
use Rattle.evaluation.specs.Answer.{answer_word}

-- the refusal that shows the whole of the thing at p, after which comes the next
unfoldable pub showing : ℕ → Paper → (List ℕ → ℕ → ℕ) → List ℕ → ℕ → Reply
showing e paper next ws p = refused e paper p (next ws p - p)

-- 14 "that probe in the dossier", 15 "the secret in the dossier", 16 and 17 "that line"; d and c are the papers' words, and a proof has k lines
unfoldable pub reply_at : List ℕ → Layout → List ℕ → ℕ → Outcome → Reply
reply_at d o c k opaque = accepted Opaque
reply_at d o c k detectable = accepted Detectable
reply_at d o c k (probe_differs j) = showing 14 Dossier entry_next d (place (entry_next d) o.probes j)
reply_at d o c k secret_kept = showing 15 Dossier entry_next d o.secret
reply_at d o c k (line_fails j) = showing 16 Certificate line_next c (place (line_next c) 2 j)
reply_at d o c k last_not_empty = showing 17 Certificate line_next c (place (line_next c) 2 (k - 1))

-- The lent table t after an outcome (request A5), n being the number of atoms: "On 14 and 15 the words 0 to n - 1 of the lent table become these numbers"; "words beyond
-- n stay. Every other reply leaves the table untouched."
unfoldable pub numbered : ℕ → papers.Dossier → Policy → Option papers.Entry → List ℕ → List ℕ
numbered n D W none t = t
numbered n D W (some e) t = filled (round_in D W e) n t

unfoldable pub rounds_at : ℕ → papers.Dossier → papers.Certificate → Outcome → List ℕ → List ℕ
rounds_at n D (papers.witness W) x t = numbered n D W (about D x) t
rounds_at n D (papers.proof lines) x t = t

-- r is the reply for the outcome x on the certificate C, and the lent table, which held t, then holds u
pub record Says (d : List ℕ) (o : Layout) (c : List ℕ) (k : ℕ) (C : papers.Certificate) (x : Outcome) (t : List ℕ) (r : Reply) (u : List ℕ) : Type 0 where
  pub reply : r ≡ reply_at d o c k x
  pub table : u ≡ rounds_at o.atoms (dossier_at d o) C x t

-- how many clauses a witness has, or lines a proof
abbrev pub size_of : Proposal → ℕ
size_of (Witness k) = k
size_of (Proof k) = k

-- a table that has the policy's answer to each probe
pub record Told (d : List ℕ) (o : Layout) (told : List ℕ) : Type 0 where
  pub long : o.nprobes ≤ length told
  pub each : (j : ℕ) → j < o.nprobes → get_or told j 0 ≡ answer_word d o j
