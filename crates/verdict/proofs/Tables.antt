-- The tables that judging fills: where things begin, and the policy's answers.
use Prim.Native.Nat.{ℕ, ◌≤◌}
use mathlib.Core.Path.{◌≡◌, refl, sym, ap, ◌∙◌, subst}
use mathlib.Core.List.{List}
use mathlib.Core.Option.{Option, none, some}
use native.Mathlib.Omega.{arith}
use lib.Dec.{ltb}
use lib.ListN.{length, get_or}
use mathlib.Core.Bool.{Bool, true, false}
use borrow.Author.Tests.{ltb-true, ltb-false}
use Rattle.meaning.specs.Tests.{at}
use Rattle.meaning.specs.Papers.{Entry, policy, answer, witness, proof}
use Rattle.meaning.specs.Looks.{aim}
use Rattle.meaning.specs.Verdict.{judge}
use Rattle.promise.specs.Code.{bit}
use Rattle.promise.specs.Place.{many, filled, Fit}
use Rattle.promise.specs.Formula.{entry}
use Rattle.promise.specs.Line.{line, LineFits}
use Rattle.promise.specs.Clause.{credential}
use Rattle.promise.specs.Layout.{dossier_at, Laid, certificate_at, Proposed, ClauseStarts, CredStarts, ProbeStarts}
use Rattle.promise.specs.declared.Proposal.{Proposal}
use Rattle.promise.specs.declared.Proposal.TheVariants.{Witness, Proof}
use Rattle.reply.specs.declared.Reply.{Reply}
use Rattle.promise.specs.Thing.{clause_next, ClauseOk, marked_next, MarkedOk, entry_next, EntryOk, line_next, Things}
use Rattle.promise.specs.declared.Layout.{Layout}
use Rattle.promise.proofs.Place.{filled_at, filled_length, many_at, many_past}
use Rattle.evaluation.specs.Which.{policy_at}
use Rattle.evaluation.specs.Answer.{answer_of, answer_word}
use Rattle.evaluation.specs.declared.Which.TheVariants.{Own}
use Rattle.lines.specs.Ready as rules
use Rattle.verdict.specs.Told.{reply_at, rounds_at, Says, size_of, Told}

module _ (d : List ℕ) (o : Layout) (l : Laid d o) where
  pub clauses_fit : Things marked_next MarkedOk d o.clauses o.nclauses
  unfolding Things Fit
  clauses_fit j h = (l.clauses j h).ends

  pub creds_fit : Things clause_next ClauseOk d o.creds o.ncreds
  unfolding Things Fit
  creds_fit j h = (l.creds j h).ends

  pub probes_fit : Things entry_next EntryOk d o.probes o.nprobes
  unfolding Things Fit
  probes_fit j h = (l.probes j h).ends

pub lines_fit : (s : List ℕ) (k : ℕ) → Fit line s 2 k → Things line_next LineFits s 2 k
unfolding Things Fit
lines_fit s k f j h = f j h

-- the secret's answer in the dossier's own policy is the aim, whatever the certificate
pub own_aim : (d : List ℕ) (o : Layout) (w : List ℕ) {b : Bool} → b ≡ answer_of d o w Own o.secret → b ≡ aim (dossier_at d o)
unfolding aim answer_of policy_at dossier_at
own_aim d o w e = e

-- the answers, as evaluation writes them
pub told_filled : (d : List ℕ) (o : Layout) (old : List ℕ) {t : List ℕ} → t ≡ filled (answer_word d o) o.nprobes old → o.nprobes ≤ length old → Told d o t
told_filled d o old e h =
    record {
      long = rw e (omega (arith, filled_length (answer_word d o) o.nprobes old h));
      each = λ j i. ap (λ (x : List ℕ). get_or x j 0) e ∙ filled_at (answer_word d o) o.nprobes j old i;
    }

-- what the rules stand on
module _ (d : List ℕ) (o : Layout) (table : List ℕ) (t : Told d o table) where
  entry_of_some : {x y : Entry} → some x ≡ some y → x ≡ y
  entry_of_some {x} {y} e = cc

  told_by : (j : ℕ) (e : Entry) (b : Bool) → ltb j o.nprobes ≡ b → at (dossier_at d o).probes j ≡ some e → get_or table j 0 ≡ bit (answer (dossier_at d o) (policy (dossier_at d o)) e)
  unfolding answer_word answer_of policy_at dossier_at
  told_by j e true q h =
      let i = ltb-true j o.nprobes q in
      let same = entry_of_some (sym (many_at (entry o.atoms o.ncreds) d o.probes o.nprobes j i) ∙ h) in
      t.each j i ∙ ap (λ (x : Entry). bit (answer (dossier_at d o) (policy (dossier_at d o)) x)) same
  told_by j e false q h =
      let i : o.nprobes ≤ j = omega (arith, ltb-false j o.nprobes q) in
      absurd (nothing (sym (many_past (entry o.atoms o.ncreds) d o.probes o.nprobes j i) ∙ h))
    where
      count : Option Entry → ℕ
      count none = 0
      count (some x) = 1

      nothing : none ≡ some e → ⊥
      nothing z = let w : ◌≡◌ {A = ℕ} 0 1 = ap count z in omega arith

  pub rules_ready : Laid d o → {a b c : List ℕ} → ClauseStarts d o a → CredStarts d o b → ProbeStarts d o c → {goal : Bool} → goal ≡ aim (dossier_at d o) → rules.Ready d o a b c table goal
  rules_ready l u v w g = record { laid = l; clauses = u; creds = v; probes = w; long = t.long; told = λ j e h. told_by j e (ltb j o.nprobes) refl h; aimed = g }

-- a witness's clauses and a proof's lines are there
pub witness_there : (n : ℕ) (c : List ℕ) {proposal : Proposal} {k : ℕ} → proposal ≡ Witness k → Proposed n c proposal → Fit (credential n) c 2 k
unfolding Proposed
witness_there n c e h = subst (Proposed n c) e h

pub proof_there : (n : ℕ) (c : List ℕ) {proposal : Proposal} {k : ℕ} → proposal ≡ Proof k → Proposed n c proposal → (1 ≤ k) × (k ≤ 1024) × Fit line c 2 k
unfolding Proposed
proof_there n c e h = subst (Proposed n c) e h

-- r is the reply to the proposal x, and u what the table then holds, which held t
abbrev Judged : List ℕ → Layout → List ℕ → List ℕ → Reply → List ℕ → Proposal → Type 0
Judged d o c t r u x = Says d o c (size_of x) (certificate_at o.atoms c x) (judge (dossier_at d o) (certificate_at o.atoms c x)) t r u

module _ (d : List ℕ) (o : Layout) (c : List ℕ) {proposal : Proposal} {k : ℕ} {t : List ℕ} {r : Reply} {u : List ℕ} where
  pub witness_judged : proposal ≡ Witness k → Says d o c k (witness (many (credential o.atoms) c 2 k)) (judge (dossier_at d o) (witness (many (credential o.atoms) c 2 k))) t r u → Judged d o c t r u proposal
  unfolding certificate_at
  witness_judged e g = subst (Judged d o c t r u) (sym e) g

  pub proof_judged : proposal ≡ Proof k → r ≡ reply_at d o c k (judge (dossier_at d o) (proof (many line c 2 k))) → u ≡ t → Judged d o c t r u proposal
  unfolding certificate_at rounds_at
  proof_judged e g x = subst (Judged d o c t r u) (sym e) (record { reply = g; table = x })
