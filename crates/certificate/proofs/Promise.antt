-- The theorems of specs/Promise.antt, each under its name in small letters.
use Prim.Native.Nat.{ℕ, zero, suc, ◌<◌, ◌≤◌}
use mathlib.Core.Path.{◌≡◌, refl, sym, ◌∙◌, subst₂}
use mathlib.Core.Bool.{Bool, true, false}
use mathlib.Core.List.{List, [], ◌∷◌}
use mathlib.Core.Logic.{◌↔◌}
use native.Mathlib.Omega.{arith}
use lib.Dec.{leb}
use lib.ListN.{length}
use borrow.Author.Tests.{le-leb, lt-leb, leb-true, leb-false}
use Rattle.words.specs.Out.{Out, got, bad, then, made, after}
use Rattle.words.specs.Code.{code_many}
use Rattle.words.specs.Read.{ranged, section}
use Rattle.words.proofs.Promise.{OK, none, ok_more, ok_got, Reads, reads_as, reads_bind, reads_made, reads_ranged}
use Rattle.meaning.specs.Tests.{◌is◌, choose}
use Rattle.meaning.specs.Policy.{Policy}
use Rattle.meaning.specs.Papers.{Line, Certificate, witness, proof}
use Rattle.promise.specs.Code.{code_clause, code_line, code_certificate}
use Rattle.promise.specs.Form.{ClauseForm, SectionForm, LineForm, PartsForm, CertificateForm}
use Rattle.promise.specs.Due.{What, one, kind, InSection, InClause, InLine, InCertificate}
use Rattle.promise.specs.Table.{Wrong, CertificateRow, long, form}
use Rattle.promise.proofs.Refused.{Refuses, refuses_as, refuses_made, Seq, first, second, refuses_then, Only, only}
use Rattle.promise.proofs.Due.{refuses_ranged}
use Rattle.dossier.specs.Read.{clause, ended}
use Rattle.dossier.proofs.Items.{reads_clause}
use Rattle.dossier.proofs.Refusals.{refuses_clause}
use Rattle.dossier.proofs.Rows.{reads_part, refuses_part, ok_whole, exact_whole, refused_row, row_refused}
use Rattle.certificate.specs.Read.{line, witness_from, proof_from, proposal, certificate}
use Rattle.certificate.specs.Promise.{CertificateSound, CertificateAccepted, CertificateOnce, CertificateMore, CertificateShows, CertificateRows}
use Rattle.certificate.proofs.Lines.{reads_line}
use Rattle.certificate.proofs.Refusals.{refuses_line}

-- ---- the certificate as a reader of its own: its kind, then a witness's clauses or a proof's lines

kind_of : Certificate → ℕ
kind_of (witness W) = 1
kind_of (proof ls) = 2

clauses_of : Certificate → Policy
clauses_of (witness W) = W
clauses_of (proof ls) = []

lines_of : Certificate → List Line
lines_of (witness W) = []
lines_of (proof ls) = ls

after_kind : Certificate → List ℕ
after_kind (witness W) = code_many code_clause W
after_kind (proof ls) = code_many code_line ls

-- what is due after the kind
data FromKind (n m : ℕ) : ℕ → List ℕ → What → Type 0 where
  clauses : {us : List ℕ} {what : What} → InSection 0 128 code_clause (ClauseForm n) (InClause n) us what → FromKind n m 1 us what
  lines : {us : List ℕ} {what : What} → InSection 1 1024 code_line (LineForm n m) (InLine n m) us what → FromKind n m 2 us what

module _ (n m : ℕ) where
  by_kind : ℕ → List ℕ → ℕ → Out Certificate
  by_kind x ws p = choose (x is 1) (made witness (after (section 0 129 (clause n)) ws p)) (made proof (after (section 1 1025 (line n m)) ws p))

  parts : List ℕ → ℕ → Out Certificate
  parts ws at = then (ranged 1 3 11 ws at) (λ x p. by_kind x ws p)

  proposal_parts : (ws : List ℕ) → proposal n m ws ≡ then (parts ws 0) (λ C p. ended ws C p)
  unfolding proposal witness_from proof_from parts by_kind choose
  proposal_parts ws = go (ranged 1 3 11 ws 0)
    where
      inner : {A : Type 0} (mk : A → Certificate) (o : Out A) → then o (λ x q. ended ws (mk x) q) ≡ then (made mk o) (λ C p. ended ws C p)
      inner mk (got x q) = refl
      inner mk (bad e q w) = refl

      chosen : (b : Bool) (p : ℕ) → choose b (witness_from n ws p) (proof_from n m ws p) ≡ then (choose b (made witness (after (section 0 129 (clause n)) ws p)) (made proof (after (section 1 1025 (line n m)) ws p))) (λ C p. ended ws C p)
      chosen true p = inner witness (after (section 0 129 (clause n)) ws p)
      chosen false p = inner proof (after (section 1 1025 (line n m)) ws p)

      go : (o : Out ℕ) → then o (λ x p. choose (x is 1) (witness_from n ws p) (proof_from n m ws p)) ≡ then (then o (λ x p. by_kind x ws p)) (λ C p. ended ws C p)
      go (got x p) = chosen (x is 1) p
      go (bad e p w) = refl

  -- ---- what it accepts

  abbrev OfKind : ℕ → Certificate → Type 0
  OfKind x C = ((kind_of C ≡ x) × Unit {0}) × PartsForm n m C

  reads_witness : Reads (λ ws p. made witness (after (section 0 129 (clause n)) ws p)) after_kind (OfKind 1)
  unfolding kind_of clauses_of after_kind PartsForm
  reads_witness = reads_as (reads_made (reads_part 0 128 (reads_clause n)) witness clauses_of (λ C. kind_of C ≡ 1) (λ W f. refl) (λ W f. refl) back) same formed
    where
      other : {A : Type 0} → ◌≡◌ {A = ℕ} 2 1 → A
      other z = absurd (omega (arith, z))

      back : (C : Certificate) → kind_of C ≡ 1 → witness (clauses_of C) ≡ C
      back (witness W) z = refl
      back (proof ls) z = other z

      same : (C : Certificate) → ((kind_of C ≡ 1) × SectionForm 0 128 (ClauseForm n) (clauses_of C)) → code_many code_clause (clauses_of C) ≡ after_kind C
      same (witness W) f = refl
      same (proof ls) f = other f.0

      formed : (C : Certificate) → ((kind_of C ≡ 1) × SectionForm 0 128 (ClauseForm n) (clauses_of C)) ↔ OfKind 1 C
      formed (witness W) = (λ f. ((f.0, tt), f.1), λ f. (f.0.0, f.1))
      formed (proof ls) = (λ f. other f.0, λ f. other f.0.0)

  reads_proof : Reads (λ ws p. made proof (after (section 1 1025 (line n m)) ws p)) after_kind (OfKind 2)
  unfolding kind_of lines_of after_kind PartsForm
  reads_proof = reads_as (reads_made (reads_part 1 1024 (reads_line n m)) proof lines_of (λ C. kind_of C ≡ 2) (λ ls f. refl) (λ ls f. refl) back) same formed
    where
      other : {A : Type 0} → ◌≡◌ {A = ℕ} 1 2 → A
      other z = absurd (omega (arith, z))

      back : (C : Certificate) → kind_of C ≡ 2 → proof (lines_of C) ≡ C
      back (witness W) z = other z
      back (proof ls) z = refl

      same : (C : Certificate) → ((kind_of C ≡ 2) × SectionForm 1 1024 (LineForm n m) (lines_of C)) → code_many code_line (lines_of C) ≡ after_kind C
      same (witness W) f = other f.0
      same (proof ls) f = refl

      formed : (C : Certificate) → ((kind_of C ≡ 2) × SectionForm 1 1024 (LineForm n m) (lines_of C)) ↔ OfKind 2 C
      formed (witness W) = (λ f. other f.0, λ f. other f.0.0)
      formed (proof ls) = (λ f. ((f.0, tt), f.1), λ f. (f.0.0, f.1))

  reads_kind : (x : ℕ) → (1 ≤ x) × (x < 3) → Reads (by_kind x) after_kind (OfKind x)
  unfolding by_kind choose ◌is◌
  reads_kind zero f = absurd (omega (arith, f.0))
  reads_kind (suc zero) f = reads_witness
  reads_kind (suc (suc zero)) f = reads_proof
  reads_kind (suc (suc (suc x))) f = absurd (omega (arith, f.1))

  reads_parts : Reads parts code_certificate (PartsForm n m)
  unfolding parts kind_of after_kind code_certificate
  reads_parts = reads_as (reads_bind (reads_ranged 1 3 11) {code_c = λ x C. after_kind C} {Keep = λ C. Unit {0}} {FormC = λ x C. PartsForm n m C} kind_of reads_kind) (λ C f. same C) (λ C. (λ f. f.1.1, λ f. (tt, (known C, f))))
    where
      same : (C : Certificate) → kind_of C ∷ after_kind C ≡ code_certificate C
      same (witness W) = refl
      same (proof ls) = refl

      known : (C : Certificate) → (1 ≤ kind_of C) × (kind_of C < 3)
      known (witness W) = (omega arith, omega arith)
      known (proof ls) = (omega arith, omega arith)

  -- ---- when it refuses

  refuses_kind : Refuses (ranged 1 3 11) (Only (one kind))
  refuses_kind = refuses_ranged (record { row = λ x f. Wrong.no_kind (λ z. f (omega (arith, z)) (omega (arith, z))) (λ z. f (omega (arith, z)) (omega (arith, z))); only = only' })
    where
      only' : (x k : ℕ) → Wrong kind x k → (k ≡ 11) × (1 ≤ x → x < 3 → ⊥)
      only' x k (Wrong.no_kind f g) = (refl, λ a b. omega (arith, f, g))

  refuses_rest : (x : ℕ) → (1 ≤ x) × (x < 3) → Refuses (by_kind x) (FromKind n m x)
  unfolding by_kind choose ◌is◌
  refuses_rest zero f = absurd (omega (arith, f.0))
  refuses_rest (suc zero) f = refuses_as (refuses_made (refuses_part 0 128 (reads_clause n) (refuses_clause n)) (λ ws at. witness)) (λ us what d. clauses d) from
    where
      from : (us : List ℕ) (what : What) → FromKind n m 1 us what → InSection 0 128 code_clause (ClauseForm n) (InClause n) us what
      from us what (clauses d) = d
  refuses_rest (suc (suc zero)) f = refuses_as (refuses_made (refuses_part 1 1024 (reads_line n m) (refuses_line n m)) (λ ws at. proof)) (λ us what d. lines d) from
    where
      from : (us : List ℕ) (what : What) → FromKind n m 2 us what → InSection 1 1024 code_line (LineForm n m) (InLine n m) us what
      from us what (lines d) = d
  refuses_rest (suc (suc (suc x))) f = absurd (omega (arith, f.1))

  refuses_parts : Refuses parts (InCertificate n m)
  unfolding parts
  refuses_parts = refuses_as (refuses_then {f = λ x q ws p. _} (reads_ranged 1 3 11) refuses_kind (λ x q f. refuses_rest x f)) to from
    where
      to : (us : List ℕ) (what : What) → Seq (Only (one kind)) (λ x. x ∷ []) (λ x. (1 ≤ x) × (x < 3)) (FromKind n m) us what → InCertificate n m us what
      to us what (first only) = InCertificate.kind
      to us what (second x f (clauses d)) = InCertificate.witness d
      to us what (second x f (lines d)) = InCertificate.proof d

      from : (us : List ℕ) (what : What) → InCertificate n m us what → Seq (Only (one kind)) (λ x. x ∷ []) (λ x. (1 ≤ x) × (x < 3)) (FromKind n m) us what
      from us what InCertificate.kind = first only
      from us what (InCertificate.witness d) = second 1 (omega arith, omega arith) (clauses d)
      from us what (InCertificate.proof d) = second 2 (omega arith, omega arith) (lines d)

  -- ---- at most 24,000 words

  ok_proposal : (ws : List ℕ) → OK (λ C q. (ws ≡ code_certificate C) × PartsForm n m C) (proposal n m ws)
  ok_proposal ws = rw (proposal_parts ws) (ok_whole reads_parts ws)

  ok_certificate : (ws : List ℕ) → OK (λ C q. (ws ≡ code_certificate C) × CertificateForm n m C) (certificate n m ws)
  unfolding certificate choose
  ok_certificate ws = go (leb (length ws) 24000) refl
    where
      go : (b : Bool) → leb (length ws) 24000 ≡ b → OK (λ C q. (ws ≡ code_certificate C) × CertificateForm n m C) (choose b (proposal n m ws) (bad 10 0 0))
      go true e = ok_more (ok_proposal ws) (λ C q s. (s.0, record { parts = s.1; short = rw (← s.0) (leb-true _ _ e) }))
      go false e = none

pub certificate_sound : CertificateSound
certificate_sound n m ws C p e = ok_got (ok_certificate n m ws) e

pub certificate_accepted : CertificateAccepted
unfolding certificate choose
certificate_accepted n m C f = simp (le-leb _ _ f.short) (proposal_parts n m (code_certificate C) ∙ exact_whole (reads_parts n m) C f.parts)

pub certificate_once : CertificateOnce
certificate_once n m C E f g e =
    let a : certificate n m (code_certificate C) ≡ got C (length (code_certificate C)) = certificate_accepted n m C f in
    let b : certificate n m (code_certificate E) ≡ got E (length (code_certificate E)) = certificate_accepted n m E g in
    cc

-- ---- more credentials

module _ (n m k : ℕ) (h : m ≤ k) where
  line_more : (l : Line) → LineForm n m l → LineForm n k l
  line_more l f =
      record {
        few = f.few;
        literals = record {
          each = λ x i.
              let s = f.literals.each x i in
              record { creds = record { few = s.creds.few; rising = s.creds.rising; below = λ c j. omega (arith, s.creds.below c j) }; atoms = s.atoms; atom = s.atom };
          apart = f.literals.apart;
        };
      }

  parts_more : (C : Certificate) → PartsForm n m C → PartsForm n k C
  unfolding PartsForm
  parts_more (witness W) f = f
  parts_more (proof ls) f = record { least = f.least; most = f.most; each = λ l i. line_more l (f.each l i) }

pub certificate_more : CertificateMore
unfolding PartsForm
certificate_more = (
  λ n m k C h f. record { parts = parts_more n m k h C f.parts; short = f.short },
  λ n m k W f. record { parts = f.parts; short = f.short },
)

-- ---- the rows

pub certificate_shows : CertificateShows
unfolding certificate choose
certificate_shows n m ws e p w = go (leb (length ws) 24000) refl
  where
    go : (b : Bool) → leb (length ws) 24000 ≡ b → choose b (proposal n m ws) (bad 10 0 0) ≡ bad e p w → (us : List ℕ) × CertificateRow n m ws e p us × (w ≡ length us)
    go false l q =
        let a : 10 ≡ e = cc in
        let b : 0 ≡ p = cc in
        let c : w ≡ 0 = cc in
        ([], subst₂ (λ (i j : ℕ). CertificateRow n m ws i j []) a b (long (leb-false _ _ l)), c)
    go true l q = let (us, r, c) = refused_row (reads_parts n m) (refuses_parts n m) ws (sym (proposal_parts n m ws) ∙ q) in (us, form (leb-true _ _ l) r, c)

pub certificate_rows : CertificateRows
unfolding certificate choose
certificate_rows n m ws e p us (long h) = simp (lt-leb _ _ h)
certificate_rows n m ws e p us (form h r) = simp (le-leb _ _ h) (proposal_parts n m ws ∙ row_refused (reads_parts n m) (refuses_parts n m) ws r)
