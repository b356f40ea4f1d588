-- That whatever keeps to the table meets demands 2 and 3 (`table_enough`): an acceptance is that of its row, and what a row says is what is replied.
use Prim.Native.Nat.{ℕ, ◌≤◌}
use mathlib.Core.Path.{◌≡◌, refl, sym, ap, subst}
use mathlib.Core.List.Memᴰ
use mathlib.Core.List.{List, []}
use mathlib.Core.Bool.{Bool, true, false}
use mathlib.Core.Logic.{◌↔◌}
use native.Mathlib.Omega.{arith}
use lib.ListN.{length, length-append}
use Rattle.meaning.specs.Tests.{◌∈◌}
use Rattle.meaning.specs.Policy.{Policy}
use Rattle.meaning.specs.Formula.{Given, joined}
use Rattle.meaning.specs.Papers.{Entry, Dossier, policy, answer, Line, Certificate, witness, proof}
use Rattle.meaning.specs.Verdict.{opaque, detectable, tried, round_in, WitnessAccepted, ProofAccepted}
use Rattle.meaning.specs.Demands.{Witnesses, Proves, When}
use Rattle.meaning.specs.Extends.{Extends, WellNamed}
use Rattle.meaning.proofs.Tests.{clash, named_is}
use Rattle.meaning.proofs.Truth.{yes_tested}
use Rattle.meaning.proofs.Demands as decoded
use Rattle.promise.specs.Code.{bit, code_dossier, code_certificate}
use Rattle.promise.specs.Form.{DossierForm, CertificateForm}
use Rattle.dossier.proofs.Promise.{dossier_once}
use Rattle.certificate.proofs.Promise.{certificate_once, certificate_more}
use Rattle.reply.specs.declared.Reply.{Reply}
use Rattle.reply.specs.declared.Verdict as said
use Rattle.reply.specs.declared.Verdict.TheVariants as verdict
use Rattle.evaluation.proofs.Enough.{enough}
use Rattle.judging.specs.Table.{SoundFor, Long, Row, word_to}
use Rattle.judging.specs.Entries.{Judging}
use Rattle.judging.specs.Demands.{Tabled, Accepts, Demand2, Demand3, TableEnough, AnswersMeant, RoundsMeant}
use Rattle.judging.proofs.Table.{one_row}

-- ---- what a row with a verdict shows, for the words of a sound dossier D and the words c

module _ (D : Dossier) (form : DossierForm D) (c : List ℕ) where
  Shows : said.Verdict → Type 0
  Shows verdict.Opaque = (W : Policy) × (c ≡ code_certificate (witness W)) × SoundFor D (witness W) × Witnesses D W
  Shows verdict.Detectable = (ls : List Line) × (c ≡ code_certificate (proof ls)) × SoundFor D (proof ls) × Proves D ls
  Shows (verdict.Refused e) = Unit {0}

  row_shows : (t : List ℕ) (r : Reply) (us u : List ℕ) → Row (code_dossier D) c t r us u → Shows r.verdict
  unfolding Shows
  row_shows t r us u (Row.in_dossier s) = tt
  row_shows t r us u (Row.in_certificate E e f s) = tt
  row_shows t r us u (Row.short E C b l) = tt
  row_shows t r us u (Row.opaque E W b l w) =
      let q = dossier_once E D b.form form (sym b.dossier_words) in
      (W, b.certificate_words, subst (λ (x : Dossier). SoundFor x (witness W)) q b.sound, subst (λ (x : Dossier). Witnesses x W) q w)
  row_shows t r us u (Row.detectable E ls b l w) =
      let q = dossier_once E D b.form form (sym b.dossier_words) in
      (ls, b.certificate_words, subst (λ (x : Dossier). SoundFor x (proof ls)) q b.sound, subst (λ (x : Dossier). Proves x ls) q w)
  row_shows t r us u (Row.probe E W k x b l w h) = tt
  row_shows t r us u (Row.secret E W b l w) = tt
  row_shows t r us u (Row.line E ls k x b l w h) = tt
  row_shows t r us u (Row.last E ls x b l w h) = tt

-- ---- on decoded papers

-- an acceptance's row and its outcome
pub witness_row : (D : Dossier) (W : Policy) → WitnessAccepted D W ↔ Witnesses D W
unfolding When
witness_row D W = decoded.demand2 D (witness W) opaque

pub proof_row : (D : Dossier) (ls : List Line) → ProofAccepted D ls ↔ Proves D ls
unfolding When
proof_row D ls = decoded.demand2 D (proof ls) detectable

well_named : (D : Dossier) → DossierForm D → WellNamed D
unfolding WellNamed
well_named D f e (Memᴰ.head q) i m = f.secret.creds.below i (subst (λ (x : Entry). i ∈ x.creds) q m)
well_named D f e (Memᴰ.tail t) i m = (f.probes.each e t).creds.below i m

-- a certificate's soundness does not lose by more credentials, nor a witness's by fewer
module _ (D E : Dossier) (x : Extends D E) where
  more : length D.creds ≤ length E.creds
  more = omega (arith, ap length x.creds, length-append D.creds x.new_creds)

  sound_more : (C : Certificate) → SoundFor D C → SoundFor E C
  sound_more C s = subst (λ (n : ℕ). CertificateForm n (length E.creds) C) (ap length (sym x.labels)) (certificate_more.0 (length D.labels) (length D.creds) (length E.creds) C more s)

  sound_fewer : (W : Policy) → SoundFor E (witness W) → SoundFor D (witness W)
  sound_fewer W s = subst (λ (n : ℕ). CertificateForm n (length D.creds) (witness W)) (ap length x.labels) (certificate_more.1 (length E.labels) (length E.creds) (length D.creds) W s)

-- ---- the demands

module _ (f : Judging) (tabled : Tabled f) where
  -- an acceptance is that of its row
  shows : (v : said.Verdict) (D : Dossier) (form : DossierForm D) (c t : List ℕ) → Accepts f v D c t → Shows D form c v
  shows v D form c t h = subst (λ (r : Reply). Shows D form c r.verdict) h (row_shows D form c t _ _ _ (tabled (code_dossier D) c t))

  -- and what a row says is what is replied
  replies : (d c t : List ℕ) (r : Reply) (us u : List ℕ) → Row d c t r us u → (f d c t).reply ≡ r
  replies d c t r us u s = (one_row.once d c t _ r _ us _ u (tabled d c t) s).0

  module _ (D : Dossier) (form : DossierForm D) (c t : List ℕ) (long : Long D t) where
    pub accepts_witness : (W : Policy) → c ≡ code_certificate (witness W) → SoundFor D (witness W) → Witnesses D W → Accepts f verdict.Opaque D c t
    accepts_witness W e s w = replies _ _ _ _ _ _ (Row.opaque D W (record { dossier_words = refl; certificate_words = e; form = form; sound = s }) long w)

    pub accepts_proof : (ls : List Line) → c ≡ code_certificate (proof ls) → SoundFor D (proof ls) → Proves D ls → Accepts f verdict.Detectable D c t
    accepts_proof ls e s w = replies _ _ _ _ _ _ (Row.detectable D ls (record { dossier_words = refl; certificate_words = e; form = form; sound = s }) long w)

  demand2 : Demand2 f
  unfolding Shows
  demand2 D C form sound t l = (
    (
      λ h. let (W, e, s, w) = shows verdict.Opaque D form _ t h in (W, certificate_once _ _ C (witness W) sound s e, w),
      λ (W, e, w). accepts_witness D form _ t l W (ap code_certificate e) (subst (SoundFor D) e sound) w,
    ),
    (
      λ h. let (ls, e, s, w) = shows verdict.Detectable D form _ t h in (ls, certificate_once _ _ C (proof ls) sound s e, w),
      λ (ls, e, w). accepts_proof D form _ t l ls (ap code_certificate e) (subst (SoundFor D) e sound) w,
    ),
  )

  demand3 : Demand3 f
  unfolding Shows
  demand3 =
      record {
        every = λ D form c t h. let (ls, e, s, w) = shows verdict.Detectable D form c t h in (decoded.demand3).every D ls ((proof_row D ls).1 w);
        proof_stays = λ D E x c t u l h.
            let (ls, e, s, w) = shows verdict.Detectable D x.before c t h in
            accepts_proof E x.after c u l ls e (sound_more D E x.extends (proof ls) s) ((proof_row E ls).0 ((decoded.demand3).proof_stays D E x.extends (well_named D x.before) ls ((proof_row D ls).1 w)));
        no_witness = λ D E x c w t u h i.
            let (ls, e, s, a) = shows verdict.Detectable D x.before c t h in
            let (W, e', s', b) = shows verdict.Opaque E x.after w u i in
            (decoded.demand3).no_witness D E x.extends (well_named D x.before) ls ((proof_row D ls).1 a) W ((witness_row E W).1 b);
        witness_stays = λ D E x q w t u l i.
            let (W, e, s, b) = shows verdict.Opaque E x.after w t i in
            accepts_witness D x.before w u l W e (sound_fewer D E x.extends W s) ((witness_row D W).0 ((decoded.demand3).witness_stays D E x.extends (well_named D x.before) q W ((witness_row E W).1 b)));
      }

pub table_enough : TableEnough
table_enough f s = (demand2 f s, demand3 f s)

-- ---- the answers

bit_yes : (b : Bool) → (bit b ≤ 1) × ((bit b ≡ 1) ↔ (b ≡ true))
bit_yes true = (omega arith, (λ e. refl, λ e. refl))
bit_yes false = (omega arith, (λ e. absurd (omega (arith, e)), λ e. clash e refl))

pub answers_meant : AnswersMeant
unfolding word_to
answers_meant D j e h =
    let y = yes_tested D (policy D) e in
    rw (named_is (λ x. answer D (policy D) x) h) ((bit_yes (answer D (policy D) e)).0, (λ i. y.1 ((bit_yes (answer D (policy D) e)).1.0 i), λ i. (bit_yes (answer D (policy D) e)).1.1 (y.0 i)))

-- ---- the rounds

pub rounds_meant : RoundsMeant
unfolding round_in Given
rounds_meant D W f g e a = ((enough.with_witness D W f g e.creds a).2, (decoded.first_rounds).holding (joined D.creds (tried D W) e.creds []) a)
