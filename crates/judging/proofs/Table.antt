-- The table's rows: `one_row`, `tables_kept`, `numbers`; what keeps to them, and what the code computes.
use Prim.Native.Nat.{ℕ, ◌-◌, ◌<◌, ◌≤◌}
use mathlib.Core.Path.{◌≡◌, refl, sym, ap, ap₂, ◌∙◌, subst, subst₂}
use mathlib.Core.List.{List, []}
use mathlib.Core.Option.{Option, some, some-injective, none-ne-some}
use native.Mathlib.Omega.{arith}
use lib.ListN.{length}
use lib.Dec.{leb}
use borrow.Author.Tests.{le-leb, lt-leb, leb-true, leb-false}
use mathlib.Core.Bool.{Bool, true, false}
use Rattle.meaning.specs.Tests.{choose}
use Rattle.words.specs.Out.{Out, got, bad}
use Rattle.meaning.specs.Papers as papers
use Rattle.meaning.specs.Papers.{witness, proof}
use Rattle.meaning.specs.Verdict as meant
use Rattle.meaning.specs.Verdict.{about}
use Rattle.meaning.specs.Demands.{When}
use Rattle.meaning.proofs.Demands as shown
use Rattle.meaning.proofs.Tests.{below_at}
use Rattle.promise.specs.Code.{code_dossier, code_certificate}
use Rattle.promise.specs.Form.{DossierForm, PartsForm}
use Rattle.promise.specs.Layout.{layout_of, proposal_of}
use Rattle.promise.specs.Place.{Kind}
use Rattle.promise.specs.Line.{line}
use Rattle.promise.proofs.Table.{Shows, row_shows, certificate_shows_lem}
use Rattle.dossier.specs.Read.{dossier}
use Rattle.dossier.proofs.Promise.{dossier_sound, dossier_accepted, dossier_shows, dossier_rows}
use Rattle.certificate.specs.Read.{certificate}
use Rattle.certificate.proofs.Promise.{certificate_sound, certificate_accepted, certificate_shows, certificate_rows}
use Rattle.reply.specs.Answer.{number_of, refused}
use Rattle.reply.specs.Part.{part_of}
use Rattle.reply.specs.Shown.{shown_of, shown_by}
use Rattle.reply.specs.declared.Paper.{Paper}
use Rattle.reply.specs.declared.Paper.TheVariants.{Dossier, Certificate}
use Rattle.reply.specs.declared.Reply.{Reply}
use Rattle.reply.proofs.Part.{fits}
use Rattle.verdict.specs.Told.{showing, reply_at, numbered, rounds_at, size_of}
use Rattle.judging.specs.Judge.{judge_of}
use Rattle.judging.specs.Rounds.{rounds_after}
use Rattle.judging.specs.Answers.{count_of, table_of, answers_of, table_after}
use Rattle.judging.specs.Table.{Both, Long, Row, AnswersRow}
use Rattle.judging.specs.Entries.{Judging, Answering}
use Rattle.judging.specs.Demands.{Tabled, AnswersTabled, OneRow, TablesKept, Numbers}
use Rattle.judging.proofs.Judged.{Replied, Kept, ByProposal, judge_refused, by_dossier, proposal_refused, proposal_short, proposal_meant, answers_refused}
use Rattle.judging.proofs.Shows.{Stands, entries, probe_stands, secret_stands, line_stands}
use Rattle.std.specs.Prelude.{Result, Err}

-- ---- a table of rows, each of which says what is answered, what is shown for it and what the lent table then holds, where all rows that apply give the same answer and table

module _ {X : Type 0} (Says : X → List ℕ → List ℕ → Type 0) (show : X → List ℕ) (answer : X) (table : List ℕ) (gives : (x : X) (us u : List ℕ) → Says x us u → ((x ≡ answer) × (u ≡ table)) × (us ≡ show x)) where
  says_once : (x y : X) (us vs u v : List ℕ) → Says x us u → Says y vs v → (x ≡ y) × (us ≡ vs) × (u ≡ v)
  says_once x y us vs u v m n =
      let (k, w) = gives x us u m in
      let (l, z) = gives y vs v n in
      let e = k.0 ∙ sym l.0 in
      (e, w ∙ ap show e ∙ sym z, k.1 ∙ sym l.1)

  -- if some row applies, it applies to that answer and table
  says_so : (x : X) × ((us : List ℕ) × ((u : List ℕ) × Says x us u)) → {r : X} {u : List ℕ} → (r ≡ answer) × (u ≡ table) → Says r (show r) u
  says_so (x, (us, (v, s))) {r} {u} h =
      let (k, w) = gives x us v s in
      let e = k.0 ∙ sym h.0 in
      subst (λ (y : List ℕ). Says r (show r) y) (k.1 ∙ sym h.1) (subst₂ (λ (y : X) (z : List ℕ). Says y z v) e (w ∙ ap show e) s)

-- ---- the rows of form

shown_part : {ws : List ℕ} {e p : ℕ} {us : List ℕ} → Shows ws e p us → us ≡ part_of ws p (length us)
shown_part {ws} {p = p} {us} s = sym (fits ws p (length us) s.inside ∙ s.words)

sound_read : (d : List ℕ) (D : papers.Dossier) → d ≡ code_dossier D → DossierForm D → dossier d ≡ got D (length (code_dossier D))
sound_read d D e f = ap dossier e ∙ dossier_accepted D f

-- ---- the rows of meaning

-- a thing that stands there is what the refusal shows
module _ (number : ℕ) (paper : Paper) where
  refused_at : {A : Type 0} (K : Kind A) (ws : List ℕ) (p there : ℕ) (code : List ℕ) → Stands K ws p there code → refused number paper p (K.next ws p - p) ≡ refused number paper there (length code)
  refused_at K ws p there code s = ap₂ (refused number paper) s.place s.size

-- a number that lies in the table; 18 is for a table of fewer words than 64
InTable : List ℕ → ℕ → Type 0
InTable t k = (1 ≤ k) × (k ≤ 18) × (64 ≤ length t → k ≤ 17)

of_number : (t : List ℕ) {e k : ℕ} → some e ≡ some k → 1 ≤ e → e ≤ 17 → InTable t k
unfolding InTable
of_number t {e} {k} q a b = let z : e ≡ k = some-injective e k q in (omega arith, omega arith, λ _. omega arith)

of_short : (t : List ℕ) {k : ℕ} → some 18 ≡ some k → length t < 64 → InTable t k
unfolding InTable
of_short t {k} q h = let z : 18 ≡ k = some-injective 18 k q in (omega arith, omega arith, λ l. absurd (omega arith))

-- the judge's reply is r, what is shown for it is us, and the table, which held t, then holds u
abbrev Gives : List ℕ → List ℕ → List ℕ → Reply → List ℕ → List ℕ → Type 0
Gives d c t r us u = Replied d c t r u × (us ≡ shown_of d c r)

-- the reply for an outcome, of the words of sound papers
abbrev reply_to : papers.Dossier → papers.Certificate → meant.Outcome → Reply
reply_to D C o = reply_at (code_dossier D) (layout_of D) (code_certificate C) (size_of (proposal_of C)) o

module _ {d c : List ℕ} {D : papers.Dossier} {C : papers.Certificate} (b : Both d c D C) (t : List ℕ) where
  -- the dossier is read, then the certificate
  by_both : {r : Reply} {u : List ℕ} → ((q : ℕ) → ByProposal d D c t (got C q) r u) → Replied d c t r u
  by_both {r} {u} h =
      by_dossier d c t D (length (code_dossier D)) (sound_read d D b.dossier_words b.form)
      (subst (λ (x : Out papers.Certificate). ByProposal d D c t x r u) (sym (ap (certificate (length D.labels) (length D.creds)) b.certificate_words ∙ certificate_accepted (length D.labels) (length D.creds) C b.sound)) (h _))

  shown_for : (r : Reply) {us : List ℕ} → shown_of (code_dossier D) (code_certificate C) r ≡ us → us ≡ shown_of d c r
  shown_for r h = sym h ∙ ap₂ (λ (x y : List ℕ). shown_of x y r) (sym b.dossier_words) (sym b.certificate_words)

  gives_short : length t < length D.labels → Gives d c t (refused 18 Dossier 0 0) [] t
  unfolding shown_of
  gives_short l = (by_both (λ q. proposal_short d D c t C q l refl), sym (fits d 0 0 (omega arith)))

  gives : Long D t → (o : meant.Outcome) → When D C o → {r : Reply} {us u : List ℕ} → reply_to D C o ≡ r → shown_of (code_dossier D) (code_certificate C) r ≡ us → rounds_at (length D.labels) D C o t ≡ u → Gives d c t r us u
  gives l o w {r} {us} {u} e h z =
      let is = (shown.demand2 D C o).1 w in (
        by_both (λ q. proposal_meant d D c t C q l
            (sym e ∙ ap₂ (λ (x y : List ℕ). reply_at x (layout_of D) y (size_of (proposal_of C)) o) (sym b.dossier_words) (sym b.certificate_words) ∙ ap (reply_at d (layout_of D) c (size_of (proposal_of C))) (sym is))
            (sym z ∙ ap (λ (x : meant.Outcome). rounds_at (length D.labels) D C x t) (sym is))),
        shown_for r h,
      )

module _ (d c t : List ℕ) where
  row_gives : (r : Reply) (us u : List ℕ) → Row d c t r us u → Gives d c t r us u
  unfolding shown_of reply_at showing layout_of proposal_of rounds_at numbered about When
  row_gives r us u (Row.in_dossier s) = (judge_refused d c t (dossier_rows d _ _ us s) refl, shown_part (row_shows s))
  row_gives r us u (Row.in_certificate D e f s) = (
    by_dossier d c t D _ (sound_read d D e f) (subst (λ (x : Out papers.Certificate). ByProposal d D c t x r t) (sym (certificate_rows _ _ c _ _ us s)) (proposal_refused d D c t refl)),
    shown_part (certificate_shows_lem s),
  )
  row_gives r us u (Row.short D C b l) = gives_short b t (omega arith)
  row_gives r us u (Row.opaque D W b l w) = gives b t l meant.opaque w refl (fits _ 0 0 (omega arith)) refl
  row_gives r us u (Row.detectable D ls b l w) = gives b t l meant.detectable w refl (fits _ 0 0 (omega arith)) refl
  row_gives r us u (Row.probe D W k e b l w h) =
      let s = probe_stands D b.form k e h in
      gives b t l (meant.probe_differs k) w (refused_at 14 Dossier (entries D b.form) _ _ _ _ s) s.shown (ap (λ (x : Option papers.Entry). numbered (length D.labels) D W x t) h)
  row_gives r us u (Row.secret D W b l w) = let s = secret_stands D b.form in gives b t l meant.secret_kept w (refused_at 15 Dossier (entries D b.form) _ _ _ _ s) s.shown refl
  row_gives r us u (Row.line D ls k x b l w h) = let s = line_stands D ls b.sound k x h in gives b t l (meant.line_fails k) w (refused_at 16 Certificate line _ _ _ _ s) s.shown refl
  row_gives r us u (Row.last D ls x b l w h) = let s = line_stands D ls b.sound (length ls - 1) x h in gives b t l meant.last_not_empty w (refused_at 17 Certificate line _ _ _ _ s) s.shown refl

  -- ---- some row applies

  abbrev Applies : Type 0
  Applies = (r : Reply) × ((us : List ℕ) × ((u : List ℕ) × Row d c t r us u))

  by_meaning : (D : papers.Dossier) (C : papers.Certificate) → Both d c D C → Long D t → (o : meant.Outcome) → When D C o → Applies
  unfolding When PartsForm
  by_meaning D (witness W) b l meant.opaque w = (_, (_, (_, Row.opaque D W b l w)))
  by_meaning D (witness W) b l (meant.probe_differs k) w = let (e, h, n) = w.here in (_, (_, (_, Row.probe D W k e b l w h)))
  by_meaning D (witness W) b l meant.secret_kept w = (_, (_, (_, Row.secret D W b l w)))
  by_meaning D (witness W) b l meant.detectable w = absurd w
  by_meaning D (witness W) b l (meant.line_fails k) w = absurd w
  by_meaning D (witness W) b l meant.last_not_empty w = absurd w
  by_meaning D (proof ls) b l meant.detectable w = (_, (_, (_, Row.detectable D ls b l w)))
  by_meaning D (proof ls) b l (meant.line_fails k) w = let (x, h) = below_at ls k w.here.0 in (_, (_, (_, Row.line D ls k x b l w h)))
  by_meaning D (proof ls) b l meant.last_not_empty w = let (x, h) = below_at ls (length ls - 1) (omega (arith, b.sound.parts.least)) in (_, (_, (_, Row.last D ls x b l w h)))
  by_meaning D (proof ls) b l meant.opaque w = absurd w
  by_meaning D (proof ls) b l (meant.probe_differs k) w = absurd w
  by_meaning D (proof ls) b l meant.secret_kept w = absurd w

  by_length : (D : papers.Dossier) (C : papers.Certificate) → Both d c D C → (b : Bool) → leb (length D.labels) (length t) ≡ b → Applies
  by_length D C b true q = by_meaning D C b (leb-true _ _ q) (meant.judge D C) ((shown.demand2 D C (meant.judge D C)).0 refl)
  by_length D C b false q = (_, (_, (_, Row.short D C b (omega (arith, leb-false (length D.labels) (length t) q)))))

  by_certificate : (D : papers.Dossier) (q : ℕ) → dossier d ≡ got D q → (out : Out papers.Certificate) → certificate (length D.labels) (length D.creds) c ≡ out → Applies
  by_certificate D q h (got C m) e =
      let s = dossier_sound d D q h in
      let z = certificate_sound (length D.labels) (length D.creds) c C m e in
      by_length D C (record { dossier_words = s.0; certificate_words = z.0; form = s.1; sound = z.1 }) (leb (length D.labels) (length t)) refl
  by_certificate D q h (bad e p w) g = let (us, r, z) = certificate_shows (length D.labels) (length D.creds) c e p w g in let s = dossier_sound d D q h in (_, (us, (_, Row.in_certificate D s.0 s.1 r)))

  by_words : (out : Out papers.Dossier) → dossier d ≡ out → Applies
  by_words (got D q) e = by_certificate D q e (certificate (length D.labels) (length D.creds) c) refl
  by_words (bad e p w) g = let (us, s, z) = dossier_shows d e p w g in (_, (us, (_, Row.in_dossier s)))

  -- what the code has found to be the judge's reply and table is what the row says
  pub replied_row : {r : Reply} {u : List ℕ} → Replied d c t r u → Row d c t r (shown_of d c r) u
  replied_row = says_so (Row d c t) (shown_of d c) _ _ row_gives (by_words (dossier d) refl)

  pub row_replied : {r : Reply} {us u : List ℕ} → Row d c t r us u → Replied d c t r u
  row_replied s = (row_gives _ _ _ s).0

  -- ---- its number is in the table

  row_number : (r : Reply) (us u : List ℕ) → Row d c t r us u → (k : ℕ) → number_of r.verdict ≡ some k → InTable t k
  row_number r us u (Row.in_dossier s) k e = let n = row_shows s in of_number t e n.least (omega (arith, n.most))
  row_number r us u (Row.in_certificate D h f s) k e = let n = certificate_shows_lem s in of_number t e n.least (omega (arith, n.most))
  row_number r us u (Row.short D C b l) k e = of_short t e (omega (arith, b.form.labels.few))
  row_number r us u (Row.opaque D W b l w) k e = absurd (none-ne-some k e)
  row_number r us u (Row.detectable D ls b l w) k e = absurd (none-ne-some k e)
  row_number r us u (Row.probe D W j x b l w h) k e = of_number t e (omega arith) (omega arith)
  row_number r us u (Row.secret D W b l w) k e = of_number t e (omega arith) (omega arith)
  row_number r us u (Row.line D ls j x b l w h) k e = of_number t e (omega arith) (omega arith)
  row_number r us u (Row.last D ls x b l w h) k e = of_number t e (omega arith) (omega arith)

  row_leaves : (r : Reply) (us u : List ℕ) → Row d c t r us u → (number_of r.verdict ≡ some 14 → ⊥) → (number_of r.verdict ≡ some 15 → ⊥) → u ≡ t
  row_leaves r us u (Row.in_dossier s) p q = refl
  row_leaves r us u (Row.in_certificate D h f s) p q = refl
  row_leaves r us u (Row.short D C b l) p q = refl
  row_leaves r us u (Row.opaque D W b l w) p q = refl
  row_leaves r us u (Row.detectable D ls b l w) p q = refl
  row_leaves r us u (Row.probe D W j x b l w h) p q = absurd (p refl)
  row_leaves r us u (Row.secret D W b l w) p q = absurd (q refl)
  row_leaves r us u (Row.line D ls j x b l w h) p q = refl
  row_leaves r us u (Row.last D ls x b l w h) p q = refl

-- ---- the answers entry

module _ (d t : List ℕ) where
  -- with the dossier D read
  kept_read : (D : papers.Dossier) → d ≡ code_dossier D → DossierForm D → {r : Result ℕ Reply} {u : List ℕ} → (r ≡ count_of (got D (length (code_dossier D))) t) × (u ≡ table_of (got D (length (code_dossier D))) t) → Kept d t r u
  unfolding answers_of table_after
  kept_read D e f h = rw (sound_read d D e f) h

  answers_give : (c : List ℕ) (r : Result ℕ Reply) (us u : List ℕ) → AnswersRow d t r us u → Kept d t r u × (us ≡ shown_by d c r)
  unfolding count_of table_of choose shown_of
  answers_give c r us u (AnswersRow.form s) = (answers_refused d t (dossier_rows d _ _ us s) refl, shown_part (row_shows s))
  answers_give c r us u (AnswersRow.short D e f l) = (kept_read D e f (rw (lt-leb _ _ l) (refl, refl)), sym (fits d 0 0 (omega arith)))
  answers_give c r us u (AnswersRow.count D e f l) = (kept_read D e f (rw (le-leb _ _ l) (refl, refl)), refl)

  abbrev AnswersApplies : Type 0
  AnswersApplies = (r : Result ℕ Reply) × ((us : List ℕ) × ((u : List ℕ) × AnswersRow d t r us u))

  by_room : (D : papers.Dossier) → d ≡ code_dossier D → DossierForm D → (b : Bool) → leb (length D.probes) (length t) ≡ b → AnswersApplies
  by_room D e f true q = (_, (_, (_, AnswersRow.count D e f (leb-true _ _ q))))
  by_room D e f false q = (_, (_, (_, AnswersRow.short D e f (leb-false _ _ q))))

  by_form : (out : Out papers.Dossier) → dossier d ≡ out → AnswersApplies
  by_form (got D q) e = let s = dossier_sound d D q e in by_room D s.0 s.1 (leb (length D.probes) (length t)) refl
  by_form (bad e p w) g = let (us, s, z) = dossier_shows d e p w g in (_, (us, (_, AnswersRow.form s)))

  -- what the code has found to be the entry's answer and table is what the row says
  pub kept_row : (c : List ℕ) {r : Result ℕ Reply} {u : List ℕ} → Kept d t r u → AnswersRow d t r (shown_by d c r) u
  kept_row c = says_so (AnswersRow d t) (shown_by d c) _ _ (answers_give c) (by_form (dossier d) refl)

  pub row_kept : {r : Result ℕ Reply} {us u : List ℕ} → AnswersRow d t r us u → Kept d t r u
  row_kept s = (answers_give [] _ _ _ s).0

  answers_number : (r : Reply) (us u : List ℕ) → AnswersRow d t (Err r) us u → (k : ℕ) → number_of r.verdict ≡ some k → (1 ≤ k) × (k ≤ 18)
  answers_number r us u s = go (Err r) us u s refl
    where
      -- the number of the refusal that the row has
      told : {n p w : ℕ} → ◌≡◌ {A = Result ℕ Reply} (Err (refused n Dossier p w)) (Err r) → {k : ℕ} → number_of r.verdict ≡ some k → n ≡ k
      told {n} {p} {w} e {k} h = let z : refused n Dossier p w ≡ r = cc in some-injective n k (ap (λ (x : Reply). number_of x.verdict) z ∙ h)

      go : (q : Result ℕ Reply) (us u : List ℕ) → AnswersRow d t q us u → q ≡ Err r → (k : ℕ) → number_of r.verdict ≡ some k → (1 ≤ k) × (k ≤ 18)
      go q us u (AnswersRow.form f) e k h = let n = row_shows f in let z = told e h in (omega (arith, n.least), omega (arith, n.most))
      go q us u (AnswersRow.short D w f l) e k h = let z = told e h in (omega arith, omega arith)
      go q us u (AnswersRow.count D w f l) e k h = absurd (let z : ◌≡◌ {A = ℕ} 0 1 = cc in omega arith)

  answers_leave : (q : Result ℕ Reply) (us u : List ℕ) → AnswersRow d t q us u → {r : Reply} → q ≡ Err r → u ≡ t
  answers_leave q us u (AnswersRow.form f) e = refl
  answers_leave q us u (AnswersRow.short D w f l) e = refl
  answers_leave q us u (AnswersRow.count D w f l) e = absurd (let z : ◌≡◌ {A = ℕ} 0 1 = cc in omega arith)

pub one_row : OneRow
one_row =
    record {
      some = λ d c t. by_words d c t (dossier d) refl;
      once = λ d c t. says_once (Row d c t) (shown_of d c) _ _ (row_gives d c t);
      answers_some = λ d t. by_form d t (dossier d) refl;
      answers_once = λ d t. says_once (AnswersRow d t) (shown_by d []) _ _ (answers_give d t []);
    }

pub tables_kept : TablesKept
tables_kept = record { judge = row_leaves; answers = λ d t r us u s. answers_leave d t (Err r) us u s refl }

pub numbers : Numbers
unfolding InTable
numbers = record { judge = row_number; answers = answers_number }

-- ---- what the entries give

unfoldable pub the_judge : Judging
the_judge d c t = record { reply = judge_of d c (length t); table = rounds_after d c t }

unfoldable pub the_answers : Answering
the_answers d t = record { reply = answers_of d t; table = table_after d t }

pub judge_tabled : Tabled the_judge
unfolding the_judge
judge_tabled d c t = replied_row d c t (refl, refl)

pub answers_tabled : AnswersTabled the_answers
unfolding the_answers
answers_tabled d c t = kept_row d t c (refl, refl)
