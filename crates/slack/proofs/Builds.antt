-- The theorem of specs/Builds.antt: `empty_builds`.
use Prim.Native.Nat.{ℕ, zero, suc, ◌≤◌}
use mathlib.Core.Path.{◌≡◌, refl, sym, ap, ap₂, ◌∙◌}
use mathlib.Core.List.Memᴰ
use mathlib.Core.List.{List, [], ◌∷◌}
use native.Mathlib.Omega.{arith}
use lib.ListN.{length, get_or, replicate}
use Rattle.words.specs.Out.{got}
use Rattle.meaning.specs.Papers.{Dossier, policy, visible, Certificate, witness, proof}
use Rattle.meaning.specs.Verdict.{Outcome, opaque, detectable, probe_differs, line_fails, tried, judge}
use Rattle.meaning.specs.Demands.{When}
use Rattle.meaning.proofs.Demands as shown
use Rattle.meaning.proofs.Demands.{not_both, witness_shows}
use Rattle.meaning.specs.Example.{t1, t2, fact_two, p}
use Rattle.meaning.proofs.Example.{witness_example}
use Rattle.meaning.proofs.Truth.{alike_tested, unlike_tested}
use Rattle.promise.specs.Code.{code_certificate}
use Rattle.dossier.specs.Read.{dossier}
use Rattle.dossier.proofs.Promise.{dossier_sound}
use Rattle.certificate.specs.Read.{certificate}
use Rattle.certificate.proofs.Promise.{certificate_sound}
use Rattle.reply.specs.Answer.{accepted}
use Rattle.reply.specs.declared.Reply.{Reply}
use Rattle.reply.specs.declared.Verdict.{Verdict}
use Rattle.reply.specs.declared.Verdict.TheVariants.{Opaque, Detectable, Refused}
use Rattle.judging.specs.Rounds.{rounds_after}
use Rattle.judging.specs.Answers.{answers_of, table_after}
use Rattle.judging.specs.Cases.{T1, T2, P, Meets}
use Rattle.judging.specs.Demands.{Accepts, Demand2}
use Rattle.judging.specs.Entries.{Judging}
use Rattle.judging.specs.Table.{Both}
use Rattle.judging.proofs.Cases.{compute}
use Rattle.judging.proofs.Table.{row_replied, row_kept}
use Rattle.slack.specs.Builds.{EarlierSave, EmptyBuilds}
use Rattle.std.specs.Prelude.{Result, Ok, Err}

-- ---- what the definitions compute

three_answered : (answers_of T1 (7 ∷ 7 ∷ 7 ∷ []) ≡ Ok 2) × (table_after T1 (7 ∷ 7 ∷ 7 ∷ []) ≡ (1 ∷ 0 ∷ 7 ∷ []))
unfolding compute
three_answered = (refl, refl)

-- T2 has one probe
one_answer : answers_of T2 (7 ∷ []) ≡ Ok 1
unfolding compute
one_answer = refl

-- ---- the papers, decoded

decoded : (d c : List ℕ) (D : Dossier) (C : Certificate) {k j : ℕ} → dossier d ≡ got D k → certificate (length D.labels) (length D.creds) c ≡ got C j → Both d c D C
decoded d c D C {k} {j} e f =
    let a = dossier_sound d D k e in
    let b = certificate_sound (length D.labels) (length D.creds) c C j f in
    record { dossier_words = a.0; certificate_words = b.0; form = a.1; sound = b.1 }

t1_two : Both T1 (1 ∷ 1 ∷ 2 ∷ 0 ∷ []) t1 (witness fact_two)
unfolding compute
t1_two = decoded T1 _ t1 (witness fact_two) refl refl

t1_none : Both T1 (1 ∷ 0 ∷ []) t1 (witness [])
unfolding compute
t1_none = decoded T1 _ t1 (witness []) refl refl

t2_two : Both T2 (1 ∷ 1 ∷ 2 ∷ 0 ∷ []) t2 (witness fact_two)
unfolding compute
t2_two = decoded T2 _ t2 (witness fact_two) refl refl

t2_p : Both T2 P t2 (proof p)
unfolding compute
t2_p = decoded T2 P t2 (proof p) refl refl

-- a table of 64 words
lent : List ℕ
lent = replicate 64 0

-- ---- what the builds find in them

none_differs : EarlierSave t1 []
unfolding compute
none_differs e (Memᴰ.head h) = (alike_tested t1 (visible t1) (tried t1 []) e).1 (rw h refl)
none_differs e (Memᴰ.tail (Memᴰ.head h)) = (alike_tested t1 (visible t1) (tried t1 []) e).1 (rw h refl)
none_differs e (Memᴰ.tail (Memᴰ.tail m)) = absurd (Memᴰ.not-nil m)

-- ---- kinds of replies

kind : Verdict → ℕ
kind Opaque = 0
kind Detectable = 1
kind (Refused e) = 2

kind_of : Reply → ℕ
kind_of r = kind r.verdict

count_in : Result ℕ Reply → ℕ
count_in (Ok k) = k
count_in (Err r) = 0

module _ (f : Judging) where
  -- what f says of the papers' codes it says of their words, and back
  said : {d c : List ℕ} {D : Dossier} {C : Certificate} → Both d c D C → (v : Verdict) (t : List ℕ) → Accepts f v D (code_certificate C) t → (f d c t).reply ≡ accepted v
  said w v t h = ap₂ (λ (x y : List ℕ). (f x y t).reply) w.dossier_words w.certificate_words ∙ h

  -- by demand 2 an acceptance tells the outcome
  module _ (demand : Demand2 f) {d c : List ℕ} {D : Dossier} {C : Certificate} (w : Both d c D C) (t : List ℕ) (long : length D.labels ≤ length t) where
    opaque_said : Accepts f Opaque D (code_certificate C) t → judge D C ≡ opaque
    unfolding When
    opaque_said h = let (W, e, s) = (demand D C w.form w.sound t long).0.0 h in rw e ((shown.demand2 D (witness W) opaque).1 s)

    detectable_said : Accepts f Detectable D (code_certificate C) t → judge D C ≡ detectable
    unfolding When
    detectable_said h = let (ls, e, s) = (demand D C w.form w.sound t long).1.0 h in rw e ((shown.demand2 D (proof ls) detectable).1 s)

-- what the papers' outcomes are
t1_two_is : judge t1 (witness fact_two) ≡ probe_differs 1
unfolding compute
t1_two_is = refl

t1_none_is : judge t1 (witness []) ≡ probe_differs 0
unfolding compute
t1_none_is = refl

t2_p_is : judge t2 (proof p) ≡ line_fails 1
unfolding compute
t2_p_is = refl

-- an outcome is one
which : Outcome → ℕ
which opaque = 0
which detectable = 1
which (probe_differs k) = 2
which Outcome.secret_kept = 3
which (line_fails k) = 4
which Outcome.last_not_empty = 5

-- "T1 with a visible clause at work": the witness has the fact 1, and the visible clause 2 from 1
at_work : rounds_after T1 (1 ∷ 1 ∷ 1 ∷ 0 ∷ []) (1 ∷ 1 ∷ 1 ∷ []) ≡ (0 ∷ 1 ∷ 2 ∷ [])
unfolding compute
at_work = refl

ones : (a : ℕ) → get_or (1 ∷ 1 ∷ 1 ∷ []) a 0 ≤ 1
ones zero = omega arith
ones (suc zero) = omega arith
ones (suc (suc zero)) = omega arith
ones (suc (suc (suc a))) = omega arith

pub empty_builds : EmptyBuilds
unfolding kind_of kind count_in which lent compute Meets When
empty_builds f g =
    record {
      refuses_all = λ h. (
        λ demand.
            let (e, q, a, n, r) = h T2 (1 ∷ 1 ∷ 2 ∷ 0 ∷ []) lent in
            let ok = (demand t2 (witness fact_two) t2_two.form t2_two.sound lent (omega arith)).0.1 (fact_two, refl, (shown.demand2 t2 (witness fact_two) opaque).0 witness_example) in
            let z : ◌≡◌ {A = ℕ} 2 0 = ap kind_of (sym r ∙ said f t2_two Opaque lent ok) in omega arith,
        λ m. let (e, q, a, n, r) = h T1 P lent in let z : ◌≡◌ {A = ℕ} 2 1 = ap kind_of (sym r ∙ m lent refl) in omega arith,
        λ m. let (e, q, a, n, r) = h T2 (1 ∷ 1 ∷ 2 ∷ 0 ∷ []) lent in let z : ◌≡◌ {A = ℕ} 2 0 = ap kind_of (sym r ∙ m lent refl) in omega arith,
      );
      always_detectable = λ h. (
        λ demand. let z : ◌≡◌ {A = ℕ} 0 1 = ap which (sym witness_example ∙ detectable_said f demand t2_two lent (omega arith) (h _ _ _)) in omega arith,
        λ demand. not_both t2 (demand.every t2 t2_two.form [] [] (h _ _ _)) (witness_shows t2 fact_two witness_example),
        λ m. let z : ◌≡◌ {A = ℕ} 1 0 = ap kind_of (sym (h T2 (1 ∷ 1 ∷ 2 ∷ 0 ∷ []) lent) ∙ m lent refl) in omega arith,
      );
      first_probe = λ h.
          let ok = h t1 fact_two t1_two.form t1_two.sound refl ((unlike_tested t1 (policy t1) (tried t1 fact_two) t1.secret).1 refl) lent (omega arith) in (
            λ demand. let z : ◌≡◌ {A = ℕ} 2 0 = ap which (sym t1_two_is ∙ opaque_said f demand t1_two lent (omega arith) ok) in omega arith,
            λ m. let z : ◌≡◌ {A = ℕ} 0 2 = ap kind_of (sym (said f t1_two Opaque lent ok) ∙ m lent refl) in omega arith,
          );
      first_line = λ h.
          let ok = h t2 p t2_p.form t2_p.sound refl refl lent (omega arith) in (
            λ demand. let z : ◌≡◌ {A = ℕ} 4 1 = ap which (sym t2_p_is ∙ detectable_said f demand t2_p lent (omega arith) ok) in omega arith,
            λ m. let z : ◌≡◌ {A = ℕ} 1 2 = ap kind_of (sym (said f t2_p Detectable lent ok) ∙ m lent refl) in omega arith,
          );
      earlier_save = λ h.
          let ok = h t1 [] t1_none.form t1_none.sound none_differs ((unlike_tested t1 (policy t1) (tried t1 []) t1.secret).1 refl) lent (omega arith) in (
            λ demand. let z : ◌≡◌ {A = ℕ} 2 0 = ap which (sym t1_none_is ∙ opaque_said f demand t1_none lent (omega arith) ok) in omega arith,
            λ m. let z : ◌≡◌ {A = ℕ} 0 2 = ap kind_of (sym (said f t1_none Opaque lent ok) ∙ m lent refl) in omega arith,
          );
      untouched = λ h. (
        λ r. let z : ◌≡◌ {A = ℕ} 7 1 = ap (λ (l : List ℕ). get_or l 0 0) (sym (h T1 (7 ∷ 7 ∷ 7 ∷ [])) ∙ (row_kept _ _ (r T1 [] (7 ∷ 7 ∷ 7 ∷ []))).1 ∙ three_answered.1) in omega arith,
        λ m. let z : ◌≡◌ {A = ℕ} 7 1 = ap (λ (l : List ℕ). get_or l 0 0) (sym (h T1 (7 ∷ 7 ∷ 7 ∷ [])) ∙ m.1) in omega arith,
      );
      invented = λ k h.
          let t1-count = ap (λ (d : List ℕ). (g d (7 ∷ 7 ∷ 7 ∷ [])).reply) t1_two.dossier_words ∙ h t1 (7 ∷ 7 ∷ 7 ∷ []) t1_two.form (omega arith) in
          let t2-count = ap (λ (d : List ℕ). (g d (7 ∷ [])).reply) t2_two.dossier_words ∙ h t2 (7 ∷ []) t2_two.form (omega arith) in (
            λ r.
                let a : 2 ≡ k = ap count_in (sym ((row_kept _ _ (r T1 [] (7 ∷ 7 ∷ 7 ∷ []))).0 ∙ three_answered.0) ∙ t1-count) in
                let b : 1 ≡ k = ap count_in (sym ((row_kept _ _ (r T2 [] (7 ∷ []))).0 ∙ one_answer) ∙ t2-count) in
                omega arith,
            λ ne m. ne (ap count_in (sym t1-count ∙ m.0)),
          );
      unexplained = λ h s. let z : ◌≡◌ {A = ℕ} 1 0 = ap (λ (l : List ℕ). get_or l 0 0) (sym (h T1 (1 ∷ 1 ∷ 1 ∷ 0 ∷ []) (1 ∷ 1 ∷ 1 ∷ [])) ∙ (row_replied _ _ _ (s _ _ _)).1 ∙ at_work) in omega arith;
      only_whether = λ h s.
          let z : get_or (f T1 (1 ∷ 1 ∷ 1 ∷ 0 ∷ []) (1 ∷ 1 ∷ 1 ∷ [])).table 2 0 ≡ 2 = ap (λ (l : List ℕ). get_or l 2 0) ((row_replied _ _ _ (s _ _ _)).1 ∙ at_work) in
          omega (arith, z, h T1 (1 ∷ 1 ∷ 1 ∷ 0 ∷ []) (1 ∷ 1 ∷ 1 ∷ []) ones 2);
    }
