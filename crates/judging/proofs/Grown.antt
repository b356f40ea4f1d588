-- The theorem of specs/Grown.antt: `not_empty`.
use Prim.Native.Nat.{ℕ}
use mathlib.Core.Path.{◌≡◌, refl}
use mathlib.Core.Bool.{Bool, true, false, false≢true}
use mathlib.Core.List.{List, [], ◌∷◌, ◌++◌}
use lib.ListN.{length}
use Rattle.words.specs.Out.{got}
use Rattle.meaning.specs.Policy.{Clause, fact}
use Rattle.meaning.specs.Papers.{Entry, Dossier, witness, proof}
use Rattle.meaning.specs.Verdict as meant
use Rattle.meaning.specs.Extends.{Extends, done, next}
use Rattle.meaning.specs.Example.{entry_of, example_with, t1, t2, t3, fact_two, p}
use Rattle.promise.specs.Code.{code_dossier, code_certificate}
use Rattle.promise.specs.Form.{DossierForm}
use Rattle.dossier.specs.Read.{dossier}
use Rattle.dossier.proofs.Promise.{dossier_sound}
use Rattle.certificate.specs.Read.{certificate}
use Rattle.certificate.proofs.Promise.{certificate_sound}
use Rattle.reply.specs.declared.Verdict.{Verdict}
use Rattle.reply.specs.declared.Verdict.TheVariants.{Opaque, Detectable}
use Rattle.judging.specs.Table.{Long}
use Rattle.judging.specs.Entries.{Judging}
use Rattle.judging.specs.Demands.{Tabled, Accepts}
use Rattle.judging.specs.Cases.{P}
use Rattle.judging.specs.Grown.{t1_with, Stays, NotEmpty}
use Rattle.judging.proofs.Cases.{compute}
use Rattle.judging.proofs.Demands.{witness_row, proof_row, accepts_witness, accepts_proof}

-- a dossier whose words are read is sound
form : (D : Dossier) {k : ℕ} → dossier (code_dossier D) ≡ got D k → DossierForm D
form D {k} e = (dossier_sound (code_dossier D) D k e).1

-- the example with another mark of its first clause, more credentials and more probes
grows : (b : Bool) (cs : List Clause) (ps rs : List Entry) → Extends (example_with false [] ps) (example_with b cs (ps ++ rs))
unfolding example_with
grows b cs ps rs = record { labels = refl; marks = next refl (λ h. absurd (false≢true h)) (next refl (λ h. h) done); new_creds = cs; creds = refl; new_probes = rs; probes = refl; secret = refl }

module _ (f : Judging) (tabled : Tabled f) where
  -- D is sound, and c is accepted for it with every table that is long enough
  abbrev Takes : Verdict → List ℕ → Dossier → Type 0
  Takes v c D = DossierForm D × ((t : List ℕ) → Long D t → Accepts f v D c t)

  stays : {v : Verdict} {c : List ℕ} {D E : Dossier} → Extends D E → Takes v c D → Takes v c E → Stays f v c D E
  stays x a b = record { grown = record { extends = x; before = a.0; after = b.0 }; before = a.1; after = b.1 }

  -- by what is read, and by the outcome: P, and the witness with the fact 2
  takes_p : (D : Dossier) {j k : ℕ} → dossier (code_dossier D) ≡ got D j → certificate (length D.labels) (length D.creds) P ≡ got (proof p) k → meant.judge D (proof p) ≡ meant.detectable → Takes Detectable P D
  takes_p D {j} {k} e g o = let (w, s) = certificate_sound _ _ P (proof p) k g in (form D e, λ t l. accepts_proof f tabled D (form D e) P t l p w s ((proof_row D p).0 o))

  takes_two : (D : Dossier) {j k : ℕ} → dossier (code_dossier D) ≡ got D j → certificate (length D.labels) (length D.creds) (1 ∷ 1 ∷ 2 ∷ 0 ∷ []) ≡ got (witness fact_two) k → meant.judge D (witness fact_two) ≡ meant.opaque → Takes Opaque (1 ∷ 1 ∷ 2 ∷ 0 ∷ []) D
  takes_two D {j} {k} e g o = let (w, s) = certificate_sound _ _ _ (witness fact_two) k g in (form D e, λ t l. accepts_witness f tabled D (form D e) _ t l fact_two w s ((witness_row D fact_two).0 o))

  pub not_empty : NotEmpty f
  unfolding compute code_dossier code_certificate
  not_empty =
      record {
        words = (refl, refl, refl);
        proof_words = refl;
        witness_words = refl;
        probe = stays (grows false [] t1.probes (entry_of [] 1 ∷ [])) (takes_p t1 refl refl refl) (takes_p (t1_with false [] (entry_of [] 1 ∷ [])) refl refl refl);
        mark = stays (grows true [] t1.probes []) (takes_p t1 refl refl refl) (takes_p (t1_with true [] []) refl refl refl);
        credential = stays (grows false (fact 2 ∷ []) t1.probes []) (takes_p t1 refl refl refl) (takes_p (t1_with false (fact 2 ∷ []) []) refl refl refl);
        to_t1 = record { extends = grows false [] t2.probes (entry_of [] 2 ∷ []); before = form t2 refl; after = form t1 refl };
        witnessed = stays (grows false [] [] (entry_of (0 ∷ []) 2 ∷ [])) (takes_two t3 refl refl refl) (takes_two t2 refl refl refl);
      }
