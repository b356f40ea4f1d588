-- Demand 3 is about something: 01's papers, decoded, have the words of 01; T1 grows in each of the three ways, with P accepted before and after; T3 grows to T2, with a witness
-- accepted for both. (T2 grows to T1, but T2 is opaque, so that no proof is accepted for it.)
use Rattle.std.specs.Prelude.{ℕ, Bool, true, false, List, [], ◌∷◌, ◌++◌, ◌≡◌}
use Rattle.meaning.specs.Policy.{Clause, fact}
use Rattle.meaning.specs.Papers.{Entry, Dossier, witness, proof}
use Rattle.meaning.specs.Example.{entry_of, example_with, t1, t2, t3, fact_two, p}
use Rattle.promise.specs.Code.{code_dossier, code_certificate}
use Rattle.reply.specs.declared.Verdict.{Verdict}
use Rattle.reply.specs.declared.Verdict.TheVariants.{Opaque, Detectable}
use Rattle.judging.specs.Table.{Long}
use Rattle.judging.specs.Entries.{Judging}
use Rattle.judging.specs.Demands.{Accepts, Grown}
use Rattle.judging.specs.Cases.{T1, T2, T3, P}

-- T1 with this mark on its first clause, and more credentials and probes after its own
abbrev pub t1_with : Bool → List Clause → List Entry → Dossier
t1_with mark creds probes = example_with mark creds (t1.probes ++ probes)

-- D grows to E, and the certificate's words c are accepted for both, with every table that is long enough
pub record Stays (f : Judging) (v : Verdict) (c : List ℕ) (D E : Dossier) : Type 0 where
  pub grown : Grown D E
  pub before : (t : List ℕ) → Long D t → Accepts f v D c t
  pub after : (t : List ℕ) → Long E t → Accepts f v E c t

pub record NotEmpty (f : Judging) : Type 0 where
  pub words : (code_dossier t1 ≡ T1) × (code_dossier t2 ≡ T2) × (code_dossier t3 ≡ T3)
  pub proof_words : code_certificate (proof p) ≡ P
  pub witness_words : code_certificate (witness fact_two) ≡ 1 ∷ 1 ∷ 2 ∷ 0 ∷ []
  -- a third probe, 1 without credentials; the hidden clause marked visible; a second credential, the fact 2
  pub probe : Stays f Detectable P t1 (t1_with false [] (entry_of [] 1 ∷ []))
  pub mark : Stays f Detectable P t1 (t1_with true [] [])
  pub credential : Stays f Detectable P t1 (t1_with false (fact 2 ∷ []) [])
  pub to_t1 : Grown t2 t1
  -- the witness of (d)
  pub witnessed : Stays f Opaque (1 ∷ 1 ∷ 2 ∷ 0 ∷ []) t3 t2
