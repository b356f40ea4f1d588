-- The theorems of specs/Promise.antt, each under its name in small letters.
use Prim.Native.Nat.{ℕ, ◌+◌, ◌≤◌}
use mathlib.Core.Path.{◌≡◌, sym, ap, ◌∙◌}
use mathlib.Core.List.{List, [], ◌∷◌, ◌++◌, append_assoc, append-nil}
use native.Mathlib.Omega.{arith}
use lib.ListN.{length, drop}
use lib.Seq.{take-append_seam, drop-append_seam}
use Rattle.words.specs.Code.{code_list, code_all, code_many}
use Rattle.meaning.specs.Tests.{◌∈◌}
use Rattle.meaning.specs.Papers.{Dossier, Certificate, witness, proof}
use Rattle.promise.specs.Code.{code_clause, code_marked, code_entry, code_dossier, code_line, code_certificate}
use Rattle.promise.specs.Form.{ClauseForm, EntryForm, DossierForm, LineForm, PartsForm}
use Rattle.promise.specs.Place.{part, Kind}
use Rattle.promise.specs.Clause.{credential, marked}
use Rattle.promise.specs.Formula.{entry}
use Rattle.promise.specs.Line.{line}
use Rattle.promise.specs.Layout.{clauses_at, creds_at, probes_at, secret_at, layout_of, dossier_at, Laid, proposal_of, certificate_at, Proposed}
use Rattle.promise.specs.Promise.{DossierDecoded, CertificateDecoded}
use Rattle.promise.proofs.Seen.{next_words, words_after, Seen, See, SeeMany, see_many, clauses_seen, marked_seen}
use Rattle.promise.proofs.SeenEntry.{entries_seen}
use Rattle.promise.proofs.SeenLine.{lines_seen}

-- a section whose count stands at p: its things, and what comes after it
module _ {A : Type 0} (K : Kind A) (code : A → List ℕ) (Form : A → Type 0) (seen : Seen K code Form) (ws : List ℕ) (p : ℕ) (xs : List A) (rest : List ℕ)
    (w : drop p ws ≡ code_many code xs ++ rest) (f : (x : A) → x ∈ xs → Form x) where
  section_seen : SeeMany K code ws (p + 1) xs
  section_seen = see_many K code Form seen ws (p + 1) xs rest (next_words ws p w) f

module _ (D : Dossier) (f : DossierForm D) where
  n : ℕ
  n = length D.labels

  m : ℕ
  m = length D.creds

  small : n ≤ 256
  unfolding n
  small = omega (arith, f.labels.few)

  ws : List ℕ
  ws = code_dossier D

  rest₄ : List ℕ
  rest₄ = code_many code_entry (D.secret ∷ [])

  rest₃ : List ℕ
  rest₃ = code_many code_entry D.probes ++ rest₄

  rest₂ : List ℕ
  rest₂ = code_many code_clause D.creds ++ rest₃

  rest₁ : List ℕ
  rest₁ = code_many code_marked D.clauses ++ rest₂

  at₁ : drop (clauses_at D) ws ≡ rest₁
  unfolding ws code_dossier rest₁ rest₂ rest₃ rest₄
  at₁ = drop-append_seam (code_list D.labels) rest₁

  clauses_there : SeeMany (marked n) code_marked ws (clauses_at D + 1) D.clauses
  unfolding rest₁ n
  clauses_there = section_seen (marked n) code_marked (λ c. ClauseForm n c.clause) (marked_seen n) ws (clauses_at D) D.clauses rest₂ at₁ f.clauses.each

  at₂ : drop (creds_at D) ws ≡ rest₂
  unfolding rest₁
  at₂ = words_after ws (clauses_at D) (code_many code_marked D.clauses) at₁

  creds_there : SeeMany (credential n) code_clause ws (creds_at D + 1) D.creds
  unfolding rest₂ n
  creds_there = section_seen (credential n) code_clause (ClauseForm n) (clauses_seen n) ws (creds_at D) D.creds rest₃ at₂ f.creds.each

  at₃ : drop (probes_at D) ws ≡ rest₃
  unfolding rest₂
  at₃ = words_after ws (creds_at D) (code_many code_clause D.creds) at₂

  probes_there : SeeMany (entry n m) code_entry ws (probes_at D + 1) D.probes
  unfolding rest₃ n m
  probes_there = section_seen (entry n m) code_entry (EntryForm n m) (entries_seen n small m) ws (probes_at D) D.probes rest₄ at₃ f.probes.each

  at₄ : drop (secret_at D) ws ≡ code_many code_entry (D.secret ∷ []) ++ []
  unfolding rest₃ rest₄
  at₄ = words_after ws (probes_at D) (code_many code_entry D.probes) at₃ ∙ sym (append-nil rest₄)

  secret_there : See (entry n m) code_entry ws (secret_at D + 1) D.secret
  unfolding code_all n m
  secret_there =
      entries_seen n small m ws (secret_at D + 1) D.secret ([] ++ [])
      (next_words ws (secret_at D) at₄ ∙ append_assoc (code_entry D.secret) [] [])
      f.secret

  decoded : dossier_at ws (layout_of D) ≡ D
  unfolding dossier_at layout_of n m ws code_dossier part rest₁ rest₂ rest₃ rest₄
  decoded =
      λ i.
      record {
        labels = take-append_seam D.labels (rest₁) i;
        clauses = clauses_there.that i;
        creds = creds_there.that i;
        probes = probes_there.that i;
        secret = secret_there.that i;
      }

  laid : Laid ws (layout_of D)
  unfolding layout_of n m
  laid =
      record {
        atoms = f.labels.few;
        few_clauses = f.clauses.most;
        few_creds = f.creds.most;
        few = f.probes.most;
        clauses = clauses_there.fit;
        creds = creds_there.fit;
        probes = probes_there.fit;
        secret = secret_there.ok;
      }

pub dossier_decoded : DossierDecoded
unfolding ws
dossier_decoded D f = (decoded D f, laid D f)

pub certificate_decoded : CertificateDecoded
unfolding certificate_at code_certificate proposal_of Proposed PartsForm
certificate_decoded n m (witness W) f =
    let s = see_many (credential n) code_clause (ClauseForm n) (clauses_seen n) (code_certificate (witness W)) 2 W [] (sym (append-nil (code_all code_clause W))) f.parts.each in
    (ap {B = Certificate} witness s.that, s.fit)
certificate_decoded n m (proof lines) f =
    let s = see_many line code_line (LineForm n m) (lines_seen n m) (code_certificate (proof lines)) 2 lines [] (sym (append-nil (code_all code_line lines))) f.parts.each in
    (ap {B = Certificate} proof s.that, (f.parts.least, f.parts.most, s.fit))
