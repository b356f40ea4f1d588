-- From a reader's answer back to what was read, and from what was read to the promise.
use Prim.Native.Nat.{ℕ}
use mathlib.Core.Path.{◌≡◌, sym, ap, ◌∙◌, subst}
use mathlib.Core.List.{List}
use lib.ListN.{length}
use Rattle.std.specs.Prelude.{Result, Ok, Err}
use Rattle.reply.specs.declared.Fault.{Fault}
use Rattle.reply.specs.declared.Refusal.{Refusal}
use Rattle.reply.specs.Numbers.{number}
use Rattle.words.specs.Out.{bad}
use Rattle.words.proofs.Steps.{failed, passed}
use Rattle.promise.specs.Code.{code_dossier, code_certificate}
use Rattle.promise.specs.Form.{DossierForm, CertificateForm}
use Rattle.promise.specs.Layout.{layout_of, dossier_at, Laid, proposal_of, certificate_at, Proposed}
use Rattle.promise.specs.declared.Layout.{Layout}
use Rattle.promise.specs.declared.Proposal.{Proposal}
use Rattle.promise.proofs.Decoded.{dossier_decoded, certificate_decoded}
use Rattle.dossier.specs.Read.{dossier}
use Rattle.dossier.specs.Found as dossiers
use Rattle.dossier.proofs.Promise.{dossier_sound, dossier_shows}
use Rattle.certificate.specs.Read.{certificate}
use Rattle.certificate.specs.Found as certificates
use Rattle.certificate.proofs.Promise.{certificate_sound, certificate_shows}
use Rattle.judging.specs.Judge.{Sound, Offered}
use Rattle.judging.proofs.Numbers.{told_bad, row_few, certificate_few}

-- ---- the dossier

pub dossier_sound_lem : (d : List ℕ) {r : Result Layout (Refusal Fault)} {o : Layout} → r ≡ dossiers.as_form (dossier d) → r ≡ Ok o → Sound d o
dossier_sound_lem d t g = let b = passed _ _ (dossier d) t g in record { paper = b.v; end = b.p; is_read = b.is; layout = b.told }

pub dossier_refused : (d : List ℕ) {r : Result Layout (Refusal Fault)} {x : Refusal Fault} → r ≡ dossiers.as_form (dossier d) → r ≡ Err x → dossier d ≡ bad (number x.fault) x.place x.count
dossier_refused d t g = let b = failed _ _ (dossier d) t g in let (us, row, size) = dossier_shows d b.e b.p b.w b.is in told_bad b (row_few row)

module _ (d : List ℕ) (o : Layout) (s : Sound d o) where
  coded : (d ≡ code_dossier s.paper) × DossierForm s.paper
  coded = dossier_sound d s.paper s.end s.is_read

  pub sound_laid : Laid d o
  sound_laid =
      subst (λ (x : Layout). Laid d x) (sym s.layout)
      (subst (λ (l : List ℕ). Laid l (layout_of s.paper)) (sym coded.0) (dossier_decoded s.paper coded.1).1)

  pub sound_paper : dossier_at d o ≡ s.paper
  sound_paper =
      ap (dossier_at d) s.layout
      ∙ ap (λ (l : List ℕ). dossier_at l (layout_of s.paper)) coded.0 ∙ (dossier_decoded s.paper coded.1).0

  pub atoms_are : o.atoms ≡ length s.paper.labels
  unfolding layout_of
  atoms_are = ap (λ (x : Layout). x.atoms) s.layout

  pub creds_are : o.ncreds ≡ length s.paper.creds
  unfolding layout_of
  creds_are = ap (λ (x : Layout). x.ncreds) s.layout

  pub probes_are : o.nprobes ≡ length s.paper.probes
  unfolding layout_of
  probes_are = ap (λ (x : Layout). x.nprobes) s.layout

-- ---- the certificate

module _ (n m : ℕ) (c : List ℕ) where
  pub certificate_sound_lem : {r : Result Proposal (Refusal Fault)} {x : Proposal} → r ≡ certificates.as_form (certificate n m c) → r ≡ Ok x → Offered n m c x
  certificate_sound_lem t g = let b = passed _ _ (certificate n m c) t g in record { paper = b.v; end = b.p; is_read = b.is; proposal = b.told }

  pub certificate_refused : {r : Result Proposal (Refusal Fault)} {x : Refusal Fault} → r ≡ certificates.as_form (certificate n m c) → r ≡ Err x → certificate n m c ≡ bad (number x.fault) x.place x.count
  certificate_refused t g = let b = failed _ _ (certificate n m c) t g in let (us, row, size) = certificate_shows n m c b.e b.p b.w b.is in told_bad b (certificate_few row)

  module _ (x : Proposal) (s : Offered n m c x) where
    written : (c ≡ code_certificate s.paper) × CertificateForm n m s.paper
    written = certificate_sound n m c s.paper s.end s.is_read

    pub offered_there : Proposed n c x
    offered_there =
        subst (λ (y : Proposal). Proposed n c y) (sym s.proposal)
        (subst (λ (l : List ℕ). Proposed n l (proposal_of s.paper)) (sym written.0) (certificate_decoded n m s.paper written.1).1)

    pub offered_paper : certificate_at n c x ≡ s.paper
    offered_paper =
        ap (certificate_at n c) s.proposal
        ∙ ap (λ (l : List ℕ). certificate_at n l (proposal_of s.paper)) written.0 ∙ (certificate_decoded n m s.paper written.1).0
