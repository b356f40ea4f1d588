-- What the layers above are promised of a sound paper's words: decoded with its layout they are the paper, and the words of each section are there.
use Rattle.std.specs.Prelude.{ℕ, ◌≡◌}
use Rattle.meaning.specs.Papers.{Dossier, Certificate}
use Rattle.promise.specs.Code.{code_dossier, code_certificate}
use Rattle.promise.specs.Form.{DossierForm, CertificateForm}
use Rattle.promise.specs.Layout.{layout_of, dossier_at, Laid, proposal_of, certificate_at, Proposed}

abbrev pub DossierDecoded : Type 0
DossierDecoded = (D : Dossier) → DossierForm D → (dossier_at (code_dossier D) (layout_of D) ≡ D) × Laid (code_dossier D) (layout_of D)

abbrev pub CertificateDecoded : Type 0
CertificateDecoded =
    (n m : ℕ) (C : Certificate) → CertificateForm n m C
    → (certificate_at n (code_certificate C) (proposal_of C) ≡ C) × Proposed n (code_certificate C) (proposal_of C)
