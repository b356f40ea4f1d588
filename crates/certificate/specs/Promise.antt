-- What the reader promises of a certificate, each as a type; proofs/Promise.antt has each under the same name in small letters.
use Rattle.std.specs.Prelude.{ℕ, ◌≤◌, ◌≡◌, List, length}
use Rattle.words.specs.Out.{got, bad}
use Rattle.meaning.specs.Policy.{Policy}
use Rattle.meaning.specs.Papers.{Certificate, witness}
use Rattle.promise.specs.Code.{code_certificate}
use Rattle.promise.specs.Form.{CertificateForm}
use Rattle.promise.specs.Table.{CertificateRow}
use Rattle.certificate.specs.Read.{certificate}

-- What is accepted is the code of a well-formed certificate, to the last word (of which there are at most 24,000: `CertificateForm`).
abbrev pub CertificateSound : Type 0
CertificateSound = (n m : ℕ) (ws : List ℕ) (C : Certificate) (p : ℕ) → certificate n m ws ≡ got C p → (ws ≡ code_certificate C) × CertificateForm n m C

-- Every well-formed certificate's code is accepted, with that value.
abbrev pub CertificateAccepted : Type 0
CertificateAccepted = (n m : ℕ) (C : Certificate) → CertificateForm n m C → certificate n m (code_certificate C) ≡ got C (length (code_certificate C))

-- Two well-formed certificates never have the same words.
abbrev pub CertificateOnce : Type 0
CertificateOnce = (n m : ℕ) (C E : Certificate) → CertificateForm n m C → CertificateForm n m E → code_certificate C ≡ code_certificate E → C ≡ E

-- A certificate that is well formed with m credentials is so with more; a witness with any number.
abbrev pub CertificateMore : Type 0
CertificateMore =
    ((n m k : ℕ) (C : Certificate) → m ≤ k → CertificateForm n m C → CertificateForm n k C)
    × ((n m k : ℕ) (W : Policy) → CertificateForm n m (witness W) → CertificateForm n k (witness W))

-- A refusal is that of a row of the table, and every row refuses.
abbrev pub CertificateShows : Type 0
CertificateShows = (n m : ℕ) (ws : List ℕ) (e p w : ℕ) → certificate n m ws ≡ bad e p w → (us : List ℕ) × CertificateRow n m ws e p us × (w ≡ length us)

abbrev pub CertificateRows : Type 0
CertificateRows = (n m : ℕ) (ws : List ℕ) (e p : ℕ) (us : List ℕ) → CertificateRow n m ws e p us → certificate n m ws ≡ bad e p (length us)
