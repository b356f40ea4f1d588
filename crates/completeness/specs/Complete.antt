-- Completeness: what is detectable has a proof, what is opaque has a witness. proofs/Complete.antt has each under its name in small letters.
use Rattle.std.specs.Prelude.{List, ◌⊎◌, ◌↔◌}
use Rattle.meaning.specs.Tests.{◌∈◌}
use Rattle.meaning.specs.Policy.{Clause, Policy}
use Rattle.meaning.specs.Papers.{Dossier, Line}
use Rattle.meaning.specs.Looks.{Detectable, Opaque}
use Rattle.meaning.specs.Verdict.{WitnessAccepted, ProofAccepted}
use Rattle.completeness.specs.Form.{WellFormed, ClauseForm, LineForm}

-- an accepted proof, each line of which is so; an accepted proof in form
abbrev pub ProofBy : Dossier → (Line → Type 0) → Type 0
ProofBy D So = (lines : List Line) × ProofAccepted D lines × ((l : Line) → l ∈ lines → So l)

abbrev pub SomeProof : Dossier → Type 0
SomeProof D = ProofBy D (LineForm D)

-- an accepted witness in form
abbrev pub SomeWitness : Dossier → Type 0
SomeWitness D = (W : Policy) × WitnessAccepted D W × ((c : Clause) → c ∈ W → ClauseForm D c)

-- the secret is detectable exactly when some proof is accepted
abbrev pub DetectableExactly : Type 0
DetectableExactly = (D : Dossier) → WellFormed D → Detectable D ↔ SomeProof D

-- and opaque exactly when some witness is
abbrev pub OpaqueExactly : Type 0
OpaqueExactly = (D : Dossier) → WellFormed D → Opaque D ↔ SomeWitness D

-- each dossier is one of the two, and it is decided which (not both: `NotBoth` of meaning)
abbrev pub Decided : Type 0
Decided = (D : Dossier) → WellFormed D → Detectable D ⊎ Opaque D

-- "else opaque": the two forms that source document 001 gives it (definition 3.11) are one
abbrev pub ElseOpaque : Type 0
ElseOpaque = (D : Dossier) → WellFormed D → (Detectable D → ⊥) ↔ Opaque D
