-- Which rules completeness needs: seven are enough, with no atoms in the literals, and none of the seven can be spared.
use Rattle.std.specs.Prelude.{◌≡◌, List, [], ◌∷◌, ◌↔◌, ℕ}
use Rattle.meaning.specs.Tests.{◌∈◌}
use Rattle.meaning.specs.Papers.{Dossier, Literal, number, Line}
use Rattle.meaning.specs.Looks.{Detectable}
use Rattle.meaning.specs.Verdict.{ProofAccepted}
use Rattle.completeness.specs.Form.{WellFormed, LineForm}
use Rattle.completeness.specs.Complete.{ProofBy}

-- all but rule 4
unfoldable pub enough : List ℕ
enough = 1 ∷ 2 ∷ 3 ∷ 5 ∷ 6 ∷ 7 ∷ 8 ∷ []

-- a line in form by one of these, whose literals have no atoms
pub record Narrow (D : Dossier) (l : Line) : Type 0 where
  pub form : LineForm D l
  pub rule : number l.rule ∈ enough
  pub plain : (x : Literal) → x ∈ l.literals → x.said.atoms ≡ []

-- They are enough: what is detectable has a proof of such lines.
abbrev pub SevenEnough : Type 0
SevenEnough = (D : Dossier) → WellFormed D → Detectable D → ProofBy D (Narrow D)

-- Rule k is needed: some dossier is detectable, and each accepted proof of it, in form or not, has a line by rule k.
abbrev pub Needed : ℕ → Type 0
Needed k = (D : Dossier) × WellFormed D × Detectable D × ((lines : List Line) → ProofAccepted D lines → (l : Line) × l ∈ lines × (number l.rule ≡ k))

-- Those are all that are needed, and each of them is.
abbrev pub NeededExactly : Type 0
NeededExactly = (k : ℕ) → Needed k ↔ k ∈ enough
