-- Every dossier that the reader accepts is well formed here, so completeness speaks of every sound dossier.
use Rattle.meaning.specs.Papers.{Dossier}
use Rattle.promise.specs.Form.{DossierForm}
use Rattle.completeness.specs.Form.{WellFormed}

-- What form asks (`DossierForm`, which the reader promises of what it accepts) is more than completeness needs.
abbrev pub SoundIsWellFormed : Type 0
SoundIsWellFormed = (D : Dossier) → DossierForm D → WellFormed D
