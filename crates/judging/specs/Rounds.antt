-- What the table that is lent to the judge holds after its reply (request A5): "On 14 and 15 the words 0 to n - 1 of the lent table become these numbers"; "words beyond n
-- stay. Every other reply leaves the table untouched."
use Rattle.std.specs.Prelude.{ℕ, List, leb, length}
use Rattle.words.specs.Out.{Out, got, bad}
use Rattle.meaning.specs.Tests.{choose}
use Rattle.meaning.specs.Papers.{Dossier, Certificate}
use Rattle.meaning.specs.Verdict.{judge}
use Rattle.dossier.specs.Read.{dossier}
use Rattle.certificate.specs.Read.{certificate}
use Rattle.verdict.specs.Told.{rounds_at}

-- with the dossier D read, and what was read of the certificate
unfoldable pub rounds_proposal : Dossier → Out Certificate → List ℕ → List ℕ
rounds_proposal D (got C q) t = choose (leb (length D.labels) (length t)) (rounds_at (length D.labels) D C (judge D C) t) t
rounds_proposal D (bad e p w) t = t

-- with what was read of the dossier
unfoldable pub rounds_read : Out Dossier → List ℕ → List ℕ → List ℕ
rounds_read (got D q) c t = rounds_proposal D (certificate (length D.labels) (length D.creds) c) t
rounds_read (bad e p w) c t = t

unfoldable pub rounds_after : List ℕ → List ℕ → List ℕ → List ℕ
rounds_after d c t = rounds_read (dossier d) c t
