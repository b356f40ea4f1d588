-- What the reader promises of a dossier, each as a type; proofs/Promise.antt has each under the same name in small letters.
use Rattle.std.specs.Prelude.{ℕ, ◌≤◌, ◌≡◌, List, length}
use Rattle.words.specs.Out.{got, bad, after}
use Rattle.words.specs.Read.{section}
use Rattle.words.specs.Answer.{as_step}
use Rattle.words.specs.Items.{part_step, as_section}
use Rattle.meaning.specs.Papers.{Dossier}
use Rattle.promise.specs.Code.{code_dossier}
use Rattle.promise.specs.Form.{DossierForm}
use Rattle.promise.specs.Table.{DossierRow}
use Rattle.dossier.specs.Read.{clause, marked, entry, dossier}

-- What is accepted is the code of a well-formed dossier, to the last word.
abbrev pub DossierSound : Type 0
DossierSound = (ws : List ℕ) (D : Dossier) (p : ℕ) → dossier ws ≡ got D p → (ws ≡ code_dossier D) × DossierForm D

-- Every well-formed dossier's code is accepted, with that value.
abbrev pub DossierAccepted : Type 0
DossierAccepted = (D : Dossier) → DossierForm D → dossier (code_dossier D) ≡ got D (length (code_dossier D))

-- Two well-formed dossiers never have the same words.
abbrev pub DossierOnce : Type 0
DossierOnce = (D E : Dossier) → DossierForm D → DossierForm E → code_dossier D ≡ code_dossier E → D ≡ E

-- A refusal is that of a row of the table, and every row refuses.
abbrev pub DossierShows : Type 0
DossierShows = (ws : List ℕ) (e p w : ℕ) → dossier ws ≡ bad e p w → (us : List ℕ) × DossierRow ws e p us × (w ≡ length us)

abbrev pub DossierRows : Type 0
DossierRows = (ws : List ℕ) (e p : ℕ) (us : List ℕ) → DossierRow ws e p us → dossier ws ≡ bad e p (length us)

-- A section is answered as it is read, for each kind of item of a dossier and all limits of its count.
abbrev pub SectionsTold : Type 0
SectionsTold =
    (lo hi : ℕ) (ws : List ℕ) (p : ℕ)
    → ((n : ℕ) → part_step (λ us q. as_step (marked n us q)) lo hi ws p ≡ as_section (after (section lo hi (marked n)) ws p))
    × ((n : ℕ) → part_step (λ us q. as_step (clause n us q)) lo hi ws p ≡ as_section (after (section lo hi (clause n)) ws p))
    × ((n m : ℕ) → part_step (λ us q. as_step (entry n m us q)) lo hi ws p ≡ as_section (after (section lo hi (entry n m)) ws p))

-- "The longest sound dossier has 8,167 words."
abbrev pub DossierLongest : Type 0
DossierLongest = ((D : Dossier) → DossierForm D → length (code_dossier D) ≤ 8167) × ((D : Dossier) × DossierForm D × (length (code_dossier D) ≡ 8167))
