-- A case of the program trial: its kind, numbers, and papers or bytes. All numbers are words, low byte first.
use Rattle.std.specs.Prelude.{ℕ, ◌+◌, ◌*◌, ◌%◌, ◌≤◌, cond, List, leb, eqb, Option, None, Some, option_map, option_and_then}
use Rattle.reply.specs.declared.Paper.{Paper}
use Rattle.reply.specs.declared.Paper.TheVariants.{Dossier, Certificate}
use Rattle.text.specs.Bytes.{word_at}
use Rattle.text.specs.declared.Papers.{Papers}
use Rattle.trial.specs.declared.case.Kind.{Kind}
use Rattle.trial.specs.declared.case.Kind.TheVariants as kind
use Rattle.trial.specs.declared.case.Case.{Case}
use Rattle.trial.specs.declared.case.Case.TheVariants.{Judge, Answers, Shown, Bytes, Rounds}

-- the kind with a number, 1 to 5
abbrev pub kind_of : ℕ → Option Kind
kind_of n =
    cond (eqb n 1) (Some kind.Judge) (cond (eqb n 2) (Some kind.Answers) (cond (eqb n 3) (Some kind.Shown) (cond (eqb n 4) (Some kind.Bytes) (cond (eqb n 5) (Some kind.Rounds) None))))

-- how many bytes the numbers between a kind and the papers have: five words for kind 3, four for kind 5, else two
abbrev pub header_of : Kind → ℕ
header_of kind.Judge = 4
header_of kind.Answers = 4
header_of kind.Shown = 10
header_of kind.Bytes = 4
header_of kind.Rounds = 8

-- the paper with a number: 0 dossier, 1 certificate
abbrev pub paper_of : ℕ → Option Paper
paper_of n = cond (eqb n 0) (Some Dossier) (cond (eqb n 1) (Some Certificate) None)

-- words i and i + 1 of the numbers: at most 32,767 words for the two papers together, what the program judge takes after its length word; the same for table and dossier
abbrev pub sizes_at : List ℕ → ℕ → Option (ℕ × ℕ)
sizes_at h i = cond (leb (word_at h i + word_at h (i + 1)) 32767) (Some (word_at h i, word_at h (i + 1))) None

abbrev pub papers_at : List ℕ → ℕ → Option Papers
papers_at h i = option_map (λ s. record { dossier = s.0; certificate = s.1 }) (sizes_at h i)

-- kind 3: paper, place, count, dossier length, certificate length
abbrev pub shown_case : List ℕ → Option Case
shown_case h =
    option_and_then (λ paper. option_map (Shown paper (word_at h 1) (word_at h 2)) (papers_at h 3)) (paper_of (word_at h 0))

-- kind 4: a count of bytes as two words, low, then high; at most 70,000
abbrev pub bytes_case : List ℕ → Option Case
bytes_case h = cond (leb (word_at h 0 + 65536 * word_at h 1) 70000) (Some (Bytes (word_at h 0 + 65536 * word_at h 1))) None

-- kind 5 (request A5): fill, table length (at most 32,767), dossier length, certificate length
abbrev pub rounds_case : List ℕ → Option Case
rounds_case h = cond (leb (word_at h 1) 32767) (option_map (Rounds (word_at h 0) (word_at h 1)) (papers_at h 2)) None

-- what a case asks for, by its kind and the bytes of its numbers; kind 1: dossier length, certificate length; kind 2: table length, dossier length
abbrev pub case_of : Kind → List ℕ → Option Case
case_of kind.Judge h = option_map Judge (papers_at h 0)
case_of kind.Answers h = option_map (λ s. Answers s.0 s.1) (sizes_at h 0)
case_of kind.Shown h = shown_case h
case_of kind.Bytes h = bytes_case h
case_of kind.Rounds h = rounds_case h

-- how many bytes follow the numbers: the papers; or the bytes, and one of padding after an odd count
abbrev pub size_of : Option Case → ℕ
size_of None = 0
size_of (Some (Judge p)) = 2 * (p.dossier + p.certificate)
size_of (Some (Answers t d)) = 2 * d
size_of (Some (Shown paper place count p)) = 2 * (p.dossier + p.certificate)
size_of (Some (Bytes n)) = n + n % 2
size_of (Some (Rounds fill t p)) = 2 * (p.dossier + p.certificate)

-- within the limits
abbrev pub Fits : Case → Type 0
Fits (Judge p) = p.dossier + p.certificate ≤ 32767
Fits (Answers t d) = t + d ≤ 32767
Fits (Shown paper place count p) = p.dossier + p.certificate ≤ 32767
Fits (Bytes n) = n ≤ 70000
Fits (Rounds fill t p) = (t ≤ 32767) × (p.dossier + p.certificate ≤ 32767)
