-- The cases to be proved of 01's "Dossiers to try".
use Rattle.std.specs.Prelude.{ℕ, ◌≡◌, List, [], ◌∷◌, ◌++◌, length, take, drop, Result, Ok}
use Rattle.meaning.specs.Tests.{◌∈◌}
use Rattle.reply.specs.Answer.{accepted, refused}
use Rattle.reply.specs.declared.Paper.TheVariants.{Dossier, Certificate}
use Rattle.reply.specs.declared.Reply.{Reply}
use Rattle.reply.specs.declared.Verdict.TheVariants.{Opaque, Detectable}
use Rattle.judging.specs.Entries.{Judging, Answering}

-- "Hidden fact 0; visible 2 from 1; credential 1 from 0; probes: 2 with it, 2 without; secret 0."
-- The probe count stands at place 16, the probes at 17 and 21, the secret's count at 24.
abbrev pub T1 : List ℕ
T1 = 3 ∷ 10 ∷ 20 ∷ 30 ∷ 2 ∷ 0 ∷ 0 ∷ 0 ∷ 1 ∷ 2 ∷ 1 ∷ 1 ∷ 1 ∷ 1 ∷ 1 ∷ 0 ∷ 2 ∷ 1 ∷ 0 ∷ 1 ∷ 2 ∷ 0 ∷ 1 ∷ 2 ∷ 1 ∷ 0 ∷ 1 ∷ 0 ∷ []

-- "T2 is T1 without the second probe, T3 with no probe."
abbrev pub T2 : List ℕ
T2 = take 16 T1 ++ (1 ∷ (take 4 (drop 17 T1) ++ drop 24 T1))

abbrev pub T3 : List ℕ
T3 = take 16 T1 ++ (0 ∷ drop 24 T1)

-- a proof, a line of the paper to each line here
abbrev pub P : List ℕ
P =
    2 ∷ 7
    ∷ 1 ∷ 0 ∷ 1 ∷ 1 ∷ 1 ∷ 0 ∷ 0 ∷ 2
    ∷ 1 ∷ 1 ∷ 1 ∷ 0 ∷ 0 ∷ 0 ∷ 2
    ∷ 2 ∷ 1 ∷ 0 ∷ 0 ∷ 0 ∷ 0
    ∷ 7 ∷ 0 ∷ 0 ∷ 1 ∷ 2 ∷ 3 ∷ 0 ∷ 1 ∷ 0 ∷ 0 ∷ 2 ∷ 1 ∷ 0 ∷ 0 ∷ 2 ∷ 1 ∷ 0 ∷ 0 ∷ 0
    ∷ 8 ∷ 0 ∷ 3 ∷ 0 ∷ 0 ∷ 2 ∷ 1 ∷ 0 ∷ 0 ∷ 2 ∷ 1 ∷ 0 ∷ 0 ∷ 0
    ∷ 8 ∷ 4 ∷ 1 ∷ 0 ∷ 0 ∷ 1 ∷ 1 ∷ 0 ∷ 0 ∷ 0
    ∷ 8 ∷ 5 ∷ 2 ∷ 0 ∷ 0 ∷ 0
    ∷ []

-- A dossier with a certificate and the judge's reply, with any table of 64 words; or with a lent table, the reply to it, and what the table then holds.
pub data Case : Type 0 where
  judged : List ℕ → List ℕ → Reply → Case
  answered : List ℕ → List ℕ → Result ℕ Reply → List ℕ → Case

-- f and g meet a case
unfoldable pub Meets : Judging → Answering → Case → Type 0
Meets f g (judged d c reply) = (t : List ℕ) → length t ≡ 64 → (f d c t).reply ≡ reply
Meets f g (answered d t reply after) = ((g d t).reply ≡ reply) × ((g d t).table ≡ after)

-- (a) "T1's answers are 1, 0, the count 2": the lent table has a word more than T1 has probes. 01 names no certificate for (i) "T1 without its last word" and (j) "T1 with one word
-- more": P.
abbrev pub case_a : Case
case_a = answered T1 (7 ∷ 7 ∷ 7 ∷ []) (Ok 2) (1 ∷ 0 ∷ 7 ∷ [])

abbrev pub case_b : Case
case_b = judged T1 P (accepted Detectable)

abbrev pub case_c : Case
case_c = judged T2 P (refused 16 Certificate 10 7)

abbrev pub case_d : Case
case_d = judged T2 (1 ∷ 1 ∷ 2 ∷ 0 ∷ []) (accepted Opaque)

abbrev pub case_e : Case
case_e = judged T1 (1 ∷ 1 ∷ 2 ∷ 0 ∷ []) (refused 14 Dossier 21 3)

abbrev pub case_f : Case
case_f = judged T1 (1 ∷ 1 ∷ 0 ∷ 0 ∷ []) (refused 15 Dossier 25 3)

abbrev pub case_g : Case
case_g = judged T1 (1 ∷ 0 ∷ []) (refused 14 Dossier 17 4)

abbrev pub case_h : Case
case_h = judged T3 (1 ∷ 0 ∷ []) (accepted Opaque)

abbrev pub case_i : Case
case_i = judged (take 27 T1) P (refused 1 Dossier 27 0)

abbrev pub case_j : Case
case_j = judged (T1 ++ (0 ∷ [])) P (refused 9 Dossier 28 1)

abbrev pub cases : List Case
cases = case_a ∷ case_b ∷ case_c ∷ case_d ∷ case_e ∷ case_f ∷ case_g ∷ case_h ∷ case_i ∷ case_j ∷ []

abbrev pub CasesHold : Judging → Answering → Type 0
CasesHold f g = (c : Case) → c ∈ cases → Meets f g c
