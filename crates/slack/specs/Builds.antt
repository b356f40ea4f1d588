-- "These empty builds have to break the promise": each fails the demands and the cases that 01 names, of any function.
use Rattle.std.specs.Prelude.{ℕ, ◌≤◌, ◌≡◌, true, List, length, get_or, Ok}
use Rattle.meaning.specs.Tests.{◌∈◌}
use Rattle.meaning.specs.Policy.{Policy}
use Rattle.meaning.specs.Papers.{Entry, Dossier, policy, visible, Line, witness, proof}
use Rattle.meaning.specs.Looks.{Alike}
use Rattle.meaning.specs.Rules.{line_follows}
use Rattle.meaning.specs.Verdict.{tried, probe_agrees, last_empty}
use Rattle.promise.specs.Code.{code_dossier, code_certificate}
use Rattle.promise.specs.Form.{DossierForm}
use Rattle.reply.specs.Answer.{accepted, refused}
use Rattle.reply.specs.declared.Paper.{Paper}
use Rattle.reply.specs.declared.Verdict.TheVariants.{Opaque, Detectable}
use Rattle.judging.specs.Cases.{Meets, case_a, case_b, case_c, case_d, case_e, case_g}
use Rattle.judging.specs.Demands.{Tabled, AnswersTabled, Accepts, Demand2, Demand3}
use Rattle.judging.specs.Entries.{Judging, Answering}
use Rattle.judging.specs.Table.{SoundFor, Long}

-- ---- the builds

-- "one that refuses everything"
abbrev pub RefusesAll : Judging → Type 0
RefusesAll f = (d c t : List ℕ) → (e : ℕ) × (p : Paper) × (a : ℕ) × (n : ℕ) × ((f d c t).reply ≡ refused e p a n)

-- "one that always says detectable"
abbrev pub AlwaysDetectable : Judging → Type 0
AlwaysDetectable f = (d c t : List ℕ) → (f d c t).reply ≡ accepted Detectable

-- with a table that is long enough it accepts each sound witness that gives the secret the opposite value and has P, each sound proof whose last line is empty and that has Q
abbrev pub Trusts : Judging → (Dossier → Policy → Type 0) → Type 0
Trusts f P =
    (D : Dossier) (W : Policy) → DossierForm D → SoundFor D (witness W) → P D W → (Alike D D.secret (policy D) (tried D W) → ⊥)
    → (t : List ℕ) → Long D t → Accepts f Opaque D (code_certificate (witness W)) t

abbrev pub TrustsLines : Judging → (Dossier → List Line → Type 0) → Type 0
TrustsLines f Q =
    (D : Dossier) (ls : List Line) → DossierForm D → SoundFor D (proof ls) → Q D ls → last_empty ls ≡ true
    → (t : List ℕ) → Long D t → Accepts f Detectable D (code_certificate (proof ls)) t

-- "one that tests only the first probe or first line and trusts the rest"
abbrev pub FirstProbe : Dossier → Policy → Type 0
FirstProbe D W = probe_agrees D W 0 ≡ true

abbrev pub FirstLine : Dossier → List Line → Type 0
FirstLine D ls = line_follows D ls 0 ≡ true

-- "Comparing with answers kept from an earlier save": one of before the hidden clauses were there
abbrev pub EarlierSave : Dossier → Policy → Type 0
EarlierSave D W = (e : Entry) → e ∈ D.probes → Alike D e (visible D) (tried D W)

-- ---- what each breaks

pub record Broken (f : Judging) (g : Answering) : Type 0 where
  -- "demand 2, cases (b) and (d)"
  pub refuses_all : RefusesAll f → (Demand2 f → ⊥) × (Meets f g case_b → ⊥) × (Meets f g case_d → ⊥)
  -- "the second also demand 3"
  pub always_detectable : AlwaysDetectable f → (Demand2 f → ⊥) × (Demand3 f → ⊥) × (Meets f g case_d → ⊥)
  -- "demand 2, (e) and (c)"
  pub first_probe : Trusts f FirstProbe → (Demand2 f → ⊥) × (Meets f g case_e → ⊥)
  pub first_line : TrustsLines f FirstLine → (Demand2 f → ⊥) × (Meets f g case_c → ⊥)
  pub earlier_save : Trusts f EarlierSave → (Demand2 f → ⊥) × (Meets f g case_g → ⊥)
  -- "one that leaves the answers table untouched, or gives an invented count": the same count for every sound dossier and every table that is long enough. (A build that always
  -- says 2 meets (a).)
  pub untouched : ((d t : List ℕ) → (g d t).table ≡ t) → (AnswersTabled g → ⊥) × (Meets f g case_a → ⊥)
  pub invented : (k : ℕ) → ((D : Dossier) (t : List ℕ) → DossierForm D → length D.probes ≤ length t → (g (code_dossier D) t).reply ≡ Ok k)
      → (AnswersTabled g → ⊥) × ((k ≡ 2 → ⊥) → Meets f g case_a → ⊥)
  -- and builds that do not tell why a probe differed (request A5): one that leaves the lent table untouched; one that tells whether an atom holds, by 0 and 1, and not in which
  -- round it was added
  pub unexplained : ((d c t : List ℕ) → (f d c t).table ≡ t) → Tabled f → ⊥
  pub only_whether : ((d c t : List ℕ) → ((a : ℕ) → get_or t a 0 ≤ 1) → (a : ℕ) → get_or (f d c t).table a 0 ≤ 1) → Tabled f → ⊥

abbrev pub EmptyBuilds : Type 0
EmptyBuilds = (f : Judging) (g : Answering) → Broken f g
