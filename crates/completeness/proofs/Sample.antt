-- A dossier of which every proof uses the rules 1, 2, 3, 5, 6 and 8, with such a proof.
use mathlib.Core.Path.{◌≡◌, refl}
use mathlib.Core.Bool.{Bool, true, false, not, false≢true}
use mathlib.Core.List.{List, [], ◌∷◌}
use mathlib.Core.Option.{Option, none, some}
use Prim.Native.Nat.{ℕ, zero, suc, ◌<◌}
use native.Mathlib.Omega.{arith}
use Rattle.meaning.specs.Tests.{◌∈◌, ◌is◌}
use Rattle.meaning.specs.Policy.{Clause, fact}
use Rattle.meaning.specs.Formula.{Formula, atom, conj}
use Rattle.meaning.specs.Papers.{Entry, Marked, Dossier, Statement, Literal, Rule, Line}
use Rattle.meaning.specs.Looks.{Detectable}
use Rattle.meaning.specs.Rules.{supposed, and₃, ◌gives◌, follows}
use Rattle.meaning.specs.Extends.{WellNamed}
use Rattle.meaning.proofs.Tests.{and_both, named_at_lem, at_mem, mem_at}
use Rattle.meaning.proofs.Demands.{demand3}
use Rattle.completeness.specs.Form.{Pairwise, Within, AtomsBelow, WellFormed}
use Rattle.meaning.specs.Example.{entry_of, literal, line}
use Rattle.meaning.proofs.Example.{compute}
use Rattle.completeness.proofs.Example.{none_of, also}

-- Fact 0, visible if seen; hidden facts 1, 2 and 3; a credential for 1, and the secret with it.
unfoldable pub sample_with : Bool → List ℕ → List Entry → Formula → Dossier
sample_with seen body probes secret =
    record {
      labels = 10 ∷ 20 ∷ 30 ∷ 40 ∷ [];
      clauses = marked seen 0 ∷ marked false 1 ∷ marked false 2 ∷ marked false 3 ∷ [];
      creds = record { head = 1; body = body } ∷ [];
      probes = probes;
      secret = record { creds = 0 ∷ []; formula = secret };
    }
  where
    marked : Bool → ℕ → Marked
    marked b a = record { visible = b; clause = fact a }

-- 2 without the credential
unfoldable pub probed : List Entry
probed = entry_of [] 2 ∷ []

-- 2 and 0 and 1
unfoldable pub three : Formula
three = conj (atom 2) (conj (atom 0) (atom 1))

unfoldable pub sample : Dossier
sample = sample_with true [] probed three

-- all that a changed sample computes through
unfoldable pub unfold_sample : Unit {0}
unfolding compute sample_with probed three sample
unfold_sample = tt

lines : List Line
lines =
    line (Rule.probe 0) (literal true [] 2 ∷ [])
    ∷ line (Rule.cut 0 1) (literal true (0 ∷ []) 2 ∷ literal false [] 2 ∷ [])
    ∷ line (Rule.resolve 0 1 0 1) (literal true (0 ∷ []) 2 ∷ [])
    ∷ line (Rule.clause 0 0) (literal true (0 ∷ []) 0 ∷ [])
    ∷ line (Rule.credential 0 0) (literal true (0 ∷ []) 1 ∷ [])
    ∷ line Rule.secret (literal false (0 ∷ []) 2 ∷ literal false (0 ∷ []) 0 ∷ literal false (0 ∷ []) 1 ∷ [])
    ∷ line (Rule.resolve 2 5 0 0) (literal false (0 ∷ []) 0 ∷ literal false (0 ∷ []) 1 ∷ [])
    ∷ line (Rule.resolve 3 6 0 0) (literal false (0 ∷ []) 1 ∷ [])
    ∷ line (Rule.resolve 4 7 0 0) []
    ∷ []

pub sample_detectable : Detectable sample
unfolding unfold_sample lines line literal
sample_detectable = demand3.every sample lines refl

pub sample_well_formed : WellFormed sample
unfolding unfold_sample AtomsBelow Pairwise WellNamed
sample_well_formed =
    record {
      clauses = also _ (within (omega arith)) (also _ (within (omega arith)) (also _ (within (omega arith)) (also _ (within (omega arith)) (none_of _))));
      creds = also _ (within (omega arith)) (none_of _);
      atoms = also _ (omega arith) (also _ (omega arith) (none_of _));
      rising = also _ (none_of _, tt) (also _ tt (none_of _));
      named = also _ (also _ (omega arith) (none_of _)) (also _ (none_of _) (none_of _));
    }
  where
    within : {a : ℕ} → a < 4 → Within 4 (fact a)
    within h = record { head = h; body = none_of _ }

-- ---- what its rules ask

-- 2, given S
unfoldable pub two : List ℕ → Statement
two S = record { creds = S; atoms = []; atom = 2 }

pub sample_probe : (b : List Line) (ls : List Literal) (k : ℕ) → follows sample b ls (Rule.probe k) ≡ true → supposed ls (two []) gives false ≡ true
unfolding unfold_sample two
sample_probe b ls zero h = h
sample_probe b ls (suc k) h = absurd (false≢true h)

pub sample_secret : (b : List Line) (ls : List Literal) → follows sample b ls Rule.secret ≡ true → supposed ls (two (0 ∷ [])) gives true ≡ true
unfolding unfold_sample two
sample_secret b ls h = first (supposed ls (two (0 ∷ []))) _ h
  where
    first : (o p : Option Bool) → and₃ o p gives true ≡ true → o gives true ≡ true
    first (some true) p h = refl
    first (some false) p h = h
    first none none h = h
    first none (some true) h = h
    first none (some false) h = h

-- no visible clause, and no credential, is on 2
pub sample_clauses : (m : Marked) → m ∈ sample.clauses → m.visible ≡ true → not (m.clause.head is 2) ≡ true
unfolding unfold_sample
sample_clauses = also _ (λ _. refl) (also _ never (also _ never (also _ never (none_of _))))
  where
    never : {A : Type 0} → false ≡ true → A
    never z = absurd (false≢true z)

pub sample_creds : (c : Clause) → c ∈ sample.creds → not (c.head is 2) ≡ true
unfolding unfold_sample
sample_creds = also _ refl (none_of _)

-- rule 7 never follows: the credential has no body
pub sample_without : (b : List Line) (ls : List Literal) (c i j k : ℕ) → follows sample b ls (Rule.without c i j k) ≡ true → ⊥
unfolding follows
sample_without b ls c i j k h =
    let (e, ee, g) = named_at_lem _ _ h in
    let (m, em, g₁) = named_at_lem _ _ g in
    let (l, el, g₂) = named_at_lem _ _ g₁ in
    let (x, ex, v) = named_at_lem _ _ g₂ in
    bodiless e (at_mem _ c ee) x.said.atom (mem_at (and_both v).1)
  where
    bodiless : (d : Clause) → d ∈ sample.creds → (a : ℕ) → a ∈ d.body → ⊥
    bodiless = unfold unfold_sample in also _ (none_of _) (none_of _)
