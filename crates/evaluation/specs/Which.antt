-- The policy that is evaluated: the dossier's own, or the one that is tried for a witness.
use Rattle.std.specs.Prelude.{ℕ, ◌+◌, ◌≤◌, ◌<◌, Bool, true, false, List, [], map, length, get_or}
use Rattle.meaning.specs.Tests.{◌∈◌, ◌or◌, keep, choose}
use Rattle.meaning.specs.Policy.{Clause, Policy}
use Rattle.meaning.specs.Formula.{joined}
use Rattle.meaning.specs.Papers.{Marked, policy}
use Rattle.meaning.specs.Verdict.{tried}
use Rattle.promise.specs.Place.{Kind, part, many, Fit}
use Rattle.promise.specs.Clause.{clause_at, clause_of, ClauseFits, credential}
use Rattle.promise.specs.Formula.{entry_of}
use Rattle.promise.specs.Layout.{dossier_at, Laid, CredStarts}
use Rattle.promise.specs.declared.ClauseAt.{ClauseAt}
use Rattle.promise.specs.declared.EntryAt.{EntryAt}
use Rattle.promise.specs.declared.Layout.{Layout}
use Rattle.evaluation.specs.Table.{fire_one}
use Rattle.evaluation.specs.declared.Which.{Which}
use Rattle.evaluation.specs.declared.Which.TheVariants.{Own, Tried}

-- ---- the clauses that are fired

-- what firing asks of a clause: the words of its body are there, and its atoms are below n
pub record Fires (n : ℕ) (s : List ℕ) (c : ClauseAt) : Type 0 where
  pub there : c.body + c.count ≤ length s
  pub body : (x : ℕ) → x ∈ part s c.body c.count → x < n
  pub head : c.head < n

-- all of the dossier's clauses, or the visible ones; and the firing of one of them
unfoldable pub kept : Bool → List Marked → Policy
kept true l = map (λ (m : Marked). m.clause) l
kept false l = map (λ (m : Marked). m.clause) (keep (λ (m : Marked). m.visible) l)

unfoldable pub fire_marked : Bool → ℕ → Marked → List ℕ → List ℕ
fire_marked every r m t = choose (every or m.visible) (fire_one r m.clause t) t

-- a credential named by its number, which stands at p; the table has where each credential begins
abbrev pub named_at : List ℕ → List ℕ → ℕ → ClauseAt
named_at table ws p = clause_at ws (get_or table (get_or ws p 0) 0)

pub record NamedFits (n : ℕ) (table ws : List ℕ) (p : ℕ) : Type 0 where
  pub there : p < length ws
  pub listed : get_or ws p 0 < length table
  pub fits : ClauseFits n ws (get_or table (get_or ws p 0) 0)

abbrev pub named : ℕ → List ℕ → Kind Clause
named n table = record { read = λ ws p. clause_of ws (named_at table ws p); next = λ ws p. p + 1; ok = NamedFits n table }

-- ---- by the dossier's layout o; d are the dossier's words, w the certificate's, whose witness has j clauses

unfoldable pub policy_at : List ℕ → Layout → List ℕ → Which → Policy
policy_at d o w Own = policy (dossier_at d o)
policy_at d o w (Tried j) = tried (dossier_at d o) (many (credential o.atoms) w 2 j)

-- joined with the credentials of the entry that e is a view of
unfoldable pub joined_at : List ℕ → Layout → List ℕ → Which → EntryAt → Policy
joined_at d o w which e = joined (dossier_at d o).creds (policy_at d o w which) (entry_of d e).creds []

-- what evaluation needs to have been found: of the policy, and of the entry
unfoldable pub WhichFits : ℕ → List ℕ → Which → Type 0
WhichFits n w Own = Unit {0}
WhichFits n w (Tried j) = Fit (credential n) w 2 j

pub record Ready (d : List ℕ) (o : Layout) (creds w : List ℕ) (which : Which) : Type 0 where
  pub laid : Laid d o
  pub starts : CredStarts d o creds
  pub witness : WhichFits o.atoms w which

pub record Sources (d : List ℕ) (o : Layout) (creds w : List ℕ) (which : Which) (e : EntryAt) : Type 0 where
  pub ready : Ready d o creds w which
  pub there : e.creds + e.count ≤ length d
  pub names : (x : ℕ) → x ∈ part d e.creds e.count → x < o.ncreds
