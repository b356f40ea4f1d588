-- Things that lie one after the other: the literals of a line, and those that a table names.
use Prim.Native.Nat.{ℕ, ◌-◌, ◌<◌, ◌≤◌}
use mathlib.Core.Path.{◌≡◌, sym}
use mathlib.Core.Option.{none, some}
use mathlib.Core.List.{List, ◌∷◌}
use native.Mathlib.Omega.{arith}
use lib.ListN.{length}
use Rattle.std.specs.Prelude.{Some, None, slice_get}
use Rattle.std.proofs.Common.{take_all, take, get_or}
use Rattle.std.proofs.lemmas.Grind.{common_steps}
use Rattle.std.proofs.lemmas.Option.{gets}
use Rattle.meaning.specs.Tests.{at}
use Rattle.promise.specs.Place.{Kind, part, many, Fit, Starts}
use Rattle.promise.specs.Line.{literal_at, literal_of, literal, Held}
use Rattle.promise.specs.declared.LiteralAt.{LiteralAt}
use Rattle.promise.proofs.Place.{many_on, many_at, many_past, fit_first, fit_on}
use Rattle.promise.proofs.Seen.{held}

-- one turn: m is the view of the first
module _ (ws : List ℕ) (p k : ℕ) (more : 0 < k) {m : LiteralAt} (e : m ≡ literal_at ws p) where
  pub literals_on : many literal ws p k ≡ literal_of ws m ∷ many literal ws m.next (k - 1)
  literals_on = rw e (many_on literal ws p k more)

  pub literals_fit : Fit literal ws p k → Held ws m × Fit literal ws m.next (k - 1)
  literals_fit f = (held ws p e (fit_first literal ws p k more f), rw e (fit_on literal ws p k more f))

-- all the words
pub part_all : (ws : List ℕ) → part ws 0 (length ws) ≡ ws
unfolding part
part_all ws = take_all _ _ (omega arith)

-- entry j of the k in a table
module _ (t : List ℕ) (k j : ℕ) (long : k ≤ length t) where
  pub picked : {q : ℕ} → Some q ≡ slice_get (take k t) j → (j < k) × (q ≡ get_or t j 0)
  picked e = grind (arith, common_steps, gets)

  pub missing : None ≡ slice_get (take k t) j → k ≤ j
  missing e = grind (arith, common_steps, gets)

-- thing j of a kind, where the table has where each of the k begins
module _ {A : Type 0} (K : Kind A) (ws : List ℕ) (p k : ℕ) (t : List ℕ) (j : ℕ) (starts : Starts (K.next ws) p k t) where
  pub thing_at : {q : ℕ} → Some q ≡ slice_get (take k t) j → some (K.read ws q) ≡ at (many K ws p k) j
  thing_at e = let b = picked t k j starts.long e in rw (b.1, starts.each j b.0) (sym (many_at K ws p k j b.0))

  pub thing_fits : {q : ℕ} → Some q ≡ slice_get (take k t) j → Fit K ws p k → K.ok ws q
  unfolding Fit
  thing_fits e fit = let b = picked t k j starts.long e in rw (b.1, starts.each j b.0) (fit j b.0)

  pub thing_no : None ≡ slice_get (take k t) j → none ≡ at (many K ws p k) j
  thing_no e = sym (many_past K ws p k j (missing t k j starts.long e))
