-- What the reader's form asks is more than completeness needs.
use mathlib.Core.List.Memᴰ
use mathlib.Core.List.{List, [], ◌∷◌}
use Prim.Native.Nat.{ℕ, zero, suc, ◌≤◌}
use native.Mathlib.Omega.{arith}
use lib.ListN.{length}
use Rattle.meaning.specs.Tests.{◌∈◌}
use Rattle.meaning.specs.Policy.{Clause}
use Rattle.meaning.specs.Formula.{Formula, always, atom, neg, conj, disj, read}
use Rattle.meaning.specs.Papers.{Entry, Dossier}
use Rattle.meaning.specs.Extends.{WellNamed}
use Rattle.completeness.specs.Form.{Pairwise, Rising, size, Within, AtomsBelow}
use Rattle.words.specs.Code.{RisingFrom}
use Rattle.promise.specs.Form.{ClauseForm, FormulaForm, EntryForm, DossierForm}
use Rattle.completeness.specs.Sound.{SoundIsWellFormed}

rising_low : (low : ℕ) (l : List ℕ) → RisingFrom low l → (y : ℕ) → y ∈ l → low ≤ y
unfolding RisingFrom
rising_low low [] r y m = elim m [ ]
rising_low low (x ∷ l) r y (Memᴰ.head e) = let h = r.0 in omega arith
rising_low low (x ∷ l) r y (Memᴰ.tail m) = let h = r.0 in omega (arith, rising_low (suc x) l r.1 y m)

rising_follows : (low : ℕ) (l : List ℕ) → RisingFrom low l → Rising l
unfolding RisingFrom Pairwise
rising_follows low [] r = tt
rising_follows low (x ∷ l) r = (λ y m. rising_low (suc x) l r.1 y m, rising_follows (suc x) l r.1)

atoms_follow : (n d : ℕ) (f : Formula) → FormulaForm n d f → AtomsBelow n f
unfolding FormulaForm AtomsBelow read
atoms_follow n zero f h = absurd h
atoms_follow n (suc d) always h = tt
atoms_follow n (suc d) (atom a) h = h
atoms_follow n (suc d) (neg f) h = atoms_follow n d f h
atoms_follow n (suc d) (conj f g) h = (atoms_follow n d f h.0, atoms_follow n d g h.1)
atoms_follow n (suc d) (disj f g) h = (atoms_follow n d f h.0, atoms_follow n d g h.1)

entries : (D : Dossier) → DossierForm D → (e : Entry) → e ∈ (D.secret ∷ D.probes) → EntryForm (size D) (length D.creds) e
entries D h e (Memᴰ.head q) = rw q h.secret
entries D h e (Memᴰ.tail m) = h.probes.each e m

within : (n : ℕ) (c : Clause) → ClauseForm n c → Within n c
within n c h = record { head = h.head; body = h.body.below }

pub sound_is_well_formed : SoundIsWellFormed
unfolding WellNamed
sound_is_well_formed D h =
    record {
      clauses = λ m i. within (size D) m.clause (h.clauses.each m i);
      creds = λ c i. within (size D) c (h.creds.each c i);
      atoms = λ e m. atoms_follow (size D) 16 e.formula (entries D h e m).formula;
      rising = λ e m. rising_follows 0 e.creds (entries D h e m).creds.rising;
      named = λ e m. (entries D h e m).creds.below;
    }
