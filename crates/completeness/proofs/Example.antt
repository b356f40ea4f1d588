-- The worked instance: T1 of 01 is well formed, and P shows it detectable; so it has a proof in form.
use mathlib.Core.Path.{refl}
use mathlib.Core.List.Memᴰ
use mathlib.Core.List.{List, [], ◌∷◌}
use native.Mathlib.Omega.{arith}
use Rattle.meaning.specs.Tests.{◌∈◌}
use Rattle.meaning.specs.Formula.{read}
use Rattle.meaning.specs.Looks.{Detectable}
use Rattle.meaning.specs.Example.{clause_of, entry_of, example_with, t1, p}
use Rattle.meaning.proofs.Example.{compute}
use Rattle.meaning.specs.Extends.{WellNamed}
use Rattle.meaning.proofs.Demands.{demand3}
use Rattle.completeness.specs.Form.{Pairwise, AtomsBelow, WellFormed}
use Rattle.completeness.specs.Example.{T1Instance}
use Rattle.completeness.proofs.Complete.{detectable_exactly}

pub t1_detectable : Detectable t1
unfolding compute
t1_detectable = demand3.every t1 p refl

-- what is so of the elements of a short list
pub none_of : {A : Type 0} (P : A → Type 0) (x : A) → x ∈ [] → P x
none_of P x m = absurd (Memᴰ.not-nil m)

pub also : {A : Type 0} (P : A → Type 0) {a : A} {l : List A} → P a → ((x : A) → x ∈ l → P x) → (x : A) → x ∈ (a ∷ l) → P x
also P p f x (Memᴰ.head e) = rw e p
also P p f x (Memᴰ.tail m) = f x m

pub t1_well_formed : WellFormed t1
unfolding t1 example_with clause_of entry_of AtomsBelow read Pairwise WellNamed
t1_well_formed =
    record {
      clauses = also _ (record { head = omega arith; body = none_of _ }) (also _ (record { head = omega arith; body = also _ (omega arith) (none_of _) }) (none_of _));
      creds = also _ (record { head = omega arith; body = also _ (omega arith) (none_of _) }) (none_of _);
      atoms = also _ (omega arith) (also _ (omega arith) (also _ (omega arith) (none_of _)));
      rising = also _ tt (also _ (none_of _, tt) (also _ tt (none_of _)));
      named = also _ (none_of _) (also _ (also _ (omega arith) (none_of _)) (also _ (none_of _) (none_of _)));
    }

pub t1_instance : T1Instance
t1_instance = (t1_well_formed, (detectable_exactly t1 t1_well_formed).0 t1_detectable)
