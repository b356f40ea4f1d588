-- The statements that a proof need speak of: a given S, where S are some of an entry's credentials.
use mathlib.Core.Path.{◌≡◌, refl}
use mathlib.Core.List.Memᴰ
use mathlib.Core.List.Sublistᴰ
use mathlib.Core.List.{List, [], ◌∷◌, map, flat_map, Sublistᴰ}
use mathlib.Core.Option.{some}
use Prim.Native.Nat.{ℕ, ◌<◌}
use Rattle.meaning.specs.Tests.{◌∈◌, at}
use Rattle.meaning.specs.Policy.{Clause}
use Rattle.meaning.specs.Papers.{Entry, Dossier, Statement}
use Rattle.meaning.specs.Rules.{omit}
use Rattle.meaning.specs.Extends.{WellNamed}
use Rattle.meaning.proofs.Tests.{map_of, map_at, below_at}
use Rattle.completeness.specs.Form.{Pairwise, size, WellFormed, StatementForm}
use Rattle.completeness.proofs.Lists.{flat_map_of, flat_map_at, sublist_in, sublist_pairwise, keep_sublist, sublists, sublists_of, sublists_at, up_to, up_to_at, up_to_of}

-- "a given S", with no atoms
abbrev pub st : List ℕ → ℕ → Statement
st S a = record { creds = S; atoms = []; atom = a }

module _ (D : Dossier) where
  -- some of the credentials of an entry
  abbrev pub Part : List ℕ → Type 0
  Part S = (e : Entry) × e ∈ (D.secret ∷ D.probes) × Sublistᴰ S e.creds

  pub part_omit : (c : ℕ) {S : List ℕ} → Part S → Part (omit c S)
  unfolding omit
  part_omit c {S} (e, m, s) = (e, m, Sublistᴰ.trans (keep_sublist _ S) s)

  pub statements : List Statement
  statements = flat_map (λ (e : Entry). flat_map (λ (S : List ℕ). map (st S) (up_to (size D))) (sublists e.creds)) (D.secret ∷ D.probes)

  pub statement_of : {S : List ℕ} {a : ℕ} → Part S → a < size D → st S a ∈ statements
  unfolding statements
  statement_of {S} {a} (e, m, s) h = flat_map_of _ m (flat_map_of _ (sublists_of s) (map_of (st S) (up_to_of (size D) a h)))

  pub statement_at : {s : Statement} → s ∈ statements → (S : List ℕ) × (a : ℕ) × Part S × (a < size D) × (s ≡ st S a)
  unfolding statements
  statement_at m =
      let (e, me, n) = flat_map_at _ (D.secret ∷ D.probes) m in
      let (S, ms, k) = flat_map_at _ (sublists e.creds) n in
      let (a, ma, q) = map_at (st S) (up_to (size D)) k in
      (S, a, (e, me, sublists_at e.creds ms), up_to_at (size D) ma, q)

  module _ (wf : WellFormed D) where
    pub part_cred : {S : List ℕ} {c : ℕ} → Part S → c ∈ S → (d : Clause) × (at D.creds c ≡ some d)
    unfolding WellNamed
    part_cred {S} {c} (e, m, s) n = below_at D.creds c (wf.named e m c (sublist_in s n))

    pub statement_form : {s : Statement} → s ∈ statements → StatementForm D s × (s.atoms ≡ [])
    unfolding Pairwise WellNamed
    statement_form {s} m =
        let (S, a, (e, me, sub), h, q) = statement_at m in
        rw q (
          record {
            creds_rising = sublist_pairwise _ sub (wf.rising e me);
            atoms_rising = tt;
            creds_below = λ i n. wf.named e me i (sublist_in sub n);
            atoms_below = λ x n. absurd (Memᴰ.not-nil n);
            atom_below = h;
          },
          refl,
        )
