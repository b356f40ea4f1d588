-- A line that speaks of every statement follows by one of the rules 1, 2, 3, 5, 6, 7, or else the values that make its literals false are those of a witness.
use mathlib.Core.Path.{◌≡◌, refl, ap, ◌∙◌}
use mathlib.Core.Bool.{Bool, true, false, not, not-not}
use mathlib.Core.List.Memᴰ
use mathlib.Core.List.Sublistᴰ
use mathlib.Core.List.{List, [], ◌∷◌, flat_map}
use mathlib.Core.Option.{Option, some}
use mathlib.Core.Logic.{◌⊎◌, inl, inr, ⊎_map}
use Prim.Native.Nat.{ℕ, suc, ◌+◌, ◌<◌}
use native.Mathlib.Omega.{arith}
use lib.ListN.{length}
use Rattle.meaning.specs.Tests.{◌∈◌, ◌and◌, ◌or◌, agree, ◌is◌, all, any, mem, at}
use Rattle.meaning.specs.Policy.{Clause, Policy}
use Rattle.meaning.specs.Formula.{Formula, always, atom, neg, conj, disj, read, truth}
use Rattle.meaning.specs.Papers.{Entry, Marked, Dossier, policy, visible, answer, Statement, Literal, Rule, number, Line, witness}
use Rattle.meaning.specs.Looks.{aim}
use Rattle.meaning.specs.Rules.{supposed, not₃, and₃, or₃, value, ◌gives◌, denied, fires, claims, omit, follows}
use Rattle.meaning.specs.Verdict.{opaque}
use Rattle.meaning.specs.Demands.{When}
use Rattle.meaning.proofs.Tests.{cases, clash, not_opposite, and_both, and_of, or_right, agree_of, is_refl, same_refl, all_of, any_at, none_at, keep_at, map_at, named_of, at_mem, at_below, mem_at, mem_index}
use Rattle.meaning.proofs.Rounds.{ClosedIn}
use Rattle.meaning.proofs.Truth.{alike_tested, unlike_tested}
use Rattle.meaning.proofs.Verdict.{own_visible, tried_visible, judge_exactly}
use Rattle.completeness.specs.Form.{size, AtomsBelow, WellFormed}
use Rattle.completeness.specs.Complete.{SomeWitness}
use Rattle.completeness.specs.Needed.{enough}
use Rattle.completeness.proofs.Lists.{flat_map_of, mem_of, up_to, up_to_of}
use Rattle.completeness.proofs.Tree.{lit, is_in_of, Known, known_at, gives_at}
use Rattle.completeness.proofs.Statements.{st, Part, part_omit, statements, statement_of, part_cred}
use Rattle.completeness.proofs.Model.{VisibleClosed, CredsClosed, HeadsEnough, UnfiredSpared, Obeys, own, model, model_given, own_form}

-- ---- the rules 1, 2, 3, 5, 6, 7 with data words below n

six : ℕ → ℕ → ℕ → ℕ → List Rule
six a b c d = Rule.probe a ∷ Rule.secret ∷ Rule.clause a b ∷ Rule.credential a b ∷ Rule.cut a b ∷ Rule.without a b c d ∷ []

rules : ℕ → List Rule
rules n = flat_map (λ a. flat_map (λ b. flat_map (λ c. flat_map (λ d. six a b c d) (up_to n)) (up_to n)) (up_to n)) (up_to n)

-- that a rule is one of these, and of those that are enough
listed : Unit {0}
unfolding six enough mem any at ◌or◌ ◌is◌
listed = tt

-- more than every data word that names something
abbrev bound : Dossier → List Literal → ℕ
bound D C = suc (length C + length D.probes + length D.clauses + length D.creds)

-- none of them gives the line C after the lines e
abbrev Silent : Dossier → List Line → List Literal → Type 0
Silent D e C =
    (a b c d : ℕ) → (a < bound D C) × (b < bound D C) × (c < bound D C) × (d < bound D C)
    → (r : Rule) → r ∈ six a b c d → mem (number r) enough ≡ true → follows D e C r ≡ true → ⊥

found : (D : Dossier) (e : List Line) (C : List Literal) → ((r : Rule) × (number r ∈ enough) × (follows D e C r ≡ true)) ⊎ Silent D e C
unfolding rules
found D e C = go (cases (any test (rules (bound D C))))
  where
    test : Rule → Bool
    test r = mem (number r) enough and follows D e C r

    up : {a : ℕ} → a < bound D C → a ∈ up_to (bound D C)
    up {a} h = up_to_of (bound D C) a h

    go : (any test (rules (bound D C)) ≡ true) ⊎ (any test (rules (bound D C)) ≡ false) → ((r : Rule) × (number r ∈ enough) × (follows D e C r ≡ true)) ⊎ Silent D e C
    go (inl h) = let (r, m, t) = any_at test _ h in let q = and_both t in inl (r, mem_at q.0, q.1)
    go (inr h) = inr (λ a b c d l r m u f. clash (and_of u f) (none_at test h (flat_map_of _ (up l.0) (flat_map_of _ (up l.1) (flat_map_of _ (up l.2) (flat_map_of _ (up l.3) m))))))

-- known values compute as Bools do
and_known : (a b : Bool) → and₃ (some a) (some b) ≡ some (a and b)
unfolding and₃ ◌and◌
and_known true b = refl
and_known false b = refl

or_known : (a b : Bool) → or₃ (some a) (some b) ≡ some (a or b)
unfolding or₃ not₃ and₃ ◌or◌
or_known true b = refl
or_known false b = ap {B = Option Bool} some (not-not b)

-- ---- then the values that make each literal of C false obey the rules

module _ (D : Dossier) (wf : WellFormed D) (e : List Line) (C : List Literal) (full : (s : Statement) → s ∈ statements D → Known C s) (silent : Silent D e C) where
  val : List ℕ → ℕ → Bool
  val S a = supposed C (st S a) gives true

  val_known : {S : List ℕ} {a : ℕ} → Part D S → a < size D → supposed C (st S a) ≡ some (val S a)
  unfolding val ◌gives◌ agree
  val_known {S} {a} p h = let (b, q) = full _ (statement_of D p h) in rw q (go b)
    where
      go : (b : Bool) → some b ≡ some (agree b true)
      go true = refl
      go false = refl

  val_true : (S : List ℕ) (a : ℕ) → val S a ≡ true → (j : ℕ) × (at C j ≡ some (lit false (st S a)))
  unfolding val
  val_true S a h = gives_at C (st S a) true h

  val_false : {S : List ℕ} {a : ℕ} → Part D S → a < size D → val S a ≡ false → (j : ℕ) × (at C j ≡ some (lit true (st S a)))
  val_false {S} {a} p h f = known_at C (st S a) (rw f at (val_known p h))

  -- a statement is true if its positive literal would make C follow
  must : {S : List ℕ} {a : ℕ} → Part D S → a < size D → ((j : ℕ) → at C j ≡ some (lit true (st S a)) → ⊥) → val S a ≡ true
  must {S} {a} p h f = not_opposite (val S a) true (λ v. let (j, q) = val_false p h v in f j q)

  val_denied : (S : List ℕ) (a b : ℕ) → val S b ≡ true → denied C (st S a) b ≡ true
  unfolding denied
  val_denied S a b h = let (j, q) = val_true S b h in is_in_of (at_mem C j q)

  val_fires : (d : Clause) (S : List ℕ) → ((b : ℕ) → b ∈ d.body → val S b ≡ true) → fires C d (lit true (st S d.head)) ≡ true
  unfolding fires
  val_fires d S f = and_of (and_of refl (is_refl d.head)) (all_of _ d.body (λ b n. val_denied S d.head b (f b n)))

  -- rule 3
  visible_closed : VisibleClosed D val
  unfolding ClosedIn visible follows listed
  visible_closed S p c m f =
      let (x, n, q) = map_at (λ (x : Marked). x.clause) _ m in
      let (mx, vis) = keep_at (λ (x : Marked). x.visible) D.clauses n in
      let (i, li, ei) = mem_index mx in
      rw q (must p (wf.clauses x mx).head λ j ej.
      let lj = at_below C j ej in
      silent i j 0 0 (omega arith) (Rule.clause i j) (at_mem _ 2 refl) refl
      (named_of _ ei (named_of _ ej (and_of vis (val_fires x.clause S (rw q at f))))))

  -- rule 5
  creds_closed : CredsClosed D val
  unfolding follows listed
  creds_closed S p i d m ed f =
      must p (wf.creds d (at_mem _ i ed)).head λ j ej.
      let li = at_below D.creds i ed in
      let lj = at_below C j ej in
      silent i j 0 0 (omega arith) (Rule.credential i j) (at_mem _ 3 refl) refl
      (named_of _ ed (named_of _ ej (and_of (mem_of m) (val_fires d S f))))

  -- rule 6
  heads_enough : HeadsEnough D val
  unfolding follows listed all
  heads_enough R S a r p ha v f =
      must p ha λ j ej.
      let (i, ei) = val_true R a v in
      let li = at_below C i ei in
      let lj = at_below C j ej in
      silent j i 0 0 (omega arith) (Rule.cut j i) (at_mem _ 4 refl) refl
      (named_of _ ej (named_of _ ei (and_of (and_of (and_of (and_of refl refl) (is_refl a)) refl) (all_of _ R λ c m.
      let (d, ed) = part_cred D wf r m in
      or_right (mem c S) (named_of (λ (x : Clause). denied C (st S a) x.head) ed (val_denied S a d.head (f c d m ed)))))))

  -- rule 7
  unfired_spared : UnfiredSpared D val
  unfolding follows listed claims
  unfired_spared S a c d p ha mc ed b mb f v =
      must (part_omit D c p) ha λ j ej.
      let (i, ei) = val_true S a v in
      let (k, ek) = val_false (part_omit D c p) ((wf.creds d (at_mem _ c ed)).body b mb) f in
      let lc = at_below D.creds c ed in
      let li = at_below C i ei in
      let lj = at_below C j ej in
      let lk = at_below C k ek in
      let claim = and_of (and_of {a = true} refl (same_refl (omit c S))) (same_refl []) in
      silent c i j k (omega arith) (Rule.without c i j k) (at_mem _ 5 refl) refl
      (named_of _ ed (named_of _ ei (named_of _ ej (named_of _ ek (and_of (and_of (and_of (and_of (and_of refl (mem_of mc)) claim) (is_refl a)) claim) (mem_of mb))))))

  obeys : Obeys D val
  obeys = record { visible_closed = visible_closed; creds_closed = creds_closed; heads_enough = heads_enough; unfired_spared = unfired_spared }

  -- the policy with these values
  Q : Policy
  Q = model D wf val obeys

  model_value : {S : List ℕ} → Part D S → (f : Formula) → AtomsBelow (size D) f → value C S f ≡ some (truth D.creds Q S f)
  unfolding value truth read AtomsBelow not₃ Q
  model_value p always h = refl
  model_value p (atom a) h = rw (model_given D wf val obeys p h) (val_known p h)
  model_value p (neg f) h = rw (model_value p f h)
  model_value p (conj f g) h = rw (model_value p f h.0, model_value p g h.1) (and_known _ _)
  model_value p (disj f g) h = rw (model_value p f h.0, model_value p g h.1) (or_known _ _)

  entry_value : {x : Entry} → x ∈ (D.secret ∷ D.probes) → value C x.creds x.formula ≡ some (answer D Q x)
  unfolding answer
  entry_value {x} m = model_value (x, m, Sublistᴰ.refl x.creds) x.formula (wf.atoms x m)

  -- rule 1: each probe is answered alike
  probes_alike : (x : Entry) → x ∈ D.probes → answer D Q x ≡ answer D (policy D) x
  unfolding follows listed ◌gives◌
  probes_alike x m = not_opposite _ _ λ h.
      let (k, lk, ek) = mem_index m in
      silent k 0 0 0 (omega arith) (Rule.probe k) (at_mem _ 0 refl) refl (named_of _ ek (rw (entry_value (Memᴰ.tail m)) (agree_of h)))

  -- rule 2: the secret is denied
  secret_denied : answer D Q D.secret ≡ not (aim D)
  unfolding follows listed ◌gives◌
  secret_denied = not_opposite _ _ λ h.
      silent 0 0 0 0 (omega arith) Rule.secret (at_mem _ 1 refl) refl (rw (entry_value (Memᴰ.head refl)) (agree_of (h ∙ not-not (aim D))))

  -- so they are a witness
  witnessed : SomeWitness D
  unfolding Q model When aim
  witnessed = (
    W,
    (judge_exactly D (witness W) opaque).1 (
      record {
        first = own_visible D;
        second = tried_visible D W;
        alike = λ x m. (alike_tested D (policy D) Q x).1 (probes_alike x m);
      },
      (unlike_tested D (policy D) Q D.secret).1 secret_denied,
    ),
    own_form D wf val obeys,
  )
    where
      W : Policy
      W = own D wf val obeys

-- the line follows, or there is a witness
pub follows_or_witness : (D : Dossier) → WellFormed D → (e : List Line) (C : List Literal) → ((s : Statement) → s ∈ statements D → Known C s) → ((r : Rule) × (number r ∈ enough) × (follows D e C r ≡ true)) ⊎ SomeWitness D
follows_or_witness D wf e C full = ⊎_map (λ r. r) (witnessed D wf e C full) (found D e C)
