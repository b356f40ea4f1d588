-- Firing the clauses of a policy, one after the other.
use Prim.Native.Nat.{ℕ, zero, suc, ◌+◌, ◌-◌, ◌<◌, ◌≤◌}
use mathlib.Core.Path.{◌≡◌, refl, sym, ap, ◌∙◌, subst}
use mathlib.Core.Bool.{Bool, true, false, not}
use mathlib.Core.List.Memᴰ
use mathlib.Core.List.{List, [], ◌∷◌, ◌++◌, map, append-nil}
use mathlib.Core.Option.{some}
use native.Mathlib.Omega.{arith}
use lib.Dec.{eqb, ltb}
use lib.ListN.{length, get_or, set, length-set}
use Rattle.meaning.specs.Tests.{◌∈◌, ◌and◌, ◌or◌, ◌is◌, all, choose, put, keep, at}
use Rattle.meaning.specs.Policy.{Clause, Policy}
use Rattle.meaning.specs.Formula.{pick, chosen, joined}
use Rattle.meaning.specs.Papers.{Marked, policy, visible}
use Rattle.meaning.specs.Verdict.{tried}
use Rattle.promise.specs.Place.{part, many, place, Fit, Starts}
use Rattle.promise.specs.Clause.{clause_at, clause_of, ClauseFits, credential, marked_of, marked}
use Rattle.promise.specs.declared.MarkedAt.{MarkedAt}
use Rattle.std.proofs.Common.{◌⊎◌, inl, inr}
use Rattle.promise.specs.Layout.{dossier_at}
use Rattle.promise.specs.declared.ClauseAt.{ClauseAt}
use Rattle.promise.specs.declared.EntryAt.{EntryAt}
use Rattle.promise.specs.declared.Layout.{Layout}
use Rattle.promise.proofs.Place.{part_none, part_cons, place_next, many_at}
use Rattle.evaluation.specs.Table.{has, before, fire_one, fire_all}
use Rattle.evaluation.specs.Which.{Fires, kept, fire_marked, named_at, NamedFits, named, policy_at, joined_at, WhichFits, Sources}
use Rattle.evaluation.specs.declared.Which.{Which}
use Rattle.evaluation.specs.declared.Which.TheVariants.{Own, Tried}

-- ---- one clause

-- the code's tests of a byte
pub has_word : (t : List ℕ) (a : ℕ) → not (eqb (get_or t a 0) 0) ≡ has t a
unfolding has ◌is◌
has_word t a = refl

module _ (r : ℕ) (t : List ℕ) (a : ℕ) {x : Bool} (e : x ≡ has t a) where
  pub before_word : x ≡ true → ltb (get_or t a 0) r ≡ before r t a
  unfolding before ◌and◌
  before_word h = rw (sym e ∙ h)

  pub before_not : x ≡ false → false ≡ before r t a
  unfolding before ◌and◌
  before_not h = rw (sym e ∙ h)

-- the head and the body were tested: the head is put in, or not
module _ (r h : ℕ) (body t : List ℕ) {x : Bool} (e : x ≡ has t h) where
  pub fire_there : x ≡ true → t ≡ fire_one r (record { head = h; body = body }) t
  unfolding fire_one choose ◌and◌
  fire_there n = rw (sym e ∙ n)

  module _ {y : Bool} (f : y ≡ all (before r t) body) where
    pub fire_yes : x ≡ false → y ≡ true → set t h r ≡ fire_one r (record { head = h; body = body }) t
    unfolding fire_one choose ◌and◌
    fire_yes n m = rw (sym e ∙ n, sym f ∙ m)

    pub fire_no : x ≡ false → y ≡ false → t ≡ fire_one r (record { head = h; body = body }) t
    unfolding fire_one choose ◌and◌
    fire_no n m = rw (sym e ∙ n, sym f ∙ m)

pub fire_length : (r : ℕ) (c : Clause) (t : List ℕ) → length (fire_one r c t) ≡ length t
unfolding fire_one choose
fire_length r c t = go (not (has t c.head) and all (before r t) c.body)
  where
    go : (b : Bool) → length (choose b (set t c.head r) t) ≡ length t
    go true = length-set t c.head r
    go false = refl

-- what firing asks of a clause that fits, through its view
pub fires : {s : List ℕ} {p n : ℕ} {c : ClauseAt} → c ≡ clause_at s p → ClauseFits n s p → Fires n s c
fires e f = rw e (record { there = f.ends; body = f.body; head = f.head })

-- ---- all of them

pub fire_all_none : (r : ℕ) (new : List ℕ) → fire_all r [] new ≡ new
unfolding fire_all
fire_all_none r new = refl

pub fire_all_more : (r : ℕ) (c : Clause) (P : Policy) (new : List ℕ) → fire_all r (c ∷ P) new ≡ fire_all r P (fire_one r c new)
unfolding fire_all
fire_all_more r c P new = refl

pub fire_all_length : (r : ℕ) (P : Policy) (new : List ℕ) → length (fire_all r P new) ≡ length new
unfolding fire_all
fire_all_length r [] new = refl
fire_all_length r (c ∷ P) new = fire_all_length r P (fire_one r c new) ∙ fire_length r c new

-- one policy after the other
fire_all_append : (r : ℕ) (P Q : Policy) (new : List ℕ) → fire_all r (P ++ Q) new ≡ fire_all r Q (fire_all r P new)
unfolding fire_all
fire_all_append r [] Q new = refl
fire_all_append r (c ∷ P) Q new = fire_all_append r P Q (fire_one r c new)

pub kept_none : (b : Bool) (r : ℕ) (new : List ℕ) → fire_all r (kept b []) new ≡ new
unfolding kept keep fire_all
kept_none true r new = refl
kept_none false r new = refl

pub kept_more : (b : Bool) (r : ℕ) (m : Marked) (l : List Marked) (new : List ℕ) → fire_all r (kept b (m ∷ l)) new ≡ fire_all r (kept b l) (fire_marked b r m new)
unfolding kept keep put fire_all fire_marked choose ◌or◌
kept_more true r m l new = refl
kept_more false r m l new = go m.visible
  where
    go : (v : Bool) → fire_all r (map (λ (x : Marked). x.clause) (put v m (keep (λ (x : Marked). x.visible) l))) new ≡ fire_all r (map (λ (x : Marked). x.clause) (keep (λ (x : Marked). x.visible) l)) (choose v (fire_one r m.clause new) new)
    go true = refl
    go false = refl

pub marked_length : (b : Bool) (r : ℕ) (m : Marked) (new : List ℕ) → length (fire_marked b r m new) ≡ length new
unfolding fire_marked choose
marked_length b r m new = go (b or m.visible)
  where
    go : (v : Bool) → length (choose v (fire_one r m.clause new) new) ≡ length new
    go true = fire_length r m.clause new
    go false = refl

-- a clause of the dossier is fired where every clause counts or it is visible, and else the table stays
pub marked_fires : (every : Bool) (r : ℕ) (ws : List ℕ) (m : MarkedAt) (t : List ℕ) → (every ≡ true) ⊎ (m.visible ≡ true) → fire_one r (clause_of ws m.clause) t ≡ fire_marked every r (marked_of ws m) t
unfolding fire_marked choose ◌or◌
marked_fires true r ws m t h = refl
marked_fires false r ws m t (inl e) = let c : false ≡ true = e in cc
marked_fires false r ws m t (inr e) = rw e

pub marked_stays : {every : Bool} (r : ℕ) (ws : List ℕ) (m : MarkedAt) (t : List ℕ) → every ≡ false → m.visible ≡ false → t ≡ fire_marked every r (marked_of ws m) t
unfolding fire_marked choose ◌or◌
marked_stays r ws m t e f = rw (e, f)

-- ---- the loops that fire

-- a way to go over a list with a table: the whole list, and one thing of it
pub record Fold (A : Type 0) : Type 0 where
  pub whole : List A → List ℕ → List ℕ
  pub one : A → List ℕ → List ℕ
  pub none : (t : List ℕ) → whole [] t ≡ t
  pub more : (x : A) (l : List A) (t : List ℕ) → whole (x ∷ l) t ≡ whole l (one x t)
  pub long : (x : A) (t : List ℕ) → length (one x t) ≡ length t

abbrev pub firing : ℕ → Fold Clause
firing r = record { whole = fire_all r; one = fire_one r; none = fire_all_none r; more = fire_all_more r; long = fire_length r }

abbrev pub keeping : Bool → ℕ → Fold Marked
keeping b r = record { whole = λ l. fire_all r (kept b l); one = fire_marked b r; none = kept_none b r; more = kept_more b r; long = marked_length b r }

-- ---- chosen credentials: those that the numbers name, through the table of where each begins

module _ (n : ℕ) (d : List ℕ) (b m : ℕ) (creds : List ℕ) (f : Fit (credential n) d b m) (s : Starts ((credential n).next d) b m creds) where
  one_fits : (p : ℕ) → p < length d → get_or d p 0 < m → NamedFits n creds d p
  unfolding Fit
  one_fits p h i = record { there = h; listed = omega (arith, s.long); fits = rw (s.each _ i) (f _ i) }

  one_is : (p : ℕ) → get_or d p 0 < m → at (many (credential n) d b m) (get_or d p 0) ≡ some (clause_of d (named_at creds d p))
  one_is p i = rw (s.each _ i) (many_at (credential n) d b m _ i)

  first_of_lem : (k q : ℕ) → q + suc k ≤ length d → part d q (suc k) ≡ get_or d q 0 ∷ part d (q + 1) k
  first_of_lem k q h = let z : suc k - 1 ≡ k = omega arith in rw z at (part_cons d q (suc k) (omega arith) h)

  abbrev Below : ℕ → ℕ → Type 0
  Below q k = (x : ℕ) → x ∈ part d q k → x < m

  below_first : (k q : ℕ) → q + suc k ≤ length d → Below q (suc k) → get_or d q 0 < m
  below_first k q h g = g _ (rw (first_of_lem k q h) (Memᴰ.head refl))

  below_later : (k q : ℕ) → q + suc k ≤ length d → Below q (suc k) → Below (q + 1) k
  below_later k q h g x v = g x (rw (first_of_lem k q h) (Memᴰ.tail v))

  named_fit : (k q : ℕ) → q + k ≤ length d → Below q k → Fit (named n creds) d q k
  unfolding Fit place
  named_fit zero q h g j i = absurd (omega arith)
  named_fit (suc k) q h g zero i = one_fits q (omega arith) (below_first k q h g)
  named_fit (suc k) q h g (suc j) i = subst (NamedFits n creds d) (place_next (λ (p : ℕ). p + 1) q j) (named_fit k (q + 1) (omega arith) (below_later k q h g) j (omega arith))

  named_is : (k q : ℕ) → q + k ≤ length d → Below q k → many (named n creds) d q k ≡ chosen (many (credential n) d b m) (part d q k)
  unfolding many chosen pick
  named_is zero q h g = sym (ap (chosen (many (credential n) d b m)) (part_none d q 0 (omega arith)))
  named_is (suc k) q h g =
      ap (λ (l : Policy). clause_of d (named_at creds d q) ∷ l) (named_is k (q + 1) (omega arith) (below_later k q h g))
      ∙ sym (ap (chosen (many (credential n) d b m)) (first_of_lem k q h) ∙ rw (one_is q (below_first k q h g)))

-- ---- the policy that is evaluated, by the layout; n is the length of the tables

module _ (d : List ℕ) (o : Layout) (w : List ℕ) (which : Which) {n : ℕ} (size : n ≡ o.atoms) where
  pub own_fits : Fit (marked o.atoms) d o.clauses o.nclauses → (k : ℕ) → k ≤ o.nclauses → Fit (marked n) d o.clauses k
  unfolding Fit
  own_fits f k h = rw size (λ i g. f i (omega arith))

  pub witness_fits : {j : ℕ} → which ≡ Tried j → WhichFits o.atoms w which → Fit (credential n) w 2 j
  unfolding WhichFits
  witness_fits e f = rw size (rw e at f)

  module _ (r : ℕ) (new : List ℕ) {t : List ℕ} where
    pub policy_own : which ≡ Own → t ≡ fire_all r (kept true (many (marked n) d o.clauses o.nclauses)) new → t ≡ fire_all r (policy_at d o w which) new
    unfolding policy_at policy kept dossier_at
    policy_own e f = rw e (rw size at f)

    pub policy_tried : {j m : ℕ} {u : List ℕ} → which ≡ Tried j → m ≡ o.atoms → u ≡ fire_all r (many (credential n) w 2 j) new → t ≡ fire_all r (kept false (many (marked m) d o.clauses o.nclauses)) u → t ≡ fire_all r (policy_at d o w which) new
    unfolding policy_at tried visible kept dossier_at
    policy_tried {j} {m} e same f g =
        let P = many (credential o.atoms) w 2 j in
        let Q = kept false (many (marked o.atoms) d o.clauses o.nclauses) in
        rw e ((rw same at g) ∙ ap (fire_all r Q) (rw size at f) ∙ sym (fire_all_append r P Q new))

-- the policy, then the chosen credentials: a round of the joined policy
module _ (d : List ℕ) (o : Layout) (creds w : List ℕ) (which : Which) (e : EntryAt) (s : Sources d o creds w which e) where
  pub chosen_fits : {n : ℕ} → n ≡ o.atoms → Fit (named n creds) d e.creds e.count
  chosen_fits size = rw size (named_fit o.atoms d o.creds o.ncreds creds s.ready.laid.creds s.ready.starts e.count e.creds s.there s.names)

  pub joined_fired : (r : ℕ) (table : List ℕ) {n : ℕ} {u t : List ℕ} → n ≡ o.atoms → u ≡ fire_all r (policy_at d o w which) table → t ≡ fire_all r (many (named n creds) d e.creds e.count) u → t ≡ fire_all r (joined_at d o w which e) table
  unfolding joined_at joined dossier_at
  joined_fired r table {n} size f g =
      let P = policy_at d o w which in
      let S = chosen (many (credential o.atoms) d o.creds o.ncreds) (part d e.creds e.count) in
      let same : many (named n creds) d e.creds e.count ≡ S = ap (λ (j : ℕ). many (named j creds) d e.creds e.count) size ∙ named_is o.atoms d o.creds o.ncreds creds s.ready.laid.creds s.ready.starts e.count e.creds s.there s.names in
      g ∙ rw (same, f) (sym (ap (λ (Q : Policy). fire_all r (P ++ Q) table) (append-nil S) ∙ fire_all_append r P S table))
