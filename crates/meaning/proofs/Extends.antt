-- Demand 3 between a dossier and one that extends it: what follows for D follows for E.
use mathlib.Core.Path.{◌≡◌, refl, sym, ap, ap₂, ◌∙◌}
use mathlib.Core.Bool.{true, not, true≢false}
use mathlib.Core.List.Memᴰ
use mathlib.Core.List.{List, [], ◌∷◌, ◌++◌, map}
use mathlib.Core.Option.{some}
use mathlib.Core.Logic.{◌⊎◌, inl, inr}
use Prim.Native.Nat.{ℕ, zero, suc, ◌<◌}
use native.Mathlib.Omega.{arith}
use lib.ListN.{length}
use Rattle.meaning.specs.Tests.{◌∈◌, ◌and◌, ◌or◌, mem, at, named}
use Rattle.meaning.specs.Policy.{Clause, Policy}
use Rattle.meaning.specs.Formula.{Formula, always, atom, neg, conj, disj, read, pick, chosen, joined, given, truth}
use Rattle.meaning.specs.Papers.{Entry, Marked, Dossier, policy, visible, answer, Literal, Rule, Line}
use Rattle.meaning.specs.Looks.{aim}
use Rattle.meaning.specs.Rules.{denied, follows, earlier, line_follows}
use Rattle.meaning.specs.Extends.{MoreVisible, done, next, Extends, WellNamed}
use Rattle.meaning.specs.Demands.{ExtensionKeeps}
use Rattle.meaning.proofs.Tests.{and_both, and_of, or_cases, or_left, or_right, named_at_lem, named_of, all_at, all_of, keep_at, keep_of, map_at, map_of, at_mem, mem_index, at_append}

-- ---- more credentials do not change what those named give

at_more : {A : Type 0} (l m : List A) (i : ℕ) → i < length l → at (l ++ m) i ≡ at l i
unfolding at
at_more [] m i h = absurd (omega arith)
at_more (x ∷ l) m zero h = refl
at_more (x ∷ l) m (suc i) h = at_more l m i (omega arith)

module _ (cs ds : List Clause) where
  chosen_more : (S : List ℕ) → ((i : ℕ) → i ∈ S → i < length cs) → chosen (cs ++ ds) S ≡ chosen cs S
  unfolding chosen
  chosen_more [] h = refl
  chosen_more (i ∷ S) h = ap₂ {C = List Clause} pick (at_more cs ds i (h i (Memᴰ.head refl))) (chosen_more S (λ j m. h j (Memᴰ.tail m)))

  truth_more : (P : Policy) (S : List ℕ) → ((i : ℕ) → i ∈ S → i < length cs) → (f : Formula) → truth (cs ++ ds) P S f ≡ truth cs P S f
  unfolding truth read given joined
  truth_more P S h always = refl
  truth_more P S h (atom a) = rw (chosen_more S h)
  truth_more P S h (neg f) = ap not (truth_more P S h f)
  truth_more P S h (conj f g) = ap₂ ◌and◌ (truth_more P S h f) (truth_more P S h g)
  truth_more P S h (disj f g) = ap₂ ◌or◌ (truth_more P S h f) (truth_more P S h g)

-- ---- marks

marks_policy : {l m : List Marked} → MoreVisible l m → map (λ (x : Marked). x.clause) m ≡ map (λ (x : Marked). x.clause) l
marks_policy done = refl
marks_policy (next e f r) = ap₂ {C = List Clause} ◌∷◌ (sym e) (marks_policy r)

marks_at : {l m : List Marked} → MoreVisible l m → (i : ℕ) {x : Marked} → at l i ≡ some x → (y : Marked) × (at m i ≡ some y) × (x.clause ≡ y.clause) × (x.visible ≡ true → y.visible ≡ true)
unfolding at
marks_at done i h = absurd (true≢false (cc))
marks_at (next {a = a} {b = b} e f r) zero {x} h = let z : a ≡ x = cc in (b, refl, rw (← z) e, rw (← z) f)
marks_at (next e f r) (suc i) h = marks_at r i h

-- ---- D and E

module _ (D E : Dossier) (x : Extends D E) where
  creds_up : (i : ℕ) {c : Clause} → at D.creds i ≡ some c → at E.creds i ≡ some c
  creds_up i h = rw x.creds (at_append D.creds x.new_creds i h)

  probes_up : (k : ℕ) {e : Entry} → at D.probes k ≡ some e → at E.probes k ≡ some e
  probes_up k h = rw x.probes (at_append D.probes x.new_probes k h)

  pub policy_same : policy E ≡ policy D
  unfolding policy
  policy_same = marks_policy x.marks

  visible_up : (c : Clause) → c ∈ visible D → c ∈ visible E
  unfolding visible
  visible_up c m =
      let (a, n, e) = map_at (λ (y : Marked). y.clause) _ m in
      let (there, v) = keep_at (λ (y : Marked). y.visible) _ n in
      let (i, _, h) = mem_index there in
      let (b, k, f, up) = marks_at x.marks i h in
      rw (e ∙ f) (map_of (λ (y : Marked). y.clause) (keep_of (λ (y : Marked). y.visible) (at_mem _ i k) (up v)))

pub extension_keeps_lem : ExtensionKeeps
extension_keeps_lem =
    record {
      labels = λ D E x. x.labels;
      policy = policy_same;
      secret = λ D E x. x.secret;
      visible = visible_up;
      credential = λ D E x i c h. creds_up D E x i h;
      probe = λ D E x k e h. probes_up D E x k h;
    }

module _ (D E : Dossier) (x : Extends D E) (named-creds : WellNamed D) where
  pub answer_same : (P : Policy) (e : Entry) → e ∈ (D.secret ∷ D.probes) → answer E P e ≡ answer D P e
  unfolding answer WellNamed
  answer_same P e m = rw x.creds (truth_more D.creds x.new_creds P e.creds (named-creds e m) e.formula)

  pub aim_same : aim E ≡ aim D
  unfolding aim
  aim_same = ap₂ (answer E) (policy_same D E x) x.secret ∙ answer_same (policy D) D.secret (Memᴰ.head refl)

  follows_up : (before : List Line) (ls : List Literal) (r : Rule) → follows D before ls r ≡ true → follows E before ls r ≡ true
  unfolding follows
  follows_up before ls (Rule.probe k) h =
      let (e, ee, v) = named_at_lem _ _ h in
      named_of _ (probes_up D E x k ee) (rw (policy_same D E x, answer_same (policy D) e (Memᴰ.tail (at_mem _ _ ee))) v)
  follows_up before ls Rule.secret h = rw (aim_same, x.secret) h
  follows_up before ls (Rule.clause i j) h =
      let (m, em, g) = named_at_lem _ _ h in
      let (l, el, v) = named_at_lem _ _ g in
      let q = and_both v in
      let (n, en, c, up) = marks_at x.marks i em in
      named_of _ en (named_of _ el (and_of (up q.0) (rw (← c) q.1)))
  follows_up before ls (Rule.assumed j) h = h
  follows_up before ls (Rule.credential c j) h =
      let (d, ed, g) = named_at_lem _ _ h in
      named_of _ (creds_up D E x c ed) g
  follows_up before ls (Rule.cut j i) h =
      let (l, el, g) = named_at_lem _ _ h in
      let (m, em, v) = named_at_lem _ _ g in
      let q = and_both v in
      named_of _ el (named_of _ em (and_of q.0 (all_of _ m.said.creds λ c n. covered l c (or_cases (all_at _ _ q.1 n)))))
    where
      covered : (l : Literal) (c : ℕ) → (mem c l.said.creds ≡ true) ⊎ (named (at D.creds c) (λ d. denied ls l.said d.head) ≡ true)
          → mem c l.said.creds or named (at E.creds c) (λ d. denied ls l.said d.head) ≡ true
      covered l c (inl p) = or_left _ p
      covered l c (inr p) = let (d, ed, v) = named_at_lem _ _ p in or_right _ (named_of _ (creds_up D E x c ed) v)
  follows_up before ls (Rule.without c i j k) h =
      let (d, ed, g) = named_at_lem _ _ h in
      named_of _ (creds_up D E x c ed) g
  follows_up before ls (Rule.resolve u v i j) h = h

  pub line_up : (lines : List Line) (k : ℕ) → line_follows D lines k ≡ true → line_follows E lines k ≡ true
  unfolding line_follows
  line_up lines k h = let (l, e, f) = named_at_lem _ _ h in named_of _ e (follows_up (earlier lines k) l.literals l.rule f)
