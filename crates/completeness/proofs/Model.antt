-- Values of the statements that obey the rules 3, 5, 6, 7 are those of a policy with the visible clauses.
use mathlib.Core.Path.{◌≡◌, sym, ◌∙◌}
use mathlib.Core.Bool.{Bool, true, false}
use mathlib.Core.List.Memᴰ
use mathlib.Core.List.{List, [], map}
use mathlib.Core.Option.{some}
use mathlib.Core.Logic.{◌⊎◌, inl, inr, ⊎_elim}
use Prim.Native.Nat.{ℕ, zero, suc, ◌≤◌, ◌<◌}
use native.Mathlib.Omega.{arith}
use lib.ListN.{length}
use Rattle.meaning.specs.Tests.{◌∈◌, ◌is◌, all, any, keep, at, named}
use Rattle.meaning.specs.Policy.{Clause, Policy}
use Rattle.meaning.specs.Formula.{joined, given}
use Rattle.meaning.specs.Papers.{Dossier, visible, Statement}
use Rattle.meaning.specs.Rules.{omit}
use Rattle.meaning.specs.Verdict.{tried}
use Rattle.meaning.proofs.Tests.{cases, together, is→≡, is_refl, all_at, any_at, any_of, keep_at, keep_of, map_of, map_at, named_at_lem, named_of, named_is, at_mem}
use Rattle.meaning.proofs.Rounds.{In, ClosedIn, holds_closed, holds_least}
use Rattle.meaning.proofs.Truth.{joined_policy, joined_cred, joined_closed}
use Rattle.meaning.proofs.Sound.{omit_is}
use Rattle.completeness.specs.Form.{size, WellFormed, ClauseForm}
use Rattle.completeness.proofs.Lists.{not_all, sublist_pairwise, keep_sublist, up_to, up_to_at, up_to_of, up_to_rising, omit_shorter}
use Rattle.completeness.proofs.Statements.{Part, part_omit, statements, statement_of, statement_at, part_cred}

-- What each rule asks of values, where val S a is that of 'a given S'.
module _ (D : Dossier) (val : List ℕ → ℕ → Bool) where
  -- 3: they are closed under the visible clauses
  abbrev pub VisibleClosed : Type 0
  VisibleClosed = (S : List ℕ) → Part D S → ClosedIn (In (val S)) (visible D)

  -- 5: and under the credentials
  abbrev pub CredsClosed : Type 0
  CredsClosed = (S : List ℕ) → Part D S → (i : ℕ) (d : Clause) → i ∈ S → at D.creds i ≡ some d → ((b : ℕ) → b ∈ d.body → val S b ≡ true) → val S d.head ≡ true

  -- 6: what is given R is given S, if the heads of R are
  abbrev pub HeadsEnough : Type 0
  HeadsEnough = (R S : List ℕ) (a : ℕ) → Part D R → Part D S → a < size D → val R a ≡ true → ((i : ℕ) (d : Clause) → i ∈ R → at D.creds i ≡ some d → val S d.head ≡ true) → val S a ≡ true

  -- 7: what is given S is given S without c, if a body atom of c is not
  abbrev pub UnfiredSpared : Type 0
  UnfiredSpared = (S : List ℕ) (a c : ℕ) (d : Clause) → Part D S → a < size D → c ∈ S → at D.creds c ≡ some d → (b : ℕ) → b ∈ d.body → val (omit c S) b ≡ false → val S a ≡ true → val (omit c S) a ≡ true

pub record Obeys (D : Dossier) (val : List ℕ → ℕ → Bool) : Type 0 where
  pub visible_closed : VisibleClosed D val
  pub creds_closed : CredsClosed D val
  pub heads_enough : HeadsEnough D val
  pub unfired_spared : UnfiredSpared D val

-- The policy has each atom that is given S from the heads of S.
module _ (D : Dossier) (wf : WellFormed D) (val : List ℕ → ℕ → Bool) (obeys : Obeys D val) where
  -- the heads of the credentials S, rising
  heads : List ℕ → List ℕ
  heads S = keep (λ a. any (λ i. named (at D.creds i) λ d. a is d.head) S) (up_to (size D))

  heads_of : {S : List ℕ} {i : ℕ} {d : Clause} → i ∈ S → at D.creds i ≡ some d → d.head ∈ heads S
  unfolding heads
  heads_of {i = i} {d = d} m ed = keep_of _ (up_to_of (size D) d.head (wf.creds d (at_mem _ i ed)).head) (any_of _ m (named_of _ ed (is_refl d.head)))

  heads_at : (S : List ℕ) {a : ℕ} → a ∈ heads S → (i : ℕ) × (d : Clause) × i ∈ S × (at D.creds i ≡ some d) × (a ≡ d.head)
  unfolding heads
  heads_at S m =
      let (i, n, t) = any_at _ S (keep_at _ (up_to (size D)) m).1 in
      let (d, ed, q) = named_at_lem _ _ t in
      (i, d, n, ed, is→≡ q)

  clause_of : Statement → Clause
  clause_of s = record { head = s.atom; body = heads s.creds }

  pub own : Policy
  own = map clause_of (keep (λ s. val s.creds s.atom) (statements D))

  own_of : {S : List ℕ} {a : ℕ} → Part D S → a < size D → val S a ≡ true → record { head = a; body = heads S } ∈ own
  unfolding own clause_of
  own_of p h v = map_of clause_of (keep_of _ (statement_of D p h) v)

  own_at : {c : Clause} → c ∈ own → (S : List ℕ) × (a : ℕ) × Part D S × (a < size D) × (val S a ≡ true) × (c ≡ record { head = a; body = heads S })
  unfolding own clause_of
  own_at m =
      let (s, n, q) = map_at clause_of _ m in
      let (ms, v) = keep_at _ (statements D) n in
      let (S, a, p, h, z) = statement_at D ms in
      (S, a, p, h, rw z at v, rw z at q)

  unfoldable pub model : Policy
  model = tried D own

  -- what the policy gives is true
  model_up : {S : List ℕ} → Part D S → (a : ℕ) → given D.creds model S [] a ≡ true → val S a ≡ true
  unfolding given ClosedIn model tried
  model_up {S} p a h = holds_least (In (val S)) (joined D.creds model S []) (joined_closed D.creds model S [] (In (val S)) closed (obeys.creds_closed S p) (λ x m. absurd (Memᴰ.not-nil m))) a h
    where
      closed : ClosedIn (In (val S)) model
      closed c m f = ⊎_elim mine (λ n. obeys.visible_closed S p c n f) (Memᴰ.append_cases own m)
        where
          mine : c ∈ own → val S c.head ≡ true
          mine n = let (R, b, r, hb, v, q) = own_at n in rw q (obeys.heads_enough R S b r p hb v (λ i d k ed. f d.head (rw q (heads_of k ed))))

  -- more credentials give more
  model_more : {R S : List ℕ} → ((i : ℕ) → i ∈ R → i ∈ S) → (a : ℕ) → given D.creds model R [] a ≡ true → given D.creds model S [] a ≡ true
  unfolding given ClosedIn
  model_more {R} {S} f a h =
      holds_least (In (given D.creds model S [])) (joined D.creds model R []) (joined_closed D.creds model R [] (In (given D.creds model S []))
      (λ c m k. holds_closed _ c (joined_policy D.creds model S [] m) k)
      (λ i d m ed k. holds_closed _ d (joined_cred D.creds model S [] (f i m) ed) k)
      (λ x m. absurd (Memᴰ.not-nil m))) a h

  -- what is true the policy gives, if it does so for fewer credentials
  model_down : (S : List ℕ) → ((T : List ℕ) → length T < length S → Part D T → (a : ℕ) → a < size D → val T a ≡ true → given D.creds model T [] a ≡ true) → Part D S → (a : ℕ) → a < size D → val S a ≡ true → given D.creds model S [] a ≡ true
  unfolding given ClosedIn model tried
  model_down S ih p a ha v = go (cases (all fired S))
    where
      fired : ℕ → Bool
      fired c = named (at D.creds c) λ d. all (val (omit c S)) d.body

      -- from S without c
      lift : {c : ℕ} → c ∈ S → (b : ℕ) → b < size D → val (omit c S) b ≡ true → given D.creds model S [] b ≡ true
      lift {c} m b hb w = model_more (λ i n. ((omit_is c).0 n).0) b (ih (omit c S) (omit_shorter c m) (part_omit D c p) b hb w)

      head_holds : {c : ℕ} {d : Clause} → c ∈ S → at D.creds c ≡ some d → all (val (omit c S)) d.body ≡ true → given D.creds model S [] d.head ≡ true
      head_holds {c} {d} m ed t = holds_closed _ d (joined_cred D.creds model S [] m ed) (λ b n. lift m b ((wf.creds d (at_mem _ c ed)).body b n) (all_at _ _ t n))

      go : (all fired S ≡ true) ⊎ (all fired S ≡ false) → given D.creds model S [] a ≡ true
      go (inl t) = holds_closed _ _ (joined_policy D.creds model S [] (Memᴰ.append_left (visible D) (own_of p ha v))) λ b n.
          let (c, d, m, ed, q) = heads_at S n in
          rw q (head_holds m ed (sym (named_is _ ed) ∙ all_at _ _ t m))
      go (inr t) =
          let (c, m, w) = not_all fired S t in
          let (d, ed) = part_cred D wf p m in
          let (b, mb, f) = not_all (val (omit c S)) d.body (sym (named_is _ ed) ∙ w) in
          lift m a ha (obeys.unfired_spared S a c d p ha m ed b mb f v)

  down : (k : ℕ) (S : List ℕ) → length S ≤ k → Part D S → (a : ℕ) → a < size D → val S a ≡ true → given D.creds model S [] a ≡ true
  down zero S h = model_down S (λ T l. absurd (omega arith))
  down (suc k) S h = model_down S (λ T l. down k T (omega arith))

  pub model_given : {S : List ℕ} {a : ℕ} → Part D S → a < size D → given D.creds model S [] a ≡ val S a
  model_given {S} {a} p ha = together (model_up p a) (down (length S) S (omega arith) p a ha)

  -- the clauses are in form
  pub own_form : (c : Clause) → c ∈ own → ClauseForm D c
  unfolding heads
  own_form c m =
      let (S, a, p, h, v, q) = own_at m in
      rw q (record {
        within = record { head = h; body = λ b n. up_to_at (size D) (keep_at _ (up_to (size D)) n).0 };
        rising = sublist_pairwise _ (keep_sublist _ (up_to (size D))) (up_to_rising (size D));
      })
