-- Each rule is sound: a line that follows has a true literal in every policy that looks the same and denies what a proof shows.
use mathlib.Core.Path.{◌≡◌, refl, sym, ap, ◌∙◌, subst}
use mathlib.Core.Bool.{Bool, true, false, not, false≢true, true≢false}
use mathlib.Core.List.Memᴰ
use mathlib.Core.List.{List, [], ◌∷◌}
use mathlib.Core.Option.{Option, none, some}
use mathlib.Core.Logic.{◌⊎◌, inl, inr, ⊎_elim, ◌↔◌}
use Prim.Native.Nat.{ℕ, zero, suc, ◌<◌, ◌-◌}
use native.Mathlib.Omega.{arith}
use native.Mathlib.Decide.{ℕ_discrete}
use lib.ListN.{length}
use Rattle.meaning.specs.Tests.{◌∈◌, ◌and◌, ◌or◌, agree, ◌is◌, all, any, mem, at, named, choose}
use Rattle.meaning.specs.Policy.{Clause, Policy}
use Rattle.meaning.specs.Formula.{Formula, always, atom, neg, conj, disj, read, joined, Given, given, truth}
use Rattle.meaning.specs.Papers.{Marked, Dossier, policy, visible, answer, Statement, Literal, Rule, Line}
use Rattle.meaning.specs.Looks.{Has, LookTheSame, aim, TrueLiteral, TrueLine}
use Rattle.meaning.specs.Rules.{same_statement, supposed, not₃, and₃, or₃, value, ◌gives◌, is_in, denied, fires, claims, omit, others, follows, earlier, line_follows}
use Rattle.meaning.specs.Verdict.{last_empty}
use Rattle.meaning.specs.Demands.{LineSound}
use Rattle.meaning.proofs.Tests.{clash, not_true, not_self, not_opposite, and_both, and_of, and_five, or_cases, agree→≡, agree_of, agree_not, is→≡, is_refl, same→≡, same_refl, all_at, any_at, any_of, none_at, keep_at, keep_of, map_of, named_at_lem, named_is, at_mem, at_below, at_take, mem_at}
use Rattle.meaning.proofs.Rounds.{ClosedIn, holds_closed, holds_least, holds_tested_lem}
use Rattle.meaning.proofs.Truth.{value_test, unlike_tested, joined_policy, joined_cred, joined_fact, joined_closed}

-- ---- what is given

pub has_own : {P : Policy} {c : Clause} → c ∈ P → Has P c
has_own {c = c} m = record { own = c; there = m; head = refl; body = λ b. (λ h. h, λ h. h) }

pub has_joined : (cs : List Clause) (Q : Policy) (S X : List ℕ) {c : Clause} → Has Q c → Has (joined cs Q S X) c
has_joined cs Q S X h = record { own = h.own; there = joined_policy cs Q S X h.there; head = h.head; body = h.body }

module _ (cs : List Clause) (Q : Policy) (S X : List ℕ) where
  given_closed : {c : Clause} → Has (joined cs Q S X) c → ((b : ℕ) → b ∈ c.body → given cs Q S X b ≡ true) → given cs Q S X c.head ≡ true
  unfolding given ClosedIn
  given_closed h f = rw (← h.head) (holds_closed (joined cs Q S X) h.own h.there (λ b m. f b ((h.body b).0 m)))

  given_cred : {i : ℕ} {d : Clause} → i ∈ S → at cs i ≡ some d → ((b : ℕ) → b ∈ d.body → given cs Q S X b ≡ true) → given cs Q S X d.head ≡ true
  given_cred m e f = given_closed (has_own (joined_cred cs Q S X m e)) f

  given_atom : {x : ℕ} → x ∈ X → given cs Q S X x ≡ true
  given_atom {x} m = given_closed (has_own (joined_fact cs Q S X m)) (λ b n. absurd (Memᴰ.not-nil n))

  -- what is given other credentials and atoms is given these, if these give what those add
  given_moves : (R Y : List ℕ) → ((i : ℕ) (d : Clause) → i ∈ R → at cs i ≡ some d → ((b : ℕ) → b ∈ d.body → given cs Q S X b ≡ true) → given cs Q S X d.head ≡ true)
      → ((x : ℕ) → x ∈ Y → given cs Q S X x ≡ true) → (a : ℕ) → given cs Q R Y a ≡ true → given cs Q S X a ≡ true
  unfolding given ClosedIn
  given_moves R Y creds atoms a h =
      holds_least (λ b. given cs Q S X b ≡ true) (joined cs Q R Y)
      (joined_closed cs Q R Y (λ b. given cs Q S X b ≡ true) (λ c m f. given_closed (has_own (joined_policy cs Q S X m)) f) creds atoms) a h

-- ---- literals

abbrev says : List Clause → Policy → Statement → Bool
says cs Q s = given cs Q s.creds s.atoms s.atom

-- the test of what a literal says
unfoldable pub true_in : List Clause → Policy → Literal → Bool
true_in cs Q l = agree l.positive (says cs Q l.said)

says_tested : (D : Dossier) (Q : Policy) (l : Literal) → TrueLiteral D Q l ↔ (true_in D.creds Q l ≡ true)
unfolding TrueLiteral true_in Given given
says_tested D Q l =
    let t = value_test (holds_tested_lem (joined D.creds Q l.said.creds l.said.atoms) l.said.atom) l.positive in
    (λ s. agree_of (sym (t.0 s)), λ h. t.1 (sym (agree→≡ h)))

true_tested : (D : Dossier) (Q : Policy) (l : Line) → TrueLine D Q l ↔ (any (true_in D.creds Q) l.literals ≡ true)
unfolding TrueLine
true_tested D Q l = (
  λ t. any_of _ t.1 ((says_tested D Q t.0).0 t.2),
  λ h. let r = any_at _ l.literals h in (r.0, r.1, (says_tested D Q r.0).1 r.2),
)

pub same_statement→≡ : {s t : Statement} → same_statement s t ≡ true → s ≡ t
unfolding same_statement
same_statement→≡ {s} {t} h =
    let r = and_both h in
    let q = and_both r.0 in
    λ i. record { creds = same→≡ q.0 i; atoms = same→≡ q.1 i; atom = is→≡ r.1 i }

pub same_statement_refl : (s : Statement) → same_statement s s ≡ true
unfolding same_statement
same_statement_refl s = and_of (and_of (same_refl s.creds) (same_refl s.atoms)) (is_refl s.atom)

pub is_in_at : (ls : List Literal) {l : Literal} → is_in ls l ≡ true → l ∈ ls
unfolding is_in
is_in_at ls {l} h =
    let r = any_at _ ls h in
    let q = and_both r.2 in
    let e : r.0 ≡ l = λ i. record { positive = agree→≡ q.0 i; said = same_statement→≡ q.1 i } in
    subst (λ (x : Literal). x ∈ ls) e r.1

-- the credentials without c
pub omit_is : (c : ℕ) {S : List ℕ} {i : ℕ} → i ∈ omit c S ↔ (i ∈ S × (i ≡ c → ⊥))
unfolding omit
omit_is c {S} {i} = (
  λ m. let r = keep_at _ S m in (r.0, λ e. clash {b = i is c} (rw e (is_refl c)) (not_true _ r.1)),
  λ r. keep_of _ r.0 (ap not (not_opposite (i is c) false (λ e. r.1 (is→≡ e)))),
)

others_at : {A : Type 0} (l : List A) (i : ℕ) {x p : A} → at l i ≡ some p → x ∈ l → (x ≡ p) ⊎ x ∈ others l i
unfolding at others
others_at [] i h m = elim m [ ]
others_at (y ∷ l) zero h (Memᴰ.head e) = inl (cc)
others_at (y ∷ l) zero h (Memᴰ.tail m) = inr m
others_at (y ∷ l) (suc i) h (Memᴰ.head e) = inr (Memᴰ.head e)
others_at {A} (y ∷ l) (suc i) {x} {p} h (Memᴰ.tail m) = go (others_at l i h m)
  where
    go : (x ≡ p) ⊎ x ∈ others l i → (x ≡ p) ⊎ x ∈ (y ∷ others l i)
    go (inl e) = inl e
    go (inr n) = inr (Memᴰ.tail n)

-- ---- a known value is the truth

-- b is the value that o gives, where it gives one
abbrev Fits : Option Bool → Bool → Type 0
Fits o b = (v : Bool) → o ≡ some v → b ≡ v

fits_not : {o : Option Bool} {b : Bool} → Fits o b → Fits (not₃ o) (not b)
unfolding not₃
fits_not {o = none} f v e = cc
fits_not {o = some x} f v e = ap not (f x refl) ∙ (cc)

fits_and : (o p : Option Bool) {a b : Bool} → Fits o a → Fits p b → Fits (and₃ o p) (a and b)
unfolding and₃ ◌and◌
fits_and (some true) p f g v e = rw (f true refl) (g v e)
fits_and (some false) p f g v e = rw (f false refl) (cc)
fits_and none none f g v e = cc
fits_and none (some true) f g v e = cc
fits_and none (some false) {a = true} f g v e = g false refl ∙ (cc)
fits_and none (some false) {a = false} f g v e = cc

or_and : (a b : Bool) → a or b ≡ not (not a and not b)
unfolding ◌or◌ ◌and◌
or_and true b = refl
or_and false true = refl
or_and false false = refl

fits_or : (o p : Option Bool) (a b : Bool) → Fits o a → Fits p b → Fits (or₃ o p) (a or b)
unfolding or₃
fits_or o p a b f g = rw (or_and a b) (fits_not (fits_and (not₃ o) (not₃ p) (fits_not f) (fits_not g)))

pub supposed_at : (ls : List Literal) (s : Statement) {v : Bool} → supposed ls s ≡ some v → (l : Literal) × l ∈ ls × (l.said ≡ s) × (not l.positive ≡ v)
unfolding supposed choose
supposed_at [] s {v} h = absurd (true≢false (cc))
supposed_at (l ∷ ls) s {v} h = go (same_statement l.said s) refl h (λ k. supposed_at ls s k)
  where
    go : (b : Bool) → same_statement l.said s ≡ b → choose b (some (not l.positive)) (supposed ls s) ≡ some v → (supposed ls s ≡ some v → (m : Literal) × m ∈ ls × (m.said ≡ s) × (not m.positive ≡ v)) → (m : Literal) × m ∈ (l ∷ ls) × (m.said ≡ s) × (not m.positive ≡ v)
    go true e k ih = (l, Memᴰ.head refl, same_statement→≡ e, cc)
    go false e k ih = let r = ih k in (r.0, Memᴰ.tail r.1, r.2, r.3)

pub gives→≡ : (o : Option Bool) (b : Bool) → o gives b ≡ true → o ≡ some b
unfolding ◌gives◌
gives→≡ none b h = absurd (false≢true h)
gives→≡ (some a) b h = ap {B = Option Bool} some (agree→≡ h)

-- ---- the rules, where every literal of the line is false

module _ (cs : List Clause) (Q : Policy) (ls : List Literal) (refuted : any (true_in cs Q) ls ≡ false) where
  literal_false : {l : Literal} {b : Bool} → l ∈ ls → l.positive ≡ b → says cs Q l.said ≡ not b
  unfolding true_in
  literal_false m h = agree_not _ _ (none_at _ refuted m) ∙ ap not h

  denied_given : (s : Statement) (b : ℕ) → denied ls s b ≡ true → given cs Q s.creds s.atoms b ≡ true
  unfolding denied
  denied_given s b h = literal_false (is_in_at ls h) refl

  -- rules 1 and 2
  value_fits : (S : List ℕ) (f : Formula) → Fits (value ls S f) (truth cs Q S f)
  unfolding value truth read
  value_fits S always v e = cc
  value_fits S (atom a) v e = let r = supposed_at ls (record { creds = S; atoms = []; atom = a }) e in ap (λ (s : Statement). says cs Q s) (sym r.2) ∙ literal_false r.1 refl ∙ r.3
  value_fits S (neg f) v e = fits_not (value_fits S f) v e
  value_fits S (conj f g) v e = fits_and (value ls S f) (value ls S g) (value_fits S f) (value_fits S g) v e
  value_fits S (disj f g) v e = fits_or (value ls S f) (value ls S g) (truth cs Q S f) (truth cs Q S g) (value_fits S f) (value_fits S g) v e

  -- rules 3 and 5
  fires_false : (c : Clause) {l : Literal} → Has (joined cs Q l.said.creds l.said.atoms) c → l ∈ ls → fires ls c l ≡ true → ⊥
  unfolding fires
  fires_false c {l} has m h =
      let r = and_both h in
      let q = and_both r.0 in
      clash (rw (is→≡ q.1) (given_closed cs Q l.said.creds l.said.atoms has (λ b n. denied_given l.said b (all_at _ _ r.1 n)))) (literal_false m q.0)

  -- rule 4
  assumed_false : {l : Literal} → l ∈ ls → l.positive ≡ true → mem l.said.atom l.said.atoms ≡ true → ⊥
  assumed_false {l} m h k = clash (given_atom cs Q l.said.creds l.said.atoms (mem_at k)) (literal_false m h)

  -- rule 6
  cut_false : {l m : Literal} → l ∈ ls → m ∈ ls → l.positive ≡ true → m.positive ≡ false → l.said.atom ≡ m.said.atom
      → all (λ x. mem x l.said.atoms or denied ls l.said x) m.said.atoms ≡ true
      → all (λ c. mem c l.said.creds or named (at cs c) λ d. denied ls l.said d.head) m.said.creds ≡ true
      → ⊥
  cut_false {l} {m} ml mm pl nm e ax ac =
      clash (rw e (given_moves cs Q S X m.said.creds m.said.atoms creds atoms m.said.atom (literal_false mm nm))) (literal_false ml pl)
    where
      S : List ℕ
      S = l.said.creds

      X : List ℕ
      X = l.said.atoms

      creds : (i : ℕ) (d : Clause) → i ∈ m.said.creds → at cs i ≡ some d → ((b : ℕ) → b ∈ d.body → given cs Q S X b ≡ true) → given cs Q S X d.head ≡ true
      creds i d n q f = go (or_cases (all_at _ _ ac n))
        where
          go : (mem i S ≡ true) ⊎ (named (at cs i) (λ (x : Clause). denied ls l.said x.head) ≡ true) → given cs Q S X d.head ≡ true
          go (inl k) = given_cred cs Q S X (mem_at k) q f
          go (inr k) = denied_given l.said d.head (sym (named_is _ q) ∙ k)

      atoms : (x : ℕ) → x ∈ m.said.atoms → given cs Q S X x ≡ true
      atoms x n = go (or_cases (all_at _ _ ax n))
        where
          go : (mem x X ≡ true) ⊎ (denied ls l.said x ≡ true) → given cs Q S X x ≡ true
          go (inl k) = given_atom cs Q S X (mem_at k)
          go (inr k) = denied_given l.said x k

  -- rule 7
  claims_false : (S X : List ℕ) {l : Literal} → l ∈ ls → claims S X l ≡ true → given cs Q S X l.said.atom ≡ false
  unfolding claims
  claims_false S X {l} m h =
      let r = and_both h in
      let q = and_both r.0 in
      rw (same→≡ q.1, same→≡ r.1) at (literal_false m q.0)

  without_false : (c : ℕ) {d : Clause} {m l h : Literal} → at cs c ≡ some d → m ∈ ls → l ∈ ls → h ∈ ls
      → m.positive ≡ false
      → claims (omit c m.said.creds) m.said.atoms l ≡ true → l.said.atom ≡ m.said.atom
      → claims (omit c m.said.creds) m.said.atoms h ≡ true → mem h.said.atom d.body ≡ true
      → ⊥
  without_false c {d} {m} {l} {h} ed mm ml mh nm cl el ch hb =
      clash (rw el (given_moves cs Q S X m.said.creds X creds (λ x n. given_atom cs Q S X n) m.said.atom (literal_false mm nm))) (claims_false S X ml cl)
    where
      S : List ℕ
      S = omit c m.said.creds

      X : List ℕ
      X = m.said.atoms

      creds : (i : ℕ) (x : Clause) → i ∈ m.said.creds → at cs i ≡ some x → ((b : ℕ) → b ∈ x.body → given cs Q S X b ≡ true) → given cs Q S X x.head ≡ true
      creds i x n q f = go (ℕ_discrete i c)
        where
          go : Dec (i ≡ c) → given cs Q S X x.head ≡ true
          go (yes e) = let z : d ≡ x = cc in clash (f h.said.atom (subst (λ (y : Clause). h.said.atom ∈ y.body) z (mem_at hb))) (claims_false S X mh ch)
          go (no ne) = given_cred cs Q S X ((omit_is c).1 (n, ne)) q f

  -- rule 8
  pivot_true : (A : List Literal) (i : ℕ) {p : Literal} {b : Bool} → any (true_in cs Q) A ≡ true → at A i ≡ some p → all (is_in ls) (others A i) ≡ true → p.positive ≡ b → says cs Q p.said ≡ b
  unfolding true_in
  pivot_true A i {p} {b} h e k s = go (any_at _ A h)
    where
      step : (x : Literal) → true_in cs Q x ≡ true → (x ≡ p) ⊎ x ∈ others A i → true_in cs Q p ≡ true
      step x t (inl q) = rw (← q) t
      step x t (inr n) = clash t (none_at _ refuted (is_in_at ls (all_at _ _ k n)))

      go : (x : Literal) × x ∈ A × (true_in cs Q x ≡ true) → says cs Q p.said ≡ b
      go r = sym (agree→≡ (step r.0 r.2 (others_at A i e r.1))) ∙ s

-- a line before line k
earlier_at : (lines : List Line) (k u : ℕ) {l : Line} → at (earlier lines k) u ≡ some l → (u < k) × (at lines u ≡ some l)
unfolding earlier
earlier_at lines k u e = at_take k lines u e

-- ---- a line that follows has a true literal, if the lines that it may cite have

module _ (D : Dossier) (Q : Policy) (looks : LookTheSame D (policy D) Q) (denies : answer D Q D.secret ≡ not (aim D)) where
  True : Line → Type 0
  True l = any (true_in D.creds Q) l.literals ≡ true

  shows : (i : ℕ) {m : Marked} → at D.clauses i ≡ some m → m.visible ≡ true → Has Q m.clause
  unfolding visible
  shows i {m} e v = looks.second m.clause (map_of (λ (x : Marked). x.clause) (keep_of (λ (x : Marked). x.visible) (at_mem _ i e) v))

  module _ (before : List Line) (ls : List Literal) where
    -- the lines that a rule cites are true
    abbrev Cited : Rule → Type 0
    Cited r = (u v i j : ℕ) → r ≡ Rule.resolve u v i j → (m : Line) → (at before u ≡ some m) ⊎ (at before v ≡ some m) → True m

    refute : (r : Rule) → Cited r → follows D before ls r ≡ true → any (true_in D.creds Q) ls ≡ false → ⊥
    unfolding follows answer True
    refute (Rule.probe k) cited h f =
        let (e, ee, v) = named_at_lem _ _ h in
        (unlike_tested D (policy D) Q e).1 (value_fits D.creds Q ls f e.creds e.formula (not (answer D (policy D) e)) (gives→≡ _ _ v)) (looks.alike e (at_mem _ _ ee))
    refute Rule.secret cited h f =
        not_self (aim D) (sym (value_fits D.creds Q ls f D.secret.creds D.secret.formula (aim D) (gives→≡ _ _ h)) ∙ denies)
    refute (Rule.clause i j) cited h f =
        let (m, em, g) = named_at_lem _ _ h in
        let (l, el, v) = named_at_lem _ _ g in
        let q = and_both v in
        fires_false D.creds Q ls f m.clause (has_joined D.creds Q l.said.creds l.said.atoms (shows i em q.0)) (at_mem _ _ el) q.1
    refute (Rule.assumed j) cited h f =
        let (l, el, v) = named_at_lem _ _ h in
        let q = and_both v in
        assumed_false D.creds Q ls f (at_mem _ _ el) q.0 q.1
    refute (Rule.credential c j) cited h f =
        let (d, ed, g) = named_at_lem _ _ h in
        let (l, el, v) = named_at_lem _ _ g in
        let q = and_both v in
        fires_false D.creds Q ls f d (has_own (joined_cred D.creds Q l.said.creds l.said.atoms (mem_at q.0) ed)) (at_mem _ _ el) q.1
    refute (Rule.cut j i) cited h f =
        let (l, el, g) = named_at_lem _ _ h in
        let (m, em, v) = named_at_lem _ _ g in
        let (plus, minus, on, ax, ac) = and_five v in
        cut_false D.creds Q ls f (at_mem _ _ el) (at_mem _ _ em) plus (not_true _ minus) (is→≡ on) ax ac
    refute (Rule.without c i j k) cited h f =
        let (d, ed, g₁) = named_at_lem _ _ h in
        let (m, em, g₂) = named_at_lem _ _ g₁ in
        let (l, el, g₃) = named_at_lem _ _ g₂ in
        let (t, et, v) = named_at_lem _ _ g₃ in
        let (most, in_body) = and_both v in
        let (minus, has, claims_j, on, claims_k) = and_five most in
        without_false D.creds Q ls f c ed (at_mem _ _ em) (at_mem _ _ el) (at_mem _ _ et) (not_true _ minus) claims_j (is→≡ on) claims_k in_body
    refute (Rule.resolve u v i j) cited h f =
        let (a, ea, g₁) = named_at_lem _ _ h in
        let (b, eb, g₂) = named_at_lem _ _ g₁ in
        let (p, ep, g₃) = named_at_lem _ _ g₂ in
        let (q, eq, w) = named_at_lem _ _ g₃ in
        let (plus, minus, one, in_a, in_b) = and_five w in
        clash
        (pivot_true D.creds Q ls f a.literals i (cited u v i j refl a (inl ea)) ep in_a plus)
        (ap (says D.creds Q) (same_statement→≡ one) ∙ pivot_true D.creds Q ls f b.literals j (cited u v i j refl b (inr eb)) eq in_b (not_true _ minus))

    rule_sound : (r : Rule) → Cited r → follows D before ls r ≡ true → any (true_in D.creds Q) ls ≡ true
    rule_sound r cited h = not_opposite _ true (refute r cited h)

  -- ---- so an accepted proof leaves no such policy

  module _ (lines : List Line) (each : (k : ℕ) → k < length lines → line_follows D lines k ≡ true) where
    -- the lines before k
    true_before : (k : ℕ) → (j : ℕ) (l : Line) → j < k → at lines j ≡ some l → True l
    unfolding line_follows True
    true_before zero j l h e = absurd (omega arith)
    true_before (suc k) j l h e = go (ℕ_discrete j k) (true_before k)
      where
        go : Dec (j ≡ k) → ((i : ℕ) (m : Line) → i < k → at lines i ≡ some m → True m) → True l
        go (no ne) ih = ih j l (omega arith) e
        go (yes q) ih =
            rule_sound (earlier lines k) l.literals l.rule
            (λ u v i j e m o. ⊎_elim (λ ea. let r = earlier_at lines k u ea in ih u m r.0 r.1) (λ ea. let r = earlier_at lines k v ea in ih v m r.0 r.1) o)
            (sym (named_is _ (rw q at e)) ∙ each k (rw q at (at_below lines j e)))

    pub none_denies : last_empty lines ≡ true → ⊥
    unfolding last_empty True any
    none_denies h =
        let (l, e, z) = named_at_lem _ _ h in
        empty l.literals (is→≡ z) (true_before (length lines) (length lines - 1) l (at_below lines (length lines - 1) e) e)
      where
        empty : (ls : List Literal) → length ls ≡ 0 → any (true_in D.creds Q) ls ≡ true → ⊥
        empty [] q t = false≢true t
        empty (x ∷ ls) q t = omega arith

pub line_sound_lem : LineSound
unfolding aim True
line_sound_lem D Q looks other before l cited h =
    (true_tested D Q l).1 (rule_sound D Q looks ((unlike_tested D (policy D) Q D.secret).0 other) before l.literals l.rule (λ u v i j e m o. (true_tested D Q m).0 (cited u v i j e m o)) h)
