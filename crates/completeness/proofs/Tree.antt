-- The tree of rule 8: where every line that speaks of each statement of U follows, the empty line is proved, one statement at a time.
use mathlib.Core.Path.{◌≡◌, refl, sym, ap, ◌∙◌, subst}
use mathlib.Core.Bool.{Bool, true, false, not, true≢false, false≢true, not-not}
use mathlib.Core.List.Memᴰ
use mathlib.Core.List.{List, [], ◌∷◌, ◌++◌}
use mathlib.Core.Option.{Option, none, some}
use mathlib.Core.Logic.{◌⊎◌, inl, inr, ⊎_elim, ⊎_map, ◌≢◌}
use Prim.Native.Nat.{ℕ, suc, ◌-◌, ◌≤◌, ◌<◌}
use native.Mathlib.Omega.{arith}
use native.Mathlib.Decide.{dec_lt}
use lib.ListN.{length, length-append}
use lib.Seq.{take-append-le, take-append_seam}
use Rattle.meaning.specs.Tests.{◌∈◌, ◌or◌, ◌is◌, all, any, mem, at, choose}
use Rattle.meaning.specs.Papers.{Dossier, Statement, Literal, Rule, number, Line}
use Rattle.meaning.specs.Rules.{same_statement, supposed, ◌gives◌, is_in, others, follows, earlier, line_follows}
use Rattle.meaning.specs.Verdict.{last_empty}
use Rattle.meaning.specs.Demands.{EachFollows}
use Rattle.meaning.proofs.Tests.{and_of, agree→≡, agree_of, is_refl, mem_at, named_at_lem, named_of, all_of, any_of, at_append}
use Rattle.meaning.proofs.Sound.{same_statement→≡, same_statement_refl}
use Rattle.completeness.specs.Form.{Pairwise}
use Rattle.completeness.specs.Needed.{enough}

-- ---- literals

abbrev pub lit : Bool → Statement → Literal
lit b s = record { positive = b; said = s }

pub is_in_of : {C : List Literal} {l : Literal} → l ∈ C → is_in C l ≡ true
unfolding is_in
is_in_of {l = l} m = any_of _ m (and_of (agree_of {a = l.positive} refl) (same_statement_refl l.said))

-- the literals of C, supposed false, give s a value
abbrev pub Known : List Literal → Statement → Type 0
Known C s = (b : Bool) × (supposed C s ≡ some b)

module _ (l : Literal) (C : List Literal) where
  known_here : Known (l ∷ C) l.said
  unfolding supposed choose
  known_here = (not l.positive, rw (same_statement_refl l.said))

  known_later : (s : Statement) → Known C s → Known (l ∷ C) s
  unfolding supposed choose
  known_later s (b, e) = go (same_statement l.said s)
    where
      go : (t : Bool) → (v : Bool) × (choose t (some (not l.positive)) (supposed C s) ≡ some v)
      go true = (not l.positive, refl)
      go false = (b, e)

known_of : {l : Literal} {C : List Literal} → l ∈ C → Known C l.said
known_of (Memᴰ.head {x = k} {xs = C} e) = rw e (known_here k C)
known_of {l = l} (Memᴰ.tail {x = k} {xs = C} m) = known_later k C l.said (known_of m)

-- a known value has its literal
pub known_at : (C : List Literal) (s : Statement) {b : Bool} → supposed C s ≡ some b → (j : ℕ) × (at C j ≡ some (lit (not b) s))
unfolding supposed choose at
known_at [] s h = absurd (true≢false (cc))
known_at (l ∷ C) s {b} h = go (same_statement l.said s) refl h (λ k. known_at C s k)
  where
    go : (t : Bool) → same_statement l.said s ≡ t → choose t (some (not l.positive)) (supposed C s) ≡ some b → (supposed C s ≡ some b → (j : ℕ) × (at C j ≡ some (lit (not b) s))) → (j : ℕ) × (at (l ∷ C) j ≡ some (lit (not b) s))
    go true e k ih =
        let q : not l.positive ≡ b = cc in
        (0, λ i. some (record { positive = (sym (not-not l.positive) ∙ ap not q) i; said = same_statement→≡ e i }))
    go false e k ih = let (j, q) = ih k in (suc j, q)

pub gives_at : (C : List Literal) (s : Statement) (b : Bool) → supposed C s gives b ≡ true → (j : ℕ) × (at C j ≡ some (lit (not b) s))
unfolding ◌gives◌
gives_at C s b h = go (supposed C s) refl h
  where
    go : (o : Option Bool) → supposed C s ≡ o → o gives b ≡ true → (j : ℕ) × (at C j ≡ some (lit (not b) s))
    go none q t = absurd (false≢true t)
    go (some a) q t = known_at C s (q ∙ ap {B = Option Bool} some (agree→≡ t))

-- ---- lines that follow

-- no two literals on one statement, and all on statements of U
pub record Over (U : List Statement) (C : List Literal) : Type 0 where
  pub inside : (x : Literal) → x ∈ C → x.said ∈ U
  pub once : Pairwise (λ (x y : Literal). x.said ≢ y.said) C

over_none : (U : List Statement) → Over U []
unfolding Pairwise
over_none U = record { inside = λ x m. absurd (Memᴰ.not-nil m); once = tt }

over_one : (U : List Statement) (C : List Literal) (l : Literal) → Over U C → l.said ∈ U → supposed C l.said ≡ none → Over U (l ∷ C)
unfolding Pairwise
over_one U C l o h n = record { inside = into; once = (λ y m q. let (b, e) = known_of m in true≢false (cc), o.once) }
  where
    into : (x : Literal) → x ∈ (l ∷ C) → x.said ∈ U
    into x (Memᴰ.head q) = rw q h
    into x (Memᴰ.tail m) = o.inside x m

pub record Good (D : Dossier) (U : List Statement) (lines : List Line) : Type 0 where
  pub each : EachFollows D lines
  pub over : (l : Line) → l ∈ lines → Over U l.literals
  pub rules : (l : Line) → l ∈ lines → number l.rule ∈ enough

at_end : {A : Type 0} (l : List A) (x : A) → at (l ++ (x ∷ [])) (length l) ≡ some x
unfolding at
at_end [] x = refl
at_end (y ∷ l) x = at_end l x

-- what is so of each element and of one more
more_each : {A : Type 0} (P : A → Type 0) (l : List A) {x : A} → ((y : A) → y ∈ l → P y) → P x → (y : A) → y ∈ (l ++ (x ∷ [])) → P y
more_each P l f p y m = ⊎_elim (f y) (λ n. subst P (sym (Memᴰ.eq_of_singleton n)) p) (Memᴰ.append_cases l m)

module _ (D : Dossier) (U : List Statement) where
  good_more : {e : List Line} (l : Line) → Good D U e → Over U l.literals → number l.rule ∈ enough → follows D e l.literals l.rule ≡ true → Good D U (e ++ (l ∷ []))
  unfolding line_follows earlier
  good_more {e} l g o r f =
      record {
        each = λ k h. go k h (dec_lt k (length e));
        over = more_each (λ (x : Line). Over U x.literals) e g.over o;
        rules = more_each (λ (x : Line). number x.rule ∈ enough) e g.rules r;
      }
    where
      go : (k : ℕ) → k < length (e ++ (l ∷ [])) → Dec (k < length e) → line_follows D (e ++ (l ∷ [])) k ≡ true
      go k h (yes lt) =
          let (x, q, t) = named_at_lem _ _ (g.each k lt) in
          let le : k ≤ length e = omega arith in
          named_of _ (at_append e (l ∷ []) k q) (rw (take-append-le k e (l ∷ []) le) t)
      go k h (no nlt) = let q : k ≡ length e = omega (arith, length-append e (l ∷ [])) in rw q (named_of _ (at_end e l) (rw (take-append_seam e (l ∷ [])) f))

  -- more lines after e, the last of them with the literals C
  record Derived (e : List Line) (C : List Literal) : Type 0 where
    before : List Line
    rule : Rule
    good : Good D U (before ++ (record { rule = rule; literals = C } ∷ []))
    keeps : (i : ℕ) (l : Line) → at e i ≡ some l → at (before ++ (record { rule = rule; literals = C } ∷ [])) i ≡ some l

  abbrev whole : {e : List Line} {C : List Literal} → Derived e C → List Line
  whole {C = C} d = d.before ++ (record { rule = d.rule; literals = C } ∷ [])

  -- one more line that follows
  derived_by : {e : List Line} (C : List Literal) (r : Rule) → Good D U e → Over U C → number r ∈ enough → follows D e C r ≡ true → Derived e C
  derived_by {e} C r g o m f = record { before = e; rule = r; good = good_more (record { rule = r; literals = C }) g o m f; keeps = λ i l q. at_append e _ i q }

  -- rule 8: from the lines with either literal on s
  resolved : (e : List Line) (s : Statement) (C : List Literal) → Over U C → (f : Derived e (lit true s ∷ C)) → (g : Derived (whole f) (lit false s ∷ C)) → Derived e C
  unfolding follows at others enough mem any ◌or◌ ◌is◌
  resolved e s C o f g = record { before = last.before; rule = last.rule; good = last.good; keeps = λ i l q. last.keeps i l (g.keeps i l (f.keeps i l q)) }
    where
      all_in : all (is_in C) C ≡ true
      all_in = all_of _ C (λ l m. is_in_of m)

      by : Rule
      by = Rule.resolve (length f.before) (length g.before) 0 0

      step : follows D (whole g) C by ≡ true
      step = named_of _ (g.keeps _ _ (at_end f.before _)) (named_of _ (at_end g.before _) (named_of _ refl (named_of _ refl (and_of (and_of (and_of (and_of refl refl) (same_statement_refl s)) all_in) all_in))))

      last : Derived (whole g) C
      last = derived_by C by g.good o (mem_at refl) step

  -- If every line that speaks of all of U follows, or else there is a Z, then C is derived, or there is a Z.
  module _ (Z : Type 0) (leaf : (e : List Line) (C : List Literal) → ((s : Statement) → s ∈ U → Known C s) → ((r : Rule) × (number r ∈ enough) × (follows D e C r ≡ true)) ⊎ Z) where
    tree : (W : List Statement) (C : List Literal) → ((s : Statement) → s ∈ W → s ∈ U) → Over U C → ((s : Statement) → s ∈ U → Known C s ⊎ s ∈ W) → (e : List Line) → Good D U e → Derived e C ⊎ Z
    tree [] C i o k e g = ⊎_map (λ r. derived_by C r.0 g o r.1 r.2) (λ z. z) (leaf e C (λ s m. ⊎_elim (λ h. h) (λ n. absurd (Memᴰ.not-nil n)) (k s m)))
    tree (s ∷ W) C i o k e g = go (supposed C s) refl (λ h. tree W C (λ t m. i t (Memᴰ.tail m)) o (skip h) e g) (λ l q n d. tree W (l ∷ C) (λ t m. i t (Memᴰ.tail m)) (over_one U C l o (rw q (i s (Memᴰ.head refl))) (rw q n)) (take_up l q) d)
      where
        skip : Known C s → (t : Statement) → t ∈ U → Known C t ⊎ t ∈ W
        skip h t m = ⊎_elim inl (λ n. ⊎_elim (λ q. inl (subst (Known C) (sym q) h)) inr (Memᴰ.cases_cons n)) (k t m)

        take_up : (l : Literal) → l.said ≡ s → (t : Statement) → t ∈ U → Known (l ∷ C) t ⊎ t ∈ W
        take_up l q t m = ⊎_elim (λ h. inl (known_later l C t h)) (λ n. ⊎_elim (λ p. inl (subst (Known (l ∷ C)) (q ∙ sym p) (known_here l C))) inr (Memᴰ.cases_cons n)) (k t m)

        go : (v : Option Bool) → supposed C s ≡ v → (Known C s → Derived e C ⊎ Z) → ((l : Literal) → l.said ≡ s → supposed C s ≡ none → (d : List Line) → Good D U d → Derived d (l ∷ C) ⊎ Z) → Derived e C ⊎ Z
        go (some b) q f h = f (b, q)
        go none q f h = ⊎_elim (λ p. ⊎_map (λ n. resolved e s C o p n) (λ z. z) (h (lit false s) refl q (whole p) p.good)) inr (h (lit true s) refl q e g)

    -- so there is a proof, or a Z
    pub proved : ((lines : List Line) × Good D U lines × (last_empty lines ≡ true)) ⊎ Z
    unfolding last_empty
    proved = ⊎_map (λ d. (whole d, d.good, last d)) (λ z. z) (tree U [] (λ s m. m) (over_none U) (λ s m. inr m) [] none_yet)
      where
        none_yet : Good D U []
        none_yet = record { each = λ k h. absurd (omega arith); over = λ l m. absurd (Memᴰ.not-nil m); rules = λ l m. absurd (Memᴰ.not-nil m) }

        last : (d : Derived [] []) → last_empty (whole d) ≡ true
        last d =
            let x : Line = record { rule = d.rule; literals = [] } in
            let q : length (d.before ++ (x ∷ [])) - 1 ≡ length d.before = omega (arith, length-append d.before (x ∷ [])) in
            rw q (named_of _ (at_end d.before x) (is_refl 0))
