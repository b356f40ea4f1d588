-- What the reader of literals promises: that none speaks of a statement spoken of before (13) is that no two of a line speak of one.
use Prim.Native.Nat.{ℕ, zero, suc, ◌+◌, ◌≤◌}
use mathlib.Core.Path.{◌≡◌, refl, sym, ap, ◌∙◌}
use mathlib.Core.Bool.{true, false, not}
use mathlib.Core.List.Memᴰ
use mathlib.Core.List.{List, [], ◌∷◌, ◌++◌, append_assoc}
use mathlib.Core.Logic.{⊎_elim, ◌⊎◌, inl, inr}
use native.Mathlib.Omega.{arith}
use lib.ListN.{length, drop, length-append}
use Rattle.words.specs.Out.{got}
use Rattle.words.specs.Code.{code_all}
use Rattle.words.proofs.Promise.{OK, fine, ok_then, ok_made, ok_need, In, in_got, in_then_ok, in_made, in_need, Spans, spans_none, spans_join, past, Reads, reads_as}
use Rattle.meaning.specs.Tests.{◌∈◌}
use Rattle.meaning.specs.Papers.{Statement, Literal}
use Rattle.meaning.specs.Rules.{same_statement}
use Rattle.meaning.proofs.Tests.{cases, clash, not_true, any_at, any_of}
use Rattle.meaning.proofs.Sound.{same_statement→≡, same_statement_refl}
use Rattle.promise.specs.Code.{code_literal}
use Rattle.promise.specs.Form.{StatementForm, Apart}
use Rattle.certificate.specs.Read.{spoken, literals}
use Rattle.certificate.proofs.Items.{reads_literal}

-- ---- the test of 13

-- none of these literals speaks of s
abbrev pub Unspoken : Statement → List Literal → Type 0
Unspoken s ls = (x : Literal) → x ∈ ls → x.said ≡ s → ⊥

module _ {s : Statement} {ls : List Literal} where
  pub unspoken : spoken s ls ≡ false → Unspoken s ls
  unfolding spoken
  unspoken h x m e =
      let r : same_statement x.said s ≡ true = rw e (same_statement_refl s) in
      clash (any_of (λ l. same_statement l.said s) m r) h

  pub not_spoken : Unspoken s ls → spoken s ls ≡ false
  unfolding spoken
  not_spoken f = go (cases (spoken s ls))
    where
      go : (spoken s ls ≡ true) ⊎ (spoken s ls ≡ false) → spoken s ls ≡ false
      go (inl e) = let (x, m, t) = any_at (λ l. same_statement l.said s) ls e in absurd (f x m (same_statement→≡ t))
      go (inr e) = e

-- these literals, after those before
abbrev pub Fresh : List Literal → List Literal → Type 0
Fresh before ls = ((x : Literal) → x ∈ ls → Unspoken x.said before) × Apart ls

module _ (before : List Literal) (l : Literal) (ls : List Literal) where
  pub fresh_cons : spoken l.said before ≡ false → Fresh (before ++ (l ∷ [])) ls → Fresh before (l ∷ ls)
  unfolding Apart
  fresh_cons h f = (each, (λ y m. f.0 y m l (Memᴰ.append_right before (Memᴰ.head refl)), f.1))
    where
      each : (x : Literal) → x ∈ (l ∷ ls) → Unspoken x.said before
      each x (Memᴰ.head e) y m q = unspoken h y m (q ∙ ap (λ (z : Literal). z.said) e)
      each x (Memᴰ.tail k) y m q = f.0 x k y (Memᴰ.append_left (l ∷ []) m) q

  pub fresh_apart : Fresh before (l ∷ ls) → (spoken l.said before ≡ false) × Fresh (before ++ (l ∷ [])) ls
  unfolding Apart
  fresh_apart f = (not_spoken (f.0 l (Memᴰ.head refl)), (each, f.1.1))
    where
      each : (x : Literal) → x ∈ ls → Unspoken x.said (before ++ (l ∷ []))
      each x k y m q =
          ⊎_elim (λ b. f.0 x (Memᴰ.tail k) y b q) (λ b. f.1.0 x k (ap (λ (z : Literal). z.said) (sym (Memᴰ.eq_of_singleton b)) ∙ q)) (Memᴰ.append_cases before m)

-- ---- the reader

module _ (n m : ℕ) where
  abbrev LiteralsForm : ℕ → List Literal → List Literal → Type 0
  LiteralsForm k before ls = (length ls ≡ k) × (((x : Literal) → x ∈ ls → StatementForm n m x.said) × Fresh before ls)

  pub each_cons : {l : Literal} {ls : List Literal} → StatementForm n m l.said → ((x : Literal) → x ∈ ls → StatementForm n m x.said) → (x : Literal) → x ∈ (l ∷ ls) → StatementForm n m x.said
  each_cons f g x (Memᴰ.head e) = rw e f
  each_cons f g x (Memᴰ.tail k) = g x k

  ok_literals : (k : ℕ) (before : List Literal) (ws : List ℕ) (at : ℕ) → OK (λ ls p. Spans ws at (code_all code_literal ls) p × LiteralsForm k before ls) (literals n m k before ws at)
  unfolding literals code_all Apart
  ok_literals zero before ws at = fine (spans_none ws at, (refl, ((λ x i. absurd (Memᴰ.not-nil i)), ((λ x i. absurd (Memᴰ.not-nil i)), tt))))
  ok_literals (suc k) before ws at =
      ok_then _ ((reads_literal n m).sound ws at) (λ l p s.
      ok_need (not (spoken l.said before)) _ _ (λ b.
      ok_made _ (ok_literals k _ ws p) (λ ls q t.
      (spans_join s.0 t.0, (ap suc t.1.0, (each_cons s.1 t.1.1.0, fresh_cons before l ls (not_true _ b) t.1.1.1))))))

  exact_literals : (k : ℕ) (before : List Literal) (ws : List ℕ) (at : ℕ) (ls : List Literal) (rest : List ℕ) → drop at ws ≡ code_all code_literal ls ++ rest → LiteralsForm k before ls → literals n m k before ws at ≡ got ls (at + length (code_all code_literal ls))
  unfolding literals code_all
  exact_literals zero before ws at [] rest h f = ap (got []) (omega arith)
  exact_literals zero before ws at (l ∷ ls) rest h f = absurd (omega (arith, f.0))
  exact_literals (suc k) before ws at [] rest h f = absurd (omega (arith, f.0))
  exact_literals (suc k) before ws at (l ∷ ls) rest h f =
      let a = code_literal l in
      let b = code_all code_literal ls in
      let i : drop at ws ≡ a ++ (b ++ rest) = h ∙ append_assoc a b rest in
      let z : at + length a + length b ≡ at + length (a ++ b) = omega (arith, length-append a b) in
      let o = fresh_apart before l ls f.1.1 in
      let t = exact_literals k (before ++ (l ∷ [])) ws (at + length a) ls rest (past ws at a i) (omega (arith, f.0), (λ y j. f.1.0 y (Memᴰ.tail j), o.1)) in
      simp ((reads_literal n m).exact ws at l (b ++ rest) i (f.1.0 l (Memᴰ.head refl)), o.0, t) (ap (got (l ∷ ls)) z)

  in_literals : (k : ℕ) (before : List Literal) (ws : List ℕ) (at : ℕ) → at ≤ length ws → In (length ws) (literals n m k before ws at)
  unfolding literals
  in_literals zero before ws at h = in_got h
  in_literals (suc k) before ws at h =
      in_then_ok _ ((reads_literal n m).sound ws at) ((reads_literal n m).inside ws at h) (λ l p s i.
      in_need (not (spoken l.said before)) 13 at (omega (arith, s.0.next)) (in_made _ (in_literals k (before ++ (l ∷ [])) ws p i)))

  -- so many literals of a line
  pub reads_literals : (k : ℕ) → Reads (literals n m k []) (code_all code_literal) (λ ls. (length ls ≡ k) × (((x : Literal) → x ∈ ls → StatementForm n m x.said) × Apart ls))
  reads_literals k =
      reads_as
      (record { sound = ok_literals k []; exact = exact_literals k []; inside = in_literals k [] })
      (λ ls f. refl)
      (λ ls. (λ f. (f.0, (f.1.0, f.1.1.1)), λ f. (f.0, (f.1.0, ((λ x i y j. absurd (Memᴰ.not-nil j)), f.1.1)))))
