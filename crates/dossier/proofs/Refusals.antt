-- When the readers of a dossier's parts refuse: clauses, marked clauses, formulas and entries.
use Prim.Native.Nat.{ℕ, suc, ◌+◌, ◌-◌, ◌<◌, ◌≤◌}
use mathlib.Core.Path.{◌≡◌, refl, sym, ap, ap₂, ◌∙◌, subst}
use mathlib.Core.Bool.{Bool, true, false}
use mathlib.Core.List.{List, [], ◌∷◌, ◌++◌, append_assoc, append-nil}
use mathlib.Core.Logic.{◌⊎◌, inl, inr}
use native.Mathlib.Omega.{arith}
use lib.Dec.{leb, eqb}
use lib.ListN.{length, get_or, take, drop, length-append, length-take, length-drop, take-append-drop}
use borrow.Author.Tests.{lt-leb, le-leb, leb-true, leb-false, eqb-false, ne_eqb}
use Rattle.words.specs.Out.{Out, got, bad, then, need, present}
use Rattle.words.specs.Code.{code_list}
use Rattle.words.specs.Read.{ranged}
use Rattle.words.proofs.Promise.{OK, fine, none, Spans, spans_word, lies, past, reads_ranged}
use Rattle.meaning.specs.Tests.{◌is◌}
use Rattle.meaning.specs.Formula.{Formula}
use Rattle.promise.specs.Code.{bit, code_formula}
use Rattle.promise.specs.Form.{ListForm, FormulaForm}
use Rattle.promise.specs.Due.{Word, count, mark, What, one, InAtoms, InCredentials, InClause, InMarked, InEntry}
use Rattle.promise.specs.Table.{Wrong, Fault, Operand, LengthForm}
use Rattle.promise.proofs.Refused.{Why, because, Stops, went, stops, Refuses, refuses_as, refuses_made, Seq, first, second, refuses_then, spans_within, Only, only}
use Rattle.promise.proofs.Due.{refuses_ranged, refuses_count, refuses_atom, refuses_atoms, refuses_credentials}
use Rattle.dossier.specs.Read.{clause, marked, operand, formula, entry}
use Rattle.dossier.proofs.Coded.{exact_operand, operand_refused}
use Rattle.dossier.proofs.Formula.{Strange, high, unknown, Comes, amiss, strange, misfit, operand_comes}
use Rattle.dossier.proofs.Operand.{operand_deep, operand_past, operand_strange}
use Rattle.dossier.proofs.Items.{bit_is, bit_below, reads_creds}

-- ---- clauses

pub refuses_clause : (n : ℕ) → Refuses (clause n) (InClause n)
unfolding clause
refuses_clause n = refuses_as (refuses_then {f = λ h q ws p. _} (reads_ranged 0 n 3) (refuses_atom n) (λ h q f. refuses_made (refuses_atoms n) (λ ws at b. record { head = h; body = b }))) to from
  where
    to : (us : List ℕ) (what : What) → Seq (Only (one (Word.atom n 0))) (λ h. h ∷ []) (λ h. (0 ≤ h) × (h < n)) (λ h. InAtoms n) us what → InClause n us what
    to us what (first only) = InClause.head
    to us what (second h f d) = InClause.body h f.1 d

    from : (us : List ℕ) (what : What) → InClause n us what → Seq (Only (one (Word.atom n 0))) (λ h. h ∷ []) (λ h. (0 ≤ h) × (h < n)) (λ h. InAtoms n) us what
    from us what InClause.head = first only
    from us what (InClause.body h f d) = second h (omega arith, f) d

-- ---- a mark or a sign

pub refuses_mark : Refuses (ranged 0 2 5) (Only (one mark))
refuses_mark = refuses_ranged (record { row = λ x f. Wrong.no_mark (omega (arith, f (omega arith))); only = only' })
  where
    only' : (x k : ℕ) → Wrong mark x k → (k ≡ 5) × (0 ≤ x → x < 2 → ⊥)
    only' x k (Wrong.no_mark h) = (refl, λ a b. omega arith)

-- a mark or a sign, and what follows it
abbrev pub AfterBit : (List ℕ → What → Type 0) → List ℕ → What → Type 0
AfterBit In = Seq (Only (one mark)) (λ x. x ∷ []) (λ x. (0 ≤ x) × (x < 2)) (λ x. In)

pub bit_first : {In : List ℕ → What → Type 0} (v : Bool) (us : List ℕ) (what : What) → In us what → AfterBit In (bit v ∷ us) what
bit_first v us what d = second (bit v) (omega arith, bit_below v) d

pub bit_last : {In : List ℕ → What → Type 0} (To : List ℕ → What → Type 0) → To [] (one mark) → ((v : Bool) (us : List ℕ) (what : What) → In us what → To (bit v ∷ us) what) → (us : List ℕ) (what : What) → AfterBit In us what → To us what
bit_last To z f us what (first only) = z
bit_last To z f us what (second x {us = vs} g d) = subst (λ (y : ℕ). To (y ∷ vs) what) (bit_is x g.1) (f (x is 1) vs what d)

pub refuses_marked : (n : ℕ) → Refuses (marked n) (InMarked n)
unfolding marked
refuses_marked n =
    refuses_as
    (refuses_then {f = λ x q ws p. _} (reads_ranged 0 2 5) refuses_mark (λ x q f. refuses_made (refuses_clause n) (λ ws at c. record { visible = x is 1; clause = c })))
    (bit_last (InMarked n) InMarked.mark (λ v us what d. InMarked.clause v d))
    from
  where
    from : (us : List ℕ) (what : What) → InMarked n us what → AfterBit (InClause n) us what
    from us what InMarked.mark = first only
    from us what (InMarked.clause v {us = vs} d) = bit_first v vs what d

-- ---- formulas

-- the tail of reading a formula, once its length is known
abbrev tail : ℕ → List ℕ → ℕ → ℕ → ℕ → Out Formula
tail n ws at len p = then (operand n at (p + len) 16 ws p) (λ f q. need (eqb q (p + len)) 8 at (got f q))

module _ (n : ℕ) (ws : List ℕ) (at : ℕ) where
  abbrev W : ℕ → ℕ → ℕ → Type 0
  W = Why (Only (What.formula n)) ws at

  -- by this row, for what is there from `at` on
  by : {e p q : ℕ} {shown : List ℕ} (rest : List ℕ) → drop at ws ≡ rest → Fault (What.formula n) rest e q shown → p ≡ at + q → W e p (length shown)
  by {p = p} {q = q} rest v f z = let k : p ≡ at + 0 + q = omega (arith, z) in because [] rest v only f k refl

  -- ---- why it is refused, after its length

  module _ {len p : ℕ} (s : Spans ws at (len ∷ []) p) (some : 1 ≤ len) (few : len < 65) (fits : p + len ≤ length ws) where
    -- the words of the formula, of which us have come
    held : (us rest : List ℕ) → drop p ws ≡ us ++ rest → length us ≤ len → (fs : List ℕ) × ((more : List ℕ) × ((drop p ws ≡ us ++ fs ++ more) × (length (us ++ fs) ≡ len)))
    held us rest v h =
        let k : ℕ = len - length us in (
          take k rest,
          (
            drop k rest,
            (
              v ∙ ap (λ (l : List ℕ). us ++ l) (sym (take-append-drop k rest)) ∙ sym (append_assoc us (take k rest) (drop k rest)),
              omega (arith, length-append us (take k rest), length-take k rest, ap length v, length-append us rest, length-drop p ws),
            ),
          ),
        )

    held_word : (us : List ℕ) (x : ℕ) (rest : List ℕ) → drop p ws ≡ us ++ (x ∷ rest) → length us < len → (fs : List ℕ) × ((more : List ℕ) × ((drop p ws ≡ us ++ (x ∷ fs) ++ more) × (length (us ++ (x ∷ fs)) ≡ len)))
    held_word us x rest v h =
        let (fs, (more, (w, k))) = held (us ++ (x ∷ [])) rest (v ∙ sym (append_assoc us (x ∷ []) rest)) (omega (arith, length-append us (x ∷ []))) in
        let e : us ++ (x ∷ []) ++ fs ≡ us ++ (x ∷ fs) = append_assoc us (x ∷ []) fs in
        (fs, (more, (w ∙ ap (λ (l : List ℕ). l ++ more) e, ap length (sym e) ∙ k)))

    -- with its length before them
    whole : (fs more : List ℕ) → drop p ws ≡ fs ++ more → length fs ≡ len → drop at ws ≡ code_list fs ++ more
    whole fs more v k = s.words ∙ ap (λ (l : List ℕ). len ∷ l) v ∙ ap (λ (i : ℕ). i ∷ (fs ++ more)) (sym k)

    lasts : (fs : List ℕ) → length fs ≡ len → LengthForm fs
    lasts fs k = record { least = omega (arith, k); most = omega (arith, k) }

    why_strange : {x e d q : ℕ} (us rest : List ℕ) → drop p ws ≡ us ++ (x ∷ rest) → q ≡ p + length us → q < p + len → Operand n 16 us (suc d) → Strange n x e → W e q 1
    why_strange {x} us rest v z h o y =
        let (fs, (more, (w, k))) = held_word us x rest v (omega (arith, z)) in
        by _ (whole (us ++ (x ∷ fs)) more w k) (row fs more (lasts (us ++ (x ∷ fs)) k) y) (omega (arith, z, s.next))
      where
        row : {e : ℕ} (fs more : List ℕ) → LengthForm (us ++ (x ∷ fs)) → Strange n x e → Fault (What.formula n) (code_list (us ++ (x ∷ fs)) ++ more) e (1 + length us) (x ∷ [])
        row fs more l (high a b) = Fault.high us fs more l o a (omega arith)
        row fs more l (unknown a b) = Fault.unknown us fs more l o b

    why_misfit : {d : ℕ} (us rest : List ℕ) → drop p ws ≡ us ++ rest → p + length us ≤ p + len → Operand n 16 us d → (d ≡ 0) ⊎ (p + length us ≡ p + len) → W 8 at 1
    why_misfit us rest v h o (inl z) =
        let (fs, (more, (w, k))) = held us rest v (omega arith) in
        by _ (whole (us ++ fs) more w k) (Fault.too_deep us fs more (lasts (us ++ fs) k) (subst (λ (i : ℕ). Operand n 16 us i) z o)) (omega arith)
    why_misfit us rest v h o (inr z) = let k : length us ≡ len = omega (arith, z) in by _ (whole us rest v k) (Fault.needs us rest (lasts us k) o) (omega arith)

    why_before : (f : Formula) (x : ℕ) (rest : List ℕ) → drop p ws ≡ code_formula f ++ (x ∷ rest) → length (code_formula f) < len → FormulaForm n 16 f → W 8 at 1
    why_before f x rest v h g =
        let (fs, (more, (w, k))) = held_word (code_formula f) x rest v h in
        by _ (whole (code_formula f ++ (x ∷ fs)) more w k) (Fault.complete f x fs more (lasts (code_formula f ++ (x ∷ fs)) k) g) (omega arith)

    closes : (b : Bool) (f : Formula) (q : ℕ) → eqb q (p + len) ≡ b → Spans ws p (code_formula f) q → FormulaForm n 16 f → q ≤ p + len → Stops (Only (What.formula n)) ws at (need b 8 at (got f q))
    closes true f q e t g h = went
    closes false f q e t g h =
        let i : q ≡ p + len → ⊥ = eqb-false _ _ e in
        let j : q < length ws = omega arith in
        stops (why_before f (get_or ws q 0) (drop (q + 1) ws) (t.words ∙ ap (λ (l : List ℕ). code_formula f ++ l) (spans_word ws q j).words) (omega (arith, t.next)) g)

    why_words : {o : Out Formula} → Comes n at (p + len) ws 16 p o → Stops (Only (What.formula n)) ws at (then o (λ f q. need (eqb q (p + len)) 8 at (got f q)))
    why_words (Comes.formula {f = f} {p = q} t g h) = closes (eqb q (p + len)) f q refl t g h
    why_words (amiss (strange us rest v z h o y)) = stops (why_strange us rest v z h o y)
    why_words (amiss (misfit us rest v h o y)) = stops (why_misfit us rest v h o y)

  why_present : {len p : ℕ} → Spans ws at (len ∷ []) p → 1 ≤ len → len < 65 → (b : Bool) → leb (p + len) (length ws) ≡ b → Stops (Only (What.formula n)) ws at (present b ws (tail n ws at len p))
  why_present {len} {p} s a b true e = why_words s a b (leb-true _ _ e) (operand_comes n at (p + len) ws 16 p (leb-true _ _ e) (omega arith))
  why_present {len} {p} s a b false e =
      let i : length ws < p + len = leb-false _ _ e in
      let j : p ≤ length ws = spans_within ws s (omega (arith, (lies ws at s.words).here)) in
      stops {p = length ws} (by (len ∷ drop p ws) s.words (Fault.few_remain a (omega arith) (omega (arith, length-drop p ws))) (omega (arith, length-drop p ws, s.next)))

  of_length : {rest : List ℕ} {e q : ℕ} {us : List ℕ} → Fault (one (count 1 64)) rest e q us → Fault (What.formula n) rest e q us
  of_length Fault.ended = Fault.ended
  of_length (Fault.word f) = Fault.no_length f

  why_length : {e p w : ℕ} → Why (Only (one (count 1 64))) ws at e p w → W e p w
  why_length (because us rest v only f z c) = because [] rest v only (of_length f) z c

  why_formula : {o : Out ℕ} → OK (λ len p. Spans ws at (len ∷ []) p × ((1 ≤ len) × (len < 65))) o → Stops (Only (one (count 1 64))) ws at o
      → Stops (Only (What.formula n)) ws at (then o (λ len p. present (leb (p + len) (length ws)) ws (tail n ws at len p)))
  why_formula (fine {v = len} {p = p} s) went = why_present s.0 s.1.0 s.1.1 (leb (p + len) (length ws)) refl
  why_formula none (stops y) = stops (why_length y)

  -- ---- and that it is

  module _ (small : n ≤ 256) (h : at ≤ length ws) where
    -- so many words remain: the rest is what reading them comes to
    formula_words : (fs more : List ℕ) → drop at ws ≡ code_list fs ++ more → LengthForm fs → (formula n ws at ≡ tail n ws at (length fs) (at + 1)) × (drop (at + 1) ws ≡ fs ++ more)
    unfolding formula
    formula_words fs more v l =
        let y = lies ws at v in
        let r = (reads_ranged 1 65 2).exact ws at (length fs) (fs ++ more) v (l.least, omega (arith, l.most)) in
        let k : at + 1 + length fs ≤ length ws = omega (arith, length-drop (at + 1) ws, ap length y.after, length-append fs more, y.here) in
        (simp (r, le-leb (at + 1 + length fs) (length ws) k), y.after)

    -- where the words us lead to an operand that is refused
    led : (us fs more : List ℕ) {d : ℕ} → drop at ws ≡ code_list (us ++ fs) ++ more → LengthForm (us ++ fs) → Operand n 16 us d → {e p w : ℕ} → operand n at (at + 1 + length (us ++ fs)) d ws (at + 1 + length us) ≡ bad e p w → formula n ws at ≡ bad e p w
    led us fs more {d} v l o x =
        let (f, u) = formula_words (us ++ fs) more v l in
        f ∙ ap (λ (a : Out Formula). then a (λ g q. need (eqb q (at + 1 + length (us ++ fs))) 8 at (got g q)))
        (operand_refused n at (at + 1 + length (us ++ fs)) ws small 16 (at + 1) us (fs ++ more) d o (u ∙ append_assoc us fs more) (omega (arith, length-append us fs)) x)

    -- the word after us
    next_is : (us : List ℕ) (x : ℕ) (fs more : List ℕ) → drop at ws ≡ code_list (us ++ (x ∷ fs)) ++ more → get_or ws (at + 1 + length us) 0 ≡ x
    next_is us x fs more v = (lies ws (at + 1 + length us) (past ws (at + 1) us ((lies ws at v).after ∙ append_assoc us (x ∷ fs) more))).this

    so_strange : (us : List ℕ) (x : ℕ) (fs more : List ℕ) {d e : ℕ} → drop at ws ≡ code_list (us ++ (x ∷ fs)) ++ more → LengthForm (us ++ (x ∷ fs)) → Operand n 16 us (suc d) → Strange n x e → formula n ws at ≡ bad e (at + 1 + length us) 1
    so_strange us x fs more {d} v l o y = led us (x ∷ fs) more v l o (operand_strange n at (at + 1 + length (us ++ (x ∷ fs))) (suc d) ws (at + 1 + length us) (omega arith) (omega (arith, length-append us (x ∷ fs))) (next_is us x fs more v) y)

    so_past : (fs more : List ℕ) {d : ℕ} → drop at ws ≡ code_list fs ++ more → LengthForm fs → Operand n 16 fs d → formula n ws at ≡ bad 8 at 1
    so_past fs more {d} v l o =
        let (f, u) = formula_words fs more v l in
        f ∙ ap (λ (a : Out Formula). then a (λ g q. need (eqb q (at + 1 + length fs)) 8 at (got g q))) (operand_refused n at (at + 1 + length fs) ws small 16 (at + 1) fs more d o u (omega arith) (operand_past n at (at + 1 + length fs) d ws (at + 1 + length fs) (omega arith)))

    so_before : (f : Formula) (x : ℕ) (fs more : List ℕ) → drop at ws ≡ code_list (code_formula f ++ (x ∷ fs)) ++ more → LengthForm (code_formula f ++ (x ∷ fs)) → FormulaForm n 16 f → formula n ws at ≡ bad 8 at 1
    so_before f x fs more v l g =
        let end : ℕ = at + 1 + length (code_formula f ++ (x ∷ fs)) in
        let k = length-append (code_formula f) (x ∷ fs) in
        let (e, u) = formula_words (code_formula f ++ (x ∷ fs)) more v l in
        let o = exact_operand n at end ws small 16 (at + 1) f (x ∷ fs ++ more) (u ∙ append_assoc (code_formula f) (x ∷ fs) more) g (omega arith) in
        let d : at + 1 + length (code_formula f) ≡ end → ⊥ = λ z. omega (arith, z) in
        e ∙ ap (λ (a : Out Formula). then a (λ g q. need (eqb q end) 8 at (got g q))) o ∙ ap (λ (b : Bool). need b 8 at (got f (at + 1 + length (code_formula f)))) (ne_eqb _ _ d)

    so_few : (len : ℕ) (fs : List ℕ) → drop at ws ≡ len ∷ fs → 1 ≤ len → len ≤ 64 → length fs < len → formula n ws at ≡ bad 1 (length ws) 0
    unfolding formula
    so_few len fs v a b i =
        let y = lies ws at v in
        let r = (reads_ranged 1 65 2).exact ws at len fs v (a, omega arith) in
        let k : length ws < at + 1 + len = omega (arith, length-drop (at + 1) ws, ap length y.after, y.here) in
        simp (r, lt-leb (at + 1 + len) (length ws) k)

    so_length : {e p w : ℕ} → Why (Only (one (count 1 64))) ws at e p w → formula n ws at ≡ bad e p w
    unfolding formula
    so_length y = ap (λ (o : Out ℕ). then o (λ len q. present (leb (q + len) (length ws)) ws (tail n ws at len q))) ((refuses_count 1 64).so ws at h y)

    refused_at : {e p w q : ℕ} (rest : List ℕ) {shown : List ℕ} → drop at ws ≡ rest → Fault (What.formula n) rest e q shown → p ≡ at + 0 + q → w ≡ length shown → formula n ws at ≡ bad e p w
    refused_at rest v Fault.ended z c = so_length (because [] [] v only Fault.ended z c)
    refused_at rest v (Fault.no_length f) z c = so_length (because [] rest v only (Fault.word f) z c)
    refused_at {p = p} rest v (Fault.few_remain {len = len} {fs = fs} a b i) z c =
        let y = lies ws at v in
        let j : length ws ≡ p = omega (arith, z, length-drop (at + 1) ws, ap length y.after, y.here) in
        so_few len fs v a b i ∙ ap₂ (λ (i j : ℕ). bad 1 i j) j (sym c)
    refused_at {p = p} rest v (Fault.high {x = x} us fs more l o a b) z c = let j : at + 1 + length us ≡ p = omega (arith, z) in so_strange us x fs more v l o (high a (omega arith)) ∙ ap₂ (λ (i j : ℕ). bad 3 i j) j (sym c)
    refused_at {p = p} rest v (Fault.unknown {x = x} us fs more l o a) z c = let j : at + 1 + length us ≡ p = omega (arith, z) in so_strange us x fs more v l o (unknown (omega arith) a) ∙ ap₂ (λ (i j : ℕ). bad 7 i j) j (sym c)
    refused_at {p = p} rest v (Fault.too_deep us fs more l o) z c = let j : at ≡ p = omega (arith, z) in led us fs more v l o (operand_deep n at (at + 1 + length (us ++ fs)) 0 ws (at + 1 + length us) refl) ∙ ap₂ (λ (i j : ℕ). bad 8 i j) j (sym c)
    refused_at {p = p} rest v (Fault.needs fs more l o) z c = let j : at ≡ p = omega (arith, z) in so_past fs more v l o ∙ ap₂ (λ (i j : ℕ). bad 8 i j) j (sym c)
    refused_at {p = p} rest v (Fault.complete f x fs more l g) z c = let j : at ≡ p = omega (arith, z) in so_before f x fs more v l g ∙ ap₂ (λ (i j : ℕ). bad 8 i j) j (sym c)

    so_formula : {e p w : ℕ} → W e p w → formula n ws at ≡ bad e p w
    so_formula (because us rest v only f z c) = refused_at rest v f z c

pub refuses_formula : (n : ℕ) → n ≤ 256 → Refuses (formula n) (Only (What.formula n))
unfolding formula
refuses_formula n small =
    record {
      why = λ ws at h. why_formula n ws at ((reads_ranged 1 65 2).sound ws at) ((refuses_count 1 64).why ws at h);
      so = λ ws at h. so_formula n ws at small h;
    }

-- ---- entries

pub refuses_entry : (n m : ℕ) → n ≤ 256 → Refuses (entry n m) (InEntry n m)
unfolding entry
refuses_entry n m small =
    refuses_as (refuses_then {f = λ S q ws p. _} (reads_creds m) (refuses_credentials m) (λ S q f. refuses_made (refuses_formula n small) (λ ws at g. record { creds = S; formula = g }))) to from
  where
    to : (us : List ℕ) (what : What) → Seq (InCredentials m) code_list (ListForm 32 m) (λ S. Only (What.formula n)) us what → InEntry n m us what
    to us what (first d) = InEntry.creds d
    to us what (second S f only) = subst (λ (l : List ℕ). InEntry n m l what) (sym (append-nil (code_list S))) (InEntry.formula S f)

    from : (us : List ℕ) (what : What) → InEntry n m us what → Seq (InCredentials m) code_list (ListForm 32 m) (λ S. Only (What.formula n)) us what
    from us what (InEntry.creds d) = first d
    from us what (InEntry.formula S f) = subst (λ (l : List ℕ). Seq (InCredentials m) code_list (ListForm 32 m) (λ S. Only (What.formula n)) l what) (append-nil (code_list S)) (second S f only)
