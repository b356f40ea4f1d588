-- When the readers of a certificate's parts refuse: literals and lines.
use Prim.Native.Nat.{ℕ, zero, suc, ◌+◌, ◌<◌, ◌≤◌}
use mathlib.Core.Path.{◌≡◌, refl, sym, ap, ap₂, ◌∙◌, subst}
use mathlib.Core.Bool.{Bool, true, false, not}
use mathlib.Core.List.Memᴰ
use mathlib.Core.List.{List, [], ◌∷◌, ◌++◌, append_assoc, append-nil}
use native.Mathlib.Omega.{arith}
use lib.ListN.{length, drop}
use Rattle.words.specs.Out.{Out, got, bad, then, made, need, word}
use Rattle.words.specs.Code.{code_list, code_all}
use Rattle.words.specs.Read.{ranged, times}
use Rattle.words.proofs.Promise.{OK, fine, none, ok_then, ok_need, in_then_ok, in_need, in_got, Spans, Reads, reads_ranged}
use Rattle.meaning.specs.Tests.{◌∈◌, ◌is◌}
use Rattle.meaning.specs.Papers.{Literal}
use Rattle.meaning.specs.Rules.{same_statement}
use Rattle.meaning.proofs.Tests.{not_true, any_at}
use Rattle.meaning.proofs.Sound.{same_statement→≡}
use Rattle.promise.specs.Code.{bit, code_literal}
use Rattle.promise.specs.Form.{ListForm, StatementForm, Apart}
use Rattle.promise.specs.Line.{data_count, rule_of}
use Rattle.promise.specs.Due.{Word, rule, datum, count, What, one, InAtoms, InCredentials, InLiteral, Ruled, Begun, InLine}
use Rattle.promise.specs.Table.{Wrong, Fault}
use Rattle.promise.proofs.Refused.{Why, because, why_as, refuses_nothing, Stops, went, stops, Refuses, refuses_as, refuses_same, refuses_made, Seq, first, second, refuses_then, Only, only, passes, refuses_word}
use Rattle.promise.proofs.Due.{refuses_ranged, refuses_count, refuses_atom, refuses_atoms, refuses_credentials, InTimes, behind, refuses_times}
use Rattle.dossier.proofs.Items.{reads_atoms, reads_creds}
use Rattle.dossier.proofs.Refusals.{refuses_mark, AfterBit, bit_first, bit_last}
use Rattle.certificate.specs.Read.{statement, literal, spoken, literals, line}
use Rattle.certificate.proofs.Items.{reads_literal}
use Rattle.certificate.proofs.Literals.{unspoken, Fresh, fresh_cons, fresh_apart, each_cons}
use Rattle.certificate.proofs.Lines.{reads_word, code_words, reads_data}

-- ---- a literal

module _ (n m : ℕ) where
  abbrev InStatement : List ℕ → What → Type 0
  InStatement = Seq (InCredentials m) code_list (ListForm 32 m) (λ S. Seq (InAtoms n) code_list (ListForm 8 n) (λ X. Only (one (Word.atom n 0))))

  refuses_statement : Refuses (statement n m) InStatement
  unfolding statement
  refuses_statement =
      refuses_then {f = λ S q ws p. _} (reads_creds m) (refuses_credentials m) (λ S q f.
      refuses_then {f = λ X q ws p. _} (reads_atoms n) (refuses_atoms n) (λ X q g.
      refuses_made (refuses_atom n) (λ ws at a. record { creds = S; atoms = X; atom = a })))

  literal_to : (v : Bool) (us : List ℕ) (what : What) → InStatement us what → InLiteral n m (bit v ∷ us) what
  literal_to v us what (first d) = InLiteral.creds v d
  literal_to v us what (second S f (first d)) = InLiteral.atoms v S f d
  literal_to v us what (second S f (second X g only)) = subst (λ (l : List ℕ). InLiteral n m (bit v ∷ (code_list S ++ l)) what) (sym (append-nil (code_list X))) (InLiteral.atom v S X f g)

  literal_from : (us : List ℕ) (what : What) → InLiteral n m us what → AfterBit InStatement us what
  literal_from us what InLiteral.sign = first only
  literal_from us what (InLiteral.creds v {us = vs} d) = bit_first v vs what (first d)
  literal_from us what (InLiteral.atoms v S {us = vs} f d) = bit_first v (code_list S ++ vs) what (second S f (first d))
  literal_from us what (InLiteral.atom v S X f g) = subst (λ (l : List ℕ). AfterBit InStatement (bit v ∷ (code_list S ++ l)) what) (append-nil (code_list X)) (bit_first v (code_list S ++ (code_list X ++ [])) what (second S f (second X g only)))

  refuses_literal : Refuses (literal n m) (InLiteral n m)
  unfolding literal
  refuses_literal =
      refuses_as
      (refuses_then {f = λ x q ws p. _} (reads_ranged 0 2 5) refuses_mark (λ x q f. refuses_made refuses_statement (λ ws at s. record { positive = x is 1; said = s })))
      (bit_last (InLiteral n m) InLiteral.sign literal_to)
      literal_from

-- ---- the next literal of a line, with the test of 13

-- a part of it is due, or it as a whole
data InNext (n m : ℕ) (before : List Literal) : List ℕ → What → Type 0 where
  part : {us : List ℕ} {what : What} → InLiteral n m us what → InNext n m before us what
  whole : InNext n m before [] (What.literal n m before)

module _ (n m : ℕ) (before : List Literal) where
  next : List ℕ → ℕ → Out Literal
  next ws at = then (literal n m ws at) (λ l p. need (not (spoken l.said before)) 13 at (got l p))

  abbrev New : Literal → Type 0
  New l = StatementForm n m l.said × (spoken l.said before ≡ false)

  reads_next : Reads next code_literal New
  unfolding next
  reads_next =
      record {
        sound = λ ws at. ok_then _ ((reads_literal n m).sound ws at) (λ l p s. ok_need (not (spoken l.said before)) 13 at (λ b. fine (s.0, (s.1, not_true _ b))));
        exact = λ ws at l rest h f. simp ((reads_literal n m).exact ws at l rest h f.0, f.1);
        inside = λ ws at h. in_then_ok _ ((reads_literal n m).sound ws at) ((reads_literal n m).inside ws at h) (λ l p s i. in_need (not (spoken l.said before)) 13 at (omega (arith, s.0.next)) (in_got i));
      }

  refuses_next : Refuses next (InNext n m before)
  unfolding next spoken
  refuses_next = record { why = λ ws at h. go ws at ((reads_literal n m).sound ws at) ((refuses_literal n m).why ws at h); so = so }
    where
      tested : (ws : List ℕ) (at : ℕ) (l : Literal) (p : ℕ) → Spans ws at (code_literal l) p → StatementForm n m l.said → (b : Bool) → spoken l.said before ≡ b → Stops (InNext n m before) ws at (need (not b) 13 at (got l p))
      tested ws at l p s f false e = went
      tested ws at l p s f true e =
          let (x, i, k) = any_at (λ y. same_statement y.said l.said) before e in
          let z : at ≡ at + 0 + 0 = omega arith in
          stops (because [] (code_literal l ++ drop p ws) s.words whole (Fault.twice l x (drop p ws) f i (same_statement→≡ k)) z refl)

      go : (ws : List ℕ) (at : ℕ) {o : Out Literal} → OK (λ l p. Spans ws at (code_literal l) p × StatementForm n m l.said) o → Stops (InLiteral n m) ws at o → Stops (InNext n m before) ws at (then o (λ l p. need (not (spoken l.said before)) 13 at (got l p)))
      go ws at (fine {v = l} {p = p} s) went = tested ws at l p s.0 s.1 (spoken l.said before) refl
      go ws at none (stops y) = stops (why_as (λ us what d. part d) y)

      refused : (ws : List ℕ) (at : ℕ) → at ≤ length ws → {e p w : ℕ} → Why (InLiteral n m) ws at e p w → next ws at ≡ bad e p w
      refused ws at h y = ap (λ (o : Out Literal). then o (λ l p. need (not (spoken l.said before)) 13 at (got l p))) ((refuses_literal n m).so ws at h y)

      repeated : (l x : Literal) → x ∈ before → x.said ≡ l.said → (b : Bool) → spoken l.said before ≡ b → not (spoken l.said before) ≡ false
      repeated l x i e true q = ap not q
      repeated l x i e false q = absurd (unspoken q x i e)

      so : (ws : List ℕ) (at : ℕ) → at ≤ length ws → {e p w : ℕ} → Why (InNext n m before) ws at e p w → next ws at ≡ bad e p w
      so ws at h (because us rest v (part d) f z c) = refused ws at h (because us rest v d f z c)
      so ws at h (because us rest v whole Fault.ended z c) = refused ws at h (because [] [] v InLiteral.sign Fault.ended z c)
      so ws at h {p = p} (because us _ v whole (Fault.twice l x rest f i e) z c) =
          let j : at ≡ p = omega (arith, z) in
          ap (λ (o : Out Literal). then o (λ l p. need (not (spoken l.said before)) 13 at (got l p))) ((reads_literal n m).exact ws at l rest v f)
          ∙ ap (λ (b : Bool). need b 13 at (got l (at + length (code_literal l)))) (repeated l x i e (spoken l.said before) refl)
          ∙ ap₂ (λ (i k : ℕ). bad 13 i k) j (sym c)

-- ---- so many of them

data InLiterals (n m k : ℕ) (before : List Literal) : List ℕ → What → Type 0 where
  after : (ls : List Literal) {us : List ℕ} {what : What} → length ls < k → ((x : Literal) → x ∈ ls → StatementForm n m x.said) → Fresh before ls → InNext n m (before ++ ls) us what → InLiterals n m k before (code_all code_literal ls ++ us) what

module _ (n m : ℕ) where
  abbrev Then : ℕ → List Literal → List ℕ → What → Type 0
  Then k before = Seq (InNext n m before) code_literal (New n m before) (λ l. InLiterals n m k (before ++ (l ∷ [])))

  literals_to : (k : ℕ) (before : List Literal) (us : List ℕ) (what : What) → Then k before us what → InLiterals n m (suc k) before us what
  unfolding code_all Apart
  literals_to k before us what (first d) =
      after [] (omega arith) (λ x i. absurd (Memᴰ.not-nil i)) ((λ x i. absurd (Memᴰ.not-nil i)), tt) (subst (λ (l : List Literal). InNext n m l us what) (sym (append-nil before)) d)
  literals_to k before us what (second l f (after ls {us = vs} h g i d)) =
      subst (λ (v : List ℕ). InLiterals n m (suc k) before v what) (append_assoc (code_literal l) (code_all code_literal ls) vs)
      (after (l ∷ ls) (omega arith) (each_cons n m f.0 g) (fresh_cons before l ls f.1 i) (subst (λ (z : List Literal). InNext n m z vs what) (append_assoc before (l ∷ []) ls) d))

  literals_from : (k : ℕ) (before : List Literal) (us : List ℕ) (what : What) → InLiterals n m (suc k) before us what → Then k before us what
  unfolding code_all
  literals_from k before us what (after [] {us = vs} h g i d) = first (subst (λ (l : List Literal). InNext n m l vs what) (append-nil before) d)
  literals_from k before us what (after (l ∷ ls) {us = vs} h g i d) =
      let j = fresh_apart before l ls i in
      subst (λ (v : List ℕ). Then k before v what) (sym (append_assoc (code_literal l) (code_all code_literal ls) vs))
      (second l (g l (Memᴰ.head refl), j.0) (after ls (omega arith) (λ x t. g x (Memᴰ.tail t)) j.1 (subst (λ (z : List Literal). InNext n m z vs what) (sym (append_assoc before (l ∷ []) ls)) d)))

  literals_next : (k : ℕ) (before : List Literal) (ws : List ℕ) (at : ℕ) → then (next n m before ws at) (λ l p. made (λ ls. l ∷ ls) (literals n m k (before ++ (l ∷ [])) ws p)) ≡ literals n m (suc k) before ws at
  unfolding next literals
  literals_next k before ws at = go (literal n m ws at)
    where
      tested : (b : Bool) (l : Literal) (p : ℕ) → then (need b 13 at (got l p)) (λ l p. made (λ ls. l ∷ ls) (literals n m k (before ++ (l ∷ [])) ws p)) ≡ need b 13 at (made (λ ls. l ∷ ls) (literals n m k (before ++ (l ∷ [])) ws p))
      tested true l p = refl
      tested false l p = refl

      go : (o : Out Literal) → then (then o (λ l p. need (not (spoken l.said before)) 13 at (got l p))) (λ l p. made (λ ls. l ∷ ls) (literals n m k (before ++ (l ∷ [])) ws p))
          ≡ then o (λ l p. need (not (spoken l.said before)) 13 at (made (λ ls. l ∷ ls) (literals n m k (before ++ (l ∷ [])) ws p)))
      go (got l p) = tested (not (spoken l.said before)) l p
      go (bad e p w) = refl

  refuses_literals : (k : ℕ) (before : List Literal) → Refuses (literals n m k before) (InLiterals n m k before)
  unfolding literals
  refuses_literals zero before = refuses_nothing [] never
    where
      never : (us : List ℕ) (what : What) → InLiterals n m 0 before us what → ⊥
      never us what (after ls h g i d) = omega arith
  refuses_literals (suc k) before =
      refuses_same
      (refuses_as (refuses_then {f = λ l q ws p. _} (reads_next n m before) (refuses_next n m before) (λ l q f. refuses_made (refuses_literals k (before ++ (l ∷ []))) (λ ws at ls. l ∷ ls))) (literals_to k before) (literals_from k before))
      (literals_next k before)

-- ---- a line

refuses_rule : Refuses (ranged 1 9 12) (Only (one rule))
refuses_rule = refuses_ranged (record { row = λ x f. Wrong.no_rule (λ a b. f a (omega arith)); only = only' })
  where
    only' : (x k : ℕ) → Wrong rule x k → (k ≡ 12) × (1 ≤ x → x < 9 → ⊥)
    only' x k (Wrong.no_rule f) = (refl, λ a b. f a (omega arith))

datum_none : (x e : ℕ) → Wrong datum x e → ⊥
datum_none x e = elim [ ]

refuses_datum : Refuses word (Only (one datum))
refuses_datum = refuses_same (refuses_word datum (λ x at p. got x p) (λ x at p. passes (datum_none x))) (λ ws at. go (word ws at))
  where
    go : (o : Out ℕ) → then o (λ x p. got x p) ≡ o
    go (got x p) = refl
    go (bad e p w) = refl

-- fewer data words than there must be
data InData (k : ℕ) : List ℕ → What → Type 0 where
  short : (ds : List ℕ) → length ds < k → InData k ds (one datum)

refuses_data : (k : ℕ) → Refuses (times k word) (InData k)
refuses_data k = refuses_as (refuses_times reads_word refuses_datum k) to from
  where
    to : (us : List ℕ) (what : What) → InTimes (λ x. x ∷ []) (λ x. Unit {0}) (Only (one datum)) k us what → InData k us what
    to us what (behind ds h g only) = subst (λ (l : List ℕ). InData k l what) (sym (append-nil (code_all (λ x. x ∷ []) ds) ∙ code_words ds)) (short ds h)

    from : (us : List ℕ) (what : What) → InData k us what → InTimes (λ x. x ∷ []) (λ x. Unit {0}) (Only (one datum)) k us what
    from us what (short ds h) = subst (λ (l : List ℕ). InTimes (λ x. x ∷ []) (λ x. Unit {0}) (Only (one datum)) k l what) (append-nil (code_all (λ x. x ∷ []) ds) ∙ code_words ds) (behind ds h (λ x i. tt) only)

module _ (n m : ℕ) where
  abbrev FromCount : List ℕ → What → Type 0
  FromCount = Seq (Only (one (count 0 8))) (λ k. k ∷ []) (λ k. (0 ≤ k) × (k < 9)) (λ k. InLiterals n m k [])

  abbrev FromRule : List ℕ → What → Type 0
  FromRule = Seq (Only (one rule)) (λ r. r ∷ []) (λ r. (1 ≤ r) × (r < 9)) (λ r. Seq (InData (data_count r)) (λ ds. ds) (λ ds. length ds ≡ data_count r) (λ ds. FromCount))

  ruled : {r : ℕ} {ds : List ℕ} → (1 ≤ r) × (r < 9) → length ds ≡ data_count r → Ruled r ds
  ruled f g = record { least = f.0; most = omega (arith, f.1); all = g }

  begun : {k : ℕ} {ls : List Literal} → (0 ≤ k) × (k < 9) → length ls < k → ((x : Literal) → x ∈ ls → StatementForm n m x.said) → Fresh [] ls → Begun n m k ls
  begun h l g i = record { few = omega (arith, h.1); more = l; sound = record { each = g; apart = i.1 } }

  line_to : (us : List ℕ) (what : What) → FromRule us what → InLine n m us what
  line_to us what (first only) = InLine.rule
  line_to us what (second r f (first (short ds h))) = InLine.datum r ds f.0 (omega (arith, f.1)) h
  line_to us what (second r f (second ds g (first only))) = subst (λ (l : List ℕ). InLine n m (r ∷ l) what) (sym (append-nil ds)) (InLine.count r ds (ruled f g))
  line_to us what (second r f (second ds g (second k h (after ls l e i (part d))))) = InLine.in_literal r ds k ls (ruled f g) (begun h l e i) d
  line_to us what (second r f (second ds g (second k h (after ls l e i whole)))) =
      subst (λ (v : List ℕ). InLine n m (r ∷ (ds ++ (k ∷ v))) what) (sym (append-nil (code_all code_literal ls))) (InLine.literal r ds k ls (ruled f g) (begun h l e i))

  line_from : (us : List ℕ) (what : What) → InLine n m us what → FromRule us what
  line_from us what InLine.rule = first only
  line_from us what (InLine.datum r ds a b h) = second r (a, omega arith) (first (short ds h))
  line_from us what (InLine.count r ds f) = subst (λ (l : List ℕ). FromRule (r ∷ l) what) (append-nil ds) (second r (f.least, omega (arith, f.most)) (second ds f.all (first only)))
  line_from us what (InLine.literal r ds k ls f b) =
      subst (λ (v : List ℕ). FromRule (r ∷ (ds ++ (k ∷ v))) what) (append-nil (code_all code_literal ls))
      (second r (f.least, omega (arith, f.most)) (second ds f.all (second k (omega arith, omega (arith, b.few)) (after ls b.more b.sound.each ((λ x i y j. absurd (Memᴰ.not-nil j)), b.sound.apart) whole))))
  line_from us what (InLine.in_literal r ds k ls f b d) =
      second r (f.least, omega (arith, f.most)) (second ds f.all (second k (omega arith, omega (arith, b.few)) (after ls b.more b.sound.each ((λ x i y j. absurd (Memᴰ.not-nil j)), b.sound.apart) (part d))))

  pub refuses_line : Refuses (line n m) (InLine n m)
  unfolding line
  refuses_line =
      refuses_as
      (refuses_then {f = λ r p ws q. _} (reads_ranged 1 9 12) refuses_rule (λ r p f.
      refuses_then {f = λ ds q ws t. _} (reads_data (data_count r)) (refuses_data (data_count r)) (λ ds q g.
      refuses_then {f = λ k t ws u. _} (reads_ranged 0 9 2) (refuses_count 0 8) (λ k t h.
      refuses_made (refuses_literals n m k []) (λ ws at ls. record { rule = rule_of ws r p; literals = ls })))))
      line_to line_from
