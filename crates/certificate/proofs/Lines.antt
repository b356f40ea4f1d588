-- The data words of a line, and the line: one step of each reader, and what it promises.
use Prim.Native.Nat.{ℕ, zero, suc, ◌+◌, ◌<◌, ◌≤◌}
use mathlib.Core.Path.{◌≡◌, refl, sym, ap, ap₂, ◌∙◌, subst₂}
use mathlib.Core.Bool.{Bool, true, false}
use mathlib.Core.List.{List, [], ◌∷◌, ◌++◌, append_assoc}
use native.Mathlib.Omega.{arith}
use native.Mathlib.Decide.{dec_lt}
use lib.Dec.{ltb}
use lib.ListN.{length, get_or, drop, length-append}
use borrow.Author.Tests.{ltb-true, lt-ltb, le-ltb}
use Rattle.words.specs.Out.{got, bad, present, word}
use Rattle.words.specs.Read.{ranged, times}
use Rattle.words.specs.Answer.{answer_by, as_step, as_got}
use Rattle.words.specs.Code.{code_all, code_many}
use Rattle.std.specs.Prelude.{Result, Ok, Err}
use Rattle.reply.specs.declared.Fault.{Fault}
use Rattle.reply.specs.declared.Refusal.{Refusal}
use Rattle.words.proofs.Steps.{failed, stepped, step_made}
use Rattle.words.proofs.Promise.{OK, ok_then, ok_made, ok_word, ok_more, In, in_got, in_bad, in_then, in_made, Spans, spans_join, lies, past, Reads, reads_as, reads_ranged, reads_times}
use Rattle.meaning.specs.Tests.{◌is◌, choose}
use Rattle.meaning.specs.Papers.{Rule, probe, secret, clause, assumed, credential, cut, without, resolve, number, Line}
use Rattle.promise.specs.Code.{code_literal, data_of, code_line}
use Rattle.promise.specs.Form.{LineForm}
use Rattle.promise.specs.Line.{data_count, rule_of}
use Rattle.promise.proofs.Seen.{first_word, next_words}
use Rattle.promise.proofs.SeenLine.{data_count_lem, number_some, lines_seen}
use Rattle.certificate.specs.Read.{literals, line}
use Rattle.certificate.proofs.Literals.{reads_literals}

-- ---- data words: so many are there, or the paper ends before

pub data_there : (k : ℕ) (ws : List ℕ) (at : ℕ) → at + k ≤ length ws → as_step (times k word ws at) ≡ Ok (at + k)
unfolding times answer_by
data_there zero ws at h = ap Ok (omega arith)
data_there (suc k) ws at h =
    let i : at < length ws = omega arith in
    let n : at + 1 + k ≡ at + suc k = omega arith in
    simp (lt-ltb _ _ i, step_made, data_there k ws (at + 1) (omega arith)) (ap Ok n)

pub data_past : (k : ℕ) (ws : List ℕ) (at : ℕ) → at ≤ length ws → length ws < at + k → times k word ws at ≡ bad 1 (length ws) 0
unfolding times answer_by
data_past zero ws at h g = absurd (omega arith)
data_past (suc k) ws at h g = go (dec_lt at (length ws)) (data_past k ws (at + 1))
  where
    go : Dec (at < length ws) → (at + 1 ≤ length ws → length ws < at + 1 + k → times k word ws (at + 1) ≡ bad 1 (length ws) 0) → times (suc k) word ws at ≡ bad 1 (length ws) 0
    go (yes i) ih = simp (lt-ltb _ _ i, ih (omega arith) (omega arith))
    go (no n) ih = let i : length ws ≤ at = omega arith in simp (le-ltb _ _ i)

-- ---- a line: each part is refused, or was read and the next answers for the rest

module _ (n m : ℕ) (ws : List ℕ) (at : ℕ) where
  module _ {rule k : ℕ} {s : Result ℕ (Refusal Fault)} (a : ranged 1 9 12 ws at ≡ got rule (at + 1)) (c : k ≡ data_count rule) (d : s ≡ as_step (times k word ws (at + 1))) where
    pub data_bad : {x : Refusal Fault} → s ≡ Err x → Err x ≡ as_step (line n m ws at)
    unfolding line answer_by
    data_bad g = let b = failed _ _ (times k word ws (at + 1)) d g in rw (a, ← c, b.is) (ap Err b.told)

    module _ {q : ℕ} (g : s ≡ Ok q) where
      pub count_bad : {t : Result ℕ (Refusal Fault)} {x : Refusal Fault} → t ≡ as_got (ranged 0 9 2 ws q) → t ≡ Err x → Err x ≡ as_step (line n m ws at)
      unfolding line answer_by
      count_bad e h = let b = (stepped _ (times k word ws (at + 1)) d g).1 in let f = failed _ _ (ranged 0 9 2 ws q) e h in rw (a, ← c, b, f.is) (ap Err f.told)

      pub line_on : {j p : ℕ} → ranged 0 9 2 ws q ≡ got j p → as_step (literals n m j [] ws p) ≡ as_step (line n m ws at)
      unfolding line
      line_on h = let b = (stepped _ (times k word ws (at + 1)) d g).1 in rw (a, ← c, b, h) (sym (step_made _ _ _))

-- ---- what the reader of data words promises: their presence alone is tested

pub reads_word : Reads word (λ x. x ∷ []) (λ x. Unit {0})
reads_word =
    record {
      sound = λ ws at. ok_more (ok_word ws at) (λ x p s. (s, tt));
      exact = λ ws at x rest h f. let l = lies ws at h in simp (lt-ltb _ _ l.here, l.this);
      inside = λ ws at h. go ws at (ltb at (length ws)) refl;
    }
  where
    go : (ws : List ℕ) (at : ℕ) (b : Bool) → ltb at (length ws) ≡ b → In (length ws) (present b ws (got (get_or ws at 0) (at + 1)))
    go ws at true q = let i : at + 1 ≤ length ws = omega (arith, ltb-true at (length ws) q) in in_got i
    go ws at false q = let i : length ws + 0 ≤ length ws = omega arith in in_bad i

pub code_words : (d : List ℕ) → code_all (λ x. x ∷ []) d ≡ d
unfolding code_all
code_words [] = refl
code_words (x ∷ d) = ap (λ l. x ∷ l) (code_words d)

pub reads_data : (k : ℕ) → Reads (times k word) (λ d. d) (λ d. length d ≡ k)
reads_data k = reads_as (reads_times reads_word k) (λ d f. code_words d) (λ d. (λ f. f.0, λ f. (f, λ x i. tt)))

-- the words from p on, as `rule_of` names them
later : List ℕ → ℕ → ℕ → ℕ → List ℕ
later ws p i zero = []
later ws p i (suc k) = get_or ws (p + i) 0 ∷ later ws p (suc i) k

first : List ℕ → ℕ → ℕ → List ℕ
first ws p zero = []
first ws p (suc k) = get_or ws p 0 ∷ later ws p 1 k

later_is : (ws : List ℕ) (p i : ℕ) (d rest : List ℕ) → drop (p + i) ws ≡ d ++ rest → later ws p i (length d) ≡ d
unfolding later
later_is ws p i [] rest w = refl
later_is ws p i (x ∷ d) rest w =
    let z : p + i + 1 ≡ p + suc i = omega arith in
    ap₂ {C = List ℕ} ◌∷◌ (first_word ws (p + i) w) (later_is ws p (suc i) d rest (rw (← z) (next_words ws (p + i) w)))

first_is : (ws : List ℕ) (p : ℕ) (d rest : List ℕ) → drop p ws ≡ d ++ rest → first ws p (length d) ≡ d
unfolding first
first_is ws p [] rest w = refl
first_is ws p (x ∷ d) rest w = ap₂ {C = List ℕ} ◌∷◌ (first_word ws p w) (later_is ws p 1 d rest (next_words ws p w))

-- the rule that is made of its number and its data words has that number and those words
rule_data : (ws : List ℕ) (p r : ℕ) → 1 ≤ r → r < 9 → (number (rule_of ws r p) ≡ r) × (data_of (rule_of ws r p) ≡ first ws p (data_count r))
unfolding rule_of data_count choose ◌is◌ first later
rule_data ws p zero a b = absurd (omega arith)
rule_data ws p (suc zero) a b = (refl, refl)
rule_data ws p (suc (suc zero)) a b = (refl, refl)
rule_data ws p (suc (suc (suc zero))) a b = (refl, refl)
rule_data ws p (suc (suc (suc (suc zero)))) a b = (refl, refl)
rule_data ws p (suc (suc (suc (suc (suc zero))))) a b = (refl, refl)
rule_data ws p (suc (suc (suc (suc (suc (suc zero)))))) a b = (refl, refl)
rule_data ws p (suc (suc (suc (suc (suc (suc (suc zero))))))) a b = (refl, refl)
rule_data ws p (suc (suc (suc (suc (suc (suc (suc (suc zero)))))))) a b = (refl, refl)
rule_data ws p (suc (suc (suc (suc (suc (suc (suc (suc (suc r))))))))) a b = absurd (omega arith)

number_few : (r : Rule) → number r < 9
number_few (probe k) = omega arith
number_few secret = omega arith
number_few (clause i j) = omega arith
number_few (assumed j) = omega arith
number_few (credential c j) = omega arith
number_few (cut j i) = omega arith
number_few (without c i j k) = omega arith
number_few (resolve u v i j) = omega arith

-- ---- what the reader of lines promises

pub reads_line : (n m : ℕ) → Reads (line n m) code_line (LineForm n m)
unfolding line
reads_line n m = record { sound = sound; exact = exact; inside = inside }
  where
    inside : (ws : List ℕ) (at : ℕ) → at ≤ length ws → In (length ws) (line n m ws at)
    inside ws at h =
        in_then _ ((reads_ranged 1 9 12).inside ws at h) (λ r p i.
        in_then _ ((reads_data (data_count r)).inside ws p i) (λ d q j.
        in_then _ ((reads_ranged 0 9 2).inside ws q j) (λ k t l.
        in_made _ ((reads_literals n m k).inside ws t l))))

    -- the code of a line whose rule is made of its number and its data words
    code : (ws : List ℕ) (at z r p : ℕ) (d rest tail : List ℕ) → 1 ≤ r → r < 9 → length d ≡ data_count r → drop p ws ≡ d ++ rest → Spans ws at (r ∷ (d ++ tail)) z → Spans ws at (number (rule_of ws r p) ∷ (data_of (rule_of ws r p) ++ tail)) z
    code ws at z r p d rest tail a b e w s =
        let (x, y) = rule_data ws p r a b in
        let f : first ws p (data_count r) ≡ d = rw (← e) (first_is ws p d rest w) in
        subst₂ (λ i l. Spans ws at (i ∷ (l ++ tail)) z) (sym x) (sym (y ∙ f)) s

    sound : (ws : List ℕ) (at : ℕ) → OK (λ l p. Spans ws at (code_line l) p × LineForm n m l) (line n m ws at)
    sound ws at =
        ok_then _ ((reads_ranged 1 9 12).sound ws at) (λ r p s.
        ok_then _ ((reads_data (data_count r)).sound ws p) (λ d q t.
        ok_then _ ((reads_ranged 0 9 2).sound ws q) (λ k u v.
        ok_made _ ((reads_literals n m k).sound ws u) (λ ls z y.
        let c : Spans ws q (k ∷ code_all code_literal ls) z = spans_join v.0 y.0 in (
          code ws at z r p d (drop q ws) (code_many code_literal ls) s.1.0 s.1.1 t.1 t.0.words (spans_join s.0 (spans_join t.0 (rw (← y.1.0) at c))),
          record { few = omega (arith, y.1.0, v.1.1); literals = record { each = y.1.1.0; apart = y.1.1.1 } },
        )))))

    exact : (ws : List ℕ) (at : ℕ) (l : Line) (rest : List ℕ) → drop at ws ≡ code_line l ++ rest → LineForm n m l → line n m ws at ≡ got l (at + length (code_line l))
    exact ws at l rest h f =
        let r = l.rule in
        let ls = l.literals in
        let tail : List ℕ = code_many code_literal ls in
        let a = (reads_ranged 1 9 12).exact ws at (number r) (data_of r ++ tail ++ rest) h (number_some r, number_few r) in
        let u : drop (at + 1) ws ≡ data_of r ++ (tail ++ rest) = next_words ws at h ∙ append_assoc (data_of r) tail rest in
        let d = (reads_data (data_count (number r))).exact ws (at + 1) (data_of r) (tail ++ rest) u (sym (data_count_lem r)) in
        let q : ℕ = at + 1 + length (data_of r) in
        let v : drop q ws ≡ tail ++ rest = past ws (at + 1) (data_of r) u in
        let k = (reads_ranged 0 9 2).exact ws q (length ls) (code_all code_literal ls ++ rest) v (omega arith, omega (arith, f.few)) in
        let x = (reads_literals n m (length ls)).exact ws (q + 1) ls rest (next_words ws q v) (refl, (f.literals.each, f.literals.apart)) in
        let y : rule_of ws (number r) (at + 1) ≡ r = ap (λ i. rule_of ws i (at + 1)) (sym (first_word ws at h)) ∙ ap (λ (j : Line). j.rule) (lines_seen n m ws at l rest h f).that in
        let z : q + 1 + length (code_all code_literal ls) ≡ at + length (code_line l) = omega (arith, length-append (data_of r) tail) in
        simp (a, d, k, x, y) (ap (got l) z)
