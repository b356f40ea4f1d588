-- A sound line that lies in the words is the one that is seen there.
use Prim.Native.Nat.{ℕ, ◌+◌, ◌<◌}
use mathlib.Core.Path.{◌≡◌, refl, sym, ap, ◌∙◌}
use mathlib.Core.List.{List, ◌++◌, append_assoc}
use native.Mathlib.Omega.{arith}
use lib.ListN.{length, get_or, drop, length-append}
use lib.Seq.{get_or-drop}
use Rattle.words.specs.Code.{code_many}
use Rattle.meaning.specs.Tests.{◌is◌, choose}
use Rattle.meaning.specs.Papers.{Rule, probe, secret, clause, assumed, credential, cut, without, resolve, number}
use Rattle.promise.specs.Code.{code_literal, data_of, code_line}
use Rattle.promise.specs.Form.{LineForm}
use Rattle.promise.specs.Place.{place, many}
use Rattle.promise.specs.Line.{literal, data_count, rule_of, line}
use Rattle.promise.proofs.Seen.{first_word, next_words, words_after, word_there, Seen, see_many, literals_seen}

word_at_lem : (ws : List ℕ) (p i : ℕ) {l : List ℕ} → drop p ws ≡ l → get_or ws (p + i) 0 ≡ get_or l i 0
word_at_lem ws p i w = sym (get_or-drop p ws i 0) ∙ ap (λ (l : List ℕ). get_or l i 0) w

-- a rule has as many data words as its number says
pub data_count_lem : (r : Rule) → data_count (number r) ≡ length (data_of r)
unfolding data_count choose ◌is◌
data_count_lem (probe k) = refl
data_count_lem secret = refl
data_count_lem (clause i j) = refl
data_count_lem (assumed j) = refl
data_count_lem (credential c j) = refl
data_count_lem (cut j i) = refl
data_count_lem (without c i j k) = refl
data_count_lem (resolve u v i j) = refl

pub number_some : (r : Rule) → 0 < number r
number_some (probe k) = omega arith
number_some secret = omega arith
number_some (clause i j) = omega arith
number_some (assumed j) = omega arith
number_some (credential c j) = omega arith
number_some (cut j i) = omega arith
number_some (without c i j k) = omega arith
number_some (resolve u v i j) = omega arith

rule_seen : (ws : List ℕ) (p : ℕ) (r : Rule) (l : List ℕ) → drop p ws ≡ data_of r ++ l → rule_of ws (number r) p ≡ r
unfolding rule_of choose ◌is◌
rule_seen ws p (probe k) l w = rw (first_word ws p w)
rule_seen ws p secret l w = refl
rule_seen ws p (clause i j) l w = rw (first_word ws p w, word_at_lem ws p 1 w)
rule_seen ws p (assumed j) l w = rw (first_word ws p w)
rule_seen ws p (credential c j) l w = rw (first_word ws p w, word_at_lem ws p 1 w)
rule_seen ws p (cut j i) l w = rw (first_word ws p w, word_at_lem ws p 1 w)
rule_seen ws p (without c i j k) l w = rw (first_word ws p w, word_at_lem ws p 1 w, word_at_lem ws p 2 w, word_at_lem ws p 3 w)
rule_seen ws p (resolve u v i j) l w = rw (first_word ws p w, word_at_lem ws p 1 w, word_at_lem ws p 2 w, word_at_lem ws p 3 w)

pub lines_seen : (n m : ℕ) → Seen line code_line (LineForm n m)
lines_seen n m ws p l rest w f =
    let r = l.rule in
    let ls = l.literals in
    let tail : List ℕ = code_many code_literal ls in
    let x : get_or ws p 0 ≡ number r = first_word ws p w in
    let d : data_count (get_or ws p 0) ≡ length (data_of r) = ap data_count x ∙ data_count_lem r in
    let u : drop (p + 1) ws ≡ data_of r ++ (tail ++ rest) = next_words ws p w ∙ append_assoc (data_of r) tail rest in
    let o : ℕ = p + 1 + data_count (get_or ws p 0) in
    let v : drop o ws ≡ tail ++ rest = ap (λ (i : ℕ). drop (p + 1 + i) ws) d ∙ words_after ws (p + 1) (data_of r) u in
    let k : get_or ws o 0 ≡ length ls = first_word ws o v in
    let s = see_many literal code_literal (λ _. Unit {0}) literals_seen ws (o + 1) ls rest (next_words ws o v) (λ y i. tt) in
    let a : rule_of ws (get_or ws p 0) (p + 1) ≡ r = ap (λ (y : ℕ). rule_of ws y (p + 1)) x ∙ rule_seen ws (p + 1) r (tail ++ rest) u in
    let b : many literal ws (o + 1) (get_or ws o 0) ≡ ls = ap (many literal ws (o + 1)) k ∙ s.that in
    record {
      that = rw (a, b);
      next = ap (place (literal.next ws) (o + 1)) k ∙ s.next ∙ (omega (arith, d, length-append (data_of r) tail));
      ok = record { rule = rw x (number_some r); head = omega (arith, word_there ws o v); literals = rw k s.fit };
    }
