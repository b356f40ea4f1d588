-- `needed_exactly` of specs/Needed.antt: none of the seven rules can be spared.
use mathlib.Core.Path.{◌≡◌, refl, subst}
use mathlib.Core.Bool.{true, false, true≢false}
use mathlib.Core.List.Memᴰ
use mathlib.Core.List.{List, [], ◌∷◌}
use mathlib.Core.Option.{some}
use Prim.Native.Nat.{ℕ, zero, suc}
use Rattle.meaning.specs.Tests.{◌∈◌, ◌is◌, all, at, named}
use Rattle.meaning.specs.Policy.{Clause, fact}
use Rattle.meaning.specs.Formula.{atom}
use Rattle.meaning.specs.Papers.{Dossier, Statement, Literal, Rule, number, Line}
use Rattle.meaning.specs.Rules.{denied, fires, follows, earlier}
use Rattle.meaning.specs.Verdict.{ProofAccepted}
use Rattle.meaning.proofs.Tests.{and_both, and_of, named_at_lem, named_of, at_mem}
use Rattle.completeness.specs.Needed.{enough, Needed, NeededExactly}
use Rattle.meaning.specs.Example.{clause_of, entry_of, example_with, t1}
use Rattle.meaning.proofs.Example.{compute}
use Rattle.completeness.proofs.Tree.{gives_at}
use Rattle.completeness.proofs.Complete.{seven_enough}
use Rattle.completeness.proofs.Example.{none_of, also, t1_well_formed, t1_detectable}
use Rattle.completeness.proofs.Sample.{sample_with, probed, three, sample, unfold_sample, sample_detectable, sample_well_formed, two, sample_probe, sample_secret, sample_without}
use Rattle.completeness.proofs.Uses.{Uses, uses, line_follows_lem, empty_line, Carried, uses_by}
use Rattle.completeness.proofs.Values.{uses_cut}

-- rule 6 looks only at a credential's head
heads_same : (h : ℕ) (x y : List ℕ) (ls : List Literal) (s : Statement) (c : ℕ) → named (at (record { head = h; body = x } ∷ []) c) (λ (e : Clause). denied ls s e.head) ≡ named (at (record { head = h; body = y } ∷ []) c) (λ (e : Clause). denied ls s e.head)
unfolding at named
heads_same h x y ls s zero = refl
heads_same h x y ls s (suc c) = refl

-- ---- rules 1, 2, 3, 5: the sample changed where only that rule looks

-- no probe
carried1 : Carried 1 sample (sample_with true [] [] three)
unfolding unfold_sample
carried1 b ls (Rule.probe k) f h = absurd (f refl)
carried1 b ls Rule.secret f h = h
carried1 b ls (Rule.clause i j) f h = h
carried1 b ls (Rule.assumed j) f h = h
carried1 b ls (Rule.credential c j) f h = h
carried1 b ls (Rule.cut j i) f h = h
carried1 b ls (Rule.without c i j k) f h = h
carried1 b ls (Rule.resolve u v i j) f h = h

-- another secret
carried2 : Carried 2 sample (sample_with true [] probed (atom 3))
unfolding unfold_sample
carried2 b ls (Rule.probe k) f h = h
carried2 b ls Rule.secret f h = absurd (f refl)
carried2 b ls (Rule.clause i j) f h = h
carried2 b ls (Rule.assumed j) f h = h
carried2 b ls (Rule.credential c j) f h = h
carried2 b ls (Rule.cut j i) f h = h
carried2 b ls (Rule.without c i j k) f h = h
carried2 b ls (Rule.resolve u v i j) f h = h

-- no visible clause
carried3 : Carried 3 sample (sample_with false [] probed three)
unfolding unfold_sample
carried3 b ls (Rule.probe k) f h = h
carried3 b ls Rule.secret f h = h
carried3 b ls (Rule.clause i j) f h = absurd (f refl)
carried3 b ls (Rule.assumed j) f h = h
carried3 b ls (Rule.credential c j) f h = h
carried3 b ls (Rule.cut j i) f h = h
carried3 b ls (Rule.without c i j k) f h = h
carried3 b ls (Rule.resolve u v i j) f h = h

-- a credential that never fires
carried5 : Carried 5 sample (sample_with true (1 ∷ []) probed three)
unfolding unfold_sample
carried5 b ls (Rule.probe zero) f h = h
carried5 b ls (Rule.probe (suc k)) f h = h
carried5 b ls Rule.secret f h = h
carried5 b ls (Rule.clause i j) f h = h
carried5 b ls (Rule.assumed j) f h = h
carried5 b ls (Rule.credential c j) f h = absurd (f refl)
carried5 b ls (Rule.cut j i) f h = simp (heads_same 1 [] (1 ∷ []) ls) at h
carried5 b ls (Rule.without c i j k) f h = absurd (sample_without b ls c i j k h)
carried5 b ls (Rule.resolve u v i j) f h = h

-- ---- rule 7: T1 with the credential as a fact

t1_fact : Dossier
t1_fact = record { labels = t1.labels; clauses = t1.clauses; creds = fact 1 ∷ []; probes = t1.probes; secret = t1.secret }

-- rule 5 asks less of a credential without body
fact_fires : (b : List Line) (ls : List Literal) (c j : ℕ) → follows t1 b ls (Rule.credential c j) ≡ true → follows t1_fact b ls (Rule.credential c j) ≡ true
unfolding follows t1 example_with clause_of entry_of t1_fact fires all
fact_fires b ls c j h =
    let (e, ee, g) = named_at_lem _ _ h in
    let (l, el, t) = named_at_lem _ _ g in
    let (in_creds, fired) = and_both t in
    let (most, body) = and_both fired in
    let (plus, on) = and_both most in
    let (q, ef) = instead c ee in
    named_of _ ef (named_of _ el (and_of in_creds (and_of (and_of plus (subst (λ (y : Clause). l.said.atom is y.head ≡ true) q on)) refl)))
  where
    instead : (c : ℕ) {e : Clause} → at (clause_of 1 (0 ∷ []) ∷ []) c ≡ some e → (e ≡ clause_of 1 (0 ∷ [])) × (at (fact 1 ∷ []) c ≡ some (fact 1))
    instead zero h = unfold at in (cc, refl)
    instead (suc c) h = unfold at in absurd (true≢false (cc))

carried7 : Carried 7 t1 t1_fact
unfolding compute t1_fact
carried7 b ls (Rule.probe zero) f h = h
carried7 b ls (Rule.probe (suc zero)) f h = h
carried7 b ls (Rule.probe (suc (suc k))) f h = h
carried7 b ls Rule.secret f h = h
carried7 b ls (Rule.clause i j) f h = h
carried7 b ls (Rule.assumed j) f h = h
carried7 b ls (Rule.credential c j) f h = fact_fires b ls c j h
carried7 b ls (Rule.cut j i) f h = simp (heads_same 1 (0 ∷ []) [] ls) at h
carried7 b ls (Rule.without c i j k) f h = absurd (f refl)
carried7 b ls (Rule.resolve u v i j) f h = h

-- ---- rule 8: no other gives the empty line

empty_fails : (b : List Line) (r : Rule) → (number r ≡ 8 → ⊥) → follows sample b [] r ≡ true → ⊥
unfolding follows
empty_fails b (Rule.probe k) f h = let (j, e) = gives_at [] (two []) _ (sample_probe b [] k h) in Memᴰ.not-nil (at_mem [] j e)
empty_fails b Rule.secret f h = let (j, e) = gives_at [] (two (0 ∷ [])) _ (sample_secret b [] h) in Memᴰ.not-nil (at_mem [] j e)
empty_fails b (Rule.clause i j) f h = let (m, em, g) = named_at_lem _ _ h in let (l, e, t) = named_at_lem _ _ g in Memᴰ.not-nil (at_mem [] j e)
empty_fails b (Rule.assumed j) f h = let (l, e, t) = named_at_lem _ _ h in Memᴰ.not-nil (at_mem [] j e)
empty_fails b (Rule.credential c j) f h = let (d, ed, g) = named_at_lem _ _ h in let (l, e, t) = named_at_lem _ _ g in Memᴰ.not-nil (at_mem [] j e)
empty_fails b (Rule.cut j i) f h = let (l, e, t) = named_at_lem _ _ h in Memᴰ.not-nil (at_mem [] j e)
empty_fails b (Rule.without c i j k) f h = sample_without b [] c i j k h
empty_fails b (Rule.resolve u v i j) f h = f refl

uses_resolve : (lines : List Line) → ProofAccepted sample lines → Uses 8 lines
uses_resolve lines h = uses 8 lines λ f.
    let (k, l, e, z) = empty_line sample lines h in
    empty_fails (earlier lines k) l.rule (f l (at_mem lines k e)) (rw z at (line_follows_lem sample lines h k e))

-- ---- each of the seven

by_sample : (k : ℕ) → ((lines : List Line) → ProofAccepted sample lines → Uses k lines) → Needed k
by_sample k f = (sample, sample_well_formed, sample_detectable, f)

each_needed : (k : ℕ) → k ∈ enough → Needed k
unfolding enough unfold_sample t1_fact
each_needed =
    also Needed (by_sample 1 (uses_by 1 sample (sample_with true [] [] three) carried1 [] refl))
    (also Needed (by_sample 2 (uses_by 2 sample (sample_with true [] probed (atom 3)) carried2 (fact 2 ∷ []) refl))
    (also Needed (by_sample 3 (uses_by 3 sample (sample_with false [] probed three) carried3 (fact 2 ∷ []) refl))
    (also Needed (by_sample 5 (uses_by 5 sample (sample_with true (1 ∷ []) probed three) carried5 (fact 2 ∷ []) refl))
    (also Needed (by_sample 6 uses_cut)
    (also Needed (t1, t1_well_formed, t1_detectable, uses_by 7 t1 t1_fact carried7 [] refl)
    (also Needed (by_sample 8 uses_resolve)
    (none_of Needed)))))))

-- and no other: a proof of narrow lines has none by it
pub needed_exactly : NeededExactly
needed_exactly k = (λ (D, wf, d, f). let (lines, accepted, narrow) = seven_enough D wf d in let (l, m, q) = f lines accepted in subst (λ (n : ℕ). n ∈ enough) q (narrow l m).rule, each_needed k)
