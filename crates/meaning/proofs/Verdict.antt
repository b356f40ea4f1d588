-- Demand 2: each outcome is given exactly when the table says so.
use mathlib.Core.Path.{◌≡◌, refl, sym, ◌∙◌}
use mathlib.Core.Bool.{Bool, true, false, not}
use mathlib.Core.List.Memᴰ
use mathlib.Core.List.{List}
use mathlib.Core.Option.{Option, none, some}
use mathlib.Core.Logic.{◌↔◌}
use Prim.Native.Nat.{ℕ, ◌<◌, zero-le}
use native.Mathlib.Omega.{arith}
use lib.ListN.{length}
use Rattle.meaning.specs.Tests.{◌∈◌, agree, at, choose, lowest}
use Rattle.meaning.specs.Policy.{Clause, Policy}
use Rattle.meaning.specs.Papers.{Entry, Marked, Dossier, policy, visible, answer, Line, Certificate, witness, proof}
use Rattle.meaning.specs.Looks.{Has, Alike, LookTheSame, aim}
use Rattle.meaning.specs.Rules.{line_follows}
use Rattle.meaning.specs.Verdict.{Outcome, opaque, detectable, probe_differs, secret_kept, line_fails, last_not_empty, tried, probe_agrees, last_empty, decide, judge}
use Rattle.meaning.specs.Demands.{Lowest, Differs, Fails, When}
use Rattle.meaning.proofs.Tests.{clash, not_opposite, agree→≡, agree_of, keep_at, map_of, map_at, named_is, at_mem, mem_index, at_below, below_at, Found, lowest_found, found_once}
use Rattle.meaning.proofs.Truth.{alike_tested, unlike_tested}
use Rattle.meaning.proofs.Sound.{has_own}

-- ---- visible clauses

pub own_visible : (D : Dossier) (c : Clause) → c ∈ visible D → Has (policy D) c
unfolding visible policy
own_visible D c m =
    let (x, n, e) = map_at (λ (x : Marked). x.clause) _ m in
    rw e (has_own (map_of (λ (x : Marked). x.clause) (keep_at (λ (x : Marked). x.visible) D.clauses n).0))

pub tried_visible : (D : Dossier) (W : Policy) (c : Clause) → c ∈ visible D → Has (tried D W) c
unfolding tried
tried_visible D W c m = has_own (Memᴰ.append_right W m)

-- ---- the lowest that is at fault

-- T is what it means that number k, of n, fails the test p
module _ (n : ℕ) (p : ℕ → Bool) (T : ℕ → Type 0) (fails : (k : ℕ) → k < n → (p k ≡ false) ↔ T k) (only : (k : ℕ) → T k → k < n) where
  found_lowest : (k : ℕ) → Found p 0 n (some k) ↔ Lowest T k
  unfolding Found
  found_lowest k = (
    λ f. record { here = (fails k (omega (arith, f.1))).0 f.2; below = λ j h t. clash (f.3 j zero-le h) ((fails j (only j t)).1 t) },
    λ l. let z = only k l.here in (zero-le, omega arith, (fails k z).1 l.here, λ j a h. not_opposite (p j) true (λ e. l.below j h ((fails j (omega arith)).0 e))),
  )

  lowest_at : {k : ℕ} → lowest p 0 n ≡ some k → Lowest T k
  lowest_at {k} e = (found_lowest k).0 (rw e at (lowest_found p 0 n))

  lowest_is : {k : ℕ} → Lowest T k → lowest p 0 n ≡ some k
  lowest_is {k} l = found_once p 0 n _ (some k) (lowest_found p 0 n) ((found_lowest k).1 l)

module _ (n : ℕ) (p : ℕ → Bool) where
  none_at_fault : lowest p 0 n ≡ none → (k : ℕ) → k < n → p k ≡ true
  unfolding Found
  none_at_fault e k h = (rw e at (lowest_found p 0 n)) k zero-le (omega arith)

  none_is : ((k : ℕ) → k < n → p k ≡ true) → lowest p 0 n ≡ none
  unfolding Found
  none_is f = found_once p 0 n _ none (lowest_found p 0 n) (λ k a h. f k (omega arith))

-- ---- probes

module _ (D : Dossier) (W : Policy) where
  agrees_is : (k : ℕ) {e : Entry} → at D.probes k ≡ some e → probe_agrees D W k ≡ agree (answer D (tried D W) e) (answer D (policy D) e)
  unfolding probe_agrees
  agrees_is k q = named_is _ q

  differs : (k : ℕ) → k < length D.probes → (probe_agrees D W k ≡ false) ↔ Differs D W k
  differs k h = (to, from)
    where
      to : probe_agrees D W k ≡ false → Differs D W k
      to f = let (e, q) = below_at D.probes k h in (e, q, λ y. clash (agrees_is k q ∙ agree_of ((alike_tested D (policy D) (tried D W) e).0 y)) f)

      from : Differs D W k → probe_agrees D W k ≡ false
      from (e, q, f) = not_opposite _ false (λ t. f ((alike_tested D (policy D) (tried D W) e).1 (agree→≡ (sym (agrees_is k q) ∙ t))))

  differs_below : (k : ℕ) → Differs D W k → k < length D.probes
  differs_below k (e, q, f) = at_below D.probes k q

  looks_same : ((k : ℕ) → k < length D.probes → probe_agrees D W k ≡ true) ↔ LookTheSame D (policy D) (tried D W)
  looks_same = (to, from)
    where
      to : ((k : ℕ) → k < length D.probes → probe_agrees D W k ≡ true) → LookTheSame D (policy D) (tried D W)
      to f =
          record {
            first = own_visible D;
            second = tried_visible D W;
            alike = λ e m. let (k, h, q) = mem_index m in (alike_tested D (policy D) (tried D W) e).1 (agree→≡ (sym (agrees_is k q) ∙ f k h));
          }

      from : LookTheSame D (policy D) (tried D W) → (k : ℕ) → k < length D.probes → probe_agrees D W k ≡ true
      from l k h = let (e, q) = below_at D.probes k h in agrees_is k q ∙ agree_of ((alike_tested D (policy D) (tried D W) e).0 (l.alike e (at_mem _ k q)))

  -- the test of the secret
  abbrev hides : Bool
  hides = agree (answer D (tried D W) D.secret) (not (aim D))

  hides_true : (hides ≡ true) ↔ (Alike D D.secret (policy D) (tried D W) → ⊥)
  unfolding aim
  hides_true = (
    λ h. (unlike_tested D (policy D) (tried D W) D.secret).1 (agree→≡ h),
    λ f. agree_of ((unlike_tested D (policy D) (tried D W) D.secret).0 f),
  )

  hides_false : (hides ≡ false) ↔ Alike D D.secret (policy D) (tried D W)
  unfolding aim
  hides_false = (
    λ h. (alike_tested D (policy D) (tried D W) D.secret).1 (not_opposite _ (aim D) (λ e. clash (agree_of e) h)),
    λ y. not_opposite hides false (λ t. hides_true.0 t y),
  )

-- ---- lines

fails_is : (D : Dossier) (lines : List Line) (k : ℕ) → k < length lines → (line_follows D lines k ≡ false) ↔ Fails D lines k
fails_is D lines k h = (λ e. (h, e), λ f. f.1)

-- ---- demand 2

-- what the judge gives is what the table says
judge_when : (D : Dossier) (c : Certificate) → When D c (judge D c)
unfolding judge When decide choose
judge_when D (witness W) = go (lowest (probe_agrees D W) 0 (length D.probes)) refl (hides D W) refl
  where
    go : (o : Option ℕ) → lowest (probe_agrees D W) 0 (length D.probes) ≡ o → (b : Bool) → hides D W ≡ b → When D (witness W) (decide o probe_differs b opaque secret_kept)
    go (some k) e b h = lowest_at _ (probe_agrees D W) (Differs D W) (differs D W) (differs_below D W) e
    go none e true h = ((looks_same D W).0 (none_at_fault _ _ e), (hides_true D W).0 h)
    go none e false h = ((looks_same D W).0 (none_at_fault _ _ e), (hides_false D W).0 h)
judge_when D (proof lines) = go (lowest (line_follows D lines) 0 (length lines)) refl (last_empty lines) refl
  where
    go : (o : Option ℕ) → lowest (line_follows D lines) 0 (length lines) ≡ o → (b : Bool) → last_empty lines ≡ b → When D (proof lines) (decide o line_fails b detectable last_not_empty)
    go (some k) e b h = lowest_at _ (line_follows D lines) (Fails D lines) (fails_is D lines) (λ j f. f.0) e
    go none e true h = (none_at_fault _ _ e, h)
    go none e false h = (none_at_fault _ _ e, h)

-- and what the table says is given
when_judge : (D : Dossier) (c : Certificate) (o : Outcome) → When D c o → judge D c ≡ o
unfolding judge When decide choose
when_judge D (witness W) opaque h = rw (none_is _ _ ((looks_same D W).1 h.0), (hides_true D W).1 h.1)
when_judge D (witness W) secret_kept h = rw (none_is _ _ ((looks_same D W).1 h.0), (hides_false D W).1 h.1)
when_judge D (witness W) (probe_differs k) h = rw (lowest_is _ (probe_agrees D W) (Differs D W) (differs D W) (differs_below D W) h)
when_judge D (witness W) detectable h = absurd h
when_judge D (witness W) (line_fails k) h = absurd h
when_judge D (witness W) last_not_empty h = absurd h
when_judge D (proof lines) detectable h = rw (none_is _ _ h.0, h.1)
when_judge D (proof lines) last_not_empty h = rw (none_is _ _ h.0, h.1)
when_judge D (proof lines) (line_fails k) h = rw (lowest_is _ (line_follows D lines) (Fails D lines) (fails_is D lines) (λ j f. f.0) h)
when_judge D (proof lines) opaque h = absurd h
when_judge D (proof lines) (probe_differs k) h = absurd h
when_judge D (proof lines) secret_kept h = absurd h

pub judge_exactly : (D : Dossier) (c : Certificate) (o : Outcome) → (judge D c ≡ o) ↔ When D c o
judge_exactly D c o = (λ e. rw e at (judge_when D c), when_judge D c o)
