-- A section that is read as the part from p on: what the reader finds there is what the whole has, p further on.
use Prim.Native.Nat.{ℕ, zero, suc, ◌+◌, ◌-◌, ◌≤◌}
use mathlib.Core.Path.{◌≡◌, sym, ap, ◌∙◌}
use mathlib.Core.List.{List, ◌∷◌, ◌++◌}
use native.Mathlib.Omega.{arith}
use lib.ListN.{length, take, drop, length-drop}
use lib.Seq.{take_all, drop-drop}
use Rattle.words.specs.Out.{Out, got, bad, moved, after}
use Rattle.words.specs.Read.{times, section}
use Rattle.words.proofs.Promise.{reads_ranged, in_then, in_made, Spans, OK, fine, none, In, in_got, in_bad, bad_in, got_in, Reads}

-- the part from p on, as the code takes it, is the rest
pub take_rest : (ws : List ℕ) (p : ℕ) → take (length ws - p) (drop p ws) ≡ drop p ws
take_rest ws p = take_all (length ws - p) (drop p ws) (omega (arith, length-drop p ws))

in_moved : {A : Type 0} {o : Out A} (ws : List ℕ) (p : ℕ) → p ≤ length ws → In (length (drop p ws)) o → In (length ws) (moved p o)
unfolding moved
in_moved ws p h (in_got {p = q} i) = let z : p + q ≤ length ws = omega (arith, length-drop p ws) in in_got z
in_moved ws p h (in_bad {p = q} {w = w} i) = let z : p + q + w ≤ length ws = omega (arith, length-drop p ws) in in_bad z

module _ {A : Type 0} {r : List ℕ → ℕ → Out A} (inside : (ws : List ℕ) (at : ℕ) → at ≤ length ws → In (length ws) (r ws at)) (ws : List ℕ) (p : ℕ) (h : p ≤ length ws) where
  pub in_after : In (length ws) (after r ws p)
  unfolding after
  in_after = in_moved ws p h (inside (drop p ws) 0 (omega arith))

  -- what was found in the part
  pub after_bad : {e q w : ℕ} → r (take (length ws - p) (drop p ws)) 0 ≡ bad e q w → (p + q ≤ length ws) × (after r ws p ≡ bad e (p + q) w)
  unfolding after moved
  after_bad {e} {q} {w} g =
      let b : after r ws p ≡ bad e (p + q) w = ap (λ l. moved p (r l 0)) (sym (take_rest ws p)) ∙ ap (moved p) g in
      (omega (arith, bad_in in_after b), b)

  pub after_got : {v : A} {q : ℕ} → r (take (length ws - p) (drop p ws)) 0 ≡ got v q → (p + q ≤ length ws) × (after r ws p ≡ got v (p + q))
  unfolding after moved
  after_got {v} {q} g =
      let b : after r ws p ≡ got v (p + q) = ap (λ l. moved p (r l 0)) (sym (take_rest ws p)) ∙ ap (moved p) g in
      (got_in in_after b, b)

-- the promise of a reader holds of the reader of the part that begins at the place
pub reads_after : {A : Type 0} {r : List ℕ → ℕ → Out A} {code : A → List ℕ} {Form : A → Type 0} → Reads r code Form → Reads (after r) code Form
unfolding after moved
reads_after {A} {r} {code} {Form} R =
    record {
      sound = λ ws p. ok_moved ws p (R.sound (drop p ws) 0);
      exact = λ ws p x rest h f. ap (moved p) (R.exact (drop p ws) 0 x rest h f) ∙ ap (got x) (omega arith);
      inside = in_after R.inside;
    }
  where
    ok_moved : (ws : List ℕ) (p : ℕ) {o : Out A} → OK (λ x q. Spans (drop p ws) 0 (code x) q × Form x) o → OK (λ x q. Spans ws p (code x) q × Form x) (moved p o)
    ok_moved ws p (fine {v = x} {p = q} s) =
        fine {p = p + q} (record { words = s.0.words ∙ ap (λ l. code x ++ l) (drop-drop q p ws); next = omega (arith, s.0.next) }, s.1)
    ok_moved ws p none = none

-- every place of a section lies in the paper
module _ {A : Type 0} (r : List ℕ → ℕ → Out A) (inside : (ws : List ℕ) (at : ℕ) → at ≤ length ws → In (length ws) (r ws at)) where
  in_times : (k : ℕ) (ws : List ℕ) (at : ℕ) → at ≤ length ws → In (length ws) (times k r ws at)
  unfolding times
  in_times zero ws at h = in_got h
  in_times (suc k) ws at h = in_then _ (inside ws at h) (λ v q i. in_made (λ vs. v ∷ vs) (in_times k ws q i))

  pub in_section : (lo hi : ℕ) (ws : List ℕ) (at : ℕ) → at ≤ length ws → In (length ws) (section lo hi r ws at)
  unfolding section
  in_section lo hi ws at h = in_then _ ((reads_ranged lo hi 2).inside ws at h) (λ k p i. in_times k ws p i)
