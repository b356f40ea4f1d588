-- Sections of items: what the code answers, by the answers of one item, and that this is what reading a section comes to.
use Prim.Native.Nat.{ℕ, zero, suc, ◌+◌, ◌-◌, ◌<◌, ◌≤◌}
use mathlib.Core.Path.{◌≡◌, refl, sym, ap, ◌∙◌}
use mathlib.Core.List.{List, ◌∷◌}
use native.Mathlib.Omega.{arith}
use mathlib.Core.Bool.{Bool, true, false}
use lib.Dec.{leb}
use borrow.Author.Tests.{le-leb, lt-leb}
use lib.ListN.{length, take, drop, length-drop}
use Rattle.std.specs.Prelude.{Result, Ok, Err}
use Rattle.reply.specs.declared.Fault.TheVariants as fault
use Rattle.reply.specs.declared.Fault.{Fault}
use Rattle.reply.specs.declared.Refusal.{Refusal}
use Rattle.words.specs.declared.item.Section.{Section}
use Rattle.words.specs.Out.{Out, got, bad, then, made, need, moved, after}
use Rattle.words.specs.Read.{ranged, times, section}
use Rattle.words.specs.Answer.{answer_by, answer, as_step, as_got, at_word, Within}
use Rattle.words.specs.Items.{SectionWithin, on_ok, ended_step, last_step, moved_step, items_step, section_step, part_step, as_section}
use Rattle.words.proofs.Promise.{OK, fine, none, anything, ok_then, ok_made, In, in_got, in_bad, reads_got, reads_ranged}
use Rattle.words.proofs.Steps.{less_one, step_made, answer_fault}
use Rattle.words.proofs.Parts.{take_rest}

module _ (r : List ℕ → ℕ → Result ℕ (Refusal Fault)) where
  -- one turn of so many items
  module _ (k : ℕ) (ws : List ℕ) (p : ℕ) where
    pub items_none : k ≤ 0 → items_step r k ws p ≡ Ok p
    unfolding items_step
    items_none h = let z : k ≡ 0 = omega arith in rw z

    module _ (more : 0 < k) {o : Result ℕ (Refusal Fault)} (t : o ≡ r ws p) where
      pub items_stop : {x : Refusal Fault} → o ≡ Err x → items_step r k ws p ≡ Err x
      unfolding items_step
      items_stop g = let z = sym t ∙ g in rw (less_one k more, z)

      pub items_on : {q : ℕ} → o ≡ Ok q → items_step r k ws p ≡ items_step r (k - 1) ws q
      unfolding items_step
      items_on {q} g = go (k - 1) (less_one k more) (sym t ∙ g)
        where
          go : (j : ℕ) → k ≡ suc j → r ws p ≡ Ok q → items_step r k ws p ≡ items_step r j ws q
          go j e z = rw (e, z)

  -- a section: its count is refused, or was read and the items follow
  module _ (lo hi : ℕ) (ws : List ℕ) {o : Result ℕ (Refusal Fault)} (t : o ≡ as_got (ranged lo hi 2 ws 0)) where
    pub section_stop : {x : Refusal Fault} → o ≡ Err x → section_step r lo hi ws ≡ Err x
    unfolding section_step
    section_stop g = let z = sym t ∙ g in rw z

    module _ {k : ℕ} (g : o ≡ Ok k) {a : Result ℕ (Refusal Fault)} (u : a ≡ items_step r k ws 1) where
      pub section_item : {x : Refusal Fault} → a ≡ Err x → section_step r lo hi ws ≡ Err x
      unfolding section_step
      section_item h = let z = sym t ∙ g in let y = sym u ∙ h in rw (z, y)

      pub section_done : {q : ℕ} → a ≡ Ok q → section_step r lo hi ws ≡ Ok (record { count = k; next = q })
      unfolding section_step
      section_done h = let z = sym t ∙ g in let y = sym u ∙ h in rw (z, y)

  -- the part's answer, moved to the whole
  module _ (lo hi : ℕ) (ws : List ℕ) (p : ℕ) (h : p ≤ length ws) {a : Result Section (Refusal Fault)} (t : (a ≡ section_step r lo hi (take (length ws - p) (drop p ws))) × SectionWithin (length (take (length ws - p) (drop p ws))) a) where
    rest : {b : Result Section (Refusal Fault)} → a ≡ b → section_step r lo hi (drop p ws) ≡ b
    rest g = ap (section_step r lo hi) (sym (take_rest ws p)) ∙ sym t.0 ∙ g

    pub part_refused : {x : Refusal Fault} → a ≡ Err x → (p + x.place + x.count ≤ length ws) × (part_step r lo hi ws p ≡ Err (record { fault = x.fault; place = p + x.place; count = x.count }))
    unfolding part_step moved_step
    part_refused g =
        let z = rest g in
        let i = rw (g, take_rest ws p) at t.1 in
        (omega (arith, i, length-drop p ws), rw z)

    pub part_passed : {s : Section} → a ≡ Ok s → (p + s.next ≤ length ws) × (part_step r lo hi ws p ≡ Ok (record { count = s.count; next = p + s.next }))
    unfolding part_step moved_step
    part_passed g =
        let z = rest g in
        let i = rw (g, take_rest ws p) at t.1 in
        (omega (arith, i, length-drop p ws), rw z)

  -- a section, and whether a word is left after it
  module _ (lo hi : ℕ) (ws : List ℕ) (p : ℕ) {a : Result Section (Refusal Fault)} (t : a ≡ part_step r lo hi ws p) where
    pub last_refused : {x : Refusal Fault} → a ≡ Err x → last_step r lo hi ws p ≡ Err x
    unfolding last_step
    last_refused g = let z = sym t ∙ g in rw z

    pub last_left : {s : Section} → a ≡ Ok s → s.next < length ws → last_step r lo hi ws p ≡ Err (at_word fault.LeftOver s.next)
    unfolding last_step
    last_left g i = let z = sym t ∙ g in rw (z, lt-leb _ _ i)

    pub last_done : {s : Section} → a ≡ Ok s → length ws ≤ s.next → last_step r lo hi ws p ≡ Ok s.count
    unfolding last_step
    last_done g i = let z = sym t ∙ g in rw (z, le-leb _ _ i)

-- what lies in the paper, as the code answers it
pub within_step : {A : Type 0} {l : ℕ} {o : Out A} → In l o → Within l (as_step o)
unfolding answer_by
within_step (in_got h) = h
within_step (in_bad h) = h

-- what the reader of an item answers, and that its places lie in the paper
pub reading : {A : Type 0} (r : List ℕ → ℕ → Out A) → ((ws : List ℕ) (at : ℕ) → at ≤ length ws → In (length ws) (r ws at)) → (ws : List ℕ) (at : ℕ) {o : Result ℕ (Refusal Fault)} → o ≡ as_step (r ws at) → (o ≡ as_step (r ws at)) × (at ≤ length ws → Within (length ws) o)
reading r inside ws at e = (e, λ h. rw e (within_step (inside ws at h)))

-- a section is answered as it is read
module _ {A : Type 0} (r : List ℕ → ℕ → Out A) where
  told_items : (k : ℕ) (ws : List ℕ) (at : ℕ) → items_step (λ us p. as_step (r us p)) k ws at ≡ as_step (times k r ws at)
  unfolding items_step times answer_by
  told_items zero ws at = refl
  told_items (suc k) ws at = go (r ws at) (λ p. told_items k ws p)
    where
      go : (o : Out A) → ((p : ℕ) → items_step (λ us q. as_step (r us q)) k ws p ≡ as_step (times k r ws p)) → on_ok (as_step o) (λ p. items_step (λ us q. as_step (r us q)) k ws p) ≡ as_step (then o (λ v p. made (λ vs. v ∷ vs) (times k r ws p)))
      go (got v p) h = h p ∙ sym (step_made _ (λ vs. v ∷ vs) (times k r ws p))
      go (bad e p w) h = refl

  -- so many were read
  times_count : (k : ℕ) (ws : List ℕ) (p : ℕ) → OK (λ xs q. length xs ≡ k) (times k r ws p)
  unfolding times
  times_count zero ws p = fine refl
  times_count (suc k) ws p = ok_then (λ v q. made (λ vs. v ∷ vs) (times k r ws q)) (anything (r ws p)) (λ v q u. ok_made (λ vs. v ∷ vs) (times_count k ws q) (λ xs s e. ap suc e))

  told_section : (lo hi : ℕ) (ws : List ℕ) → section_step (λ us q. as_step (r us q)) lo hi ws ≡ as_section (section lo hi r ws 0)
  unfolding section_step section answer_by
  told_section lo hi ws = go (ranged lo hi 2 ws 0) refl
    where
      ends : (k : ℕ) (o : Out (List A)) → OK (λ xs q. length xs ≡ k) o → on_ok (as_step o) (λ p. Ok (record { count = k; next = p })) ≡ as_section o
      ends k (got xs p) (fine e) = ap (λ (j : ℕ). Ok (record { count = j; next = p })) (sym e)
      ends k (bad e p w) none = refl

      go : (o : Out ℕ) → ranged lo hi 2 ws 0 ≡ o → on_ok (as_got o) (λ k. on_ok (items_step (λ us q. as_step (r us q)) k ws 1) (λ p. Ok (record { count = k; next = p }))) ≡ as_section (then o (λ k p. times k r ws p))
      go (got k q) e =
          let z : 1 ≡ q = omega (arith, (reads_got (reads_ranged lo hi 2) e).0.next) in
          ap (λ (i : ℕ). on_ok (items_step (λ us q. as_step (r us q)) k ws i) (λ p. Ok (record { count = k; next = p }))) z ∙ rw (told_items k ws q) (ends k (times k r ws q) (times_count k ws q))
      go (bad e p w) h = refl

  pub told_part : (lo hi : ℕ) (ws : List ℕ) (p : ℕ) → part_step (λ us q. as_step (r us q)) lo hi ws p ≡ as_section (after (section lo hi r) ws p)
  unfolding part_step after moved moved_step answer_by
  told_part lo hi ws p = ap (moved_step p) (told_section lo hi (drop p ws)) ∙ told_moved (section lo hi r (drop p ws) 0)
    where
      told_moved : (o : Out (List A)) → moved_step p (as_section o) ≡ as_section (moved p o)
      told_moved (got xs q) = refl
      told_moved (bad e q w) = refl

  pub told_last : (lo hi : ℕ) (ws : List ℕ) (p : ℕ) → last_step (λ us q. as_step (r us q)) lo hi ws p ≡ answer (λ xs q. length xs) (then (after (section lo hi r) ws p) (λ xs q. need (leb (length ws) q) 9 q (got xs q)))
  unfolding last_step answer_by
  told_last lo hi ws p = rw (told_part lo hi ws p) (go (after (section lo hi r) ws p))
    where
      ends : (xs : List A) (q : ℕ) (b : Bool) → ended_step b (record { count = length xs; next = q }) ≡ answer (λ ys t. length ys) (need b 9 q (got xs q))
      ends xs q true = refl
      ends xs q false = sym (answer_fault (λ (ys : List A) t. length ys) {f = fault.LeftOver} refl)

      go : (o : Out (List A)) → on_ok (as_section o) (λ s. ended_step (leb (length ws) s.next) s) ≡ answer (λ xs q. length xs) (then o (λ xs q. need (leb (length ws) q) 9 q (got xs q)))
      go (got xs q) = ends xs q (leb (length ws) q)
      go (bad e q w) = refl
