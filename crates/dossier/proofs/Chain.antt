-- The sections one after the other.
use Prim.Native.Nat.{ℕ, suc, ◌+◌, ◌-◌, ◌<◌, ◌≤◌}
use mathlib.Core.Path.{◌≡◌, refl, sym, ap, ap₂, ◌∙◌}
use mathlib.Core.Bool.{Bool, true, false}
use mathlib.Core.List.{List, [], ◌∷◌}
use native.Mathlib.Omega.{arith}
use lib.ListN.{length, drop}
use lib.Dec.{leb}
use Rattle.std.specs.Prelude.{Result, Ok, Err}
use Rattle.reply.specs.declared.Fault.{Fault}
use Rattle.reply.specs.declared.Refusal.{Refusal}
use Rattle.words.specs.Out.{Out, got, bad, then, made, need, moved, after}
use Rattle.words.specs.Read.{Any, ranged, listed, section, times}
use Rattle.words.specs.Answer.{answer_by, answer, as_step}
use Rattle.words.specs.Items.{part_step, last_step, as_section}
use Rattle.words.specs.declared.item.Section.{Section}
use Rattle.words.specs.Code.{code_many}
use Rattle.words.proofs.Steps.{failed, passed, stepped}
use Rattle.words.proofs.Sections.{told_part, told_last}
use Rattle.words.proofs.Promise.{OK, fine, none, got_in, Spans, Reads, reads_got, reads_ranged, reads_listed, reads_section}
use Rattle.words.proofs.Parts.{in_after, reads_after}
use Rattle.meaning.specs.Policy.{Clause}
use Rattle.meaning.specs.Papers.{Entry, Marked, Dossier}
use Rattle.promise.specs.Code.{code_marked, code_clause, code_entry}
use Rattle.promise.specs.Layout.{layout_of}
use Rattle.promise.specs.declared.Layout.{Layout}
use Rattle.dossier.specs.Read.{clause, marked, entry, secret, ended, sections, dossier}
use Rattle.dossier.specs.Found.{Asked, asked, as_asked, as_form}
use Rattle.dossier.proofs.Items.{reads_clause, reads_marked, reads_entry}

-- a section of exactly one thing is that thing after the count
one_thing : (n m : ℕ) (ws : List ℕ) (at : ℕ) → section 1 2 (entry n m) ws at ≡ made (λ e. e ∷ []) (secret n m ws at)
unfolding section secret times
one_thing n m ws at = go (ranged 1 2 2 ws at) ((reads_ranged 1 2 2).sound ws at)
  where
    single : (o : Out Entry) → then o (λ v p. made (λ vs. v ∷ vs) (got [] p)) ≡ made (λ e. e ∷ []) o
    single (got v p) = refl
    single (bad e p w) = refl

    go : (o : Out ℕ) → OK (λ x p. Spans ws at (x ∷ []) p × ((1 ≤ x) × (x < 2))) o → then o (λ k p. times k (entry n m) ws p) ≡ made (λ e. e ∷ []) (then o (λ k p. entry n m ws p))
    go (got k p) (fine h) = let z : k ≡ 1 = omega (arith, h.1.0, h.1.1) in rw z (single (entry n m ws p))
    go (bad e p w) none = refl

one_after : (n m : ℕ) (ws : List ℕ) (p : ℕ) → after (section 1 2 (entry n m)) ws p ≡ made (λ e. e ∷ []) (after (secret n m) ws p)
unfolding after moved
one_after n m ws p = ap (moved p) (one_thing n m (drop p ws) 0) ∙ both (secret n m (drop p ws) 0)
  where
    both : (o : Out Entry) → moved p (made (λ e. e ∷ []) o) ≡ made (λ e. e ∷ []) (moved p o)
    both (got v q) = refl
    both (bad e q w) = refl

-- what the code answers of it, where no word may be left
secret_told : (n m : ℕ) (ws : List ℕ) (p : ℕ) → last_step (λ us q. as_step (entry n m us q)) 1 2 ws p ≡ answer (λ e q. 1) (then (after (secret n m) ws p) (λ e q. ended ws e q))
unfolding ended answer_by
secret_told n m ws p = told_last (entry n m) 1 2 ws p ∙ rw (one_after n m ws p) (go (after (secret n m) ws p))
  where
    left : (e : Entry) (q : ℕ) (b : Bool) → answer (λ es r. length es) (need b 9 q (got (e ∷ []) q)) ≡ answer (λ e r. 1) (need b 9 q (got e q))
    left e q true = refl
    left e q false = refl

    go : (o : Out Entry) → answer (λ es q. length es) (then (made (λ e. e ∷ []) o) (λ es q. need (leb (length ws) q) 9 q (got es q))) ≡ answer (λ e q. 1) (then o (λ e q. need (leb (length ws) q) 9 q (got e q)))
    go (got e q) = left e q (leb (length ws) q)
    go (bad e q w) = refl

-- a section that was read: its things, how many, and where it ends
pub record Sectioned {A : Type 0} (r : List ℕ → ℕ → Out A) (code : A → List ℕ) (lo hi : ℕ) (ws : List ℕ) (p : ℕ) (s : Section) : Type 0 where
  pub xs : List A
  pub is : after (section lo hi r) ws p ≡ got xs s.next
  pub count : s.count ≡ length xs
  pub place : s.next ≡ p + length (code_many code xs)
  pub within : s.next ≤ length ws

sectioned : {A : Type 0} {r : List ℕ → ℕ → Out A} {code : A → List ℕ} {Form : A → Type 0} → Reads r code Form → (lo hi : ℕ) (ws : List ℕ) (p : ℕ) → p ≤ length ws
    → {a : Result Section (Refusal Fault)} {s : Section} → a ≡ as_section (after (section lo hi r) ws p) → a ≡ Ok s → Sectioned r code lo hi ws p s
sectioned {r = r} R lo hi ws p h {s = s} f g =
    let b = passed _ _ (after (section lo hi r) ws p) f g in
    let n : s.next ≡ b.p = ap (λ (t : Section). t.next) b.told in
    let e : after (section lo hi r) ws p ≡ got b.v s.next = b.is ∙ ap (got b.v) (sym n) in
    record { xs = b.v; is = e; count = ap (λ (t : Section). t.count) b.told; place = (reads_got (reads_after (reads_section R lo hi)) e).0.next; within = got_in (in_after (reads_section R lo hi).inside ws p h) e }

module _ (n m : ℕ) (small : n ≤ 256) (ws : List ℕ) (p : ℕ) (h : p ≤ length ws) where
  pub probes_read : {r : Result Section (Refusal Fault)} {s : Section} → r ≡ part_step (λ us q. as_step (entry n m us q)) 0 65 ws p → r ≡ Ok s → Sectioned (entry n m) code_entry 0 65 ws p s
  probes_read f g = sectioned (reads_entry n m small) 0 65 ws p h (f ∙ told_part (entry n m) 0 65 ws p) g

  pub probes_bad : {r : Result Section (Refusal Fault)} {x : Refusal Fault} → r ≡ part_step (λ us q. as_step (entry n m us q)) 0 65 ws p → r ≡ Err x → Err x ≡ as_asked p (asked n m ws p)
  unfolding asked answer_by
  probes_bad f g = let b = failed _ _ (after (section 0 65 (entry n m)) ws p) (f ∙ told_part (entry n m) 0 65 ws p) g in rw b.is (ap Err b.told)

  module _ {s : Section} (a : Sectioned (entry n m) code_entry 0 65 ws p s) {r : Result ℕ (Refusal Fault)} (f : r ≡ last_step (λ us q. as_step (entry n m us q)) 1 2 ws s.next) where
    -- after the probes, the secret and the end of the paper
    abbrev last : Out Entry
    last = then (after (secret n m) ws s.next) (λ e q. ended ws e q)

    then_asked : asked n m ws p ≡ made (λ e. record { probes = a.xs; secret = e }) last
    unfolding asked ended
    then_asked = rw a.is (go (after (secret n m) ws s.next))
      where
        left : (e : Entry) (q : ℕ) (b : Bool) → need {A = Asked} b 9 q (got (record { probes = a.xs; secret = e }) q) ≡ made (λ x. record { probes = a.xs; secret = x }) (need b 9 q (got e q))
        left e q true = refl
        left e q false = refl

        go : (o : Out Entry) → then {B = Asked} o (λ e q. need (leb (length ws) q) 9 q (got (record { probes = a.xs; secret = e }) q)) ≡ made (λ e. record { probes = a.xs; secret = e }) (then o (λ e q. need (leb (length ws) q) 9 q (got e q)))
        go (got e q) = left e q (leb (length ws) q)
        go (bad e q w) = refl

    pub asked_bad : {x : Refusal Fault} → r ≡ Err x → Err x ≡ as_asked p (asked n m ws p)
    unfolding answer_by
    asked_bad g = let b = failed _ _ last (f ∙ secret_told n m ws s.next) g in rw (then_asked, b.is) (ap Err b.told)

    pub asked_done : {j : ℕ} → r ≡ Ok j → Ok s ≡ as_asked p (asked n m ws p)
    unfolding answer_by
    asked_done g = let b = passed _ _ last (f ∙ secret_told n m ws s.next) g in rw (then_asked, b.is) (ap₂ (λ (k q : ℕ). Ok (record { count = k; next = q })) a.count a.place)

-- ---- the whole dossier

-- the probes, the secret and the end of the paper, read one after the other or together
asked_is : (mk : List Entry → Entry → Dossier) (n m : ℕ) (ws : List ℕ) (p : ℕ)
    → then (then (after (section 0 65 (entry n m)) ws p) (λ es t. made (mk es) (after (secret n m) ws t))) (λ D q. ended ws D q) ≡ made (λ a. mk a.probes a.secret) (asked n m ws p)
unfolding asked ended
asked_is mk n m ws p = go (after (section 0 65 (entry n m)) ws p)
  where
    last : (es : List Entry) (s : Entry) (q : ℕ) (b : Bool) → need b 9 q (got (mk es s) q) ≡ made (λ a. mk a.probes a.secret) (need {A = Asked} b 9 q (got (record { probes = es; secret = s }) q))
    last es s q true = refl
    last es s q false = refl

    then_end : (es : List Entry) (o : Out Entry) → then (made (mk es) o) (λ D q. ended ws D q) ≡ made (λ a. mk a.probes a.secret) (then {B = Asked} o (λ s r. ended ws (record { probes = es; secret = s }) r))
    then_end es (got s q) = last es s q (leb (length ws) q)
    then_end es (bad e q w) = refl

    go : (o : Out (List Entry)) → then (then o (λ es t. made (mk es) (after (secret n m) ws t))) (λ D q. ended ws D q) ≡ made (λ a. mk a.probes a.secret) (then {B = Asked} o (λ es q. then (after (secret n m) ws q) (λ s r. ended ws (record { probes = es; secret = s }) r)))
    go (got es q) = then_end es (after (secret n m) ws q)
    go (bad e q w) = refl

-- what was read of the labels
pub record Labels (ws : List ℕ) (p : ℕ) : Type 0 where
  pub ls : List ℕ
  pub is : listed 1 65 Any ws 0 ≡ got ls p
  pub place : p ≡ suc (length ls)
  pub few : length ls ≤ 64
  pub within : p ≤ length ws

pub labels_read : (ws : List ℕ) {r : Result ℕ (Refusal Fault)} {p : ℕ} → r ≡ as_step (listed 1 65 Any ws 0) → r ≡ Ok p → Labels ws p
labels_read ws f g =
    let (ls, e) = stepped _ (listed 1 65 Any ws 0) f g in
    let s = reads_got (reads_listed 1 65 Any) e in
    record { ls = ls; is = e; place = omega (arith, s.0.next); few = omega (arith, s.1.1); within = got_in ((reads_listed 1 65 Any).inside ws 0 (omega arith)) e }

pub labels_bad : (ws : List ℕ) {r : Result ℕ (Refusal Fault)} {x : Refusal Fault} → r ≡ as_step (listed 1 65 Any ws 0) → r ≡ Err x → Err x ≡ as_form (dossier ws)
unfolding dossier sections answer_by
labels_bad ws f g = let b = failed _ _ (listed 1 65 Any ws 0) f g in rw b.is (ap Err b.told)

-- the dossier made of what was read
abbrev whole : List ℕ → List Marked → List Clause → List Entry → Entry → Dossier
whole ls cs ks es e = record { labels = ls; clauses = cs; creds = ks; probes = es; secret = e }

-- the code's n is the number of labels
module _ (ws : List ℕ) {p : ℕ} (l : Labels ws p) where
  abbrev atoms : ℕ
  atoms = length l.ls

  pub atoms_are : p - 1 ≡ atoms
  atoms_are = omega (arith, l.place)

  module _ {r : Result Section (Refusal Fault)} (f : r ≡ part_step (λ us q. as_step (marked (p - 1) us q)) 0 129 ws p) where
    at_clauses : r ≡ as_section (after (section 0 129 (marked atoms)) ws p)
    at_clauses = f ∙ told_part (marked (p - 1)) 0 129 ws p ∙ ap (λ (n : ℕ). as_section (after (section 0 129 (marked n)) ws p)) atoms_are

    pub clauses_bad : {x : Refusal Fault} → r ≡ Err x → Err x ≡ as_form (dossier ws)
    unfolding dossier sections answer_by
    clauses_bad g = let b = failed _ _ (after (section 0 129 (marked atoms)) ws p) at_clauses g in rw (l.is, b.is) (ap Err b.told)

    pub clauses_read : {s : Section} → r ≡ Ok s → Sectioned (marked atoms) code_marked 0 129 ws p s
    clauses_read g = sectioned (reads_marked atoms) 0 129 ws p l.within at_clauses g

  module _ {c : Section} (s : Sectioned (marked (length l.ls)) code_marked 0 129 ws p c) where
    module _ {r : Result Section (Refusal Fault)} (f : r ≡ part_step (λ us q. as_step (clause (p - 1) us q)) 0 33 ws c.next) where
      at_creds : r ≡ as_section (after (section 0 33 (clause atoms)) ws c.next)
      at_creds = f ∙ told_part (clause (p - 1)) 0 33 ws c.next ∙ ap (λ (n : ℕ). as_section (after (section 0 33 (clause n)) ws c.next)) atoms_are

      pub creds_bad : {x : Refusal Fault} → r ≡ Err x → Err x ≡ as_form (dossier ws)
      unfolding dossier sections answer_by
      creds_bad g = let b = failed _ _ (after (section 0 33 (clause atoms)) ws c.next) at_creds g in rw (l.is, s.is, b.is) (ap Err b.told)

      pub creds_read : {k : Section} → r ≡ Ok k → Sectioned (clause atoms) code_clause 0 33 ws c.next k
      creds_read g = sectioned (reads_clause atoms) 0 33 ws c.next s.within at_creds g

    module _ {d : Section} (k : Sectioned (clause (length l.ls)) code_clause 0 33 ws c.next d) {r : Result Section (Refusal Fault)} (f : r ≡ as_asked d.next (asked (p - 1) d.count ws d.next)) where
      abbrev these : Out Asked
      these = asked atoms (length k.xs) ws d.next

      at_asked : r ≡ as_asked d.next these
      at_asked = f ∙ ap (λ (n : ℕ). as_asked d.next (asked n d.count ws d.next)) atoms_are ∙ ap (λ (j : ℕ). as_asked d.next (asked atoms j ws d.next)) k.count

      pub rest_bad : {x : Refusal Fault} → r ≡ Err x → Err x ≡ as_form (dossier ws)
      unfolding dossier sections answer_by
      rest_bad g =
          let b = failed _ _ these at_asked g in
          rw (l.is, s.is, k.is, asked_is (whole l.ls s.xs k.xs) atoms (length k.xs) ws d.next, b.is) (ap Err b.told)

      module _ {t : Section} (g : r ≡ Ok t) where
        abbrev found : Layout
        found = record { atoms = p - 1; clauses = p + 1; nclauses = c.count; creds = c.next + 1; ncreds = d.count; probes = d.next + 1; nprobes = t.count; secret = t.next + 1 }

        pub all_read : Ok found ≡ as_form (dossier ws)
        unfolding dossier sections answer_by layout_of
        all_read =
            let b = passed _ _ these at_asked g in
            let u : t.count ≡ length b.v.probes = ap (λ (x : Section). x.count) b.told in
            let v : t.next ≡ d.next + length (code_many code_entry b.v.probes) = ap (λ (x : Section). x.next) b.told in
            rw (l.is, s.is, k.is, asked_is (whole l.ls s.xs k.xs) atoms (length k.xs) ws d.next, b.is) (cc (atoms_are, u, v, k.place, s.place, l.place, s.count, k.count))
