-- What the readers of clauses, formulas and entries promise: they accept the codes of well-formed ones, and nothing else.
use Prim.Native.Nat.{ℕ, zero, suc, ◌+◌, ◌<◌, ◌≤◌}
use mathlib.Core.Path.{◌≡◌, refl, ap}
use mathlib.Core.Bool.{Bool, true, false}
use mathlib.Core.List.{List, ◌++◌}
use mathlib.Core.Logic.{◌↔◌}
use native.Mathlib.Omega.{arith}
use lib.Dec.{leb, eqb}
use lib.ListN.{length, drop, length-append, length-drop}
use borrow.Author.Tests.{leb-true, eqb-true, le-leb, eq-eqb}
use Rattle.words.specs.Out.{Out, got, present}
use Rattle.words.specs.Code.{code_list, RisingFrom}
use Rattle.words.specs.Read.{Below, listed}
use Rattle.words.proofs.Promise.{OK, fine, none, ok_then, ok_need, In, in_got, in_bad, in_then, in_then_ok, in_made, in_need, Spans, spans_join, lies, Reads, reads_as, reads_then, reads_ranged, reads_listed}
use Rattle.meaning.specs.Tests.{◌∈◌, ◌is◌}
use Rattle.meaning.specs.Formula.{Formula, always, atom, neg, conj, disj}
use Rattle.promise.specs.Code.{bit, code_clause, code_marked, code_formula, code_entry}
use Rattle.promise.specs.Form.{ListForm, ClauseForm, FormulaForm, EntryForm}
use Rattle.promise.proofs.Seen.{is_bit}
use Rattle.dossier.specs.Read.{clause, marked, formula, entry}
use Rattle.dossier.proofs.Coded.{exact_operand}
use Rattle.dossier.proofs.Formula.{Comes, amiss, strange, misfit, operand_comes}

-- ---- lists of atoms and of credential numbers

-- a list as a reader tests it, and as the form says it
list_form : {most hi : ℕ} (l : List ℕ) → ((0 ≤ length l) × (length l < suc most) × RisingFrom 0 l × ((x : ℕ) → x ∈ l → x < hi)) ↔ ListForm most hi l
list_form l = (λ f. record { few = omega (arith, f.1); rising = f.2; below = f.3 }, λ f. (omega arith, omega (arith, f.few), f.rising, f.below))

pub reads_atoms : (n : ℕ) → Reads (listed 0 9 (Below n 3)) code_list (ListForm 8 n)
reads_atoms n = reads_as (reads_listed 0 9 (Below n 3)) (λ l f. refl) list_form

pub reads_creds : (m : ℕ) → Reads (listed 0 33 (Below m 6)) code_list (ListForm 32 m)
reads_creds m = reads_as (reads_listed 0 33 (Below m 6)) (λ l f. refl) list_form

-- ---- clauses

pub reads_clause : (n : ℕ) → Reads (clause n) code_clause (ClauseForm n)
unfolding clause
reads_clause n =
    reads_as
    (reads_then (reads_ranged 0 n 3) (λ h b. record { head = h; body = b }) (λ c. c.head) (λ c. c.body) (λ x y f. refl) (λ x y. refl) (λ c. refl) (λ h f. reads_atoms n))
    (λ c f. refl)
    (λ c. (
      λ f. record { head = f.0.1; body = f.1 },
      λ f. ((omega arith, f.head), f.body),
    ))

-- a mark or a sign is a bit
pub bit_is : (x : ℕ) → x < 2 → bit (x is 1) ≡ x
unfolding ◌is◌
bit_is zero h = refl
bit_is (suc zero) h = refl
bit_is (suc (suc x)) h = absurd (omega arith)

pub bit_below : (b : Bool) → bit b < 2
bit_below true = omega arith
bit_below false = omega arith

pub reads_marked : (n : ℕ) → Reads (marked n) code_marked (λ m. ClauseForm n m.clause)
unfolding marked
reads_marked n =
    reads_as
    (reads_then (reads_ranged 0 2 5) (λ x c. record { visible = x is 1; clause = c }) (λ m. bit m.visible) (λ m. m.clause) (λ x y f. bit_is x f.1) (λ x y. refl) (λ m. λ i. record { visible = is_bit m.visible i; clause = m.clause }) (λ x f. reads_clause n))
    (λ m f. refl)
    (λ m. (λ f. f.1, λ f. ((omega arith, bit_below m.visible), f)))

-- ---- a formula after its length

code_some : (g : Formula) → 1 ≤ length (code_formula g)
unfolding code_formula
code_some always = omega arith
code_some (atom a) = omega arith
code_some (neg g) = omega arith
code_some (conj g h) = omega arith
code_some (disj g h) = omega arith

ok_present : {A : Type 0} {P : A → ℕ → Type 0} (b : Bool) (ws : List ℕ) {o : Out A} → (b ≡ true → OK P o) → OK P (present b ws o)
ok_present true ws f = f refl
ok_present false ws f = none

in_present : {A : Type 0} (b : Bool) (ws : List ℕ) {o : Out A} → (b ≡ true → In (length ws) o) → In (length ws) (present b ws o)
in_present true ws f = f refl
in_present false ws f = let i : length ws + 0 ≤ length ws = omega arith in in_bad i

module _ (n lp end d at : ℕ) (ws : List ℕ) where
  ok_comes : {o : Out Formula} → Comes n lp end ws d at o → OK (λ f p. Spans ws at (code_formula f) p × FormulaForm n d f) o
  ok_comes (Comes.formula s g h) = fine (s, g)
  ok_comes (amiss y) = none

  in_comes : {o : Out Formula} → lp < length ws → end ≤ length ws → Comes n lp end ws d at o → In (length ws) o
  in_comes l fits (Comes.formula {p = p} s g h) = let i : p ≤ length ws = omega arith in in_got i
  in_comes l fits (amiss (strange us rest {p = p} v z h o y)) = let i : p + 1 ≤ length ws = omega arith in in_bad i
  in_comes l fits (amiss (misfit us rest v h o y)) = let i : lp + 1 ≤ length ws = omega arith in in_bad i

-- for every number of atoms, every place lies in the paper
in_formula : (n : ℕ) (ws : List ℕ) (at : ℕ) → at ≤ length ws → In (length ws) (formula n ws at)
unfolding formula
in_formula n ws at h =
    in_then_ok _ ((reads_ranged 1 65 2).sound ws at) ((reads_ranged 1 65 2).inside ws at h) (λ len p s i.
    let l : at < length ws = omega (arith, s.0.next) in
    in_present (leb (p + len) (length ws)) ws (λ b.
    in_then _ (in_comes n at (p + len) 16 p ws l (leb-true _ _ b) (operand_comes n at (p + len) ws 16 p (leb-true _ _ b) (omega arith))) (λ f q j.
    in_need (eqb q (p + len)) 8 at l (in_got j))))

pub in_entry : (n m : ℕ) (ws : List ℕ) (at : ℕ) → at ≤ length ws → In (length ws) (entry n m ws at)
unfolding entry
in_entry n m ws at h = in_then _ ((reads_listed 0 33 (Below m 6)).inside ws at h) (λ S p i. in_made _ (in_formula n ws p i))

pub reads_formula : (n : ℕ) → n ≤ 256 → Reads (formula n) (λ f. code_list (code_formula f)) (λ f. FormulaForm n 16 f × (length (code_formula f) ≤ 64))
unfolding formula
reads_formula n small = record { sound = sound; exact = exact; inside = in_formula n }
  where
    sound : (ws : List ℕ) (at : ℕ) → OK (λ f p. Spans ws at (code_list (code_formula f)) p × (FormulaForm n 16 f × (length (code_formula f) ≤ 64))) (formula n ws at)
    sound ws at =
        ok_then _ ((reads_ranged 1 65 2).sound ws at) (λ len p s.
        ok_present (leb (p + len) (length ws)) ws (λ b.
        ok_then _ (ok_comes n at (p + len) 16 p ws (operand_comes n at (p + len) ws 16 p (leb-true _ _ b) (omega arith))) (λ f q t.
        ok_need (eqb q (p + len)) _ _ (λ e.
        let z : length (code_formula f) ≡ len = omega (arith, eqb-true q (p + len) e, t.0.next) in
        fine (spans_join (rw (← z) at s.0) t.0, (t.1, omega (arith, s.1.1)))))))

    exact : (ws : List ℕ) (at : ℕ) (f : Formula) (rest : List ℕ) → drop at ws ≡ code_list (code_formula f) ++ rest → FormulaForm n 16 f × (length (code_formula f) ≤ 64) → formula n ws at ≡ got f (at + length (code_list (code_formula f)))
    exact ws at f rest w s =
        let k = length (code_formula f) in
        let l = lies ws at w in
        let m : at + 1 + k ≤ length ws = omega (arith, length-drop (at + 1) ws, ap length l.after, length-append (code_formula f) rest, l.here) in
        let r = (reads_ranged 1 65 2).exact ws at k (code_formula f ++ rest) w (code_some f, omega (arith, s.1)) in
        let o = exact_operand n at (at + 1 + k) ws small 16 (at + 1) f rest l.after s.0 (omega arith) in
        let e : at + 1 + k ≡ at + suc k = omega arith in
        simp (r, le-leb (at + 1 + k) (length ws) m, o, eq-eqb (at + 1 + k) (at + 1 + k) refl) (ap (got f) e)

pub reads_entry : (n m : ℕ) → n ≤ 256 → Reads (entry n m) code_entry (EntryForm n m)
unfolding entry
reads_entry n m small =
    reads_as
    (reads_then (reads_creds m) (λ S f. record { creds = S; formula = f }) (λ e. e.creds) (λ e. e.formula) (λ x y f. refl) (λ x y. refl) (λ e. refl) (λ S f. reads_formula n small))
    (λ e f. refl)
    (λ e. (
      λ f. record { creds = f.0; formula = f.1.0; short = f.1.1 },
      λ f. (f.creds, (f.formula, f.short)),
    ))
