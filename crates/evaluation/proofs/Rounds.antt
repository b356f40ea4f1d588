-- The rounds on a table give each atom the number of the round that first adds it.
use Prim.Native.Nat.{ℕ, zero, suc, ◌+◌, ◌<◌, ◌≤◌}
use mathlib.Core.Path.{◌≡◌, refl, sym, ap, ap₂, ◌∙◌}
use mathlib.Core.Bool.{Bool, true, false, not, ◌||◌}
use mathlib.Core.List.Memᴰ
use mathlib.Core.List.{List, [], ◌∷◌}
use mathlib.Core.Logic.{◌⊎◌, inl, inr}
use native.Mathlib.Omega.{arith}
use native.Mathlib.Decide.{ℕ_discrete}
use lib.ListN.{length, get_or, set, replicate, length-replicate, get_or-replicate}
use lib.Seq.{get_or-set_same, get_or-set_other}
use lib.Dec.{eqb, ltb}
use Rattle.std.specs.List.{list_any}
use borrow.Author.Tests.{lt-ltb, le-ltb}
use Rattle.meaning.specs.Tests.{◌∈◌, ◌and◌, ◌or◌, ◌is◌, all, any, choose}
use Rattle.meaning.specs.Policy.{Clause, Policy, round, after, holds, first_of, first_round}
use Rattle.meaning.proofs.Tests.{cases, clash, is_refl, is→≡, not_opposite, any_of}
use Rattle.meaning.proofs.Rounds.{rounds_holds, stop_early}
use Rattle.meaning.proofs.First.{after_more, first_none, first_new, first_same, first_there, first_round_lem}
use Rattle.promise.specs.Place.{rows}
use Rattle.promise.proofs.Place.{rows_length, rows_get, rows_are, rows_same}
use Rattle.evaluation.specs.Table.{has, before, fire_one, fire_all}
use Rattle.evaluation.proofs.Firing.{fire_length, fire_all_length}

-- whether a byte is the round's number, as the library's `any` tests it
pub any_list : (r : ℕ) (t : List ℕ) → list_any (λ (x : ℕ). eqb x r) t ≡ any (λ x. x is r) t
unfolding any ◌is◌ ◌or◌
any_list r [] = refl
any_list r (x ∷ t) = ap (λ (b : Bool). eqb x r || b) (any_list r t) ∙ go (eqb x r) (any (λ y. y is r) t)
  where
    go : (a b : Bool) → (a || b) ≡ (a or b)
    go true b = refl
    go false b = refl

-- the policy's atoms are below n
abbrev pub Below : ℕ → Policy → Type 0
Below n P = (c : Clause) → c ∈ P → (c.head < n) × ((b : ℕ) → b ∈ c.body → b < n)

all_same : (p q : ℕ → Bool) (l : List ℕ) → ((b : ℕ) → b ∈ l → p b ≡ q b) → all p l ≡ all q l
unfolding all
all_same p q [] h = refl
all_same p q (x ∷ l) h = ap₂ ◌and◌ (h x (Memᴰ.head refl)) (all_same p q l (λ b m. h b (Memᴰ.tail m)))

any_same : (p q : Clause → Bool) (P : Policy) → ((c : Clause) → c ∈ P → p c ≡ q c) → any p P ≡ any q P
unfolding any
any_same p q [] h = refl
any_same p q (c ∷ P) h = ap₂ ◌or◌ (h c (Memᴰ.head refl)) (any_same p q P (λ d m. h d (Memᴰ.tail m)))

is_no : {m n : ℕ} → (m ≡ n → ⊥) → m is n ≡ false
is_no f = not_opposite _ false (λ e. f (is→≡ e))

-- ---- a byte of the table

-- x where it is a number already; else r if b, else 0
first : ℕ → Bool → ℕ → ℕ
first x b r = choose (x is 0) (choose b r 0) x

first_zero : {x : ℕ} (b : Bool) (r : ℕ) → x ≡ 0 → first x b r ≡ choose b r 0
unfolding first choose
first_zero b r e = rw (e, is_refl 0)

first_number : {x : ℕ} (b : Bool) (r : ℕ) → (x ≡ 0 → ⊥) → first x b r ≡ x
unfolding first choose
first_number b r ne = rw (is_no ne)

first_kept : (x r : ℕ) → first x false r ≡ x
unfolding choose
first_kept x r = go (ℕ_discrete x 0)
  where
    go : Dec (x ≡ 0) → first x false r ≡ x
    go (yes e) = first_zero false r e ∙ sym e
    go (no ne) = first_number false r ne

first_twice : (x k : ℕ) (b d : Bool) → first (first x b (suc k)) d (suc k) ≡ first x (b or d) (suc k)
unfolding choose ◌or◌
first_twice x k b d = go (ℕ_discrete x 0) b
  where
    go : Dec (x ≡ 0) → (v : Bool) → first (first x v (suc k)) d (suc k) ≡ first x (v or d) (suc k)
    go (yes e) true = ap (λ (y : ℕ). first y d (suc k)) (first_zero true (suc k) e) ∙ first_number d (suc k) (λ q. omega arith) ∙ sym (first_zero true (suc k) e)
    go (yes e) false = ap (λ (y : ℕ). first y d (suc k)) (first_zero false (suc k) e) ∙ first_zero d (suc k) refl ∙ sym (first_zero d (suc k) e)
    go (no ne) v = ap (λ (y : ℕ). first y d (suc k)) (first_number v (suc k) ne) ∙ first_number d (suc k) ne ∙ sym (first_number (v or d) (suc k) ne)

-- ---- a clause, and all of them

-- whether clause c adds a in round r
abbrev Adds : ℕ → List ℕ → ℕ → Clause → Bool
Adds r t a c = a is c.head and all (before r t) c.body

fire_word : (r : ℕ) (c : Clause) (t : List ℕ) (a : ℕ) → a < length t → get_or (fire_one r c t) a 0 ≡ first (get_or t a 0) (Adds r t a c) r
unfolding fire_one first choose has ◌and◌
fire_word r c t a lt = go (ℕ_discrete a c.head)
  where
    here : (h : ℕ) → h < length t → (z b : Bool) → get_or t h 0 is 0 ≡ z → get_or (choose (not (not z) and b) (set t h r) t) h 0 ≡ choose z (choose b r 0) (get_or t h 0)
    here h l true true e = get_or-set_same t h r 0 l
    here h l true false e = is→≡ e
    here h l false b e = refl

    other : (a ≡ c.head → ⊥) → (b : Bool) → get_or (choose b (set t c.head r) t) a 0 ≡ get_or t a 0
    other ne true = get_or-set_other t c.head a r 0 ne
    other ne false = refl

    at_head : a ≡ c.head → get_or (fire_one r c t) c.head 0 ≡ first (get_or t c.head 0) (c.head is c.head and all (before r t) c.body) r
    at_head e = here c.head (omega arith) (get_or t c.head 0 is 0) (all (before r t) c.body) refl ∙ ap (λ (b : Bool). first (get_or t c.head 0) (b and all (before r t) c.body) r) (sym (is_refl c.head))

    go : Dec (a ≡ c.head) → get_or (fire_one r c t) a 0 ≡ first (get_or t a 0) (Adds r t a c) r
    go (yes e) = rw e (at_head e)
    go (no ne) = other ne (not (has t c.head) and all (before r t) c.body) ∙ sym (first_kept (get_or t a 0) r) ∙ ap (λ (b : Bool). first (get_or t a 0) (b and all (before r t) c.body) r) (sym (is_no ne))

-- the number of an atom that was there, or was not, before round r
before_yes : (r : ℕ) (t : List ℕ) (a : ℕ) → (get_or t a 0 ≡ 0 → ⊥) → get_or t a 0 < r → before r t a ≡ true
unfolding before has ◌and◌
before_yes r t a ne lt = rw (is_no ne) (lt-ltb _ _ lt)

before_zero : (r : ℕ) (t : List ℕ) (a : ℕ) → get_or t a 0 ≡ 0 → before r t a ≡ false
unfolding before has ◌and◌
before_zero r t a e = rw (e, is_refl 0)

before_now : (r : ℕ) (t : List ℕ) (a : ℕ) → r ≤ get_or t a 0 → before r t a ≡ false
unfolding before ◌and◌
before_now r t a le = go (has t a)
  where
    go : (b : Bool) → b and ltb (get_or t a 0) r ≡ false
    go true = le-ltb _ _ le
    go false = refl

-- what was there before the round is the same after a clause of it was fired
before_same : (r : ℕ) (t u : List ℕ) (a : ℕ) (b : Bool) → get_or u a 0 ≡ first (get_or t a 0) b r → before r u a ≡ before r t a
unfolding choose before has
before_same r t u a b e = go (ℕ_discrete (get_or t a 0) 0) b e
  where
    keeps : get_or u a 0 ≡ get_or t a 0 → before r u a ≡ before r t a
    keeps q = ap (λ (x : ℕ). not (x is 0) and ltb x r) q

    go : Dec (get_or t a 0 ≡ 0) → (v : Bool) → get_or u a 0 ≡ first (get_or t a 0) v r → before r u a ≡ before r t a
    go (yes z) true q = before_now r u a (omega (arith, q ∙ first_zero true r z)) ∙ sym (before_zero r t a z)
    go (yes z) false q = keeps (q ∙ first_kept (get_or t a 0) r)
    go (no ne) v q = keeps (q ∙ first_number v r ne)

-- X is what was there before round r, for the atoms below n
Is : ℕ → ℕ → List ℕ → (ℕ → Bool) → Type 0
Is n r t X = (b : ℕ) → b < n → before r t b ≡ X b

fire_all_word : (n k : ℕ) (X : ℕ → Bool) (P : Policy) (t : List ℕ) → Below n P → n ≤ length t → Is n (suc k) t X → (a : ℕ) → a < n
    → get_or (fire_all (suc k) P t) a 0 ≡ first (get_or t a 0) (any (λ (c : Clause). a is c.head and all X c.body) P) (suc k)
unfolding fire_all any Is
fire_all_word n k X [] t f le i a lt = sym (first_kept (get_or t a 0) (suc k))
fire_all_word n k X (c ∷ P) t f le i a lt =
    let r = suc k in
    let here : all (before r t) c.body ≡ all X c.body = all_same (before r t) X c.body (λ b m. i b ((f c (Memᴰ.head refl)).1 b m)) in
    let still : Is n r (fire_one r c t) X = λ b l. before_same r t (fire_one r c t) b (Adds r t b c) (fire_word r c t b (omega arith)) ∙ i b l in
    fire_all_word n k X P (fire_one r c t) (λ d m. f d (Memᴰ.tail m)) (omega (arith, fire_length r c t)) still a lt
    ∙ ap (λ (x : ℕ). first x (any (λ (d : Clause). a is d.head and all X d.body) P) r) (fire_word r c t a (omega arith) ∙ ap (λ (b : Bool). first (get_or t a 0) (a is c.head and b) r) here)
    ∙ first_twice (get_or t a 0) k (a is c.head and all X c.body) (any (λ (d : Clause). a is d.head and all X d.body) P)

-- ---- a search

-- an entry of the table is in it
entry_in : (t : List ℕ) (a : ℕ) → a < length t → get_or t a 0 ∈ t
entry_in [] a l = absurd (omega arith)
entry_in (x ∷ t) zero l = Memᴰ.head refl
entry_in (x ∷ t) (suc a) l = Memᴰ.tail (entry_in t a (omega arith))

-- some entry is r, or none is
pub some_is : (r : ℕ) (t : List ℕ) (a : ℕ) → a < length t → get_or t a 0 ≡ r → true ≡ any (λ x. x is r) t
some_is r t a l e = sym (any_of (λ x. x is r) (entry_in t a l) (ap (λ (x : ℕ). x is r) e ∙ is_refl r))

pub none_is : (r : ℕ) (t : List ℕ) → ((a : ℕ) → a < length t → get_or t a 0 ≡ r → ⊥) → false ≡ any (λ x. x is r) t
unfolding any ◌or◌
none_is r [] f = refl
none_is r (x ∷ t) f = none_is r t (λ a l. f (suc a) (omega arith)) ∙ ap (λ (b : Bool). b or any (λ y. y is r) t) (sym (is_no (f 0 (omega arith))))

-- ---- a round

-- the number after one round more, which adds a if b
first_next : (P : Policy) (k a : ℕ) (b : Bool) → after P (suc k) a ≡ after P k a or b → first (first_of P k a) b (suc k) ≡ first_of P (suc k) a
unfolding choose ◌or◌
first_next P k a b h = go (cases (after P k a)) b h
  where
    go : (after P k a ≡ true) ⊎ (after P k a ≡ false) → (v : Bool) → after P (suc k) a ≡ after P k a or v → first (first_of P k a) v (suc k) ≡ first_of P (suc k) a
    go (inl t) v e = let l = (first_there P a k t).0 in first_number v (suc k) (λ z. omega arith) ∙ first_same P a k (suc k) (t ∙ sym (rw t at e))
    go (inr f) true e = first_zero true (suc k) (first_none P a k f) ∙ sym (first_new P a k f (rw f at e))
    go (inr f) false e = first_zero false (suc k) (first_none P a k f) ∙ sym (first_none P a (suc k) (rw f at e))

-- an atom that has a number is there
before_after : (P : Policy) (k : ℕ) (t : List ℕ) (a : ℕ) → get_or t a 0 ≡ first_of P k a → before (suc k) t a ≡ after P k a
before_after P k t a e = go (cases (after P k a))
  where
    go : (after P k a ≡ true) ⊎ (after P k a ≡ false) → before (suc k) t a ≡ after P k a
    go (inl h) = let (least, most) = first_there P a k h in before_yes (suc k) t a (λ z. omega arith) (omega arith) ∙ sym h
    go (inr h) = before_zero (suc k) t a (e ∙ first_none P a k h) ∙ sym h

pub has_holds : (P : Policy) (t : List ℕ) (a : ℕ) → get_or t a 0 ≡ first_round P a → has t a ≡ holds P a
unfolding first_round holds has
has_holds P t a e = go (cases (after P (length P) a))
  where
    go : (after P (length P) a ≡ true) ⊎ (after P (length P) a ≡ false) → not (get_or t a 0 is 0) ≡ after P (length P) a
    go (inl h) = let l = (first_there P a (length P) h).0 in ap not (is_no (λ z. omega arith)) ∙ sym h
    go (inr h) = ap (λ (x : ℕ). not (x is 0)) (e ∙ first_none P a (length P) h) ∙ ap not (is_refl 0) ∙ sym h

-- from the numbers after k rounds to those after one more
module _ (n : ℕ) (P : Policy) (f : Below n P) where
  pub numbers_none : {t : List ℕ} → t ≡ replicate n 0 → t ≡ rows (first_of P 0) n
  unfolding after
  numbers_none e = e ∙ rows_are (first_of P 0) n (replicate n 0) (length-replicate n 0) (λ a h. get_or-replicate n a 0 0 h ∙ sym (first_none P a 0 refl))

  pub numbers_on : (k : ℕ) {t u : List ℕ} → t ≡ rows (first_of P k) n → u ≡ fire_all (k + 1) P t → u ≡ rows (first_of P (k + 1)) n
  unfolding after round Is
  numbers_on k {t} {u} e g =
      let one : k + 1 ≡ suc k = omega arith in
      let long : length t ≡ n = ap length e ∙ rows_length (first_of P k) n in
      let at : (a : ℕ) → a < n → get_or t a 0 ≡ first_of P k a = λ a h. ap (λ (l : List ℕ). get_or l a 0) e ∙ rows_get (first_of P k) n a h in
      rw one
      ((rw one at g) ∙ rows_are (first_of P (suc k)) n (fire_all (suc k) P t) (fire_all_length (suc k) P t ∙ long)
      (λ a h. fire_all_word n k (after P k) P t f (omega arith) (λ b i. before_after P k t b (at b i)) a h ∙ ap (λ (x : ℕ). first x (any (λ (c : Clause). a is c.head and all (after P k) c.body) P) (suc k)) (at a h) ∙ first_next P k a _ refl))

  -- as many rounds as give what holds
  pub numbers_last : (k : ℕ) {t : List ℕ} → t ≡ rows (first_of P k) n → n ≤ k → t ≡ rows (first_round P) n
  numbers_last k e le = e ∙ rows_same _ _ n (λ a l. sym (first_round_lem P a k (rounds_holds n k P (λ c m. (f c m).0) le a)))

  -- a round that adds no atom: none has its number
  module _ (k : ℕ) {t : List ℕ} (e : t ≡ rows (first_of P (k + 1)) n) (none : any (λ x. x is (k + 1)) t ≡ false) where
    not_new : (a : ℕ) → a < n → first_of P (suc k) a ≡ suc k → ⊥
    not_new a l h =
        let one : suc k ≡ k + 1 = omega arith in
        let long : length t ≡ n = ap length e ∙ rows_length (first_of P (k + 1)) n in
        let there : get_or t a 0 ≡ k + 1 = ap (λ (u : List ℕ). get_or u a 0) e ∙ rows_get (first_of P (k + 1)) n a l ∙ (rw one at h) in
        clash (sym (some_is (k + 1) t a (omega arith) there)) none

    still : (a : ℕ) → a < n → after P (suc k) a ≡ after P k a
    still a l = go (cases (after P k a)) (cases (after P (suc k) a))
      where
        go : (after P k a ≡ true) ⊎ (after P k a ≡ false) → (after P (suc k) a ≡ true) ⊎ (after P (suc k) a ≡ false) → after P (suc k) a ≡ after P k a
        go (inl h) q = after_more P a k (suc k) (omega arith) h ∙ sym h
        go (inr h) (inl q) = absurd (not_new a l (first_new P a k h q))
        go (inr h) (inr q) = q ∙ sym h

    pub numbers_stop : t ≡ rows (first_round P) n
    numbers_stop =
        let one : k + 1 ≡ suc k = omega arith in
        e ∙ rows_same _ _ n
        (λ a l. ap (λ (j : ℕ). first_of P j a) one ∙ first_same P a (suc k) k (still a l) ∙ sym (first_round_lem P a k (stop_early P k (λ c m. still c.head (f c m).0) a)))
