-- Laws of the tests: how a passed test is taken apart, and how it is made.
use mathlib.Core.Path.{◌≡◌, refl, sym, ap, ap₂, ◌∙◌, subst}
use mathlib.Core.Bool.{Bool, true, false, not, true≢false, false≢true}
use mathlib.Core.List.Memᴰ
use mathlib.Core.List.{List, [], ◌∷◌, ◌++◌, map}
use mathlib.Core.Option.{Option, none, some}
use mathlib.Core.Logic.{◌⊎◌, inl, inr}
use Prim.Native.Nat.{ℕ, zero, suc, ◌≤◌, ◌<◌, ◌+◌}
use native.Mathlib.Omega.{arith}
use native.Mathlib.Decide.{ℕ_discrete, dec_lt}
use lib.Dec.{T, eqb, eqb→eq, eqb_refl}
use lib.ListN.{length, take}
use Rattle.meaning.specs.Tests.{◌∈◌, ◌and◌, ◌or◌, agree, ◌is◌, same, all, any, put, keep, mem, at, named, choose, lowest}

-- ---- Bools

pub cases : (b : Bool) → (b ≡ true) ⊎ (b ≡ false)
cases true = inl refl
cases false = inr refl

pub clash {ℓ} : {C : Type ℓ} {b : Bool} → b ≡ true → b ≡ false → C
clash p q = absurd (true≢false (sym p ∙ q))

pub not_true : (b : Bool) → not b ≡ true → b ≡ false
not_true true h = absurd (false≢true h)
not_true false h = refl

pub not_self : (b : Bool) → b ≡ not b → ⊥
not_self true h = true≢false h
not_self false h = false≢true h

pub not_opposite : (a b : Bool) → (a ≡ not b → ⊥) → a ≡ b
not_opposite true true f = refl
not_opposite true false f = absurd (f refl)
not_opposite false true f = absurd (f refl)
not_opposite false false f = refl

-- two Bools that are true together are one
pub together : {a b : Bool} → (a ≡ true → b ≡ true) → (b ≡ true → a ≡ true) → a ≡ b
together {a = true} f g = sym (f refl)
together {a = false} {b = true} f g = g refl
together {a = false} {b = false} f g = refl

pub and_both : {a b : Bool} → a and b ≡ true → (a ≡ true) × (b ≡ true)
unfolding ◌and◌
and_both {a = true} {b} h = (refl, h)
and_both {a = false} {b} h = absurd (false≢true h)

pub and_five : {a b c d e : Bool} → a and b and c and d and e ≡ true → (a ≡ true) × (b ≡ true) × (c ≡ true) × (d ≡ true) × (e ≡ true)
and_five h =
    let p = and_both h in
    let q = and_both p.0 in
    let r = and_both q.0 in
    let s = and_both r.0 in
    (s.0, s.1, r.1, q.1, p.1)

pub and_of : {a b : Bool} → a ≡ true → b ≡ true → a and b ≡ true
unfolding ◌and◌
and_of {a} {b} p q = rw (p, q)

pub or_cases : {a b : Bool} → a or b ≡ true → (a ≡ true) ⊎ (b ≡ true)
unfolding ◌or◌
or_cases {a = true} {b} h = inl refl
or_cases {a = false} {b} h = inr h

pub or_left : {a : Bool} (b : Bool) → a ≡ true → a or b ≡ true
unfolding ◌or◌
or_left {a} b p = rw p

pub or_right : (a : Bool) {b : Bool} → b ≡ true → a or b ≡ true
unfolding ◌or◌
or_right true {b} p = refl
or_right false {b} p = p

pub agree→≡ : {a b : Bool} → agree a b ≡ true → a ≡ b
unfolding agree
agree→≡ {a = true} {b} h = sym h
agree→≡ {a = false} {b} h = sym (not_true b h)

pub agree_of : {a b : Bool} → a ≡ b → agree a b ≡ true
unfolding agree
agree_of {a = true} {b} h = sym h
agree_of {a = false} {b} h = rw (← h)

pub agree_not : (a b : Bool) → agree a b ≡ false → b ≡ not a
unfolding agree
agree_not true b h = h
agree_not false true h = refl
agree_not false false h = absurd (true≢false h)

-- ---- numbers and lists of numbers

pub is→≡ : {m n : ℕ} → m is n ≡ true → m ≡ n
unfolding ◌is◌
is→≡ {m} {n} h = eqb→eq m n (subst T (sym h) tt)

pub is_refl : (n : ℕ) → n is n ≡ true
unfolding ◌is◌
is_refl n = go (eqb n n) refl (eqb_refl n)
  where
    go : (b : Bool) → eqb n n ≡ b → T b → eqb n n ≡ true
    go true e t = e
    go false e t = absurd t

pub same→≡ : {l m : List ℕ} → same l m ≡ true → l ≡ m
unfolding same
same→≡ {l = []} {m = []} h = refl
same→≡ {l = []} {m = y ∷ m} h = absurd (false≢true h)
same→≡ {l = x ∷ l} {m = []} h = absurd (false≢true h)
same→≡ {l = x ∷ l} {m = y ∷ m} h = let r = and_both h in ap₂ {C = List ℕ} ◌∷◌ (is→≡ r.0) (same→≡ r.1)

pub same_refl : (l : List ℕ) → same l l ≡ true
unfolding same
same_refl [] = refl
same_refl (x ∷ l) = and_of (is_refl x) (same_refl l)

-- ---- elements

module _ {A : Type 0} where
  pub all_at : (p : A → Bool) {x : A} (l : List A) → all p l ≡ true → x ∈ l → p x ≡ true
  unfolding all
  all_at p l h (Memᴰ.head e) = ap p e ∙ (and_both h).0
  all_at p l h (Memᴰ.tail {xs = r} m) = all_at p r (and_both h).1 m

  pub all_of : (p : A → Bool) (l : List A) → ((x : A) → x ∈ l → p x ≡ true) → all p l ≡ true
  unfolding all
  all_of p [] f = refl
  all_of p (x ∷ l) f = and_of (f x (Memᴰ.head refl)) (all_of p l (λ y m. f y (Memᴰ.tail m)))

  pub any_at : (p : A → Bool) (l : List A) → any p l ≡ true → (x : A) × x ∈ l × (p x ≡ true)
  unfolding any
  any_at p [] h = absurd (false≢true h)
  any_at p (x ∷ l) h = go (or_cases h) (λ k. any_at p l k)
    where
      go : (p x ≡ true) ⊎ (any p l ≡ true) → (any p l ≡ true → (y : A) × y ∈ l × (p y ≡ true)) → (y : A) × y ∈ (x ∷ l) × (p y ≡ true)
      go (inl e) ih = (x, Memᴰ.head refl, e)
      go (inr e) ih = let r = ih e in (r.0, Memᴰ.tail r.1, r.2)

  pub any_of : (p : A → Bool) {x : A} {l : List A} → x ∈ l → p x ≡ true → any p l ≡ true
  unfolding any
  any_of p (Memᴰ.head e) h = or_left _ (ap p (sym e) ∙ h)
  any_of p (Memᴰ.tail m) h = or_right _ (any_of p m h)

  -- what no element passes
  pub none_at : (p : A → Bool) {l : List A} {x : A} → any p l ≡ false → x ∈ l → p x ≡ false
  none_at p {l} {x} h m = go (cases (p x))
    where
      go : (p x ≡ true) ⊎ (p x ≡ false) → p x ≡ false
      go (inl e) = clash (any_of p m e) h
      go (inr e) = e

  put_there : (b : Bool) (x : A) {y : A} {l : List A} → y ∈ l → y ∈ put b x l
  unfolding put
  put_there true x m = Memᴰ.tail m
  put_there false x m = m

  pub keep_of : (p : A → Bool) {x : A} {l : List A} → x ∈ l → p x ≡ true → x ∈ keep p l
  unfolding keep put
  keep_of p {x} (Memᴰ.head {x = y} e) h = rw (ap p (sym e) ∙ h) (Memᴰ.head e)
  keep_of p (Memᴰ.tail {x = y} m) h = put_there (p y) y (keep_of p m h)

  pub keep_at : (p : A → Bool) (l : List A) {x : A} → x ∈ keep p l → x ∈ l × (p x ≡ true)
  unfolding keep put
  keep_at p [] m = absurd (Memᴰ.not-nil m)
  keep_at p (y ∷ l) {x} m = go (p y) refl m (λ n. keep_at p l n)
    where
      go : (b : Bool) → p y ≡ b → x ∈ put b y (keep p l) → (x ∈ keep p l → x ∈ l × (p x ≡ true)) → x ∈ (y ∷ l) × (p x ≡ true)
      go true q (Memᴰ.head e) ih = (Memᴰ.head e, ap p e ∙ q)
      go true q (Memᴰ.tail n) ih = let r = ih n in (Memᴰ.tail r.0, r.1)
      go false q n ih = let r = ih n in (Memᴰ.tail r.0, r.1)

  -- ---- element i

  pub named_at_lem : (o : Option A) (f : A → Bool) → named o f ≡ true → (x : A) × (o ≡ some x) × (f x ≡ true)
  unfolding named
  named_at_lem none f h = absurd (false≢true h)
  named_at_lem (some x) f h = (x, refl, h)

  pub named_of : {o : Option A} (f : A → Bool) {x : A} → o ≡ some x → f x ≡ true → named o f ≡ true
  unfolding named
  named_of f e h = rw e h

  pub named_is : {o : Option A} (f : A → Bool) {x : A} → o ≡ some x → named o f ≡ f x
  unfolding named
  named_is f e = rw e

  pub at_mem : (l : List A) (i : ℕ) {x : A} → at l i ≡ some x → x ∈ l
  unfolding at
  at_mem [] i h = absurd (true≢false (cc))
  at_mem (y ∷ l) zero h = Memᴰ.head {x = y} (cc)
  at_mem (y ∷ l) (suc i) h = Memᴰ.tail (at_mem l i h)

  pub mem_index : {x : A} {l : List A} → x ∈ l → (i : ℕ) × (i < length l) × (at l i ≡ some x)
  unfolding at
  mem_index (Memᴰ.head e) = (0, omega arith, ap {B = Option A} some (sym e))
  mem_index (Memᴰ.tail m) = let r = mem_index m in (suc r.0, omega (arith, r.1), r.2)

  pub at_below : (l : List A) (i : ℕ) {x : A} → at l i ≡ some x → i < length l
  unfolding at
  at_below [] i h = absurd (true≢false (cc))
  at_below (y ∷ l) zero h = omega arith
  at_below (y ∷ l) (suc i) h = let r = at_below l i h in omega arith

  pub below_at : (l : List A) (i : ℕ) → i < length l → (x : A) × (at l i ≡ some x)
  unfolding at
  below_at [] i h = absurd (omega arith)
  below_at (y ∷ l) zero h = (y, refl)
  below_at (y ∷ l) (suc i) h = below_at l i (omega arith)

  pub at_append : (l m : List A) (i : ℕ) {x : A} → at l i ≡ some x → at (l ++ m) i ≡ some x
  unfolding at
  at_append [] m i h = absurd (true≢false (cc))
  at_append (y ∷ l) m zero h = h
  at_append (y ∷ l) m (suc i) h = at_append l m i h

  pub at_take : (k : ℕ) (l : List A) (i : ℕ) {x : A} → at (take k l) i ≡ some x → (i < k) × (at l i ≡ some x)
  unfolding at
  at_take zero l i h = absurd (true≢false (cc))
  at_take (suc k) [] i h = absurd (true≢false (cc))
  at_take (suc k) (y ∷ l) zero h = (omega arith, h)
  at_take (suc k) (y ∷ l) (suc i) h = let r = at_take k l i h in (omega (arith, r.0), r.1)

module _ {A B : Type 0} (f : A → B) where
  pub map_of : {x : A} {l : List A} → x ∈ l → f x ∈ map f l
  map_of (Memᴰ.head e) = Memᴰ.head (ap f e)
  map_of (Memᴰ.tail m) = Memᴰ.tail (map_of m)

  pub map_at : (l : List A) {y : B} → y ∈ map f l → (x : A) × x ∈ l × (y ≡ f x)
  map_at [] m = absurd (Memᴰ.not-nil m)
  map_at (x ∷ l) (Memᴰ.head e) = (x, Memᴰ.head refl, e)
  map_at (x ∷ l) (Memᴰ.tail m) = let r = map_at l m in (r.0, Memᴰ.tail r.1, r.2)

pub mem_at : {a : ℕ} {l : List ℕ} → mem a l ≡ true → a ∈ l
unfolding mem
mem_at {a} {l} h = let r = any_at _ l h in subst (λ (x : ℕ). x ∈ l) (sym (is→≡ r.2)) r.1

-- ---- the lowest that fails

module _ (p : ℕ → Bool) where
  -- what `lowest p k n` says: none of the n numbers from k on fails, or number i is the first that does
  unfoldable pub Found : ℕ → ℕ → Option ℕ → Type 0
  Found k n none = (j : ℕ) → k ≤ j → j < k + n → p j ≡ true
  Found k n (some i) = (k ≤ i) × (i < k + n) × (p i ≡ false) × ((j : ℕ) → k ≤ j → j < i → p j ≡ true)

  pub lowest_found : (k n : ℕ) → Found k n (lowest p k n)
  unfolding lowest Found choose
  lowest_found k zero = λ j a b. absurd (omega arith)
  lowest_found k (suc n) = go (p k) refl (lowest p (suc k) n) (lowest_found (suc k) n)
    where
      from : p k ≡ true → (m : ℕ) → ((j : ℕ) → suc k ≤ j → j < m → p j ≡ true) → (j : ℕ) → k ≤ j → j < m → p j ≡ true
      from e m f j a b = here (ℕ_discrete j k)
        where
          here : Dec (j ≡ k) → p j ≡ true
          here (yes q) = rw q e
          here (no q) = f j (omega arith) b

      go : (b : Bool) → p k ≡ b → (o : Option ℕ) → Found (suc k) n o → Found k (suc n) (choose b o (some k))
      go false e o f = (omega arith, omega arith, e, λ j a b. absurd (omega arith))
      go true e none f = λ j a b. from e (suc k + n) f j a (omega arith)
      go true e (some i) f = (omega (arith, f.0), omega (arith, f.1), f.2, from e i f.3)

  -- and only one answer says it
  pub found_once : (k n : ℕ) (o u : Option ℕ) → Found k n o → Found k n u → o ≡ u
  unfolding Found
  found_once k n none none f g = refl
  found_once k n none (some i) f g = clash (f i g.0 g.1) g.2
  found_once k n (some i) none f g = clash (g i f.0 f.1) f.2
  found_once k n (some i) (some j) f g = go (dec_lt i j) (dec_lt j i)
    where
      go : Dec (i < j) → Dec (j < i) → some i ≡ some j
      go (yes h) r = clash (g.3 i f.0 h) f.2
      go (no h) (yes r) = clash (f.3 j g.0 r) g.2
      go (no h) (no r) = ap {B = Option ℕ} some (omega arith)
