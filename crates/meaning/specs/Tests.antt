-- What the definitions of this crate are written with: membership, and tests on numbers and lists that answer a Bool.
use Rattle.std.specs.Prelude.{Bool, true, false, not, ℕ, zero, suc, eqb}
use mathlib.Core.List.{List, [], ◌∷◌, Memᴰ}
use Rattle.std.proofs.Math.Option.{Option, none, some}

infix 45 ◌∈◌
infix 40 ◌is◌
infixl 35 ◌and◌
infixl 30 ◌or◌
-- x is an element of l
abbrev pub ◌∈◌ : {A : Type 0} → A → List A → Type 0
x ∈ l = Memᴰ x l

unfoldable pub ◌and◌ : Bool → Bool → Bool
true and b = b
false and b = false

unfoldable pub ◌or◌ : Bool → Bool → Bool
true or b = true
false or b = b

-- two Bools, two numbers, two lists of numbers are the same
unfoldable pub agree : Bool → Bool → Bool
agree true b = b
agree false b = not b

unfoldable pub ◌is◌ : ℕ → ℕ → Bool
m is n = eqb m n

unfoldable pub same : List ℕ → List ℕ → Bool
same [] [] = true
same [] (y ∷ m) = false
same (x ∷ l) [] = false
same (x ∷ l) (y ∷ m) = x is y and same l m

-- each element passes; some element passes; the elements that pass
unfoldable pub all : {A : Type 0} → (A → Bool) → List A → Bool
all p [] = true
all p (x ∷ l) = p x and all p l

unfoldable pub any : {A : Type 0} → (A → Bool) → List A → Bool
any p [] = false
any p (x ∷ l) = p x or any p l

unfoldable pub put : {A : Type 0} → Bool → A → List A → List A
put true x l = x ∷ l
put false x l = l

unfoldable pub keep : {A : Type 0} → (A → Bool) → List A → List A
keep p [] = []
keep p (x ∷ l) = put (p x) x (keep p l)

unfoldable pub mem : ℕ → List ℕ → Bool
mem a l = any (λ x. a is x) l

-- element i, counted from 0, if the list has one
unfoldable pub at : {A : Type 0} → List A → ℕ → Option A
at [] i = none
at (x ∷ l) zero = some x
at (x ∷ l) (suc i) = at l i

-- o names something, of which f is true
unfoldable pub named : {A : Type 0} → Option A → (A → Bool) → Bool
named none f = false
named (some x) f = f x

-- the first where the test passes, else the second
unfoldable pub choose : {A : Type 0} → Bool → A → A → A
choose true x y = x
choose false x y = y

-- the lowest number that fails p, of so many from k on
unfoldable pub lowest : (ℕ → Bool) → ℕ → ℕ → Option ℕ
lowest p k zero = none
lowest p k (suc left) = choose (p k) (lowest p (suc k) left) (some k)
