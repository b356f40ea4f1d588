-- "A word is tested for presence, then range, then rising order."
use Rattle.std.specs.Prelude.{ℕ, zero, suc, ◌+◌, List, [], ◌∷◌, ltb, leb}
use Rattle.words.specs.Out.{Out, got, then, need, made, word}

-- a word that is at least lo and below hi; else refusal e
unfoldable pub ranged : ℕ → ℕ → ℕ → List ℕ → ℕ → Out ℕ
ranged lo hi e ws at = then (word ws at) (λ x p. need (leb lo x) e at (need (ltb x hi) e at (got x p)))

-- the range of a list's words: any word, or those below hi, else refusal e
pub data Range : Type 0 where
  Any : Range
  Below : ℕ → ℕ → Range

abbrev pub in_range : {A : Type 0} → Range → ℕ → ℕ → Out A → Out A
in_range Any x at o = o
in_range (Below hi e) x at o = need (ltb x hi) e at o

-- the next word of a list, in the range and at least low; 4, "a list not strictly rising": the later word
unfoldable pub next : Range → ℕ → List ℕ → ℕ → Out ℕ
next range low ws at = then (word ws at) (λ x p. in_range range x at (need (leb low x) 4 at (got x p)))

-- k words in the range, strictly rising, the first at least low
unfoldable pub rising : Range → ℕ → ℕ → List ℕ → ℕ → Out (List ℕ)
rising range low zero ws at = got [] at
rising range low (suc k) ws at = then (next range low ws at) (λ x p. made (λ xs. x ∷ xs) (rising range (x + 1) k ws p))

-- a count that is at least lo and below hi (2, "a count or length outside its limits": that word), and so many words
unfoldable pub listed : ℕ → ℕ → Range → List ℕ → ℕ → Out (List ℕ)
listed lo hi range ws at = then (ranged lo hi 2 ws at) (λ k p. rising range 0 k ws p)

-- k things, one after the other
unfoldable pub times : {A : Type 0} → ℕ → (List ℕ → ℕ → Out A) → List ℕ → ℕ → Out (List A)
times zero r ws at = got [] at
times (suc k) r ws at = then (r ws at) (λ v p. made (λ vs. v ∷ vs) (times k r ws p))

-- a section: a count that is at least lo and below hi, and so many things
unfoldable pub section : {A : Type 0} → ℕ → ℕ → (List ℕ → ℕ → Out A) → List ℕ → ℕ → Out (List A)
section lo hi r ws at = then (ranged lo hi 2 ws at) (λ k p. times k r ws p)
