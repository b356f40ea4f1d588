-- Where the code of a sound thing lies in the words, the views see that thing, and the next begins where its code ends.
use Prim.Native.Nat.{ℕ, zero, suc, ◌+◌, ◌<◌, ◌≤◌}
use mathlib.Core.Path.{◌≡◌, refl, sym, ap, ap₂, ◌∙◌, subst}
use mathlib.Core.List.Memᴰ
use mathlib.Core.List.{List, [], ◌∷◌, ◌++◌, append_assoc}
use mathlib.Core.Bool.{Bool, true, false}
use native.Mathlib.Omega.{arith}
use lib.ListN.{length, get_or, take, drop, length-drop, length-append}
use lib.Seq.{get_or-drop, drop-drop, take-append_seam, drop-append_seam}
use Rattle.words.specs.Code.{code_list, code_all}
use Rattle.meaning.specs.Tests.{◌∈◌, ◌is◌}
use Rattle.promise.specs.Code.{bit, code_clause, code_marked, code_literal}
use Rattle.promise.specs.Form.{ClauseForm}
use Rattle.promise.specs.Place.{part, Kind, place, many, Fit}
use Rattle.promise.specs.Clause.{clause_at, credential, marked}
use Rattle.promise.specs.Line.{atoms_at, literal_at, Held, literal}
use Rattle.promise.specs.declared.LiteralAt.{LiteralAt}
use Rattle.promise.proofs.Place.{place_next}

-- ---- words that lie at a place

module _ (ws : List ℕ) (p : ℕ) where
  pub first_word : {x : ℕ} {l : List ℕ} → drop p ws ≡ x ∷ l → get_or ws p 0 ≡ x
  first_word w = let z : p ≡ p + 0 = omega arith in ap (λ (i : ℕ). get_or ws i 0) z ∙ sym (get_or-drop p ws 0 0) ∙ ap (λ (l : List ℕ). get_or l 0 0) w

  pub next_words : {x : ℕ} {l : List ℕ} → drop p ws ≡ x ∷ l → drop (p + 1) ws ≡ l
  next_words w = sym (drop-drop 1 p ws) ∙ ap (drop 1) w

  pub words_after : (code : List ℕ) {rest : List ℕ} → drop p ws ≡ code ++ rest → drop (p + length code) ws ≡ rest
  words_after code {rest} w = sym (drop-drop (length code) p ws) ∙ ap (drop (length code)) w ∙ drop-append_seam code rest

  pub word_there : {x : ℕ} {l : List ℕ} → drop p ws ≡ x ∷ l → p < length ws
  word_there w = omega (arith, length-drop p ws, ap length w)

  -- they end within the words, if there are any
  pub ends_within : (code rest : List ℕ) → 0 < length code → drop p ws ≡ code ++ rest → p + length code ≤ length ws
  ends_within code rest h w = omega (arith, length-drop p ws, ap length w, length-append code rest)

-- a counted list: its count stands at p, its words from q on
pub record Listed (ws : List ℕ) (p q : ℕ) (xs rest : List ℕ) : Type 0 where
  pub count : get_or ws p 0 ≡ length xs
  pub that : part ws q (get_or ws p 0) ≡ xs
  pub past : drop (q + get_or ws p 0) ws ≡ rest

pub listed : (ws : List ℕ) (p q : ℕ) (xs rest : List ℕ) → q ≡ p + 1 → drop p ws ≡ code_list xs ++ rest → Listed ws p q xs rest
unfolding part
listed ws p q xs rest e w =
    let n = first_word ws p w in
    let t : drop q ws ≡ xs ++ rest = ap (λ (i : ℕ). drop i ws) e ∙ next_words ws p w in
    record {
      count = n;
      that = rw n (ap (take (length xs)) t ∙ take-append_seam xs rest);
      past = rw n (words_after ws q xs t);
    }

pub is_bit : (b : Bool) → bit b is 1 ≡ b
unfolding ◌is◌
is_bit true = refl
is_bit false = refl

-- ---- things of a kind, one after the other

-- what a kind sees where the code of x lies
pub record See {A : Type 0} (K : Kind A) (code : A → List ℕ) (ws : List ℕ) (p : ℕ) (x : A) : Type 0 where
  pub that : K.read ws p ≡ x
  pub next : K.next ws p ≡ p + length (code x)
  pub ok : K.ok ws p

abbrev pub Seen : {A : Type 0} → Kind A → (A → List ℕ) → (A → Type 0) → Type 0
Seen {A} K code Form = (ws : List ℕ) (p : ℕ) (x : A) (rest : List ℕ) → drop p ws ≡ code x ++ rest → Form x → See K code ws p x

-- what is seen of many
pub record SeeMany {A : Type 0} (K : Kind A) (code : A → List ℕ) (ws : List ℕ) (p : ℕ) (xs : List A) : Type 0 where
  pub that : many K ws p (length xs) ≡ xs
  pub next : place (K.next ws) p (length xs) ≡ p + length (code_all code xs)
  pub fit : Fit K ws p (length xs)

module _ {A : Type 0} (K : Kind A) (code : A → List ℕ) (Form : A → Type 0) (seen : Seen K code Form) (ws : List ℕ) where
  pub see_many : (p : ℕ) (xs : List A) (rest : List ℕ) → drop p ws ≡ code_all code xs ++ rest → ((x : A) → x ∈ xs → Form x) → SeeMany K code ws p xs
  unfolding many place Fit code_all
  see_many p [] rest w f = record { that = refl; next = omega arith; fit = λ j h. absurd (omega arith) }
  see_many p (x ∷ xs) rest w f = go (see_many (K.next ws p) xs rest)
    where
      first : See K code ws p x
      first = seen ws p x (code_all code xs ++ rest) (w ∙ append_assoc (code x) (code_all code xs) rest) (f x (Memᴰ.head refl))

      there : drop (K.next ws p) ws ≡ code_all code xs ++ rest
      there = ap (λ (q : ℕ). drop q ws) first.next ∙ words_after ws p (code x) (w ∙ append_assoc (code x) (code_all code xs) rest)

      go : (drop (K.next ws p) ws ≡ code_all code xs ++ rest → ((y : A) → y ∈ xs → Form y) → SeeMany K code ws (K.next ws p) xs) → SeeMany K code ws p (x ∷ xs)
      go ih =
          let r = ih there (λ y m. f y (Memᴰ.tail m)) in
          record {
            that = ap₂ {C = List A} ◌∷◌ first.that r.that;
            next = sym (place_next (K.next ws) p (length xs)) ∙ r.next ∙ (omega (arith, first.next, length-append (code x) (code_all code xs)));
            fit = each r.fit;
          }
        where
          each : Fit K ws (K.next ws p) (length xs) → (j : ℕ) → j < suc (length xs) → K.ok ws (place (K.next ws) p j)
          each g zero h = first.ok
          each g (suc j) h = rw (← place_next (K.next ws) p j) (g j (omega arith))

-- ---- clauses

see_clause : (n : ℕ) → Seen (credential n) code_clause (ClauseForm n)
see_clause n ws p c rest w f =
    let h = first_word ws p w in
    let t = listed ws (p + 1) (p + 2) c.body rest (omega arith) (next_words ws p w) in
    let e : (clause_at ws p).next ≡ p + length (code_clause c) = omega (arith, t.count) in
    record {
      that = rw (h, t.that);
      next = e;
      ok =
          record {
            ends = rw e (ends_within ws p (code_clause c) rest (omega arith) w);
            head = rw h f.head;
            body = λ x m. f.body.below x (subst (λ (l : List ℕ). x ∈ l) t.that m);
          };
    }

pub clauses_seen : (n : ℕ) → Seen (credential n) code_clause (ClauseForm n)
clauses_seen = see_clause

pub marked_seen : (n : ℕ) → Seen (marked n) code_marked (λ m. ClauseForm n m.clause)
marked_seen n ws p m rest w f =
    let b : get_or ws p 0 is 1 ≡ m.visible = ap (λ (x : ℕ). x is 1) (first_word ws p w) ∙ is_bit m.visible in
    let t = see_clause n ws (p + 1) m.clause rest (next_words ws p w) f in
    record { that = rw (b, t.that); next = omega (arith, t.next); ok = t.ok }

-- ---- literals

pub literals_seen : Seen literal code_literal (λ _. Unit {0})
literals_seen ws p l rest w f =
    let said = l.said in
    let tail : List ℕ = code_list said.atoms ++ (said.atom ∷ []) in
    let b : get_or ws p 0 is 1 ≡ l.positive = ap (λ (x : ℕ). x is 1) (first_word ws p w) ∙ is_bit l.positive in
    let s = listed ws (p + 1) (p + 2) said.creds (tail ++ rest) (omega arith) (next_words ws p w ∙ append_assoc (code_list said.creds) tail rest) in
    let q = atoms_at ws p in
    let t = listed ws q (q + 1) said.atoms (said.atom ∷ rest) refl (s.past ∙ append_assoc (code_list said.atoms) (said.atom ∷ []) rest) in
    let x = first_word ws (q + 1 + get_or ws q 0) t.past in
    let e : (literal_at ws p).next ≡ p + length (code_literal l) = omega (arith, s.count, t.count, length-append said.creds tail, length-append said.atoms (said.atom ∷ [])) in
    record { that = rw (b, s.that, t.that, x); next = e; ok = rw e (ends_within ws p (code_literal l) rest (omega arith) w) }

-- the words of a literal's two lists are there
pub held : (ws : List ℕ) (p : ℕ) {v : LiteralAt} → v ≡ literal_at ws p → (literal_at ws p).next ≤ length ws → Held ws v
held ws p e h = rw e (record { creds = omega arith; atoms = omega arith })
