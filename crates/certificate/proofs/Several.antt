-- The literals of a line, read one after the other: those read before are the ones that are seen from the first's place on.
use Prim.Native.Nat.{ℕ, zero, suc, ◌+◌, ◌-◌, ◌<◌, ◌≤◌}
use mathlib.Core.Path.{◌≡◌, refl, sym, ap, ◌∙◌}
use mathlib.Core.Bool.{Bool, true, false, not}
use mathlib.Core.List.{List, [], ◌∷◌, ◌++◌}
use native.Mathlib.Omega.{arith}
use native.Mathlib.Numerals.{add-one}
use borrow.Author.Count.{below_more}
use lib.ListN.{drop}
use Rattle.words.specs.Out.{Out, got, bad, then, made, need}
use Rattle.meaning.specs.Papers.{Literal}
use Rattle.words.specs.Answer.{answer_by, as_step, at_word}
use Rattle.std.specs.Prelude.{Result, Ok, Err}
use Rattle.reply.specs.declared.Fault.TheVariants as fault
use Rattle.reply.specs.declared.Fault.{Fault}
use Rattle.reply.specs.declared.Refusal.{Refusal}
use Rattle.words.proofs.Steps.{failed, stepped, step_made, answer_got, answer_fault}
use Rattle.words.proofs.Promise.{reads_got}
use Rattle.promise.specs.Place.{Kind, place, many, Fit}
use Rattle.promise.specs.Line as seen
use Rattle.promise.proofs.Place.{place_next, place_on}
use Rattle.promise.proofs.Seen.{literals_seen}
use Rattle.certificate.specs.Read.{literal, spoken, literals}
use Rattle.certificate.proofs.Items.{reads_literal}

-- one thing more is seen after so many
many_more : {A : Type 0} (K : Kind A) (ws : List ℕ) (p k : ℕ) → many K ws p (suc k) ≡ many K ws p k ++ (K.read ws (place (K.next ws) p k) ∷ [])
unfolding many place
many_more K ws p zero = refl
many_more K ws p (suc k) =
    ap (λ l. K.read ws p ∷ l) (many_more K ws (K.next ws p) k)
    ∙ ap (λ q. K.read ws p ∷ (many K ws (K.next ws p) k ++ (K.read ws q ∷ []))) (place_next (K.next ws) p k)

-- a literal that was read at p is the one that is seen there, and the next begins where it ends
pub record Lit (n m : ℕ) (ws : List ℕ) (p q : ℕ) : Type 0 where
  pub is : literal n m ws p ≡ got ((seen.literal).read ws p) q
  pub next : q ≡ (seen.literal).next ws p
  pub ok : (seen.literal).ok ws p

pub lit : (n m : ℕ) (ws : List ℕ) (p : ℕ) {r : Result ℕ (Refusal Fault)} {q : ℕ} → r ≡ as_step (literal n m ws p) → r ≡ Ok q → Lit n m ws p q
lit n m ws p {q = q} f g =
    let (l, e) = stepped _ (literal n m ws p) f g in
    let s = (reads_got (reads_literal n m) e).0 in
    let v = literals_seen ws p l (drop q ws) s.words tt in
    record { is = rw v.that e; next = s.next ∙ sym v.next; ok = v.ok }

-- one literal after those before: it is refused, and so are more of them; or it was read, and speaks of nothing new
module _ (n m : ℕ) (before : List Literal) (ws : List ℕ) (p : ℕ) where
  pub one_stop : {r : Result ℕ (Refusal Fault)} {x : Refusal Fault} → r ≡ as_step (literal n m ws p) → r ≡ Err x → Err x ≡ as_step (literals n m 1 before ws p)
  unfolding literals answer_by
  one_stop e g = let b = failed _ _ (literal n m ws p) e g in rw b.is (ap Err b.told)

  module _ {l : Literal} {q : ℕ} (h : literal n m ws p ≡ got l q) {r : Bool} (e : r ≡ spoken l.said before) where
    pub one_twice : r ≡ true → Err (at_word fault.SaidTwice p) ≡ as_step (literals n m 1 before ws p)
    unfolding literals
    one_twice y = let z = sym e ∙ y in sym (answer_fault _ (rw (h, z)))

    pub one_on : r ≡ false → Ok q ≡ as_step (literals n m 1 before ws p)
    unfolding literals answer_by
    one_on y = let z = sym e ∙ y in rw (h, z)

  one_bad : (j : ℕ) {x : Refusal Fault} → as_step (literals n m 1 before ws p) ≡ Err x → as_step (literals n m (suc j) before ws p) ≡ Err x
  unfolding literals answer_by
  one_bad j {x} h = go (literal n m ws p) h
    where
      tested : (l : Literal) (q : ℕ) (b : Bool) → as_step (need b 13 p (got (l ∷ []) q)) ≡ Err x → as_step (need b 13 p (made (λ ls. l ∷ ls) (literals n m j (before ++ (l ∷ [])) ws q))) ≡ Err x
      tested l q true k = absurd (let z : ◌≡◌ {A = ℕ} 0 1 = cc in omega arith)
      tested l q false k = k

      go : (o : Out Literal) → as_step (then o (λ l q. need (not (spoken l.said before)) 13 p (got (l ∷ []) q))) ≡ Err x
          → as_step (then o (λ l q. need (not (spoken l.said before)) 13 p (made (λ ls. l ∷ ls) (literals n m j (before ++ (l ∷ [])) ws q)))) ≡ Err x
      go (got l q) k = tested l q (not (spoken l.said before)) k
      go (bad a q b) k = k

  one_passed : {q : ℕ} → as_step (literals n m 1 before ws p) ≡ Ok q → (l : Literal) × ((literal n m ws p ≡ got l q) × (spoken l.said before ≡ false))
  unfolding literals answer_by
  one_passed {q} h = go (literal n m ws p) refl h
    where
      tested : (l : Literal) (x : ℕ) → literal n m ws p ≡ got l x → (b : Bool) → spoken l.said before ≡ b → as_step (need (not b) 13 p (got (l ∷ []) x)) ≡ Ok q
          → (l : Literal) × ((literal n m ws p ≡ got l q) × (spoken l.said before ≡ false))
      tested l x g true z k = absurd (let y : ◌≡◌ {A = ℕ} 0 1 = cc in omega arith)
      tested l x g false z k = let y : x ≡ q = cc in (l, (g ∙ ap (got l) y, z))

      go : (o : Out Literal) → literal n m ws p ≡ o → as_step (then o (λ l x. need (not (spoken l.said before)) 13 p (got (l ∷ []) x))) ≡ Ok q
          → (l : Literal) × ((literal n m ws p ≡ got l q) × (spoken l.said before ≡ false))
      go (got l x) g k = tested l x g (spoken l.said before) refl k
      go (bad a x b) g k = absurd (let y : ◌≡◌ {A = ℕ} 0 1 = cc in omega arith)

same_value : {A : Type 0} {o : Out A} {x y : A} {q : ℕ} → o ≡ got x q → o ≡ got y q → x ≡ y
same_value e f = cc

-- what is read so far, and that the rest answers as the whole does
pub record State (n m : ℕ) (ws : List ℕ) (at k done p : ℕ) : Type 0 where
  pub fit : Fit seen.literal ws at done
  pub here : p ≡ place ((seen.literal).next ws) at done
  pub same : as_step (literals n m k [] ws at) ≡ as_step (literals n m (k - done) (many seen.literal ws at done) ws p)

module _ {n m at k : ℕ} {ws : List ℕ} where
  pub state_first : State n m ws at k 0 at
  unfolding Fit place many
  state_first = record { fit = λ j h. absurd (omega arith); here = refl; same = let z : k ≡ k - 0 = omega arith in ap (λ (j : ℕ). as_step (literals n m j [] ws at)) z }

  module _ {done p : ℕ} (s : State n m ws at k done p) where
    pub state_none : k ≤ done → as_step (literals n m k [] ws at) ≡ Ok p
    unfolding literals answer_by
    state_none h = let z : k - done ≡ 0 = omega arith in s.same ∙ rw z

    module _ (more : done < k) where
      at_least : k - done ≡ suc (k - (done + 1))
      at_least = omega arith

      module _ {r : Result ℕ (Refusal Fault)} (e : r ≡ as_step (literals n m 1 (many seen.literal ws at done) ws p)) where
        pub state_bad : {x : Refusal Fault} → r ≡ Err x → as_step (literals n m k [] ws at) ≡ Err x
        state_bad h = s.same ∙ ap (λ (j : ℕ). as_step (literals n m j (many seen.literal ws at done) ws p)) at_least ∙ one_bad n m _ ws p _ (sym e ∙ h)

        pub state_on : {q : ℕ} → r ≡ Ok q → State n m ws at k (done + 1) q
        unfolding literals Fit
        state_on {q} h =
            let (l, (g, z)) = one_passed n m (many seen.literal ws at done) ws p (sym e ∙ h) in
            let t = lit n m ws p {r = Ok q} (sym (answer_got _ _ g)) refl in
            let y : spoken ((seen.literal).read ws p).said (many seen.literal ws at done) ≡ false = ap (λ (x : Literal). spoken x.said (many seen.literal ws at done)) (same_value t.is g) ∙ z in
            let b : many seen.literal ws at (done + 1) ≡ many seen.literal ws at done ++ ((seen.literal).read ws p ∷ []) = rw (add-one done, s.here) (many_more seen.literal ws at done) in
            record {
              fit = below_more _ done s.fit (rw (← s.here) t.ok);
              here = place_on ((seen.literal).next ws) at done s.here t.next;
              same = s.same ∙ rw (at_least, t.is, y, b) (step_made _ _ _);
            }
