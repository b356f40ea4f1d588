-- The whole certificate: its length, its kind, the section of a witness or a proof, and that no word is left.
use Prim.Native.Nat.{ℕ, ◌<◌, ◌≤◌}
use mathlib.Core.Path.{◌≡◌, refl, sym, ap, ◌∙◌}
use mathlib.Core.Bool.{Bool, true, false}
use mathlib.Core.List.{List}
use lib.Dec.{leb}
use lib.ListN.{length}
use borrow.Author.Tests.{le-leb, lt-leb, eq-eqb, ne_eqb}
use Rattle.std.specs.Prelude.{Result, Ok, Err}
use Rattle.reply.specs.declared.Fault.TheVariants as fault
use Rattle.reply.specs.declared.Fault.{Fault}
use Rattle.reply.specs.declared.Refusal.{Refusal}
use Rattle.words.specs.Out.{Out, got, bad, then, need, after}
use Rattle.words.specs.Read.{ranged, section}
use Rattle.words.specs.Answer.{answer_by, answer, as_step, as_got}
use Rattle.words.specs.Items.{on_ok, last_step}
use Rattle.words.proofs.Steps.{failed, answer_fault}
use Rattle.words.proofs.Sections.{told_last}
use Rattle.meaning.specs.Tests.{◌is◌, choose}
use Rattle.meaning.specs.Papers.{Certificate, witness, proof}
use Rattle.promise.specs.Layout.{proposal_of}
use Rattle.promise.specs.declared.Proposal.{Proposal}
use Rattle.promise.specs.declared.Proposal.TheVariants.{Witness, Proof}
use Rattle.dossier.specs.Read.{clause, ended}
use Rattle.certificate.specs.Read.{line, witness_from, proof_from, certificate, proposal}
use Rattle.certificate.specs.Found.{as_form}

-- a section, and no word after it: what the certificate proposes, `to`, goes by the count alone
module _ {A : Type 0} (r : List ℕ → ℕ → Out A) (lo hi : ℕ) (mk : List A → Certificate) (to : ℕ → Proposal) (known : (xs : List A) → to (length xs) ≡ proposal_of (mk xs)) (ws : List ℕ) (p : ℕ) where
  pub whole : on_ok (last_step (λ us q. as_step (r us q)) lo hi ws p) (λ k. Ok (to k)) ≡ as_form (then (after (section lo hi r) ws p) (λ xs q. ended ws (mk xs) q))
  unfolding answer_by ended
  whole = rw (told_last r lo hi ws p) (go (after (section lo hi r) ws p))
    where
      left : (xs : List A) (q : ℕ) (b : Bool) → on_ok (answer (λ ys t. length ys) (need b 9 q (got xs q))) (λ k. Ok (to k)) ≡ as_form (need b 9 q (got (mk xs) q))
      left xs q true = ap Ok (known xs)
      left xs q false = refl

      go : (o : Out (List A)) → on_ok (answer (λ ys t. length ys) (then o (λ xs q. need (leb (length ws) q) 9 q (got xs q)))) (λ k. Ok (to k)) ≡ as_form (then o (λ xs q. need (leb (length ws) q) 9 q (got (mk xs) q)))
      go (got xs q) = left xs q (leb (length ws) q)
      go (bad e q w) = refl

module _ (n m : ℕ) (ws : List ℕ) where
  pub too_long : 24000 < length ws → Err (record { fault = fault.TooLong; place = 0; count = 0 }) ≡ as_form (certificate n m ws)
  unfolding certificate choose
  too_long h = sym (answer_fault _ (rw (lt-leb _ _ h)))

  module _ (short : length ws ≤ 24000) where
    pub kind_bad : {r : Result ℕ (Refusal Fault)} {x : Refusal Fault} → r ≡ as_got (ranged 1 3 11 ws 0) → r ≡ Err x → Err x ≡ as_form (certificate n m ws)
    unfolding certificate proposal answer_by choose
    kind_bad t g = let b = failed _ _ (ranged 1 3 11 ws 0) t g in rw (le-leb _ _ short, b.is) (ap Err b.told)

    module _ {x p : ℕ} (read : ranged 1 3 11 ws 0 ≡ got x p) where
      -- what was answered of the section, b, is what the certificate proposes
      pub witness_is : x ≡ 1 → {r b : Result ℕ (Refusal Fault)} → r ≡ last_step (λ us q. as_step (clause n us q)) 0 129 ws p → r ≡ b → on_ok b (λ k. Ok (Witness k)) ≡ as_form (certificate n m ws)
      unfolding certificate proposal witness_from proposal_of choose ◌is◌
      witness_is e t g = ap (λ (o : Result ℕ (Refusal Fault)). on_ok o (λ k. Ok (Witness k))) (sym g ∙ t) ∙ whole (clause n) 0 129 witness Witness (λ xs. refl) ws p ∙ rw (le-leb _ _ short, read, eq-eqb _ _ e) refl

      pub proof_is : (x ≡ 1 → ⊥) → {r b : Result ℕ (Refusal Fault)} → r ≡ last_step (λ us q. as_step (line n m us q)) 1 1025 ws p → r ≡ b → on_ok b (λ k. Ok (Proof k)) ≡ as_form (certificate n m ws)
      unfolding certificate proposal proof_from proposal_of choose ◌is◌
      proof_is e t g = ap (λ (o : Result ℕ (Refusal Fault)). on_ok o (λ k. Ok (Proof k))) (sym g ∙ t) ∙ whole (line n m) 1 1025 proof Proof (λ xs. refl) ws p ∙ rw (le-leb _ _ short, read, ne_eqb _ _ e) refl
