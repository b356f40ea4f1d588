-- One step of reading a prefix formula, by the kind of its first word.
use Prim.Native.Nat.{ℕ, zero, suc, ◌+◌, ◌-◌, ◌<◌, ◌≤◌}
use mathlib.Core.Path.{◌≡◌, refl, sym, ap, ◌∙◌}
use mathlib.Core.List.{List}
use native.Mathlib.Omega.{arith}
use lib.ListN.{get_or}
use borrow.Author.Tests.{le-ltb, lt-ltb, eq-eqb, ne_eqb}
use Rattle.words.specs.Out.{bad}
use Rattle.meaning.specs.Tests.{◌is◌, choose}
use Rattle.dossier.specs.Read.{operand, by_kind}
use Rattle.std.specs.Prelude.{Result, Ok, Err}
use Rattle.reply.specs.declared.Fault.{Fault}
use Rattle.reply.specs.declared.Fault.TheVariants as fault
use Rattle.reply.specs.declared.Refusal.{Refusal}
use Rattle.reply.specs.Numbers.{number}
use Rattle.words.specs.Answer.{answer_by, as_step, at_word}
use Rattle.words.proofs.Steps.{step_made, answer_fault, failed, stepped}
use Rattle.dossier.proofs.Formula.{Strange, high, unknown}

not_zero : (d : ℕ) → (d ≡ 0 → ⊥) → d ≡ suc (d - 1)
not_zero d h = omega arith

module _ (n lp end d : ℕ) (ws : List ℕ) (at : ℕ) where
  pub operand_deep : d ≡ 0 → operand n lp end d ws at ≡ bad 8 lp 1
  unfolding operand
  operand_deep h = rw h

  pub op_deep : d ≡ 0 → as_step (operand n lp end d ws at) ≡ Err (at_word fault.FormulaShape lp)
  op_deep h = answer_fault _ (operand_deep h)

  pub operand_past : end ≤ at → operand n lp end d ws at ≡ bad 8 lp 1
  unfolding operand
  operand_past h = go d
    where
      go : (j : ℕ) → operand n lp end j ws at ≡ bad 8 lp 1
      go zero = refl
      go (suc j) = simp (le-ltb _ _ h)

  pub op_past : end ≤ at → as_step (operand n lp end d ws at) ≡ Err (at_word fault.FormulaShape lp)
  op_past h = answer_fault _ (operand_past h)

  module _ (deep : d ≡ 0 → ⊥) where
    module _ (within : at < end) where
      pub op_step : operand n lp end d ws at ≡ by_kind n (get_or ws at 0) at (operand n lp end (d - 1) ws)
      unfolding operand
      op_step = on (d - 1) (not_zero d deep)
        where
          on : (j : ℕ) → d ≡ suc j → operand n lp end d ws at ≡ by_kind n (get_or ws at 0) at (operand n lp end j ws)
          on j z = rw z (simp (lt-ltb _ _ within))

      pub operand_strange : {x e : ℕ} → get_or ws at 0 ≡ x → Strange n x e → operand n lp end d ws at ≡ bad e at 1
      unfolding by_kind choose ◌is◌
      operand_strange w (high a b) = op_step ∙ simp (w, le-ltb _ _ a, lt-ltb _ _ b)
      operand_strange {x = x} w (unknown a b) =
          let c : 256 ≤ x = omega arith in
          let f : x ≡ 256 → ⊥ = λ z. omega (arith, z) in
          let g : x ≡ 257 → ⊥ = λ z. omega (arith, z) in
          op_step ∙ simp (w, le-ltb _ _ a, le-ltb _ _ c, ne_eqb _ _ f, ne_eqb _ _ g, lt-ltb _ _ b)

      pub op_strange : (f : Fault) → Strange n (get_or ws at 0) (number f) → as_step (operand n lp end d ws at) ≡ Err (at_word f at)
      op_strange f s = answer_fault _ (operand_strange refl s)

      pub op_atom : get_or ws at 0 < n → as_step (operand n lp end d ws at) ≡ Ok (at + 1)
      unfolding by_kind answer_by choose ◌is◌
      op_atom h = rw op_step (simp (lt-ltb _ _ h))

      module _ (h₁ : n ≤ get_or ws at 0) where
        module _ (h₂ : 256 ≤ get_or ws at 0) where
          pub op_true : get_or ws at 0 ≡ 256 → as_step (operand n lp end d ws at) ≡ Ok (at + 1)
          unfolding by_kind answer_by choose ◌is◌
          op_true h = rw op_step (simp (le-ltb _ _ h₁, le-ltb _ _ h₂, eq-eqb _ _ h))

          module _ (h₃ : get_or ws at 0 ≡ 256 → ⊥) where
            pub op_not : get_or ws at 0 ≡ 257 → as_step (operand n lp end d ws at) ≡ as_step (operand n lp end (d - 1) ws (at + 1))
            unfolding by_kind choose ◌is◌
            op_not h = rw op_step (simp (le-ltb _ _ h₁, le-ltb _ _ h₂, ne_eqb _ _ h₃, eq-eqb _ _ h, step_made))

            module _ (h₄ : get_or ws at 0 ≡ 257 → ⊥) where
              module _ (h₅ : get_or ws at 0 ≤ 259) where
                pub op_bad : {r : Result ℕ (Refusal Fault)} {x : Refusal Fault} → r ≡ as_step (operand n lp end (d - 1) ws (at + 1)) → r ≡ Err x → as_step (operand n lp end d ws at) ≡ Err x
                unfolding by_kind answer_by choose ◌is◌
                op_bad t g = let b = failed _ _ (operand n lp end (d - 1) ws (at + 1)) t g in rw op_step (simp (le-ltb _ _ h₁, le-ltb _ _ h₂, ne_eqb _ _ h₃, ne_eqb _ _ h₄, le-ltb _ _ h₅, b.is) (ap Err (sym b.told)))

                pub op_both : {r : Result ℕ (Refusal Fault)} {p : ℕ} → r ≡ as_step (operand n lp end (d - 1) ws (at + 1)) → r ≡ Ok p → as_step (operand n lp end d ws at) ≡ as_step (operand n lp end (d - 1) ws p)
                unfolding by_kind choose ◌is◌
                op_both t g = let h = stepped _ (operand n lp end (d - 1) ws (at + 1)) t g in rw op_step (simp (le-ltb _ _ h₁, le-ltb _ _ h₂, ne_eqb _ _ h₃, ne_eqb _ _ h₄, le-ltb _ _ h₅, h.1, step_made))
