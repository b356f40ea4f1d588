-- Every row of form has one of the numbers 1 to 13, so that a refusal's fault tells its number.
use Prim.Native.Nat.{ℕ, ◌≤◌}
use mathlib.Core.Path.{◌≡◌, sym, ap, ◌∙◌}
use mathlib.Core.List.{List}
use native.Mathlib.Omega.{arith}
use Rattle.reply.specs.declared.Fault as reply
use Rattle.reply.specs.declared.Refusal.{Refusal}
use Rattle.reply.specs.Numbers.{number, fault_of}
use Rattle.reply.proofs.Numbers.{number_fault}
use Rattle.words.specs.Out.{Out, bad}
use Rattle.words.proofs.Steps.{Failed}
use Rattle.promise.specs.Due.{Word, What}
use Rattle.promise.specs.Table.{Wrong, Fault, FormRow, CertificateRow}

abbrev pub Few : ℕ → Type 0
Few e = (1 ≤ e) × (e ≤ 13)

wrong_few : {w : Word} {x e : ℕ} → Wrong w x e → Few e
wrong_few (Wrong.limits h) = (omega arith, omega arith)
wrong_few (Wrong.no_atom h) = (omega arith, omega arith)
wrong_few (Wrong.label_order h) = (omega arith, omega arith)
wrong_few (Wrong.atom_order h k) = (omega arith, omega arith)
wrong_few (Wrong.cred_order h k) = (omega arith, omega arith)
wrong_few (Wrong.no_mark h) = (omega arith, omega arith)
wrong_few (Wrong.no_cred h) = (omega arith, omega arith)
wrong_few (Wrong.no_kind h k) = (omega arith, omega arith)
wrong_few (Wrong.no_rule h) = (omega arith, omega arith)

fault_few : {what : What} {us : List ℕ} {e q : ℕ} {shown : List ℕ} → Fault what us e q shown → Few e
fault_few Fault.ended = (omega arith, omega arith)
fault_few (Fault.word w) = wrong_few w
fault_few (Fault.no_length w) = wrong_few w
fault_few (Fault.few_remain h k l) = (omega arith, omega arith)
fault_few (Fault.high us fs rest h k l m) = (omega arith, omega arith)
fault_few (Fault.unknown us fs rest h k l) = (omega arith, omega arith)
fault_few (Fault.too_deep us fs rest h k) = (omega arith, omega arith)
fault_few (Fault.complete f x fs rest h k) = (omega arith, omega arith)
fault_few (Fault.needs fs rest h k) = (omega arith, omega arith)
fault_few (Fault.twice l x rest h k m) = (omega arith, omega arith)

pub row_few : {Due : List ℕ → What → Type 0} {Whole : List ℕ → Type 0} {ws : List ℕ} {e p : ℕ} {shown : List ℕ} → FormRow Due Whole ws e p shown → Few e
row_few (FormRow.due us rest what h d f) = fault_few f
row_few (FormRow.left_over us x rest h w) = (omega arith, omega arith)

pub certificate_few : {n m : ℕ} {ws : List ℕ} {e p : ℕ} {shown : List ℕ} → CertificateRow n m ws e p shown → Few e
certificate_few (CertificateRow.long h) = (omega arith, omega arith)
certificate_few (CertificateRow.form h r) = row_few r

-- what was refused, by the refusal that the code was given
pub told_bad : {A : Type 0} {o : Out A} {x : Refusal reply.Fault} (b : Failed fault_of o x) → Few b.e → o ≡ bad (number x.fault) x.place x.count
told_bad b few =
    b.is
    ∙ ap (λ (n : ℕ). bad n b.p b.w) (sym (number_fault b.e few.0 (omega (arith, few.1))))
    ∙ sym (ap (λ (y : Refusal reply.Fault). bad (number y.fault) y.place y.count) b.told)
