-- What the readers of statements and literals promise: they accept the codes of well-formed ones, and nothing else.
use Prim.Native.Nat.{ℕ}
use mathlib.Core.Path.{◌≡◌, refl, sym}
use native.Mathlib.Omega.{arith}
use Rattle.words.proofs.Promise.{Reads, reads_as, reads_bind, reads_made, reads_then, reads_ranged}
use Rattle.meaning.specs.Tests.{◌is◌}
use Rattle.promise.specs.Code.{bit, code_statement, code_literal}
use Rattle.promise.specs.Form.{StatementForm}
use Rattle.promise.proofs.Seen.{is_bit}
use Rattle.dossier.proofs.Items.{bit_is, bit_below, reads_atoms, reads_creds}
use Rattle.certificate.specs.Read.{statement, literal}

pub reads_statement : (n m : ℕ) → Reads (statement n m) code_statement (StatementForm n m)
unfolding statement
reads_statement n m =
    reads_as
    (reads_bind (reads_creds m) (λ s. s.creds) (λ S f.
    reads_bind (reads_atoms n) (λ s. s.atoms) (λ X g.
    reads_made (reads_ranged 0 n 3) (λ a. record { creds = S; atoms = X; atom = a }) (λ s. s.atom) (λ s. (s.atoms ≡ X) × ((s.creds ≡ S) × Unit {0}))
    (λ a h. (refl, (refl, tt)))
    (λ a h. refl)
    (λ s k. λ i. record { creds = sym k.1.0 i; atoms = sym k.0 i; atom = s.atom }))))
    (λ s f. refl)
    (λ s. (
      λ f. record { creds = f.1.0; atoms = f.1.1.0; atom = f.1.1.1.1 },
      λ f. (tt, (f.creds, (f.atoms, (omega arith, f.atom)))),
    ))

pub reads_literal : (n m : ℕ) → Reads (literal n m) code_literal (λ l. StatementForm n m l.said)
unfolding literal
reads_literal n m =
    reads_as
    (reads_then (reads_ranged 0 2 5) (λ g s. record { positive = g is 1; said = s }) (λ l. bit l.positive) (λ l. l.said) (λ g s f. bit_is g f.1) (λ g s. refl) (λ l. λ i. record { positive = is_bit l.positive i; said = l.said }) (λ g f. reads_statement n m))
    (λ l f. refl)
    (λ l. (λ f. f.1, λ f. ((omega arith, bit_below l.positive), f)))
