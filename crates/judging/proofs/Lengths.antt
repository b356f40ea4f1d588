-- Each entry leaves its table as long as it was.
use Prim.Native.Nat.{ℕ, ◌≤◌, ◌<◌}
use mathlib.Core.Path.{◌≡◌, refl}
use mathlib.Core.List.{List}
use mathlib.Core.Option.{Option, none, some}
use native.Mathlib.Omega.{arith}
use native.Mathlib.Decide.{dec_lt}
use lib.Dec.{leb}
use lib.ListN.{length}
use borrow.Author.Tests.{le-leb, lt-leb}
use Rattle.words.specs.Out.{Out, got, bad}
use Rattle.meaning.specs.Tests.{choose}
use Rattle.meaning.specs.Policy.{Policy}
use Rattle.meaning.specs.Papers.{Entry, Dossier, Certificate, witness, proof}
use Rattle.meaning.specs.Verdict.{Outcome, judge, about, round_in}
use Rattle.promise.proofs.Place.{filled_length}
use Rattle.dossier.specs.Read.{dossier}
use Rattle.certificate.specs.Read.{certificate}
use Rattle.verdict.specs.Told.{numbered, rounds_at}
use Rattle.judging.specs.Rounds.{rounds_proposal, rounds_read, rounds_after}
use Rattle.judging.specs.Table.{word_to}
use Rattle.judging.specs.Answers.{table_of, table_after}

by_room : (n : ℕ) (t u : List ℕ) → (n ≤ length t → length u ≡ length t) → length (choose (leb n (length t)) u t) ≡ length t
unfolding choose
by_room n t u f = go (dec_lt (length t) n)
  where
    go : Dec (length t < n) → length (choose (leb n (length t)) u t) ≡ length t
    go (yes h) = rw (lt-leb n (length t) h)
    go (no h) = rw (le-leb n (length t) (omega arith)) (f (omega arith))

answers_length : (o : Out Dossier) (t : List ℕ) → length (table_of o t) ≡ length t
unfolding table_of
answers_length (bad e p w) t = refl
answers_length (got D q) t = by_room (length D.probes) t _ (filled_length (word_to D) (length D.probes) t)

pub table_length : (d t : List ℕ) → length (table_after d t) ≡ length t
unfolding table_after
table_length d t = answers_length (dossier d) t

numbered_length : (n : ℕ) (D : Dossier) (W : Policy) (e : Option Entry) (t : List ℕ) → n ≤ length t → length (numbered n D W e t) ≡ length t
unfolding numbered
numbered_length n D W none t h = refl
numbered_length n D W (some e) t h = filled_length (round_in D W e) n t h

rounds_at_length : (n : ℕ) (D : Dossier) (C : Certificate) (x : Outcome) (t : List ℕ) → n ≤ length t → length (rounds_at n D C x t) ≡ length t
unfolding rounds_at
rounds_at_length n D (witness W) x t h = numbered_length n D W (about D x) t h
rounds_at_length n D (proof ls) x t h = refl

proposal_length : (D : Dossier) (o : Out Certificate) (t : List ℕ) → length (rounds_proposal D o t) ≡ length t
unfolding rounds_proposal
proposal_length D (bad e p w) t = refl
proposal_length D (got C q) t = by_room (length D.labels) t _ (rounds_at_length (length D.labels) D C (judge D C) t)

read_length : (o : Out Dossier) (c t : List ℕ) → length (rounds_read o c t) ≡ length t
unfolding rounds_read
read_length (bad e p w) c t = refl
read_length (got D q) c t = proposal_length D (certificate (length D.labels) (length D.creds) c) t

pub rounds_length : (d c t : List ℕ) → length (rounds_after d c t) ≡ length t
unfolding rounds_after
rounds_length d c t = read_length (dossier d) c t
