-- A dossier as numbers, and back. A type that a contract sees as a dossier or as an entry needs it, and nothing else rests on it.
use Prim.Native.Nat.{ℕ, zero, suc, ◌≤◌}
use mathlib.Core.Path.{◌≡◌, refl, ap}
use mathlib.Core.Bool.{Bool}
use mathlib.Core.List.{List, [], ◌∷◌, ◌++◌, append_assoc, append-nil}
use native.Mathlib.Omega.{arith}
use lib.ListN.{length, length-append}
use Rattle.std.specs.Coded.{Coded, code_by, coded×, coded_ℕ, coded_bool, coded_list}
use Rattle.meaning.specs.Policy.{Clause}
use Rattle.meaning.specs.Formula.{Formula, always, atom, neg, conj, disj}
use Rattle.meaning.specs.Papers.{Entry, Marked, Dossier}

abbrev pub spell : Formula → List ℕ
spell always = 0 ∷ []
spell (atom a) = 1 ∷ a ∷ []
spell (neg f) = 2 ∷ spell f
spell (conj f g) = 3 ∷ (spell f ++ spell g)
spell (disj f g) = 4 ∷ (spell f ++ spell g)

-- the formula that a list begins with, at most n numbers long, and the rest
abbrev pub parse : ℕ → List ℕ → Formula × List ℕ
parse zero l = (always, l)
parse (suc n) [] = (always, [])
parse (suc n) (zero ∷ l) = (always, l)
parse (suc n) (suc zero ∷ []) = (always, [])
parse (suc n) (suc zero ∷ (a ∷ l)) = (atom a, l)
parse (suc n) (suc (suc zero) ∷ l) = (neg (parse n l).0, (parse n l).1)
parse (suc n) (suc (suc (suc zero)) ∷ l) = (conj (parse n l).0 (parse n (parse n l).1).0, (parse n (parse n l).1).1)
parse (suc n) (suc (suc (suc (suc k))) ∷ l) = (disj (parse n l).0 (parse n (parse n l).1).0, (parse n (parse n l).1).1)

pub parsed : (f : Formula) (n : ℕ) (l : List ℕ) → length (spell f) ≤ n → parse n (spell f ++ l) ≡ (f, l)
parsed always zero l h = absurd (omega arith)
parsed (atom a) zero l h = absurd (omega arith)
parsed (neg f) zero l h = absurd (omega arith)
parsed (conj f g) zero l h = absurd (omega arith)
parsed (disj f g) zero l h = absurd (omega arith)
parsed always (suc n) l h = refl
parsed (atom a) (suc n) l h = refl
parsed (neg f) (suc n) l h = rw (parsed f n l (omega arith))
parsed (conj f g) (suc n) l h =
    let e = length-append (spell f) (spell g) in
    rw (append_assoc (spell f) (spell g) l, parsed f n (spell g ++ l) (omega arith), parsed g n l (omega arith))
parsed (disj f g) (suc n) l h =
    let e = length-append (spell f) (spell g) in
    rw (append_assoc (spell f) (spell g) l, parsed f n (spell g ++ l) (omega arith), parsed g n l (omega arith))

pub spelled : (f : Formula) → (parse (length (spell f)) (spell f)).0 ≡ f
spelled f = let e = parsed f (length (spell f)) [] (omega arith) in ap (λ (p : Formula × List ℕ). p.0) (rw append-nil at e)

abbrev pub formula_code : Coded Formula
formula_code = code_by (List ℕ) (coded_list coded_ℕ) spell (λ l. (parse (length l) l).0) spelled

abbrev pub clause_code : Coded Clause
clause_code = code_by (ℕ × List ℕ) (coded× coded_ℕ (coded_list coded_ℕ)) (λ c. (c.head, c.body)) (λ p. record { head = p.0; body = p.1 }) (λ _. refl)

abbrev pub marked_code : Coded Marked
marked_code = code_by (Bool × Clause) (coded× coded_bool clause_code) (λ m. (m.visible, m.clause)) (λ p. record { visible = p.0; clause = p.1 }) (λ _. refl)

abbrev pub entry_code : Coded Entry
entry_code = code_by (List ℕ × Formula) (coded× (coded_list coded_ℕ) formula_code) (λ e. (e.creds, e.formula)) (λ p. record { creds = p.0; formula = p.1 }) (λ _. refl)

abbrev pub dossier_code : Coded Dossier
dossier_code =
    code_by (List ℕ × (List Marked × (List Clause × (List Entry × Entry))))
    (coded× (coded_list coded_ℕ) (coded× (coded_list marked_code) (coded× (coded_list clause_code) (coded× (coded_list entry_code) entry_code))))
    (λ d. (d.labels, (d.clauses, (d.creds, (d.probes, d.secret)))))
    (λ p. record { labels = p.0; clauses = p.1.0; creds = p.1.1.0; probes = p.1.1.1.0; secret = p.1.1.1.1 })
    (λ _. refl)
