-- What a row of form shows: its number is 1 to 13, and the words that it names lie at its place.
use Prim.Native.Nat.{ℕ, suc, ◌+◌, ◌≤◌}
use mathlib.Core.Path.{◌≡◌, refl, sym, ap, ◌∙◌, subst}
use mathlib.Core.List.{List, [], ◌∷◌, ◌++◌, append_assoc}
use native.Mathlib.Omega.{arith}
use lib.ListN.{length, take, drop, length-append}
use lib.Seq.{drop-append_seam, drop-drop}
use Rattle.words.specs.Code.{code_list}
use Rattle.promise.specs.Due.{Word, What}
use Rattle.promise.specs.Table.{Wrong, Fault, FormRow, CertificateRow}

-- of the words ws: the number, the place and the words shown
pub record Shows (ws : List ℕ) (e p : ℕ) (shown : List ℕ) : Type 0 where
  pub least : 1 ≤ e
  pub most : e ≤ 13
  pub inside : p + length shown ≤ length ws
  pub words : take (length shown) (drop p ws) ≡ shown

shows_word : {x e : ℕ} {rest : List ℕ} → 1 ≤ e → e ≤ 13 → Shows (x ∷ rest) e 0 (x ∷ [])
shows_word a b = record { least = a; most = b; inside = omega arith; words = refl }

shows_none : {e p : ℕ} {ws : List ℕ} → 1 ≤ e → e ≤ 13 → p ≤ length ws → Shows ws e p []
shows_none a b h = record { least = a; most = b; inside = omega arith; words = refl }

-- what is shown of a part is shown of the whole
shows_behind : {ws : List ℕ} (us rest : List ℕ) {e q : ℕ} {shown : List ℕ} → ws ≡ us ++ rest → Shows rest e q shown → Shows ws e (length us + q) shown
shows_behind {ws} us rest {q = q} {shown} v s =
    record {
      least = s.least;
      most = s.most;
      inside = omega (arith, s.inside, ap length v, length-append us rest);
      words = ap (λ (l : List ℕ). take (length shown) l) (ap (drop (length us + q)) v ∙ after) ∙ s.words;
    }
  where
    after : drop (length us + q) (us ++ rest) ≡ drop q rest
    after = sym (drop-drop q (length us) (us ++ rest)) ∙ ap (drop q) (drop-append_seam us rest)

-- a word x of a formula, after the words us
in_formula : (us : List ℕ) (x : ℕ) (fs rest : List ℕ) {e : ℕ} → 1 ≤ e → e ≤ 13 → Shows (code_list (us ++ (x ∷ fs)) ++ rest) e (1 + length us) (x ∷ [])
in_formula us x fs rest {e} a b =
    let len : ℕ = length (us ++ (x ∷ fs)) in
    let z : suc (length us) + 0 ≡ 1 + length us = omega arith in
    subst (λ (q : ℕ). Shows (code_list (us ++ (x ∷ fs)) ++ rest) e q (x ∷ [])) z
    (shows_behind (len ∷ us) (x ∷ (fs ++ rest)) (ap (λ (l : List ℕ). len ∷ l) (append_assoc us (x ∷ fs) rest)) (shows_word a b))

wrong_number : {w : Word} {x e : ℕ} → Wrong w x e → (1 ≤ e) × (e ≤ 13)
wrong_number (Wrong.limits f) = (omega arith, omega arith)
wrong_number (Wrong.no_atom h) = (omega arith, omega arith)
wrong_number (Wrong.label_order h) = (omega arith, omega arith)
wrong_number (Wrong.atom_order h i) = (omega arith, omega arith)
wrong_number (Wrong.cred_order h i) = (omega arith, omega arith)
wrong_number (Wrong.no_mark h) = (omega arith, omega arith)
wrong_number (Wrong.no_cred h) = (omega arith, omega arith)
wrong_number (Wrong.no_kind f g) = (omega arith, omega arith)
wrong_number (Wrong.no_rule f) = (omega arith, omega arith)

fault_shows : {what : What} {rest : List ℕ} {e q : ℕ} {shown : List ℕ} → Fault what rest e q shown → Shows rest e q shown
fault_shows Fault.ended = shows_none (omega arith) (omega arith) (omega arith)
fault_shows (Fault.word f) = let n = wrong_number f in shows_word n.0 n.1
fault_shows (Fault.no_length f) = let n = wrong_number f in shows_word n.0 n.1
fault_shows (Fault.few_remain a b h) = shows_none (omega arith) (omega arith) (omega arith)
fault_shows (Fault.high {x = x} us fs rest l o h i) = in_formula us x fs rest (omega arith) (omega arith)
fault_shows (Fault.unknown {x = x} us fs rest l o h) = in_formula us x fs rest (omega arith) (omega arith)
fault_shows (Fault.too_deep us fs rest l o) = shows_word (omega arith) (omega arith)
fault_shows (Fault.complete f x fs rest l g) = shows_word (omega arith) (omega arith)
fault_shows (Fault.needs fs rest l o) = shows_word (omega arith) (omega arith)
fault_shows (Fault.twice l x rest f i h) = shows_word (omega arith) (omega arith)

pub row_shows : {Due : List ℕ → What → Type 0} {Whole : List ℕ → Type 0} {ws : List ℕ} {e p : ℕ} {shown : List ℕ} → FormRow Due Whole ws e p shown → Shows ws e p shown
row_shows (FormRow.due us rest what v d f) = shows_behind us rest v (fault_shows f)
row_shows {ws = ws} (FormRow.left_over us x rest v w) =
    let z : length us + 0 ≡ length us = omega arith in
    subst (λ (q : ℕ). Shows ws 9 q (x ∷ [])) z (shows_behind us (x ∷ rest) v (shows_word (omega arith) (omega arith)))

pub certificate_shows_lem : {n m : ℕ} {ws : List ℕ} {e p : ℕ} {shown : List ℕ} → CertificateRow n m ws e p shown → Shows ws e p shown
certificate_shows_lem (CertificateRow.long h) = shows_none (omega arith) (omega arith) (omega arith)
certificate_shows_lem (CertificateRow.form h r) = row_shows r
