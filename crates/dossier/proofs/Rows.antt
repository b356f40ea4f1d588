-- When the reader of a dossier's sections refuses: exactly where a row says so.
use Prim.Native.Nat.{ℕ, suc, ◌+◌, ◌<◌, ◌≤◌}
use mathlib.Core.Path.{◌≡◌, refl, sym, ap, ◌∙◌, subst, subst₂}
use mathlib.Core.Bool.{Bool, true, false}
use mathlib.Core.List.Memᴰ
use mathlib.Core.List.{List, [], ◌∷◌, ◌++◌, append-nil}
use native.Mathlib.Omega.{arith}
use lib.Dec.{leb}
use lib.ListN.{length, get_or, drop, length-append, drop_of_length-le}
use borrow.Author.Tests.{leb-true, leb-false, le-leb, lt-leb}
use Rattle.words.specs.Out.{Out, got, bad, then, need, after}
use Rattle.words.specs.Code.{code_list, code_all, code_many}
use Rattle.words.specs.Read.{Any, listed, section}
use Rattle.words.proofs.Promise.{OK, fine, none, ok_then, ok_need, Spans, spans_word, Reads, reads_as, reads_ranged, reads_listed, reads_section}
use Rattle.words.proofs.Parts.{reads_after}
use Rattle.promise.specs.Code.{code_marked, code_clause, code_entry}
use Rattle.promise.specs.Form.{SectionForm, LabelsForm, ClausesForm, CredsForm, ProbesForm}
use Rattle.promise.specs.Due.{What, one, count, InSection, InEntry, InLabels, InClauses, InCreds, InProbes, InSecret, InDossier}
use Rattle.promise.specs.Table.{FormRow}
use Rattle.promise.proofs.Refused.{Why, because, Stops, went, stops, Refuses, refuses_as, refuses_made, refuses_after, Seq, first, second, refuses_then, Only, only}
use Rattle.promise.proofs.Due.{refuses_count, refuses_labels, refuses_section}
use Rattle.dossier.specs.Read.{secret, ended, sections}
use Rattle.dossier.proofs.Items.{reads_clause, reads_marked, reads_entry}
use Rattle.dossier.proofs.Refusals.{refuses_clause, refuses_marked, refuses_entry}

pub reads_labels : Reads (listed 1 65 Any) code_list LabelsForm
reads_labels =
    reads_as (reads_listed 1 65 Any) (λ l f. refl) (λ l. (λ f. record { some = f.0; few = omega (arith, f.1); rising = f.2 }, λ f. (f.some, omega (arith, f.few), f.rising, λ x m. tt)))

-- a section that is read as the part from its place on
module _ {A : Type 0} {r : List ℕ → ℕ → Out A} {code : A → List ℕ} {Form : A → Type 0} (lo hi : ℕ) (R : Reads r code Form) where
  pub reads_part : Reads (after (section lo (suc hi) r)) (code_many code) (SectionForm lo hi Form)
  reads_part = reads_as (reads_after (reads_section R lo (suc hi))) (λ xs f. refl) (λ xs. (λ f. record { least = f.0; most = omega (arith, f.1); each = f.2 }, λ f. (f.least, omega (arith, f.most), f.each)))

  pub refuses_part : {In : List ℕ → What → Type 0} → Refuses r In → Refuses (after (section lo (suc hi) r)) (InSection lo hi code Form In)
  refuses_part S = refuses_after (refuses_section R S lo hi)

-- the secret: a section of one
module _ (n m : ℕ) where
  refuses_secret : n ≤ 256 → Refuses (secret n m) (InSecret n m)
  unfolding secret code_all
  refuses_secret small = refuses_as (refuses_then {f = λ k q ws p. _} (reads_ranged 1 2 2) (refuses_count 1 1) (λ k q f. refuses_entry n m small)) to from
    where
      to : (us : List ℕ) (what : What) → Seq (Only (one (count 1 1))) (λ k. k ∷ []) (λ k. (1 ≤ k) × (k < 2)) (λ k. InEntry n m) us what → InSecret n m us what
      to us what (first only) = InSection.size
      to us what (second k f d) = InSection.more k [] f.0 (omega (arith, f.1)) (omega (arith, f.0)) (λ x i. absurd (Memᴰ.not-nil i)) d

      from : (us : List ℕ) (what : What) → InSecret n m us what → Seq (Only (one (count 1 1))) (λ k. k ∷ []) (λ k. (1 ≤ k) × (k < 2)) (λ k. InEntry n m) us what
      from us what InSection.size = first only
      from us what (InSection.more k [] a b l g d) = second k (a, omega arith) d
      from us what (InSection.more k (x ∷ xs) a b l g d) = absurd (omega arith)

-- ---- the sections in turn

module _ (n : ℕ) where
  abbrev FromProbes : ℕ → List ℕ → What → Type 0
  FromProbes m = Seq (InProbes n m) (code_many code_entry) (ProbesForm n m) (λ es. InSecret n m)

  abbrev FromCreds : List ℕ → What → Type 0
  FromCreds = Seq (InCreds n) (code_many code_clause) (CredsForm n) (λ ks. FromProbes (length ks))

  abbrev FromClauses : List ℕ → What → Type 0
  FromClauses = Seq (InClauses n) (code_many code_marked) (ClausesForm n) (λ cs. FromCreds)

abbrev FromLabels : List ℕ → What → Type 0
FromLabels = Seq InLabels code_list LabelsForm (λ ls. FromClauses (length ls))

sections_to : (us : List ℕ) (what : What) → FromLabels us what → InDossier us what
sections_to us what (first d) = InDossier.labels d
sections_to us what (second ls f (first d)) = InDossier.clauses ls f d
sections_to us what (second ls f (second cs g (first d))) = InDossier.creds ls cs f g d
sections_to us what (second ls f (second cs g (second ks h (first d)))) = InDossier.probes ls cs ks f g h d
sections_to us what (second ls f (second cs g (second ks h (second es i d)))) = InDossier.secret ls cs ks es f g h i d

sections_from : (us : List ℕ) (what : What) → InDossier us what → FromLabels us what
sections_from us what (InDossier.labels d) = first d
sections_from us what (InDossier.clauses ls f d) = second ls f (first d)
sections_from us what (InDossier.creds ls cs f g d) = second ls f (second cs g (first d))
sections_from us what (InDossier.probes ls cs ks f g h d) = second ls f (second cs g (second ks h (first d)))
sections_from us what (InDossier.secret ls cs ks es f g h i d) = second ls f (second cs g (second ks h (second es i d)))

pub refuses_sections : Refuses sections InDossier
unfolding sections
refuses_sections =
    refuses_as
    (refuses_then {f = λ ls p ws q. _} reads_labels refuses_labels (λ ls p f.
    let n = length ls in
    let small : n ≤ 256 = omega (arith, f.few) in
    refuses_then {f = λ cs p ws q. _} (reads_part 0 128 (reads_marked n)) (refuses_part 0 128 (reads_marked n) (refuses_marked n)) (λ cs p g.
    refuses_then {f = λ ks p ws q. _} (reads_part 0 32 (reads_clause n)) (refuses_part 0 32 (reads_clause n) (refuses_clause n)) (λ ks p h.
    let m = length ks in
    refuses_then {f = λ es p ws q. _} (reads_part 0 64 (reads_entry n m small)) (refuses_part 0 64 (reads_entry n m small) (refuses_entry n m small)) (λ es p i.
    refuses_made (refuses_after (refuses_secret n m small)) (λ ws at s. record { labels = ls; clauses = cs; creds = ks; probes = es; secret = s }))))))
    sections_to sections_from

-- ---- a whole paper, and no word after it

module _ {A : Type 0} {r : List ℕ → ℕ → Out A} {code : A → List ℕ} {Form : A → Type 0} (R : Reads r code Form) where
  -- what is accepted, to the last word
  pub ok_whole : (ws : List ℕ) → OK (λ x p. (ws ≡ code x) × Form x) (then (r ws 0) (λ x p. ended ws x p))
  unfolding ended
  ok_whole ws =
      ok_then _ (R.sound ws 0) (λ x p s.
      ok_need (leb (length ws) p) _ _ (λ b.
      fine (s.0.words ∙ ap (λ (l : List ℕ). code x ++ l) (drop_of_length-le ws (leb-true _ _ b)) ∙ append-nil (code x), s.1)))

  pub exact_whole : (x : A) → Form x → then (r (code x) 0) (λ y p. ended (code x) y p) ≡ got x (length (code x))
  unfolding ended
  exact_whole x f =
      let w = code x in
      let e : r w 0 ≡ got x (0 + length w) = R.exact w 0 x [] (sym (append-nil w)) f in
      let z : 0 + length w ≡ length w = omega arith in
      let h : length w ≤ length w = omega arith in
      rw (e, z, le-leb (length w) (length w) h)

module _ {A : Type 0} {r : List ℕ → ℕ → Out A} {code : A → List ℕ} {Form : A → Type 0} {Due : List ℕ → What → Type 0} (R : Reads r code Form) (S : Refuses r Due) (ws : List ℕ) where
  abbrev Row : ℕ → ℕ → List ℕ → Type 0
  Row = FormRow Due (λ us. (x : A) × Form x × (us ≡ code x)) ws

  left_over_lem : (x : A) (p : ℕ) → Spans ws 0 (code x) p → Form x → (b : Bool) → leb (length ws) p ≡ b → {e q w : ℕ} → need b 9 p (got x p) ≡ bad e q w → (us : List ℕ) × Row e q us × (w ≡ length us)
  left_over_lem x p s f true l h = absurd (let z : ◌≡◌ {A = ℕ} 0 1 = cc in omega arith)
  left_over_lem x p s f false l {e} {q} {w} h =
      let a : 9 ≡ e = cc in
      let b : length (code x) ≡ q = let y : p ≡ q = cc in omega (arith, s.next) in
      let c : w ≡ 1 = cc in
      let v : ws ≡ code x ++ (get_or ws p 0 ∷ drop (p + 1) ws) = s.words ∙ ap (λ (l : List ℕ). code x ++ l) (spans_word ws p (leb-false _ _ l)).words in
      (get_or ws p 0 ∷ [], subst₂ (λ (i j : ℕ). Row i j (get_or ws p 0 ∷ [])) a b (FormRow.left_over (code x) (get_or ws p 0) (drop (p + 1) ws) v (x, f, refl)), c)

  due_row : {e p w : ℕ} → Why Due ws 0 e p w → (us : List ℕ) × Row e p us × (w ≡ length us)
  due_row {e} {p} (because us rest {what = what} {q = q} {shown = shown} v d f z c) =
      let k : length us + q ≡ p = omega (arith, z) in
      (shown, subst (λ (i : ℕ). Row e i shown) k (FormRow.due us rest what v d f), c)

  -- a refusal is that of a row
  pub refused_row : {e p w : ℕ} → then (r ws 0) (λ x p. ended ws x p) ≡ bad e p w → (us : List ℕ) × Row e p us × (w ≡ length us)
  unfolding ended
  refused_row {e} {p} {w} h = go (R.sound ws 0) (S.why ws 0 (omega arith)) h
    where
      go : {o : Out A} → OK (λ x q. Spans ws 0 (code x) q × Form x) o → Stops Due ws 0 o → then o (λ x p. ended ws x p) ≡ bad e p w → (us : List ℕ) × Row e p us × (w ≡ length us)
      go (fine {v = x} {p = q} s) went k = left_over_lem x q s.0 s.1 (leb (length ws) q) refl k
      go none (stops {e = i} {p = q} {w = j} y) k =
          let a : i ≡ e = cc in
          let b : q ≡ p = cc in
          let c : j ≡ w = cc in
          let (us, t, n) = due_row y in
          (us, subst₂ (λ (i j : ℕ). Row i j us) a b t, sym c ∙ n)

  -- and every row refuses
  pub row_refused : {e p : ℕ} {us : List ℕ} → Row e p us → then (r ws 0) (λ x p. ended ws x p) ≡ bad e p (length us)
  unfolding ended
  row_refused (FormRow.due us rest what {q = q} v d f) =
      let z : length us + q ≡ 0 + length us + q = omega arith in
      ap (λ (o : Out A). then o (λ x p. ended ws x p)) (S.so ws 0 (omega arith) (because us rest v d f z refl))
  row_refused (FormRow.left_over us y rest v (x, f, z)) =
      let k : ws ≡ code x ++ (y ∷ rest) = v ∙ ap (λ (l : List ℕ). l ++ (y ∷ rest)) z in
      let i : 0 + length (code x) < length ws = omega (arith, ap length k, length-append (code x) (y ∷ rest)) in
      let j : 0 + length (code x) ≡ length us = omega (arith, ap length z) in
      ap (λ (o : Out A). then o (λ x p. ended ws x p)) (R.exact ws 0 x (y ∷ rest) k f) ∙ simp (lt-leb _ _ i) (ap (λ (l : ℕ). bad 9 l 1) j)
