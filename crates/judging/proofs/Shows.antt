-- Where a probe, the secret or a line stands in a sound paper's words, how many words it has, and that `shown` gives its code.
use Prim.Native.Nat.{ℕ, zero, suc, ◌+◌, ◌-◌, ◌<◌}
use mathlib.Core.Path.{◌≡◌, refl, sym, ap, ◌∙◌, subst₂}
use mathlib.Core.List.Memᴰ
use mathlib.Core.List.{List, [], ◌∷◌, ◌++◌, append_assoc, append-nil}
use mathlib.Core.Option.{some, some-injective, none-ne-some}
use native.Mathlib.Omega.{arith}
use lib.ListN.{length, take, drop, length-append}
use lib.Seq.{take-append_seam, drop-append_seam}
use Rattle.words.specs.Code.{code_list, code_all, code_many}
use Rattle.meaning.specs.Tests.{◌∈◌, at}
use Rattle.meaning.specs.Papers.{Entry, Dossier, Line, proof}
use Rattle.promise.specs.Code.{code_clause, code_marked, code_entry, code_line, code_dossier, code_certificate}
use Rattle.promise.specs.Form.{EntryForm, LineForm, DossierForm, PartsForm}
use Rattle.promise.specs.Place.{Kind, place}
use Rattle.promise.specs.Formula.{entry}
use Rattle.promise.specs.Line.{line}
use Rattle.promise.specs.Layout.{clauses_at, creds_at, probes_at, secret_at}
use Rattle.promise.proofs.Place.{place_next}
use Rattle.promise.proofs.Seen.{next_words, words_after, ends_within, Seen}
use Rattle.promise.proofs.SeenEntry.{entries_seen}
use Rattle.promise.proofs.SeenLine.{lines_seen}
use Rattle.reply.specs.Part.{part_of}
use Rattle.reply.proofs.Part.{fits}
use Rattle.judging.specs.Table.{SoundFor}

-- a thing whose code is `code` stands at p, which is there, and `shown` gives its words
pub record Stands {A : Type 0} (K : Kind A) (ws : List ℕ) (p there : ℕ) (code : List ℕ) : Type 0 where
  pub place : p ≡ there
  pub size : K.next ws p - p ≡ length code
  pub shown : part_of ws there (length code) ≡ code

module _ {A : Type 0} (K : Kind A) (code : A → List ℕ) (Form : A → Type 0) (seen : Seen K code Form) (long : (x : A) → 0 < length (code x)) (ws : List ℕ) where
  thing_stands : (p : ℕ) (x : A) (rest : List ℕ) → drop p ws ≡ code x ++ rest → Form x → Stands K ws p p (code x)
  thing_stands p x rest w f =
      record {
        place = refl;
        size = omega (arith, (seen ws p x rest w f).next);
        shown = fits ws p (length (code x)) (ends_within ws p (code x) rest (long x) w) ∙ ap (take (length (code x))) w ∙ take-append_seam (code x) rest;
      }

  -- thing k from p on, after the things before it
  each_stands : (p : ℕ) (xs : List A) (rest : List ℕ) → drop p ws ≡ code_all code xs ++ rest → ((x : A) → x ∈ xs → Form x) → (k : ℕ) (x : A) → at xs k ≡ some x
      → Stands K ws (place (K.next ws) p k) (p + length (code_all code (take k xs))) (code x)
  unfolding at place code_all
  each_stands p [] rest w f k x e = absurd (none-ne-some x e)
  each_stands p (y ∷ ys) rest w f zero x e =
      let v : drop p ws ≡ code y ++ (code_all code ys ++ rest) = w ∙ append_assoc (code y) (code_all code ys) rest in
      let z : p ≡ p + 0 = omega arith in
      subst₂ (λ (q : ℕ) (l : A). Stands K ws p q (code l)) z (some-injective y x e) (thing_stands p y (code_all code ys ++ rest) v (f y (Memᴰ.head refl)))
  each_stands p (y ∷ ys) rest w f (suc k) x e =
      let v : drop p ws ≡ code y ++ (code_all code ys ++ rest) = w ∙ append_assoc (code y) (code_all code ys) rest in
      let n : K.next ws p ≡ p + length (code y) = (seen ws p y (code_all code ys ++ rest) v (f y (Memᴰ.head refl))).next in
      let t : drop (K.next ws p) ws ≡ code_all code ys ++ rest = ap (λ (q : ℕ). drop q ws) n ∙ words_after ws p (code y) v in
      let z : K.next ws p + length (code_all code (take k ys)) ≡ p + length (code y ++ code_all code (take k ys)) = omega (arith, n, length-append (code y) (code_all code (take k ys))) in
      subst₂ (λ (q r : ℕ). Stands K ws q r (code x)) (place_next (K.next ws) p k) z (each_stands (K.next ws p) ys rest t (λ l m. f l (Memᴰ.tail m)) k x e)

-- ---- probes and the secret

entry_long : (e : Entry) → 0 < length (code_entry e)
entry_long e = omega arith

module _ (D : Dossier) (f : DossierForm D) where
  abbrev ws : List ℕ
  ws = code_dossier D

  abbrev pub entries : Kind Entry
  entries = entry (length D.labels) (length D.creds)

  abbrev Good : Entry → Type 0
  Good = EntryForm (length D.labels) (length D.creds)

  seen : Seen entries code_entry Good
  seen = entries_seen (length D.labels) (omega (arith, f.labels.few)) (length D.creds)

  at_probes : drop (probes_at D) ws ≡ code_many code_entry D.probes ++ code_many code_entry (D.secret ∷ [])
  unfolding code_dossier
  at_probes =
      words_after ws (creds_at D) (code_many code_clause D.creds)
      (words_after ws (clauses_at D) (code_many code_marked D.clauses) (drop-append_seam (code_list D.labels) _))

  pub probe_stands : (k : ℕ) (e : Entry) → at D.probes k ≡ some e → Stands entries ws (place (entries.next ws) (probes_at D + 1) k) (probes_at D + 1 + length (code_all code_entry (take k D.probes))) (code_entry e)
  probe_stands = each_stands entries code_entry Good seen entry_long ws (probes_at D + 1) D.probes _ (next_words ws (probes_at D) at_probes) f.probes.each

  pub secret_stands : Stands entries ws (secret_at D + 1) (secret_at D + 1) (code_entry D.secret)
  unfolding code_all
  secret_stands =
      thing_stands entries code_entry Good seen entry_long ws (secret_at D + 1) D.secret []
      (next_words ws (secret_at D) (words_after ws (probes_at D) (code_many code_entry D.probes) at_probes))
      f.secret

-- ---- lines

line_long : (l : Line) → 0 < length (code_line l)
line_long l = omega arith

pub line_stands : (D : Dossier) (ls : List Line) → SoundFor D (proof ls) → (k : ℕ) (l : Line) → at ls k ≡ some l
    → Stands line (code_certificate (proof ls)) (place (line.next (code_certificate (proof ls))) 2 k) (2 + length (code_all code_line (take k ls))) (code_line l)
unfolding code_certificate PartsForm
line_stands D ls g =
    let n = length D.labels in
    let m = length D.creds in
    each_stands line code_line (LineForm n m) (lines_seen n m) line_long (code_certificate (proof ls)) 2 ls [] (sym (append-nil (code_all code_line ls))) g.parts.each
