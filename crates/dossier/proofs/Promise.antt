-- The theorems of specs/Promise.antt, each under its name in small letters.
use Prim.Native.Nat.{ℕ, ◌≤◌}
use mathlib.Core.Path.{◌≡◌, refl, sym, ap}
use mathlib.Core.List.{List, [], ◌∷◌, ◌++◌, append-nil}
use native.Mathlib.Omega.{arith}
use lib.ListN.{length}
use Rattle.words.specs.Code.{code_list, code_all, code_many}
use Rattle.words.proofs.Promise.{ok_got, Reads, reads_as, reads_bind, reads_made, reads_ranged, decoded_once}
use Rattle.words.proofs.Sections.{told_part}
use Rattle.words.proofs.Parts.{reads_after}
use Rattle.promise.specs.Code.{code_marked, code_clause, code_entry, code_dossier}
use Rattle.promise.specs.Form.{EntryForm, DossierForm}
use Rattle.dossier.specs.Read.{clause, marked, entry, secret, sections, dossier}
use Rattle.dossier.specs.Promise.{DossierSound, DossierAccepted, DossierOnce, DossierShows, DossierRows, SectionsTold, DossierLongest}
use Rattle.dossier.proofs.Items.{reads_clause, reads_marked, reads_entry}
use Rattle.dossier.proofs.Rows.{reads_labels, reads_part, refuses_sections, ok_whole, exact_whole, refused_row, row_refused}
use Rattle.dossier.proofs.Longest.{dossier_most, dossier_full}

-- the secret after its count, which is 1
reads_secret : (n m : ℕ) → n ≤ 256 → Reads (secret n m) (λ e. 1 ∷ code_entry e) (EntryForm n m)
unfolding secret
reads_secret n m small =
    reads_as
    (reads_bind (reads_ranged 1 2 2) {code_c = λ k e. code_entry e} {Keep = λ e. Unit {0}} {FormC = λ k e. EntryForm n m e} (λ e. 1) (λ k f. reads_as (reads_entry n m small) (λ e g. refl) (λ e. (λ g. ((omega (arith, f.0, f.1), tt), g), λ g. g.1))))
    (λ e f. refl)
    (λ e. (λ f. f.1.1, λ f. (tt, ((omega arith, omega arith), f))))

-- ---- the sections in turn

reads_sections : Reads sections code_dossier DossierForm
unfolding sections code_dossier code_all
reads_sections =
    reads_as
    (reads_bind reads_labels (λ D. D.labels) (λ ls f.
    let n = length ls in
    let small : n ≤ 256 = omega (arith, f.few) in
    reads_bind (reads_part 0 128 (reads_marked n)) (λ D. D.clauses) (λ cs g.
    reads_bind (reads_part 0 32 (reads_clause n)) (λ D. D.creds) (λ ks h.
    reads_bind (reads_part 0 64 (reads_entry n (length ks) small)) (λ D. D.probes) (λ es j.
    reads_made (reads_after (reads_secret n (length ks) small)) (λ s. record { labels = ls; clauses = cs; creds = ks; probes = es; secret = s }) (λ D. D.secret)
    (λ D. (D.probes ≡ es) × ((D.creds ≡ ks) × ((D.clauses ≡ cs) × ((D.labels ≡ ls) × Unit {0}))))
    (λ s k. (refl, (refl, (refl, (refl, tt))))) (λ s k. refl)
    (λ D k. λ i. record { labels = sym k.1.1.1.0 i; clauses = sym k.1.1.0 i; creds = sym k.1.0 i; probes = sym k.0 i; secret = D.secret }))))))
    (λ D f. ap (λ (l : List ℕ). code_list D.labels ++ (code_many code_marked D.clauses ++ (code_many code_clause D.creds ++ (code_many code_entry D.probes ++ 1 ∷ l)))) (sym (append-nil (code_entry D.secret))))
    (λ D. (
      λ f. record { labels = f.1.0; clauses = f.1.1.0; creds = f.1.1.1.0; probes = f.1.1.1.1.0; secret = f.1.1.1.1.1 },
      λ f. (tt, (f.labels, (f.clauses, (f.creds, (f.probes, f.secret))))),
    ))

-- ---- the theorems

pub dossier_sound : DossierSound
unfolding dossier
dossier_sound ws D p e = ok_got (ok_whole reads_sections ws) e

pub dossier_accepted : DossierAccepted
unfolding dossier
dossier_accepted D f = exact_whole reads_sections D f

pub dossier_once : DossierOnce
dossier_once D E f g e = decoded_once reads_sections D E [] [] (ap (λ (l : List ℕ). l ++ []) e) f g

pub dossier_shows : DossierShows
unfolding dossier
dossier_shows ws e p w h = refused_row reads_sections refuses_sections ws h

pub dossier_rows : DossierRows
unfolding dossier
dossier_rows ws e p us row = row_refused reads_sections refuses_sections ws row

pub sections_told : SectionsTold
sections_told lo hi ws p = (λ n. told_part (marked n) lo hi ws p, λ n. told_part (clause n) lo hi ws p, λ n m. told_part (entry n m) lo hi ws p)

pub dossier_longest : DossierLongest
dossier_longest = (dossier_most, dossier_full)
