-- What request A2 left as it was, over words. (Meaning's `FalseAsDenied` says what it changed, on decoded papers: a denied formula may pass the limits of form.)
use Rattle.std.specs.Prelude.{◌≡◌, List, ℕ, length}
use Rattle.meaning.specs.Papers.{Dossier, policy, Yes}
use Rattle.meaning.specs.Former.{former_judge}
use Rattle.promise.specs.Code.{code_dossier}
use Rattle.promise.specs.Form.{DossierForm}
use Rattle.dossier.specs.Read.{dossier}
use Rattle.reply.specs.declared.Reply.{Reply}
use Rattle.judging.specs.Entries.{Judging}
use Rattle.judging.specs.Demands.{Tabled}
use Rattle.judging.specs.Judge.{judge_read}

-- the reply before the request, with a table lent for so many words (A5, which came later)
unfoldable pub former_of : List ℕ → List ℕ → ℕ → Reply
former_of d c room = judge_read former_judge d (dossier d) c room

-- of whatever keeps to the table: on a sound dossier whose secret is true in its policy every reply is what it was before
abbrev pub RepliesKept : Type 0
RepliesKept =
    (f : Judging) → Tabled f → (D : Dossier) → DossierForm D → Yes D (policy D) D.secret
    → (c t : List ℕ) → (f (code_dossier D) c t).reply ≡ former_of (code_dossier D) c (length t)
