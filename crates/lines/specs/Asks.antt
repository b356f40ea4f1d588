-- What rules 6, 7 and 8 ask of the things that their data words name.
use Rattle.std.specs.Prelude.{ℕ, Bool, not, List}
use Rattle.meaning.specs.Tests.{◌and◌, ◌or◌, ◌is◌, all, mem, at, named}
use Rattle.meaning.specs.Policy.{Clause}
use Rattle.meaning.specs.Papers.{Statement, Literal}
use Rattle.meaning.specs.Rules.{same_statement, is_in, denied, claims, omit, others}

-- a credential is one of the statement's own, or its head is denied
unfoldable pub covered_cred : List Clause → List Literal → Statement → ℕ → Bool
covered_cred cs ls s x = mem x s.creds or named (at cs x) λ c. denied ls s c.head

-- rule 6, of l and m, all but the credentials
unfoldable pub cuts : List Literal → Literal → Literal → Bool
cuts ls l m = l.positive and not m.positive and l.said.atom is m.said.atom and all (λ x. mem x l.said.atoms or denied ls l.said x) m.said.atoms

-- rule 7, of credential d, whose number is c, and m, l and h
unfoldable pub withouts : Clause → ℕ → Literal → Literal → Literal → Bool
withouts d c m l h =
    not m.positive and mem c m.said.creds
    and claims (omit c m.said.creds) m.said.atoms l and l.said.atom is m.said.atom
    and claims (omit c m.said.creds) m.said.atoms h and mem h.said.atom d.body

-- rule 8, of p, which is number i of us, and q, which is number j of vs
unfoldable pub resolves : List Literal → List Literal → ℕ → Literal → List Literal → ℕ → Literal → Bool
resolves ls us i p vs j q =
    p.positive and not q.positive and same_statement p.said q.said
    and all (is_in ls) (others us i) and all (is_in ls) (others vs j)
