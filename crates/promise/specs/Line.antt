-- Literals and lines, seen at a place of the words.
use Rattle.std.specs.Prelude.{ℕ, ◌+◌, ◌≤◌, ◌<◌, List, ltb, length, get_or}
use Rattle.meaning.specs.Tests.{◌is◌, choose}
use Rattle.meaning.specs.Papers.{Statement, Literal, Rule, probe, secret, clause, assumed, credential, cut, without, resolve, Line}
use Rattle.promise.specs.Place.{part, Kind, place, many, Fit}
use Rattle.promise.specs.declared.LiteralAt.{LiteralAt}
use Rattle.promise.specs.declared.LineAt.{LineAt}

-- sign, count of credentials, credentials, count of atoms, atoms, atom
abbrev pub atoms_at : List ℕ → ℕ → ℕ
atoms_at ws p = p + 2 + get_or ws (p + 1) 0

abbrev pub literal_at : List ℕ → ℕ → LiteralAt
literal_at ws p =
    record {
      positive = get_or ws p 0 is 1;
      creds = p + 2;
      ncreds = get_or ws (p + 1) 0;
      atoms = atoms_at ws p + 1;
      natoms = get_or ws (atoms_at ws p) 0;
      atom = get_or ws (atoms_at ws p + 1 + get_or ws (atoms_at ws p) 0) 0;
      next = atoms_at ws p + 1 + get_or ws (atoms_at ws p) 0 + 1;
    }

-- the statement and the literal that a view is of
abbrev pub said_of : List ℕ → LiteralAt → Statement
said_of ws v = record { creds = part ws v.creds v.ncreds; atoms = part ws v.atoms v.natoms; atom = v.atom }

abbrev pub literal_of : List ℕ → LiteralAt → Literal
literal_of ws v = record { positive = v.positive; said = said_of ws v }

-- the words of its two lists are there
pub record Held (ws : List ℕ) (v : LiteralAt) : Type 0 where
  pub creds : v.creds + v.ncreds ≤ length ws
  pub atoms : v.atoms + v.natoms ≤ length ws

abbrev pub literal : Kind Literal
literal = record { read = λ ws p. literal_of ws (literal_at ws p); next = λ ws p. (literal_at ws p).next; ok = λ ws p. (literal_at ws p).next ≤ length ws }

-- how many data words a rule has: 1, none, 2, 1, 2, 2, 4, 4
unfoldable pub data_count : ℕ → ℕ
data_count r = choose (ltb r 3) (choose (r is 1) 1 0) (choose (r is 4) 1 (choose (ltb r 7) 2 4))

-- rule, data words, count of literals, literals
abbrev pub line_at : List ℕ → ℕ → LineAt
line_at ws p =
    record {
      rule = get_or ws p 0;
      args = p + 1;
      literals = p + 1 + data_count (get_or ws p 0) + 1;
      count = get_or ws (p + 1 + data_count (get_or ws p 0)) 0;
    }

-- rule number r with its data words from p on
unfoldable pub rule_of : List ℕ → ℕ → ℕ → Rule
rule_of ws r p =
    choose (r is 1) (probe (get_or ws p 0))
    (choose (r is 2) secret
    (choose (r is 3) (clause (get_or ws p 0) (get_or ws (p + 1) 0))
    (choose (r is 4) (assumed (get_or ws p 0))
    (choose (r is 5) (credential (get_or ws p 0) (get_or ws (p + 1) 0))
    (choose (r is 6) (cut (get_or ws p 0) (get_or ws (p + 1) 0))
    (choose (r is 7) (without (get_or ws p 0) (get_or ws (p + 1) 0) (get_or ws (p + 2) 0) (get_or ws (p + 3) 0))
    (resolve (get_or ws p 0) (get_or ws (p + 1) 0) (get_or ws (p + 2) 0) (get_or ws (p + 3) 0))))))))

abbrev pub literals_of : List ℕ → LineAt → List Literal
literals_of ws v = many literal ws v.literals v.count

abbrev pub line_of : List ℕ → LineAt → Line
line_of ws v = record { rule = rule_of ws v.rule v.args; literals = literals_of ws v }

pub record LineFits (ws : List ℕ) (p : ℕ) : Type 0 where
  pub rule : 0 < (line_at ws p).rule
  pub head : (line_at ws p).literals ≤ length ws
  pub literals : Fit literal ws (line_at ws p).literals (line_at ws p).count

abbrev pub line : Kind Line
line = record { read = λ ws p. line_of ws (line_at ws p); next = λ ws p. place (literal.next ws) (line_at ws p).literals (line_at ws p).count; ok = LineFits }
