-- What is wrong with the papers: the number of each fault, and the fault of each number.
use Rattle.std.specs.Prelude.{◌≡◌, refl, ℕ, ◌-◌, List, [], ◌∷◌, get_or}
use Rattle.reply.specs.declared.Fault.{Fault}
use Rattle.reply.specs.declared.Fault.TheVariants as fault

-- 'refused with its number': the table's numbers, 1 to 18
abbrev pub number : Fault → ℕ
number fault.Ended = 1
number fault.Limits = 2
number fault.Atom = 3
number fault.NotRising = 4
number fault.Sign = 5
number fault.Credential = 6
number fault.FormulaWord = 7
number fault.FormulaShape = 8
number fault.LeftOver = 9
number fault.TooLong = 10
number fault.Kind = 11
number fault.Rule = 12
number fault.SaidTwice = 13
number fault.ProbeDiffers = 14
number fault.SecretKept = 15
number fault.LineFails = 16
number fault.LastNotEmpty = 17
number fault.ShortTable = 18

abbrev faults : List Fault
faults =
    fault.Ended ∷ fault.Limits ∷ fault.Atom ∷ fault.NotRising ∷ fault.Sign ∷ fault.Credential ∷ fault.FormulaWord ∷ fault.FormulaShape ∷ fault.LeftOver
    ∷ fault.TooLong ∷ fault.Kind ∷ fault.Rule ∷ fault.SaidTwice ∷ fault.ProbeDiffers ∷ fault.SecretKept ∷ fault.LineFails ∷ fault.LastNotEmpty ∷ fault.ShortTable ∷ []

-- the fault that a number tells; a number that is no fault's tells the first
unfoldable pub fault_of : ℕ → Fault
fault_of e = get_or faults (e - 1) fault.Ended

-- a fault is the one that its number tells: what `Tells` asks of it
pub fault_number : (f : Fault) → fault_of (number f) ≡ f
unfolding fault_of
fault_number fault.Ended = refl
fault_number fault.Limits = refl
fault_number fault.Atom = refl
fault_number fault.NotRising = refl
fault_number fault.Sign = refl
fault_number fault.Credential = refl
fault_number fault.FormulaWord = refl
fault_number fault.FormulaShape = refl
fault_number fault.LeftOver = refl
fault_number fault.TooLong = refl
fault_number fault.Kind = refl
fault_number fault.Rule = refl
fault_number fault.SaidTwice = refl
fault_number fault.ProbeDiffers = refl
fault_number fault.SecretKept = refl
fault_number fault.LineFails = refl
fault_number fault.LastNotEmpty = refl
fault_number fault.ShortTable = refl
