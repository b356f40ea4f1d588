-- Each fault has its number, and each of the numbers 1 to 18 its fault. They assume nothing.
use Prim.Native.Nat.{ℕ, zero, suc, ◌≤◌, ◌+◌}
use mathlib.Core.Path.{◌≡◌, refl}
use native.Mathlib.Omega.{arith}
use denote.Enum.Declared.{tag_of}
use Rattle.reply.specs.contracts.Fault.{the_type}
use Rattle.reply.specs.declared.Fault.{Fault}
use Rattle.reply.specs.declared.Fault.TheVariants as fault
use Rattle.reply.specs.Numbers.{number, fault_of}

pub number_fault : (e : ℕ) → 1 ≤ e → e ≤ 18 → number (fault_of e) ≡ e
unfolding fault_of
number_fault zero h k = absurd (omega arith)
number_fault (suc zero) h k = refl
number_fault (suc (suc zero)) h k = refl
number_fault (suc (suc (suc zero))) h k = refl
number_fault (suc (suc (suc (suc zero)))) h k = refl
number_fault (suc (suc (suc (suc (suc zero))))) h k = refl
number_fault (suc (suc (suc (suc (suc (suc zero)))))) h k = refl
number_fault (suc (suc (suc (suc (suc (suc (suc zero))))))) h k = refl
number_fault (suc (suc (suc (suc (suc (suc (suc (suc zero)))))))) h k = refl
number_fault (suc (suc (suc (suc (suc (suc (suc (suc (suc zero))))))))) h k = refl
number_fault (suc (suc (suc (suc (suc (suc (suc (suc (suc (suc zero)))))))))) h k = refl
number_fault (suc (suc (suc (suc (suc (suc (suc (suc (suc (suc (suc zero))))))))))) h k = refl
number_fault (suc (suc (suc (suc (suc (suc (suc (suc (suc (suc (suc (suc zero)))))))))))) h k = refl
number_fault (suc (suc (suc (suc (suc (suc (suc (suc (suc (suc (suc (suc (suc zero))))))))))))) h k = refl
number_fault (suc (suc (suc (suc (suc (suc (suc (suc (suc (suc (suc (suc (suc (suc zero)))))))))))))) h k = refl
number_fault (suc (suc (suc (suc (suc (suc (suc (suc (suc (suc (suc (suc (suc (suc (suc zero))))))))))))))) h k = refl
number_fault (suc (suc (suc (suc (suc (suc (suc (suc (suc (suc (suc (suc (suc (suc (suc (suc zero)))))))))))))))) h k = refl
number_fault (suc (suc (suc (suc (suc (suc (suc (suc (suc (suc (suc (suc (suc (suc (suc (suc (suc zero))))))))))))))))) h k = refl
number_fault (suc (suc (suc (suc (suc (suc (suc (suc (suc (suc (suc (suc (suc (suc (suc (suc (suc (suc zero)))))))))))))))))) h k = refl
number_fault (suc (suc (suc (suc (suc (suc (suc (suc (suc (suc (suc (suc (suc (suc (suc (suc (suc (suc (suc e))))))))))))))))))) h k = absurd (omega arith)

-- the code's number of a fault, which counts from 1 in the order of the variants
pub tag_number : (f : Fault) → tag_of the_type f + 1 ≡ number f
tag_number fault.Ended = refl
tag_number fault.Limits = refl
tag_number fault.Atom = refl
tag_number fault.NotRising = refl
tag_number fault.Sign = refl
tag_number fault.Credential = refl
tag_number fault.FormulaWord = refl
tag_number fault.FormulaShape = refl
tag_number fault.LeftOver = refl
tag_number fault.TooLong = refl
tag_number fault.Kind = refl
tag_number fault.Rule = refl
tag_number fault.SaidTwice = refl
tag_number fault.ProbeDiffers = refl
tag_number fault.SecretKept = refl
tag_number fault.LineFails = refl
tag_number fault.LastNotEmpty = refl
tag_number fault.ShortTable = refl
