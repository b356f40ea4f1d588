-- `words::item::section_after` meets its contract: the part answers, and its places are moved by where it begins.
use native.Mathlib.Omega.{arith}
use mathlib.Core.Path.{sym}
use Rattle.words.proofs.Sections.{part_refused, part_passed}
use Rattle.words.proofs.item.section_after.Goals as goal

pub overflow_add-result : goal.overflow_add-result
overflow_add-result g c = omega (arith, (part_refused _ _ _ _ _ c.requires c.section_of.ensures c.in-Err.is).0)

pub overflow_add-result-in-Ok : goal.overflow_add-result-in-Ok
overflow_add-result-in-Ok g c = omega (arith, (part_passed _ _ _ _ _ c.requires c.section_of.ensures c.in-Ok.is).0)

pub returns-in-Err : goal.returns-in-Err
returns-in-Err g c = let a = part_refused _ _ _ _ _ c.requires c.section_of.ensures c.in-Err.is in (sym a.1, tt)

pub returns-in-Ok : goal.returns-in-Ok
returns-in-Ok g c = let a = part_passed _ _ _ _ _ c.requires c.section_of.ensures c.in-Ok.is in (sym a.1, a.0)
