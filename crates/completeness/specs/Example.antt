-- The worked instance: T1 of 01 is well formed, and has a proof.
use Rattle.meaning.specs.Example.{t1}
use Rattle.completeness.specs.Form.{WellFormed}
use Rattle.completeness.specs.Complete.{SomeProof}

abbrev pub T1Instance : Type 0
T1Instance = WellFormed t1 × SomeProof t1
