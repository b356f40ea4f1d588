-- A policy that is evaluated, as a clause sees it: the dossier's words with their layout, the certificate's, and which policy of them it is.
use Rattle.std.specs.Prelude.{ℕ, List}
use Rattle.promise.specs.declared.Layout.{Layout}
use Rattle.evaluation.specs.declared.Which.{Which}

pub record Posed : Type 0 where
  pub words : List ℕ
  pub layout : Layout
  pub witness : List ℕ
  pub which : Which
