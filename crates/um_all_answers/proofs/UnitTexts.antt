-- A unit text among other tokens, and the unit that it stands for.
use Rattle.std.proofs.Common.{◌≡◌, ℕ, ◌≤◌, List, ◌++◌, Option}
use Rattle.um_units.specs.PowerMap.{PowerMap}
use Rattle.um_syntax.specs.declared.token.Token.{Token}
use Rattle.um_tree.specs.RawTree.{UnitSyntax}
use Rattle.um_tree.specs.Heights.{unit_height}
use Rattle.um_unit_texts.specs.UnitGrammar.{IsUnit}
use Rattle.um_all_answers.proofs.BareUnits.{IsResolved}

-- the tokens up to the rest are a unit text that stands for the unit
pub record IsUnitOf (measures : List ℕ → Option PowerMap) (u : PowerMap) (tokens rest : List Token) : Type 0 where
  pub inside : List Token
  pub cut : tokens ≡ inside ++ rest
  pub syntax : UnitSyntax
  pub is : IsUnit inside syntax
  pub resolved : IsResolved measures syntax u
  pub low : unit_height syntax ≤ 400
