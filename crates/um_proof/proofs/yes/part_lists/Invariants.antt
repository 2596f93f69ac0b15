use Rattle.std.proofs.Common.{◌≡◌, ℕ, ◌≤◌, take, map}
use Rattle.std.specs.Prelude.{All}
use Rattle.um_units.specs.Variables.{VariablesBelow}
use Rattle.um_check.specs.Combination.{NamesRowsBelow}
use Rattle.um_check.specs.Existence.{exponents}
use Rattle.um_check.specs.Tidy.{AreTidyParts}
use Rattle.um_proof.proofs.yes.part_lists.Given as goal

abbrev pub invariant-loop-slot : goal.invariant-loop-slot
invariant-loop-slot l = record {
  exact : map exponents l.items.items ≡ take l.slot-index l.powers;
  named : (n : ℕ) → All (VariablesBelow n) l.powers → All (NamesRowsBelow n) l.items.items;
  tidy : (n : ℕ) → n ≤ 4294967295 → All (VariablesBelow n) l.powers → All AreTidyParts l.items.items;
}
