-- States whose shapes are low. This mirrors the code.
-- Source: this project's own.
use Rattle.std.specs.Prelude.{◌≡◌, true, List}
use Rattle.um_verify.specs.Rules.{low_state}
use Rattle.um_stacks.specs.FlatShapes.{flat_shapes}
use Rattle.um_stacks.specs.Stacks.{stack_at}
use Rattle.um_stacks.specs.declared.flat.FlatShape.{FlatShape}
use Rattle.um_verifier.specs.KnownImages.{known_heights}
use Rattle.um_verifier.specs.declared.known.Known.{Known}
use Rattle.um_verifier.specs.declared.table.Met.{Met}
use Rattle.um_verifier.specs.declared.table.Met.TheVariants.{Nobody, Clash, Arrived}

-- each shape is at most 400 high through the fields of records
abbrev pub AreLow : Known → List FlatShape → Type 0
AreLow known st = low_state (known_heights known) (flat_shapes st) ≡ true

-- what has arrived is low
abbrev pub IsLowMet : Known → List (List FlatShape) → Met → Type 0
IsLowMet known stacks Nobody = Unit {0}
IsLowMet known stacks Clash = Unit {0}
IsLowMet known stacks (Arrived k) = AreLow known (stack_at stacks k)
