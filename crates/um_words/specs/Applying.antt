-- What an operation on one value gives.
-- Source: this project's own.
use Rattle.std.specs.Prelude.{Result}
use Rattle.um_tree.specs.ValueTree.{ValueTree}
use Rattle.um_tree.specs.Meaning.{Stop, negated, not_of, raised}
use Rattle.um_machine.specs.Machine.{part_of}
use Rattle.um_words.specs.declared.operations.Unary.{Unary}
use Rattle.um_words.specs.declared.operations.Unary.TheVariants as unary

abbrev pub applied : Unary → ValueTree → Result ValueTree Stop
applied unary.Negate v = negated v
applied unary.Not v = not_of v
applied (unary.Power k) v = raised k v
applied (unary.Part k) v = part_of k v
