use Rattle.std.proofs.Common.{All, IfOk, length, subst}
use Rattle.um_tree.specs.TypeTree.{shape_tree}
use Rattle.um_tree.specs.Formed.{IsUnitIn, IsFormedInput}
use Rattle.um_tree.specs.InputType.{ValueHas}
use Rattle.um_tree.specs.ValueTree.{input_tree, without_units}
use Rattle.um_measures.specs.declared.abbreviation.Abbreviation.{Abbreviation}
use Rattle.um_measures.specs.Known.{Known}
use Rattle.um_value.specs.InputRead.{IsInputOf}
use Rattle.um_value.proofs.read.read_value.Goals as goal

pub returns-clause-exact : goal.returns-clause-exact
returns-clause-exact c =
    subst (λ (k : Known). IsInputOf k (shape_tree c.args.shape.now) c.args.text.now c.read_known_value-input.result) c.known_names-known.ensures c.read_known_value-input.ensures.exact

pub returns-clause-shaped : goal.returns-clause-shaped
returns-clause-shaped c =
    subst (λ (k : Known). IfOk c.read_known_value-input.result (λ input. ValueHas k.program.records (without_units (input_tree input)) (shape_tree c.args.shape.now))) c.known_names-known.ensures c.read_known_value-input.ensures.shaped

pub returns-clause-formed : goal.returns-clause-formed
returns-clause-formed c =
    subst (λ (k : Known). All (λ (short : Abbreviation). IsUnitIn (length k.program.bases) 0 short.unit) k.shorts → IfOk c.read_known_value-input.result (λ input. IsFormedInput (length k.program.bases) (input_tree input))) c.known_names-known.ensures c.read_known_value-input.ensures.formed
