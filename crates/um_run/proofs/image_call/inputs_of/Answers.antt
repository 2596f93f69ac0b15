use Rattle.std.proofs.Common.{All, map, sym, subst}
use Rattle.std.specs.Prelude.{string_bytes}
use Rattle.um_tree.specs.TypeTree.{shape_tree}
use Rattle.um_tree.specs.Formed.{IsFormed}
use Rattle.um_measures.specs.Known.{Known}
use Rattle.um_value.specs.ValueGrammar.{IsShapeIn}
use Rattle.um_run.specs.Reading.{AreArgumentsRead}
use Rattle.um_run.proofs.image_call.inputs_of.Goals as goal

pub read_arguments-inputs-requires-clause-formed : goal.read_arguments-inputs-requires-clause-formed
read_arguments-inputs-requires-clause-formed c = subst (λ (k : Known). IsFormed k.program) (sym c.known_names-names.ensures) c.requires.formed

pub read_arguments-inputs-requires-clause-shapes : goal.read_arguments-inputs-requires-clause-shapes
read_arguments-inputs-requires-clause-shapes c =
    subst (λ (k : Known). All (IsShapeIn k.program.records) (map shape_tree c.args.shapes.now)) (sym c.known_names-names.ensures) c.requires.shapes

pub returns-in-Ok : goal.returns-in-Ok
returns-in-Ok c =
    subst (λ (k : Known). AreArgumentsRead k (map shape_tree c.args.shapes.now) (map string_bytes c.args.texts.now) c.read_arguments-inputs.result) c.known_names-names.ensures c.read_arguments-inputs.ensures
