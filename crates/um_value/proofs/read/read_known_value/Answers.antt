use Rattle.um_value.specs.KnownNames.{known_in}
use Rattle.um_tree.specs.TypeTree.{shape_tree}
use Rattle.um_value.proofs.ValueParts.{read_shaped, read_formed}
use Rattle.um_value.proofs.read.read_known_value.Goals as goal

pub returns-clause-shaped : goal.returns-clause-shaped
returns-clause-shaped c =
    let known = known_in c.args.known.now in
    read_shaped known (shape_tree c.args.shape.now) c.args.text.now c.in_ok-tokens.tokens c.in_ok-raw.raw c.in_ok-tokens.ensures c.in_ok-raw.ensures c.named_input-input.result c.named_input-input.ensures

pub returns-clause-formed : goal.returns-clause-formed
returns-clause-formed c =
    let known = known_in c.args.known.now in
    read_formed known (shape_tree c.args.shape.now) c.args.text.now c.in_ok-tokens.tokens c.in_ok-raw.raw c.in_ok-tokens.ensures c.in_ok-raw.ensures c.named_input-input.result c.named_input-input.ensures
