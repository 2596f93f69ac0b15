use Rattle.std.proofs.Common.{map, sym, ap, ◌∙◌}
use Rattle.um_tree.specs.TypeTree.{type_trees}
use Rattle.um_tree.specs.Typing.{moved}
use Rattle.um_rows.specs.Generalised.{generalised_unit}
use Rattle.um_infer.proofs.GeneralSteps.{types_same}
use Rattle.um_infer.proofs.general.general_types.Goals as goal

pub returns-then-parameters-eq0 : goal.returns-then-parameters-eq0
returns-then-parameters-eq0 c =
    sym (ap (λ n. map (moved (generalised_unit c.args.bases n c.args.slots)) (type_trees c.args.types)) c.if-parameters-eq0.true ∙ types_same c.args.bases c.args.slots (type_trees c.args.types))
