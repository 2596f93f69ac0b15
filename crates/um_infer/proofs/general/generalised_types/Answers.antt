use Rattle.std.proofs.Common.{◌<◌, map, sym, ap, subst, ◌∙◌}
use Rattle.std.specs.Prelude.{All}
use Rattle.std.proofs.lemmas.List.{take_all}
use Rattle.std.proofs.lemmas.List.Folds.{flat_map-map}
use Rattle.std.proofs.lemmas.Simd.{map-map}
use Rattle.um_tree.specs.declared.types.Ty.{Ty}
use Rattle.um_tree.specs.TypeTree.{type_tree}
use Rattle.um_tree.specs.Typing.{moved}
use Rattle.um_tree.specs.Scheme.{type_variables}
use Rattle.um_elim.proofs.GrowingOrder.{All-at}
use Rattle.um_rows.specs.Generalised.{generalised_unit}
use Rattle.um_infer.proofs.general.generalised_types.Goals as goal

pub generalised_type-requires-clause-variables : goal.generalised_type-requires-clause-variables
generalised_type-requires-clause-variables c =
    let ts = c.args.types.now in
    let n = c.args.slots in
    subst (λ (t : Ty). All (λ k. k < n) (type_variables (type_tree t))) (sym c.ty-item.is)
    (All-at (λ k. k < n) (λ (t : Ty). type_variables (type_tree t)) ts c.loop-ty.ty-index c.ty-item.result c.loop-ty-test.true (subst (All (λ k. k < n)) (flat_map-map type_variables type_tree ts) c.requires.variables))

pub returns : goal.returns
returns c =
    let general = generalised_unit c.args.bases c.args.parameters c.args.slots in
    c.loop-ty.invariant ∙ ap (map (λ (t : Ty). moved general (type_tree t))) (take_all c.loop-ty.ty-index c.args.types.now c.loop-ty-test.false) ∙ sym (map-map (moved general) type_tree c.args.types.now)
