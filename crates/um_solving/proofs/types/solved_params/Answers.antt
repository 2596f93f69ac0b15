use Rattle.std.proofs.Common.{map, ap, sym, ◌∙◌}
use Rattle.std.proofs.lemmas.List.{take_all}
use Rattle.std.proofs.lemmas.Result.{err_from_is_err_and}
use Rattle.std.proofs.lemmas.Simd.{map-map}
use Rattle.um_units.specs.PowerMap.{nth}
use Rattle.um_tree.specs.declared.types.Ty.{Ty}
use Rattle.um_tree.specs.TypeTree.{type_tree}
use Rattle.um_tree.specs.Typing.{put}
use Rattle.um_solving.proofs.SolvedTypes.{refused_among}
use Rattle.um_solving.proofs.types.solved_params.Goals as goal

pub returns-in_err-solved_type-clause-range : goal.returns-in_err-solved_type-clause-range
returns-in_err-solved_type-clause-range c =
    let p = err_from_is_err_and c.from_residual-in_err-solved_type.result c.from_residual-in_err-solved_type.ensures.1 in
    rw (p.1, p.2) (refused_among c.args.at (nth c.args.solver.now.units) c.args.params.now c.loop-ty.ty-index c.ty-item.result c.in_err-solved_type.field-0.0 c.loop-ty-test.true c.ty-item.is c.in_err-solved_type.ensures.range)

pub returns-clause-solved : goal.returns-clause-solved
returns-clause-solved c =
    let s = nth c.args.solver.now.units in
    c.loop-ty.invariant.solved ∙ ap (map (λ (ty : Ty). put s (type_tree ty))) (take_all c.loop-ty.ty-index c.args.params.now c.loop-ty-test.false) ∙ sym (map-map (put s) type_tree c.args.params.now)
