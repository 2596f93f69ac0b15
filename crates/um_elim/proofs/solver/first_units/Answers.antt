use Rattle.std.proofs.Common.{◌++◌, ◌∷◌, [], ◌∙◌, sym, ap, arith}
use Rattle.std.proofs.lemmas.List.FromFn.{map-range_with_len_more}
use Rattle.um_elim.specs.Solution.{rigid_unit, rigid_units}
use Rattle.um_elim.proofs.solver.first_units.Goals as goal

pub loop-slot-preserved : goal.loop-slot-preserved
loop-slot-preserved c =
    let unit = rigid_unit c.args.bases c.args.parameters in
    c.in_ok-push.ensures.items ∙ ap (λ us. us ++ c.in_ok-first_unit.field-0 ∷ []) c.loop-slot.invariant
    ∙ ap (λ u. rigid_units c.args.bases c.args.parameters c.loop-slot.slot ++ u ∷ []) c.in_ok-first_unit.ensures
    ∙ sym (map-range_with_len_more unit 0 c.loop-slot.slot c.loop-slot.slot (omega arith))
