use Rattle.std.proofs.Common.{◌<◌, ◌∙◌, sym, subst, length, get_or, [], below_more, to_z, of_z, w64, arith}
use Rattle.std.proofs.lemmas.List.{get_or_default, length-map}
use Rattle.um_units.specs.declared.Atom.TheVariants.{Var}
use Rattle.um_units.specs.PowerMap.{PowerMap, atom}
use Rattle.um_equal_types.specs.declared.row.Row.{Row}
use Rattle.um_equal_types.specs.Steps.{units_of}
use Rattle.um_check.specs.Combination.{NamesRowsBelow}
use Rattle.um_check.specs.Tests.{SlotComesBack}
use Rattle.um_check.proofs.comes_back.all_come_back.Goals as goal

abbrev unit_of : Row → PowerMap
unit_of r = r.unit

pub loop-i-preserved : goal.loop-i-preserved
loop-i-preserved c =
    let rows = c.args.rows.now in
    let i = c.loop-i.i in
    let within : i < length c.args.solution.now = c.loop-i-test.true in
    let per_slot = c.requires.per_slot in
    let ps = c.as_slice-named.result.now in
    let named = c.as_slice-named.ensures.items ∙ c.index-parts-i.is ∙ get_or_default c.args.parts.now i c.index-parts-i.result [] (omega (arith, within, per_slot)) in
    let unit = c.index-solution-i.is ∙ get_or_default c.args.solution.now i c.index-solution-i.result (atom (Var i)) within in
    below_more _ _ c.loop-i.invariant (
      subst (NamesRowsBelow (length (units_of rows))) named (subst (λ n. NamesRowsBelow n ps) (sym (length-map rows unit_of)) (c.names_below.ensures.0 c.if-not-names_below.false)),
      subst (λ u. SlotComesBack (units_of rows) c.args.back.now u i (to_z w64 (of_z w64 c.args.divisor)) (get_or c.args.parts.now i [])) unit
          (subst (λ qs. SlotComesBack (units_of rows) c.args.back.now c.index-solution-i.result i (to_z w64 (of_z w64 c.args.divisor)) qs) named (c.in_ok-slot_comes_back.ensures.0 c.if-not-branch.false)),
    )
