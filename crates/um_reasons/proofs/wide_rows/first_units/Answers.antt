use Rattle.std.proofs.Common.{◌++◌, ◌∷◌, [], ◌∙◌, sym, ap, subst, arith}
use Rattle.std.specs.Prelude.{All}
use Rattle.std.proofs.lemmas.List.Elements.{All-push}
use Rattle.std.proofs.lemmas.List.FromFn.{map-range_with_len_more}
use Rattle.um_elim.specs.Solution.{rigid_unit, rigid_units}
use Rattle.um_wide.specs.Room.{IsNarrow}
use Rattle.um_reasons.proofs.wide_rows.first_units.Goals as goal

pub loop-slot-preserved : goal.loop-slot-preserved
loop-slot-preserved c =
    let slot = c.loop-slot.slot in
    record {
      exact = c.in_ok-push.ensures.items ∙ ap (λ us. us ++ c.in_ok-first_unit.field-0 ∷ []) c.loop-slot.invariant.exact
          ∙ ap (λ u. rigid_units c.args.bases c.args.parameters slot ++ u ∷ []) c.in_ok-first_unit.ensures.exact
          ∙ sym (map-range_with_len_more (rigid_unit c.args.bases c.args.parameters) 0 slot slot (omega arith));
      narrow = subst (All IsNarrow) (sym c.in_ok-push.ensures.items) (All-push IsNarrow c.loop-slot.units.items c.in_ok-first_unit.field-0 c.loop-slot.invariant.narrow c.in_ok-first_unit.ensures.narrow);
    }
