use Rattle.std.proofs.Common.{rules, ◌∙◌, sym, ap, to_z, w32, FitsSigned}
use Rattle.std.proofs.lemmas.Int.{to_z-of_z}
use Rattle.um_units.proofs.ShortUnits.{first_single, second_single}
use Rattle.um_units.proofs.short.put_in_pair.Goals as goal

pub put_in_product-requires : goal.put_in_product-requires
put_in_product-requires c =
    let f : FitsSigned w32 c.args.second.power = search rules in
    second_single c.args.unit.now c.args.first c.args.second c.requires (sym (to_z-of_z w32 c.args.second.power f) ∙ ap (to_z w32) c.if-second-eq1.true)

pub put_in_product-requires-then-first-eq1 : goal.put_in_product-requires-then-first-eq1
put_in_product-requires-then-first-eq1 c =
    let f : FitsSigned w32 c.args.first.power = search rules in
    first_single c.args.unit.now c.args.first c.args.second c.requires (sym (to_z-of_z w32 c.args.first.power f) ∙ ap (to_z w32) c.if-first-eq1.true)
