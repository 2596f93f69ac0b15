use Rattle.std.proofs.Common.{map, sym, ◌∙◌, subst}
use Rattle.std.specs.Prelude.{IsTrue}
use Rattle.std.proofs.lemmas.List.Folds.{list_all-map}
use Rattle.um_units.specs.PowerMap.{nth}
use Rattle.um_tree.specs.declared.types.Ty.{Ty}
use Rattle.um_tree.specs.TypeTree.{type_tree}
use Rattle.um_tree.specs.Typing.{put}
use Rattle.um_elim.specs.Application.{type_fits}
use Rattle.um_proof.proofs.HeldVariables.{passes}
use Rattle.um_proof.proofs.renaming.add_types.Goals as goal

pub put_type-requires : goal.put_type-requires
put_type-requires c =
    let s = nth c.args.units.now in
    let ts = c.args.types.now in
    let all = sym (list_all-map type_fits (put s) (map type_tree ts) ∙ list_all-map (λ t. type_fits (put s t)) type_tree ts) ∙ c.requires in
    subst (λ (t : Ty). IsTrue (type_fits (put s (type_tree t)))) (sym c.ty-item.is) (passes (λ (t : Ty). type_fits (put s (type_tree t))) ts c.loop-ty.ty-index c.ty-item.result c.loop-ty-test.true all)
