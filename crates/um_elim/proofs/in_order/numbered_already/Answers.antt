use Rattle.std.proofs.Common.{ap, sym, subst, ◌∙◌}
use Rattle.std.specs.List.{flat_map}
use Rattle.std.proofs.lemmas.List.{take_all}
use Rattle.std.proofs.lemmas.List.Folds.{flat_map-map}
use Rattle.um_tree.specs.declared.types.Ty.{Ty}
use Rattle.um_tree.specs.TypeTree.{type_tree}
use Rattle.um_tree.specs.Scheme.{type_variables, FirstComeInOrder}
use Rattle.um_elim.proofs.NumberedAlready.{in_order_grows}
use Rattle.um_elim.proofs.in_order.numbered_already.Goals as goal

pub loop-ty-preserved : goal.loop-ty-preserved
loop-ty-preserved c =
    let last = c.in_ok-last.last in
    let at = subst (λ (t : Ty). FirstComeInOrder c.loop-ty.last (type_variables (type_tree t)) last) c.ty-item.is c.in_ok-last.ensures in
    in_order_grows (λ (t : Ty). type_variables (type_tree t)) c.args.types.now c.loop-ty.ty-index c.ty-item.result c.loop-ty-test.true 0 c.loop-ty.last last c.loop-ty.invariant at

pub returns : goal.returns
returns c =
    let ts = c.args.types.now in
    subst (λ ks. FirstComeInOrder 0 ks c.loop-ty.last)
    (ap (flat_map (λ (t : Ty). type_variables (type_tree t))) (take_all c.loop-ty.ty-index ts c.loop-ty-test.false) ∙ sym (flat_map-map type_variables type_tree ts))
    c.loop-ty.invariant
