use Rattle.std.proofs.Common.{◌<◌, map, sym, ap, subst, ◌∙◌, [], ◌∷◌}
use Rattle.std.specs.Prelude.{All}
use Rattle.std.specs.List.{flat_map}
use Rattle.std.proofs.lemmas.List.{map-append, take_all}
use Rattle.std.proofs.lemmas.Simd.{map-map}
use Rattle.std.proofs.lemmas.List.Folds.{flat_map-map}
use Rattle.um_tree.specs.declared.types.Ty.{Ty}
use Rattle.um_tree.specs.TypeTree.{type_tree}
use Rattle.um_tree.specs.Typing.{put}
use Rattle.um_tree.specs.Scheme.{type_variables}
use Rattle.um_elim.specs.Numbering.{by_place}
use Rattle.um_elim.specs.Order.{with_variables}
use Rattle.um_elim.proofs.GrowingOrder.{All-at, order_grows, items_grow, type_stays}
use Rattle.um_elim.proofs.numbering.renamed_types.Goals as goal

pub renamed_type-requires : goal.renamed_type-requires
renamed_type-requires c =
    let ts = c.args.types.now in
    subst (λ (t : Ty). All (λ k. k < 4294967295) (type_variables (type_tree t))) (sym c.ty-item.is)
    (All-at (λ k. k < 4294967295) (λ (t : Ty). type_variables (type_tree t)) ts c.loop-ty.ty-index c.ty-item.result c.loop-ty-test.true (subst (All (λ k. k < 4294967295)) (flat_map-map type_variables type_tree ts) c.requires))

pub loop-ty-preserved : goal.loop-ty-preserved
loop-ty-preserved c =
    let ts = c.args.types.now in
    let i = c.loop-ty.ty-index in
    let t = c.ty-item.result in
    let new = c.renamed_type.new.order in
    let order = c.in_ok-renamed_type.ensures.order ∙ ap (λ (v : Ty). with_variables c.loop-ty.order (type_variables (type_tree v))) c.ty-item.is in
    let made = c.in_ok-renamed_type.ensures.renamed ∙ ap (λ (v : Ty). put (by_place new) (type_tree v)) c.ty-item.is in
    let pushed = ap (map type_tree) c.in_ok-push.ensures.items ∙ map-append type_tree c.loop-ty.items.items (c.in_ok-renamed_type.field-0 ∷ []) in
    record {
      order = order_grows (λ (v : Ty). type_variables (type_tree v)) (λ o (v : Ty). put (by_place o) (type_tree v)) (λ ks more v. type_stays ks more (type_tree v)) c.args.order.now ts i t c.loop-ty-test.true c.loop-ty.order new c.loop-ty.invariant.order order;
      items =
          items_grow (λ (v : Ty). type_variables (type_tree v)) (λ o (v : Ty). put (by_place o) (type_tree v)) (λ ks more v. type_stays ks more (type_tree v)) c.args.order.now ts i t c.loop-ty-test.true c.loop-ty.order new (map type_tree c.loop-ty.items.items) (map type_tree c.push.new.self.items) (type_tree c.in_ok-renamed_type.field-0) c.loop-ty.invariant.order order c.loop-ty.invariant.items pushed made;
    }

pub returns-clause-order : goal.returns-clause-order
returns-clause-order c =
    let ts = c.args.types.now in
    c.loop-ty.invariant.order
    ∙ ap (λ vs. with_variables c.args.order.now (flat_map (λ (v : Ty). type_variables (type_tree v)) vs)) (take_all c.loop-ty.ty-index ts c.loop-ty-test.false)
    ∙ ap (with_variables c.args.order.now) (sym (flat_map-map type_variables type_tree ts))

pub returns-clause-renamed : goal.returns-clause-renamed
returns-clause-renamed c =
    let ts = c.args.types.now in
    let o = c.loop-ty.order in
    c.loop-ty.invariant.items ∙ ap (map (λ (v : Ty). put (by_place o) (type_tree v))) (take_all c.loop-ty.ty-index ts c.loop-ty-test.false) ∙ sym (map-map (put (by_place o)) type_tree ts)
