use Rattle.std.proofs.Common.{◌≡◌, ◌+◌, ◌-◌, ◌<◌, ◌++◌, [], ◌∷◌, append_assoc, drop, map, length, get_or, refl, sym, ap, ◌∙◌, arith}
use Rattle.std.proofs.lemmas.Grind.{common_steps}
use Rattle.std.proofs.Math.Seq.{drop-append_seam}
use Rattle.std.proofs.lemmas.List.{drop_more, length-append, length-set, drop-map}
use Rattle.um_tree.specs.TypeTree.{type_tree}
use Rattle.um_rows.specs.declared.nodes.NodeType.{NodeType}
use Rattle.um_rows.specs.NodeTypes.{typed_node}
use Rattle.um_annot.specs.declared.order.Placed.{Placed}
use Rattle.um_annot.specs.Answers.{retyped}
use Rattle.um_annot.specs.Placing.{placed_nodes}
use Rattle.um_annot.proofs.AnnotSteps.{put_before}
use Rattle.um_annot.proofs.annotation.put_types.Goals as goal

abbrev none : Placed
none = record { at = 0; node = 0 }

pub loop-i-preserved : goal.loop-i-preserved
loop-i-preserved c =
    let order = c.args.order.now in
    let now = c.loop-i.nodes.items in
    let ts = c.args.types.items.items in
    let heads = length ts - length order in
    let j = c.loop-i.i in
    let i = j - 1 in
    let inv = c.loop-i.invariant in
    let many = inv.nodes in
    let count = inv.count in
    let t = c.in-Some.ty in
    let front = c.pop.new.self.items in
    let p = get_or order i none in
    let m : NodeType = record { at = p.at; ty = t } in
    let inside : i < length order = omega arith in
    let below : i < length now = omega (arith, inside, many) in
    let both : p ∷ drop (i + 1) order ≡ get_or order i p ∷ drop (i + 1) order = sym (drop_more order i none inside) ∙ drop_more order i p inside in
    let is : p ≡ get_or order i p = cc both in
    let items : c.loop-i.types.items.items ≡ front ++ t ∷ [] = c.in-Some.ensures.items in
    let fewer : length front ≡ heads + i = omega (arith, count, ap length items, length-append front (t ∷ [])) in
    let whole : front ++ t ∷ drop (heads + j) ts ≡ ts = sym (append_assoc front (t ∷ []) (drop (heads + j) ts)) ∙ ap (λ xs. xs ++ drop (heads + j) ts) (sym items) ∙ inv.left in
    let these : drop (heads + i) ts ≡ t ∷ drop (heads + j) ts = (λ k. drop (sym fewer k) (sym whole k)) ∙ drop-append_seam front (t ∷ drop (heads + j) ts) in
    record {
      done = put_before now order (drop (heads + i) ts) (drop (heads + j) ts) i j p m t (omega arith) below inside is these refl inv.done;
      left = ap (λ xs. front ++ xs) these ∙ whole;
      count = fewer;
      nodes = many ∙ sym (length-set now i m);
    }

pub returns : goal.returns
returns c = λ heads count.
    let order = c.args.order.now in
    let ts = c.args.types.items.items in
    let i = c.loop-i.i in
    let first : i ≡ 0 = omega arith in
    let same : length ts - length order + i ≡ heads = omega (arith, first, count) in
    ap (λ k. map typed_node (drop k c.loop-i.nodes.items)) (sym first)
    ∙ c.loop-i.invariant.done
    ∙ (λ j. retyped (placed_nodes [] (drop (first j) order)) (map type_tree (drop (same j) ts)))
    ∙ ap (retyped (placed_nodes [] order)) (sym (drop-map type_tree heads ts))

pub loop-i-init : goal.loop-i-init
loop-i-init c = grind (arith, common_steps)
