use Rattle.std.proofs.Common.{◌≡◌, ◌<◌, [], length, map, sym, ap, subst, ◌∙◌}
use Rattle.std.specs.Prelude.{All}
use Rattle.um_tree.specs.TypeTree.{type_tree, type_trees}
use Rattle.um_tree.specs.Typing.{put}
use Rattle.um_tree.specs.Scheme.{IsNumberedBy, variables}
use Rattle.um_tree.proofs.Numbered.{in_order_below}
use Rattle.um_elim.specs.Numbering.{by_place, renumbered, variable_order, HaveSameInstances}
use Rattle.um_elim.specs.Order.{with_variables}
use Rattle.um_elim.proofs.FirstOccurrences.{with_none}
use Rattle.um_elim.proofs.NumberedTypes.{renumbered_is_numbered, one_for_one, same_instances}
use Rattle.um_elim.proofs.NumberedAlready.{count_is, renumbered_same}
use Rattle.um_elim.proofs.numbering.renumber.Goals as goal

pub returns-in-Some : goal.returns-in-Some
returns-in-Some c =
    let ts = type_trees c.args.types in
    let n = c.in-Some.vars in
    let is : IsNumberedBy n ts = subst (IsNumberedBy n) (ap (map type_tree) c.deref.ensures.value) c.in-Some.ensures in
    let same : renumbered ts ≡ ts = renumbered_same n ts is in
    record {
      renumbered = sym same;
      vars = count_is n ts is;
      numbered = is;
      below = in_order_below 0 n (variables ts) is;
      one_for_one = one_for_one ts;
      instances = subst (HaveSameInstances ts) same (same_instances ts);
    }

pub renamed_types-requires : goal.renamed_types-requires
renamed_types-requires c = subst (λ ts. All (λ k. k < 4294967295) (variables (map type_tree ts))) (sym c.deref-2.ensures.value) c.requires

pub returns-in_err-items-clause-one_for_one : goal.returns-in_err-items-clause-one_for_one
returns-in_err-items-clause-one_for_one c = one_for_one (type_trees c.args.types)

pub returns : goal.returns
returns c =
    let ts = type_trees c.args.types in
    let read : map type_tree c.deref-2.result.now ≡ ts = ap (map type_tree) c.deref-2.ensures.value in
    let order : c.renamed_types.new.order ≡ variable_order ts = c.in_ok-items.ensures.order ∙ ap (λ o. with_variables o (variables (map type_tree c.deref-2.result.now))) c.new-order.ensures ∙ ap (λ us. with_variables [] (variables us)) read ∙ with_none (variables ts) in
    let same : map type_tree c.in_ok-items.items.items ≡ renumbered ts = c.in_ok-items.ensures.renamed ∙ ap (map (put (by_place c.renamed_types.new.order))) read ∙ ap (λ o. map (put (by_place o)) ts) order in
    let count : c.count.result ≡ length (variable_order ts) = c.count.ensures ∙ ap length order in
    let numbered = subst (λ n. IsNumberedBy n (map type_tree c.in_ok-items.items.items)) (sym count) (subst (IsNumberedBy (length (variable_order ts))) (sym same) (renumbered_is_numbered ts)) in
    record {
      renumbered = same;
      vars = count;
      numbered = numbered;
      below = in_order_below 0 c.count.result (variables (map type_tree c.in_ok-items.items.items)) numbered;
      one_for_one = one_for_one ts;
      instances = subst (HaveSameInstances ts) (sym same) (same_instances ts);
    }
