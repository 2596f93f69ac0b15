use Rattle.std.proofs.Common.{◌∷◌, ◌-◌, length, take, drop, map, sym, subst}
use Rattle.um_tree.specs.TypeTree.{type_tree}
use Rattle.um_equal_types.specs.Against.{against as against_steps}
use Rattle.um_equal_types.specs.Against.{types_against as types_against_steps}
use Rattle.um_equal_types.specs.Pushed.{ArePushed}
use Rattle.um_equal_types.proofs.PushLaws.{pushed_after}
use Rattle.um_slots.proofs.Parts.{first_and_others}
use Rattle.um_equal_types.proofs.equality.+types_against.Goals as goal

pub returns-in_ok-against-in-len1-up-right-2 : goal.returns-in_ok-against-in-len1-up-right-2
returns-in_ok-against-in-len1-up-right-2 t c =
    let left = c.args.left.now in
    let right = c.args.right.now in
    let x = c.s-item.result in
    let y = c.t-item.result in
    let at = c.args.at in
    let old = c.args.rows.now.items in
    let new = c.types_against.new.rows.items in
    let r = c.types_against.result in
    let lefts = first_and_others left x c.in-len1-up.len_at_least c.s-item.is in
    let rights = first_and_others right y c.in-len1-up-right-2.len_at_least c.t-item.is in
    subst (λ xs. ArePushed (types_against_steps at (map type_tree xs) (map type_tree right)) old new r) (sym lefts)
    (subst (λ ys. ArePushed (types_against_steps at (map type_tree (x ∷ take (length left - 1) (drop 1 left))) (map type_tree ys)) old new r) (sym rights)
    (pushed_after (against_steps at (type_tree x) (type_tree y)) (types_against_steps at (map type_tree (take (length left - 1) (drop 1 left))) (map type_tree (take (length right - 1) (drop 1 right)))) old c.against.new.rows.items new r c.in_ok-against-in-len1-up-right-2.ensures c.types_against.ensures))
