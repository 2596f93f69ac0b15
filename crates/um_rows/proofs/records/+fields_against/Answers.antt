use Rattle.std.proofs.Common.{◌∷◌, ◌-◌, length, take, drop, map, sym, subst}
use Rattle.um_units.specs.PowerMap.{nth}
use Rattle.um_tree.specs.TypeTree.{type_tree}
use Rattle.um_tree.specs.Typing.{put}
use Rattle.um_equal_types.specs.Against.{against as against_steps}
use Rattle.um_equal_types.specs.Against.{types_against as types_against_steps}
use Rattle.um_equal_types.specs.Pushed.{ArePushed, AreBehind}
use Rattle.um_rows.specs.Closed.{declared_types}
use Rattle.um_equal_types.proofs.PushLaws.{pushed_after}
use Rattle.um_slots.proofs.Parts.{first_and_others}
use Rattle.um_rows.proofs.records.+fields_against.Goals as goal

pub returns-in_ok-against-in-len1-up-parts-2 : goal.returns-in_ok-against-in-len1-up-parts-2
returns-in_ok-against-in-len1-up-parts-2 t c =
    let by = nth c.args.by.now in
    let left = c.args.fields.now in
    let right = c.args.parts.now in
    let x = c.field-item.result in
    let y = c.part-item.result in
    let at = c.args.at in
    let old = c.args.rows.now.items in
    let mid = c.against.new.rows.items in
    let new = c.fields_against.new.rows.items in
    let r = c.fields_against.result in
    let made = c.in_ok-declared-in-len1-up-parts-2.ensures.exact in
    let first = subst (λ s. AreBehind (against_steps at s (type_tree y)) old mid) made c.in_ok-against-in-len1-up-parts-2.ensures in
    let lefts = first_and_others left x c.in-len1-up.len_at_least c.field-item.is in
    let rights = first_and_others right y c.in-len1-up-parts-2.len_at_least c.part-item.is in
    subst (λ xs. ArePushed (types_against_steps at (map (put by) (declared_types xs)) (map type_tree right)) old new r) (sym lefts)
    (subst (λ ys. ArePushed (types_against_steps at (map (put by) (declared_types (x ∷ take (length left - 1) (drop 1 left)))) (map type_tree ys)) old new r) (sym rights)
    (pushed_after (against_steps at (put by (type_tree x.ty)) (type_tree y)) (types_against_steps at (map (put by) (declared_types (take (length left - 1) (drop 1 left)))) (map type_tree (take (length right - 1) (drop 1 right)))) old mid new r first c.fields_against.ensures))
