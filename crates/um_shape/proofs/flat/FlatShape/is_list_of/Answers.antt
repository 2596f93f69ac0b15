use Rattle.std.proofs.Common.{◌≡◌, ◌+◌, sym, ◌∙◌, false, nat_eq, arith}
use Rattle.std.proofs.lemmas.Bool.Decides.{nat_tests}
use Rattle.um_shape.specs.FlatShapes.{item_shape}
use Rattle.um_shape.proofs.SameShape.{same_tail, other_tail}
use Rattle.um_shape.proofs.flat.FlatShape.is_list_of.Goals as goal

pub returns-then-self-items : goal.returns-then-self-items
returns-then-self-items c =
    let s = c.args.self in
    let o = c.args.items in
    c.same.ensures ∙ sym (same_tail s.lists o.lists (item_shape s.item) (item_shape o.item) c.if-self-items.true)

pub returns-else-self-items : goal.returns-else-self-items
returns-else-self-items c =
    let s = c.args.self in
    let o = c.args.items in
    let differ : nat_eq s.lists (o.lists + 1) ≡ false = grind (arith, nat_tests) in
    differ ∙ sym (other_tail s.lists o.lists s.item o.item c.if-self-items.false)
