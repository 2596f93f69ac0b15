use Rattle.std.proofs.Common.{◌≡◌, sym, ◌∙◌, false, nat_eq, arith}
use Rattle.std.proofs.lemmas.Bool.Decides.{nat_tests}
use Rattle.um_mismatch.specs.FlatShapes.{item_shape}
use Rattle.um_mismatch.proofs.SameFlat.{same_flat, other_lists}
use Rattle.um_mismatch.proofs.flat.FlatShape.same.Goals as goal

pub returns-then-self-other : goal.returns-then-self-other
returns-then-self-other c =
    let s = c.args.self in
    let o = c.args.other in
    c.same.ensures ∙ sym (same_flat s.lists o.lists (item_shape s.item) (item_shape o.item) c.if-self-other.true)

pub returns-else-self-other : goal.returns-else-self-other
returns-else-self-other c =
    let s = c.args.self in
    let o = c.args.other in
    let differ : nat_eq s.lists o.lists ≡ false = grind (arith, nat_tests) in
    differ ∙ sym (other_lists s.lists o.lists s.item o.item differ)
