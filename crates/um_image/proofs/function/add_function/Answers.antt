use Rattle.std.proofs.Common.{◌∷◌, ◌++◌, [], length, sym, ap, ◌∙◌, arith, List}
use Rattle.std.proofs.Math.Facts.{Fits-of_lt}
use Rattle.std.proofs.lemmas.Result.{err_from_is_err_and}
use Rattle.std.proofs.lemmas.List.{length-append, length-map}
use Rattle.um_machine.specs.declared.op.Op.{Op}
use Rattle.um_machine.specs.declared.code.Entry.{Entry}
use Rattle.um_tree.specs.TypeTree.{shape_tree}
use Rattle.um_verify.specs.ImageTree.{head_tree}
use Rattle.um_image.specs.Reading.{number_at, op_at, head_at, many_at}
use Rattle.um_image.proofs.Formats.{IsBytes, rest_of}
use Rattle.um_image.proofs.ShapeFormats.{number_items, IsSmall, number_format}
use Rattle.um_image.proofs.PartFormats.{with_ops, head_items, HeadFits, head_format}
use Rattle.um_image.proofs.Loops.{front_ok}
use Rattle.um_image.proofs.FunctionLoops.{holds_more, head_fails, count_fails, ops_fail, onto_done, ops_room}
use Rattle.um_image.proofs.function.add_function.Goals as goal

pub returns-in_err-head-clause-kept : goal.returns-in_err-head-clause-kept
returns-in_err-head-clause-kept c = λ fs h.
    let p = err_from_is_err_and c.from_residual.result c.from_residual.ensures.1 in
    rw (p.1, p.2) (head_fails fs c.args.bytes.now c.in_err-head.field-0.0 c.in_err-head.ensures)

pub overflow_cast-params : goal.overflow_cast-params
overflow_cast-params c =
    let b : IsBytes c.args.bytes.now = λ i. omega (arith, c.type_inv.bytes i) in
    let t = head_format.takes c.args.bytes.now (head_tree c.in_ok-head.head) c.in_ok-head.rest.now b c.in_ok-head.ensures in
    let params = c.in_ok-head.head.params.items in
    let len = c.len-params.ensures ∙ params.ok.0 in
    let few = t.0.params.0 in
    let same = length-map params.items shape_tree in
    Fits-of_lt (omega (arith, few, same, len))

pub returns-in_err-count-clause-kept : goal.returns-in_err-count-clause-kept
returns-in_err-count-clause-kept c = λ fs h.
    let p = err_from_is_err_and c.from_residual-in_err-count.result c.from_residual-in_err-count.ensures.1 in
    rw (p.1, p.2) (count_fails fs c.args.bytes.now (head_tree c.in_ok-head.head) c.in_ok-head.rest.now c.in_ok-head.ensures c.in_err-count.field-0.0 c.in_err-count.ensures)

pub returns-in_err-rest-clause-kept : goal.returns-in_err-rest-clause-kept
returns-in_err-rest-clause-kept c = λ fs h.
    let p = err_from_is_err_and c.from_residual-in_err-rest.result c.from_residual-in_err-rest.ensures.1 in
    rw (p.1, p.2) (ops_fail fs c.args.bytes.now (head_tree c.in_ok-head.head) c.in_ok-head.rest.now c.in_ok-head.ensures c.in_ok-count.count c.in_ok-count.rest.now c.in_ok-count.ensures c.args.functions.now.ops.items c.in_err-rest.field-0.0 c.in_err-rest.ensures)

pub overflow_cast-end : goal.overflow_cast-end
overflow_cast-end c =
    let b : IsBytes c.args.bytes.now = λ i. omega (arith, c.type_inv.bytes i) in
    let one = rest_of head_at head_items HeadFits head_format c.args.bytes.now (head_tree c.in_ok-head.head) c.in_ok-head.rest.now b c.in_ok-head.ensures in
    let two = rest_of number_at number_items IsSmall number_format c.in_ok-head.rest.now c.in_ok-count.count c.in_ok-count.rest.now one.1 c.in_ok-count.ensures in
    let f = front_ok c.args.functions.now.ops.items (many_at op_at c.in_ok-count.count c.in_ok-count.rest.now) c.add_ops.new.ops.items c.in_ok-rest.rest.now c.in_ok-rest.ensures in
    let room = ops_room c.in_ok-count.count c.in_ok-count.rest.now f.0 c.in_ok-rest.rest.now two.1 f.1 in
    let sum = ap (λ (os : List Op). length os) f.2 ∙ length-append c.args.functions.now.ops.items f.0 in
    let first = one.0 in
    let second = two.0 in
    let given = c.requires.room in
    let len = c.len-end.ensures ∙ c.add_ops.new.ops.ok.0 in
    Fits-of_lt (omega (arith, room, sum, first, second, given, len))

pub returns-clause-kept : goal.returns-clause-kept
returns-clause-kept c = λ fs h.
    let old = c.args.functions.now in
    let f = front_ok old.ops.items (many_at op_at c.in_ok-count.count c.in_ok-count.rest.now) c.add_ops.new.ops.items c.in_ok-rest.rest.now c.in_ok-rest.ensures in
    let head = c.in_ok-head.head in
    let params = head.params.items in
    let entry : Entry = record { start = c.len-start.result; end = c.len-end.result; params = c.len-params.result } in
    let start = c.len-start.ensures ∙ old.ops.ok.0 in
    let end = c.len-end.ensures ∙ c.add_ops.new.ops.ok.0 in
    let count = c.len-params.ensures ∙ params.ok.0 ∙ sym (length-map params.items shape_tree) in (
      fs ++ with_ops (head_tree head) f.0 ∷ [],
      holds_more old (record { heads = c.push.new.self; ops = c.add_ops.new.ops; entries = c.push-2.new.self }) fs head f.0 entry h c.in_ok-push.ensures.items f.2 c.in_ok-push-2.ensures.items start end count,
      onto_done fs c.args.bytes.now (head_tree head) c.in_ok-head.rest.now c.in_ok-head.ensures c.in_ok-count.count c.in_ok-count.rest.now c.in_ok-count.ensures old.ops.items f.0 c.in_ok-rest.rest.now f.1,
    )

pub returns-clause-room : goal.returns-clause-room
returns-clause-room c =
    let b : IsBytes c.args.bytes.now = λ i. omega (arith, c.type_inv.bytes i) in
    let one = rest_of head_at head_items HeadFits head_format c.args.bytes.now (head_tree c.in_ok-head.head) c.in_ok-head.rest.now b c.in_ok-head.ensures in
    let two = rest_of number_at number_items IsSmall number_format c.in_ok-head.rest.now c.in_ok-count.count c.in_ok-count.rest.now one.1 c.in_ok-count.ensures in
    let f = front_ok c.args.functions.now.ops.items (many_at op_at c.in_ok-count.count c.in_ok-count.rest.now) c.add_ops.new.ops.items c.in_ok-rest.rest.now c.in_ok-rest.ensures in
    let room = ops_room c.in_ok-count.count c.in_ok-count.rest.now f.0 c.in_ok-rest.rest.now two.1 f.1 in
    let sum = ap (λ (os : List Op). length os) f.2 ∙ length-append c.args.functions.now.ops.items f.0 in
    let first = one.0 in
    let second = two.0 in
    let given = c.requires.room in
    omega (arith, room, sum, first, second, given)
