use Rattle.std.proofs.Common.{◌≡◌, ◌<◌, ◌+◌, ◌++◌, [], ◌∷◌, length, sym, ap, ◌∙◌, append_assoc, arith}
use Rattle.std.proofs.lemmas.Grind.{common_steps}
use Rattle.std.proofs.lemmas.Result.{on_ok_weaker}
use Rattle.um_tree.specs.ExprTree.{expr_tree}
use Rattle.um_machine.specs.declared.op.Op.TheVariants.{Not, Jump}
use Rattle.um_gen.specs.Emitting.{pair_in, op_where}
use Rattle.um_gen.proofs.Emitted.{pair_emitted, and_emitted, or_emitted, if_emitted, let_emitted, match_emitted}
use Rattle.um_gen.proofs.EachEmitted.{left_first, left_next, left_last}
use Rattle.um_gen.proofs.expr.+emit.Goals as goal

pub emit_all-loop-i-init : goal.emit_all-loop-i-init
emit_all-loop-i-init t c = left_first c.args.out.now.places.items c.args.depth c.args.out.now.ops.items c.args.parts.now

pub emit_all-loop-i-preserved : goal.emit_all-loop-i-preserved
emit_all-loop-i-preserved t c =
    let es = c.args.parts.now in
    let i = c.loop-i.i in
    let below : i < length es = omega (arith, c.loop-i-test.true) in
    left_next c.args.out.now.places.items c.args.depth c.args.out.now.ops.items es i c.index-parts-i.result c.loop-i.out.ops.items c.emit.new.out.ops.items c.loop-i.out.places.items c.emit.new.out.places.items below c.index-parts-i.is c.loop-i.invariant c.in_ok-emit.ensures.ops c.in_ok-emit.ensures.places

pub emit_all-returns-clause-ops : goal.emit_all-returns-clause-ops
emit_all-returns-clause-ops t c =
    let written = left_last c.args.out.now.places.items c.args.depth c.args.out.now.ops.items c.args.parts.now c.loop-i.i c.loop-i.out.ops.items c.loop-i.out.places.items (omega (arith, c.loop-i-test.false)) c.loop-i.invariant in
    on_ok_weaker c.put.result (λ e. e ∙ ap (λ n. n ++ c.args.op ∷ []) written ∙ append_assoc c.args.out.now.ops.items _ (c.args.op ∷ [])) c.put.ensures.ops

pub emit_two-returns-clause-ops : goal.emit_two-returns-clause-ops
emit_two-returns-clause-ops t c =
    on_ok_weaker c.put.result (λ e. pair_emitted (expr_tree c.args.a.now) (expr_tree c.args.b.now) c.args.out.now.places.items c.emit.new.out.places.items c.args.depth c.args.out.now.ops.items c.emit.new.out.ops.items c.emit-2.new.out.ops.items c.put.new.self.ops.items (c.args.op ∷ []) c.in_ok-emit.ensures.ops c.in_ok-emit.ensures.places c.in_ok-emit-2.ensures.ops e) c.put.ensures.ops

pub emit_compare-returns-clause-ops : goal.emit_compare-returns-clause-ops
emit_compare-returns-clause-ops t c =
    let op = c.sign_op-op.result.0 in
    let other = op_where c.sign_op-op.result.1 Not in
    let two = c.emit-2.new.out.ops.items in
    on_ok_weaker c.put_where.result (λ e.
    pair_emitted (expr_tree c.args.a.now) (expr_tree c.args.b.now) c.args.out.now.places.items c.emit.new.out.places.items c.args.depth c.args.out.now.ops.items c.emit.new.out.ops.items two c.put_where.new.self.ops.items (op ∷ other) c.in_ok-emit.ensures.ops c.in_ok-emit.ensures.places c.in_ok-emit-2.ensures.ops (e ∙ ap (λ n. n ++ other) c.in_ok-put.ensures.ops ∙ append_assoc two (op ∷ []) other)
    ∙ ap (λ tail. c.args.out.now.ops.items ++ pair_in c.args.out.now c.args.depth (expr_tree c.args.a.now) (expr_tree c.args.b.now) tail) (sym c.sign_op-op.ensures.ops)) c.put_where.ensures.ops

pub emit_and-returns-clause-ops : goal.emit_and-returns-clause-ops
emit_and-returns-clause-ops t c =
    and_emitted (expr_tree c.args.a.now) (expr_tree c.args.b.now) c.args.out.now.places.items c.leave_room.new.self.places.items c.args.depth c.args.out.now.ops.items c.emit.new.out.ops.items c.leave_room.new.self.ops.items c.emit-2.new.out.ops.items c.leave_room-2.new.self.ops.items c.put.new.self.ops.items c.fill_room.new.self.ops.items c.in_ok-branch.branch c.in_ok-end.end c.address-other.result (Jump 0) (Jump 0) c.in_ok-emit.ensures.ops (c.in_ok-branch.ensures.places ∙ c.in_ok-emit.ensures.places) c.in_ok-branch.ensures.ops c.in_ok-emit-2.ensures.ops c.in_ok-end.ensures.ops c.in_ok-put.ensures.ops c.in_ok-branch.ensures.at c.in_ok-end.ensures.at c.address-other.ensures c.fill_room.ensures.ops

pub emit_or-returns-clause-ops : goal.emit_or-returns-clause-ops
emit_or-returns-clause-ops t c =
    or_emitted (expr_tree c.args.a.now) (expr_tree c.args.b.now) c.args.out.now.places.items c.leave_room-2.new.self.places.items c.args.depth c.args.out.now.ops.items c.emit.new.out.ops.items c.leave_room.new.self.ops.items c.put.new.self.ops.items c.leave_room-2.new.self.ops.items c.emit-2.new.out.ops.items c.fill_room.new.self.ops.items c.in_ok-branch.branch c.in_ok-end.end c.address-other.result (Jump 0) (Jump 0) c.in_ok-emit.ensures.ops (c.in_ok-end.ensures.places ∙ c.in_ok-put.ensures.places ∙ c.in_ok-branch.ensures.places ∙ c.in_ok-emit.ensures.places) c.in_ok-branch.ensures.ops c.in_ok-put.ensures.ops c.in_ok-end.ensures.ops c.in_ok-emit-2.ensures.ops c.in_ok-branch.ensures.at c.in_ok-end.ensures.at c.address-other.ensures c.fill_room.ensures.ops

pub emit_if-returns-clause-ops : goal.emit_if-returns-clause-ops
emit_if-returns-clause-ops t c =
    if_emitted (expr_tree c.args.c.now) (expr_tree c.args.a.now) (expr_tree c.args.b.now) c.args.out.now.places.items c.leave_room.new.self.places.items c.leave_room-2.new.self.places.items c.args.depth c.args.out.now.ops.items c.emit.new.out.ops.items c.leave_room.new.self.ops.items c.emit-2.new.out.ops.items c.leave_room-2.new.self.ops.items c.emit-3.new.out.ops.items c.fill_room.new.self.ops.items c.in_ok-branch.branch c.in_ok-end.end c.address-other.result (Jump 0) (Jump 0) c.in_ok-emit.ensures.ops (c.in_ok-branch.ensures.places ∙ c.in_ok-emit.ensures.places) c.in_ok-branch.ensures.ops c.in_ok-emit-2.ensures.ops (c.in_ok-end.ensures.places ∙ c.in_ok-emit-2.ensures.places) c.in_ok-end.ensures.ops c.in_ok-emit-3.ensures.ops c.in_ok-branch.ensures.at c.in_ok-end.ensures.at c.address-other.ensures c.fill_room.ensures.ops

pub emit_let-returns-clause-ops : goal.emit_let-returns-clause-ops
emit_let-returns-clause-ops t c =
    let bound : c.push.new.self.items ≡ c.args.out.now.places.items ++ c.args.depth ∷ [] = c.in_ok-push.ensures.items ∙ ap (λ ps. ps ++ c.args.depth ∷ []) c.in_ok-emit.ensures.places in
    on_ok_weaker c.put.result (λ e. let_emitted (expr_tree c.args.a.now) (expr_tree c.args.b.now) c.args.out.now.places.items c.push.new.self.items c.args.depth c.args.out.now.ops.items c.emit.new.out.ops.items c.emit-2.new.out.ops.items c.put.new.self.ops.items c.in_ok-emit.ensures.ops bound c.in_ok-emit-2.ensures.ops e) c.put.ensures.ops

pub emit_match-returns-clause-ops : goal.emit_match-returns-clause-ops
emit_match-returns-clause-ops t c =
    let places = c.args.out.now.places.items in
    let d = c.args.depth in
    let bound : c.push-2.new.self.items ≡ places ++ d ∷ (d + 1) ∷ [] =
    c.in_ok-push-2.ensures.items ∙ ap (λ ps. ps ++ (d + 1) ∷ []) (c.in_ok-push.ensures.items ∙ ap (λ ps. ps ++ d ∷ []) (c.in_ok-branch.ensures.places ∙ c.in_ok-emit.ensures.places)) ∙ append_assoc places (d ∷ []) ((d + 1) ∷ []) in
    let same : c.leave_room-2.new.self.places.items ≡ places = grind (arith, common_steps) in
    match_emitted (expr_tree c.args.l.now) (expr_tree c.args.a.now) (expr_tree c.args.b.now) places c.push-2.new.self.items c.leave_room-2.new.self.places.items d c.args.out.now.ops.items c.emit.new.out.ops.items c.leave_room.new.self.ops.items c.emit-2.new.out.ops.items c.put.new.self.ops.items c.leave_room-2.new.self.ops.items c.emit-3.new.out.ops.items c.fill_room.new.self.ops.items c.in_ok-branch.branch c.in_ok-end.end c.address-empty.result (Jump 0) (Jump 0) c.in_ok-emit.ensures.ops bound c.in_ok-branch.ensures.ops c.in_ok-emit-2.ensures.ops c.in_ok-put.ensures.ops c.in_ok-end.ensures.ops same c.in_ok-emit-3.ensures.ops c.in_ok-branch.ensures.at c.in_ok-end.ensures.at c.address-empty.ensures c.fill_room.ensures.ops
