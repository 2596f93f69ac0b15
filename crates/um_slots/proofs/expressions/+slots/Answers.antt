use Rattle.std.proofs.Common.{◌≡◌, ◌+◌, ◌<◌, ℕ, length, map, ◌++◌, Err, sym, subst, arith, rules}
use Rattle.um_tree.specs.ExprTree.{expr_tree, in_order, call, arith as arith_tree, compare, both, either, if, bind, split, cons, record_expr}
use Rattle.um_tree.specs.declared.expression.Expr.{the_lemmas}
use Rattle.um_tree.specs.ProgramTree.{record_tree}
use Rattle.um_slots.specs.Keys.{hole_keys}
use Rattle.um_slots.specs.Contexts.{callee_in, holes_in, keys_in, all_keys_in}
use Rattle.um_slots.specs.Slotting.{HaveSlots}
use Rattle.um_slots.proofs.TableLaws.{slots_both, slots_stop}
use Rattle.um_slots.proofs.SlotsLeft.{slots_left_stops, slots_left_next}
use Rattle.um_slots.proofs.expressions.+slots.Goals as goal

pub expr_slots-returns-in-Arith-clause-slots : goal.expr_slots-returns-in-Arith-clause-slots
expr_slots-returns-in-Arith-clause-slots t c =
    let e = c.args.e.now in
    let seen : expr_tree e ≡ arith_tree e.at c.in-Arith.field-0 (expr_tree c.deref-in-Arith.result.now) (expr_tree c.deref-in-Arith-2.result.now) = search (rules, the_lemmas) in
    rw seen c.pair_slots.ensures.slots

pub expr_slots-returns-in-Compare-clause-slots : goal.expr_slots-returns-in-Compare-clause-slots
expr_slots-returns-in-Compare-clause-slots t c =
    let e = c.args.e.now in
    let seen : expr_tree e ≡ compare e.at c.in-Compare.field-0 (expr_tree c.deref-in-Compare.result.now) (expr_tree c.deref-in-Compare-2.result.now) = search (rules, the_lemmas) in
    rw seen c.pair_slots-in-Compare.ensures.slots

pub expr_slots-returns-in-And-clause-slots : goal.expr_slots-returns-in-And-clause-slots
expr_slots-returns-in-And-clause-slots t c =
    let e = c.args.e.now in
    let seen : expr_tree e ≡ both e.at (expr_tree c.deref-in-And.result.now) (expr_tree c.deref-in-And-2.result.now) = search (rules, the_lemmas) in
    rw seen c.pair_slots-in-And.ensures.slots

pub expr_slots-returns-in-Or-clause-slots : goal.expr_slots-returns-in-Or-clause-slots
expr_slots-returns-in-Or-clause-slots t c =
    let e = c.args.e.now in
    let seen : expr_tree e ≡ either e.at (expr_tree c.deref-in-Or.result.now) (expr_tree c.deref-in-Or-2.result.now) = search (rules, the_lemmas) in
    rw seen c.pair_slots-in-Or.ensures.slots

pub expr_slots-returns-in-Let-clause-slots : goal.expr_slots-returns-in-Let-clause-slots
expr_slots-returns-in-Let-clause-slots t c =
    let e = c.args.e.now in
    let seen : expr_tree e ≡ bind e.at (expr_tree c.deref-in-Let.result.now) (expr_tree c.deref-in-Let-2.result.now) = search (rules, the_lemmas) in
    rw seen c.pair_slots-in-Let.ensures.slots

pub expr_slots-returns-in-Cons-clause-slots : goal.expr_slots-returns-in-Cons-clause-slots
expr_slots-returns-in-Cons-clause-slots t c =
    let e = c.args.e.now in
    let seen : expr_tree e ≡ cons e.at (expr_tree c.deref-in-Cons.result.now) (expr_tree c.deref-in-Cons-2.result.now) = search (rules, the_lemmas) in
    rw seen c.pair_slots-in-Cons.ensures.slots

pub expr_slots-returns-in_err-expr_slots-in-If-clause-slots : goal.expr_slots-returns-in_err-expr_slots-in-If-clause-slots
expr_slots-returns-in_err-expr_slots-in-If-clause-slots t c =
    let e = c.args.e.now in
    let environment = c.args.environment.now in
    let old = c.args.slots.now in
    let n = length old.holes.items in
    let d = expr_tree c.deref-in-If.result.now in
    let a = expr_tree c.in-If.a.value in
    let b = expr_tree c.in-If.b.value in
    let m = n + holes_in environment d in
    let seen : expr_tree e ≡ if e.at d a b = search (rules, the_lemmas) in
    let others = keys_in environment m a ++ keys_in environment (m + holes_in environment a) b in
    let err = c.in_err-expr_slots-in-If.field-0.0 in
    let new = c.expr_slots-in-If.new.slots in
    let stops : HaveSlots (keys_in environment n (expr_tree e)) old new (Err err) =
    subst (λ x. HaveSlots (keys_in environment n x) old new (Err err)) (sym seen) (slots_stop (keys_in environment n d) others old new err c.in_err-expr_slots-in-If.ensures.slots) in
    search (rules, stops)

pub expr_slots-returns-in_ok-expr_slots-in-If-clause-slots : goal.expr_slots-returns-in_ok-expr_slots-in-If-clause-slots
expr_slots-returns-in_ok-expr_slots-in-If-clause-slots t c =
    let e = c.args.e.now in
    let environment = c.args.environment.now in
    let old = c.args.slots.now in
    let n = length old.holes.items in
    let d = expr_tree c.deref-in-If.result.now in
    let a = expr_tree c.deref-in-If-2.result.now in
    let b = expr_tree c.deref-in-If-3.result.now in
    let m = n + holes_in environment d in
    let seen : expr_tree e ≡ if e.at d a b = search (rules, the_lemmas) in
    let others = keys_in environment m a ++ keys_in environment (m + holes_in environment a) b in
    let mid = c.expr_slots-in-If.new.slots in
    let new = c.pair_slots-in-If.new.slots in
    let r = c.pair_slots-in-If.result in
    let rest : HaveSlots others mid new r =
    subst (λ (k : ℕ). HaveSlots (keys_in environment k a ++ keys_in environment (k + holes_in environment a) b) mid new r) c.in_ok-expr_slots-in-If.ensures.counted c.pair_slots-in-If.ensures.slots in
    subst (λ x. HaveSlots (keys_in environment n x) old new r) (sym seen) (slots_both (keys_in environment n d) others old mid new tt r c.in_ok-expr_slots-in-If.ensures.slots rest)

pub expr_slots-returns-in_err-expr_slots-in-Match-clause-slots : goal.expr_slots-returns-in_err-expr_slots-in-Match-clause-slots
expr_slots-returns-in_err-expr_slots-in-Match-clause-slots t c =
    let e = c.args.e.now in
    let environment = c.args.environment.now in
    let old = c.args.slots.now in
    let n = length old.holes.items in
    let d = expr_tree c.deref-in-Match.result.now in
    let a = expr_tree c.in-Match.a.value in
    let b = expr_tree c.in-Match.b.value in
    let m = n + holes_in environment d in
    let seen : expr_tree e ≡ split e.at d a b = search (rules, the_lemmas) in
    let others = keys_in environment m a ++ keys_in environment (m + holes_in environment a) b in
    let err = c.in_err-expr_slots-in-Match.field-0.0 in
    let new = c.expr_slots-in-Match.new.slots in
    let stops : HaveSlots (keys_in environment n (expr_tree e)) old new (Err err) =
    subst (λ x. HaveSlots (keys_in environment n x) old new (Err err)) (sym seen) (slots_stop (keys_in environment n d) others old new err c.in_err-expr_slots-in-Match.ensures.slots) in
    search (rules, stops)

pub expr_slots-returns-in_ok-expr_slots-in-Match-clause-slots : goal.expr_slots-returns-in_ok-expr_slots-in-Match-clause-slots
expr_slots-returns-in_ok-expr_slots-in-Match-clause-slots t c =
    let e = c.args.e.now in
    let environment = c.args.environment.now in
    let old = c.args.slots.now in
    let n = length old.holes.items in
    let d = expr_tree c.deref-in-Match.result.now in
    let a = expr_tree c.deref-in-Match-2.result.now in
    let b = expr_tree c.deref-in-Match-3.result.now in
    let m = n + holes_in environment d in
    let seen : expr_tree e ≡ split e.at d a b = search (rules, the_lemmas) in
    let others = keys_in environment m a ++ keys_in environment (m + holes_in environment a) b in
    let mid = c.expr_slots-in-Match.new.slots in
    let new = c.pair_slots-in-Match.new.slots in
    let r = c.pair_slots-in-Match.result in
    let rest : HaveSlots others mid new r =
    subst (λ (k : ℕ). HaveSlots (keys_in environment k a ++ keys_in environment (k + holes_in environment a) b) mid new r) c.in_ok-expr_slots-in-Match.ensures.counted c.pair_slots-in-Match.ensures.slots in
    subst (λ x. HaveSlots (keys_in environment n x) old new r) (sym seen) (slots_both (keys_in environment n d) others old mid new tt r c.in_ok-expr_slots-in-Match.ensures.slots rest)

pub expr_slots-returns-in-Call-clause-slots : goal.expr_slots-returns-in-Call-clause-slots
expr_slots-returns-in-Call-clause-slots t c =
    let e = c.args.e.now in
    let environment = c.args.environment.now in
    let old = c.args.slots.now in
    let n = length old.holes.items in
    let es = in_order (map expr_tree c.deref-in-Call.result.now) in
    let seen : expr_tree e ≡ call e.at c.in-Call.j es = search (rules, the_lemmas) in
    let new = c.use_slots.new.slots in
    let r = c.use_slots.result in
    let here = subst (λ (k : ℕ). HaveSlots (hole_keys n k ++ all_keys_in environment (n + k) es) old new r) (c.callee_units-many.ensures environment.recurs) c.use_slots.ensures.slots in
    subst (λ x. HaveSlots (keys_in environment n x) old new r) (sym seen) here

pub expr_slots-returns-in-Rec-clause-slots : goal.expr_slots-returns-in-Rec-clause-slots
expr_slots-returns-in-Rec-clause-slots t c =
    let e = c.args.e.now in
    let environment = c.args.environment.now in
    let old = c.args.slots.now in
    let n = length old.holes.items in
    let es = in_order (map expr_tree c.deref-in-Rec.result.now) in
    let seen : expr_tree e ≡ record_expr e.at c.in-Rec.r es = search (rules, the_lemmas) in
    let new = c.use_slots-in-Rec.new.slots in
    let r = c.use_slots-in-Rec.result in
    let here = subst (λ (k : ℕ). HaveSlots (hole_keys n k ++ all_keys_in environment (n + k) es) old new r) c.record_units-many.ensures c.use_slots-in-Rec.ensures.slots in
    subst (λ x. HaveSlots (keys_in environment n x) old new r) (sym seen) here

pub pair_slots-returns-in_err-expr_slots-clause-slots : goal.pair_slots-returns-in_err-expr_slots-clause-slots
pair_slots-returns-in_err-expr_slots-clause-slots t c =
    let environment = c.args.environment.now in
    let old = c.args.slots.now in
    let n = length old.holes.items in
    let a = expr_tree c.args.a.now in
    let b = expr_tree c.args.b.now in
    let err = c.in_err-expr_slots.field-0.0 in
    let new = c.expr_slots.new.slots in
    let others = keys_in environment (n + holes_in environment a) b in
    let stops : HaveSlots (keys_in environment n a ++ others) old new (Err err) = slots_stop (keys_in environment n a) others old new err c.in_err-expr_slots.ensures.slots in
    search (rules, stops)

pub pair_slots-returns-clause-slots : goal.pair_slots-returns-clause-slots
pair_slots-returns-clause-slots t c =
    let environment = c.args.environment.now in
    let old = c.args.slots.now in
    let n = length old.holes.items in
    let a = expr_tree c.args.a.now in
    let b = expr_tree c.args.b.now in
    let mid = c.expr_slots.new.slots in
    let new = c.expr_slots-2.new.slots in
    let r = c.expr_slots-2.result in
    let rest = subst (λ (k : ℕ). HaveSlots (keys_in environment k b) mid new r) c.in_ok-expr_slots.ensures.counted c.expr_slots-2.ensures.slots in
    slots_both (keys_in environment n a) (keys_in environment (n + holes_in environment a) b) old mid new tt r c.in_ok-expr_slots.ensures.slots rest

pub use_slots-returns-in_err-add_holes-clause-slots : goal.use_slots-returns-in_err-add_holes-clause-slots
use_slots-returns-in_err-add_holes-clause-slots t c =
    let environment = c.args.environment.now in
    let old = c.args.slots.now in
    let n = length old.holes.items in
    let many = c.args.many in
    let es = in_order (map expr_tree c.args.parts.now) in
    let err = c.in_err-add_holes.field-0.0 in
    let new = c.add_holes.new.self in
    let others = all_keys_in environment (n + many) es in
    let stops : HaveSlots (hole_keys n many ++ others) old new (Err err) = slots_stop (hole_keys n many) others old new err c.in_err-add_holes.ensures.slots in
    search (rules, stops)

pub use_slots-returns-clause-slots : goal.use_slots-returns-clause-slots
use_slots-returns-clause-slots t c =
    let environment = c.args.environment.now in
    let old = c.args.slots.now in
    let n = length old.holes.items in
    let many = c.args.many in
    let es = in_order (map expr_tree c.args.parts.now) in
    let mid = c.add_holes.new.self in
    let new = c.exprs_slots.new.slots in
    let r = c.exprs_slots.result in
    let rest = subst (λ (k : ℕ). HaveSlots (all_keys_in environment k es) mid new r) c.in_ok-add_holes.ensures.counted c.exprs_slots.ensures.slots in
    slots_both (hole_keys n many) (all_keys_in environment (n + many) es) old mid new tt r c.in_ok-add_holes.ensures.slots rest

pub exprs_slots-returns-in_err-expr_slots-clause-slots : goal.exprs_slots-returns-in_err-expr_slots-clause-slots
exprs_slots-returns-in_err-expr_slots-clause-slots t c =
    let es = c.args.parts.now in
    let environment = c.args.environment.now in
    let i = c.loop-i.i in
    let below : i < length es = omega (arith, c.loop-i-test.true) in
    let stops = slots_left_stops (map record_tree environment.records.now) (callee_in environment) c.args.slots.now es i c.index-parts-i.result c.loop-i.slots below c.index-parts-i.is c.loop-i.invariant c.expr_slots.new.slots c.in_err-expr_slots.field-0.0 c.in_err-expr_slots.ensures.slots in
    search (rules, stops)

pub exprs_slots-loop-i-preserved : goal.exprs_slots-loop-i-preserved
exprs_slots-loop-i-preserved t c =
    let es = c.args.parts.now in
    let environment = c.args.environment.now in
    let i = c.loop-i.i in
    let below : i < length es = omega (arith, c.loop-i-test.true) in
    slots_left_next (map record_tree environment.records.now) (callee_in environment) c.args.slots.now es i c.index-parts-i.result c.loop-i.slots below c.index-parts-i.is c.loop-i.invariant c.expr_slots.new.slots c.in_ok-expr_slots.ensures.slots c.in_ok-expr_slots.ensures.counted
