use Rattle.std.proofs.Common.{◌≡◌, ◌+◌, ◌<◌, length, map, sym, ap, subst, ◌∙◌, [], ◌∷◌, ◌++◌, Ok, arith, rules, w32, SFits}
use Rattle.std.proofs.lemmas.Int.{to_z-of_z}
use Rattle.std.proofs.lemmas.List.{map-append}
use Rattle.std.proofs.lemmas.Result.{IfOk-weaker}
use Rattle.um_tree.specs.TypeTree.{type_tree}
use Rattle.um_tree.specs.ExprTree.{expr_tree, in_order, pown, arith as arith_tree, compare, both, either, bind, cons}
use Rattle.um_tree.specs.declared.expression.Expr.{the_lemmas}
use Rattle.um_rows.specs.Rules.{item, formed, pown_rule, call_rule}
use Rattle.um_rows.specs.Walk.{Walked, AllWalked, PairWalked, then, node, part_node}
use Rattle.um_rows.specs.Reached.{StopsAs, IsReached}
use Rattle.um_slots.specs.Holes.{callee_holes}
use Rattle.um_rows.specs.Body.{called, offer, body_walk, body_walk_pair, body_walk_all, body_holes}
use Rattle.um_rows.specs.Kept.{place, body_kept, body_parts_kept, body_pair_kept}
use Rattle.um_rows.specs.NodeTypes.{typed_node}
use Rattle.um_rows.proofs.KeptParts.{place_is, kept_own, kept_after}
use Rattle.um_rows.proofs.WalkedParts.{IsLeft, room_behind, room_behind_pair, left_next, reached_second, bind_stops, scope_of_split}
use Rattle.um_rows.proofs.walk.+walk.Goals as goal

pub derive_node-number-requires : goal.derive_node-number-requires
derive_node-number-requires t c = search (rules, the_lemmas)

pub derive_node-nil-requires : goal.derive_node-nil-requires
derive_node-nil-requires t c = search (rules, the_lemmas)

pub derive_node-derive_call-requires : goal.derive_node-derive_call-requires
derive_node-derive_call-requires t c = search (rules, the_lemmas)

pub derive_node-derive_list-requires : goal.derive_node-derive_list-requires
derive_node-derive_list-requires t c = search (rules, the_lemmas)

pub derive_node-derive_record-requires : goal.derive_node-derive_record-requires
derive_node-derive_record-requires t c = search (rules, the_lemmas)

pub derive_node-derive_unary-requires : goal.derive_node-derive_unary-requires
derive_node-derive_unary-requires t c = search (rules, the_lemmas)

pub derive_node-derive_unary-requires-in-Not : goal.derive_node-derive_unary-requires-in-Not
derive_node-derive_unary-requires-in-Not t c = search (rules, the_lemmas)

pub derive_node-derive_unary-requires-in-Pow : goal.derive_node-derive_unary-requires-in-Pow
derive_node-derive_unary-requires-in-Pow t c = search (rules, the_lemmas)

pub derive_node-derive_unary-requires-in-Field : goal.derive_node-derive_unary-requires-in-Field
derive_node-derive_unary-requires-in-Field t c = search (rules, the_lemmas)

pub derive_node-derive_binary-requires : goal.derive_node-derive_binary-requires
derive_node-derive_binary-requires t c = search (rules, the_lemmas)

pub derive_node-derive_binary-requires-in-Compare : goal.derive_node-derive_binary-requires-in-Compare
derive_node-derive_binary-requires-in-Compare t c = search (rules, the_lemmas)

pub derive_node-derive_binary-requires-in-And : goal.derive_node-derive_binary-requires-in-And
derive_node-derive_binary-requires-in-And t c = search (rules, the_lemmas)

pub derive_node-derive_binary-requires-in-Or : goal.derive_node-derive_binary-requires-in-Or
derive_node-derive_binary-requires-in-Or t c = search (rules, the_lemmas)

pub derive_node-derive_binary-requires-in-Cons : goal.derive_node-derive_binary-requires-in-Cons
derive_node-derive_binary-requires-in-Cons t c = search (rules, the_lemmas)

pub derive_node-derive_if-requires : goal.derive_node-derive_if-requires
derive_node-derive_if-requires t c = search (rules, the_lemmas)

pub derive_node-derive_let-requires : goal.derive_node-derive_let-requires
derive_node-derive_let-requires t c = search (rules, the_lemmas)

pub derive_node-derive_match-requires : goal.derive_node-derive_match-requires
derive_node-derive_match-requires t c = search (rules, the_lemmas)

pub derive_node-returns-in-Bool-clause-reached : goal.derive_node-returns-in-Bool-clause-reached
derive_node-returns-in-Bool-clause-reached t c = search (rules, the_lemmas)

pub derive_node-returns-in-Bool-clause-kept : goal.derive_node-returns-in-Bool-clause-kept
derive_node-returns-in-Bool-clause-kept t c = search (rules, the_lemmas)

pub derive_node-returns-in-Num-clause-reached : goal.derive_node-returns-in-Num-clause-reached
derive_node-returns-in-Num-clause-reached t c = search (rules, the_lemmas)

pub derive_node-returns-in-Num-clause-kept : goal.derive_node-returns-in-Num-clause-kept
derive_node-returns-in-Num-clause-kept t c = search (rules, the_lemmas)

pub derive_node-returns-in-Local-clause-reached : goal.derive_node-returns-in-Local-clause-reached
derive_node-returns-in-Local-clause-reached t c = search (rules, the_lemmas)

pub derive_node-returns-in-Local-clause-kept : goal.derive_node-returns-in-Local-clause-kept
derive_node-returns-in-Local-clause-kept t c = search (rules, the_lemmas)

pub derive_node-returns-in-Nil-clause-reached : goal.derive_node-returns-in-Nil-clause-reached
derive_node-returns-in-Nil-clause-reached t c = search (rules, the_lemmas)

pub derive_node-returns-in-Nil-clause-kept : goal.derive_node-returns-in-Nil-clause-kept
derive_node-returns-in-Nil-clause-kept t c = search (rules, the_lemmas)

pub derive_node-returns-in-Call-clause-reached : goal.derive_node-returns-in-Call-clause-reached
derive_node-returns-in-Call-clause-reached t c = search (rules, the_lemmas)

pub derive_node-returns-in-Call-clause-kept : goal.derive_node-returns-in-Call-clause-kept
derive_node-returns-in-Call-clause-kept t c = search (rules, the_lemmas)

pub derive_node-returns-in-List-clause-reached : goal.derive_node-returns-in-List-clause-reached
derive_node-returns-in-List-clause-reached t c = search (rules, the_lemmas)

pub derive_node-returns-in-List-clause-kept : goal.derive_node-returns-in-List-clause-kept
derive_node-returns-in-List-clause-kept t c = search (rules, the_lemmas)

pub derive_node-returns-in-Rec-clause-reached : goal.derive_node-returns-in-Rec-clause-reached
derive_node-returns-in-Rec-clause-reached t c = search (rules, the_lemmas)

pub derive_node-returns-in-Rec-clause-kept : goal.derive_node-returns-in-Rec-clause-kept
derive_node-returns-in-Rec-clause-kept t c = search (rules, the_lemmas)

pub derive_node-returns-in-Neg-clause-reached : goal.derive_node-returns-in-Neg-clause-reached
derive_node-returns-in-Neg-clause-reached t c = search (rules, the_lemmas)

pub derive_node-returns-in-Neg-clause-kept : goal.derive_node-returns-in-Neg-clause-kept
derive_node-returns-in-Neg-clause-kept t c = search (rules, the_lemmas)

pub derive_node-returns-in-Not-clause-reached : goal.derive_node-returns-in-Not-clause-reached
derive_node-returns-in-Not-clause-reached t c = search (rules, the_lemmas)

pub derive_node-returns-in-Not-clause-kept : goal.derive_node-returns-in-Not-clause-kept
derive_node-returns-in-Not-clause-kept t c = search (rules, the_lemmas)

pub derive_node-returns-in-Pow-clause-kept : goal.derive_node-returns-in-Pow-clause-kept
derive_node-returns-in-Pow-clause-kept t c = search (rules, the_lemmas)

pub derive_node-returns-in-Field-clause-reached : goal.derive_node-returns-in-Field-clause-reached
derive_node-returns-in-Field-clause-reached t c = search (rules, the_lemmas)

pub derive_node-returns-in-Field-clause-kept : goal.derive_node-returns-in-Field-clause-kept
derive_node-returns-in-Field-clause-kept t c = search (rules, the_lemmas)

pub derive_node-returns-in-Arith-clause-kept : goal.derive_node-returns-in-Arith-clause-kept
derive_node-returns-in-Arith-clause-kept t c = search (rules, the_lemmas)

pub derive_node-returns-in-Compare-clause-kept : goal.derive_node-returns-in-Compare-clause-kept
derive_node-returns-in-Compare-clause-kept t c = search (rules, the_lemmas)

pub derive_node-returns-in-And-clause-kept : goal.derive_node-returns-in-And-clause-kept
derive_node-returns-in-And-clause-kept t c = search (rules, the_lemmas)

pub derive_node-returns-in-Or-clause-kept : goal.derive_node-returns-in-Or-clause-kept
derive_node-returns-in-Or-clause-kept t c = search (rules, the_lemmas)

pub derive_node-returns-in-Cons-clause-kept : goal.derive_node-returns-in-Cons-clause-kept
derive_node-returns-in-Cons-clause-kept t c = search (rules, the_lemmas)

pub derive_node-returns-in-If-clause-reached : goal.derive_node-returns-in-If-clause-reached
derive_node-returns-in-If-clause-reached t c = search (rules, the_lemmas)

pub derive_node-returns-in-If-clause-kept : goal.derive_node-returns-in-If-clause-kept
derive_node-returns-in-If-clause-kept t c = search (rules, the_lemmas)

pub derive_node-returns-in-Let-clause-reached : goal.derive_node-returns-in-Let-clause-reached
derive_node-returns-in-Let-clause-reached t c = search (rules, the_lemmas)

pub derive_node-returns-in-Let-clause-kept : goal.derive_node-returns-in-Let-clause-kept
derive_node-returns-in-Let-clause-kept t c = search (rules, the_lemmas)

pub derive_node-returns-in-Match-clause-reached : goal.derive_node-returns-in-Match-clause-reached
derive_node-returns-in-Match-clause-reached t c = search (rules, the_lemmas)

pub derive_node-returns-in-Match-clause-kept : goal.derive_node-returns-in-Match-clause-kept
derive_node-returns-in-Match-clause-kept t c = search (rules, the_lemmas)

pub derive_node-returns-in-Pow-clause-reached : goal.derive_node-returns-in-Pow-clause-reached
derive_node-returns-in-Pow-clause-reached t c =
    let e = c.args.e.now in
    let records = c.args.walk.now.records.now in
    let schemes = c.args.walk.now.schemes.now in
    let context = c.args.walk.now.context in
    let p = c.args.state.now.progress in
    let vars = map type_tree c.args.state.now.scope.items in
    let k = c.in-Pow.k in
    let a_is = expr_tree c.deref-in-Pow.result.now in
    let seen : expr_tree e ≡ pown e.at a_is k = search (rules, the_lemmas) in
    let fits : SFits w32 k = search rules in
    rw seen (subst (λ i. IsReached (part_node (body_walk records schemes context p.rows.items p.holes vars a_is) (λ t. pown_rule e.at i t)) c.derive_unary-in-Pow.new.state.progress c.derive_unary-in-Pow.result) (to_z-of_z w32 k fits) c.derive_unary-in-Pow.ensures.reached)

pub derive_node-returns-in-Arith-clause-reached : goal.derive_node-returns-in-Arith-clause-reached
derive_node-returns-in-Arith-clause-reached t c =
    let e = c.args.e.now in
    let seen : expr_tree e ≡ arith_tree e.at c.in-Arith.op (expr_tree c.deref-in-Arith.result.now) (expr_tree c.deref-in-Arith-2.result.now) = search (rules, the_lemmas) in
    rw seen c.derive_binary.ensures.reached

pub derive_node-returns-in-Compare-clause-reached : goal.derive_node-returns-in-Compare-clause-reached
derive_node-returns-in-Compare-clause-reached t c =
    let e = c.args.e.now in
    let seen : expr_tree e ≡ compare e.at c.in-Compare.field-0 (expr_tree c.deref-in-Compare.result.now) (expr_tree c.deref-in-Compare-2.result.now) = search (rules, the_lemmas) in
    rw seen c.derive_binary-in-Compare.ensures.reached

pub derive_node-returns-in-And-clause-reached : goal.derive_node-returns-in-And-clause-reached
derive_node-returns-in-And-clause-reached t c =
    let e = c.args.e.now in
    let seen : expr_tree e ≡ both e.at (expr_tree c.deref-in-And.result.now) (expr_tree c.deref-in-And-2.result.now) = search (rules, the_lemmas) in
    rw seen c.derive_binary-in-And.ensures.reached

pub derive_node-returns-in-Or-clause-reached : goal.derive_node-returns-in-Or-clause-reached
derive_node-returns-in-Or-clause-reached t c =
    let e = c.args.e.now in
    let seen : expr_tree e ≡ either e.at (expr_tree c.deref-in-Or.result.now) (expr_tree c.deref-in-Or-2.result.now) = search (rules, the_lemmas) in
    rw seen c.derive_binary-in-Or.ensures.reached

pub derive_node-returns-in-Cons-clause-reached : goal.derive_node-returns-in-Cons-clause-reached
derive_node-returns-in-Cons-clause-reached t c =
    let e = c.args.e.now in
    let seen : expr_tree e ≡ cons e.at (expr_tree c.deref-in-Cons.result.now) (expr_tree c.deref-in-Cons-2.result.now) = search (rules, the_lemmas) in
    rw seen c.derive_binary-in-Cons.ensures.reached

pub derive_kept-returns-clause-kept : goal.derive_kept-returns-clause-kept
derive_kept-returns-clause-kept t c =
    let walk = c.args.walk.now in
    let records = walk.records.now in
    let schemes = walk.schemes.now in
    let context = walk.context in
    let p = c.args.state.now.progress in
    let scope = c.args.state.now.scope.items in
    let vars = map type_tree scope in
    let old = map typed_node c.args.state.now.kept.items in
    let e = c.args.e.now in
    let new = c.derive_node.new.state in
    let own : Walked = record { type = type_tree c.in_ok-ty.ty; rows = new.progress.rows.items; holes = new.progress.holes } in
    let parts = body_parts_kept walk.keep records schemes context p.rows.items p.holes vars (expr_tree e) in
    let walked = body_walk records schemes context p.rows.items p.holes vars (expr_tree e) in
    IfOk-weaker c.keep.result _ _ (λ ty last. kept_own walk.keep (place (expr_tree e)) e.at walked own old (map typed_node new.kept.items) (map typed_node c.keep.new.nodes.items) parts (place_is e) c.in_ok-ty.ensures.reached c.in_ok-ty.ensures.kept last) c.keep.ensures.kept

pub derive_pair-derive-requires-2 : goal.derive_pair-derive-requires-2
derive_pair-derive-requires-2 t c =
    let records = c.args.walk.now.records.now in
    let schemes = c.args.walk.now.schemes.now in
    let context = c.args.walk.now.context in
    let p = c.args.state.now.progress in
    let limit = length context.holes.items in
    let vars = map type_tree c.args.state.now.scope.items in
    let new = c.derive.new.state.progress in
    let a_is = expr_tree c.args.a.now in
    let first : body_walk records schemes context p.rows.items p.holes vars a_is ≡ Ok (record { type = type_tree c.in_ok-first.first; rows = new.rows.items; holes = new.holes }) = search rules in
    let behind = room_behind records schemes context p.rows.items p.holes vars a_is (record { type = type_tree c.in_ok-first.first; rows = new.rows.items; holes = new.holes }) (body_holes records schemes context (expr_tree c.args.b.now)) limit first c.requires.room in
    (search (rules, the_lemmas), behind)

pub derive_pair-returns-in-Ok-clause-kept : goal.derive_pair-returns-in-Ok-clause-kept
derive_pair-returns-in-Ok-clause-kept t c =
    let walk = c.args.walk.now in
    let records = walk.records.now in
    let schemes = walk.schemes.now in
    let context = walk.context in
    let p = c.args.state.now.progress in
    let scope = c.args.state.now.scope.items in
    let vars = map type_tree scope in
    let old = map typed_node c.args.state.now.kept.items in
    let a_is = expr_tree c.args.a.now in
    let b_is = expr_tree c.args.b.now in
    let new = c.derive.new.state in
    let last = map typed_node c.derive-2.new.state.kept.items in
    let first : Walked = record { type = type_tree c.in_ok-first.first; rows = new.progress.rows.items; holes = new.progress.holes } in
    let after = subst (λ xs. last ≡ map typed_node new.kept.items ++ body_kept walk.keep records schemes context first.rows first.holes (map type_tree xs) b_is) c.in_ok-first.ensures.scope c.in-Ok.ensures.kept in
    kept_after (body_walk records schemes context p.rows.items p.holes vars a_is) first (λ (x : Walked). body_kept walk.keep records schemes context x.rows x.holes vars b_is) old (map typed_node new.kept.items) last (body_kept walk.keep records schemes context p.rows.items p.holes vars a_is) c.in_ok-first.ensures.reached c.in_ok-first.ensures.kept after

pub derive_if-derive_pair-requires : goal.derive_if-derive_pair-requires
derive_if-derive_pair-requires t c =
    let records = c.args.walk.now.records.now in
    let schemes = c.args.walk.now.schemes.now in
    let context = c.args.walk.now.context in
    let p = c.args.state.now.progress in
    let limit = length context.holes.items in
    let vars = map type_tree c.args.state.now.scope.items in
    let new = c.derive.new.state.progress in
    let a_is = expr_tree c.args.c.now in
    let first : body_walk records schemes context p.rows.items p.holes vars a_is ≡ Ok (record { type = type_tree c.in_ok-test.test; rows = new.rows.items; holes = new.holes }) = search rules in
    let behind = room_behind records schemes context p.rows.items p.holes vars a_is (record { type = type_tree c.in_ok-test.test; rows = new.rows.items; holes = new.holes }) (body_holes records schemes context (expr_tree c.args.a.now) + body_holes records schemes context (expr_tree c.args.b.now)) limit first c.requires.room in
    (search (rules, the_lemmas), behind)

pub derive_if-returns-in-Ok-clause-kept : goal.derive_if-returns-in-Ok-clause-kept
derive_if-returns-in-Ok-clause-kept t c =
    let walk = c.args.walk.now in
    let records = walk.records.now in
    let schemes = walk.schemes.now in
    let context = walk.context in
    let p = c.args.state.now.progress in
    let scope = c.args.state.now.scope.items in
    let vars = map type_tree scope in
    let old = map typed_node c.args.state.now.kept.items in
    let test_is = expr_tree c.args.c.now in
    let a_is = expr_tree c.args.a.now in
    let b_is = expr_tree c.args.b.now in
    let new = c.derive.new.state in
    let last = map typed_node c.derive_pair.new.state.kept.items in
    let first : Walked = record { type = type_tree c.in_ok-test.test; rows = new.progress.rows.items; holes = new.progress.holes } in
    let after = subst (λ xs. last ≡ map typed_node new.kept.items ++ body_pair_kept walk.keep records schemes context first.rows first.holes (map type_tree xs) a_is b_is) c.in_ok-test.ensures.scope c.in-Ok.ensures.kept in
    let kept = kept_after (body_walk records schemes context p.rows.items p.holes vars test_is) first (λ (x : Walked). body_pair_kept walk.keep records schemes context x.rows x.holes vars a_is b_is) old (map typed_node new.kept.items) last (body_kept walk.keep records schemes context p.rows.items p.holes vars test_is) c.in_ok-test.ensures.reached c.in_ok-test.ensures.kept after in
    IfOk-weaker c.condition-whole.result _ _ (λ ty fits. kept) c.condition-whole.ensures.fits

pub derive_let-derive-requires-2 : goal.derive_let-derive-requires-2
derive_let-derive-requires-2 t c =
    let records = c.args.walk.now.records.now in
    let schemes = c.args.walk.now.schemes.now in
    let context = c.args.walk.now.context in
    let p = c.args.state.now.progress in
    let limit = length context.holes.items in
    let vars = map type_tree c.args.state.now.scope.items in
    let new = c.derive.new.state.progress in
    let a_is = expr_tree c.args.a.now in
    let first : body_walk records schemes context p.rows.items p.holes vars a_is ≡ Ok (record { type = type_tree c.in_ok-bound.bound; rows = new.rows.items; holes = new.holes }) = search rules in
    let behind = room_behind records schemes context p.rows.items p.holes vars a_is (record { type = type_tree c.in_ok-bound.bound; rows = new.rows.items; holes = new.holes }) (body_holes records schemes context (expr_tree c.args.b.now)) limit first c.requires.room in
    (search (rules, the_lemmas), behind)

pub derive_let-returns-in_err-whole-clause-reached : goal.derive_let-returns-in_err-whole-clause-reached
derive_let-returns-in_err-whole-clause-reached t c =
    let records = c.args.walk.now.records.now in
    let schemes = c.args.walk.now.schemes.now in
    let context = c.args.walk.now.context in
    let p = c.args.state.now.progress in
    let scope = c.args.state.now.scope.items in
    let vars = map type_tree scope in
    let new = c.derive.new.state.progress in
    let bound = c.in_ok-bound.bound in
    let a_is = expr_tree c.args.a.now in
    let b_is = expr_tree c.args.b.now in
    let first : body_walk records schemes context p.rows.items p.holes vars a_is ≡ Ok (record { type = type_tree bound; rows = new.rows.items; holes = new.holes }) = search rules in
    let items : c.push.new.self.items ≡ scope ++ bound ∷ [] = search rules in
    let err = c.in_err-whole.field-0.0 in
    let inner = subst (λ vs. StopsAs (body_walk records schemes context new.rows.items new.holes (map type_tree vs) b_is) err) items c.in_err-whole.ensures.reached in
    let stops : StopsAs (body_walk records schemes context p.rows.items p.holes vars (bind c.args.at a_is b_is)) err = bind_stops records schemes context p.rows.items p.holes scope c.derive-2.new.state.progress c.from_residual-in_err-whole.result c.args.at a_is b_is bound new err first inner in
    search (rules, stops)

pub derive_let-returns-clause-reached : goal.derive_let-returns-clause-reached
derive_let-returns-clause-reached t c =
    let walk = c.args.walk.now in
    let records = walk.records.now in
    let schemes = walk.schemes.now in
    let context = walk.context in
    let p = c.args.state.now.progress in
    let scope = c.args.state.now.scope.items in
    let vars = map type_tree scope in
    let bound = c.in_ok-bound.bound in
    let b_is = expr_tree c.args.b.now in
    let new = c.derive.new.state.progress in
    let end = c.derive-2.new.state.progress in
    let first : Walked = record { type = type_tree bound; rows = new.rows.items; holes = new.holes } in
    let second : Walked = record { type = type_tree c.in_ok-whole.whole; rows = end.rows.items; holes = end.holes } in
    let pushed : c.push.new.self.items ≡ scope ++ bound ∷ [] = search rules in
    let wider = ap (map type_tree) pushed ∙ map-append type_tree scope (bound ∷ []) in
    let walked : body_walk records schemes context first.rows first.holes (vars ++ type_tree bound ∷ []) b_is ≡ Ok second = subst (λ vs. body_walk records schemes context first.rows first.holes vs b_is ≡ Ok second) wider c.in_ok-whole.ensures.reached in
    let own = λ (y : Walked). node y.rows y.holes (formed c.args.at [] y.type) in
    let last = reached_second (body_walk records schemes context first.rows first.holes (vars ++ type_tree bound ∷ []) b_is) second own c.whole.new.progress c.whole.result walked c.whole.ensures.reached in
    reached_second (body_walk records schemes context p.rows.items p.holes vars (expr_tree c.args.a.now)) first (λ (x : Walked). then (body_walk records schemes context x.rows x.holes (vars ++ x.type ∷ []) b_is) own) c.whole.new.progress c.whole.result c.in_ok-bound.ensures.reached last

pub derive_let-returns-clause-kept : goal.derive_let-returns-clause-kept
derive_let-returns-clause-kept t c =
    let walk = c.args.walk.now in
    let records = walk.records.now in
    let schemes = walk.schemes.now in
    let context = walk.context in
    let p = c.args.state.now.progress in
    let scope = c.args.state.now.scope.items in
    let vars = map type_tree scope in
    let old = map typed_node c.args.state.now.kept.items in
    let bound = c.in_ok-bound.bound in
    let a_is = expr_tree c.args.a.now in
    let b_is = expr_tree c.args.b.now in
    let new = c.derive.new.state in
    let last = map typed_node c.derive-2.new.state.kept.items in
    let first : Walked = record { type = type_tree bound; rows = new.progress.rows.items; holes = new.progress.holes } in
    let pushed : c.push.new.self.items ≡ scope ++ bound ∷ [] = search rules in
    let wider = ap (map type_tree) pushed ∙ map-append type_tree scope (bound ∷ []) in
    let after = subst (λ vs. last ≡ map typed_node new.kept.items ++ body_kept walk.keep records schemes context first.rows first.holes vs b_is) wider c.in_ok-whole.ensures.kept in
    let kept = kept_after (body_walk records schemes context p.rows.items p.holes vars a_is) first (λ (x : Walked). body_kept walk.keep records schemes context x.rows x.holes (vars ++ x.type ∷ []) b_is) old (map typed_node new.kept.items) last (body_kept walk.keep records schemes context p.rows.items p.holes vars a_is) c.in_ok-bound.ensures.reached c.in_ok-bound.ensures.kept after in
    IfOk-weaker c.whole.result _ _ (λ ty fits. kept) c.whole.ensures.fits

pub derive_match-derive_full-requires : goal.derive_match-derive_full-requires
derive_match-derive_full-requires t c =
    let records = c.args.walk.now.records.now in
    let schemes = c.args.walk.now.schemes.now in
    let context = c.args.walk.now.context in
    let p = c.args.state.now.progress in
    let limit = length context.holes.items in
    let vars = map type_tree c.args.state.now.scope.items in
    let new = c.derive_pair.new.state.progress in
    let l_is = expr_tree c.args.l.now in
    let a_is = expr_tree c.args.a.now in
    let types = c.in_ok-list.field-0 in
    let first : body_walk_pair records schemes context p.rows.items p.holes vars l_is a_is ≡ Ok (record { first = type_tree types.first; second = type_tree types.second; rows = new.rows.items; holes = new.holes }) = search rules in
    let behind = room_behind_pair records schemes context p.rows.items p.holes vars l_is a_is (record { first = type_tree types.first; second = type_tree types.second; rows = new.rows.items; holes = new.holes }) (body_holes records schemes context (expr_tree c.args.b.now)) limit first c.requires.room in
    (search (rules, the_lemmas), behind)

pub derive_match-returns-in-Ok-clause-kept : goal.derive_match-returns-in-Ok-clause-kept
derive_match-returns-in-Ok-clause-kept t c =
    let walk = c.args.walk.now in
    let records = walk.records.now in
    let schemes = walk.schemes.now in
    let context = walk.context in
    let p = c.args.state.now.progress in
    let scope = c.args.state.now.scope.items in
    let vars = map type_tree scope in
    let old = map typed_node c.args.state.now.kept.items in
    let l_is = expr_tree c.args.l.now in
    let a_is = expr_tree c.args.a.now in
    let b_is = expr_tree c.args.b.now in
    let types = c.in_ok-list.field-0 in
    let list = type_tree types.first in
    let new = c.derive_pair.new.state in
    let last = map typed_node c.derive_full.new.state.kept.items in
    let both : PairWalked = record { first = list; second = type_tree types.second; rows = new.progress.rows.items; holes = new.progress.holes } in
    let after = subst (λ xs. last ≡ map typed_node new.kept.items ++ body_kept walk.keep records schemes context both.rows both.holes (map type_tree xs ++ item list ∷ list ∷ []) b_is) c.in_ok-list.ensures.scope c.in-Ok.ensures.kept in
    let kept = kept_after (body_walk_pair records schemes context p.rows.items p.holes vars l_is a_is) both (λ (w : PairWalked). body_kept walk.keep records schemes context w.rows w.holes (vars ++ item w.first ∷ w.first ∷ []) b_is) old (map typed_node new.kept.items) last (body_pair_kept walk.keep records schemes context p.rows.items p.holes vars l_is a_is) c.in_ok-list.ensures.reached c.in_ok-list.ensures.kept after in
    IfOk-weaker c.split-whole.result _ _ (λ ty fits. kept) c.split-whole.ensures.fits

pub derive_full-returns-in_err-full-clause-reached : goal.derive_full-returns-in_err-full-clause-reached
derive_full-returns-in_err-full-clause-reached t c =
    let records = c.args.walk.now.records.now in
    let schemes = c.args.walk.now.schemes.now in
    let context = c.args.walk.now.context in
    let p = c.args.state.now.progress in
    let scope = c.args.state.now.scope.items in
    let list = type_tree c.args.list.now in
    let head = c.in_ok-head.head in
    let tail = c.in_ok-tail.tail in
    let pushed : c.push.new.self.items ≡ scope ++ head ∷ [] = search rules in
    let pushed_both : c.push-2.new.self.items ≡ c.push.new.self.items ++ tail ∷ [] = search rules in
    let wider : map type_tree c.push-2.new.self.items ≡ map type_tree scope ++ item list ∷ list ∷ [] =
    ap (map type_tree) (pushed_both ∙ ap (λ xs. xs ++ tail ∷ []) pushed) ∙ scope_of_split scope head tail list c.in_ok-head.ensures.item c.in_ok-tail.ensures.same in
    let err = c.in_err-full.field-0.0 in
    let stops = subst (λ vs. StopsAs (body_walk records schemes context p.rows.items p.holes vs (expr_tree c.args.e.now)) err) wider c.in_err-full.ensures.reached in
    search (rules, stops)

pub derive_call-returns-clause-reached : goal.derive_call-returns-clause-reached
derive_call-returns-clause-reached t c =
    let records = c.args.walk.now.records.now in
    let schemes = c.args.walk.now.schemes.now in
    let context = c.args.walk.now.context in
    let p = c.args.state.now.progress in
    let at = c.args.at in
    let j = c.args.j in
    let es = in_order (map expr_tree c.args.parts.now) in
    let vars = map type_tree c.args.state.now.scope.items in
    let new = c.derive_all.new.state.progress in
    let found = c.in_ok-types.types in
    let parts : body_walk_all records schemes context p.rows.items (p.holes + callee_holes (called schemes context j)) vars es ≡ Ok (record { types = map type_tree found.items; rows = new.rows.items; holes = new.holes }) =
    ap (λ k. body_walk_all records schemes context p.rows.items (p.holes + k) vars es) (sym c.open_units.ensures) ∙ c.in_ok-types.ensures.reached in
    let last = subst (λ xs. IsReached (node new.rows.items new.holes (call_rule at (offer records schemes context p.holes j) (map type_tree xs))) c.call-whole.new.progress c.call-whole.result) c.deref.ensures.value c.call-whole.ensures.reached in
    reached_second _ (record { types = map type_tree found.items; rows = new.rows.items; holes = new.holes }) (λ (w : AllWalked). node w.rows w.holes (call_rule at (offer records schemes context p.holes j) w.types)) c.call-whole.new.progress c.call-whole.result parts last

pub derive_all-loop-i-preserved : goal.derive_all-loop-i-preserved
derive_all-loop-i-preserved t c =
    let es = c.args.parts.now in
    let records = c.args.walk.now.records.now in
    let schemes = c.args.walk.now.schemes.now in
    let context = c.args.walk.now.context in
    let first = c.args.state.now.progress in
    let vars = c.args.state.now.scope.items in
    let i = c.loop-i.i in
    let below : i < length es = omega (arith, c.loop-i-test.true) in
    let start = map typed_node c.args.state.now.kept.items in
    let before = map typed_node c.loop-i.state.kept.items in
    let after = map typed_node c.derive.new.state.kept.items in
    let asked = c.args.walk.now.keep in
    let next = left_next records schemes context asked start first.rows.items first.holes vars es i c.index-parts-i.result c.loop-i.types.items c.loop-i.state.scope.items c.derive.new.state.scope.items c.loop-i.state.progress c.derive.new.state.progress before after c.in_ok-derive.field-0 below c.index-parts-i.is c.loop-i.invariant c.in_ok-derive.ensures.reached c.in_ok-derive.ensures.scope c.in_ok-derive.ensures.kept in
    let items : c.push.new.self.items ≡ c.loop-i.types.items ++ c.in_ok-derive.field-0 ∷ [] = search rules in
    subst (λ types. IsLeft records schemes context asked start first.rows.items first.holes vars es (i + 1) types c.derive.new.state.scope.items c.derive.new.state.progress after) (sym items) next
