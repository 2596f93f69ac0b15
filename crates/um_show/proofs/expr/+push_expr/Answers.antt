use Rattle.std.proofs.Common.{rules, w32, ◌≡◌, refl, ◌++◌, ◌∷◌, [], List, ap, sym, ◌∙◌, append_assoc, codes, map}
use Rattle.std.specs.List.{join_by, flat_map}
use Rattle.std.proofs.lemmas.List.{take_all, append-nil}
use Rattle.std.proofs.lemmas.Int.{to_z-of_z}
use Rattle.std.proofs.lemmas.Result.{on_ok_weaker}
use Rattle.um_tree.specs.declared.raw.RawNode.{the_lemmas}
use Rattle.um_tree.specs.RawTree.{binder_syntax, expr_syntax, exprs_in_order, field_part, fields_in_order, arith_syntax, compare_syntax, and_syntax, or_syntax, cons_syntax}
use Rattle.um_show.specs.Pieces.{Piece, name, space, pown_word, match_word, with_word, list_open, list_close, arrow, double_colon, double_and, double_bar, bracket_open, bracket_close, record_open, record_close, dot, text_of}
use Rattle.um_show.specs.Layout.{arith_piece, compare_pieces, whole_power_pieces, expr_pieces, item_pieces, field_pieces}
use Rattle.um_show.specs.Lists.{arm_pieces, part_text}
use Rattle.um_show.proofs.Joined.{joined_next, grown, grows, closes, infix_added}
use Rattle.um_show.proofs.ListTexts.{arguments, items, fields}
use Rattle.um_show.proofs.expr.+push_expr.Goals as goal

pub push_arguments-returns : goal.push_arguments-returns
push_arguments-returns t c =
    let es = c.args.items.now in
    c.loop-i.invariant ∙ ap (λ s. c.args.text.now.items ++ s) (ap (flat_map (λ e. codes " " ++ text_of (expr_pieces (expr_syntax e)))) (take_all c.loop-i.i es c.loop-i-test.false) ∙ sym (arguments expr_syntax es))

six_parts : (m l w a r b : List Piece) → ((m ++ l) ++ (w ++ a)) ++ (r ++ b) ≡ ((((m ++ l) ++ w) ++ a) ++ r) ++ b
six_parts m l w a r b = sym (append_assoc (((m ++ l) ++ w) ++ a) r b ∙ ap (λ s. s ++ (r ++ b)) (append_assoc (m ++ l) w a))

pub push_match-returns : goal.push_match-returns
push_match-returns t c =
    let l = expr_syntax c.args.l.now in let a = expr_syntax c.args.a.now in let b = expr_syntax c.args.b.now in
    let head : List Piece = match_word ∷ space ∷ [] in
    let empty : List Piece = space ∷ with_word ∷ space ∷ list_open ∷ list_close ∷ space ∷ arrow ∷ space ∷ [] in
    let full : List Piece = arm_pieces (binder_syntax c.args.x.now) (binder_syntax c.args.y.now) in
    let two = grown _ _ _ head (expr_pieces l) c.in_ok-extend_from_slice.ensures.items c.in_ok-push_expr.ensures in
    let three = grown _ _ _ (head ++ expr_pieces l) empty two c.in_ok-extend_from_slice-2.ensures.items in
    let four = grown _ _ _ ((head ++ expr_pieces l) ++ empty) (expr_pieces a) three c.in_ok-push_expr-2.ensures in
    let five = grown _ _ _ (((head ++ expr_pieces l) ++ empty) ++ expr_pieces a) full four c.in_ok-push_full_arm.ensures in
    grows c.push_expr-3.result _ _ _ ((((head ++ expr_pieces l) ++ empty) ++ expr_pieces a) ++ full) (expr_pieces b) _
    (six_parts head (expr_pieces l) empty (expr_pieces a) full (expr_pieces b)) five c.push_expr-3.ensures

pub push_list-returns : goal.push_list-returns
push_list-returns t c =
    let es = exprs_in_order (map expr_syntax c.args.items.now) in
    let begun = grown _ _ _ (list_open ∷ []) (item_pieces es) c.in_ok-push.ensures.items c.in_ok-push_items.ensures in
    closes c.extend_from_slice.result _ _ _ (list_open ∷ item_pieces es) (list_close ∷ []) _ refl begun c.extend_from_slice.ensures.items

pub push_record-returns : goal.push_record-returns
push_record-returns t c =
    let fs = fields_in_order (map field_part c.args.fields.now) in
    let head : List Piece = record_open ∷ space ∷ [] in
    let begun = grown _ _ _ head (field_pieces fs) c.in_ok-extend_from_slice.ensures.items c.in_ok-push_fields.ensures in
    closes c.extend_from_slice-2.result _ _ _ (head ++ field_pieces fs) (space ∷ record_close ∷ []) _ refl begun c.extend_from_slice-2.ensures.items

pub push_access-returns : goal.push_access-returns
push_access-returns t c =
    let a = expr_syntax c.args.a.now in let x = c.args.name.now in
    let begun = grown _ _ _ (expr_pieces a) (dot ∷ []) c.in_ok-push_expr.ensures c.in_ok-push.ensures.items in
    grows c.push_name.result _ _ _ (expr_pieces a ++ dot ∷ []) (name x ∷ []) _ (sym (append_assoc (expr_pieces a) (dot ∷ []) (name x ∷ []))) begun
    (on_ok_weaker c.push_name.result (λ e. e ∙ ap (λ s. c.push.new.self.items ++ s) (sym (append-nil x))) c.push_name.ensures)

pub push_pown-returns : goal.push_pown-returns
push_pown-returns t c =
    let a = expr_syntax c.args.a.now in
    let head : List Piece = pown_word ∷ space ∷ [] in
    let begun = grown _ _ _ head (expr_pieces a) c.in_ok-extend_from_slice.ensures.items c.in_ok-push_expr.ensures in
    let apart = grown _ _ _ (head ++ expr_pieces a) (space ∷ []) begun c.in_ok-push.ensures.items in
    let whole = sym (append_assoc (head ++ expr_pieces a) (space ∷ []) (whole_power_pieces c.args.power)) in
    let passed = ap (λ k. ((head ++ expr_pieces a) ++ space ∷ []) ++ whole_power_pieces k) (sym (to_z-of_z w32 c.args.power c.ranges.power)) in
    grows c.push_whole_power.result _ _ _ ((head ++ expr_pieces a) ++ space ∷ []) _ _ (whole ∙ passed) apart c.push_whole_power.ensures

pub push_bracketed-returns : goal.push_bracketed-returns
push_bracketed-returns t c =
    let a = expr_syntax c.args.a.now in
    let begun = grown _ _ _ (bracket_open ∷ []) (expr_pieces a) c.in_ok-push.ensures.items c.in_ok-push_expr.ensures in
    closes c.extend_from_slice.result _ _ _ (bracket_open ∷ expr_pieces a) (bracket_close ∷ []) _ refl begun c.extend_from_slice.ensures.items

pub push_expr-returns-in-And : goal.push_expr-returns-in-And
push_expr-returns-in-And t c =
    let a = expr_syntax c.deref-in-And.result.now in let b = expr_syntax c.deref-in-And-2.result.now in
    let seen : expr_syntax c.args.e.now ≡ and_syntax c.args.e.now.at a b = search (rules, the_lemmas, c.in-And.is, c.deref-in-And.ensures, c.deref-in-And-2.ensures) in
    infix_added c.push_infix-in-And.result _ _ _ (expr_pieces a) (double_and ∷ []) (expr_pieces b) _ (ap expr_pieces seen) refl c.push_infix-in-And.ensures

pub push_expr-returns-in-Or : goal.push_expr-returns-in-Or
push_expr-returns-in-Or t c =
    let a = expr_syntax c.deref-in-Or.result.now in let b = expr_syntax c.deref-in-Or-2.result.now in
    let seen : expr_syntax c.args.e.now ≡ or_syntax c.args.e.now.at a b = search (rules, the_lemmas, c.in-Or.is, c.deref-in-Or.ensures, c.deref-in-Or-2.ensures) in
    infix_added c.push_infix-in-Or.result _ _ _ (expr_pieces a) (double_bar ∷ []) (expr_pieces b) _ (ap expr_pieces seen) refl c.push_infix-in-Or.ensures

pub push_expr-returns-in-Cons : goal.push_expr-returns-in-Cons
push_expr-returns-in-Cons t c =
    let a = expr_syntax c.deref-in-Cons.result.now in let b = expr_syntax c.deref-in-Cons-2.result.now in
    let seen : expr_syntax c.args.e.now ≡ cons_syntax c.args.e.now.at a b = search (rules, the_lemmas, c.in-Cons.is, c.deref-in-Cons.ensures, c.deref-in-Cons-2.ensures) in
    infix_added c.push_infix-in-Cons.result _ _ _ (expr_pieces a) (double_colon ∷ []) (expr_pieces b) _ (ap expr_pieces seen) refl c.push_infix-in-Cons.ensures

pub push_expr-returns-in-Arith : goal.push_expr-returns-in-Arith
push_expr-returns-in-Arith t c =
    let a = expr_syntax c.deref-in-Arith.result.now in let b = expr_syntax c.deref-in-Arith-2.result.now in
    let seen : expr_syntax c.args.e.now ≡ arith_syntax c.args.e.now.at c.in-Arith.op a b = search (rules, the_lemmas, c.in-Arith.is, c.deref-in-Arith.ensures, c.deref-in-Arith-2.ensures) in
    infix_added c.push_infix.result _ _ _ (expr_pieces a) (arith_piece c.in-Arith.op ∷ []) (expr_pieces b) _ (ap expr_pieces seen) c.arith_sign.ensures c.push_infix.ensures

pub push_expr-returns-in-Compare : goal.push_expr-returns-in-Compare
push_expr-returns-in-Compare t c =
    let a = expr_syntax c.deref-in-Compare.result.now in let b = expr_syntax c.deref-in-Compare-2.result.now in
    let seen : expr_syntax c.args.e.now ≡ compare_syntax c.args.e.now.at c.in-Compare.sign a b = search (rules, the_lemmas, c.in-Compare.is, c.deref-in-Compare.ensures, c.deref-in-Compare-2.ensures) in
    infix_added c.push_infix-in-Compare.result _ _ _ (expr_pieces a) (compare_pieces c.in-Compare.sign) (expr_pieces b) _ (ap expr_pieces seen) c.compare_sign.ensures c.push_infix-in-Compare.ensures

pub push_fields-loop-i-preserved : goal.push_fields-loop-i-preserved
push_fields-loop-i-preserved t c =
    joined_next (λ f. part_text (field_part f)) (codes "; ") c.args.fields.now c.loop-i.i c.index-fields-i.result c.args.text.now.items c.loop-i.text.items c.push_gap.new.text.items c.push_field.new.text.items
    c.loop-i-test.true c.index-fields-i.is c.loop-i.invariant c.in_ok-push_gap.ensures c.in_ok-push_field.ensures

pub push_fields-returns : goal.push_fields-returns
push_fields-returns t c =
    let fs = c.args.fields.now in
    c.loop-i.invariant ∙ ap (λ s. c.args.text.now.items ++ s) (ap (join_by (λ f. part_text (field_part f)) (codes "; ")) (take_all c.loop-i.i fs c.loop-i-test.false) ∙ sym (fields field_part fs))

pub push_items-loop-i-preserved : goal.push_items-loop-i-preserved
push_items-loop-i-preserved t c =
    joined_next (λ e. text_of (expr_pieces (expr_syntax e))) (codes "; ") c.args.items.now c.loop-i.i c.index-items-i.result c.args.text.now.items c.loop-i.text.items c.push_gap.new.text.items c.push_expr.new.text.items
    c.loop-i-test.true c.index-items-i.is c.loop-i.invariant c.in_ok-push_gap.ensures c.in_ok-push_expr.ensures

pub push_items-returns : goal.push_items-returns
push_items-returns t c =
    let es = c.args.items.now in
    c.loop-i.invariant ∙ ap (λ s. c.args.text.now.items ++ s) (ap (join_by (λ e. text_of (expr_pieces (expr_syntax e))) (codes "; ")) (take_all c.loop-i.i es c.loop-i-test.false) ∙ sym (items expr_syntax es))
