use Rattle.std.proofs.Common.{rules, ◌≡◌, ◌++◌, ap, sym, ◌∙◌, [], ◌∷◌, append_assoc, codes, arith, to_z, of_z, w32}
use Rattle.std.specs.List.{join_by}
use Rattle.std.proofs.lemmas.Fmt.{decimal_digit}
use Rattle.std.proofs.lemmas.List.{take_all, append-nil}
use Rattle.um_tree.specs.declared.raw.RawUnit.{the_lemmas}
use Rattle.um_tree.specs.RawTree.{unit_syntax, one_syntax, power_syntax, times_syntax, over_syntax, inverse_syntax, bracket_syntax}
use Rattle.um_show.specs.Pieces.{text_of, digits, caret, times, over, bracket_open, bracket_close}
use Rattle.um_show.specs.Layout.{unit_pieces, power_pieces}
use Rattle.um_show.proofs.Joined.{joined_next, grown, grows, closes}
use Rattle.um_show.proofs.ListTexts.{sides}
use Rattle.um_show.proofs.unit.+push_unit.Goals as goal

pub push_side-loop-i-preserved : goal.push_side-loop-i-preserved
push_side-loop-i-preserved t c =
    joined_next (λ u. text_of (unit_pieces (unit_syntax u))) (codes " ") c.args.units.now c.loop-i.i c.index-units-i.result c.args.text.now.items c.loop-i.text.items c.push_gap.new.text.items c.push_unit.new.text.items
    c.loop-i-test.true c.index-units-i.is c.loop-i.invariant c.in_ok-push_gap.ensures c.in_ok-push_unit.ensures

pub push_side-returns : goal.push_side-returns
push_side-returns t c =
    let us = c.args.units.now in
    c.loop-i.invariant ∙ ap (λ s. c.args.text.now.items ++ s) (ap (join_by (λ u. text_of (unit_pieces (unit_syntax u))) (codes " ")) (take_all c.loop-i.i us c.loop-i-test.false) ∙ sym (sides unit_syntax us))

pub push_unit-returns-in-One : goal.push_unit-returns-in-One
push_unit-returns-in-One t c =
    let seen : unit_syntax c.args.unit.now ≡ one_syntax c.in-One.field-0 = search (rules, the_lemmas, c.in-One.is) in
    let one : text_of (digits 1 ∷ []) ≡ codes "1" = ap (λ s. s ++ []) (decimal_digit 1 (omega arith)) in
    closes c.extend_from_slice.result c.args.text.now.items c.args.text.now.items c.extend_from_slice.new.self.items [] (digits 1 ∷ []) (unit_pieces (unit_syntax c.args.unit.now)) (ap unit_pieces seen) (sym (append-nil c.args.text.now.items)) (rw one c.extend_from_slice.ensures.items)

pub push_unit-returns-in_ok-push-in-Power : goal.push_unit-returns-in_ok-push-in-Power
push_unit-returns-in_ok-push-in-Power t c =
    let u = unit_pieces (unit_syntax c.in-Power.u.value) in let k = power_pieces c.in-Power.k in
    let seen : unit_syntax c.args.unit.now ≡ power_syntax (unit_syntax c.in-Power.u.value) c.in-Power.k = search (rules, the_lemmas, c.in-Power.is) in
    let first = rw c.deref.ensures at c.in_ok-push_unit-in-Power.ensures in
    let begun = grown _ _ _ u (caret ∷ []) first c.in_ok-push-in-Power.ensures.items in
    let fit : to_z w32 (of_z w32 c.in-Power.k) ≡ c.in-Power.k = search rules in
    grows c.push_power.result _ _ _ (u ++ caret ∷ []) k _ (ap unit_pieces seen ∙ sym (append_assoc u (caret ∷ []) k)) begun (rw fit at c.push_power.ensures)

pub push_unit-returns-in_ok-push-in-Times : goal.push_unit-returns-in_ok-push-in-Times
push_unit-returns-in_ok-push-in-Times t c =
    let u = unit_pieces (unit_syntax c.in-Times.u.value) in let v = unit_pieces (unit_syntax c.in-Times.v.value) in
    let seen : unit_syntax c.args.unit.now ≡ times_syntax (unit_syntax c.in-Times.u.value) (unit_syntax c.in-Times.v.value) = search (rules, the_lemmas, c.in-Times.is) in
    let first = rw c.deref-in-Times.ensures at c.in_ok-push_unit-in-Times.ensures in
    let begun = grown _ _ _ u (times ∷ []) first c.in_ok-push-in-Times.ensures.items in
    let last = rw c.deref-in-Times-2.ensures at c.push_unit-in-Times-2.ensures in
    grows c.push_unit-in-Times-2.result _ _ _ (u ++ times ∷ []) v _ (ap unit_pieces seen ∙ sym (append_assoc u (times ∷ []) v)) begun last

pub push_unit-returns-in_ok-push-in-Over : goal.push_unit-returns-in_ok-push-in-Over
push_unit-returns-in_ok-push-in-Over t c =
    let u = unit_pieces (unit_syntax c.in-Over.u.value) in let v = unit_pieces (unit_syntax c.in-Over.v.value) in
    let seen : unit_syntax c.args.unit.now ≡ over_syntax (unit_syntax c.in-Over.u.value) (unit_syntax c.in-Over.v.value) = search (rules, the_lemmas, c.in-Over.is) in
    let first = rw c.deref-in-Over.ensures at c.in_ok-push_unit-in-Over.ensures in
    let begun = grown _ _ _ u (over ∷ []) first c.in_ok-push-in-Over.ensures.items in
    let last = rw c.deref-in-Over-2.ensures at c.push_unit-in-Over-2.ensures in
    grows c.push_unit-in-Over-2.result _ _ _ (u ++ over ∷ []) v _ (ap unit_pieces seen ∙ sym (append_assoc u (over ∷ []) v)) begun last

pub push_unit-returns-in_ok-push-in-Inverse : goal.push_unit-returns-in_ok-push-in-Inverse
push_unit-returns-in_ok-push-in-Inverse t c =
    let u = unit_pieces (unit_syntax c.in-Inverse.u.value) in
    let seen : unit_syntax c.args.unit.now ≡ inverse_syntax c.in-Inverse.field-0 (unit_syntax c.in-Inverse.u.value) = search (rules, the_lemmas, c.in-Inverse.is) in
    let last = rw c.deref-in-Inverse.ensures at c.push_unit-in-Inverse.ensures in
    grows c.push_unit-in-Inverse.result _ _ _ (over ∷ []) u _ (ap unit_pieces seen) c.in_ok-push-in-Inverse.ensures.items last

pub push_unit-returns-in_ok-push_unit-in-Bracket : goal.push_unit-returns-in_ok-push_unit-in-Bracket
push_unit-returns-in_ok-push_unit-in-Bracket t c =
    let u = unit_pieces (unit_syntax c.in-Bracket.u.value) in
    let seen : unit_syntax c.args.unit.now ≡ bracket_syntax c.in-Bracket.field-0 (unit_syntax c.in-Bracket.u.value) = search (rules, the_lemmas, c.in-Bracket.is) in
    let inner = rw c.deref-in-Bracket.ensures at c.in_ok-push_unit-in-Bracket.ensures in
    let begun = grown _ _ _ (bracket_open ∷ []) u c.in_ok-push-in-Bracket.ensures.items inner in
    closes c.extend_from_slice-in-Bracket.result _ _ _ (bracket_open ∷ u) (bracket_close ∷ []) _ (ap unit_pieces seen) begun c.extend_from_slice-in-Bracket.ensures.items
