use Rattle.std.proofs.Common.{◌≡◌, ◌≤◌, ◌*◌, ◌∙◌, ◌*ℤ◌, length, sym, ap, subst, w64, FitsSigned, rules, arith}
use Rattle.std.specs.Prelude.{IfOk, IsTrue, All, MatchResult, slice_index_or}
use Rattle.std.proofs.lemmas.Int.{to_z-of_z}
use Rattle.um_units.specs.declared.Atom.TheVariants.{Var}
use Rattle.um_units.specs.declared.Term.{Term}
use Rattle.um_units.specs.PowerMap.{PowerMap, one, atom, pow}
use Rattle.um_units.specs.Variables.{atom_below}
use Rattle.um_elim.specs.ElimStep.{signed}
use Rattle.um_wide.specs.Room.{IsNarrow}
use Rattle.um_wide.proofs.Rooms.{room-within}
use Rattle.um_check.specs.Existence.{total}
use Rattle.um_kept.specs.Answers.{CarriesPower}
use Rattle.um_kept.specs.Steps.{sign_of, variable_count, parts_product}
use Rattle.um_kept.proofs.Parts.{row_below, row_count, row_sum}
use Rattle.um_kept.proofs.row.row_total.Goals as goal

pub product_of_parts-requires-clause-narrow : goal.product_of_parts-requires-clause-narrow
product_of_parts-requires-clause-narrow c = subst (All IsNarrow) (sym c.deref.ensures.value) c.requires.ready.narrow

pub product_of_parts-requires-clause-below : goal.product_of_parts-requires-clause-below
product_of_parts-requires-clause-below c =
    let n = length c.args.partial.now.parts.items in
    subst (λ m. All (λ (t : Term). IsTrue (atom_below m t.atom)) c.terms.result.now) (sym (ap length c.deref.ensures.value))
    (subst (All (λ (t : Term). IsTrue (atom_below n t.atom))) (sym c.terms.ensures.terms) (row_below n c.args.row.now.unit.now c.requires.ready.below))

pub product_of_parts-requires-clause-few : goal.product_of_parts-requires-clause-few
product_of_parts-requires-clause-few c =
    let k = row_count (length c.args.partial.now.parts.items) c.args.row.now.unit.now c.requires.ready.below in
    let f = c.requires.ready.few in
    subst (λ ts. variable_count ts ≤ 2000) (sym c.terms.ensures.terms) (omega (arith, k, f))

pub mul-requires : goal.mul-requires
mul-requires c =
    let k = row_count (length c.args.partial.now.parts.items) c.args.row.now.unit.now c.requires.ready.below in
    let f = c.requires.ready.few in
    let e = ap variable_count c.terms.ensures.terms in
    let n = variable_count c.terms.result.now * (2147483648 * 9223372036854775807) in
    record { room = room-within n 9223372036854775808 c.in_ok-others.others c.in_ok-own.own c.in_ok-others.ensures.room c.in_ok-own.ensures.room (omega (arith, k, f, e)) }

pub returns-clause-exact : goal.returns-clause-exact
returns-clause-exact c =
    let b = c.args.row.now.inverted in
    let parts = c.args.partial.now.parts.items in
    let d = c.args.partial.now.divisor in
    let f : FitsSigned w64 d = search rules in
    let own : c.in_ok-own.own ≡ pow (atom (Var c.args.row.now.number)) (sign_of b *ℤ d) = c.in_ok-own.ensures.exact ∙ ap (λ z. pow (atom (Var c.args.row.now.number)) (sign_of b *ℤ z)) (to_z-of_z w64 d f) in
    let others : c.in_ok-others.others ≡ parts_product (sign_of b) parts c.terms.result.now = c.in_ok-others.ensures.exact ∙ ap (λ ps. parts_product (sign_of b) ps c.terms.result.now) c.deref.ensures.value in
    let sum : c.in_ok-sum.sum ≡ signed b (total (λ j. slice_index_or parts j one) c.args.row.now.unit.now c.args.row.now.number d) =
    c.in_ok-sum.ensures.exact ∙ row_sum b parts c.args.row.now.unit.now c.args.row.now.number d c.terms.result.now c.in_ok-others.others c.in_ok-own.own c.terms.ensures.terms others own in
    subst (λ (u : PowerMap). IfOk c.narrowed.result (λ w. w ≡ u)) sum c.narrowed.ensures.exact

pub returns-clause-narrow : goal.returns-clause-narrow
returns-clause-narrow c =
    let b = c.args.row.now.inverted in
    let parts = c.args.partial.now.parts.items in
    let d = c.args.partial.now.divisor in
    let f : FitsSigned w64 d = search rules in
    let own : c.in_ok-own.own ≡ pow (atom (Var c.args.row.now.number)) (sign_of b *ℤ d) = c.in_ok-own.ensures.exact ∙ ap (λ z. pow (atom (Var c.args.row.now.number)) (sign_of b *ℤ z)) (to_z-of_z w64 d f) in
    let others : c.in_ok-others.others ≡ parts_product (sign_of b) parts c.terms.result.now = c.in_ok-others.ensures.exact ∙ ap (λ ps. parts_product (sign_of b) ps c.terms.result.now) c.deref.ensures.value in
    let sum : c.in_ok-sum.sum ≡ signed b (total (λ j. slice_index_or parts j one) c.args.row.now.unit.now c.args.row.now.number d) =
    c.in_ok-sum.ensures.exact ∙ row_sum b parts c.args.row.now.unit.now c.args.row.now.number d c.terms.result.now c.in_ok-others.others c.in_ok-own.own c.terms.ensures.terms others own in
    subst (λ (u : PowerMap). MatchResult c.narrowed.result IsNarrow (CarriesPower 9223372036854775807 u)) sum c.narrowed.ensures.narrow
