use Rattle.std.proofs.Common.{◌≡◌, ◌<◌, ◌*◌, ◌+◌, ◌∙◌, Bool, true, false, ℤ, nat_abs, ◌*ℤ◌, [], ◌∷◌, length, sym, ap, subst, to_z, of_z, w32, w64, FitsSigned, rules, arith}
use Rattle.std.specs.Prelude.{IfOk, IsTrue, if◌then◌else◌, slice_index_or}
use Rattle.std.proofs.lemmas.Bool.{ltb-true}
use Rattle.std.proofs.lemmas.Int.{ints, to_z-of_z}
use Rattle.std.proofs.lemmas.List.{get_or_default}
use Rattle.std.proofs.lemmas.List.Elements.{All-get_or}
use Rattle.std.proofs.lemmas.Result.{IfOk-weaker}
use Rattle.um_units.specs.PowerMap.{PowerMap, one, pow}
use Rattle.um_units.specs.Variables.{atom_below}
use Rattle.um_units.proofs.Group.{one-pow}
use Rattle.um_pivots.specs.Pivot.{is_base}
use Rattle.um_wide.specs.Room.{IsWithin, IsNarrow}
use Rattle.um_wide.proofs.Rooms.{abs_32, within-one, within-pow}
use Rattle.um_check.specs.Existence.{at_slot}
use Rattle.um_kept.specs.Steps.{sign_of, variable_count}
use Rattle.um_kept.proofs.row.slot_power.Goals as goal

same_size : (b : Bool) (z : ℤ) → nat_abs (sign_of b *ℤ z) ≡ nat_abs z
same_size true z = omega (arith, ints)
same_size false z = omega (arith, ints)

pub bounds-parts-slot : goal.bounds-parts-slot
bounds-parts-slot c = ltb-true c.in-Var.slot (length c.args.parts.now) (subst (λ x. IsTrue (atom_below (length c.args.parts.now) x)) c.in-Var.is c.requires.below)

pub pow-requires : goal.pow-requires
pow-requires c =
    let l : c.in-Var.slot < length c.args.parts.now = ltb-true c.in-Var.slot (length c.args.parts.now) (subst (λ x. IsTrue (atom_below (length c.args.parts.now) x)) c.in-Var.is c.requires.below) in
    record { narrow = subst IsNarrow (sym c.index-parts-slot.is) (All-get_or IsNarrow c.args.parts.now c.in-Var.slot c.index-parts-slot.result l c.requires.narrow) }

pub returns-in-Base-clause-exact : goal.returns-in-Base-clause-exact
returns-in-Base-clause-exact c =
    c.one.ensures.exact ∙ sym (ap (λ x. pow (at_slot (λ j. slice_index_or c.args.parts.now j one) x) (sign_of c.args.inverted *ℤ c.args.term.power)) c.in-Base.is ∙ one-pow (sign_of c.args.inverted *ℤ c.args.term.power))

pub returns-in-Base-clause-room : goal.returns-in-Base-clause-room
returns-in-Base-clause-room c = subst (IsWithin (variable_count (c.args.term ∷ []) * (2147483648 * 9223372036854775807))) (sym c.one.ensures.exact) (within-one (variable_count (c.args.term ∷ []) * (2147483648 * 9223372036854775807)))

pub returns-in-Var-clause-exact : goal.returns-in-Var-clause-exact
returns-in-Var-clause-exact c =
    let parts = c.args.parts.now in
    let slot = c.in-Var.slot in
    let l : slot < length parts = ltb-true slot (length parts) (subst (λ x. IsTrue (atom_below (length parts) x)) c.in-Var.is c.requires.below) in
    let f : FitsSigned w32 c.args.term.power = search rules in
    let at = c.index-parts-slot.is ∙ get_or_default parts slot c.index-parts-slot.result one l in
    let k : c.signed_power.result ≡ sign_of c.args.inverted *ℤ c.args.term.power = c.signed_power.ensures ∙ ap (λ z. sign_of c.args.inverted *ℤ z) (to_z-of_z w32 c.args.term.power f) in
    subst (λ (u : PowerMap). IfOk c.pow.result (λ w. w ≡ u))
    (ap (pow c.index-parts-slot.result) (to_z-of_z w64 c.signed_power.result (record { sfits = c.signed_power.type_inv }) ∙ k)
    ∙ ap (λ u. pow u (sign_of c.args.inverted *ℤ c.args.term.power)) at
    ∙ ap (λ x. pow (at_slot (λ j. slice_index_or parts j one) x) (sign_of c.args.inverted *ℤ c.args.term.power)) (sym c.in-Var.is))
    c.pow.ensures.exact

pub returns-in-Var-clause-room : goal.returns-in-Var-clause-room
returns-in-Var-clause-room c =
    let parts = c.args.parts.now in
    let slot = c.in-Var.slot in
    let l : slot < length parts = ltb-true slot (length parts) (subst (λ x. IsTrue (atom_below (length parts) x)) c.in-Var.is c.requires.below) in
    let f : FitsSigned w32 c.args.term.power = search rules in
    let k : c.signed_power.result ≡ sign_of c.args.inverted *ℤ c.args.term.power = c.signed_power.ensures ∙ ap (λ z. sign_of c.args.inverted *ℤ z) (to_z-of_z w32 c.args.term.power f) in
    let z = to_z w64 (of_z w64 c.signed_power.result) in
    let size = ap nat_abs (to_z-of_z w64 c.signed_power.result (record { sfits = c.signed_power.type_inv }) ∙ k) ∙ same_size c.args.inverted c.args.term.power in
    let low = abs_32 c.args.term.power f in
    let within : IsNarrow c.index-parts-slot.result = subst IsNarrow (sym c.index-parts-slot.is) (All-get_or IsNarrow parts slot c.index-parts-slot.result l c.requires.narrow) in
    IfOk-weaker c.pow.result (λ (u : PowerMap). u ≡ pow c.index-parts-slot.result z) _
    (λ u e. subst (λ x. IsWithin (((if is_base x then 0 else 1) + 0) * (2147483648 * 9223372036854775807)) u) (sym c.in-Var.is)
    (subst (IsWithin (2147483648 * 9223372036854775807)) (sym e) (within-pow 2147483648 9223372036854775807 c.index-parts-slot.result z (omega (arith, size, low)) within)))
    c.pow.ensures.exact
