use Rattle.std.proofs.Common.{◌≡◌, ◌/◌, ◌+◌, ◌*◌, ◌≤◌, ℕ, List, pos, ◌∙◌, sym, subst, length, take, drop, rules, arith}
use Rattle.std.specs.Prelude.{IfOk, IsTrue}
use Rattle.std.proofs.lemmas.Result.{IfOk-weaker}
use Rattle.std.proofs.lemmas.List.Elements.{All-get_or}
use Rattle.um_units.specs.declared.Atom.TheVariants.{Base}
use Rattle.um_units.specs.declared.Term.{Term}
use Rattle.um_units.specs.PowerMap.{PowerMap, mul}
use Rattle.um_units.specs.Variables.{atom_below}
use Rattle.um_wide.specs.Room.{IsWithin}
use Rattle.um_wide.proofs.Rooms.{within-one, within-mul, within-weaker, room-within}
use Rattle.um_kept.specs.Steps.{sign_of, variable_count}
use Rattle.um_kept.proofs.Parts.{parts-none, parts-one, parts-halves, count-one, count-halves}
use Rattle.um_kept.proofs.row.+product_of_parts.Goals as goal

abbrev none : Term
none = record { atom = Base 0; power = pos 0 }

-- the greatest absolute power of one slot's powers
abbrev one_slot : ℕ
one_slot = 2147483648 * 9223372036854775807

halves : (ts front back : List Term) (n : ℕ) → front ≡ take n ts → back ≡ drop n ts → variable_count front * one_slot + variable_count back * one_slot ≤ variable_count ts * one_slot
halves ts front back n e f = let k = count-halves ts front back n e f in omega (arith, k)

pub slot_power-requires-clause-below : goal.slot_power-requires-clause-below
slot_power-requires-clause-below t c =
    All-get_or (λ (x : Term). IsTrue (atom_below (length c.args.parts.now) x.atom)) c.args.terms.now 0 none c.in-len1.len_at_least c.requires.below

pub product_of_parts-requires : goal.product_of_parts-requires
product_of_parts-requires t c =
    let k = count-halves c.args.terms.now c.split_at.result.0.now c.split_at.result.1.now (length c.args.terms.now / 2) c.split_at.ensures.front c.split_at.ensures.back in
    let f = c.requires.few in
    (search rules, (c.requires.narrow, (search rules, omega (arith, k, f))))

pub product_of_parts-requires-in_default : goal.product_of_parts-requires-in_default
product_of_parts-requires-in_default t c =
    let k = count-halves c.args.terms.now c.split_at.result.0.now c.split_at.result.1.now (length c.args.terms.now / 2) c.split_at.ensures.front c.split_at.ensures.back in
    let f = c.requires.few in
    (search rules, (c.requires.narrow, (search rules, omega (arith, k, f))))

pub returns-in-empty-clause-exact : goal.returns-in-empty-clause-exact
returns-in-empty-clause-exact t c = c.one.ensures.exact ∙ parts-none (sign_of c.args.inverted) c.args.parts.now c.args.terms.now c.in-empty.len_below

pub returns-in-empty-clause-room : goal.returns-in-empty-clause-room
returns-in-empty-clause-room t c = subst (IsWithin (variable_count c.args.terms.now * one_slot)) (sym c.one.ensures.exact) (within-one (variable_count c.args.terms.now * one_slot))

pub returns-in-len1-clause-exact : goal.returns-in-len1-clause-exact
returns-in-len1-clause-exact t c =
    subst (λ (u : PowerMap). IfOk c.slot_power.result (λ w. w ≡ u))
    (parts-one (sign_of c.args.inverted) c.args.parts.now c.args.terms.now none c.in-len1.len_below c.in-len1.len_at_least)
    c.slot_power.ensures.exact

pub returns-in-len1-clause-room : goal.returns-in-len1-clause-room
returns-in-len1-clause-room t c =
    subst (λ (n : ℕ). IfOk c.slot_power.result (IsWithin (n * one_slot))) (count-one c.args.terms.now none c.in-len1.len_below c.in-len1.len_at_least) c.slot_power.ensures.room

pub mul-requires : goal.mul-requires
mul-requires t c =
    let front = c.split_at.result.0.now in
    let back = c.split_at.result.1.now in
    let all = halves c.args.terms.now front back (length c.args.terms.now / 2) c.split_at.ensures.front c.split_at.ensures.back in
    let few = c.requires.few in
    record { room = room-within (variable_count front * one_slot) (variable_count back * one_slot) c.in_ok-left-in_default.left c.in_ok-right-in_default.right c.in_ok-left-in_default.ensures.room c.in_ok-right-in_default.ensures.room (omega (arith, all, few)) }

pub returns-in_ok-right-in_default-clause-exact : goal.returns-in_ok-right-in_default-clause-exact
returns-in_ok-right-in_default-clause-exact t c =
    subst (λ (u : PowerMap). IfOk c.mul.result (λ w. w ≡ u))
    ((λ i. mul (c.in_ok-left-in_default.ensures.exact i) (c.in_ok-right-in_default.ensures.exact i))
    ∙ parts-halves (sign_of c.args.inverted) c.args.parts.now c.args.terms.now c.split_at.result.0.now c.split_at.result.1.now (length c.args.terms.now / 2) c.split_at.ensures.front c.split_at.ensures.back)
    c.mul.ensures.exact

pub returns-in_ok-right-in_default-clause-room : goal.returns-in_ok-right-in_default-clause-room
returns-in_ok-right-in_default-clause-room t c =
    let front = c.split_at.result.0.now in
    let back = c.split_at.result.1.now in
    let u = c.in_ok-left-in_default.left in
    let v = c.in_ok-right-in_default.right in
    IfOk-weaker c.mul.result (λ (w : PowerMap). w ≡ mul u v) (IsWithin (variable_count c.args.terms.now * one_slot))
    (λ w e. subst (IsWithin (variable_count c.args.terms.now * one_slot)) (sym e)
    (within-weaker (variable_count front * one_slot + variable_count back * one_slot) (variable_count c.args.terms.now * one_slot) (mul u v)
    (halves c.args.terms.now front back (length c.args.terms.now / 2) c.split_at.ensures.front c.split_at.ensures.back)
    (within-mul (variable_count front * one_slot) (variable_count back * one_slot) u v c.in_ok-left-in_default.ensures.room c.in_ok-right-in_default.ensures.room)))
    c.mul.ensures.exact
