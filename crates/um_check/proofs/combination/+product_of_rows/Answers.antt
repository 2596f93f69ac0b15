use Rattle.std.proofs.Common.{◌≡◌, ◌/◌, ◌+◌, ◌*◌, ◌<◌, ◌≤◌, ℕ, List, nat_abs, ap, ◌∙◌, sym, subst, length, take, drop, pos, arith, get_or, to_z, of_z, w64, FitsSigned, rules}
use Rattle.std.specs.Prelude.{IfOk}
use Rattle.std.proofs.lemmas.Int.{to_z-of_z}
use Rattle.std.proofs.lemmas.Nat.{mul-le}
use Rattle.std.proofs.lemmas.List.{take-append-drop, length-append, get_or-map}
use Rattle.std.proofs.lemmas.Result.{IfOk-weaker}
use Rattle.std.proofs.lemmas.List.Elements.{All-get_or}
use Rattle.um_units.specs.declared.Atom.TheVariants.{Var}
use Rattle.um_units.specs.PowerMap.{PowerMap, mul, pow, atom}
use Rattle.um_wide.specs.Room.{IsWithin}
use Rattle.um_wide.proofs.Rooms.{abs_64, within-one, within-mul, within-weaker, room-within}
use Rattle.um_equal_types.specs.declared.row.Row.{Row}
use Rattle.um_equal_types.specs.Steps.{units_of}
use Rattle.um_check.specs.declared.certificate.Part.{Part}
use Rattle.um_check.proofs.Combinations.{combined-none, combined-one, combined-halves}
use Rattle.um_check.proofs.combination.+product_of_rows.Goals as goal

abbrev none : Part
none = record { row = 0; times = pos 0 }

abbrev unit_of : Row → PowerMap
unit_of r = r.unit

-- the greatest absolute power of one part
abbrev one_part : ℕ
one_part = 9223372036854775808 * 2147483647

whole : (ps front back : List Part) (n : ℕ) → front ≡ take n ps → back ≡ drop n ps → length front * one_part + length back * one_part ≤ length ps * one_part
whole ps front back n e f = let l = ap length (take-append-drop n ps) in let k = length-append (take n ps) (drop n ps) in let g = ap length e in let h = ap length f in omega (arith, l, k, g, h)

pub returns-in-empty-clause-product : goal.returns-in-empty-clause-product
returns-in-empty-clause-product t c = c.one.ensures.exact ∙ combined-none (units_of c.args.rows.now) c.args.parts.now c.in-empty.len_below

pub returns-in-empty-clause-room : goal.returns-in-empty-clause-room
returns-in-empty-clause-room t c = subst (IsWithin (length c.args.parts.now * one_part)) (sym c.one.ensures.exact) (within-one (length c.args.parts.now * one_part))

pub returns-in-len1-clause-product : goal.returns-in-len1-clause-product
returns-in-len1-clause-product t c =
    let rows = c.args.rows.now in
    let p = get_or c.args.parts.now 0 none in
    let f : FitsSigned w64 p.times = search rules in
    let within : p.row < length rows = All-get_or (λ (q : Part). q.row < length rows) c.args.parts.now 0 none c.in-len1.len_at_least c.requires.named in
    let row = sym (get_or-map unit_of rows p.row c.index-rows-part.result (atom (Var p.row)) within) in
    subst (λ (u : PowerMap). IfOk c.power.result (λ w. w ≡ u))
    (ap (pow (get_or rows p.row c.index-rows-part.result).unit) (to_z-of_z w64 p.times f) ∙ ap (λ u. pow u p.times) row ∙ combined-one (units_of rows) c.args.parts.now none c.in-len1.len_below c.in-len1.len_at_least)
    c.power.ensures.exact

pub returns-in-len1-clause-room : goal.returns-in-len1-clause-room
returns-in-len1-clause-room t c =
    let p = get_or c.args.parts.now 0 none in
    let f : FitsSigned w64 p.times = search rules in
    let z = to_z w64 (of_z w64 p.times) in
    let e = ap nat_abs (to_z-of_z w64 p.times f) in
    let l = abs_64 p.times f in
    let m = mul-le (nat_abs z) 2147483647 9223372036854775808 2147483647 (omega (arith, e, l)) (omega arith) in
    let low = c.in-len1.len_at_least in
    IfOk-weaker c.power.result (IsWithin (nat_abs z * 2147483647)) (IsWithin (length c.args.parts.now * one_part)) (λ u h. within-weaker (nat_abs z * 2147483647) (length c.args.parts.now * one_part) u (omega (arith, m, low)) h) c.power.ensures.room

pub mul-requires : goal.mul-requires
mul-requires t c =
    let front = c.split_at.result.0.now in
    let back = c.split_at.result.1.now in
    let all = whole c.args.parts.now front back (length c.args.parts.now / 2) c.split_at.ensures.front c.split_at.ensures.back in
    let few = c.requires.few in
    record { room = room-within (length front * one_part) (length back * one_part) c.in_ok-left-in_default.left c.in_ok-right-in_default.right c.in_ok-left-in_default.ensures.room c.in_ok-right-in_default.ensures.room (omega (arith, all, few)) }

pub returns-in_ok-right-in_default-clause-product : goal.returns-in_ok-right-in_default-clause-product
returns-in_ok-right-in_default-clause-product t c =
    subst (λ (u : PowerMap). IfOk c.mul.result (λ w. w ≡ u))
    ((λ i. mul (c.in_ok-left-in_default.ensures.product i) (c.in_ok-right-in_default.ensures.product i))
    ∙ combined-halves (units_of c.args.rows.now) c.args.parts.now c.split_at.result.0.now c.split_at.result.1.now (length c.args.parts.now / 2) c.split_at.ensures.front c.split_at.ensures.back)
    c.mul.ensures.exact

pub returns-in_ok-right-in_default-clause-room : goal.returns-in_ok-right-in_default-clause-room
returns-in_ok-right-in_default-clause-room t c =
    let front = c.split_at.result.0.now in
    let back = c.split_at.result.1.now in
    let u = c.in_ok-left-in_default.left in
    let v = c.in_ok-right-in_default.right in
    IfOk-weaker c.mul.result (λ (w : PowerMap). w ≡ mul u v) (IsWithin (length c.args.parts.now * one_part))
    (λ w e. subst (IsWithin (length c.args.parts.now * one_part)) (sym e)
    (within-weaker (length front * one_part + length back * one_part) (length c.args.parts.now * one_part) (mul u v)
    (whole c.args.parts.now front back (length c.args.parts.now / 2) c.split_at.ensures.front c.split_at.ensures.back)
    (within-mul (length front * one_part) (length back * one_part) u v c.in_ok-left-in_default.ensures.room c.in_ok-right-in_default.ensures.room)))
    c.mul.ensures.exact
