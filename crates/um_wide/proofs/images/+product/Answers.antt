use Rattle.std.proofs.Common.{◌≡◌, ℕ, List, ◌≤◌, ◌/◌, ◌+◌, ◌*◌, ◌^◌, ap, ◌∙◌, sym, subst, length, take, drop, arith}
use Rattle.std.specs.Prelude.{IfOk}
use Rattle.std.proofs.lemmas.List.{take-append-drop, length-append}
use Rattle.std.proofs.lemmas.Result.{IfOk-weaker}
use Rattle.um_units.specs.declared.Term.{Term}
use Rattle.um_units.specs.PowerMap.{PowerMap, mul, nth}
use Rattle.um_wide.specs.Room.{IsWithin}
use Rattle.um_wide.proofs.Rooms.{within-one, within-mul, within-weaker, room-within}
use Rattle.um_wide.proofs.Terms.{images-none, images-halves}
use Rattle.um_wide.proofs.images.+product.Goals as goal

whole : (ts front back : List Term) (n : ℕ) → front ≡ take n ts → back ≡ drop n ts → length front * 2 ^ 62 + length back * 2 ^ 62 ≤ length ts * 2 ^ 62
whole ts front back n e f = let l = ap length (take-append-drop n ts) in let k = length-append (take n ts) (drop n ts) in let g = ap length e in let h = ap length f in omega (arith, l, k, g, h)

pub returns-in-empty-clause-product : goal.returns-in-empty-clause-product
returns-in-empty-clause-product t c = c.one.ensures.exact ∙ images-none (nth c.args.by.now) c.args.terms.now c.in-empty.len_below

pub returns-in-empty-clause-room : goal.returns-in-empty-clause-room
returns-in-empty-clause-room t c = subst (IsWithin (length c.args.terms.now * 2 ^ 62)) (sym c.one.ensures.exact) (within-one (length c.args.terms.now * 2 ^ 62))

pub mul-requires : goal.mul-requires
mul-requires t c =
    let l = c.in_ok-left-in_default.ensures.few in
    let m = length c.split_at.result.0.now in
    let n = length c.split_at.result.1.now in
    record { room = room-within (m * 2 ^ 62) (n * 2 ^ 62) c.in_ok-left-in_default.left c.in_ok-right-in_default.right c.in_ok-left-in_default.ensures.room c.in_ok-right-in_default.ensures.room (omega arith) }

pub returns-in_ok-right-in_default-clause-product : goal.returns-in_ok-right-in_default-clause-product
returns-in_ok-right-in_default-clause-product t c =
    subst (λ (u : PowerMap). IfOk c.mul.result (λ w. w ≡ u))
    ((λ i. mul (c.in_ok-left-in_default.ensures.product i) (c.in_ok-right-in_default.ensures.product i))
    ∙ images-halves (nth c.args.by.now) c.args.terms.now c.split_at.result.0.now c.split_at.result.1.now (length c.args.terms.now / 2) c.split_at.ensures.front c.split_at.ensures.back)
    c.mul.ensures.exact

pub returns-in_ok-right-in_default-clause-room : goal.returns-in_ok-right-in_default-clause-room
returns-in_ok-right-in_default-clause-room t c =
    let m = length c.split_at.result.0.now in
    let n = length c.split_at.result.1.now in
    IfOk-weaker c.mul.result (λ (w : PowerMap). w ≡ mul c.in_ok-left-in_default.left c.in_ok-right-in_default.right) (IsWithin (length c.args.terms.now * 2 ^ 62))
    (λ w e. subst (IsWithin (length c.args.terms.now * 2 ^ 62)) (sym e)
    (within-weaker (m * 2 ^ 62 + n * 2 ^ 62) (length c.args.terms.now * 2 ^ 62) (mul c.in_ok-left-in_default.left c.in_ok-right-in_default.right) (whole c.args.terms.now c.split_at.result.0.now c.split_at.result.1.now (length c.args.terms.now / 2) c.split_at.ensures.front c.split_at.ensures.back)
    (within-mul (m * 2 ^ 62) (n * 2 ^ 62) c.in_ok-left-in_default.left c.in_ok-right-in_default.right c.in_ok-left-in_default.ensures.room c.in_ok-right-in_default.ensures.room)))
    c.mul.ensures.exact
