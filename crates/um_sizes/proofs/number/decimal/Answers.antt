use Rattle.std.proofs.Common.{◌+◌, length, sym, ◌∙◌, arith}
use Rattle.std.proofs.lemmas.Bool.{ltb-false}
use Rattle.um_sizes.proofs.DigitTexts.{told, ten_within, joined_within, decimal_is}
use Rattle.um_sizes.proofs.number.decimal.Goals as goal

pub pow-tens-requires : goal.pow-tens-requires
pow-tens-requires c =
    let few = ltb-false 38 (length c.args.whole.now + length c.args.part.now) (sym c.are_many.ensures ∙ c.if-are_many.false) in
    let most = ten_within (length c.args.part.now) (omega (arith, few)) in
    omega (arith, most)

pub overflow_mul-above : goal.overflow_mul-above
overflow_mul-above c =
    let few = ltb-false 38 (length c.args.whole.now + length c.args.part.now) (sym c.are_many.ensures ∙ c.if-are_many.false) in
    let above = told c.args.whole.now c.in_ok-above.above c.in_ok-above.ensures.value in
    let below = told c.args.part.now c.in_ok-below.below c.in_ok-below.ensures.value in
    let within = joined_within c.args.whole.now c.args.part.now above.0 below.0 few in
    rw (above.1, c.pow-tens.ensures) (omega (arith, within))

pub overflow_add-above : goal.overflow_add-above
overflow_add-above c =
    let few = ltb-false 38 (length c.args.whole.now + length c.args.part.now) (sym c.are_many.ensures ∙ c.if-are_many.false) in
    let above = told c.args.whole.now c.in_ok-above.above c.in_ok-above.ensures.value in
    let below = told c.args.part.now c.in_ok-below.below c.in_ok-below.ensures.value in
    let within = joined_within c.args.whole.now c.args.part.now above.0 below.0 few in
    rw (above.1, below.1, c.pow-tens.ensures) (omega (arith, within))

pub quotient-requires-clause-above : goal.quotient-requires-clause-above
quotient-requires-clause-above c =
    let few = ltb-false 38 (length c.args.whole.now + length c.args.part.now) (sym c.are_many.ensures ∙ c.if-are_many.false) in
    let above = told c.args.whole.now c.in_ok-above.above c.in_ok-above.ensures.value in
    let below = told c.args.part.now c.in_ok-below.below c.in_ok-below.ensures.value in
    let within = joined_within c.args.whole.now c.args.part.now above.0 below.0 few in
    rw (above.1, below.1, c.pow-tens.ensures) (omega (arith, within))

pub quotient-requires-clause-below : goal.quotient-requires-clause-below
quotient-requires-clause-below c =
    let few = ltb-false 38 (length c.args.whole.now + length c.args.part.now) (sym c.are_many.ensures ∙ c.if-are_many.false) in
    let most = ten_within (length c.args.part.now) (omega (arith, few)) in
    rw c.pow-tens.ensures (omega (arith, most))

pub returns : goal.returns
returns c =
    let few = ltb-false 38 (length c.args.whole.now + length c.args.part.now) (sym c.are_many.ensures ∙ c.if-are_many.false) in
    let above = told c.args.whole.now c.in_ok-above.above c.in_ok-above.ensures.value in
    let below = told c.args.part.now c.in_ok-below.below c.in_ok-below.ensures.value in
    rw (above.1, below.1, c.pow-tens.ensures) at c.quotient.ensures ∙ decimal_is c.args.whole.now c.args.part.now above.0 below.0 few
