use Rattle.std.proofs.Common.{◌≡◌, ◌≤◌, ◌<◌, ◌∙◌, ℕ, ℤ, pos, nat_abs, map, to_z, of_z, sym, ap, subst, arith}
use Rattle.std.specs.Int.{w128}
use Rattle.std.specs.Int.Signed.{◌<ℤ◌}
use Rattle.std.proofs.lemmas.Int.{ints, to_z-of_z}
use Rattle.um_units.specs.declared.Atom.TheVariants.{Var}
use Rattle.um_units.specs.PowerMap.{PowerMap, replace}
use Rattle.um_elim.specs.ElimStep.{inverted_if_negative, multiply, quotients}
use Rattle.um_elim.proofs.PivotLaws.{is_pivot}
use Rattle.um_elim.proofs.StepLaws.{positive_size}
use Rattle.um_reasons.specs.Wide.{as_pivot}
use Rattle.um_reasons.proofs.WideProducts.{fits128}
use Rattle.um_reasons.proofs.wide_step.take_step.Goals as goal

pub absolute-requires : goal.absolute-requires
absolute-requires c =
    let bound : nat_abs c.args.at.power ≤ 9223372036854775807 =
    subst (λ z. nat_abs z ≤ 9223372036854775807) (is_pivot c.args.r.now (as_pivot c.args.at) c.requires.pivot).is (c.requires.r (Var c.args.at.variable)) in
    omega (arith, ints, bound)

above : (n : ℕ) → 0 < n → pos 0 <ℤ pos n
above n h = omega (arith, ints, h)

pub quotients_of-requires-clause-p : goal.quotients_of-requires-clause-p
quotients_of-requires-clause-p c =
    let found = is_pivot c.args.r.now (as_pivot c.args.at) c.requires.pivot in
    let power = c.args.at.power in
    let bound : nat_abs power ≤ 9223372036854775807 = subst (λ z. nat_abs z ≤ 9223372036854775807) found.is (c.requires.r (Var c.args.at.variable)) in
    let passed : to_z w128 (of_z w128 c.absolute.result) ≡ pos (nat_abs power) =
    to_z-of_z w128 c.absolute.result (record { sfits = c.absolute.type_inv })
    ∙ c.absolute.ensures ∙ ap (λ (z : ℤ). pos (nat_abs z)) (to_z-of_z w128 power (fits128 power bound)) in
    subst (λ (z : ℤ). pos 0 <ℤ z) (sym passed) (above (nat_abs power) (positive_size power found.nonzero))

pub returns : goal.returns
returns c =
    let found = is_pivot c.args.r.now (as_pivot c.args.at) c.requires.pivot in
    let m = c.args.at.variable in
    let power = c.args.at.power in
    let r = c.args.r.now in
    let bound : nat_abs power ≤ 9223372036854775807 = subst (λ z. nat_abs z ≤ 9223372036854775807) found.is (c.requires.r (Var m)) in
    let at : to_z w128 (of_z w128 power) ≡ power = to_z-of_z w128 power (fits128 power bound) in
    let size : nat_abs (to_z w128 (of_z w128 c.absolute.result)) ≡ nat_abs power =
    ap nat_abs (to_z-of_z w128 c.absolute.result (record { sfits = c.absolute.type_inv }) ∙ c.absolute.ensures ∙ ap (λ (z : ℤ). pos (nat_abs z)) at) in
    let positive : c.in_ok-positive.positive ≡ inverted_if_negative power r = c.in_ok-positive.ensures.exact ∙ ap (λ (z : ℤ). inverted_if_negative z r) at in
    let by : c.in_ok-by.by ≡ quotients m (nat_abs power) (inverted_if_negative power r) = c.in_ok-by.ensures.exact ∙ (λ i. quotients m (size i) (positive i)) in
    record {
      units = c.in_ok-units.ensures.exact ∙ ap (λ (w : PowerMap). map (replace (multiply m w)) c.args.units.now) by;
      left = c.in_ok-left.ensures.exact ∙ (λ i. replace (multiply m (by i)) (positive i));
      narrow = c.in_ok-units.ensures.narrow;
      left_narrow = c.in_ok-left.ensures.narrow;
    }
