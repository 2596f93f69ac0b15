-- proofs/elim_step/quotients_of/Answers.antt
use Rattle.std.proofs.Common.{◌≡◌, ◌∙◌, sym, ap, subst, map, nat_abs, arith, ◌<◌, w32, true, false}
use Rattle.std.proofs.lemmas.Int.{to_z-of_z}
use Rattle.std.specs.Prelude.{IsTrue}
use Rattle.std.proofs.lemmas.Int.{ints}
use Rattle.um_units.specs.PowerMap.{product}
use Rattle.um_units.specs.Range.{fits}
use Rattle.um_elim.specs.ElimStep.{quotients}
use Rattle.um_pivots.specs.Quotients.{less_quotient}
use Rattle.um_elim.proofs.InRange.{fits-quotients}
use Rattle.um_elim.proofs.elim_step.quotients_of.Goals as goal

pub returns-in-Ok-clause-exact : goal.returns-in-Ok-clause-exact
returns-in-Ok-clause-exact c =
    let n = nat_abs c.args.p in
    let same : product c.deref.result.now ≡ quotients c.args.m n c.args.unit.now = ap product (c.deref.ensures.value ∙ c.in_ok-terms.ensures.exact ∙ ap (λ z. map (less_quotient c.args.m (nat_abs z)) c.terms.result.now) (to_z-of_z w32 c.args.p c.ranges.p) ∙ ap (map (less_quotient c.args.m n)) c.terms.ensures.terms) in
    c.in-Ok.ensures.exact ∙ same

pub returns-in-Ok-clause-fits : goal.returns-in-Ok-clause-fits
returns-in-Ok-clause-fits c =
    let n = nat_abs c.args.p in
    let same : product c.deref.result.now ≡ quotients c.args.m n c.args.unit.now = ap product (c.deref.ensures.value ∙ c.in_ok-terms.ensures.exact ∙ ap (λ z. map (less_quotient c.args.m (nat_abs z)) c.terms.result.now) (to_z-of_z w32 c.args.p c.ranges.p) ∙ ap (map (less_quotient c.args.m n)) c.terms.ensures.terms) in
    let h : 0 < n = omega (arith, ints, c.requires) in
    let fit : fits (product c.deref.result.now) ≡ true = ap fits same ∙ fits-quotients c.args.m n c.args.unit.now h c.terms.ensures.fits in
    subst (λ u. IsTrue (fits u)) (sym c.in-Ok.ensures.exact) fit

pub unreachable-requires : goal.unreachable-requires
unreachable-requires c =
    let n = nat_abs c.args.p in
    let same : product c.deref.result.now ≡ quotients c.args.m n c.args.unit.now = ap product (c.deref.ensures.value ∙ c.in_ok-terms.ensures.exact ∙ ap (λ z. map (less_quotient c.args.m (nat_abs z)) c.terms.result.now) (to_z-of_z w32 c.args.p c.ranges.p) ∙ ap (map (less_quotient c.args.m n)) c.terms.ensures.terms) in
    let h : 0 < n = omega (arith, ints, c.requires) in
    let fit : fits (product c.deref.result.now) ≡ true = ap fits same ∙ fits-quotients c.args.m n c.args.unit.now h c.terms.ensures.fits in
    let bad : fits (product c.deref.result.now) ≡ false = rw c.in-Err-Range.field-0-is at c.in-Err-Range.ensures.range in
    cc
