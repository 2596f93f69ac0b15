use Rattle.std.proofs.Common.{rules, ◌≡◌, ℤ, ◌+ℤ◌, nat_abs, to_z, of_z, w32, w64, FitsSigned, sym, ap, subst, ◌∙◌, arith}
use Rattle.std.specs.Int.Signed.{nat_abs-le}
use Rattle.std.proofs.lemmas.Bool.{true_from_ne_false, leb-false}
use Rattle.std.proofs.lemmas.Int.{ints, to_z-of_z, fits_signed_from_abs}
use Rattle.um_measures.specs.RunningPowers.{power_at}
use Rattle.um_measures.proofs.RunningProducts.{raised}
use Rattle.um_measures.proofs.running.raise.Goals as goal

-- a power of 32 bits, as the code reads it at 64
widened : (power read : ℤ) → FitsSigned w32 power → read ≡ to_z w32 (of_z w32 power) → to_z w64 (of_z w64 read) ≡ power
widened power read f e =
    let wide : FitsSigned w64 power = search rules in
    ap (λ z. to_z w64 (of_z w64 z)) (e ∙ to_z-of_z w32 power f) ∙ to_z-of_z w64 power wide

sum_fits : (a b : ℤ) → FitsSigned w32 a → FitsSigned w32 b → FitsSigned w64 (a +ℤ b)
sum_fits a b f g = fits_signed_from_abs w64 (a +ℤ b) (omega (arith, ints, nat_abs-le a f.sfits, nat_abs-le b g.sfits))

pub overflow_add-power : goal.overflow_add-power
overflow_add-power c =
    let a = c.power_at.result in
    let b = c.args.term.power in
    let f : FitsSigned w32 a = search rules in
    let g : FitsSigned w32 b = search rules in
    subst (λ z. FitsSigned w64 z) (sym (ap (λ z. z +ℤ to_z w64 (of_z w64 c.from-2.result)) (widened a c.from.result f c.from.ensures) ∙ ap (λ z. a +ℤ z) (widened b c.from-2.result g c.from-2.ensures))) (sum_fits a b f g)

pub returns-clause-exact : goal.returns-clause-exact
returns-clause-exact c =
    let f1 = c.from.ensures in
    let f2 = c.from-2.ensures in
    let p = c.power_at.ensures in
    let u = c.unsigned_abs.ensures.value in
    let i = c.if-unsigned_abs-gt-MAX_POWER.false in
    raised c.args.powers.now c.insert.new.self c.args.term _ c.in_ok-insert.ensures.updates (omega (arith, ints, f1, f2, p, u, i))

pub returns-clause-range : goal.returns-clause-range
returns-clause-range c =
    let f1 = c.from.ensures in
    let f2 = c.from-2.ensures in
    let p = c.power_at.ensures in
    let u = c.unsigned_abs.ensures.value in
    let i = c.if-unsigned_abs-gt-MAX_POWER.false in
    true_from_ne_false _ (λ e. let g = leb-false (nat_abs (power_at c.args.powers.now c.args.term.atom +ℤ c.args.term.power)) 2147483647 e in omega (arith, ints, g, u, i, f1, f2, p))
