use Rattle.std.proofs.Common.{◌≡◌, to_z, of_z, w64, pos, refl, sym, ap, ◌∙◌, arith}
use Rattle.std.specs.Int.{w128}
use Rattle.std.specs.Option.{ok_or}
use Rattle.std.proofs.lemmas.Int.{ints}
use Rattle.um_frac.specs.declared.number.Trap.TheVariants.{Overflow}
use Rattle.um_frac.proofs.Gcd.{gcd-one}
use Rattle.um_frac.proofs.LowestTerms.{fraction_none, fraction_from}
use Rattle.um_frac.proofs.Outcomes.{reduced-whole}
use Rattle.um_frac.proofs.number.Frac.whole.Goals as goal
use Rattle.um_frac.proofs.number.Frac.whole.Goals.{then-n-via-then-n, then-n-via-else-n+then-n-2}

pub returns-then-n : goal.returns-then-n
returns-then-n c =
    ap (λ o. ok_or o Overflow)
    (sym (reduced-whole c.args.n ∙ fraction_none c.args.n (pos 1) (λ r e f.
    let low = r.above in
    let high = r.num_fits in
    elim c.then-n.branch [
      | then-n-via-then-n w ↦ let past = w.if-n.true in omega (arith, ints, e)
      | then-n-via-else-n+then-n-2 w ↦ let past = w.if-n-2.true in omega (arith, ints, e)
    ])))

pub invariant_of-result : goal.invariant_of-result
invariant_of-result c = record { positive = omega (arith, ints); den_fits = omega (arith, ints); above = omega (arith, ints); num_fits = omega (arith, ints); lowest = gcd-one _ }

pub returns : goal.returns
returns c =
    let read : to_z w64 (of_z w64 (to_z w128 (of_z w128 c.args.n))) ≡ c.args.n = omega (arith, ints) in
    ap (λ o. ok_or o Overflow) (fraction_from c.args.n (pos 1) _ read refl ∙ sym (reduced-whole c.args.n))
