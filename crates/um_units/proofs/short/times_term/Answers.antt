use Rattle.std.proofs.Common.{rules, ◌≡◌, subst, to_z, of_z, w32, FitsSigned}
use Rattle.std.proofs.lemmas.Int.{to_z-of_z}
use Rattle.std.specs.Prelude.{IfOk}
use Rattle.um_units.specs.PowerMap.{atom}
use Rattle.um_units.specs.Range.{fits, RangeUnless}
use Rattle.um_units.proofs.ShortUnits.{power_passed}
use Rattle.um_units.proofs.short.times_term.Goals as goal

pub returns-clause-exact : goal.returns-clause-exact
returns-clause-exact c =
    let k = c.args.term.power in
    let f : FitsSigned w32 c.args.term.power = search rules in
    let same = power_passed c.args.left.now c.in_ok-own.own (atom c.args.term.atom) k (to_z w32 (of_z w32 k)) c.in_ok-own.ensures.exact (to_z-of_z w32 k f) in
    subst (λ u. IfOk c.mul_pow.result (λ unit. unit ≡ u)) same c.mul_pow.ensures.exact

pub returns-clause-range : goal.returns-clause-range
returns-clause-range c =
    let k = c.args.term.power in
    let f : FitsSigned w32 c.args.term.power = search rules in
    let same = power_passed c.args.left.now c.in_ok-own.own (atom c.args.term.atom) k (to_z w32 (of_z w32 k)) c.in_ok-own.ensures.exact (to_z-of_z w32 k f) in
    subst (λ u. RangeUnless c.mul_pow.result (fits u)) same c.mul_pow.ensures.range
