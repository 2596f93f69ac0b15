use Rattle.std.proofs.Common.{◌≡◌, ◌^◌, nat_abs, subst, sym, arith, rules, ℤ, w32, FitsSigned}
use Rattle.std.specs.Prelude.{IfOk}
use Rattle.std.proofs.lemmas.Int.{ints}
use Rattle.std.proofs.lemmas.Result.{IfOk-weaker}
use Rattle.um_units.specs.PowerMap.{PowerMap, atom, pow}
use Rattle.um_wide.specs.Room.{IsWithin}
use Rattle.um_wide.proofs.Rooms.{abs_32, within-atom_pow, within-weaker}
use Rattle.um_wide.proofs.images.single.Goals as goal

pub returns-clause-power : goal.returns-clause-power
returns-clause-power c =
    let f : FitsSigned w32 c.args.term.power = search rules in
    let e = c.from.ensures in
    subst (λ (z : ℤ). IfOk c.atom_power.result (λ (u : PowerMap). u ≡ pow (atom c.args.term.atom) z)) (omega (arith, ints, e, f)) c.atom_power.ensures.exact

pub returns-clause-room : goal.returns-clause-room
returns-clause-room c =
    let f : FitsSigned w32 c.args.term.power = search rules in
    let l = abs_32 c.args.term.power f in
    IfOk-weaker c.atom_power.result (λ (u : PowerMap). u ≡ pow (atom c.args.term.atom) c.args.term.power) (IsWithin (2 ^ 62))
    (λ u e. subst (IsWithin (2 ^ 62)) (sym e) (within-weaker (nat_abs c.args.term.power) (2 ^ 62) (pow (atom c.args.term.atom) c.args.term.power) (omega (arith, l)) (within-atom_pow c.args.term.atom c.args.term.power)))
    (returns-clause-power c)
