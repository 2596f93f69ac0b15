use Rattle.std.proofs.Common.{sym, subst, arith}
use Rattle.std.proofs.lemmas.Int.{ints}
use Rattle.um_wide.specs.Room.{HaveRoom}
use Rattle.um_reasons.proofs.WideProducts.{room_atom}
use Rattle.um_reasons.proofs.powers.times_atom.Goals as goal

pub mul-requires : goal.mul-requires
mul-requires c = record {
  room = subst (HaveRoom c.args.unit.now) (sym c.in_ok-raised.ensures.exact)
      (room_atom c.args.unit.now c.args.a _ c.requires.unit (let h = c.requires.power in omega (arith, ints, h)));
}
