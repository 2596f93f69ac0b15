use Rattle.std.proofs.Common.{◌^◌, subst, sym, arith, negsuc}
use Rattle.um_units.specs.declared.Atom.TheVariants.{Var}
use Rattle.um_wide.specs.Room.{IsWithin}
use Rattle.um_wide.proofs.Rooms.{within-atom_pow, room-within}
use Rattle.um_proof.proofs.yes.returned_slot.Goals as goal

pub mul-requires : goal.mul-requires
mul-requires c =
    record { room = room-within (2 ^ 126) 1 c.in_ok-image.image c.in_ok-inverse.inverse c.in_ok-image.ensures.room (subst (IsWithin 1) (sym c.in_ok-inverse.ensures.exact) (within-atom_pow (Var c.args.slot) (negsuc 0))) (omega arith) }
