use Rattle.std.proofs.Common.{◌≡◌, ◌^◌, subst, sym, arith, negsuc}
use Rattle.std.specs.Prelude.{IfOk}
use Rattle.um_units.specs.declared.Atom.TheVariants.{Var}
use Rattle.um_units.specs.PowerMap.{PowerMap, mul}
use Rattle.um_wide.specs.Room.{IsWithin}
use Rattle.um_wide.proofs.Rooms.{within-atom_pow, room-within}
use Rattle.um_check.proofs.comes_back.over_slot.Goals as goal

pub mul-requires : goal.mul-requires
mul-requires c =
    record { room = room-within (2 ^ 126) 1 c.in_ok-image.image c.in_ok-inverse.inverse c.in_ok-image.ensures.room (subst (IsWithin 1) (sym c.in_ok-inverse.ensures.exact) (within-atom_pow (Var c.args.j) (negsuc 0))) (omega arith) }

pub returns : goal.returns
returns c = subst (λ (u : PowerMap). IfOk c.mul.result (λ w. w ≡ u)) (λ i. mul (c.in_ok-image.ensures.exact i) (c.in_ok-inverse.ensures.exact i)) c.mul.ensures.exact
