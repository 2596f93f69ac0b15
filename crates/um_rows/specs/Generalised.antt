-- Unit parameters as variables: in a function's own typing each is a base unit after the declared ones, and its callers
-- may put any unit for it.
-- Source: F# specification, Units Of Measure, on declared measure parameters; Kennedy (1996): generalisation. That the
-- variables of parameters come after the slots is this project's own.
use Rattle.std.specs.Prelude.{ℕ, ◌+◌, ◌-◌, nat_le, nat_lt, ◌&&◌, Bool, if◌then◌else◌}
use Rattle.um_units.specs.declared.Atom.{Atom}
use Rattle.um_units.specs.declared.Atom.TheVariants.{Base, Var}
use Rattle.um_units.specs.declared.Term.{Term}
use Rattle.um_units.specs.PowerMap.{PowerMap, atom, extension}
use Rattle.um_tree.specs.ProgramTree.{Signature}
use Rattle.um_tree.specs.Typing.{moved_signature}

-- the units of so many parameters, which follow so many base units, over so many slots
module _ (bases parameters slots : ℕ) where
  abbrev pub is_parameter : ℕ → Bool
  is_parameter m = nat_le bases m && nat_lt m (bases + parameters)

  -- the base unit bases + k of parameter k becomes the variable slots + k, and each other atom stays
  abbrev pub generalised_atom : Atom → Atom
  generalised_atom (Base m) = if is_parameter m then Var (slots + (m - bases)) else Base m
  generalised_atom (Var k) = Var k

  abbrev pub generalised_term : Term → Term
  generalised_term t = record { atom = generalised_atom t.atom; power = t.power }

  abbrev pub generalised_unit : PowerMap → PowerMap
  generalised_unit = extension (λ x. atom (generalised_atom x))

  abbrev pub generalised : Signature → Signature
  generalised = moved_signature generalised_unit
