-- The code's: powers of 64 bits.
-- Source: this project's own; no public clause rests on it.
use Rattle.std.specs.Prelude.{Bool, nat_le, nat_abs, List, ℤ}
use Rattle.std.specs.List.{list_all}
use Rattle.um_units.specs.declared.wide.WideTerm.{WideTerm}

-- the power fits in 64 bits, without the least number
abbrev pub is_narrow_power : ℤ → Bool
is_narrow_power z = nat_le (nat_abs z) 9223372036854775807

abbrev pub all_narrow : List WideTerm → Bool
all_narrow = list_all (λ w. is_narrow_power w.power)
