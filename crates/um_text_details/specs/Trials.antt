-- What the search for expected words keeps.
-- Source: this project's own.
use Rattle.std.specs.Prelude.{◌≡◌, ◌&&◌, ◌||◌, not, Bool}
use Rattle.std.specs.Bool.{Decides}
use Rattle.um_syntax.specs.Lexing.{is_power_place}
use Rattle.um_text_details.specs.declared.tell.Tried.{Tried}
use Rattle.um_text_details.specs.Expected.{Place, FractionCanStand, TwoCanStand, OneCanStand, AllOperatorsStand}

-- what was tried is right
pub record IsTried (p : Place) (t : Tried) : Type 0 where
  pub power : t.power ≡ is_power_place p.before
  pub fraction : Decides t.fraction (FractionCanStand p)
  pub two : Decides t.two (TwoCanStand p)
  pub one : Decides t.one (OneCanStand p)
  pub operators : Decides t.operators (AllOperatorsStand p)

-- the words that it decides
abbrev pub number_told : Tried → Bool
number_told t = not t.power && t.fraction

abbrev pub whole_told : Tried → Bool
whole_told t = (t.power || not t.fraction) && t.two

abbrev pub one_told : Tried → Bool
one_told t = not t.power && (not t.fraction && (not t.two && t.one))
