-- What is told of a text that has no tokens: what is wrong with the character, the number or the power.
-- Source: this project's own texts.
use Rattle.std.specs.Prelude.{ℕ, ◌-◌, ◌&&◌, Bool, false, if◌then◌else◌, List, [], codes, drop, length, slice_get, take}
use Rattle.std.specs.Prelude.{Option, Some, None}
use Rattle.std.specs.Char.{is_ascii_digit}
use Rattle.std.specs.Str.{chars}
use Rattle.unicode_ident.specs.Ident.{is_xid_continue}
use Rattle.um_syntax.specs.Lexeme.{begins}
use Rattle.um_syntax.specs.declared.token.TextStop.{TextStop}
use Rattle.um_syntax.specs.declared.token.TextStop.TheVariants as stop

abbrev pub is_digit : Option ℕ → Bool
is_digit None = false
is_digit (Some b) = is_ascii_digit b

abbrev pub last_byte : List ℕ → Option ℕ
last_byte bytes = slice_get bytes (length bytes - 1)

-- A digit stands directly before the place, and the character there may go on a name. The digit is a number's, since a
-- name would go on.
abbrev pub follows_number : List ℕ → ℕ → Bool
follows_number bytes at = is_digit (last_byte (take at bytes)) && begins is_xid_continue (chars (drop at bytes))

abbrev pub character_line : Bool → List ℕ
character_line after_number =
    if after_number then codes "no letter follows a number\n" else codes "no token begins with this character\n"

abbrev pub number_line : List ℕ
number_line = codes "a number has at most 38 digits, no denominator 0, and parts that fit 64 bits\n"

abbrev pub power_line : List ℕ
power_line = codes "a power is digits alone, at most 2147483647\n"

-- of bytes that aren't UTF-8 nothing more is told than where they stop
abbrev pub text_details : List ℕ → TextStop → List ℕ
text_details bytes (stop.Utf8 at) = []
text_details bytes (stop.BadChar at) = character_line (follows_number bytes at)
text_details bytes (stop.NumberRange at) = number_line
text_details bytes (stop.PowerText at) = power_line
text_details bytes stop.NoMemory = []
