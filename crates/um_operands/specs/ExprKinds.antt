-- What a following token may make more of: a name, a number without a note; whole powers, which no field follows.
-- Source: this project's own.
use Rattle.std.specs.Prelude.{Bool, true, false, None}
use Rattle.um_tree.specs.RawTree.{ExprSyntax, name_syntax, number_syntax, pown_syntax}

abbrev pub is_name : ExprSyntax → Bool
is_name (name_syntax at x) = true
is_name _ = false

abbrev pub is_plain_number : ExprSyntax → Bool
is_plain_number (number_syntax at c None) = true
is_plain_number _ = false

abbrev pub is_power : ExprSyntax → Bool
is_power (pown_syntax at e k) = true
is_power _ = false
