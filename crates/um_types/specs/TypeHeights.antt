-- The heights in a note and in a type text, each unit text and each type text by itself.
-- Source: this project's own limits.
use Rattle.std.specs.Prelude.{ℕ, max, List, [], ◌∷◌, Some, None}
use Rattle.um_tree.specs.RawTree.{NoteSyntax, hole_syntax, unit_note_syntax, TypeSyntax, bool_syntax, num_syntax}
use Rattle.um_tree.specs.RawTree.{record_syntax, list_type_syntax, bracket_type_syntax}
use Rattle.um_tree.specs.Heights.{unit_height, type_height}

-- the height of the unit text in a note, if there is one
abbrev pub note_height : NoteSyntax → ℕ
note_height (hole_syntax at) = 0
note_height (unit_note_syntax at u) = unit_height u

abbrev pub notes_height : List NoteSyntax → ℕ
notes_height [] = 0
notes_height (n ∷ ns) = max (note_height n) (notes_height ns)

-- the height of the highest unit text in a type text
abbrev pub units_height : TypeSyntax → ℕ
units_height bool_syntax = 0
units_height (num_syntax None) = 0
units_height (num_syntax (Some n)) = note_height n
units_height (record_syntax at x ns) = notes_height ns
units_height (list_type_syntax t) = units_height t
units_height (bracket_type_syntax t) = units_height t

-- the greatest of the heights of a type text and of the unit texts in it
abbrev pub whole_height : TypeSyntax → ℕ
whole_height t = max (type_height t) (units_height t)

-- the greatest of those of several type texts
abbrev pub all_height : List TypeSyntax → ℕ
all_height [] = 0
all_height (t ∷ ts) = max (whole_height t) (all_height ts)
