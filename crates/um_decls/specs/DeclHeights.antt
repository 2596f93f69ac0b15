-- The heights of fields, of parameters and of a result type: the greatest height of a type text among them, and of the
-- unit texts in it.
-- Source: this project's own limits.
use Rattle.std.specs.Prelude.{ℕ, max, List, [], ◌∷◌, Option, Some, None}
use Rattle.um_tree.specs.RawTree.{TypeSyntax, FieldDeclSyntax, ParamSyntax}
use Rattle.um_types.specs.TypeHeights.{whole_height}

abbrev pub fields_height : List FieldDeclSyntax → ℕ
fields_height [] = 0
fields_height (f ∷ fs) = max (whole_height f.type) (fields_height fs)

abbrev pub params_height : List ParamSyntax → ℕ
params_height [] = 0
params_height (p ∷ ps) = max (whole_height p.type) (params_height ps)

abbrev pub result_height : Option TypeSyntax → ℕ
result_height None = 0
result_height (Some t) = whole_height t
