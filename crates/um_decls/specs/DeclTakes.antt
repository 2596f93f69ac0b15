-- What holds when a reader of declarations ends.
-- Source: this project's own.
use Rattle.std.specs.Prelude.{◌≡◌, ◌≤◌, Bool, cond, List, map, Option, Some, None}
use Rattle.um_tree.specs.declared.raw.RawDecl.{RawDecl}
use Rattle.um_tree.specs.RawTree.{TypeSyntax, DeclSyntax, decl_syntax}
use Rattle.um_unit_texts.specs.UnitStops.{greatest_height}
use Rattle.um_types.specs.TypeHeights.{whole_height}
use Rattle.um_types.specs.TypeMachine.{type_finish}
use Rattle.um_decls.specs.DeclMachine.{DeclState, InField, InParam, InResult, program_found}

-- the type that ends here, if one has begun, isn't too high
abbrev pub IsLow : DeclState → Type 0
IsLow (InField at x vs fs place y s) = (t : TypeSyntax) → type_finish s ≡ Some t → whole_height t ≤ greatest_height
IsLow (InParam head ps b s) = (t : TypeSyntax) → type_finish s ≡ Some t → whole_height t ≤ greatest_height
IsLow (InResult head ps s) = (t : TypeSyntax) → type_finish s ≡ Some t → whole_height t ≤ greatest_height
IsLow st = Unit {0}

-- whether a declaration ended there: it stands after the others
abbrev pub Ends : Option DeclSyntax → Bool → List RawDecl → List RawDecl → Type 0
Ends found whole old new = program_found (map decl_syntax old) found ≡ cond whole (Some (map decl_syntax new)) None
