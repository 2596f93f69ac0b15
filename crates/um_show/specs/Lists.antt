-- Mirrors the code: texts of lists, fields and arms as its printing functions speak of them.
-- Source: this project's own.
use Rattle.std.specs.Prelude.{ℕ, ◌==◌, List, [], ◌∷◌, ◌++◌, cond}
use Rattle.std.specs.List.{join_by}
use Rattle.um_tree.specs.RawTree.{BinderSyntax, FieldPart, VarSyntax, FieldDeclSyntax}
use Rattle.um_tree.specs.RawTree.{record_decl_syntax}
use Rattle.um_show.specs.Pieces.{Piece, name, space, semi, let_word, equal, bar, double_colon, arrow, text_of}
use Rattle.um_show.specs.Layout.{binder_piece, expr_pieces, field_decl_pieces, decl_pieces}

-- what is written before item i, where the separator is written between each two
abbrev pub gap_before : ℕ → List ℕ → List ℕ
gap_before i separator = cond (i == 0) [] separator

-- signs between operands, with their spaces
abbrev pub spaced_text : List Piece → List ℕ
spaced_text signs = text_of (space ∷ signs ++ space ∷ [])

-- `let x = `
abbrev pub let_text : BinderSyntax → List ℕ
let_text x = text_of (let_word ∷ space ∷ binder_piece x ∷ space ∷ equal ∷ space ∷ [])

-- ` | x :: y -> `
abbrev pub arm_pieces : BinderSyntax → BinderSyntax → List Piece
arm_pieces x y =
    space ∷ bar ∷ space ∷ binder_piece x ∷ space ∷ double_colon ∷ space ∷ binder_piece y ∷ space ∷ arrow ∷ space ∷ []

abbrev pub arms_text : BinderSyntax → BinderSyntax → List ℕ
arms_text x y = text_of (arm_pieces x y)

-- `f = A`
abbrev pub part_pieces : FieldPart → List Piece
part_pieces f = name f.name ∷ space ∷ equal ∷ space ∷ expr_pieces f.part

abbrev pub part_text : FieldPart → List ℕ
part_text f = text_of (part_pieces f)

-- declared fields, `; ` between each two
abbrev pub field_decls_text : List FieldDeclSyntax → List ℕ
field_decls_text fs = text_of (join_by field_decl_pieces (semi ∷ space ∷ []) fs)

-- a declared record
abbrev pub record_decl_text : List ℕ → List VarSyntax → List FieldDeclSyntax → List ℕ
record_decl_text x vs fs = text_of (decl_pieces (record_decl_syntax 0 x vs fs))
