-- The height of a program: the greatest of the heights of its expressions, type texts and unit texts, each by itself.
-- Source: this project's own limits.
use Rattle.std.specs.Prelude.{ℕ, max, List, [], ◌∷◌}
use Rattle.um_tree.specs.RawTree.{DeclSyntax, base_syntax, short_syntax, record_decl_syntax, function_syntax}
use Rattle.um_tree.specs.Heights.{unit_height}
use Rattle.um_operands.specs.ExprHeights.{whole_expr_height}
use Rattle.um_decls.specs.DeclHeights.{fields_height, params_height, result_height}

abbrev pub decl_height : DeclSyntax → ℕ
decl_height (base_syntax at x) = 0
decl_height (short_syntax at x u) = unit_height u
decl_height (record_decl_syntax at x vs fs) = fields_height fs
decl_height (function_syntax f) = max (params_height f.params) (max (result_height f.result) (whole_expr_height f.body))

abbrev pub program_height : List DeclSyntax → ℕ
program_height [] = 0
program_height (d ∷ ds) = max (decl_height d) (program_height ds)
