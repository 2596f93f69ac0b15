-- The numbers of nodes of the bodies in a program.
-- Source: this project's own limits.
use Rattle.std.specs.Prelude.{ℕ, ◌+◌, List, [], ◌∷◌}
use Rattle.um_tree.specs.RawTree.{DeclSyntax, base_syntax, short_syntax, record_decl_syntax, function_syntax}
use Rattle.um_tree.specs.Heights.{expr_nodes}

abbrev pub decl_nodes : DeclSyntax → ℕ
decl_nodes (base_syntax at x) = 0
decl_nodes (short_syntax at x u) = 0
decl_nodes (record_decl_syntax at x vs fs) = 0
decl_nodes (function_syntax f) = expr_nodes f.body

abbrev pub program_nodes : List DeclSyntax → ℕ
program_nodes [] = 0
program_nodes (d ∷ ds) = decl_nodes d + program_nodes ds
