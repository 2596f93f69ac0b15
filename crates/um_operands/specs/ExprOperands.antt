-- Expressions, items and fields that were read, without where they lie in memory.
-- Source: this project's own.
use Rattle.std.specs.Prelude.{List, map}
use Rattle.um_tree.specs.RawTree.{ExprSyntax, expr_syntax, FieldPart, field_part}
use Rattle.um_operands.specs.declared.operand.Operand.{Operand}
use Rattle.um_operands.specs.declared.operands.Operands.{Operands}
use Rattle.um_operands.specs.declared.operands.ReadFields.{ReadFields}

abbrev pub operand_expr : Operand → ExprSyntax
operand_expr p = expr_syntax p.tree.value

abbrev pub operand_exprs : Operands → List ExprSyntax
operand_exprs f = map expr_syntax f.items.items

abbrev pub read_fields : ReadFields → List FieldPart
read_fields f = map field_part f.items.items
