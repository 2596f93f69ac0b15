-- The least height of a declaration that begins with what was read; a part that is missing counts 1.
-- Source: this project's own.
use Rattle.std.specs.Prelude.{ℕ, max}
use Rattle.um_syntax.specs.declared.token.Token.{Token}
use Rattle.um_reader.specs.Machine.{Machine}
use Rattle.um_tree.specs.RawTree.{DeclSyntax}
use Rattle.um_unit_texts.specs.UnitLeast.{least}
use Rattle.um_types.specs.TypeMachine.{type_least}
use Rattle.um_operands.specs.ExprLeast.{whole_least}
use Rattle.um_decls.specs.DeclHeights.{fields_height, params_height, result_height}
use Rattle.um_decls.specs.DeclMachine.{DeclExpected, DeclBegin, AttributeWord, AttributeGreater, AttributeClose}
use Rattle.um_decls.specs.DeclMachine.{MeasureType, MeasureName, FieldName, FieldColon, Params, ParamBinder, ParamColon}
use Rattle.um_decls.specs.DeclMachine.{DeclState, Expects, HaveBase, InShort, HaveRecord, InField, InParam, InResult}
use Rattle.um_decls.specs.DeclMachine.{InBody, NoDecl, decl_step, decl_finish}

-- a measure has no height; a record has a field, and a function a body
abbrev pub expected_least : DeclExpected → ℕ
expected_least DeclBegin = 0
expected_least AttributeWord = 0
expected_least AttributeGreater = 0
expected_least AttributeClose = 0
expected_least MeasureType = 0
expected_least MeasureName = 0
expected_least (FieldName at x vs fs) = max (fields_height fs) 1
expected_least (FieldColon at x vs fs place y) = max (fields_height fs) 1
expected_least (Params head ps) = max (params_height ps) 1
expected_least (ParamBinder head ps) = max (params_height ps) 1
expected_least (ParamColon head ps b) = max (params_height ps) 1
expected_least _ = 1

abbrev pub decl_least : DeclState → ℕ
decl_least (Expects expected) = expected_least expected
decl_least (HaveBase at x) = 0
decl_least (InShort at x u) = least u
decl_least (HaveRecord at x vs fs) = fields_height fs
decl_least (InField at x vs fs place y s) = max (fields_height fs) (type_least s)
decl_least (InParam head ps b s) = max (params_height ps) (max (type_least s) 1)
decl_least (InResult head ps s) = max (params_height ps) (max (type_least s) 1)
decl_least (InBody head ps r e) = max (params_height ps) (max (result_height r) (whole_least e))
decl_least NoDecl = 0

-- the machine of declarations
abbrev pub machine_of_declarations : Machine DeclState Token DeclSyntax
machine_of_declarations =
    record { start = Expects DeclBegin; refused = NoDecl; step = decl_step; finish = decl_finish; least = decl_least }
