-- The states of readers of declarations and of programs.
-- Source: this project's own.
use Rattle.std.specs.Prelude.{map, Option, Some, None}
use Rattle.um_syntax.specs.declared.token.Token.{Token}
use Rattle.um_tree.specs.RawTree.{decl_syntax}
use Rattle.um_unit_texts.specs.UnitView.{unit_state}
use Rattle.um_forms.specs.ExprTokens.{expr_token}
use Rattle.um_decls.specs.DeclMachine.{DeclExpected, DeclBegin, AttributeWord, AttributeGreater, AttributeClose}
use Rattle.um_decls.specs.DeclMachine.{MeasureType, MeasureName, RecordName, LetName, RecName, DeclState, Expects}
use Rattle.um_decls.specs.DeclMachine.{HaveBase, InShort, NoDecl, ProgramState, InProgram, base_after}
use Rattle.um_decls.specs.DeclViews.{record_state, function_state}
use Rattle.um_parse.specs.declared.decl_reader.DeclPlace.{DeclPlace}
use Rattle.um_parse.specs.declared.decl_reader.DeclPlace.TheVariants as place
use Rattle.um_parse.specs.declared.decl_reader.DeclReader.{DeclReader}
use Rattle.um_decls.specs.declared.function_reader.FunctionReader.{FunctionReader}
use Rattle.um_parse.specs.declared.program_reader.ProgramReader.{ProgramReader}
use Rattle.um_parse.specs.declared.decl_prefix.FixedToken.{FixedToken}
use Rattle.um_parse.specs.declared.decl_prefix.FixedToken.TheVariants as fixed
use Rattle.um_parse.specs.declared.decl_prefix.DeclExpected.{DeclExpected as ExpectedToken}
use Rattle.um_parse.specs.declared.decl_prefix.DeclExpected.TheVariants as expected

-- before a name
abbrev pub view_fixed : FixedToken → DeclExpected
view_fixed fixed.Begin = DeclBegin
view_fixed fixed.Word = AttributeWord
view_fixed fixed.Greater = AttributeGreater
view_fixed fixed.Close = AttributeClose
view_fixed fixed.Type = MeasureType

abbrev pub view_expected : ExpectedToken → DeclExpected
view_expected (expected.Token t) = view_fixed t
view_expected expected.BaseName = MeasureName
view_expected expected.RecordName = RecordName
view_expected expected.LetName = LetName
view_expected expected.RecName = RecName

-- what follows, or nothing if the token is refused
abbrev pub reached : Option ExpectedToken → DeclState
reached None = NoDecl
reached (Some p) = Expects (view_expected p)

-- the state of a reader of a declaration, by how far it was read and its reader of functions
abbrev pub place_state : DeclPlace → FunctionReader → DeclState
place_state place.Nothing f = NoDecl
place_state (place.At p) f = Expects (view_expected p)
place_state (place.Base at x) f = HaveBase at x
place_state (place.Short at x u) f = InShort at x (unit_state u.value)
place_state (place.Record r) f = record_state r.value
place_state place.Function f = function_state f

abbrev pub reader_state : DeclReader → DeclState
reader_state r = place_state r.place r.function

-- the token after the name of a measure
abbrev pub base_step : DeclPlace → Token → DeclState
base_step (place.Base at x) token = base_after at x (expr_token token.kind)
base_step _ token = NoDecl

-- the state of a reader of a program
abbrev pub program_state : ProgramReader → ProgramState
program_state r = InProgram (map decl_syntax r.decls.items) (reader_state r.last)
