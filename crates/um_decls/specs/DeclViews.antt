-- What was read of a declaration, without where it lies in memory.
-- Source: this project's own.
use Rattle.std.specs.Prelude.{List, map}
use Rattle.um_tree.specs.RawTree.{VarSyntax, FieldDeclSyntax, ParamSyntax, var_syntax, field_decl_syntax, param_syntax}
use Rattle.um_tree.specs.RawTree.{binder_syntax, written_type}
use Rattle.um_types.specs.TypeMachine.{TypeState}
use Rattle.um_types.specs.TypeView.{type_state}
use Rattle.um_expr.specs.ExprStates.{expr_state}
use Rattle.um_decls.specs.DeclMachine.{DeclExpected, RecordVars, VarBegin, VarWord, VarGreater, VarClose, VarName}
use Rattle.um_decls.specs.DeclMachine.{VarEnd, RecordEqual, RecordBrace, FieldName, FieldColon, FunctionVars, Params}
use Rattle.um_decls.specs.DeclMachine.{ParamBinder, ParamColon, DeclState, Expects, HaveRecord, InField, InParam}
use Rattle.um_decls.specs.DeclMachine.{InResult, InBody, NoDecl, FunctionStart, VarOwner, OfRecord, OfFunction}
use Rattle.um_decls.specs.DeclMachine.{after_vars}
use Rattle.um_decls.specs.declared.head.Head.{Head}
use Rattle.um_decls.specs.declared.decl_vars.FixedVarToken.{FixedVarToken}
use Rattle.um_decls.specs.declared.decl_vars.FixedVarToken.TheVariants as fixed_var
use Rattle.um_decls.specs.declared.decl_vars.VarExpected.{VarExpected}
use Rattle.um_decls.specs.declared.decl_vars.VarExpected.TheVariants as var
use Rattle.um_decls.specs.declared.decl_vars.VarTaken.{VarTaken}
use Rattle.um_decls.specs.declared.decl_vars.VarTaken.TheVariants as var_taken
use Rattle.um_decls.specs.declared.record_reader.RecordReader.{RecordReader}
use Rattle.um_decls.specs.declared.record_reader.FieldExpected.{FieldExpected}
use Rattle.um_decls.specs.declared.record_reader.FieldExpected.TheVariants as field
use Rattle.um_decls.specs.declared.function_reader.FunctionBody.{FunctionBody}
use Rattle.um_decls.specs.declared.function_reader.FunctionReader.{FunctionReader}
use Rattle.um_decls.specs.declared.function_reader.FunctionExpected.{FunctionExpected}
use Rattle.um_decls.specs.declared.function_reader.FunctionExpected.TheVariants as function

abbrev pub head_vars : Head → List VarSyntax
head_vars h = map var_syntax h.vars.items.items

abbrev pub read_fields : RecordReader → List FieldDeclSyntax
read_fields r = map field_decl_syntax r.fields.items.items

-- a function up to its parameters
abbrev pub start_in : FunctionReader → FunctionStart
start_in f = record { at = f.head.at; name = f.head.name; recursive = f.recursive; units = head_vars f.head }

abbrev pub read_params : FunctionReader → List ParamSyntax
read_params f = map param_syntax f.params.items.items

-- among unit parameters, by whose they are and those that were read
abbrev pub view_fixed_var : VarOwner → List VarSyntax → FixedVarToken → DeclExpected
view_fixed_var o vs fixed_var.Begin = VarBegin o vs
view_fixed_var o vs fixed_var.Word = VarWord o vs
view_fixed_var o vs fixed_var.Greater = VarGreater o vs
view_fixed_var o vs fixed_var.Close = VarClose o vs
view_fixed_var o vs fixed_var.End = VarEnd o vs

abbrev pub view_var : VarOwner → List VarSyntax → VarExpected → DeclExpected
view_var o vs (var.Token t) = view_fixed_var o vs t
view_var o vs var.Name = VarName o vs

abbrev pub var_state : VarOwner → List VarSyntax → VarTaken → DeclState
var_state o vs (var_taken.Goes v) = Expects (view_var o vs v)
var_state o vs var_taken.Ends = Expects (after_vars o vs)
var_state o vs var_taken.Stops = NoDecl

-- after the name of a record, by its head, its fields and the type that is read
abbrev pub field_state : Head → List FieldDeclSyntax → TypeState → FieldExpected → DeclState
field_state h fs s field.Named = Expects (RecordVars h.at h.name)
field_state h fs s (field.Var v) = Expects (view_var (OfRecord h.at h.name) (head_vars h) v)
field_state h fs s field.Equal = Expects (RecordEqual h.at h.name (head_vars h))
field_state h fs s field.Brace = Expects (RecordBrace h.at h.name (head_vars h))
field_state h fs s field.Name = Expects (FieldName h.at h.name (head_vars h) fs)
field_state h fs s (field.Colon p y) = Expects (FieldColon h.at h.name (head_vars h) fs p y)
field_state h fs s (field.Type p y) = InField h.at h.name (head_vars h) fs p y s
field_state h fs s field.Nothing = HaveRecord h.at h.name (head_vars h) fs

abbrev pub record_state : RecordReader → DeclState
record_state r = field_state r.head (read_fields r) (type_state r.ty) r.expected

-- after the name of a function, by what stands before its parameters, these, the type and the body that are read
abbrev pub param_state : FunctionStart → List ParamSyntax → TypeState → FunctionBody → FunctionExpected → DeclState
param_state head ps s b function.Named = Expects (FunctionVars head.recursive head.at head.name)
param_state head ps s b (function.Var v) =
    Expects (view_var (OfFunction head.recursive head.at head.name) head.units v)
param_state head ps s b function.Params = Expects (Params head ps)
param_state head ps s b function.Binder = Expects (ParamBinder head ps)
param_state head ps s b (function.Colon x) = Expects (ParamColon head ps (binder_syntax x))
param_state head ps s b (function.Param x) = InParam head ps (binder_syntax x) s
param_state head ps s b function.Result = InResult head ps s
param_state head ps s b function.Body = InBody head ps (written_type b.result) (expr_state b.body)

abbrev pub function_state : FunctionReader → DeclState
function_state f = param_state (start_in f) (read_params f) (type_state f.ty) f.body f.expected
