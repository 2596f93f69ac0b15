-- What follows a token of a declaration stands within the heights.
use Rattle.std.proofs.Common.{◌≡◌, ◌≢◌, ◌≤◌, List, sym, ap, ◌∙◌, arith}
use Rattle.um_tree.specs.RawTree.{VarSyntax}
use Rattle.um_reader.specs.Takes.{Gives}
use Rattle.um_reader.specs.declared.taken.Taken.TheVariants as taken
use Rattle.um_unit_texts.specs.UnitStops.{greatest_height}
use Rattle.um_decls.specs.DeclMachine.{DeclState, VarOwner, NoDecl}
use Rattle.um_decls.specs.DeclLeast.{expected_least, decl_least, machine_of_declarations}
use Rattle.um_decls.specs.DeclViews.{view_fixed_var, view_var}
use Rattle.um_decls.specs.declared.decl_vars.FixedVarToken.{FixedVarToken}
use Rattle.um_decls.specs.declared.decl_vars.FixedVarToken.TheVariants as fixed_var
use Rattle.um_decls.specs.declared.decl_vars.VarExpected.{VarExpected}
use Rattle.um_decls.specs.declared.decl_vars.VarExpected.TheVariants as var

fixed_var_low : (o : VarOwner) (vs : List VarSyntax) (t : FixedVarToken) → expected_least (view_fixed_var o vs t) ≤ greatest_height
fixed_var_low o vs fixed_var.Begin = omega arith
fixed_var_low o vs _ = omega arith

-- among unit parameters
pub var_low : (o : VarOwner) (vs : List VarSyntax) (v : VarExpected) → expected_least (view_var o vs v) ≤ greatest_height
var_low o vs (var.Token t) = fixed_var_low o vs t
var_low o vs var.Name = omega arith

-- what is read on is the next state, and stands within the heights
pub goes_on : (old next mid new : DeclState) → new ≡ mid → next ≡ mid → mid ≢ NoDecl → decl_least mid ≤ greatest_height → Gives machine_of_declarations greatest_height old next taken.Goes new
goes_on old next mid new e is on low = (e ∙ sym is, (λ h. on (sym e ∙ h)), omega (arith, low, ap decl_least e))
