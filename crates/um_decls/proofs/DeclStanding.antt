-- Whether a token goes on in a declaration, by whether it does in what is read inside it.
use Rattle.std.proofs.Common.{◌≡◌, ◌&&◌, ◌||◌, ℕ, Bool, true, false, is_some, List, [], Option, Some, None, refl}
use Rattle.um_syntax.specs.declared.token.Kind.{Kind}
use Rattle.um_syntax.specs.declared.token.Kind.TheVariants as kind
use Rattle.um_vocabulary.specs.declared.vocabulary.Keyword.TheVariants as keyword
use Rattle.um_vocabulary.specs.declared.vocabulary.Symbol.TheVariants as symbol
use Rattle.um_tree.specs.RawTree.{BinderSyntax, ExprSyntax, FieldDeclSyntax, ParamSyntax, TypeSyntax, VarSyntax}
use Rattle.um_types.specs.TypeMachine.{TypeState, NoType}
use Rattle.um_types.specs.Standing.{type_stands}
use Rattle.um_operands.specs.ExprBegun.{State, Refused}
use Rattle.um_operands.specs.Standing.{stands}
use Rattle.um_forms.specs.declared.token.ExprToken.{ExprToken}
use Rattle.um_forms.specs.ExprTokens.{expr_token}
use Rattle.um_decls.specs.DeclMachine.{FunctionStart, FunctionVars, started, take_expected, take_params, field_ends, field_goes, param_ends, param_goes, result_ends, result_goes, body_goes, body_found}
use Rattle.um_decls.specs.DeclStanding.{decl_stands, is_less}

pub field_stands : (at : ℕ) (x : List ℕ) (vs : List VarSyntax) (fs : List FieldDeclSyntax) (place : ℕ) (y : List ℕ) (s : TypeState) (found : Option TypeSyntax) (token : ExprToken) (b : Bool)
    → ((t : TypeSyntax) → b ≡ decl_stands (field_ends at x vs fs place y (Some t) token))
    → (type_stands s || (is_some found && b)) ≡ decl_stands (field_goes at x vs fs place y s (field_ends at x vs fs place y found token))
field_stands at x vs fs place y NoType (Some t) token b ends = ends t
field_stands at x vs fs place y NoType None token b ends = refl
field_stands at x vs fs place y _ found token b ends = refl

pub param_stands : (head : FunctionStart) (ps : List ParamSyntax) (x : BinderSyntax) (s : TypeState) (found : Option TypeSyntax) (token : ExprToken) (b : Bool)
    → ((t : TypeSyntax) → b ≡ decl_stands (param_ends head ps x (Some t) token))
    → (type_stands s || (is_some found && b)) ≡ decl_stands (param_goes head ps x s (param_ends head ps x found token))
param_stands head ps x NoType (Some t) token b ends = ends t
param_stands head ps x NoType None token b ends = refl
param_stands head ps x _ found token b ends = refl

pub result_stands : (head : FunctionStart) (ps : List ParamSyntax) (s : TypeState) (found : Option TypeSyntax) (token : ExprToken) (b : Bool)
    → ((t : TypeSyntax) → b ≡ decl_stands (result_ends head ps (Some t) token))
    → (type_stands s || (is_some found && b)) ≡ decl_stands (result_goes head ps s (result_ends head ps found token))
result_stands head ps NoType (Some t) token b ends = ends t
result_stands head ps NoType None token b ends = refl
result_stands head ps _ found token b ends = refl

-- ---- after the name of a function

pub vars_begin : (recursive : Bool) (at : ℕ) (x : List ℕ) (k : Kind) (p : ℕ) → is_less k ≡ true → true ≡ decl_stands (take_expected (FunctionVars recursive at x) (expr_token k) p)
vars_begin recursive at x (kind.Sign symbol.Less) p less = refl
vars_begin recursive at x _ p less = absurd cc

pub params_begin : (recursive : Bool) (at : ℕ) (x : List ℕ) (k : Kind) (p : ℕ) → is_less k ≡ false → take_params (started recursive at x []) [] (expr_token k) ≡ take_expected (FunctionVars recursive at x) (expr_token k) p
params_begin recursive at x (kind.Sign symbol.Less) p less = absurd cc
params_begin recursive at x (kind.Word keyword.True) p less = refl
params_begin recursive at x _ p less = refl

-- ---- in the body of a function

pub body_stands : (head : FunctionStart) (ps : List ParamSyntax) (r : Option TypeSyntax) (s : State) → stands s ≡ decl_stands (body_goes head ps r s)
body_stands head ps r Refused = refl
body_stands head ps r _ = refl

pub body_whole : (head : FunctionStart) (ps : List ParamSyntax) (r : Option TypeSyntax) (found : Option ExprSyntax) → is_some found ≡ is_some (body_found head ps r found)
body_whole head ps r (Some t) = refl
body_whole head ps r None = refl
