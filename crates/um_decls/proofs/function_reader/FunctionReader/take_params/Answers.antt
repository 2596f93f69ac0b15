use Rattle.std.proofs.Common.{◌≡◌, ap, arith, rules}
use Rattle.um_syntax.specs.declared.token.Kind.TheVariants as kind
use Rattle.um_vocabulary.specs.declared.vocabulary.Symbol.TheVariants as symbol
use Rattle.um_types.specs.TypeMachine.{NeedType}
use Rattle.um_forms.specs.ExprTokens.{expr_token}
use Rattle.um_decls.specs.DeclMachine.{NoDecl, Expects, ParamBinder, InResult, take_params}
use Rattle.um_decls.specs.DeclViews.{start_in, read_params}
use Rattle.um_decls.proofs.DeclTaken.{goes_on}
use Rattle.um_decls.proofs.function_reader.FunctionReader.take_params.Goals as goal

pub returns-in-Sign-LeftParen : goal.returns-in-Sign-LeftParen
returns-in-Sign-LeftParen c =
    let old = c.args.self.now in
    let s = start_in old in
    let ps = read_params old in
    let paren : c.args.token.now.kind ≡ kind.Sign symbol.LeftParen = search rules in
    goes_on NoDecl _ (Expects (ParamBinder s ps)) _ c.begin_param.ensures (ap (λ k. take_params s ps (expr_token k)) paren) (λ e. cc) (omega (arith, old.low))

pub returns-in-Sign-Colon : goal.returns-in-Sign-Colon
returns-in-Sign-Colon c =
    let old = c.args.self.now in
    let s = start_in old in
    let ps = read_params old in
    let colon : c.args.token.now.kind ≡ kind.Sign symbol.Colon = search rules in
    goes_on NoDecl _ (InResult s ps (NeedType 0)) _ c.begin_type.ensures (ap (λ k. take_params s ps (expr_token k)) colon) (λ e. cc) (omega (arith, old.low))
