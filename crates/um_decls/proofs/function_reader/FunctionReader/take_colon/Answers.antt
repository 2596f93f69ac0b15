use Rattle.std.proofs.Common.{◌≡◌, ap, arith, rules}
use Rattle.um_syntax.specs.declared.token.Kind.TheVariants as kind
use Rattle.um_vocabulary.specs.declared.vocabulary.Symbol.TheVariants as symbol
use Rattle.um_tree.specs.RawTree.{binder_syntax}
use Rattle.um_types.specs.TypeMachine.{NeedType}
use Rattle.um_forms.specs.ExprTokens.{expr_token}
use Rattle.um_decls.specs.DeclMachine.{NoDecl, ParamColon, InParam, take_expected}
use Rattle.um_decls.specs.DeclViews.{start_in, read_params}
use Rattle.um_decls.proofs.DeclTaken.{goes_on}
use Rattle.um_decls.proofs.function_reader.FunctionReader.take_colon.Goals as goal

pub returns-in-Sign-Colon : goal.returns-in-Sign-Colon
returns-in-Sign-Colon c =
    let old = c.args.self.now in
    let s = start_in old in
    let ps = read_params old in
    let b = binder_syntax c.args.binder in
    let token = c.args.token.now in
    let colon : token.kind ≡ kind.Sign symbol.Colon = search rules in
    goes_on NoDecl _ (InParam s ps b (NeedType 0)) _ c.begin_type.ensures (ap (λ k. take_expected (ParamColon s ps b) (expr_token k) token.start) colon) (λ e. cc) (omega (arith, old.low))
