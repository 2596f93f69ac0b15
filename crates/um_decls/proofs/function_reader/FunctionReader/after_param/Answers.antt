use Rattle.std.proofs.Common.{◌≡◌, is_ok, Some, [], ◌∷◌, ◌++◌, map, ap, ◌∙◌, arith, rules}
use Rattle.std.proofs.lemmas.List.{map-append}
use Rattle.um_syntax.specs.declared.token.Kind.TheVariants as kind
use Rattle.um_vocabulary.specs.declared.vocabulary.Symbol.TheVariants as symbol
use Rattle.um_tree.specs.RawTree.{param_syntax}
use Rattle.um_types.specs.TypeView.{type_state}
use Rattle.um_forms.specs.ExprTokens.{expr_token}
use Rattle.um_decls.specs.DeclMachine.{NoDecl, Expects, Params, param_ends}
use Rattle.um_decls.specs.DeclViews.{start_in, read_params, param_state}
use Rattle.um_decls.proofs.DeclLists.{params_height_last, params_pushed}
use Rattle.um_decls.proofs.DeclTaken.{goes_on}
use Rattle.um_decls.proofs.function_reader.FunctionReader.after_param.Goals as goal

pub invariant_of-self : goal.invariant_of-self
invariant_of-self c =
    let old = c.args.self.now in
    record { low = params_pushed (is_ok c.push.result) old.params.items.items c.push.new.self.items c.args.param c.push.ensures.items old.low c.requires.low }

pub returns-in_ok-push-in-Sign-RightParen : goal.returns-in_ok-push-in-Sign-RightParen
returns-in_ok-push-in-Sign-RightParen c =
    let old = c.args.self.now in
    let s = start_in old in
    let ps = read_params old in
    let p = param_syntax c.args.param in
    let last = params_height_last ps p in
    let paren : c.args.token.now.kind ≡ kind.Sign symbol.RightParen = search rules in
    let pushed : map param_syntax c.push.new.self.items ≡ ps ++ p ∷ [] = ap (map param_syntax) c.in_ok-push-in-Sign-RightParen.ensures.items ∙ map-append param_syntax old.params.items.items (c.args.param ∷ []) in
    goes_on NoDecl _ (Expects (Params s (ps ++ p ∷ []))) _
    (ap (param_state s (map param_syntax c.push.new.self.items) (type_state old.ty) old.body) c.requires.wanted ∙ ap (λ qs. Expects (Params s qs)) pushed)
    (ap (λ k. param_ends s ps p.binder (Some p.type) (expr_token k)) paren) (λ e. cc) (omega (arith, old.low, c.requires.low, last))
