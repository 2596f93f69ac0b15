use Rattle.std.proofs.Common.{map, option_map, ap}
use Rattle.um_tree.specs.RawTree.{expr_syntax, param_syntax, written_type}
use Rattle.um_decls.specs.DeclMachine.{started, body_found}
use Rattle.um_decls.specs.DeclViews.{head_vars}
use Rattle.um_decls.proofs.DeclEnds.{ends}
use Rattle.um_decls.proofs.function_reader.FunctionReader.with_body.Goals as goal

pub returns-in_ok-push_decl-in-Some : goal.returns-in_ok-push_decl-in-Some
returns-in_ok-push_decl-in-Some c =
    let h = c.args.head in
    let s = started c.args.recursive h.at h.name (head_vars h) in
    let ps = map param_syntax c.args.params.items.items in
    let found = body_found s ps (written_type c.args.written) in
    ends c.args.decls.now.items c.push_decl.new.decls.items _ _ c.in_ok-push_decl-in-Some.ensures (ap (λ o. found (option_map expr_syntax o)) c.in-Some.is)
