use Rattle.std.proofs.Common.{option_map, ap}
use Rattle.um_tree.specs.RawTree.{decl_syntax}
use Rattle.um_decls.proofs.DeclEnds.{ends}
use Rattle.um_decls.proofs.decl_end.push_found.Goals as goal

pub returns-in_ok-push_decl-in-Some : goal.returns-in_ok-push_decl-in-Some
returns-in_ok-push_decl-in-Some c =
    ends c.args.decls.now.items c.push_decl.new.decls.items c.in-Some.decl _ c.in_ok-push_decl-in-Some.ensures (ap (option_map decl_syntax) c.in-Some.is)
