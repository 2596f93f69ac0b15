use Rattle.std.proofs.Common.{map, sym, ap, ◌∙◌, subst}
use Rattle.um_tree.specs.RawTree.{decl_syntax}
use Rattle.um_measures.specs.Known.{Known}
use Rattle.um_measures.specs.Stops.{IsFirst}
use Rattle.um_names.specs.Resolution.{resolved_decls}
use Rattle.um_names.proofs.resolving.tables_of.Goals as goal

pub returns-in-Ok-clause-exact : goal.returns-in-Ok-clause-exact
returns-in-Ok-clause-exact c = sym (ap (λ (k : Known). resolved_decls k (map decl_syntax c.args.raw.items)) c.new-tables.ensures.known) ∙ c.in-Ok.ensures.exact

pub returns-in-Err-clause-faults : goal.returns-in-Err-clause-faults
returns-in-Err-clause-faults c =
    subst (λ (k : Known). IsFirst (resolved_decls k (map decl_syntax c.args.raw.items)) c.in-Err.stop) c.new-tables.ensures.known c.in-Err.ensures.faults
