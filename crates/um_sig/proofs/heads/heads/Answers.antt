use Rattle.std.proofs.Common.{List, map, sym, subst}
use Rattle.um_tree.specs.declared.program.Record.{Record}
use Rattle.um_tree.specs.Formed.{AreDistinct}
use Rattle.um_tree.specs.ProgramTree.{record_tree, program_tree}
use Rattle.um_measures.specs.Known.{record_names}
use Rattle.um_names.proofs.DistinctNames.{distinct-back}
use Rattle.um_sig.proofs.heads.heads.Goals as goal

pub with_heads-requires-clause-once : goal.with_heads-requires-clause-once
with_heads-requires-clause-once c =
    let p = program_tree c.args.program.now in
    subst (λ (ds : List Record). AreDistinct (record_names (map record_tree ds))) (sym c.deref.ensures.value) (distinct-back p.bases (record_names p.records) c.requires.formed.once)
