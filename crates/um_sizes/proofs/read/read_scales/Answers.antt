use Rattle.std.proofs.Common.{map, subst, sym}
use Rattle.um_tree.specs.Formed.{AreDistinct}
use Rattle.um_tree.specs.ProgramTree.{RecordTree, program_tree}
use Rattle.um_sizes.proofs.BaseNumbers.{distinct_front}
use Rattle.um_sizes.proofs.read.read_scales.Goals as goal

pub read_beside-answer-requires-clause-once : goal.read_beside-answer-requires-clause-once
read_beside-answer-requires-clause-once c =
    let p = program_tree c.args.program.now in
    subst AreDistinct (sym c.as_slice-names.ensures) (distinct_front p.bases (map (λ (d : RecordTree). d.name) p.records) c.requires.formed.once)
