use Rattle.std.proofs.Common.{◌≡◌, length, drop}
use Rattle.um_tree.specs.ProgramTree.{program_tree}
use Rattle.um_infer.specs.Answers.{scheme_trees}
use Rattle.um_reports.specs.Cursors.{AreAt}
use Rattle.um_answers.specs.AnnotAnswer.{and_rest}
use Rattle.um_answers.proofs.AnnotLists.{whole, left}
use Rattle.um_answers.proofs.annot.listing_text.Given as goal

abbrev pub invariant-loop-i : goal.invariant-loop-i
invariant-loop-i l =
    AreAt l.source.bytes.now l.heads
    × (whole l.source.bytes.now (program_tree l.source.shaped.now) (scheme_trees l.source.schemes.now)
    ≡ and_rest l.text.items (left l.source.bytes.now (program_tree l.source.shaped.now) (scheme_trees l.source.schemes.now) l.i))
    × (length l.functions.items ≡ length (program_tree l.source.shaped.now).functions)
    × (drop l.i l.functions.items ≡ drop l.i l.fn.functions.items)
