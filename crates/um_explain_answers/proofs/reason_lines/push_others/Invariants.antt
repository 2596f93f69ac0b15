use Rattle.std.proofs.Common.{◌≡◌, ◌++◌, take}
use Rattle.std.specs.List.{flat_map}
use Rattle.um_tree.specs.ProgramTree.{program_tree}
use Rattle.um_reports.specs.Cursors.{IsAt}
use Rattle.um_explain_answers.specs.UnitsDetails.{other_lines}
use Rattle.um_explain_answers.proofs.reason_lines.push_others.Given as goal

abbrev pub invariant-loop-one : goal.invariant-loop-one
invariant-loop-one l =
    IsAt l.bytes l.cursor
    × (l.out.items ≡ l.initial.out.items ++ flat_map (other_lines l.bytes (program_tree l.program) l.i) (take l.one-index l.others))
