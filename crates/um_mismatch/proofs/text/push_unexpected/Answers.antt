use Rattle.std.proofs.Common.{◌++◌, codes}
use Rattle.std.proofs.lemmas.Result.{on_ok_weaker}
use Rattle.um_tree.specs.ProgramTree.{program_tree}
use Rattle.um_mismatch.specs.Mismatch.{shape_text, kind_line, kind_text, worded_line}
use Rattle.um_mismatch.specs.FlatShapes.{flat_shape}
use Rattle.um_mismatch.proofs.AddedTexts.{added}
use Rattle.um_mismatch.proofs.text.push_unexpected.Goals as goal

pub returns : goal.returns
returns c =
    let p = program_tree c.args.program.now in
    let line = kind_line p c.args.kind in
    let expected = worded_line (codes "expected") (kind_text p c.args.kind) in
    let found = worded_line (codes "found") (shape_text p (flat_shape c.args.s)) in
    let lined = added _ _ _ line (codes "\n") c.in_ok-push_kind_line.ensures c.in_ok-extend_from_slice.ensures.items in
    let begun = added _ _ _ (line ++ codes "\n") expected lined c.in_ok-push_expected.ensures in
    on_ok_weaker c.push_found.result (λ e. added _ _ _ (line ++ codes "\n" ++ expected) found begun e) c.push_found.ensures
