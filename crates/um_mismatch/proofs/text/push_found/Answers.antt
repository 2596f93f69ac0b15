use Rattle.std.proofs.Common.{◌++◌, codes}
use Rattle.um_tree.specs.ProgramTree.{program_tree}
use Rattle.um_mismatch.specs.Mismatch.{shape_text}
use Rattle.um_mismatch.specs.FlatShapes.{flat_shape}
use Rattle.um_mismatch.proofs.AddedTexts.{added, added_last}
use Rattle.um_mismatch.proofs.text.push_found.Goals as goal

pub returns : goal.returns
returns c =
    let told = shape_text (program_tree c.args.program.now) (flat_shape c.args.s) in
    let first = added _ _ _ (codes "  found: ") told c.in_ok-extend_from_slice.ensures.items c.in_ok-push_shape.ensures in
    added_last c.extend_from_slice-2.result _ _ _ (codes "  found: " ++ told) (codes "\n") first c.extend_from_slice-2.ensures.items
