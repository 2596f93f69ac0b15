use Rattle.std.proofs.Common.{◌++◌, codes, slice_get}
use Rattle.um_tree.specs.ProgramTree.{program_tree}
use Rattle.um_agree.specs.Wording.{function_name}
use Rattle.um_mismatch.proofs.AddedTexts.{added, added_last}
use Rattle.um_mismatch.proofs.wording.push_body.Goals as goal

pub returns : goal.returns
returns c =
    let name = function_name (slice_get (program_tree c.args.program.now).functions c.args.i) in
    let named = added _ _ _ (codes "the body of ") name c.in_ok-extend_from_slice.ensures.items c.in_ok-push_function_name.ensures in
    added_last c.extend_from_slice-2.result _ _ _ (codes "the body of " ++ name) (codes " must have the type of its result") named c.extend_from_slice-2.ensures.items
