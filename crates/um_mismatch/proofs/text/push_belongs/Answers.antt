use Rattle.std.proofs.Common.{codes}
use Rattle.std.proofs.lemmas.Result.{on_ok_weaker}
use Rattle.um_tree.specs.ProgramTree.{program_tree}
use Rattle.um_show.specs.SchemeText.{record_name}
use Rattle.um_mismatch.proofs.AddedTexts.{added}
use Rattle.um_mismatch.proofs.text.push_belongs.Goals as goal

pub returns : goal.returns
returns c =
    let name = record_name (program_tree c.args.program.now) c.args.r in
    on_ok_weaker c.push_record_name.result (λ e. added _ _ _ (codes "this field belongs to ") name c.in_ok-extend_from_slice.ensures.items e) c.push_record_name.ensures
