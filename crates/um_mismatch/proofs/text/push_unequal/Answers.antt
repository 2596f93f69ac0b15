use Rattle.std.proofs.Common.{◌++◌, codes}
use Rattle.std.proofs.lemmas.Result.{on_ok_weaker}
use Rattle.um_tree.specs.ProgramTree.{program_tree}
use Rattle.um_agree.specs.Wording.{agreement_line, first_word, second_word}
use Rattle.um_mismatch.specs.Mismatch.{shape_text, worded_line}
use Rattle.um_mismatch.specs.FlatShapes.{flat_shape}
use Rattle.um_mismatch.proofs.AddedTexts.{added}
use Rattle.um_mismatch.proofs.text.push_unequal.Goals as goal

pub returns : goal.returns
returns c =
    let p = program_tree c.args.program.now in
    let line = agreement_line p c.args.i c.args.rule in
    let first = worded_line (first_word c.args.rule) (shape_text p (flat_shape c.args.s)) in
    let second = worded_line (second_word c.args.rule) (shape_text p (flat_shape c.args.t)) in
    let lined = added _ _ _ line (codes "\n") c.in_ok-push_agreement.ensures c.in_ok-extend_from_slice.ensures.items in
    let begun = added _ _ _ (line ++ codes "\n") first lined c.in_ok-push_first.ensures in
    on_ok_weaker c.push_second.result (λ e. added _ _ _ (line ++ codes "\n" ++ first) second begun e) c.push_second.ensures
