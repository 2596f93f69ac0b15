use Rattle.std.proofs.Common.{ap, ◌∙◌, ◌++◌, codes}
use Rattle.um_tree.specs.ProgramTree.{program_tree}
use Rattle.um_agree.specs.Wording.{first_word}
use Rattle.um_mismatch.specs.Mismatch.{shape_text}
use Rattle.um_mismatch.specs.FlatShapes.{flat_shape}
use Rattle.um_mismatch.proofs.AddedTexts.{added, added_last}
use Rattle.um_mismatch.proofs.text.push_first.Goals as goal

pub returns : goal.returns
returns c =
    let word = first_word c.args.rule in
    let told = shape_text (program_tree c.args.program.now) (flat_shape c.args.s) in
    let gap = c.in_ok-extend_from_slice.ensures.items in
    let worded = added _ _ _ (codes "  ") word gap (c.in_ok-extend_from_slice-2.ensures.items ∙ ap (λ w. c.extend_from_slice.new.self.items ++ w) c.first_word.ensures) in
    let begun = added _ _ _ (codes "  " ++ word) (codes ": ") worded c.in_ok-extend_from_slice-3.ensures.items in
    let shaped = added _ _ _ (codes "  " ++ word ++ codes ": ") told begun c.in_ok-push_shape.ensures in
    added_last c.extend_from_slice-4.result _ _ _ (codes "  " ++ word ++ codes ": " ++ told) (codes "\n") shaped c.extend_from_slice-4.ensures.items
