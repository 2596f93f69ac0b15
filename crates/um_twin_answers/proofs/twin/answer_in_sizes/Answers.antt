use Rattle.um_front.specs.Parts.{checked_tree}
use Rattle.um_front.proofs.CheckedTexts.{shaped_is_formed}
use Rattle.um_twin_answers.proofs.twin.answer_in_sizes.Goals as goal

pub answer_read-requires : goal.answer_read-requires
answer_read-requires c =
    let checked = checked_tree c.args.checked.now in
    record {
      can = record {
        formed = shaped_is_formed c.args.checked.now.text.text.bytes.items checked.text c.in-Ok.ensures.checked.shaped;
        positive = c.requires.positive;
        typed = c.in-Ok.ensures.typed;
        small = c.requires.call.small;
      };
    }
