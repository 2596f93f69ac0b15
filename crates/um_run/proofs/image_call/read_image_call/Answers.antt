use Rattle.std.proofs.Common.{map, ◌∙◌}
use Rattle.std.specs.Prelude.{string_bytes}
use Rattle.um_measures.specs.Known.{number_of}
use Rattle.um_verify.specs.ImageTree.{head_tree, image_tree}
use Rattle.um_run.specs.ImageCalls.{head_names, image_call_answer}
use Rattle.um_run.proofs.ImageCallLaws.{named_below, named_head, behind_name, answer_shaped}
use Rattle.um_run.proofs.image_call.read_image_call.Goals as goal

pub call_to-requires-clause-function : goal.call_to-requires-clause-function
call_to-requires-clause-function c =
    let number = c.in-Some.ensures ∙ (λ i. number_of (head_names (map head_tree (c.deref.ensures.value i))) (c.as_bytes.ensures.value i)) in
    named_below (image_tree c.args.image.now) c.args.name.now c.in-Some.function number

pub returns-in-Some-clause-exact : goal.returns-in-Some-clause-exact
returns-in-Some-clause-exact c =
    let number = c.in-Some.ensures ∙ (λ i. number_of (head_names (map head_tree (c.deref.ensures.value i))) (c.as_bytes.ensures.value i)) in
    let w = named_head (image_tree c.args.image.now) c.args.name.now c.in-Some.function number in
    behind_name (image_tree c.args.image.now) c.args.name.now (map string_bytes c.args.texts.now) c.in-Some.function w.0 w.1 (image_call_answer c.call_to.result) (c.call_to.ensures w.0 w.1.listed)

pub returns-in-Some-clause-shaped : goal.returns-in-Some-clause-shaped
returns-in-Some-clause-shaped c =
    let number = c.in-Some.ensures ∙ (λ i. number_of (head_names (map head_tree (c.deref.ensures.value i))) (c.as_bytes.ensures.value i)) in
    let w = named_head (image_tree c.args.image.now) c.args.name.now c.in-Some.function number in
    answer_shaped (image_tree c.args.image.now) c.in-Some.function w.0 (map string_bytes c.args.texts.now) w.1.listed c.call_to.result (c.call_to.ensures w.0 w.1.listed)
