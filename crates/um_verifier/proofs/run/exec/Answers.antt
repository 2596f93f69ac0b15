use Rattle.std.proofs.Common.{length, map, sym, subst, ◌∙◌}
use Rattle.std.proofs.lemmas.List.{length-map}
use Rattle.um_tree.specs.ValueTree.{OutcomeTree, value_tree, outcome_tree}
use Rattle.um_machine.specs.Machine.{EndsWith}
use Rattle.um_machine.specs.Jumps.{JumpsGoForward}
use Rattle.um_verify.specs.declared.image.Image.{Image}
use Rattle.um_verify.specs.ImageTree.{image_tree}
use Rattle.um_vm.specs.Showing.{IsCallOf}
use Rattle.um_verifier.proofs.CallEnds.{ends, result_has}
use Rattle.um_verifier.proofs.run.exec.Goals as goal

pub run_code-requires-clause-call : goal.run_code-requires-clause-call
run_code-requires-clause-call c =
    let items = c.args.args.items.items in
    let entry = c.runs_of_verified_images.ensures.entry (image_tree c.args.image.now) c.args.f c.requires.call.0 (map value_tree items) c.image.ensures.verified c.requires.call.1 in
    subst (λ (i : Image). IsCallOf (image_tree i).code c.args.f (length items)) (sym c.image.ensures.image) (entry.0, entry.1, sym (length-map items value_tree) ∙ entry.2)

pub run_code-requires-clause-forward : goal.run_code-requires-clause-forward
run_code-requires-clause-forward c =
    subst (λ (i : Image). JumpsGoForward (image_tree i).code) (sym c.image.ensures.image) (c.runs_of_verified_images.ensures.forward (image_tree c.args.image.now) c.image.ensures.verified)

pub run_code-requires-clause-ends : goal.run_code-requires-clause-ends
run_code-requires-clause-ends c =
    let vs = map value_tree c.args.args.items.items in
    subst (λ (i : Image). (o : OutcomeTree) × EndsWith (image_tree i).code c.args.f vs c.args.budget o) (sym c.image.ensures.image) (ends (image_tree c.args.image.now) c.args.f vs c.args.budget c.image.ensures.verified c.requires.call c.runs_of_verified_images.ensures.end)

pub returns-in-Ok-clause-end : goal.returns-in-Ok-clause-end
returns-in-Ok-clause-end c =
    let vs = map value_tree c.args.args.items.items in
    subst (λ (i : Image). EndsWith (image_tree i).code c.args.f vs c.args.budget (outcome_tree c.in-Ok.counted.outcome)) c.image.ensures.image c.in-Ok.ensures.end

pub returns-in-Ok-clause-shape : goal.returns-in-Ok-clause-shape
returns-in-Ok-clause-shape c =
    let vs = map value_tree c.args.args.items.items in
    result_has (image_tree c.args.image.now) c.args.f vs c.args.budget c.image.ensures.verified c.requires.call c.runs_of_verified_images.ensures.shape (outcome_tree c.in-Ok.counted.outcome) (returns-in-Ok-clause-end c)
