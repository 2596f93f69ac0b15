use Rattle.std.proofs.Common.{sym, ap, ◌∙◌, ◌+◌, ◌++◌, ◌∷◌, [], false, Option, option_map}
use Rattle.um_machine.specs.Stack.{on_found}
use Rattle.um_verify.specs.StackShape.{list}
use Rattle.um_verify.specs.Rules.{fails, to}
use Rattle.um_stacks.specs.FlatShapes.{flat_shape, flat_shapes}
use Rattle.um_verifier.specs.KnownImages.{known_heights, lowered}
use Rattle.um_stacks.specs.declared.flat.FlatShape.{FlatShape}
use Rattle.um_verifier.proofs.LowStates.{low_push, lowered_to}
use Rattle.um_verifier.proofs.Taken.{list_too_high}
use Rattle.um_stacks.specs.Stacks.{stack_at}
use Rattle.um_verifier.proofs.rules.pushed_list.Goals as goal

pub returns-in-None-list : goal.returns-in-None-list
returns-in-None-list c =
    let p = c.args.point.now in
    let heights = known_heights p.known.now in
    let st = flat_shapes (stack_at p.stacks.now c.args.low) in
    let s = list (flat_shape c.in-Some.item) in
    sym (ap (λ (o : Option FlatShape). lowered heights (on_found (option_map flat_shape o) fails (λ s. to (p.at + 1) (st ++ list s ∷ [])))) c.in-Some.is
    ∙ lowered_to heights (p.at + 1) (st ++ s ∷ []) false (low_push heights st s c.requires ∙ list_too_high p.known.now c.in-Some.item c.in-None-list.ensures))
