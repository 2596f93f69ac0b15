use Rattle.std.proofs.Common.{sym, ◌∙◌, ◌+◌, ◌++◌, ◌∷◌, [], true, false}
use Rattle.um_stacks.specs.FlatShapes.{flat_shape}
use Rattle.um_stacks.specs.Stacks.{shapes_at}
use Rattle.um_verifier.specs.KnownImages.{known_heights}
use Rattle.um_verifier.proofs.LowStates.{low_push, lowered_to}
use Rattle.um_verifier.proofs.rules.pushed.Goals as goal

pub returns-then-not-is_low : goal.returns-then-not-is_low
returns-then-not-is_low c =
    let p = c.args.point.now in
    let heights = known_heights p.known.now in
    let st = shapes_at p.stacks.now c.args.low in
    let s = flat_shape c.args.shape in
    sym (lowered_to heights (p.at + 1) (st ++ s ∷ []) false (low_push heights st s c.requires ∙ sym c.is_low.ensures ∙ c.if-not-is_low.true))

pub returns : goal.returns
returns c =
    let p = c.args.point.now in
    let heights = known_heights p.known.now in
    let st = shapes_at p.stacks.now c.args.low in
    let s = flat_shape c.args.shape in
    sym (lowered_to heights (p.at + 1) (st ++ s ∷ []) true (low_push heights st s c.requires ∙ sym c.is_low.ensures ∙ c.if-not-is_low.false))
