use Rattle.std.proofs.Common.{rules, ap, ◌∙◌, ◌<◌, ◌≤◌, length, List}
use Rattle.um_stacks.specs.FlatShapes.{flat_shape, flat_shapes}
use Rattle.um_verifier.specs.KnownImages.{known_heights, lowered, fit_many}
use Rattle.um_stacks.specs.declared.flat.FlatShape.{FlatShape}
use Rattle.um_verifier.proofs.TakenMany.{call_none, call_is, bodies_past, body_there}
use Rattle.um_stacks.specs.Stacks.{stack_at}
use Rattle.um_verifier.proofs.rules.call.Goals as goal

pub returns-then-len-f : goal.returns-then-len-f
returns-then-len-f c = λ code body n.
    let p = c.args.point.now in
    let hs = p.known.now.heads.items in
    let past : length hs ≤ c.args.f = search rules in
    call_none p.known.now p.at (stack_at p.stacks.now p.stack) code body c.args.f (bodies_past code.entries hs c.args.f past)

pub returns : goal.returns
returns c = λ code body n.
    let p = c.args.point.now in
    let st = stack_at p.stacks.now p.stack in
    let hs = p.known.now.heads.items in
    let within : c.args.f < length hs = search rules in
    let b = body_there code.entries hs c.args.f c.index-head.result.now n within c.index-head.ensures in
    c.on_all.ensures ∙ ap (λ (l : List FlatShape). lowered (known_heights p.known.now) (fit_many p.at (flat_shapes st) (flat_shapes l) (flat_shape c.index-head.result.now.result))) c.deref.ensures.value ∙ call_is p.known.now p.at st code body c.args.f b.0 c.index-head.result.now b.1
