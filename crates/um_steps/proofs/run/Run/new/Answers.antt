use Rattle.std.proofs.Common.{◌<◌, ◌∙◌, ap, refl, sym, subst, map, length, slice_get, get_or, arith}
use Rattle.std.proofs.lemmas.Option.{slice_get-get_or}
use Rattle.um_tree.specs.ValueTree.{value_tree}
use Rattle.um_steps.specs.declared.run.Frame.{Frame}
use Rattle.um_steps.specs.Frames.{no_entry}
use Rattle.um_steps.proofs.Acted.{code_from, first_is, frame_alone}
use Rattle.um_steps.proofs.run.Run.new.Goals as goal

pub returns : goal.returns
returns c =
    let code = c.args.code.now in
    let entries = c.as_slice-entries.result.now in
    let within = subst (λ es. c.args.f < length es) (sym c.as_slice-entries.ensures) c.requires in
    let found = ap (λ es. slice_get es c.args.f) (sym c.as_slice-entries.ensures) ∙ slice_get-get_or entries c.args.f no_entry within in
    let e = get_or entries c.args.f no_entry in
    let first = first_is c.args.f e (map value_tree c.args.args.items.items) c.args.budget c.new-2.result.items c.new-2.ensures.items in
    (e, found, (code_from code _ _ c.as_slice-ops.ensures c.as_slice-entries.ensures, c.in_ok-stack.ensures), first)

pub invariant_of-result : goal.invariant_of-result
invariant_of-result c =
    let ops = c.as_slice-ops.result.now in
    let entries = c.as_slice-entries.result.now in
    let within = subst (λ es. c.args.f < length es) (sym c.as_slice-entries.ensures) c.requires in
    let f : Frame = record { function = c.args.f; back = 0; base = 0; start = (get_or entries c.args.f no_entry).start; end = c.least-end.result } in
    record { frames = frame_alone ops entries f c.new-2.result.items c.new-2.ensures.items (within, (refl, c.least-end.ensures)); based = omega arith }
