use Rattle.std.proofs.Common.{rules, ◌≡◌, refl, sym, ap, ◌∙◌, ◌<◌, ℕ, List, Option, Some, length, slice_get}
use Rattle.std.proofs.lemmas.Option.{slice_get_read}
use Rattle.um_machine.specs.declared.op.Op.{Op}
use Rattle.um_verify.specs.Rules.{rule}
use Rattle.um_verify.specs.Verified.{passed}
use Rattle.um_stacks.specs.Stacks.{shapes_at}
use Rattle.um_verifier.specs.KnownImages.{known_heights, known_view, lowered, stays}
use Rattle.um_verifier.specs.Tables.{met_of, flow_of}
use Rattle.um_verifier.specs.declared.table.Met.{Met}
use Rattle.um_verifier.proofs.LowStates.{forwards_is}
use Rattle.um_verifier.proofs.body.pass.Goals as goal

pub returns-in-Arrived-clause-flow : goal.returns-in-Arrived-clause-flow
returns-in-Arrived-clause-flow c = λ body e r.
    let stacks = c.args.stacks.now in
    let view = known_view c.args.view.now.known.now c.args.view.now.code.now in
    let st = shapes_at stacks c.in-Arrived.stack in
    let op = c.index-ops-at.result in
    let ruled : flow_of stacks c.rule-flow.result ≡ lowered (known_heights c.args.view.now.known.now) (rule view body c.args.at st op) = c.rule-flow.ensures c.args.view.now.code.now body c.args.view.now.count r in
    let ops = c.as_slice-ops.result.now in
    let within : c.args.at < length ops = search rules in
    let there : slice_get c.args.view.now.code.now.ops c.args.at ≡ Some op = ap (λ (l : List Op). slice_get l c.args.at) (sym c.as_slice-ops.ensures) ∙ slice_get_read ops (length ops) c.args.at op refl within c.index-ops-at.is in
    c.checked.ensures.flow stacks
    ∙ ap (stays c.args.at c.args.end) ruled
    ∙ ap (λ (z : ℕ). stays c.args.at z (lowered (known_heights c.args.view.now.known.now) (rule view body c.args.at st op))) (sym e)
    ∙ sym (forwards_is view body c.args.at (rule view body c.args.at st op))
    ∙ sym (ap (λ (o : Option Op). passed view body c.args.at o (met_of stacks c.args.met)) there ∙ ap (λ (m : Met). passed view body c.args.at (Some op) (met_of stacks m)) c.in-Arrived.is)
