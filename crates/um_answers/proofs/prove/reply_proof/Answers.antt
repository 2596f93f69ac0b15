use Rattle.std.proofs.Common.{◌≡◌, ◌<◌, length, Ok, Err, Some, slice_get, sym, subst, rules, SFits}
use Rattle.std.specs.Int.{w128}
use Rattle.std.proofs.lemmas.Int.{to_z-of_z}
use Rattle.std.proofs.lemmas.Option.{slice_get_within}
use Rattle.std.proofs.lemmas.Result.{IfOk-weaker}
use Rattle.um_tree.specs.declared.program.Program.{Program}
use Rattle.um_tree.specs.ProgramTree.{program_tree, function_tree}
use Rattle.um_infer.specs.Inference.{stops_at_slots, stops_at_range, infer}
use Rattle.um_infer.proofs.InferenceLaws.{slot_stops_are_exact, range_stops_are_exact}
use Rattle.um_certificates.specs.CertificateText.{certificates_text}
use Rattle.um_proof.specs.declared.stop.ProveStop.TheVariants.{Slots, PowerRange, CertRange}
use Rattle.um_proof.specs.Proving.{IsProved}
use Rattle.um_reports.specs.declared.status.Status.TheVariants.{Done}
use Rattle.um_reports.specs.Refusals.{IsSlotsReply, IsRangeReply, IsCertificateReply}
use Rattle.um_reports.specs.Steps.{IsReply}
use Rattle.um_answers.specs.ProveAnswer.{IsProveReply}
use Rattle.um_answers.proofs.prove.reply_proof.Goals as goal

pub returns-in-Ok : goal.returns-in-Ok
unfolding IsProveReply
returns-in-Ok c =
    let p = program_tree c.args.shaped.now in let proofs = c.in-Ok.proofs in
    IfOk-weaker c.reply_proofs.result (λ reply. IsReply reply.text.items reply.status (certificates_text (program_tree c.program-program.result.now) proofs.yes.items.items proofs.no) Done)
    (λ reply. IsProveReply c.args.bytes.now p reply.text.items reply.status)
    (λ reply says. (Ok proofs, c.in-Ok.ensures, subst (λ (q : Program). IsReply reply.text.items reply.status (certificates_text (program_tree q) proofs.yes.items.items proofs.no) Done) c.program-program.ensures.program says))
    c.reply_proofs.ensures

pub function_at-requires : goal.function_at-requires
function_at-requires c =
    let p = program_tree c.args.shaped.now in let i = c.in-Err-Slots.function in
    let stops : infer p ≡ stops_at_slots i = rw c.in-Err-Slots.field-0-is at c.in-Err-Slots.ensures in
    let judged = (slot_stops_are_exact p i).0 stops in
    subst (λ (q : Program). i < length (program_tree q).functions) (sym c.program-program.ensures.program) (slice_get_within p.functions i judged.function judged.declared)

pub returns-in-Err-Slots : goal.returns-in-Err-Slots
unfolding IsProveReply
returns-in-Err-Slots c =
    let p = program_tree c.args.shaped.now in let i = c.in-Err-Slots.function in
    let f = function_tree c.function_at.result.now in
    let found : slice_get p.functions i ≡ Some f = search rules in
    let stops : infer p ≡ stops_at_slots i = rw c.in-Err-Slots.field-0-is at c.in-Err-Slots.ensures in
    IfOk-weaker c.reply_to_slots.result (λ reply. IsSlotsReply c.args.bytes.now f.at reply.text.items reply.status)
    (λ reply. IsProveReply c.args.bytes.now p reply.text.items reply.status)
    (λ reply says. (Err (Slots i), stops, (f, found, says)))
    c.reply_to_slots.ensures

pub function_at-requires-in-Err-PowerRange : goal.function_at-requires-in-Err-PowerRange
function_at-requires-in-Err-PowerRange c =
    let p = program_tree c.args.shaped.now in let i = c.in-Err-PowerRange.function in let place = c.in-Err-PowerRange.at in
    let stops : infer p ≡ stops_at_range i place = rw c.in-Err-PowerRange.field-0-is at c.in-Err-PowerRange.ensures in
    let judged = (range_stops_are_exact p i place).0 stops in
    subst (λ (q : Program). i < length (program_tree q).functions) (sym c.program-program.ensures.program) (slice_get_within p.functions i judged.function judged.declared)

pub returns-in-Err-PowerRange : goal.returns-in-Err-PowerRange
unfolding IsProveReply
returns-in-Err-PowerRange c =
    let p = program_tree c.args.shaped.now in let i = c.in-Err-PowerRange.function in let place = c.in-Err-PowerRange.at in
    let f = function_tree c.function_at-in-Err-PowerRange.result.now in
    let found : slice_get p.functions i ≡ Some f = search rules in
    let stops : infer p ≡ stops_at_range i place = rw c.in-Err-PowerRange.field-0-is at c.in-Err-PowerRange.ensures in
    IfOk-weaker c.reply_to_range.result (λ reply. IsRangeReply c.args.bytes.now f.name place reply.text.items reply.status)
    (λ reply. IsProveReply c.args.bytes.now p reply.text.items reply.status)
    (λ reply says. (Err (PowerRange i place), stops, (f, found, says)))
    c.reply_to_range.ensures

pub function_at-requires-in-Err-CertRange : goal.function_at-requires-in-Err-CertRange
function_at-requires-in-Err-CertRange c =
    let p = program_tree c.args.shaped.now in let i = c.in-Err-CertRange.function in
    let passes : IsProved p (Err (CertRange i c.in-Err-CertRange.number)) = rw c.in-Err-CertRange.field-0-is at c.in-Err-CertRange.ensures in
    let within = passes.1 in
    subst (λ (q : Program). i < length (program_tree q).functions) (sym c.program-program.ensures.program) (slice_get_within p.functions i within.2 within.5)

pub returns-in-Err-CertRange : goal.returns-in-Err-CertRange
unfolding IsProveReply
returns-in-Err-CertRange c =
    let p = program_tree c.args.shaped.now in let i = c.in-Err-CertRange.function in let number = c.in-Err-CertRange.number in
    let f = function_tree c.function_at-in-Err-CertRange.result.now in
    let found : slice_get p.functions i ≡ Some f = search rules in
    let passes : IsProved p (Err (CertRange i number)) = rw c.in-Err-CertRange.field-0-is at c.in-Err-CertRange.ensures in
    let fits : SFits w128 number = search rules in
    IfOk-weaker c.reply_to_certificate.result (λ reply. IsCertificateReply f.name number reply.text.items reply.status)
    (λ reply. IsProveReply c.args.bytes.now p reply.text.items reply.status)
    (λ reply says. (Err (CertRange i number), passes, (f, found, says)))
    (rw (to_z-of_z w128 number fits) at c.reply_to_certificate.ensures)
