use Rattle.std.proofs.Common.{◌≡◌, ◌<◌, ℕ, sym, subst, rules, Some, length, slice_get}
use Rattle.std.proofs.lemmas.Option.{slice_get_within}
use Rattle.std.proofs.lemmas.Result.{IfOk-weaker}
use Rattle.um_tree.specs.declared.program.Program.{Program}
use Rattle.um_tree.specs.ProgramTree.{program_tree, function_tree}
use Rattle.um_infer.specs.Inference.{stops_at_units, stops_at_not_general, infer}
use Rattle.um_infer.specs.Schemes.{IsFirstWithoutUnits, IsFirstNotGeneral, IsJudged}
use Rattle.um_rows.specs.Judgement.{too_many_slots, passes_range}
use Rattle.um_reports.specs.Refusals.{IsUnitsReply, IsNotGeneralReply}
use Rattle.um_front.specs.Refused.{IsUntypedReply}
use Rattle.um_front.proofs.checking.reply_to_untyped.Goals as goal

pub function_at-requires : goal.function_at-requires
function_at-requires c =
    let p = program_tree c.args.shaped.now in let i = c.in-Units.function in
    let says : (row : ℕ) × IsFirstWithoutUnits p i row c.in-Units.at = rw c.in-Units.is at c.requires.typings in
    subst (λ (q : Program). i < length (program_tree q).functions) (sym c.program-program.ensures.program) (slice_get_within p.functions i says.1.0.function says.1.0.declared)

pub returns-in-Units : goal.returns-in-Units
returns-in-Units c =
    let bytes = c.args.bytes.now in let p = program_tree c.args.shaped.now in
    let f = function_tree c.function_at.result.now in
    let found : slice_get p.functions c.in-Units.function ≡ Some f = search rules in
    let inferred : (row : ℕ) × (infer p ≡ stops_at_units c.in-Units.function row c.in-Units.at) = rw c.in-Units.is at c.requires.inferred in
    IfOk-weaker c.reply_to_units.result (λ reply. IsUnitsReply bytes f.name c.in-Units.at reply.text.items reply.status)
    (λ reply. IsUntypedReply bytes reply.text.items reply.status p (infer p))
    (λ reply says. subst (λ n. IsUntypedReply bytes reply.text.items reply.status p n) (sym inferred.1) (f, found, says))
    c.reply_to_units.ensures

pub function_at-requires-in-NotGeneral : goal.function_at-requires-in-NotGeneral
function_at-requires-in-NotGeneral c =
    let p = program_tree c.args.shaped.now in let i = c.in-NotGeneral.function in
    let says : (row : ℕ) × IsFirstNotGeneral p i row c.in-NotGeneral.at = rw c.in-NotGeneral.is at c.requires.typings in
    subst (λ (q : Program). i < length (program_tree q).functions) (sym c.program-program.ensures.program) (slice_get_within p.functions i says.1.0.function says.1.0.declared)

pub returns-in-NotGeneral : goal.returns-in-NotGeneral
returns-in-NotGeneral c =
    let bytes = c.args.bytes.now in let p = program_tree c.args.shaped.now in
    let f = function_tree c.function_at-in-NotGeneral.result.now in
    let found : slice_get p.functions c.in-NotGeneral.function ≡ Some f = search rules in
    let inferred : (row : ℕ) × (infer p ≡ stops_at_not_general c.in-NotGeneral.function row c.in-NotGeneral.at) = rw c.in-NotGeneral.is at c.requires.inferred in
    IfOk-weaker c.reply_to_not_general.result (λ reply. IsNotGeneralReply bytes f.name c.in-NotGeneral.at reply.text.items reply.status)
    (λ reply. IsUntypedReply bytes reply.text.items reply.status p (infer p))
    (λ reply says. subst (λ n. IsUntypedReply bytes reply.text.items reply.status p n) (sym inferred.1) (f, found, says))
    c.reply_to_not_general.ensures

pub function_at-requires-in-PowerRange : goal.function_at-requires-in-PowerRange
function_at-requires-in-PowerRange c =
    let p = program_tree c.args.shaped.now in let i = c.in-PowerRange.function in
    let says : IsJudged p i (passes_range c.in-PowerRange.at) = rw c.in-PowerRange.is at c.requires.typings in
    subst (λ (q : Program). i < length (program_tree q).functions) (sym c.program-program.ensures.program) (slice_get_within p.functions i says.function says.declared)

pub function_at-requires-in-Slots : goal.function_at-requires-in-Slots
function_at-requires-in-Slots c =
    let p = program_tree c.args.shaped.now in let i = c.in-Slots.function in
    let says : IsJudged p i too_many_slots = rw c.in-Slots.is at c.requires.typings in
    subst (λ (q : Program). i < length (program_tree q).functions) (sym c.program-program.ensures.program) (slice_get_within p.functions i says.function says.declared)
