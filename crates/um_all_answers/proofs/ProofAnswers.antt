-- Each text has an answer of `prove`.
use Rattle.std.proofs.Common.{◌≢◌, ◌⊎◌, inl, inr, ℕ, List, ◌++◌, codes, Result, Ok, Err, refl}
use Rattle.std.specs.Fmt.{signed_decimal}
use Rattle.um_tree.specs.ProgramTree.{FunctionTree, ProgramTree}
use Rattle.um_tree.specs.Formed.{IsFormed}
use Rattle.um_tree.specs.Shapes.{IsShaped}
use Rattle.um_types.specs.declared.parse.LimitKind.TheVariants as limit
use Rattle.um_shape.specs.Laws.{FaultlessIsShaped}
use Rattle.um_infer.specs.Laws.{SlotStopsAreExact, RangeStopsAreExact}
use Rattle.um_proof.specs.declared.proofs.Proofs.{Proofs}
use Rattle.um_proof.specs.declared.stop.ProveStop.{ProveStop}
use Rattle.um_proof.specs.declared.stop.ProveStop.TheVariants as prove
use Rattle.um_proof.specs.Proving.{IsProved}
use Rattle.um_certificates.specs.CertificateText.{certificates_text}
use Rattle.um_reports.specs.declared.status.Status.TheVariants.{Done, PowerRange, Limit, CertRange}
use Rattle.um_reports.specs.Refusals.{placed, limit_label, range_label}
use Rattle.um_reports.specs.Steps.{line}
use Rattle.um_front.specs.Stages.{ShapedTree, IsShapedText}
use Rattle.um_front.specs.Refused.{IsUnshaped}
use Rattle.um_front.specs.Staged.{OfShaped}
use Rattle.um_front.proofs.CheckedTexts.{shaped_is_formed}
use Rattle.um_answers.specs.ProveAnswer.{IsProofReply, IsProveReply, ProveAnswer}
use Rattle.um_all_answers.specs.Answered.{HasAnswer}
use Rattle.um_all_answers.specs.TextLaws.{EachTextHasStages}
use Rattle.um_all_answers.proofs.Answers.{Told}
use Rattle.um_all_answers.specs.TextLaws.{EachTextIsProved}
use Rattle.um_all_answers.proofs.ProgramCertificates.{has_proofs}

module _ (slots : SlotStopsAreExact) (ranges : RangeStopsAreExact) (bytes : List ℕ) (p : ProgramTree) where
  result_told : (r : Result Proofs ProveStop) → r ≢ Err prove.NoMemory → IsProved p r → Told (IsProofReply bytes p r)
  result_told (Ok proofs) some is = (certificates_text p proofs.yes.items.items proofs.no, Done, (refl, refl))
  result_told (Err (prove.Slots i)) some is =
      let j = (slots p i).0 is in (placed (limit_label limit.Slots) bytes j.function.at, Limit, (j.function, j.declared, (refl, refl)))
  result_told (Err (prove.PowerRange i at)) some is =
      let j = (ranges p i at).0 is in (placed (range_label j.function.name) bytes at, PowerRange, (j.function, j.declared, (refl, refl)))
  result_told (Err (prove.CertRange i number)) some is =
      let w = is.1 in
      let f : FunctionTree = w.2 in
      (line (codes "error 21: certificate of " ++ f.name ++ codes ": number " ++ signed_decimal number), CertRange, (f, w.5, (refl, refl)))
  result_told (Err prove.NoMemory) some is = absurd (some refl)

  proofs_told : IsFormed p → IsShaped p → Told (IsProveReply bytes p)
  unfolding IsProveReply
  proofs_told formed shaped =
      let w = has_proofs p formed shaped in
      let (text, status, says) = result_told w.result w.some w.is in
      (text, status, (w.result, w.is, says))

module _ (stages : EachTextHasStages) (shapes : FaultlessIsShaped) (slots : SlotStopsAreExact) (ranges : RangeStopsAreExact) where
  by_shapes : (bytes : List ℕ) → ((s : ShapedTree) × IsShapedText bytes s) ⊎ HasAnswer IsUnshaped bytes → HasAnswer (OfShaped (λ (s : ShapedTree). IsProveReply bytes s.program)) bytes
  by_shapes bytes (inl (s, is)) =
      let (text, status, says) = proofs_told slots ranges bytes s.program (shaped_is_formed bytes s is) (shapes s.program is.faultless) in (text, status, inl (s, is, says))
  by_shapes bytes (inr (text, status, unshaped)) = (text, status, inr unshaped)

  pub each_text_is_proved : EachTextIsProved
  unfolding ProveAnswer
  each_text_is_proved bytes = by_shapes bytes (stages bytes).0
