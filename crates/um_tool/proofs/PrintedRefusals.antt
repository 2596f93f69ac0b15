-- Certificates end as the answer to `types` does.
use Rattle.std.proofs.Common.{◌≡◌, ℕ, List, length, Option, None, Some, refl, sym, ap, subst, ◌∙◌, inl, inr}
use Rattle.std.proofs.lemmas.List.{length-map}
use Rattle.um_tree.specs.ProgramTree.{ProgramTree, SchemeTree, scheme_tree}
use Rattle.um_tree.specs.Formed.{IsFormed}
use Rattle.um_infer.specs.Answers.{scheme_trees}
use Rattle.um_infer.specs.Inference.{Inference, all_schemes, stops_at_slots, stops_at_range, stops_at_units, stops_at_not_general, infer}
use Rattle.um_infer.specs.Schemes.{IsFirstWithoutUnits, IsFirstNotGeneral}
use Rattle.um_infer.proofs.InferenceLaws.{units_stop_at_first_untyped, not_general_stops_at_first_untyped}
use Rattle.um_check.specs.declared.certificate.No.{No}
use Rattle.um_proof.specs.declared.proofs.Proofs.{Proofs}
use Rattle.um_proof.specs.Proving.{IsRefusal}
use Rattle.um_reports.specs.declared.status.Status.{Status}
use Rattle.um_reports.specs.declared.status.Status.TheVariants.{Done, Units, NotGeneral}
use Rattle.um_reports.specs.Refusals.{placed, units_label, not_general_label}
use Rattle.um_front.specs.Stages.{ShapedTree, IsShapedText, CheckedTree}
use Rattle.um_front.specs.Refused.{IsUntypedReply, IsUnchecked}
use Rattle.um_front.proofs.CheckedTexts.{shaped_is_formed}
use Rattle.um_answers.specs.TypesAnswer.{scheme_lines, TypesAnswer}
use Rattle.um_answers.specs.ProveAnswer.{ProveAnswer}
use Rattle.um_tool.specs.Answer.{Answer}
use Rattle.um_tool.specs.CertificateLaws.{EndsAsTypes, PrintedCertificatesEndAsTypes}
use Rattle.um_tool.proofs.PrintedCertificates.{prove_ordered, printed_of}
use Rattle.um_tool.proofs.RescaledTypes.{types_answered, lines_answered}

module _ (bytes : List ℕ) (s : ShapedTree) (is : IsShapedText bytes s) (proofs : Proofs) where
  abbrev p : ProgramTree
  p = s.program

  abbrev n : ℕ
  n = length proofs.schemes.items.items

  abbrev schemes : List SchemeTree
  schemes = scheme_trees proofs.schemes

  formed : IsFormed p
  formed = shaped_is_formed bytes s is

  as_many : length schemes ≡ n
  as_many = length-map proofs.schemes.items.items scheme_tree

  refused : (text : List ℕ) (status : Status) → IsUntypedReply bytes text status p (infer p) → TypesAnswer bytes text status
  unfolding TypesAnswer IsUnchecked
  refused text status reply = inr (inr (s, is, reply))

  end : (inferred : Inference) (last : Option No) → infer p ≡ inferred → IsRefusal p schemes inferred last → EndsAsTypes bytes p n last
  end (all_schemes all) None e same =
      let c : CheckedTree = record { text = s; schemes = all } in
      let lines = scheme_lines p p.functions all in
      (lines, types_answered bytes lines Done (lines_answered bytes lines c (record { shaped = is; inferred = e }) refl))
  end (all_schemes all) (Some c) e other = absurd other
  end (stops_at_slots i) last e other = absurd other
  end (stops_at_range i at) last e other = absurd other
  end (stops_at_units i row at) None e other = absurd other
  end (stops_at_units i row at) (Some c) e (here, valid, last, loose) =
      let first : i ≡ n = sym here ∙ as_many in
      let u = subst (λ k. IsFirstWithoutUnits p k row at) first (units_stop_at_first_untyped p formed i row at e) in
      let w : IsFirstWithoutUnits p n c.last at = subst (λ k. IsFirstWithoutUnits p n k at) (sym last) u in
      let line = placed (units_label w.0.function.name) bytes at in
      let reply : IsUntypedReply bytes line Units p (infer p) =
      subst (λ r. IsUntypedReply bytes line Units p r) (sym (e ∙ ap (λ k. stops_at_units k row at) first)) (w.0.function, w.0.declared, (refl, refl)) in
      (at, inl (loose, (w, types_answered bytes line Units (refused line Units reply))))
  end (stops_at_not_general i row at) None e other = absurd other
  end (stops_at_not_general i row at) (Some c) e (here, valid, last, loose) =
      let first : i ≡ n = sym here ∙ as_many in
      let u = subst (λ k. IsFirstNotGeneral p k row at) first (not_general_stops_at_first_untyped p formed i row at e) in
      let w : IsFirstNotGeneral p n c.last at = subst (λ k. IsFirstNotGeneral p n k at) (sym last) u in
      let line = placed (not_general_label w.0.function.name) bytes at in
      let reply : IsUntypedReply bytes line NotGeneral p (infer p) =
      subst (λ r. IsUntypedReply bytes line NotGeneral p r) (sym (e ∙ ap (λ k. stops_at_not_general k row at) first)) (w.0.function, w.0.declared, (refl, refl)) in
      (at, inr (loose, (w, types_answered bytes line NotGeneral (refused line NotGeneral reply))))

pub printed_certificates_end_as_types : PrintedCertificatesEndAsTypes
unfolding Answer
printed_certificates_end_as_types bytes text answer =
    let given : ProveAnswer bytes text Done = rw prove_ordered at answer in
    let (s, is, (proofs, certified, same)) = printed_of bytes text given in
    (s, is, (proofs, certified, same, end bytes s is proofs (infer s.program) proofs.no refl certified.valid.no))
