-- `types` answers what `rescale` printed as it answers the bytes.
use Rattle.std.proofs.Common.{◌≡◌, ℕ, List, [], ◌∷◌, codes, Option, MatchOption, inl, refl, sym, ap, subst, ◌∙◌}
use Rattle.um_tree.specs.ProgramTree.{SchemeTree}
use Rattle.um_infer.specs.Inference.{Inference, all_schemes, stops_at_slots, stops_at_range, stops_at_units, stops_at_not_general, infer}
use Rattle.um_scale.specs.RescaledLiterals.{rescaled_program}
use Rattle.um_rescaled.specs.UnplacedPrograms.{unplaced_program}
use Rattle.um_rescaled.specs.PlaceLaws.{RescaledTextsAreRead as RescaledTextsAreReadAgain}
use Rattle.um_rescaled.specs.UnplacedInferences.{unplaced_inference}
use Rattle.um_rescaled.specs.SchemeLaws.{RescaledProgramsHaveTheSchemes}
use Rattle.um_orders.specs.declared.order.Order.{Order}
use Rattle.um_reports.specs.declared.status.Status.{Status}
use Rattle.um_reports.specs.declared.status.Status.TheVariants.{Done}
use Rattle.um_front.specs.Stages.{CheckedTree, IsCheckedText}
use Rattle.um_answers.specs.TypesAnswer.{scheme_lines, TypesAnswer}
use Rattle.um_tool.specs.Asked.{rescale_sizes}
use Rattle.um_tool.specs.Answer.{Answer, ByOrder, IsUsageReply}
use Rattle.um_tool.specs.Laws.{TypesAnswers}
use Rattle.um_tool.specs.ScaleLaws.{RescaledTextsHaveTheSchemes}
use Rattle.um_tool.proofs.PrintedSchemes.{types_ordered}
use Rattle.um_tool.proofs.SameLines.{lines_stay}
use Rattle.um_tool.proofs.TwinsMeant.{found_sizes, read_again}

-- what is given without a place, and is schemes, is given so with places
given_schemes : (r : Inference) (schemes : List SchemeTree) → unplaced_inference r ≡ all_schemes schemes → r ≡ all_schemes schemes
given_schemes (all_schemes ss) schemes e = e
given_schemes (stops_at_slots i) schemes e = absurd (cc e)
given_schemes (stops_at_range i at) schemes e = absurd (cc e)
given_schemes (stops_at_units i row at) schemes e = absurd (cc e)
given_schemes (stops_at_not_general i row at) schemes e = absurd (cc e)

pub types_answered : (bytes lines : List ℕ) (status : Status) → TypesAnswer bytes lines status → TypesAnswers bytes lines status
unfolding Answer
types_answered bytes lines status answer =
    subst (λ (o : Option Order). MatchOption o (IsUsageReply lines status) (λ order. ByOrder order (codes "types" ∷ []) bytes lines status)) (sym types_ordered) answer

pub lines_answered : (bytes lines : List ℕ) (c : CheckedTree) → IsCheckedText bytes c → lines ≡ scheme_lines c.text.program c.text.program.functions c.schemes → TypesAnswer bytes lines Done
unfolding TypesAnswer
lines_answered bytes lines c is e = inl (c, is, (e, refl))

pub rescaled_texts_have_the_schemes : RescaledTextsAreReadAgain → RescaledProgramsHaveTheSchemes → RescaledTextsHaveTheSchemes
rescaled_texts_have_the_schemes read schemes words bytes text ordered answer short =
    let found = found_sizes words bytes text ordered answer in
    let s = found.0 in
    let c = s.checked in
    let p = c.text.program in
    let new = read_again (rescale_sizes words) bytes text read s found.1 found.2 in
    let again = new.2 in
    let alike : unplaced_program again.program ≡ unplaced_program (rescaled_program s.scales p) = new.4 ∙ ap unplaced_program found.1 in
    let inferred : infer again.program ≡ all_schemes c.schemes = given_schemes (infer again.program) c.schemes (schemes s.scales p again.program alike ∙ ap unplaced_inference s.spelled.inferred) in
    let other : CheckedTree = record { text = again; schemes = c.schemes } in
    let is : IsCheckedText text other = record { shaped = new.6 short; inferred = inferred } in
    let lines = scheme_lines p p.functions c.schemes in
    (lines, types_answered bytes lines Done (lines_answered bytes lines c s.spelled refl), types_answered text lines Done (lines_answered text lines other is (sym (lines_stay s.scales p again.program c.schemes alike))))
