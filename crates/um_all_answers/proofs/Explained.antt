-- What follows the report line of a text that is refused, stage by stage, and so the answer to `explain`.
use Rattle.std.proofs.Common.{◌≡◌, ◌≢◌, ◌⊎◌, inl, inr, ℕ, true, false, List, ◌++◌, length, take, refl, sym, ap, subst}
use Rattle.std.specs.Prelude.{slice_get, Err}
use Rattle.um_elim.proofs.Cases.{on_test}
use Rattle.um_syntax.specs.declared.token.Token.{Token}
use Rattle.um_syntax.specs.declared.token.TextStop.{TextStop}
use Rattle.um_syntax.specs.declared.token.TextStop.TheVariants as text_stop
use Rattle.um_types.specs.declared.parse.ParseStop.{ParseStop}
use Rattle.um_types.specs.declared.parse.ParseStop.TheVariants as parse_stop
use Rattle.um_tree.specs.RawTree.{DeclSyntax}
use Rattle.um_tree.specs.ProgramTree.{ProgramTree, SchemeTree}
use Rattle.um_tree.specs.Shapes.{IsShaped}
use Rattle.um_tree.specs.Formed.{IsFormed}
use Rattle.um_parse.specs.Parsed.{Parsed}
use Rattle.um_parse.specs.Laws.{ProgramsAreDecided}
use Rattle.um_measures.specs.declared.stop.NameStop.{NameStop}
use Rattle.um_measures.specs.declared.stop.NameStop.TheVariants as name_stop
use Rattle.um_shape.specs.declared.stop.ShapeStop.{ShapeStop}
use Rattle.um_shape.specs.declared.stop.ShapeStop.TheVariants as shape_stop
use Rattle.um_shape.specs.Laws.{FaultlessIsShaped}
use Rattle.um_infer.specs.declared.stop.InferStop.TheVariants as infer_stop
use Rattle.um_infer.specs.Inference.{Inference, all_schemes, stops_at_slots, stops_at_range, stops_at_units, stops_at_not_general, infer}
use Rattle.um_infer.specs.Laws.{UnitStopsAreExact, NotGeneralStopsAreExact}
use Rattle.um_excerpt.specs.Excerpt.{excerpt, excerpt_of_end}
use Rattle.um_text_details.specs.LimitDetails.{limit_details, range_details}
use Rattle.um_text_details.specs.SyntaxDetails.{refused_place, expected_line, missing_in}
use Rattle.um_text_details.specs.TextDetails.{text_details}
use Rattle.um_sites.specs.NameDetails.{name_details}
use Rattle.um_mismatch.specs.ShapeDetails.{shape_details}
use Rattle.um_types.specs.declared.parse.LimitKind.TheVariants as limit
use Rattle.um_explain_answers.specs.UnitsDetails.{reason_text}
use Rattle.um_unit_reasons.specs.Laws.{RefusalsHaveReasons}
use Rattle.um_reports.specs.declared.status.Status.{Status}
use Rattle.um_reports.specs.declared.status.Status.TheVariants.{Done, TooLong}
use Rattle.um_reports.specs.Refusals.{IsTextReply, IsParseReply, IsNameReply, IsShapeReply}
use Rattle.um_reports.specs.Places.{place_text}
use Rattle.um_front.specs.Stages.{CheckedTree, IsCheckedText}
use Rattle.um_front.specs.Refused.{IsUntypedReply, IsUnread, IsUnshaped, IsUnchecked}
use Rattle.um_front.proofs.CheckedTexts.{shaped_is_formed}
use Rattle.um_answers.specs.TypesAnswer.{scheme_lines, TypesAnswer}
use Rattle.um_explain_answers.specs.TokenRest.{IsTextRest, IsParseRest, missing_line}
use Rattle.um_explain_answers.specs.NameRest.{IsNameRest, IsShapeRest}
use Rattle.um_explain_answers.specs.SchemeRest.{function_place}
use Rattle.um_explain_answers.specs.Stages.{AfterShapes, FollowsLine}
use Rattle.um_explain_answers.specs.ExplainAnswer.{is_explained, Explains, ExplainAnswer}
use Rattle.um_all_answers.specs.Answered.{HasAnswer}
use Rattle.um_all_answers.specs.TextLaws.{EachTextHasStages}
use Rattle.um_all_answers.proofs.Expected.{expected}

-- some text is this
abbrev Rest : (List ℕ → Type 0) → Type 0
Rest Is = (rest : List ℕ) × Is rest

module _ (decided : ProgramsAreDecided) (bytes : List ℕ) where
  text_rest : (stop : TextStop) → stop ≢ text_stop.NoMemory → Rest (IsTextRest bytes stop)
  text_rest (text_stop.Utf8 at) some = (excerpt_of_end (take at bytes), refl)
  text_rest (text_stop.BadChar at) some = (excerpt bytes at ++ text_details bytes (text_stop.BadChar at), refl)
  text_rest (text_stop.NumberRange at) some = (excerpt bytes at ++ text_details bytes (text_stop.NumberRange at), refl)
  text_rest (text_stop.PowerText at) some = (excerpt bytes at ++ text_details bytes (text_stop.PowerText at), refl)
  text_rest text_stop.NoMemory some = absurd (some refl)

  parse_rest : (tokens : List Token) (stop : ParseStop) → stop ≢ parse_stop.NoMemory → Parsed tokens (length bytes) (Err stop) → Rest (IsParseRest bytes tokens stop)
  parse_rest tokens (parse_stop.Syntax at) some (k, place, stops) =
      let (told, are) = expected decided (refused_place tokens k (length bytes)) in
      let missing = missing_in tokens k told in (
        excerpt bytes at ++ expected_line told ++ missing_line bytes missing,
        (expected_line told, missing, record { number = k; stops = stops; words = told; expected = are; line = refl; missing_in = refl }, refl),
      )
  parse_rest tokens (parse_stop.Limit kind at) some is = (excerpt bytes at ++ limit_details kind, refl)
  parse_rest tokens parse_stop.NoMemory some is = absurd (some refl)

  name_rest : (raw : List DeclSyntax) (stop : NameStop) → stop ≢ name_stop.NoMemory → Rest (IsNameRest bytes raw stop)
  name_rest raw (name_stop.Unknown at) some = (excerpt bytes at ++ name_details (place_text bytes) (name_stop.Unknown at) raw, refl)
  name_rest raw (name_stop.Twice at) some = (excerpt bytes at ++ name_details (place_text bytes) (name_stop.Twice at) raw, refl)
  name_rest raw (name_stop.WrongCount at) some = (excerpt bytes at ++ name_details (place_text bytes) (name_stop.WrongCount at) raw, refl)
  name_rest raw (name_stop.Hole at) some = (excerpt bytes at ++ name_details (place_text bytes) (name_stop.Hole at) raw, refl)
  name_rest raw (name_stop.Range at) some = (excerpt bytes at ++ name_details (place_text bytes) (name_stop.Range at) raw, refl)
  name_rest raw name_stop.NoMemory some = absurd (some refl)

  shape_rest : (p : ProgramTree) (stop : ShapeStop) → stop ≢ shape_stop.NoMemory → Rest (IsShapeRest bytes p stop)
  shape_rest p (shape_stop.Shape at) some = (excerpt bytes at ++ shape_details p, refl)
  shape_rest p (shape_stop.Depth at) some = (excerpt bytes at ++ limit_details limit.Depth, refl)
  shape_rest p shape_stop.NoMemory some = absurd (some refl)

  -- ---- a function has no scheme
  module _ (reasons : RefusalsHaveReasons) (units : UnitStopsAreExact) (less_general : NotGeneralStopsAreExact) (raw : List DeclSyntax) (p : ProgramTree) (formed : IsFormed p) (shaped : IsShaped p) where
    scheme_rest : (r : Inference) → infer p ≡ r → ((schemes : List SchemeTree) → r ≡ all_schemes schemes → ⊥) → Rest (AfterShapes bytes raw p)
    scheme_rest (all_schemes schemes) e none = absurd (none schemes refl)
    scheme_rest (stops_at_slots i) e none =
        (excerpt bytes (function_place (slice_get p.functions i)) ++ limit_details limit.Slots, (infer_stop.Slots i, e, refl))
    scheme_rest (stops_at_range i at) e none = (excerpt bytes at ++ range_details, (infer_stop.PowerRange i at, e, refl))
    scheme_rest (stops_at_units i row at) e none =
        let (r, is) = reasons raw p i false row at formed shaped ((units p i row at).0 e) in
        let details = reason_text bytes p i r in
        (excerpt bytes at ++ details, (infer_stop.Units i at, (row, e), (details, (r, is, refl), refl)))
    scheme_rest (stops_at_not_general i row at) e none =
        let (r, is) = reasons raw p i true row at formed shaped ((less_general p i row at).0 e) in
        let details = reason_text bytes p i r in
        (excerpt bytes at ++ details, (infer_stop.NotGeneral i at, (row, e), (details, (r, is, refl), refl)))

  -- ---- the first stage that fails
  abbrev Follows : Status → Type 0
  Follows status = (status ≡ TooLong) ⊎ Rest (FollowsLine bytes)

  module _ (text : List ℕ) (status : Status) where
    unread_follows : IsUnread bytes text status → Follows status
    unfolding IsUnread FollowsLine
    unread_follows (inl (long, reply)) = inl reply.1
    unread_follows (inr (inl (short, stop, is, reply))) =
        let (rest, told) = text_rest stop (λ e. subst (λ x. IsTextReply bytes x text status) e reply) in inr (rest, inl (stop, is, told))
    unread_follows (inr (inr (short, tokens, lexed, stop, parsed, reply))) =
        let (rest, told) = parse_rest tokens stop (λ e. subst (λ x. IsParseReply bytes x text status) e reply) parsed in inr (rest, inr (tokens, lexed, inl (stop, parsed, told)))

    unshaped_follows : IsUnshaped bytes text status → Follows status
    unfolding IsUnshaped FollowsLine
    unshaped_follows (inl unread) = unread_follows unread
    unshaped_follows (inr (inl (raw, read, stop, first, reply))) =
        let (rest, told) = name_rest raw stop (λ e. subst (λ x. IsNameReply bytes x text status) e reply) in
        inr (rest, inr (read.tokens, read.lexed, inr (raw, read.read, inl (stop, first, told))))
    unshaped_follows (inr (inr (raw, read, p, resolved, stop, refusal, reply))) =
        let (rest, told) = shape_rest p stop (λ e. subst (λ x. IsShapeReply bytes x text status) e reply) in
        inr (rest, inr (read.tokens, read.lexed, inr (raw, read.read, inr (p, resolved, inl (stop, refusal, told)))))

    module _ (shapes : FaultlessIsShaped) (reasons : RefusalsHaveReasons) (units : UnitStopsAreExact) (less_general : NotGeneralStopsAreExact) where
      unchecked_follows : IsUnchecked bytes text status → Follows status
      unfolding IsUnchecked FollowsLine
      unchecked_follows (inl unshaped) = unshaped_follows unshaped
      unchecked_follows (inr (s, is, reply)) =
          let p = s.program in
          let w = is.written in
          let (rest, told) = scheme_rest reasons units less_general is.raw p (shaped_is_formed bytes s is) (shapes p is.faultless) (infer p) refl (λ schemes e. subst (λ (r : Inference). IsUntypedReply bytes text status p r) e reply) in
          inr (rest, inr (w.tokens, w.lexed, inr (is.raw, w.read, inr (p, is.resolved, inr (is.faultless, told)))))

      refusal_explained : IsUnchecked bytes text status → HasAnswer ExplainAnswer bytes
      unfolding ExplainAnswer TypesAnswer
      refusal_explained unchecked = by (unchecked_follows unchecked) where
        as_it_is : is_explained status ≡ false → HasAnswer ExplainAnswer bytes
        as_it_is e = (text, status, (text, status, inr unchecked, subst (λ b. Explains b bytes text status text status) (sym e) (refl, refl)))

        by : Follows status → HasAnswer ExplainAnswer bytes
        by (inl long) = as_it_is (ap is_explained long)
        by (inr (rest, follows)) =
            on_test (is_explained status)
            (λ e. (text ++ rest, Done, (text, status, inr unchecked, subst (λ b. Explains b bytes text status (text ++ rest) Done) (sym e) (refl, rest, refl, follows))))
            as_it_is

module _ (decided : ProgramsAreDecided) (stages : EachTextHasStages) (shapes : FaultlessIsShaped) (reasons : RefusalsHaveReasons) (units : UnitStopsAreExact) (less_general : NotGeneralStopsAreExact) where
  schemes_explained : (bytes : List ℕ) (c : CheckedTree) → IsCheckedText bytes c → HasAnswer ExplainAnswer bytes
  unfolding ExplainAnswer TypesAnswer
  schemes_explained bytes c is =
      let lines = scheme_lines c.text.program c.text.program.functions c.schemes in
      (lines, Done, (lines, Done, inl (c, is, (refl, refl)), (refl, refl)))

  pub each_is_explained : (bytes : List ℕ) → HasAnswer ExplainAnswer bytes
  each_is_explained bytes =
      elim (stages bytes).1 [
        | inl w ↦ schemes_explained bytes w.0 w.1
        | inr w ↦ refusal_explained decided bytes w.0 w.1 shapes reasons units less_general w.2
      ]
