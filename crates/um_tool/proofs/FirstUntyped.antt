-- What is answered to a text that spells a program: its schemes, or its first function without a typing.
use Rattle.std.proofs.Common.{◌≡◌, ◌⊎◌, ℕ, IsTrue, List, length, refl, sym, ap, subst, ◌∙◌, inl, inr}
use Rattle.std.proofs.lemmas.Option.{slice_get_within}
use Rattle.um_tree.specs.ProgramTree.{ProgramTree}
use Rattle.um_tree.specs.Formed.{IsFormed}
use Rattle.um_infer.specs.Inference.{Inference, all_schemes, stops_at_slots, stops_at_range, stops_at_units, stops_at_not_general, infer}
use Rattle.um_infer.specs.Schemes.{ArePrincipal, IsFirstUntyped}
use Rattle.um_infer.specs.Laws.{IsLimited}
use Rattle.um_infer.proofs.InferenceLaws.{schemes_are_given_to_typed, units_stop_at_first_untyped, not_general_stops_at_first_untyped}
use Rattle.um_orders.specs.declared.order.Order.{Order}
use Rattle.um_orders.specs.declared.order.Order.TheVariants.{Types, Explain, Annot, Code, Fmt, Tidy, Run, Steps, Eval, Trace, Show, Conform, Rescale, Twin, Big, Prove, Image, Exec, Calls}
use Rattle.um_reports.specs.declared.status.Status.{Status}
use Rattle.um_reports.specs.Refusals.{placed, units_label, not_general_label}
use Rattle.um_front.specs.Stages.{ShapedTree, CheckedTree, IsCheckedText}
use Rattle.um_front.specs.Refused.{IsUntypedReply, IsUnchecked}
use Rattle.um_front.specs.Staged.{OfChecked}
use Rattle.um_front.proofs.CheckedTexts.{shaped_is_formed, schemes_are_principal}
use Rattle.um_answers.specs.TypesAnswer.{scheme_lines, IsSchemeList, TypesAnswer}
use Rattle.um_answers.specs.AnnotAnswer.{IsAnnotReply, AnnotAnswer}
use Rattle.um_answers.specs.CodeAnswer.{IsListing, CodeAnswer}
use Rattle.um_answers.specs.ConformAnswer.{IsConformAnswer, ConformAnswer}
use Rattle.um_answers.specs.RescaleAnswer.{IsRescaled, RescaleAnswer}
use Rattle.um_answers.specs.ImageAnswer.{IsImageReply, ImageAnswer}
use Rattle.um_call_answers.specs.declared.way.Way.{Way}
use Rattle.um_call_answers.specs.declared.way.Way.TheVariants as way
use Rattle.um_call_answers.specs.AskedCall.{AskedCall}
use Rattle.um_call_answers.specs.CallAnswer.{IsCallAnswer, CallAnswer}
use Rattle.um_call_answers.specs.TwinAnswer.{IsTwinAnswer, TwinAnswer}
use Rattle.um_shown_answers.specs.TraceAnswer.{IsTraceAnswer, TraceAnswer}
use Rattle.um_shown_answers.specs.ShowAnswer.{IsShowAnswer, ShowAnswer}
use Rattle.um_tool.specs.Asked.{called, held_name, signature_text, rescale_sizes, twin_sizes, called_twice}
use Rattle.um_tool.specs.Asked.{shown_units, called_shown, StatesUnits}
use Rattle.um_tool.specs.Answer.{Answer, ByOrder}
use Rattle.um_tool.specs.Headline.{SpellsProgram, EachIsTyped, PrintsSchemes, SchemesOrFirstUntyped, names_untyped, NamesFirstUntyped, TypesAreSchemesOrFirstUntyped, NeedsSchemes, EachOrderNamesFirstUntyped}
use Rattle.um_tool.proofs.PrintedSchemes.{types_ordered, one_function}
use Rattle.um_tool.proofs.ProgramStatuses.{types_not_named, annot_not_named, code_not_named, image_not_named, call_not_named, trace_not_named, show_not_named, conform_not_named, rescale_not_named, twin_not_named}
use Rattle.um_tool.proofs.ShapedTexts.{one_shaped, shaped_is_not_refused}

module _ (bytes : List ℕ) (s : ShapedTree) (spells : SpellsProgram bytes s) (text : List ℕ) (status : Status) where
  abbrev p : ProgramTree
  p = s.program

  abbrev IsRefused : Type 0
  IsRefused = (EachIsTyped p → ⊥) × NamesFirstUntyped bytes p text status

  formed : IsFormed p
  formed = shaped_is_formed bytes s spells.shaped

  -- ---- the refusal
  not_all_typed : (i row at : ℕ) → IsFirstUntyped p i row at → EachIsTyped p → ⊥
  not_all_typed i row at h typed =
      let g = typed i (slice_get_within p.functions i h.function h.declared) in
      h.untyped g.0 g.1

  named : (inferred : Inference) → infer p ≡ inferred → IsUntypedReply bytes text status p inferred → IsRefused
  named (all_schemes schemes) is reply = absurd reply
  named (stops_at_slots i) is reply = absurd (spells.unlimited (subst IsLimited (sym is) tt))
  named (stops_at_range i at) is reply = absurd (spells.unlimited (subst IsLimited (sym is) tt))
  named (stops_at_units i row at) is (f, declared, reply) =
      let u = units_stop_at_first_untyped p formed i row at is in
      let line = reply.0 ∙ ap (λ g. placed (units_label g.name) bytes at) (one_function p i f u.0.function declared u.0.declared) in
      (not_all_typed i row at u.0, inl (reply.1, (i, row, at, u, line)))
  named (stops_at_not_general i row at) is (f, declared, reply) =
      let u = not_general_stops_at_first_untyped p formed i row at is in
      let line = reply.0 ∙ ap (λ g. placed (not_general_label g.name) bytes at) (one_function p i f u.0.function declared u.0.declared) in
      (not_all_typed i row at u.0, inr (reply.1, (i, row, at, u, line)))

  refused : IsUnchecked bytes text status → IsRefused
  unfolding IsUnchecked
  refused (inl unshaped) = absurd (shaped_is_not_refused bytes text status s spells.shaped unshaped)
  refused (inr (t, shaped, reply)) =
      let same : t ≡ s = one_shaped bytes t s shaped spells.shaped in
      named (infer p) refl (subst (λ (x : ShapedTree). IsUntypedReply bytes text status x.program (infer x.program)) same reply)

  -- ---- the schemes
  all_typed : (c : CheckedTree) → IsCheckedText bytes c → c.text ≡ s → EachIsTyped p
  all_typed c is same =
      let inferred = subst (λ (x : ShapedTree). infer x.program ≡ all_schemes c.schemes) same is.inferred in
      ((schemes_are_given_to_typed p formed).0 (c.schemes, inferred)).0

  abbrev IsTypedOrNamed : Type 0
  IsTypedOrNamed = (EachIsTyped p × (IsTrue (names_untyped status) → ⊥)) ⊎ IsRefused

  typed_or_refused : (Says : CheckedTree → List ℕ → Status → Type 0) → ((c : CheckedTree) → Says c text status → IsTrue (names_untyped status) → ⊥) → OfChecked Says bytes text status → IsTypedOrNamed
  typed_or_refused Says none (inl (c, is, says)) = inl (all_typed c is (one_shaped bytes c.text s is.shaped spells.shaped), none c says)
  typed_or_refused Says none (inr unchecked) = inr (refused unchecked)

  printed : (c : CheckedTree) → IsCheckedText bytes c → IsSchemeList c text status → PrintsSchemes bytes p text status
  printed c is reply =
      let same : c.text ≡ s = one_shaped bytes c.text s is.shaped spells.shaped in (
        reply.1,
        (
          c.schemes,
          subst (λ (x : ShapedTree). ArePrincipal x.program (length x.program.functions) c.schemes) same (schemes_are_principal bytes c is),
          subst (λ (x : ShapedTree). text ≡ scheme_lines x.program x.program.functions c.schemes) same reply.0,
        ),
      )

  types_say : TypesAnswer bytes text status → SchemesOrFirstUntyped bytes p text status
  unfolding TypesAnswer
  types_say (inl (c, is, reply)) = inl (all_typed c is (one_shaped bytes c.text s is.shaped spells.shaped), printed c is reply)
  types_say (inr unchecked) = inr (refused unchecked)

  -- ---- each order
  call_typed_or_refused : (w : Way) (asked : AskedCall) → CallAnswer w asked bytes text status → IsTypedOrNamed
  unfolding CallAnswer
  call_typed_or_refused w asked answer = typed_or_refused (IsCallAnswer w asked) (call_not_named text status w asked) answer

  by_order : (order : Order) (words : List (List ℕ)) → NeedsSchemes order → StatesUnits order words → ByOrder order words bytes text status → IsTypedOrNamed
  unfolding TypesAnswer AnnotAnswer CodeAnswer TraceAnswer ShowAnswer ConformAnswer RescaleAnswer TwinAnswer ImageAnswer
  by_order Types words needs units answer = typed_or_refused IsSchemeList (types_not_named text status) answer
  by_order Explain words needs units answer = absurd needs
  by_order Annot words needs units answer = typed_or_refused (IsAnnotReply bytes) (annot_not_named text status bytes) answer
  by_order Code words needs units answer = typed_or_refused IsListing (code_not_named text status) answer
  by_order Fmt words needs units answer = absurd needs
  by_order Tidy words needs units answer = absurd needs
  by_order (Run budget) words needs units answer = call_typed_or_refused way.Code (called budget words) answer
  by_order (Steps budget) words needs units answer = call_typed_or_refused way.Counted (called budget words) answer
  by_order (Eval budget) words needs units answer = call_typed_or_refused way.Tree (called budget words) answer
  by_order (Trace budget) words needs units answer =
      typed_or_refused (IsTraceAnswer (called budget words) bytes) (trace_not_named text status (called budget words) bytes) answer
  by_order (Show digits budget) words needs units (inl (stated, answer)) =
      typed_or_refused (IsShowAnswer digits (shown_units words) (called_shown budget words)) (show_not_named text status digits (shown_units words) (called_shown budget words)) answer
  by_order (Show digits budget) words needs units (inr (none, reply)) = absurd (none units)
  by_order Conform words needs units answer =
      typed_or_refused (IsConformAnswer (held_name words) (signature_text words)) (conform_not_named text status (held_name words) (signature_text words)) answer
  by_order Rescale words needs units answer = typed_or_refused (IsRescaled (rescale_sizes words) bytes) (rescale_not_named text status (rescale_sizes words) bytes) answer
  by_order (Twin budget) words needs units answer =
      typed_or_refused (IsTwinAnswer (twin_sizes words) (called_twice budget words) bytes) (twin_not_named text status (twin_sizes words) (called_twice budget words) bytes) answer
  by_order (Big n) words needs units answer = absurd needs
  by_order Prove words needs units answer = absurd needs
  by_order Image words needs units answer = typed_or_refused IsImageReply (image_not_named text status) answer
  by_order (Exec budget) words needs units answer = absurd needs
  by_order (Calls budget) words needs units answer = absurd needs

pub types_are_schemes_or_first_untyped : TypesAreSchemesOrFirstUntyped
unfolding Answer
types_are_schemes_or_first_untyped bytes s spells text status answer =
    let given : TypesAnswer bytes text status = rw types_ordered at answer in
    types_say bytes s spells text status given

pub each_order_names_first_untyped : EachOrderNamesFirstUntyped
unfolding Answer
each_order_names_first_untyped order words bytes s needs units ordered spells text status answer =
    let given : ByOrder order words bytes text status = rw ordered at answer in
    by_order bytes s spells text status order words needs units given
