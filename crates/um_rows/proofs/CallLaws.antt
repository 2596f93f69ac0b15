-- The typings of a call's function are exactly the results of the call.
use Rattle.std.proofs.Common.{◌≡◌, ◌↔◌, ℕ, ◌<◌, inl, inr, List, [], ◌∷◌, ◌++◌, map, length, Some, slice_get, refl, sym, ap, subst}
use Rattle.std.specs.Prelude.{All}
use Rattle.std.proofs.lemmas.Option.{slice_get_within}
use Rattle.std.proofs.lemmas.List.Elements.{All-map}
use Rattle.um_units.specs.PowerMap.{one}
use Rattle.um_tree.specs.TypeTree.{TypeTree}
use Rattle.um_tree.specs.ValueTree.{InputTrees}
use Rattle.um_tree.specs.ProgramTree.{FieldTree, RecordTree, FunctionTree, ProgramTree, Signature, SchemeTree}
use Rattle.um_tree.specs.Typing.{put, put_signature, field_types, AllTyped, Calls, IsLooseTypingOf, IsTypingOf, TypingAt, typings_below}
use Rattle.um_tree.specs.Scheme.{IsNumberedBy}
use Rattle.um_tree.specs.Shapes.{note_shape}
use Rattle.um_tree.specs.InputType.{IsResultOfCall, IsTypeOfCall}
use Rattle.um_tree.specs.Formed.{IsTypeIn, AreFormedInputs, IsFormed}
use Rattle.um_tree.proofs.Below.{earlier_typings}
use Rattle.um_tree.specs.Laws.{LiteralsAreClosed}
use Rattle.um_tree.proofs.TypingsMoved.{loose_of_typing, typing_of_loose}
use Rattle.um_rows.specs.Solutions.{IsSolved, HaveSchemes}
use Rattle.um_rows.specs.Judgement.{Judgement, has_scheme, has_no_typing, judge}
use Rattle.um_slots.specs.CallFunction.{input_texts, call_function}
use Rattle.um_rows.specs.Laws.{CallResultsAreSolutions, JudgedCallsHaveTheirType, JudgedUntypedCallsHaveNone}
use Rattle.um_rows.proofs.Solved.{all_fit, typings_are_solved}
use Rattle.um_rows.proofs.JudgementLaws.{Says, judge_says, judged_numbered}
use Rattle.um_slots.proofs.InputTexts.{TypesAreOpen, notes_are_open, types_open_moved, texts_typed, inputs_have, inputs_closed}

module _ (p : ProgramTree) (k : ℕ) (f : FunctionTree) (inputs : InputTrees) (formed : IsFormed p) (e : slice_get p.functions k ≡ Some f) (closed : AreFormedInputs (length p.bases) inputs) where
  abbrev n : ℕ
  n = length p.functions

  abbrev call : FunctionTree
  call = call_function p.records k f inputs

  abbrev signature_of : TypeTree → Signature
  signature_of t = record { params = []; result = t }

  declared_fields : (r : ℕ) (d : RecordTree) → slice_get p.records r ≡ Some d → All (IsTypeIn (length p.bases) d.units p.records) (field_types d)
  declared_fields r d is = All-map (IsTypeIn (length p.bases) d.units p.records) (λ (g : FieldTree). g.type) d.fields (λ j g l. ((formed.records r d is).fields j g l).0)

  call_closed : LiteralsAreClosed call.body
  call_closed = inputs_closed (length p.bases) p.records (map note_shape f.params) inputs closed

  before : k < n
  before = slice_get_within p.functions k f e

  -- a typing of the function has no parameters, and its result is one of the call
  there : (g : Signature) → IsLooseTypingOf p.records (typings_below p n) n call g → (g.params ≡ []) × IsResultOfCall p k inputs g.result
  there g h =
      let none = h.params in
      let ts = h.body.0 in
      let parts = subst (λ vs. AllTyped p.records (Calls (typings_below p n) n call g) h.choice vs (input_texts p.records (map note_shape f.params) inputs) ts) none h.body.1 in
      let has = inputs_have (length p.bases) p.records declared_fields (Calls (typings_below p n) n call g) h.choice (map note_shape f.params) inputs ts closed parts in
      (none, (ts, has, elim h.body.2 [ inl w ↦ (earlier_typings p n k (record { params = ts; result = g.result }) w.0).0 w.1 | inr w ↦ absurd (let recursive = w.1.recursive in cc recursive) ]))

  -- the types of the inputs are of the parameters' shapes
  inputs_shaped : (g : Signature) → IsTypingOf (length p.bases) p.records (typings_below p k) k f g → TypesAreOpen p.records (λ j. one) (map note_shape f.params) g.params
  inputs_shaped g typing =
      let notes = λ (j : ℕ) (m : _) (l : j < length f.params). ((formed.functions k f e).params j m l).0 in
      let own = notes_are_open (length p.bases) f.named p.records typing.typing.loose.choice (λ j. one) f.params typing.signature.params notes typing.typing.loose.params in
      subst (TypesAreOpen p.records (λ j. one) (map note_shape f.params)) (sym (ap (λ (s : Signature). s.params) typing.given))
      (types_open_moved p.records (λ j. one) typing.change (map note_shape f.params) typing.signature.params own)

  back : (t : TypeTree) → IsResultOfCall p k inputs t → IsLooseTypingOf p.records (typings_below p n) n call (signature_of t)
  back t h =
      let g : Signature = record { params = h.0; result = t } in
      let shaped = inputs_shaped g (subst (λ o. TypingAt (length p.bases) p.records (typings_below p k) k o g) e h.2) in
      let calls = Calls (typings_below p n) n call (signature_of t) in
      record {
        choice = λ j. one;
        params = refl;
        result = tt;
        body = (h.0, texts_typed (length p.bases) p.records declared_fields calls (λ j. one) (map note_shape f.params) inputs h.0 closed shaped h.1, inl (before, (earlier_typings p n k g before).1 h.2));
      }

  -- ---- the call has no unit parameters, so that its typings are its loose ones
  there_typed : (g : Signature) → IsTypingOf (length p.bases) p.records (typings_below p n) n call g → (g.params ≡ []) × IsResultOfCall p k inputs g.result
  there_typed g h = there g (loose_of_typing p n call refl call_closed g h)

  back_typed : (t : TypeTree) → IsResultOfCall p k inputs t → IsTypingOf (length p.bases) p.records (typings_below p n) n call (signature_of t)
  back_typed t h = typing_of_loose p n call refl (signature_of t) (back t h)

  module _ (schemes : List SchemeTree) (have : HaveSchemes p schemes (length p.functions)) where
    results_are_solved : (t : TypeTree) → IsResultOfCall p k inputs t ↔ IsSolved p.records schemes n call (signature_of t)
    results_are_solved t =
        let both = typings_are_solved (typings_below p n) schemes n (all_fit p schemes n have) p.records call call_closed (signature_of t) in
        ((λ h. both.0 (back t h)), (λ h. (there (signature_of t) (both.1 h)).1))

    abbrev CallSays : Judgement → Type 0
    CallSays j = Says (typings_below p n) schemes n (all_fit p schemes n have) p.records call call_closed (length p.bases) j

    says : (j : Judgement) → judge (length p.bases) p.records schemes n call ≡ j → CallSays j
    says j is = subst CallSays is (judge_says (typings_below p n) schemes n (all_fit p schemes n have) p.records call call_closed (length p.bases))

    no_params : (ts : List TypeTree) → map (put (λ j. one)) ts ≡ [] → ts ≡ []
    no_params [] h = refl
    no_params (t ∷ ts) h = absurd (cc h)

    has_type : (s : SchemeTree) → judge (length p.bases) p.records schemes n call ≡ has_scheme s → IsTypeOfCall p k inputs s.signature.result
    has_type s is =
        let both = says (has_scheme s) is in
        let plain = no_params s.signature.params (there_typed (put_signature (λ j. one) s.signature) ((both (put_signature (λ j. one) s.signature)).1 ((λ j. one), refl))).0 in
        record {
          numbered = (s.vars, subst (λ ts. IsNumberedBy s.vars (ts ++ s.signature.result ∷ [])) plain (judged_numbered (length p.bases) p.records schemes n call s is));
          instances = λ t. (
            (λ h. let w = (both (signature_of t)).0 (back_typed t h) in (w.0, ap (λ (g : Signature). g.result) w.1)),
            (λ w. subst (IsResultOfCall p k inputs) (sym w.1) (there_typed (put_signature w.0 s.signature) ((both (put_signature w.0 s.signature)).1 (w.0, refl))).1),
          );
        }

    has_none : (row at : ℕ) → judge (length p.bases) p.records schemes n call ≡ has_no_typing row at → (t : TypeTree) → IsResultOfCall p k inputs t → ⊥
    has_none row at is t h = (says (has_no_typing row at) is).2 (signature_of t) (back_typed t h)

pub call_results_are_solutions : CallResultsAreSolutions
call_results_are_solutions p schemes k f inputs formed have e closed t = results_are_solved p k f inputs formed e closed schemes have t

pub judged_calls_have_their_type : JudgedCallsHaveTheirType
judged_calls_have_their_type p schemes k f inputs formed have e closed s is = has_type p k f inputs formed e closed schemes have s is

pub judged_untyped_calls_have_none : JudgedUntypedCallsHaveNone
judged_untyped_calls_have_none p schemes k f inputs formed have e closed row at is t h = has_none p k f inputs formed e closed schemes have row at is t h
