-- The answer to `explain` is done of each text that isn't too long, and one that is too long is refused.
use Rattle.std.proofs.Common.{◌≡◌, ◌⊎◌, ℕ, ◌<◌, ◌≤◌, List, length, Bool, true, false, IsTrue, codes, inl, inr, refl, sym, ◌∙◌, arith}
use Rattle.um_syntax.specs.declared.token.TextStop.{TextStop}
use Rattle.um_syntax.specs.declared.token.TextStop.TheVariants as text_stop
use Rattle.um_types.specs.declared.parse.ParseStop.{ParseStop}
use Rattle.um_types.specs.declared.parse.ParseStop.TheVariants as parse_stop
use Rattle.um_measures.specs.declared.stop.NameStop.{NameStop}
use Rattle.um_measures.specs.declared.stop.NameStop.TheVariants as name_stop
use Rattle.um_shape.specs.declared.stop.ShapeStop.{ShapeStop}
use Rattle.um_shape.specs.declared.stop.ShapeStop.TheVariants as shape_stop
use Rattle.um_tree.specs.ProgramTree.{ProgramTree}
use Rattle.um_infer.specs.Inference.{Inference, all_schemes, stops_at_slots, stops_at_range, stops_at_units, stops_at_not_general, infer}
use Rattle.um_reports.specs.declared.status.Status.{Status}
use Rattle.um_reports.specs.declared.status.Status.TheVariants.{Done, TooLong}
use Rattle.um_reports.specs.Refusals.{IsTextReply, IsParseReply, IsNameReply, IsShapeReply}
use Rattle.um_reports.specs.Steps.{line, IsReply}
use Rattle.um_front.specs.Refused.{IsUntypedReply, IsUnread, IsUnshaped, IsUnchecked}
use Rattle.um_front.proofs.TooLongTexts.{too_long_unchecked}
use Rattle.um_answers.specs.TypesAnswer.{TypesAnswer}
use Rattle.um_explain_answers.specs.ExplainAnswer.{is_explained, Explains, ExplainAnswer}

-- ---- each refusal of a text that isn't too long is explained

module _ (bytes text : List ℕ) (status : Status) where
  text_explained : (stop : TextStop) → IsTextReply bytes stop text status → IsTrue (is_explained status)
  text_explained (text_stop.Utf8 at) reply = rw reply.1 refl
  text_explained (text_stop.BadChar at) reply = rw reply.1 refl
  text_explained (text_stop.NumberRange at) reply = rw reply.1 refl
  text_explained (text_stop.PowerText at) reply = rw reply.1 refl
  text_explained text_stop.NoMemory reply = absurd reply

  parse_explained : (stop : ParseStop) → IsParseReply bytes stop text status → IsTrue (is_explained status)
  parse_explained (parse_stop.Syntax at) reply = rw reply.1 refl
  parse_explained (parse_stop.Limit kind at) reply = rw reply.1 refl
  parse_explained parse_stop.NoMemory reply = absurd reply

  name_explained : (stop : NameStop) → IsNameReply bytes stop text status → IsTrue (is_explained status)
  name_explained (name_stop.Unknown at) reply = rw reply.1 refl
  name_explained (name_stop.Twice at) reply = rw reply.1 refl
  name_explained (name_stop.WrongCount at) reply = rw reply.1 refl
  name_explained (name_stop.Hole at) reply = rw reply.1 refl
  name_explained (name_stop.Range at) reply = rw reply.1 refl
  name_explained name_stop.NoMemory reply = absurd reply

  shape_explained : (stop : ShapeStop) → IsShapeReply bytes stop text status → IsTrue (is_explained status)
  shape_explained (shape_stop.Shape at) reply = rw reply.1 refl
  shape_explained (shape_stop.Depth at) reply = rw reply.1 refl
  shape_explained shape_stop.NoMemory reply = absurd reply

  untyped_explained : (p : ProgramTree) (inferred : Inference) → IsUntypedReply bytes text status p inferred → IsTrue (is_explained status)
  untyped_explained p (all_schemes schemes) reply = absurd reply
  untyped_explained p (stops_at_slots i) reply = rw reply.2.1 refl
  untyped_explained p (stops_at_range i at) reply = rw reply.2.1 refl
  untyped_explained p (stops_at_units i row at) reply = rw reply.2.1 refl
  untyped_explained p (stops_at_not_general i row at) reply = rw reply.2.1 refl

  module _ (short : length bytes ≤ 1048576) where
    unread_explained : IsUnread bytes text status → IsTrue (is_explained status)
    unfolding IsUnread
    unread_explained (inl (long, reply)) = absurd (omega (arith, long, short))
    unread_explained (inr (inl (also, stop, refused, reply))) = text_explained stop reply
    unread_explained (inr (inr (also, tokens, lexed, stop, refused, reply))) = parse_explained stop reply

    unshaped_explained : IsUnshaped bytes text status → IsTrue (is_explained status)
    unfolding IsUnshaped
    unshaped_explained (inl unread) = unread_explained unread
    unshaped_explained (inr (inl (raw, written, stop, refused, reply))) = name_explained stop reply
    unshaped_explained (inr (inr (raw, written, p, resolved, stop, refused, reply))) = shape_explained stop reply

    pub unchecked_explained : IsUnchecked bytes text status → IsTrue (is_explained status)
    unfolding IsUnchecked
    unchecked_explained (inl unshaped) = unshaped_explained unshaped
    unchecked_explained (inr (s, shaped, reply)) = untyped_explained s.program (infer s.program) reply

    done_or_explained : TypesAnswer bytes text status → (status ≡ Done) ⊎ IsTrue (is_explained status)
    unfolding TypesAnswer
    done_or_explained (inl (c, is, reply)) = inl reply.1
    done_or_explained (inr refused) = inr (unchecked_explained refused)

-- ---- so the answer is done

explains_done : (b : Bool) (bytes line text : List ℕ) (answered status : Status) → is_explained answered ≡ b → (answered ≡ Done) ⊎ IsTrue (is_explained answered) → Explains b bytes line answered text status → status ≡ Done
explains_done true bytes line text answered status e ended (done, rest, is, follows) = done
explains_done false bytes line text answered status e (inl done) (same, is) = is ∙ done
explains_done false bytes line text answered status e (inr explained) (same, is) = absurd (let told : is_explained answered ≡ true = explained in cc (sym e ∙ told))

module _ (bytes text : List ℕ) (status : Status) where
  pub explain_done_if_short : length bytes ≤ 1048576 → ExplainAnswer bytes text status → status ≡ Done
  unfolding ExplainAnswer
  explain_done_if_short short (line, answered, types, explains) =
      explains_done (is_explained answered) bytes line text answered status refl (done_or_explained bytes line answered short types) explains

  -- ---- a text that is too long

  pub explain_too_long : 1048576 < length bytes → IsReply text status (line (codes "error 2: text too long")) TooLong → ExplainAnswer bytes text status
  unfolding ExplainAnswer TypesAnswer
  explain_too_long long reply =
      let refused = line (codes "error 2: text too long") in
      (refused, TooLong, inr (too_long_unchecked bytes refused TooLong long (refl, refl)), reply)
