-- The statuses with which texts are refused.
use Rattle.std.proofs.Common.{ℕ, List, Bool, true, false, IsTrue, refl, inl, inr}
use Rattle.um_syntax.specs.declared.token.TextStop.{TextStop}
use Rattle.um_syntax.specs.declared.token.TextStop.TheVariants as text_stop
use Rattle.um_types.specs.declared.parse.ParseStop.{ParseStop}
use Rattle.um_types.specs.declared.parse.ParseStop.TheVariants as parse_stop
use Rattle.um_measures.specs.declared.stop.NameStop.{NameStop}
use Rattle.um_measures.specs.declared.stop.NameStop.TheVariants as name_stop
use Rattle.um_shape.specs.declared.stop.ShapeStop.{ShapeStop}
use Rattle.um_shape.specs.declared.stop.ShapeStop.TheVariants as shape_stop
use Rattle.um_tree.specs.ProgramTree.{ProgramTree}
use Rattle.um_infer.specs.Inference.{Inference, all_schemes, stops_at_slots, stops_at_range, stops_at_units, stops_at_not_general, infer}
use Rattle.um_reports.specs.declared.status.Status.{Status}
use Rattle.um_reports.specs.declared.status.Status.TheVariants.{TooLong, Utf8, Lexical, Syntax, Limit, Names, Shape, Units, PowerRange, NotGeneral}
use Rattle.um_reports.specs.Refusals.{IsTextReply, IsParseReply, IsNameReply, IsShapeReply}
use Rattle.um_reports.proofs.ReportStatuses.{is_answered}
use Rattle.um_front.specs.Refused.{IsUntypedReply, IsUnread, IsUnshaped, IsUnchecked}

-- those of a text without shapes
abbrev pub is_early : Status → Bool
is_early TooLong = true
is_early Utf8 = true
is_early Lexical = true
is_early Syntax = true
is_early Limit = true
is_early Names = true
is_early PowerRange = true
is_early Shape = true
is_early status = false

-- and those of a text without schemes
abbrev pub is_refusal : Status → Bool
is_refusal Units = true
is_refusal NotGeneral = true
is_refusal status = is_early status

early_refusal : (status : Status) → IsTrue (is_early status) → IsTrue (is_refusal status)
early_refusal Units early = refl
early_refusal NotGeneral early = refl
early_refusal status early = early

refusal_answered : (status : Status) → IsTrue (is_refusal status) → IsTrue (is_answered status)
refusal_answered TooLong refused = refl
refusal_answered Utf8 refused = refl
refusal_answered Lexical refused = refl
refusal_answered Syntax refused = refl
refusal_answered Limit refused = refl
refusal_answered Names refused = refl
refusal_answered PowerRange refused = refl
refusal_answered Shape refused = refl
refusal_answered Units refused = refl
refusal_answered NotGeneral refused = refl
refusal_answered status refused = absurd (cc refused)

text_early : (bytes : List ℕ) (stop : TextStop) (text : List ℕ) (status : Status) → IsTextReply bytes stop text status → IsTrue (is_early status)
text_early bytes (text_stop.Utf8 at) text status reply = rw reply.1 refl
text_early bytes (text_stop.BadChar at) text status reply = rw reply.1 refl
text_early bytes (text_stop.NumberRange at) text status reply = rw reply.1 refl
text_early bytes (text_stop.PowerText at) text status reply = rw reply.1 refl
text_early bytes text_stop.NoMemory text status reply = absurd reply

parse_early : (bytes : List ℕ) (stop : ParseStop) (text : List ℕ) (status : Status) → IsParseReply bytes stop text status → IsTrue (is_early status)
parse_early bytes (parse_stop.Syntax at) text status reply = rw reply.1 refl
parse_early bytes (parse_stop.Limit kind at) text status reply = rw reply.1 refl
parse_early bytes parse_stop.NoMemory text status reply = absurd reply

name_early : (bytes : List ℕ) (stop : NameStop) (text : List ℕ) (status : Status) → IsNameReply bytes stop text status → IsTrue (is_early status)
name_early bytes (name_stop.Unknown at) text status reply = rw reply.1 refl
name_early bytes (name_stop.Twice at) text status reply = rw reply.1 refl
name_early bytes (name_stop.WrongCount at) text status reply = rw reply.1 refl
name_early bytes (name_stop.Hole at) text status reply = rw reply.1 refl
name_early bytes (name_stop.Range at) text status reply = rw reply.1 refl
name_early bytes name_stop.NoMemory text status reply = absurd reply

shape_early : (bytes : List ℕ) (stop : ShapeStop) (text : List ℕ) (status : Status) → IsShapeReply bytes stop text status → IsTrue (is_early status)
shape_early bytes (shape_stop.Shape at) text status reply = rw reply.1 refl
shape_early bytes (shape_stop.Depth at) text status reply = rw reply.1 refl
shape_early bytes shape_stop.NoMemory text status reply = absurd reply

untyped_refusal : (bytes text : List ℕ) (status : Status) (p : ProgramTree) (inferred : Inference) → IsUntypedReply bytes text status p inferred → IsTrue (is_refusal status)
untyped_refusal bytes text status p (all_schemes schemes) reply = absurd reply
untyped_refusal bytes text status p (stops_at_slots i) reply = rw reply.2.1 refl
untyped_refusal bytes text status p (stops_at_range i at) reply = rw reply.2.1 refl
untyped_refusal bytes text status p (stops_at_units i row at) reply = rw reply.2.1 refl
untyped_refusal bytes text status p (stops_at_not_general i row at) reply = rw reply.2.1 refl

module _ (bytes text : List ℕ) (status : Status) where
  pub unread_early : IsUnread bytes text status → IsTrue (is_early status)
  unfolding IsUnread
  unread_early (inl (long, reply)) = rw reply.1 refl
  unread_early (inr (inl (short, stop, refused, reply))) = text_early bytes stop text status reply
  unread_early (inr (inr (short, tokens, lexed, stop, refused, reply))) = parse_early bytes stop text status reply

  pub unshaped_early : IsUnshaped bytes text status → IsTrue (is_early status)
  unfolding IsUnshaped
  unshaped_early (inl unread) = unread_early unread
  unshaped_early (inr (inl (raw, written, stop, refused, reply))) = name_early bytes stop text status reply
  unshaped_early (inr (inr (raw, written, p, resolved, stop, refused, reply))) = shape_early bytes stop text status reply

  pub unchecked_refusal : IsUnchecked bytes text status → IsTrue (is_refusal status)
  unfolding IsUnchecked
  unchecked_refusal (inl unshaped) = early_refusal status (unshaped_early unshaped)
  unchecked_refusal (inr (s, shaped, reply)) = untyped_refusal bytes text status s.program (infer s.program) reply

  -- none is that of a fault
  pub unread_answered : IsUnread bytes text status → IsTrue (is_answered status)
  unread_answered refused = refusal_answered status (early_refusal status (unread_early refused))

  pub unshaped_answered : IsUnshaped bytes text status → IsTrue (is_answered status)
  unshaped_answered refused = refusal_answered status (early_refusal status (unshaped_early refused))

  pub unchecked_answered : IsUnchecked bytes text status → IsTrue (is_answered status)
  unchecked_answered refused = refusal_answered status (unchecked_refusal refused)
