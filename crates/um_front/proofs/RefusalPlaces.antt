-- Each line that refuses a text tells where a token begins, or where the text ends; of a text without tokens, a
-- character.
use Rattle.std.proofs.Common.{◌≡◌, ℕ, ◌⊎◌, inl, inr, List, length, codes, Ok, Err}
use Rattle.um_syntax.specs.declared.token.Token.{Token}
use Rattle.um_syntax.specs.declared.token.LexStop.TheVariants as lex_stop
use Rattle.um_syntax.specs.declared.token.TextStop.{TextStop}
use Rattle.um_syntax.specs.declared.token.TextStop.TheVariants as text_stop
use Rattle.um_syntax.specs.Feeding.{IsTextAnswer}
use Rattle.um_types.specs.declared.parse.LimitKind.TheVariants as limit
use Rattle.um_types.specs.declared.parse.ParseStop.{ParseStop}
use Rattle.um_types.specs.declared.parse.ParseStop.TheVariants as parse_stop
use Rattle.um_tree.specs.RawTree.{DeclSyntax}
use Rattle.um_tree.specs.ProgramTree.{FunctionTree, ProgramTree}
use Rattle.um_measures.specs.declared.stop.NameStop.{NameStop}
use Rattle.um_measures.specs.declared.stop.NameStop.TheVariants as name_stop
use Rattle.um_names.specs.Resolution.{resolved_program}
use Rattle.um_shape.specs.declared.stop.ShapeStop.{ShapeStop}
use Rattle.um_shape.specs.declared.stop.ShapeStop.TheVariants as shape_stop
use Rattle.um_shape.specs.FirstFault.{wrong_shape, too_deep, first_fault}
use Rattle.um_shape.specs.ShapedProgram.{IsRefusal}
use Rattle.um_infer.specs.Inference.{Inference, all_schemes, stops_at_slots, stops_at_range, stops_at_units, stops_at_not_general, infer}
use Rattle.um_front.specs.Places.{BeginsToken, BeginsTokenOrEnds, ParsePlace, NamePlace, EachProgramPlace}
use Rattle.um_front.proofs.TokenPlaces.{lexical_faults_have_places}
use Rattle.um_front.proofs.BeginningTokens.{syntax_faults_begin_tokens, programs_begin_tokens, name_faults_begin_tokens}
use Rattle.um_reports.specs.declared.status.Status.{Status}
use Rattle.um_reports.specs.declared.status.Status.TheVariants.{TooLong}
use Rattle.um_reports.specs.Refusals.{placed, limit_label, range_label, units_label, not_general_label, IsTextReply, IsParseReply, IsNameReply, IsShapeReply}
use Rattle.um_front.specs.Stages.{IsReadText}
use Rattle.um_front.specs.Refused.{IsUntypedReply, IsUnread, IsUnshaped, IsUnchecked}
use Rattle.um_front.specs.Laws.{IsRefusalPlace, RefusalsTellPlaces}
use Rattle.um_front.proofs.ShapePlaces.{first_fault_holds}
use Rattle.um_front.proofs.RowPlaces.{InferenceHolds, inference_holds, function_at}

module _ (bytes text : List ℕ) (status : Status) where
  -- what the law says of the line
  abbrev Tells : Type 0
  Tells = (status ≡ TooLong) ⊎ ((label : List ℕ) × (at : ℕ) × (text ≡ placed label bytes at) × IsRefusalPlace bytes at)

  at_token : (tokens : List Token) → IsTextAnswer bytes (Ok tokens) → (label : List ℕ) (at : ℕ) → text ≡ placed label bytes at → BeginsTokenOrEnds tokens (length bytes) at → Tells
  at_token tokens lexed label at is begins = inr (label, at, is, inr (inr (tokens, lexed, begins)))

  -- ---- no tokens

  no_tokens : (stop : TextStop) → IsTextAnswer bytes (Err stop) → IsTextReply bytes stop text status → Tells
  no_tokens (text_stop.Utf8 at) answer reply = inr (codes "error 3: not UTF-8 at ", at, reply.0, inl answer)
  no_tokens (text_stop.BadChar at) answer reply =
      inr (codes "error 4: character at ", at, reply.0, inr (inl (answer.0, (lex_stop.BadChar at, answer.1), lexical_faults_have_places bytes (lex_stop.BadChar at) answer.0 answer.1)))
  no_tokens (text_stop.NumberRange at) answer reply =
      inr (codes "error 4: number at ", at, reply.0, inr (inl (answer.0, (lex_stop.NumberRange at, answer.1), lexical_faults_have_places bytes (lex_stop.NumberRange at) answer.0 answer.1)))
  no_tokens (text_stop.PowerText at) answer reply =
      inr (codes "error 4: power at ", at, reply.0, inr (inl (answer.0, (lex_stop.PowerText at, answer.1), lexical_faults_have_places bytes (lex_stop.PowerText at) answer.0 answer.1)))
  no_tokens text_stop.NoMemory answer reply = absurd reply

  -- ---- no tree

  no_tree : (tokens : List Token) → IsTextAnswer bytes (Ok tokens) → (stop : ParseStop) → ParsePlace (BeginsTokenOrEnds tokens (length bytes)) stop → IsParseReply bytes stop text status → Tells
  no_tree tokens lexed (parse_stop.Syntax at) place reply = at_token tokens lexed (codes "error 5: syntax at ") at reply.0 place
  no_tree tokens lexed (parse_stop.Limit kind at) place reply = at_token tokens lexed (limit_label kind) at reply.0 place
  no_tree tokens lexed parse_stop.NoMemory place reply = absurd reply

  module _ (raw : List DeclSyntax) (read : IsReadText bytes raw) where
    -- ---- no names

    no_names : (stop : NameStop) → NamePlace (BeginsToken read.tokens) stop → IsNameReply bytes stop text status → Tells
    no_names (name_stop.Unknown at) place reply = at_token read.tokens read.lexed (codes "error 7: unknown name at ") at reply.0 (inl place)
    no_names (name_stop.Twice at) place reply = at_token read.tokens read.lexed (codes "error 7: declared twice at ") at reply.0 (inl place)
    no_names (name_stop.WrongCount at) place reply = at_token read.tokens read.lexed (codes "error 7: wrong count at ") at reply.0 (inl place)
    no_names (name_stop.Hole at) place reply = at_token read.tokens read.lexed (codes "error 7: hole at ") at reply.0 (inl place)
    no_names (name_stop.Range at) place reply = at_token read.tokens read.lexed (codes "error 10: power range at ") at reply.0 (inl place)
    no_names name_stop.NoMemory place reply = absurd reply

    module _ (p : ProgramTree) (resolved : resolved_program raw ≡ Ok p) where
      places : EachProgramPlace (BeginsToken read.tokens) p
      places = programs_begin_tokens read.tokens raw p read.read.is resolved

      -- ---- no shapes

      no_shapes : (stop : ShapeStop) → IsRefusal (first_fault p) stop → IsShapeReply bytes stop text status → Tells
      no_shapes (shape_stop.Shape at) fault reply =
          at_token read.tokens read.lexed (codes "error 8: shape at ") at reply.0 (inl (first_fault_holds (BeginsToken read.tokens) p (wrong_shape at) places fault))
      no_shapes (shape_stop.Depth at) fault reply =
          at_token read.tokens read.lexed (limit_label limit.Depth) at reply.0 (inl (first_fault_holds (BeginsToken read.tokens) p (too_deep at) places fault))
      no_shapes shape_stop.NoMemory fault reply = absurd reply

      -- ---- no schemes

      no_schemes : (r : Inference) → InferenceHolds (BeginsToken read.tokens) r → IsUntypedReply bytes text status p r → Tells
      no_schemes (all_schemes schemes) h reply = absurd reply
      no_schemes (stops_at_slots i) h reply =
          let f : FunctionTree = reply.0 in
          at_token read.tokens read.lexed (limit_label limit.Slots) f.at reply.2.0 (inl (function_at (BeginsToken read.tokens) p.functions i f places.functions reply.1).0)
      no_schemes (stops_at_range i at) h reply = at_token read.tokens read.lexed (range_label reply.0.name) at reply.2.0 (inl h)
      no_schemes (stops_at_units i row at) h reply = at_token read.tokens read.lexed (units_label reply.0.name) at reply.2.0 (inl h)
      no_schemes (stops_at_not_general i row at) h reply = at_token read.tokens read.lexed (not_general_label reply.0.name) at reply.2.0 (inl h)

  -- ---- stage by stage

  unread : IsUnread bytes text status → Tells
  unfolding IsUnread
  unread (inl (long, reply)) = inl reply.1
  unread (inr (inl (short, stop, refused, reply))) = no_tokens stop refused reply
  unread (inr (inr (short, tokens, lexed, stop, refused, reply))) = no_tree tokens lexed stop (syntax_faults_begin_tokens tokens (length bytes) stop refused) reply

  unshaped : IsUnshaped bytes text status → Tells
  unfolding IsUnshaped
  unshaped (inl u) = unread u
  unshaped (inr (inl (raw, written, stop, refused, reply))) = no_names raw written stop (name_faults_begin_tokens written.tokens raw stop written.read.is refused) reply
  unshaped (inr (inr (raw, written, p, resolved, stop, refused, reply))) = no_shapes raw written p resolved stop refused reply

  unchecked : IsUnchecked bytes text status → Tells
  unfolding IsUnchecked
  unchecked (inl u) = unshaped u
  unchecked (inr (s, shaped, reply)) =
      let h = places shaped.raw shaped.written s.program shaped.resolved in
      no_schemes shaped.raw shaped.written s.program shaped.resolved (infer s.program) (inference_holds (BeginsToken shaped.written.tokens) s.program h) reply

pub refusals_tell_places : RefusalsTellPlaces
refusals_tell_places bytes text status refused = unchecked bytes text status refused
