-- A text is refused in one way.
use Rattle.std.proofs.Common.{◌≡◌, ℕ, ◌<◌, ◌≤◌, ◌⊎◌, List, [], length, Ok, Err, Some, codes, inl, inr, sym, subst, ◌∙◌, arith}
use Rattle.std.specs.declared.option.Option.{Option}
use Rattle.std.specs.Str.{chars, IsUtf8, IsValidUpTo}
use Rattle.std.proofs.lemmas.Bool.{cases_lt}
use Rattle.um_syntax.specs.declared.token.Token.{Token}
use Rattle.um_syntax.specs.declared.token.TextStop.{TextStop}
use Rattle.um_syntax.specs.declared.token.TextStop.TheVariants as text_stop
use Rattle.um_syntax.specs.declared.token.LexStop.{LexStop}
use Rattle.um_syntax.specs.declared.token.LexStop.TheVariants as lex_stop
use Rattle.um_syntax.specs.Lexing.{HasFault}
use Rattle.um_syntax.specs.Feeding.{IsTextAnswer}
use Rattle.um_syntax.proofs.Whole.{unique_tokens, unique_fault}
use Rattle.um_types.specs.declared.parse.LimitKind.TheVariants as limit
use Rattle.um_types.specs.declared.parse.ParseStop.{ParseStop}
use Rattle.um_types.specs.declared.parse.ParseStop.TheVariants as parse_stop
use Rattle.um_parse.specs.Parsed.{Parsed}
use Rattle.um_parse.specs.Laws.{AreSameAnswer, AnswersAreUnique}
use Rattle.um_measures.specs.declared.stop.NameStop.{NameStop}
use Rattle.um_measures.specs.declared.stop.NameStop.TheVariants as name_stop
use Rattle.um_measures.specs.Faults.{Fault, unknown, twice, wrong_count, hole, range, Found}
use Rattle.um_measures.specs.Stops.{IsFirst}
use Rattle.um_names.specs.Resolution.{resolved_program}
use Rattle.um_shape.specs.declared.stop.ShapeStop.{ShapeStop}
use Rattle.um_shape.specs.declared.stop.ShapeStop.TheVariants as shape_stop
use Rattle.um_shape.specs.FirstFault.{ShapeFault, wrong_shape, too_deep, first_fault}
use Rattle.um_shape.specs.ShapedProgram.{IsRefusal}
use Rattle.um_tree.specs.RawTree.{DeclSyntax}
use Rattle.um_tree.specs.ProgramTree.{FunctionTree, ProgramTree}
use Rattle.um_infer.specs.Inference.{Inference, all_schemes, stops_at_slots, stops_at_range, stops_at_units, stops_at_not_general, infer}
use Rattle.um_reports.specs.declared.status.Status.{Status}
use Rattle.um_reports.specs.declared.status.Status.TheVariants.{Utf8, Lexical, Limit, Names, PowerRange, Shape}
use Rattle.um_reports.specs.Steps.{IsReply}
use Rattle.um_reports.specs.Refusals.{placed, limit_label, IsTextReply, IsParseReply, IsNameReply, IsShapeReply}
use Rattle.um_front.specs.Stages.{ShapedTree}
use Rattle.um_front.specs.Refused.{OfFunction, IsUntypedReply, IsUnread, IsUnshaped, IsUnchecked}
use Rattle.um_front.proofs.Excluded.{not_utf8, text_not_refused, not_faulty, one_read, one_shaped, read_is_not_refused, shaped_is_not_refused}

one_reply : (text other wanted : List ℕ) (status another meant : Status) → IsReply text status wanted meant → IsReply other another wanted meant → (text ≡ other) × (status ≡ another)
one_reply text other wanted status another meant a b = (a.0 ∙ sym b.0, a.1 ∙ sym b.1)

-- ---- each refusal says what the fault is, so that one fault has one line

module _ (bytes text : List ℕ) (status : Status) where
  -- names
  abbrev name_line : Fault → List ℕ
  name_line (unknown at) = placed (codes "error 7: unknown name at ") bytes at
  name_line (twice at) = placed (codes "error 7: declared twice at ") bytes at
  name_line (wrong_count at) = placed (codes "error 7: wrong count at ") bytes at
  name_line (hole at) = placed (codes "error 7: hole at ") bytes at
  name_line (range at) = placed (codes "error 10: power range at ") bytes at

  abbrev name_status : Fault → Status
  name_status (unknown at) = Names
  name_status (twice at) = Names
  name_status (wrong_count at) = Names
  name_status (hole at) = Names
  name_status (range at) = PowerRange

  names_told : {A : Type 0} (found : Found A) (stop : NameStop) → IsFirst found stop → IsNameReply bytes stop text status → (fault : Fault) × (found ≡ Err fault) × IsReply text status (name_line fault) (name_status fault)
  names_told found (name_stop.Unknown at) is reply = (unknown at, is, reply)
  names_told found (name_stop.Twice at) is reply = (twice at, is, reply)
  names_told found (name_stop.WrongCount at) is reply = (wrong_count at, is, reply)
  names_told found (name_stop.Hole at) is reply = (hole at, is, reply)
  names_told found (name_stop.Range at) is reply = (range at, is, reply)
  names_told found name_stop.NoMemory is reply = absurd reply

  -- shapes
  abbrev shape_line : ShapeFault → List ℕ
  shape_line (wrong_shape at) = placed (codes "error 8: shape at ") bytes at
  shape_line (too_deep at) = placed (limit_label limit.Depth) bytes at

  abbrev shape_status : ShapeFault → Status
  shape_status (wrong_shape at) = Shape
  shape_status (too_deep at) = Limit

  shapes_told : (found : Option ShapeFault) (stop : ShapeStop) → IsRefusal found stop → IsShapeReply bytes stop text status → (fault : ShapeFault) × (found ≡ Some fault) × IsReply text status (shape_line fault) (shape_status fault)
  shapes_told found (shape_stop.Shape at) is reply = (wrong_shape at, is, reply)
  shapes_told found (shape_stop.Depth at) is reply = (too_deep at, is, reply)
  shapes_told found shape_stop.NoMemory is reply = absurd reply

  -- characters
  abbrev lexical_line : LexStop → List ℕ
  lexical_line (lex_stop.BadChar at) = placed (codes "error 4: character at ") bytes at
  lexical_line (lex_stop.NumberRange at) = placed (codes "error 4: number at ") bytes at
  lexical_line (lex_stop.PowerText at) = placed (codes "error 4: power at ") bytes at
  lexical_line lex_stop.NoMemory = []

  abbrev IsUtf8Refusal : Type 0
  IsUtf8Refusal = (at : ℕ) × IsValidUpTo bytes at × IsReply text status (placed (codes "error 3: not UTF-8 at ") bytes at) Utf8

  abbrev IsLexicalRefusal : Type 0
  IsLexicalRefusal = (fault : LexStop) × IsUtf8 bytes × HasFault (chars bytes) fault × IsReply text status (lexical_line fault) Lexical

  text_told : (stop : TextStop) → IsTextAnswer bytes (Err stop) → IsTextReply bytes stop text status → IsUtf8Refusal ⊎ IsLexicalRefusal
  text_told (text_stop.Utf8 at) is reply = inl (at, is, reply)
  text_told (text_stop.BadChar at) is reply = inr (lex_stop.BadChar at, is.0, is.1, reply)
  text_told (text_stop.NumberRange at) is reply = inr (lex_stop.NumberRange at, is.0, is.1, reply)
  text_told (text_stop.PowerText at) is reply = inr (lex_stop.PowerText at, is.0, is.1, reply)
  text_told text_stop.NoMemory is reply = absurd reply

module _ (text other : List ℕ) (status another : Status) where
  -- ---- a refusal of the characters is one
  longest_valid : (bytes : List ℕ) (at place : ℕ) → IsValidUpTo bytes at → IsValidUpTo bytes place → at ≡ place
  longest_valid bytes at place a b = by (cases_lt at place) (cases_lt place at)
    where
      by : (at < place) ⊎ (place ≤ at) → (place < at) ⊎ (at ≤ place) → at ≡ place
      by (inl before) more = absurd (a.longest place before b.front)
      by (inr behind) (inl before) = absurd (b.longest at before a.front)
      by (inr behind) (inr same) = omega (arith, behind, same)

  one_text_refusal : (bytes : List ℕ) → IsUtf8Refusal bytes text status ⊎ IsLexicalRefusal bytes text status → IsUtf8Refusal bytes other another ⊎ IsLexicalRefusal bytes other another → (text ≡ other) × (status ≡ another)
  one_text_refusal bytes (inl a) (inl b) =
      one_reply text other (placed (codes "error 3: not UTF-8 at ") bytes b.0) status another Utf8
      (subst (λ at. IsReply text status (placed (codes "error 3: not UTF-8 at ") bytes at) Utf8) (longest_valid bytes a.0 b.0 a.1 b.1) a.2) b.2
  one_text_refusal bytes (inl a) (inr b) = absurd (not_utf8 bytes a.0 a.1 b.1)
  one_text_refusal bytes (inr a) (inl b) = absurd (not_utf8 bytes b.0 b.1 a.1)
  one_text_refusal bytes (inr a) (inr b) =
      one_reply text other (lexical_line bytes text status b.0) status another Lexical
      (subst (λ f. IsReply text status (lexical_line bytes text status f) Lexical) (unique_fault (chars bytes) a.0 b.0 a.2 b.2) a.3) b.3

  -- ---- a refusal of the grammar is one
  one_parse_refusal : (bytes : List ℕ) (stop sort : ParseStop) → AreSameAnswer (Err stop) (Err sort) → IsParseReply bytes stop text status → IsParseReply bytes sort other another → (text ≡ other) × (status ≡ another)
  one_parse_refusal bytes (parse_stop.Syntax at) (parse_stop.Syntax place) same a b =
      let c = subst (λ k. IsParseReply bytes (parse_stop.Syntax k) text status) same a in (c.0 ∙ sym b.0, c.1 ∙ sym b.1)
  one_parse_refusal bytes (parse_stop.Limit kind at) (parse_stop.Limit sort place) same a b =
      let c = subst (λ k. IsParseReply bytes (parse_stop.Limit k at) text status) same.0 a in
      let d = subst (λ k. IsParseReply bytes (parse_stop.Limit sort k) text status) same.1 c in (d.0 ∙ sym b.0, d.1 ∙ sym b.1)
  one_parse_refusal bytes (parse_stop.Syntax at) (parse_stop.Limit kind place) same a b = absurd same
  one_parse_refusal bytes (parse_stop.Limit kind at) (parse_stop.Syntax place) same a b = absurd same
  one_parse_refusal bytes parse_stop.NoMemory sort same a b = absurd a
  one_parse_refusal bytes stop parse_stop.NoMemory same a b = absurd b

  -- ---- a refusal of names, of shapes and of a function is one
  one_name_refusal : (bytes : List ℕ) (found : Found ProgramTree) (stop sort : NameStop) → IsFirst found stop → IsNameReply bytes stop text status → IsFirst found sort → IsNameReply bytes sort other another → (text ≡ other) × (status ≡ another)
  one_name_refusal bytes found stop sort is a also b =
      let x = names_told bytes text status found stop is a in let y = names_told bytes other another found sort also b in
      let e : Err x.0 ≡ Err y.0 = sym x.1 ∙ y.1 in let same : x.0 ≡ y.0 = cc e in
      let c = subst (λ f. IsReply text status (name_line bytes text status f) (name_status bytes text status f)) same x.2 in (c.0 ∙ sym y.2.0, c.1 ∙ sym y.2.1)

  one_shape_refusal : (bytes : List ℕ) (found : Option ShapeFault) (stop sort : ShapeStop) → IsRefusal found stop → IsShapeReply bytes stop text status → IsRefusal found sort → IsShapeReply bytes sort other another → (text ≡ other) × (status ≡ another)
  one_shape_refusal bytes found stop sort is a also b =
      let x = shapes_told bytes text status found stop is a in let y = shapes_told bytes other another found sort also b in
      let e : Some x.0 ≡ Some y.0 = sym x.1 ∙ y.1 in let same : x.0 ≡ y.0 = cc e in
      let c = subst (λ f. IsReply text status (shape_line bytes text status f) (shape_status bytes text status f)) same x.2 in (c.0 ∙ sym y.2.0, c.1 ∙ sym y.2.1)

  -- the function that is declared at a number is one
  of_one_function : (p : ProgramTree) (i : ℕ) (Says Tells : FunctionTree → Type 0) → ((f : FunctionTree) → Says f → Tells f → (text ≡ other) × (status ≡ another)) → OfFunction p i Says → OfFunction p i Tells → (text ≡ other) × (status ≡ another)
  of_one_function p i Says Tells one (f, declared, a) (g, is, b) =
      let both : Some f ≡ Some g = sym declared ∙ is in let same : f ≡ g = cc both in
      one g (subst Says same a) b

  one_untyped_reply : (bytes : List ℕ) (p : ProgramTree) (inferred : Inference) → IsUntypedReply bytes text status p inferred → IsUntypedReply bytes other another p inferred → (text ≡ other) × (status ≡ another)
  one_untyped_reply bytes p (all_schemes schemes) a b = absurd a
  one_untyped_reply bytes p (stops_at_slots i) a b = of_one_function p i _ _ (λ f x y. (x.0 ∙ sym y.0, x.1 ∙ sym y.1)) a b
  one_untyped_reply bytes p (stops_at_range i at) a b = of_one_function p i _ _ (λ f x y. (x.0 ∙ sym y.0, x.1 ∙ sym y.1)) a b
  one_untyped_reply bytes p (stops_at_units i row at) a b = of_one_function p i _ _ (λ f x y. (x.0 ∙ sym y.0, x.1 ∙ sym y.1)) a b
  one_untyped_reply bytes p (stops_at_not_general i row at) a b = of_one_function p i _ _ (λ f x y. (x.0 ∙ sym y.0, x.1 ∙ sym y.1)) a b

  -- ---- up to each stage

  pub unread_once : AnswersAreUnique → (bytes : List ℕ) → IsUnread bytes text status → IsUnread bytes other another → (text ≡ other) × (status ≡ another)
  unfolding IsUnread
  unread_once one bytes (inl (long, a)) (inl (also, b)) = (a.0 ∙ sym b.0, a.1 ∙ sym b.1)
  unread_once one bytes (inl (long, a)) (inr (inl (short, stop, refused, b))) = absurd (omega (arith, long, short))
  unread_once one bytes (inl (long, a)) (inr (inr (short, tokens, lexed, stop, refused, b))) = absurd (omega (arith, long, short))
  unread_once one bytes (inr (inl (short, stop, refused, a))) (inl (long, b)) = absurd (omega (arith, long, short))
  unread_once one bytes (inr (inr (short, tokens, lexed, stop, refused, a))) (inl (long, b)) = absurd (omega (arith, long, short))
  unread_once one bytes (inr (inl (short, stop, refused, a))) (inr (inl (also, sort, told, b))) =
      one_text_refusal bytes (text_told bytes text status stop refused a) (text_told bytes other another sort told b)
  unread_once one bytes (inr (inl (short, stop, refused, a))) (inr (inr (also, tokens, lexed, sort, told, b))) = absurd (text_not_refused bytes tokens stop text status lexed refused a)
  unread_once one bytes (inr (inr (short, tokens, lexed, sort, told, a))) (inr (inl (also, stop, refused, b))) = absurd (text_not_refused bytes tokens stop other another lexed refused b)
  unread_once one bytes (inr (inr (short, tokens, lexed, stop, refused, a))) (inr (inr (also, others, is, sort, told, b))) =
      let same : tokens ≡ others = unique_tokens (chars bytes) tokens others lexed.1 is.1 in
      one_parse_refusal bytes stop sort (one others (length bytes) (Err stop) (Err sort) (subst (λ (ts : List Token). Parsed ts (length bytes) (Err stop)) same refused) told) a b

  pub unshaped_once : AnswersAreUnique → (bytes : List ℕ) → IsUnshaped bytes text status → IsUnshaped bytes other another → (text ≡ other) × (status ≡ another)
  unfolding IsUnshaped
  unshaped_once one bytes (inl a) (inl b) = unread_once one bytes a b
  unshaped_once one bytes (inl a) (inr (inl (raw, written, stop, refused, b))) = absurd (read_is_not_refused bytes text status raw written a)
  unshaped_once one bytes (inl a) (inr (inr (raw, written, p, resolved, stop, refused, b))) = absurd (read_is_not_refused bytes text status raw written a)
  unshaped_once one bytes (inr (inl (raw, written, stop, refused, a))) (inl b) = absurd (read_is_not_refused bytes other another raw written b)
  unshaped_once one bytes (inr (inr (raw, written, p, resolved, stop, refused, a))) (inl b) = absurd (read_is_not_refused bytes other another raw written b)
  unshaped_once one bytes (inr (inl (raw, written, stop, refused, a))) (inr (inl (ds, also, sort, told, b))) =
      let same : raw ≡ ds = one_read bytes raw ds written also in
      one_name_refusal bytes (resolved_program ds) stop sort (subst (λ (es : List DeclSyntax). IsFirst (resolved_program es) stop) same refused) a told b
  unshaped_once one bytes (inr (inl (raw, written, stop, refused, a))) (inr (inr (ds, also, p, resolved, sort, told, b))) =
      let same : ds ≡ raw = one_read bytes ds raw also written in
      absurd (not_faulty raw p stop bytes text status (subst (λ (es : List DeclSyntax). resolved_program es ≡ Ok p) same resolved) refused a)
  unshaped_once one bytes (inr (inr (raw, written, p, resolved, sort, told, a))) (inr (inl (ds, also, stop, refused, b))) =
      let same : raw ≡ ds = one_read bytes raw ds written also in
      absurd (not_faulty ds p stop bytes other another (subst (λ (es : List DeclSyntax). resolved_program es ≡ Ok p) same resolved) refused b)
  unshaped_once one bytes (inr (inr (raw, written, p, resolved, stop, refused, a))) (inr (inr (ds, also, q, is, sort, told, b))) =
      let same : raw ≡ ds = one_read bytes raw ds written also in
      let both : Ok p ≡ Ok q = sym (subst (λ (es : List DeclSyntax). resolved_program es ≡ Ok p) same resolved) ∙ is in
      let program : p ≡ q = cc both in
      one_shape_refusal bytes (first_fault q) stop sort (subst (λ (x : ProgramTree). IsRefusal (first_fault x) stop) program refused) a told b

  pub unchecked_once : AnswersAreUnique → (bytes : List ℕ) → IsUnchecked bytes text status → IsUnchecked bytes other another → (text ≡ other) × (status ≡ another)
  unfolding IsUnchecked
  unchecked_once one bytes (inl a) (inl b) = unshaped_once one bytes a b
  unchecked_once one bytes (inl a) (inr (s, shaped, b)) = absurd (shaped_is_not_refused bytes text status s shaped a)
  unchecked_once one bytes (inr (s, shaped, a)) (inl b) = absurd (shaped_is_not_refused bytes other another s shaped b)
  unchecked_once one bytes (inr (s, shaped, a)) (inr (t, also, b)) =
      let same : s ≡ t = one_shaped bytes s t shaped also in
      one_untyped_reply bytes t.program (infer t.program) (subst (λ (x : ShapedTree). IsUntypedReply bytes text status x.program (infer x.program)) same a) b
