-- A text with the value of a stage isn't refused up to that stage.
use Rattle.std.proofs.Common.{◌≡◌, sym, subst, ℕ, ◌+◌, ◌<◌, ◌≤◌, ◌⊎◌, List, [], ◌∷◌, length, drop, None, Ok, Err, ◌∙◌, inl, inr, arith}
use Rattle.std.specs.Str.{chars, IsUtf8, IsValidUpTo}
use Rattle.std.proofs.lemmas.Bool.{cases_lt}
use Rattle.std.proofs.lemmas.List.{take-append-drop, take_all}
use Rattle.um_syntax.proofs.Whole.{unique_tokens, tokens_or_fault}
use Rattle.um_syntax.specs.declared.token.Token.{Token}
use Rattle.um_syntax.specs.declared.token.TextStop.{TextStop}
use Rattle.um_syntax.specs.declared.token.TextStop.TheVariants as text_stop
use Rattle.um_syntax.specs.declared.token.LexStop.TheVariants as lex_stop
use Rattle.um_syntax.specs.Feeding.{IsTextAnswer}
use Rattle.um_types.specs.declared.parse.LimitKind.{LimitKind}
use Rattle.um_types.specs.declared.parse.LimitKind.TheVariants as limit
use Rattle.um_types.specs.declared.parse.ParseStop.{ParseStop}
use Rattle.um_types.specs.declared.parse.ParseStop.TheVariants as parse_stop
use Rattle.um_unit_texts.specs.UnitStops.{greatest_height}
use Rattle.um_measures.specs.declared.stop.NameStop.{NameStop}
use Rattle.um_measures.specs.declared.stop.NameStop.TheVariants as name_stop
use Rattle.um_measures.specs.Stops.{IsFirst}
use Rattle.um_names.specs.Resolution.{resolved_program, resolved_abbreviations}
use Rattle.um_shape.specs.declared.stop.ShapeStop.{ShapeStop}
use Rattle.um_shape.specs.declared.stop.ShapeStop.TheVariants as shape_stop
use Rattle.um_shape.specs.FirstFault.{first_fault}
use Rattle.um_shape.specs.ShapedProgram.{IsRefusal}
use Rattle.um_infer.specs.Inference.{Inference, all_schemes, infer}
use Rattle.um_tree.specs.RawTree.{DeclSyntax}
use Rattle.um_tree.specs.ProgramTree.{ProgramTree, SchemeTree}
use Rattle.um_parse.specs.DeclGrammar.{IsProgram}
use Rattle.um_parse.specs.ProgramHeights.{program_height}
use Rattle.um_parse.specs.ProgramLimits.{WithinLimits, PassesAt, functions_in}
use Rattle.um_parse.specs.ProgramStops.{StopsAt, HighAt}
use Rattle.um_parse.specs.Parsed.{IsRead, LimitAt, Parsed}
use Rattle.um_reports.specs.declared.status.Status.{Status}
use Rattle.um_reports.specs.Refusals.{IsTextReply, IsParseReply, IsNameReply, IsShapeReply}
use Rattle.um_front.specs.Stages.{IsReadText, ShapedTree, IsShapedText, CheckedTree, IsCheckedText}
use Rattle.um_front.specs.Refused.{IsUntypedReply, IsUnread, IsUnshaped, IsUnchecked}

-- ---- a text with tokens isn't refused

pub not_utf8 : (bytes : List ℕ) (at : ℕ) → IsValidUpTo bytes at → IsUtf8 bytes → ⊥
not_utf8 bytes at valid utf8 = valid.longest (length bytes) valid.short (rw (take_all (length bytes) bytes (omega (arith))) utf8)

pub text_not_refused : (bytes : List ℕ) (tokens : List Token) (stop : TextStop) (text : List ℕ) (status : Status) → IsTextAnswer bytes (Ok tokens) → IsTextAnswer bytes (Err stop) → IsTextReply bytes stop text status → ⊥
text_not_refused bytes tokens (text_stop.Utf8 at) text status lexed refused reply = not_utf8 bytes at refused lexed.0
text_not_refused bytes tokens (text_stop.BadChar at) text status lexed refused reply = tokens_or_fault (chars bytes) tokens (lex_stop.BadChar at) lexed.1 refused.1
text_not_refused bytes tokens (text_stop.NumberRange at) text status lexed refused reply = tokens_or_fault (chars bytes) tokens (lex_stop.NumberRange at) lexed.1 refused.1
text_not_refused bytes tokens (text_stop.PowerText at) text status lexed refused reply = tokens_or_fault (chars bytes) tokens (lex_stop.PowerText at) lexed.1 refused.1
text_not_refused bytes tokens text_stop.NoMemory text status lexed refused reply = reply

-- ---- a program that is read isn't refused

pub not_passed : (before : ℕ) (ds : List DeclSyntax) (kind : LimitKind) (at : ℕ) → WithinLimits before ds → PassesAt before ds kind at → ⊥
not_passed before [] kind at within passes = passes
not_passed before (d ∷ ds) kind at within passes =
    not_passed (before + functions_in d) ds kind at within.1 (rw within.0 at passes)

pub not_stopped : (tokens : List Token) (ds : List DeclSyntax) (k : ℕ) → IsProgram tokens ds → StopsAt tokens k → ⊥
not_stopped tokens ds k is stops = by_place (cases_lt k (length tokens))
  where
    by_place : (k < length tokens) ⊎ (length tokens ≤ k) → ⊥
    by_place (inl below) = stops.through below (drop (k + 1) tokens, ds, rw (take-append-drop (k + 1) tokens) is)
    by_place (inr past) = stops.none (omega (arith, past, stops.within)) ds is

pub not_high : (tokens : List Token) (ds : List DeclSyntax) (k : ℕ) → IsProgram tokens ds → program_height ds ≤ greatest_height → HighAt tokens k → ⊥
not_high tokens ds k is low high = high.none (drop (k + 1) tokens, ds, rw (take-append-drop (k + 1) tokens) is, low)

pub not_limited : (tokens : List Token) (ds : List DeclSyntax) (end : ℕ) (kind : LimitKind) (at : ℕ) → IsRead tokens ds → LimitAt tokens end kind at → ⊥
not_limited tokens ds end limit.Height at read high = not_high tokens ds high.0 read.is read.low high.2
not_limited tokens ds end kind at read large =
    not_passed 0 ds kind at read.small (subst (λ other. PassesAt 0 other kind at) (read.only large.ds large.is) large.passes)

pub program_not_refused : (tokens : List Token) (ds : List DeclSyntax) (end : ℕ) (stop : ParseStop) (bytes text : List ℕ) (status : Status) → IsRead tokens ds → Parsed tokens end (Err stop) → IsParseReply bytes stop text status → ⊥
program_not_refused tokens ds end (parse_stop.Syntax at) bytes text status read refused reply = not_stopped tokens ds refused.0 read.is refused.2
program_not_refused tokens ds end (parse_stop.Limit kind at) bytes text status read refused reply = not_limited tokens ds end kind at read refused
program_not_refused tokens ds end parse_stop.NoMemory bytes text status read refused reply = reply

-- ---- nor are its shapes, or its names

pub not_refused : (p : ProgramTree) (stop : ShapeStop) (bytes text : List ℕ) (status : Status) → first_fault p ≡ None → IsRefusal (first_fault p) stop → IsShapeReply bytes stop text status → ⊥
not_refused p (shape_stop.Shape at) bytes text status none some reply = cc (sym none ∙ some)
not_refused p (shape_stop.Depth at) bytes text status none some reply = cc (sym none ∙ some)
not_refused p shape_stop.NoMemory bytes text status none some reply = reply

pub not_faulty : (raw : List DeclSyntax) (p : ProgramTree) (stop : NameStop) (bytes text : List ℕ) (status : Status) → resolved_program raw ≡ Ok p → IsFirst (resolved_program raw) stop → IsNameReply bytes stop text status → ⊥
not_faulty raw p (name_stop.Unknown at) bytes text status ok err reply = cc (sym ok ∙ err)
not_faulty raw p (name_stop.Twice at) bytes text status ok err reply = cc (sym ok ∙ err)
not_faulty raw p (name_stop.WrongCount at) bytes text status ok err reply = cc (sym ok ∙ err)
not_faulty raw p (name_stop.Hole at) bytes text status ok err reply = cc (sym ok ∙ err)
not_faulty raw p (name_stop.Range at) bytes text status ok err reply = cc (sym ok ∙ err)
not_faulty raw p name_stop.NoMemory bytes text status ok err reply = reply

-- ---- each stage has one value

pub one_read : (bytes : List ℕ) (raw other : List DeclSyntax) → IsReadText bytes raw → IsReadText bytes other → raw ≡ other
one_read bytes raw other a b =
    let same : a.tokens ≡ b.tokens = unique_tokens (chars bytes) a.tokens b.tokens a.lexed.1 b.lexed.1 in
    let here = subst (λ (ts : List Token). IsRead ts raw) same a.read in
    b.read.only raw here.is

pub one_shaped : (bytes : List ℕ) (s other : ShapedTree) → IsShapedText bytes s → IsShapedText bytes other → s ≡ other
one_shaped bytes s other a b =
    let raw : a.raw ≡ b.raw = one_read bytes a.raw b.raw a.written b.written in
    let programs : Ok s.program ≡ Ok other.program = sym a.resolved ∙ (λ i. resolved_program (raw i)) ∙ b.resolved in
    let program : s.program ≡ other.program = cc programs in
    let both = sym a.abbreviated ∙ (λ i. resolved_abbreviations (raw i)) ∙ b.abbreviated in
    let abbreviations : s.abbreviations ≡ other.abbreviations = cc both in
    λ i. record { program = program i; abbreviations = abbreviations i }

pub one_checked : (bytes : List ℕ) (c other : CheckedTree) → IsCheckedText bytes c → IsCheckedText bytes other → c ≡ other
one_checked bytes c other a b =
    let text : c.text ≡ other.text = one_shaped bytes c.text other.text a.shaped b.shaped in
    let both : all_schemes c.schemes ≡ all_schemes other.schemes = sym a.inferred ∙ (λ i. infer (text i).program) ∙ b.inferred in
    let schemes : c.schemes ≡ other.schemes = cc both in
    λ i. record { text = text i; schemes = schemes i }

-- ---- and then the text isn't refused

module _ (bytes text : List ℕ) (status : Status) where
  pub read_is_not_refused : (raw : List DeclSyntax) → IsReadText bytes raw → IsUnread bytes text status → ⊥
  unfolding IsUnread
  read_is_not_refused raw is (inl (long, reply)) = let short = is.short in omega (arith, long, short)
  read_is_not_refused raw is (inr (inl (short, stop, refused, reply))) = text_not_refused bytes is.tokens stop text status is.lexed refused reply
  read_is_not_refused raw is (inr (inr (short, tokens, lexed, stop, refused, reply))) =
      let same : is.tokens ≡ tokens = unique_tokens (chars bytes) is.tokens tokens is.lexed.1 lexed.1 in
      program_not_refused tokens raw (length bytes) stop bytes text status (subst (λ (ts : List Token). IsRead ts raw) same is.read) refused reply

  pub shaped_is_not_refused : (s : ShapedTree) → IsShapedText bytes s → IsUnshaped bytes text status → ⊥
  unfolding IsUnshaped
  shaped_is_not_refused s is (inl unread) = read_is_not_refused is.raw is.written unread
  shaped_is_not_refused s is (inr (inl (raw, written, stop, refused, reply))) =
      let same : is.raw ≡ raw = one_read bytes is.raw raw is.written written in
      not_faulty raw s.program stop bytes text status (subst (λ (ds : List DeclSyntax). resolved_program ds ≡ Ok s.program) same is.resolved) refused reply
  shaped_is_not_refused s is (inr (inr (raw, written, p, resolved, stop, refused, reply))) =
      let same : is.raw ≡ raw = one_read bytes is.raw raw is.written written in
      let both : Ok s.program ≡ Ok p = sym (subst (λ (ds : List DeclSyntax). resolved_program ds ≡ Ok s.program) same is.resolved) ∙ resolved in
      let program : s.program ≡ p = cc both in
      not_refused p stop bytes text status (subst (λ (q : ProgramTree). first_fault q ≡ None) program is.faultless) refused reply

  untyped : (p : ProgramTree) (inferred : Inference) (schemes : List SchemeTree) → inferred ≡ all_schemes schemes → IsUntypedReply bytes text status p inferred → ⊥
  untyped p inferred schemes is reply = subst (IsUntypedReply bytes text status p) is reply

  pub checked_is_not_refused : (c : CheckedTree) → IsCheckedText bytes c → IsUnchecked bytes text status → ⊥
  unfolding IsUnchecked
  checked_is_not_refused c is (inl unshaped) = shaped_is_not_refused c.text is.shaped unshaped
  checked_is_not_refused c is (inr (s, shaped, reply)) =
      let same : s ≡ c.text = one_shaped bytes s c.text shaped is.shaped in
      let here = subst (λ (x : ShapedTree). IsUntypedReply bytes text status x.program (infer x.program)) same reply in
      untyped c.text.program (infer c.text.program) c.schemes is.inferred here
