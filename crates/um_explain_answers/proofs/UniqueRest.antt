-- What follows a report line is one text.
use Rattle.std.proofs.Common.{◌≡◌, ℕ, ◌+◌, ◌<◌, ◌≤◌, ◌⊎◌, List, ◌++◌, length, take, inl, inr, None, Some, Ok, Err, refl, sym, ap, subst, ◌∙◌, arith}
use Rattle.std.specs.Prelude.{Option, slice_get}
use Rattle.std.specs.Str.{chars, IsUtf8, IsValidUpTo}
use Rattle.std.proofs.lemmas.Bool.{cases_lt}
use Rattle.um_syntax.specs.declared.token.Token.{Token}
use Rattle.um_syntax.specs.declared.token.LexStop.{LexStop}
use Rattle.um_syntax.specs.declared.token.LexStop.TheVariants as lex_stop
use Rattle.um_syntax.specs.declared.token.TextStop.{TextStop}
use Rattle.um_syntax.specs.declared.token.TextStop.TheVariants as text_stop
use Rattle.um_syntax.specs.Feeding.{IsTextAnswer}
use Rattle.um_syntax.proofs.Whole.{unique_tokens, unique_fault, tokens_or_fault}
use Rattle.um_types.specs.declared.parse.LimitKind.{LimitKind}
use Rattle.um_types.specs.declared.parse.ParseStop.{ParseStop}
use Rattle.um_types.specs.declared.parse.ParseStop.TheVariants as parse_stop
use Rattle.um_unit_texts.specs.UnitStops.{place_of}
use Rattle.um_reader.proofs.Texts.{begins_before}
use Rattle.um_tree.specs.RawTree.{DeclSyntax}
use Rattle.um_tree.specs.ProgramTree.{ProgramTree}
use Rattle.um_parse.specs.DeclGrammar.{IsProgram}
use Rattle.um_parse.specs.ProgramStops.{StopsAt}
use Rattle.um_parse.specs.Parsed.{Parsed, IsRead, LimitAt}
use Rattle.um_parse.specs.Laws.{AnswersAreUnique}
use Rattle.um_measures.specs.declared.stop.NameStop.{NameStop}
use Rattle.um_measures.specs.declared.stop.NameStop.TheVariants as name_stop
use Rattle.um_measures.specs.Faults.{Fault, unknown, twice, wrong_count, hole, range, Found}
use Rattle.um_measures.specs.Stops.{IsFirst}
use Rattle.um_names.specs.Resolution.{resolved_program}
use Rattle.um_shape.specs.declared.stop.ShapeStop.{ShapeStop}
use Rattle.um_shape.specs.declared.stop.ShapeStop.TheVariants as shape_stop
use Rattle.um_shape.specs.FirstFault.{ShapeFault, wrong_shape, too_deep, first_fault}
use Rattle.um_shape.specs.ShapedProgram.{IsRefusal}
use Rattle.um_infer.specs.declared.stop.InferStop.{InferStop}
use Rattle.um_infer.specs.declared.stop.InferStop.TheVariants as infer_stop
use Rattle.um_infer.specs.Answers.{IsInferred}
use Rattle.um_infer.specs.Inference.{Inference, all_schemes, stops_at_slots, stops_at_range, stops_at_units, stops_at_not_general, infer}
use Rattle.um_text_details.specs.declared.word.Word.{Word}
use Rattle.um_text_details.specs.Expected.{AreExpected}
use Rattle.um_text_details.proofs.WordLaws.{expected_words_are_unique}
use Rattle.um_text_details.specs.SyntaxDetails.{IsToldOf, refused_place, expected_line, missing_in}
use Rattle.um_text_details.specs.LimitDetails.{limit_details}
use Rattle.um_explain_answers.proofs.UniqueDetails.{one_details}
use Rattle.um_excerpt.specs.Excerpt.{excerpt}
use Rattle.um_front.proofs.Excluded.{not_utf8, not_stopped, not_limited}
use Rattle.um_explain_answers.specs.TokenRest.{IsTextRest, IsParseRest, IsSyntaxRest, missing_line}
use Rattle.um_explain_answers.specs.NameRest.{IsNameRest, IsShapeRest}
use Rattle.um_explain_answers.specs.SchemeRest.{IsSchemeRest}
use Rattle.um_explain_answers.specs.Stages.{AfterShapes, AfterNames, AfterTree, AfterTokens, FollowsLine}

-- ---- tokens

valid_once : (bytes : List ℕ) (m n : ℕ) → IsValidUpTo bytes m → IsValidUpTo bytes n → m ≡ n
valid_once bytes m n a b = by (cases_lt m n) (cases_lt n m)
  where
    by : (m < n) ⊎ (n ≤ m) → (n < m) ⊎ (m ≤ n) → m ≡ n
    by (inl lt) other = absurd (a.longest n lt b.front)
    by (inr le) (inl lt) = absurd (b.longest m lt a.front)
    by (inr le) (inr ge) = omega (arith, le, ge)

module _ (bytes rest other : List ℕ) where
  text_once : (stop another : TextStop) → IsTextAnswer bytes (Err stop) → IsTextAnswer bytes (Err another) → IsTextRest bytes stop rest → IsTextRest bytes another other → rest ≡ other
  text_once (text_stop.Utf8 at) (text_stop.Utf8 place) a b x y = let same : at ≡ place = valid_once bytes at place a b in x ∙ sym (rw same y)
  text_once (text_stop.Utf8 at) (text_stop.BadChar place) a b x y = absurd (not_utf8 bytes at a b.0)
  text_once (text_stop.Utf8 at) (text_stop.NumberRange place) a b x y = absurd (not_utf8 bytes at a b.0)
  text_once (text_stop.Utf8 at) (text_stop.PowerText place) a b x y = absurd (not_utf8 bytes at a b.0)
  text_once (text_stop.BadChar at) (text_stop.Utf8 place) a b x y = absurd (not_utf8 bytes place b a.0)
  text_once (text_stop.NumberRange at) (text_stop.Utf8 place) a b x y = absurd (not_utf8 bytes place b a.0)
  text_once (text_stop.PowerText at) (text_stop.Utf8 place) a b x y = absurd (not_utf8 bytes place b a.0)
  text_once (text_stop.BadChar at) (text_stop.BadChar place) a b x y =
      let faults = unique_fault (chars bytes) (lex_stop.BadChar at) (lex_stop.BadChar place) a.1 b.1 in
      let same : at ≡ place = cc faults in x ∙ sym (subst (λ n. IsTextRest bytes (text_stop.BadChar n) other) (sym same) y)
  text_once (text_stop.NumberRange at) (text_stop.NumberRange place) a b x y =
      let faults = unique_fault (chars bytes) (lex_stop.NumberRange at) (lex_stop.NumberRange place) a.1 b.1 in
      let same : at ≡ place = cc faults in x ∙ sym (subst (λ n. IsTextRest bytes (text_stop.NumberRange n) other) (sym same) y)
  text_once (text_stop.PowerText at) (text_stop.PowerText place) a b x y =
      let faults = unique_fault (chars bytes) (lex_stop.PowerText at) (lex_stop.PowerText place) a.1 b.1 in
      let same : at ≡ place = cc faults in x ∙ sym (subst (λ n. IsTextRest bytes (text_stop.PowerText n) other) (sym same) y)
  text_once (text_stop.BadChar at) (text_stop.NumberRange place) a b x y = let e = unique_fault (chars bytes) (lex_stop.BadChar at) (lex_stop.NumberRange place) a.1 b.1 in absurd (cc e)
  text_once (text_stop.BadChar at) (text_stop.PowerText place) a b x y = let e = unique_fault (chars bytes) (lex_stop.BadChar at) (lex_stop.PowerText place) a.1 b.1 in absurd (cc e)
  text_once (text_stop.NumberRange at) (text_stop.BadChar place) a b x y = let e = unique_fault (chars bytes) (lex_stop.NumberRange at) (lex_stop.BadChar place) a.1 b.1 in absurd (cc e)
  text_once (text_stop.NumberRange at) (text_stop.PowerText place) a b x y = let e = unique_fault (chars bytes) (lex_stop.NumberRange at) (lex_stop.PowerText place) a.1 b.1 in absurd (cc e)
  text_once (text_stop.PowerText at) (text_stop.BadChar place) a b x y = let e = unique_fault (chars bytes) (lex_stop.PowerText at) (lex_stop.BadChar place) a.1 b.1 in absurd (cc e)
  text_once (text_stop.PowerText at) (text_stop.NumberRange place) a b x y = let e = unique_fault (chars bytes) (lex_stop.PowerText at) (lex_stop.NumberRange place) a.1 b.1 in absurd (cc e)
  text_once text_stop.NoMemory another a b x y = absurd x
  text_once (text_stop.Utf8 at) text_stop.NoMemory a b x y = absurd y
  text_once (text_stop.BadChar at) text_stop.NoMemory a b x y = absurd y
  text_once (text_stop.NumberRange at) text_stop.NoMemory a b x y = absurd y
  text_once (text_stop.PowerText at) text_stop.NoMemory a b x y = absurd y

text_or_tokens : (bytes rest : List ℕ) (tokens : List Token) (stop : TextStop) → IsTextAnswer bytes (Ok tokens) → IsTextAnswer bytes (Err stop) → IsTextRest bytes stop rest → ⊥
text_or_tokens bytes rest tokens (text_stop.Utf8 at) lexed refused x = not_utf8 bytes at refused lexed.0
text_or_tokens bytes rest tokens (text_stop.BadChar at) lexed refused x = tokens_or_fault (chars bytes) tokens (lex_stop.BadChar at) lexed.1 refused.1
text_or_tokens bytes rest tokens (text_stop.NumberRange at) lexed refused x = tokens_or_fault (chars bytes) tokens (lex_stop.NumberRange at) lexed.1 refused.1
text_or_tokens bytes rest tokens (text_stop.PowerText at) lexed refused x = tokens_or_fault (chars bytes) tokens (lex_stop.PowerText at) lexed.1 refused.1
text_or_tokens bytes rest tokens text_stop.NoMemory lexed refused x = x

-- ---- trees

module _ (tokens : List Token) where
  stop_before : (j k : ℕ) → StopsAt tokens j → StopsAt tokens k → j ≤ k
  stop_before j k f g =
      elim (cases_lt k j) [
        | inl lt ↦
            let within = f.within in
            let b = f.before in
            absurd (g.through (omega (arith, within, lt)) (begins_before IsProgram tokens (k + 1) j (omega (arith, lt)) (b.0, b.1, b.2)))
        | inr le ↦ le
      ]

  one_number : (j k : ℕ) → StopsAt tokens j → StopsAt tokens k → j ≡ k
  one_number j k f g = let a = stop_before j k f g in let b = stop_before k j g f in omega (arith, a, b)

  one_told : (end : ℕ) (text another : List ℕ) (missing lacking : Option ℕ) → IsToldOf tokens end text missing → IsToldOf tokens end another lacking → (text ≡ another) × (missing ≡ lacking)
  one_told end text another missing lacking a b =
      let number : a.number ≡ b.number = one_number a.number b.number a.stops b.stops in
      let here : AreExpected (refused_place tokens b.number end) a.words = subst (λ (n : ℕ). AreExpected (refused_place tokens n end) a.words) number a.expected in
      let words : a.words ≡ b.words = expected_words_are_unique (refused_place tokens b.number end) a.words b.words here b.expected in (
        a.line ∙ ap expected_line words ∙ sym b.line,
        a.missing_in ∙ (λ i. missing_in tokens (number i) (words i)) ∙ sym b.missing_in,
      )

module _ (bytes : List ℕ) (one : AnswersAreUnique) (tokens : List Token) (rest other : List ℕ) where
  abbrev Refused : ParseStop → Type 0
  Refused stop = Parsed tokens (length bytes) (Err stop)

  syntax_once : (at : ℕ) → IsSyntaxRest bytes tokens at rest → IsSyntaxRest bytes tokens at other → rest ≡ other
  syntax_once at (words, missing, told, x) (others, lacking, also, y) =
      let same = one_told tokens (length bytes) words others missing lacking told also in
      x ∙ (λ i. excerpt bytes at ++ same.0 i ++ missing_line bytes (same.1 i)) ∙ sym y

  parse_once : (stop another : ParseStop) → Refused stop → Refused another → IsParseRest bytes tokens stop rest → IsParseRest bytes tokens another other → rest ≡ other
  parse_once (parse_stop.Syntax at) (parse_stop.Syntax place) a b x y =
      let same : at ≡ place = one tokens (length bytes) (Err (parse_stop.Syntax at)) (Err (parse_stop.Syntax place)) a b in
      syntax_once place (subst (λ n. IsSyntaxRest bytes tokens n rest) same x) y
  parse_once (parse_stop.Limit kind at) (parse_stop.Limit limit place) a b x y =
      let same : (kind ≡ limit) × (at ≡ place) = one tokens (length bytes) (Err (parse_stop.Limit kind at)) (Err (parse_stop.Limit limit place)) a b in
      x ∙ (λ i. excerpt bytes (same.1 i) ++ limit_details (same.0 i)) ∙ sym y
  parse_once (parse_stop.Syntax at) (parse_stop.Limit kind place) a b x y = absurd (one tokens (length bytes) (Err (parse_stop.Syntax at)) (Err (parse_stop.Limit kind place)) a b)
  parse_once (parse_stop.Limit kind at) (parse_stop.Syntax place) a b x y = absurd (one tokens (length bytes) (Err (parse_stop.Limit kind at)) (Err (parse_stop.Syntax place)) a b)
  parse_once parse_stop.NoMemory another a b x y = absurd x
  parse_once (parse_stop.Syntax at) parse_stop.NoMemory a b x y = absurd y
  parse_once (parse_stop.Limit kind at) parse_stop.NoMemory a b x y = absurd y

tree_or_stop : (bytes rest : List ℕ) (tokens : List Token) (raw : List DeclSyntax) (stop : ParseStop) → IsRead tokens raw → Parsed tokens (length bytes) (Err stop) → IsParseRest bytes tokens stop rest → ⊥
tree_or_stop bytes rest tokens raw (parse_stop.Syntax at) read refused x = not_stopped tokens raw refused.0 read.is refused.2
tree_or_stop bytes rest tokens raw (parse_stop.Limit kind at) read refused x = not_limited tokens raw (length bytes) kind at read refused
tree_or_stop bytes rest tokens raw parse_stop.NoMemory read refused x = x

-- ---- names

-- the stop that a fault of names is told by
abbrev name_stop_of : Fault → NameStop
name_stop_of (unknown at) = name_stop.Unknown at
name_stop_of (twice at) = name_stop.Twice at
name_stop_of (wrong_count at) = name_stop.WrongCount at
name_stop_of (hole at) = name_stop.Hole at
name_stop_of (range at) = name_stop.Range at

module _ (bytes : List ℕ) (raw : List DeclSyntax) (rest : List ℕ) where
  fault_told : (stop : NameStop) → IsFirst (resolved_program raw) stop → IsNameRest bytes raw stop rest → (fault : Fault) × (resolved_program raw ≡ Err fault) × (stop ≡ name_stop_of fault)
  fault_told (name_stop.Unknown at) first x = (unknown at, first, refl)
  fault_told (name_stop.Twice at) first x = (twice at, first, refl)
  fault_told (name_stop.WrongCount at) first x = (wrong_count at, first, refl)
  fault_told (name_stop.Hole at) first x = (hole at, first, refl)
  fault_told (name_stop.Range at) first x = (range at, first, refl)
  fault_told name_stop.NoMemory first x = absurd x

name_rest_once : (bytes : List ℕ) (raw : List DeclSyntax) (rest other : List ℕ) (stop : NameStop) → IsNameRest bytes raw stop rest → IsNameRest bytes raw stop other → rest ≡ other
name_rest_once bytes raw rest other (name_stop.Unknown at) x y = x ∙ sym y
name_rest_once bytes raw rest other (name_stop.Twice at) x y = x ∙ sym y
name_rest_once bytes raw rest other (name_stop.WrongCount at) x y = x ∙ sym y
name_rest_once bytes raw rest other (name_stop.Hole at) x y = x ∙ sym y
name_rest_once bytes raw rest other (name_stop.Range at) x y = x ∙ sym y
name_rest_once bytes raw rest other name_stop.NoMemory x y = absurd x

names_once : (bytes : List ℕ) (raw : List DeclSyntax) (rest other : List ℕ) (stop another : NameStop) → IsFirst (resolved_program raw) stop → IsFirst (resolved_program raw) another → IsNameRest bytes raw stop rest → IsNameRest bytes raw another other → rest ≡ other
names_once bytes raw rest other stop another a b x y =
    let (fault, e, is) = fault_told bytes raw rest stop a x in
    let (second, f, also) = fault_told bytes raw other another b y in
    let both : Err fault ≡ Err second = sym e ∙ f in
    let same : fault ≡ second = cc both in
    let stops : another ≡ stop = also ∙ sym (is ∙ ap name_stop_of same) in
    name_rest_once bytes raw rest other stop x (subst (λ (s : NameStop). IsNameRest bytes raw s other) stops y)

-- ---- shapes

shapes_once : (bytes : List ℕ) (p : ProgramTree) (rest other : List ℕ) (stop another : ShapeStop) → IsRefusal (first_fault p) stop → IsRefusal (first_fault p) another → IsShapeRest bytes p stop rest → IsShapeRest bytes p another other → rest ≡ other
shapes_once bytes p rest other (shape_stop.Shape at) (shape_stop.Shape place) a b x y =
    let both : Some (wrong_shape at) ≡ Some (wrong_shape place) = sym a ∙ b in let same : at ≡ place = cc both in
    x ∙ sym (subst (λ n. IsShapeRest bytes p (shape_stop.Shape n) other) (sym same) y)
shapes_once bytes p rest other (shape_stop.Depth at) (shape_stop.Depth place) a b x y =
    let both : Some (too_deep at) ≡ Some (too_deep place) = sym a ∙ b in let same : at ≡ place = cc both in
    x ∙ sym (subst (λ n. IsShapeRest bytes p (shape_stop.Depth n) other) (sym same) y)
shapes_once bytes p rest other (shape_stop.Shape at) (shape_stop.Depth place) a b x y = absurd (let e = sym a ∙ b in cc e)
shapes_once bytes p rest other (shape_stop.Depth at) (shape_stop.Shape place) a b x y = absurd (let e = sym a ∙ b in cc e)
shapes_once bytes p rest other shape_stop.NoMemory another a b x y = absurd x
shapes_once bytes p rest other (shape_stop.Shape at) shape_stop.NoMemory a b x y = absurd y
shapes_once bytes p rest other (shape_stop.Depth at) shape_stop.NoMemory a b x y = absurd y

shaped_or_stop : (bytes rest : List ℕ) (p : ProgramTree) (stop : ShapeStop) → first_fault p ≡ None → IsRefusal (first_fault p) stop → IsShapeRest bytes p stop rest → ⊥
shaped_or_stop bytes rest p (shape_stop.Shape at) none some x = cc (sym none ∙ some)
shaped_or_stop bytes rest p (shape_stop.Depth at) none some x = cc (sym none ∙ some)
shaped_or_stop bytes rest p shape_stop.NoMemory none some x = x

-- ---- schemes

-- the stop that an inference is told by
abbrev infer_stop_of : Inference → Option InferStop
infer_stop_of (all_schemes schemes) = None
infer_stop_of (stops_at_slots i) = Some (infer_stop.Slots i)
infer_stop_of (stops_at_range i at) = Some (infer_stop.PowerRange i at)
infer_stop_of (stops_at_units i row at) = Some (infer_stop.Units i at)
infer_stop_of (stops_at_not_general i row at) = Some (infer_stop.NotGeneral i at)

module _ (bytes : List ℕ) (raw : List DeclSyntax) (p : ProgramTree) where
  stop_told : (rest : List ℕ) (stop : InferStop) → IsInferred p (Err stop) → IsSchemeRest bytes raw p stop rest → infer_stop_of (infer p) ≡ Some stop
  stop_told rest (infer_stop.Units i at) h x = ap infer_stop_of h.1
  stop_told rest (infer_stop.NotGeneral i at) h x = ap infer_stop_of h.1
  stop_told rest (infer_stop.PowerRange i at) h x = ap infer_stop_of h
  stop_told rest (infer_stop.Slots i) h x = ap infer_stop_of h
  stop_told rest infer_stop.NoMemory h x = absurd x

  scheme_rest_once : (rest other : List ℕ) (stop : InferStop) → IsInferred p (Err stop) → IsSchemeRest bytes raw p stop rest → IsSchemeRest bytes raw p stop other → rest ≡ other
  scheme_rest_once rest other (infer_stop.Units i at) h (details, told, x) (others, also, y) =
      let same : details ≡ others = one_details bytes raw p (infer_stop.Units i at) details others told also in
      x ∙ ap (λ d. excerpt bytes at ++ d) same ∙ sym y
  scheme_rest_once rest other (infer_stop.NotGeneral i at) h (details, told, x) (others, also, y) =
      let same : details ≡ others = one_details bytes raw p (infer_stop.NotGeneral i at) details others told also in
      x ∙ ap (λ d. excerpt bytes at ++ d) same ∙ sym y
  scheme_rest_once rest other (infer_stop.PowerRange i at) h x y = x ∙ sym y
  scheme_rest_once rest other (infer_stop.Slots i) h x y = x ∙ sym y
  scheme_rest_once rest other infer_stop.NoMemory h x y = absurd x

-- ---- stage by stage

module _ (bytes : List ℕ) (rest other : List ℕ) where
  after_shapes : (raw : List DeclSyntax) (p : ProgramTree) → AfterShapes bytes raw p rest → AfterShapes bytes raw p other → rest ≡ other
  after_shapes raw p (stop, h, x) (another, g, y) =
      let both : Some another ≡ Some stop = sym (stop_told bytes raw p other another g y) ∙ stop_told bytes raw p rest stop h x in
      let same : another ≡ stop = cc both in
      scheme_rest_once bytes raw p rest other stop h x (subst (λ (s : InferStop). IsSchemeRest bytes raw p s other) same y)

  after_names : (raw : List DeclSyntax) (p : ProgramTree) → AfterNames bytes raw p rest → AfterNames bytes raw p other → rest ≡ other
  after_names raw p (inl (stop, a, x)) (inl (another, b, y)) = shapes_once bytes p rest other stop another a b x y
  after_names raw p (inl (stop, a, x)) (inr (none, b)) = absurd (shaped_or_stop bytes rest p stop none a x)
  after_names raw p (inr (none, a)) (inl (stop, b, y)) = absurd (shaped_or_stop bytes other p stop none b y)
  after_names raw p (inr (none, a)) (inr (also, b)) = after_shapes raw p a b

  after_tree : (raw : List DeclSyntax) → AfterTree bytes raw rest → AfterTree bytes raw other → rest ≡ other
  after_tree raw (inl (stop, a, x)) (inl (another, b, y)) = names_once bytes raw rest other stop another a b x y
  after_tree raw (inl (stop, a, x)) (inr (p, ok, b)) = absurd (let f = fault_told bytes raw rest stop a x in let e = sym ok ∙ f.1 in cc e)
  after_tree raw (inr (p, ok, a)) (inl (stop, b, y)) = absurd (let f = fault_told bytes raw other stop b y in let e = sym ok ∙ f.1 in cc e)
  after_tree raw (inr (p, ok, a)) (inr (q, also, b)) =
      let both : Ok q ≡ Ok p = sym also ∙ ok in let same : q ≡ p = cc both in
      after_names raw p a (subst (λ (x : ProgramTree). AfterNames bytes raw x other) same b)

  after_tokens : AnswersAreUnique → (tokens : List Token) → AfterTokens bytes tokens rest → AfterTokens bytes tokens other → rest ≡ other
  after_tokens one tokens (inl (stop, a, x)) (inl (another, b, y)) = parse_once bytes one tokens rest other stop another a b x y
  after_tokens one tokens (inl (stop, a, x)) (inr (raw, read, b)) = absurd (tree_or_stop bytes rest tokens raw stop read a x)
  after_tokens one tokens (inr (raw, read, a)) (inl (stop, b, y)) = absurd (tree_or_stop bytes other tokens raw stop read b y)
  after_tokens one tokens (inr (raw, read, a)) (inr (ds, also, b)) =
      let same : ds ≡ raw = read.only ds also.is in
      after_tree raw a (subst (λ (x : List DeclSyntax). AfterTree bytes x other) same b)

  pub one_rest : AnswersAreUnique → FollowsLine bytes rest → FollowsLine bytes other → rest ≡ other
  unfolding FollowsLine
  one_rest one (inl (stop, a, x)) (inl (another, b, y)) = text_once bytes rest other stop another a b x y
  one_rest one (inl (stop, a, x)) (inr (tokens, lexed, b)) = absurd (text_or_tokens bytes rest tokens stop lexed a x)
  one_rest one (inr (tokens, lexed, a)) (inl (stop, b, y)) = absurd (text_or_tokens bytes other tokens stop lexed b y)
  one_rest one (inr (tokens, lexed, a)) (inr (others, also, b)) =
      let same : others ≡ tokens = unique_tokens (chars bytes) others tokens also.1 lexed.1 in
      after_tokens one tokens a (subst (λ (ts : List Token). AfterTokens bytes ts other) same b)
