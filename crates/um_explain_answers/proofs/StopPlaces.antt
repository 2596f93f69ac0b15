-- Where a text is refused, a character begins or the text ends.
use Rattle.std.proofs.Common.{◌≡◌, ℕ, List, length, inl, inr, Some, Ok, Err, subst, sym, arith}
use Rattle.std.specs.Prelude.{slice_get}
use Rattle.std.specs.Str.{IsUtf8}
use Rattle.std.proofs.lemmas.List.{take_all}
use Rattle.std.proofs.lemmas.Option.{slice_get_within}
use Rattle.std.proofs.lemmas.Str.{IsUtf8-nil}
use Rattle.std.proofs.Math.Seq.{drop-length}
use Rattle.um_syntax.specs.declared.token.Token.{Token}
use Rattle.um_syntax.specs.declared.token.LexStop.TheVariants as lex_stop
use Rattle.um_syntax.specs.declared.token.TextStop.{TextStop}
use Rattle.um_syntax.specs.declared.token.TextStop.TheVariants as text_stop
use Rattle.um_syntax.specs.Feeding.{IsTextAnswer}
use Rattle.um_types.specs.declared.parse.ParseStop.{ParseStop}
use Rattle.um_types.specs.declared.parse.ParseStop.TheVariants as parse_stop
use Rattle.um_tree.specs.RawTree.{DeclSyntax}
use Rattle.um_tree.specs.ProgramTree.{FunctionTree, ProgramTree}
use Rattle.um_parse.specs.Parsed.{Parsed}
use Rattle.um_measures.specs.declared.stop.NameStop.{NameStop}
use Rattle.um_measures.specs.declared.stop.NameStop.TheVariants as name_stop
use Rattle.um_measures.specs.Stops.{IsFirst}
use Rattle.um_names.specs.Resolution.{resolved_program}
use Rattle.um_shape.specs.declared.stop.ShapeStop.{ShapeStop}
use Rattle.um_shape.specs.declared.stop.ShapeStop.TheVariants as shape_stop
use Rattle.um_shape.specs.FirstFault.{wrong_shape, too_deep, first_fault}
use Rattle.um_shape.specs.ShapedProgram.{IsRefusal}
use Rattle.um_infer.specs.declared.stop.InferStop.{InferStop}
use Rattle.um_infer.specs.declared.stop.InferStop.TheVariants as infer_stop
use Rattle.um_infer.specs.Answers.{IsInferred, SaysOfTypings}
use Rattle.um_infer.specs.Inference.{Inference, infer}
use Rattle.um_front.specs.Places.{IsPlace, BeginsToken, BeginsTokenOrEnds, EachProgramPlace, NamePlace, ParsePlace}
use Rattle.um_front.proofs.TokenPlaces.{lexical_faults_have_places}
use Rattle.um_front.proofs.BeginningTokens.{tokens_begin_characters, syntax_faults_begin_tokens, programs_begin_tokens, name_faults_begin_tokens}
use Rattle.um_front.specs.Stages.{IsReadText}
use Rattle.um_front.proofs.RowPlaces.{InferenceHolds, inference_holds, function_at}
use Rattle.um_front.proofs.ShapePlaces.{first_fault_holds}
use Rattle.um_explain_answers.specs.Added.{IsTextPlace, ShapePlace, InferPlace}
use Rattle.um_explain_answers.specs.SchemeRest.{function_place}

pub text_place : (bytes : List ℕ) (stop : TextStop) → IsTextAnswer bytes (Err stop) → IsTextPlace bytes stop
text_place bytes (text_stop.Utf8 at) answer = let short = answer.short in (omega (arith, short), answer.front)
text_place bytes (text_stop.BadChar at) answer = lexical_faults_have_places bytes (lex_stop.BadChar at) answer.0 answer.1
text_place bytes (text_stop.NumberRange at) answer = lexical_faults_have_places bytes (lex_stop.NumberRange at) answer.0 answer.1
text_place bytes (text_stop.PowerText at) answer = lexical_faults_have_places bytes (lex_stop.PowerText at) answer.0 answer.1
text_place bytes text_stop.NoMemory answer = tt

module _ (bytes : List ℕ) (tokens : List Token) (lexed : IsTextAnswer bytes (Ok tokens)) where
  token_place : (at : ℕ) → BeginsToken tokens at → IsPlace bytes at
  token_place at begins = tokens_begin_characters bytes tokens at lexed begins

  end_place : IsPlace bytes (length bytes)
  end_place = record {
    within = omega arith;
    before = subst IsUtf8 (sym (take_all (length bytes) bytes (omega arith))) lexed.0;
    after = subst IsUtf8 (sym (drop-length bytes)) IsUtf8-nil;
  }

  token_or_end : (at : ℕ) → BeginsTokenOrEnds tokens (length bytes) at → IsPlace bytes at
  token_or_end at (inl begins) = token_place at begins
  token_or_end at (inr ends) = subst (IsPlace bytes) (sym ends) end_place

  pub parse_place : (stop : ParseStop) → Parsed tokens (length bytes) (Err stop) → ParsePlace (IsPlace bytes) stop
  parse_place stop refused = by stop (syntax_faults_begin_tokens tokens (length bytes) stop refused)
    where
      by : (s : ParseStop) → ParsePlace (BeginsTokenOrEnds tokens (length bytes)) s → ParsePlace (IsPlace bytes) s
      by (parse_stop.Syntax at) h = token_or_end at h
      by (parse_stop.Limit kind at) h = token_or_end at h
      by parse_stop.NoMemory h = tt

module _ (bytes : List ℕ) (raw : List DeclSyntax) (read : IsReadText bytes raw) where
  token : (at : ℕ) → BeginsToken read.tokens at → IsPlace bytes at
  token at begins = token_place bytes read.tokens read.lexed at begins

  pub name_place : (stop : NameStop) → IsFirst (resolved_program raw) stop → NamePlace (IsPlace bytes) stop
  name_place stop first = by stop (name_faults_begin_tokens read.tokens raw stop read.read.is first)
    where
      by : (s : NameStop) → NamePlace (BeginsToken read.tokens) s → NamePlace (IsPlace bytes) s
      by (name_stop.Unknown at) h = token at h
      by (name_stop.Twice at) h = token at h
      by (name_stop.WrongCount at) h = token at h
      by (name_stop.Hole at) h = token at h
      by (name_stop.Range at) h = token at h
      by name_stop.NoMemory h = tt

  module _ (p : ProgramTree) (resolved : resolved_program raw ≡ Ok p) where
    places : EachProgramPlace (BeginsToken read.tokens) p
    places = programs_begin_tokens read.tokens raw p read.read.is resolved

    pub shape_place : (stop : ShapeStop) → IsRefusal (first_fault p) stop → ShapePlace (IsPlace bytes) stop
    shape_place (shape_stop.Shape at) fault = token at (first_fault_holds (BeginsToken read.tokens) p (wrong_shape at) places fault)
    shape_place (shape_stop.Depth at) fault = token at (first_fault_holds (BeginsToken read.tokens) p (too_deep at) places fault)
    shape_place shape_stop.NoMemory fault = tt

    inferred : {r : Inference} → infer p ≡ r → InferenceHolds (BeginsToken read.tokens) r
    inferred e = subst (λ (x : Inference). InferenceHolds (BeginsToken read.tokens) x) e (inference_holds (BeginsToken read.tokens) p places)

    function_begins : (i : ℕ) (f : FunctionTree) → slice_get p.functions i ≡ Some f → IsPlace bytes (function_place (slice_get p.functions i))
    function_begins i f is = rw is (token f.at (function_at (BeginsToken read.tokens) p.functions i f places.functions is).0)

    pub infer_place : (stop : InferStop) → IsInferred p (Err stop) → SaysOfTypings p (Err stop) → InferPlace (IsPlace bytes) p stop
    infer_place (infer_stop.Units i at) h says = token at (inferred h.1)
    infer_place (infer_stop.NotGeneral i at) h says = token at (inferred h.1)
    infer_place (infer_stop.PowerRange i at) h says = token at (inferred h)
    infer_place (infer_stop.Slots i) h says = (slice_get_within p.functions i says.function says.declared, function_begins i says.function says.declared)
    infer_place infer_stop.NoMemory h says = tt
