-- The text of an argument is an input of its shape, or it is refused; so the texts of a call are, one by one.
use Rattle.std.proofs.Common.{◌≡◌, ◌≢◌, ◌⊎◌, inl, inr, ℕ, suc, List, [], ◌∷◌, length, Option, Some, None, refl, arith}
use Rattle.std.specs.Prelude.{Result, Ok, Err}
use Rattle.std.specs.Str.{chars}
use Rattle.um_syntax.specs.declared.token.Token.{Token}
use Rattle.um_syntax.specs.declared.token.LexStop.{LexStop}
use Rattle.um_syntax.specs.declared.token.LexStop.TheVariants as lex
use Rattle.um_syntax.specs.Lexing.{HasTokens, HasFault}
use Rattle.um_syntax.specs.Laws.{EachTextIsAnswered}
use Rattle.um_tree.specs.TypeTree.{ShapeTree}
use Rattle.um_tree.specs.ValueTree.{InputTree}
use Rattle.um_tree.specs.Formed.{IsFormed}
use Rattle.um_reader.specs.ReadTo.{ReadAll}
use Rattle.um_reader.specs.declared.reading.ReadStop.{ReadStop}
use Rattle.um_reader.specs.declared.reading.ReadStop.TheVariants as read_stop
use Rattle.um_parse.proofs.Ends.{each_has_reading}
use Rattle.um_unit_texts.specs.UnitStops.{greatest_height, place_of}
use Rattle.um_measures.specs.Known.{Known, measure_unit}
use Rattle.um_value.specs.declared.stop.InputStop.{InputStop}
use Rattle.um_value.specs.declared.stop.InputStop.TheVariants as stop
use Rattle.um_value.specs.ValueSyntax.{ValueSyntax}
use Rattle.um_value.specs.ValueGrammar.{IsValueText, IsShapeIn, value_height}
use Rattle.um_value.specs.ValueNames.{name_fault, range_fault, input_of}
use Rattle.um_value.specs.ValueMachine.{Need, Begun, Negative, Counted, InNote, NeedName, NeedEqual, Have, NoValue, ValueState, machine_of_values}
use Rattle.um_value.specs.InputRead.{HasValueText, IsInputOf}
use Rattle.um_value.proofs.ValueLaws.{values_read}
use Rattle.um_run.specs.Calls.{IsInput, AreInputs, IsFirstRefused}
use Rattle.um_all_answers.proofs.Texts.{no_memory}

is_nothing : (s : ValueState) → (s ≡ NoValue) ⊎ (s ≢ NoValue)
is_nothing NoValue = inl refl
is_nothing (Need frames shape) = inr (λ e. cc e)
is_nothing (Begun frames item) = inr (λ e. cc e)
is_nothing (Negative frames) = inr (λ e. cc e)
is_nothing (Counted frames at negative value) = inr (λ e. cc e)
is_nothing (InNote frames at negative value note) = inr (λ e. cc e)
is_nothing (NeedName frames field) = inr (λ e. cc e)
is_nothing (NeedEqual frames shape) = inr (λ e. cc e)
is_nothing (Have frames value) = inr (λ e. cc e)

module _ (each : EachTextIsAnswered) (known : Known) (formed : IsFormed known.program) where
  -- ---- one text
  module _ (s : ShapeTree) (over : IsShapeIn known.program.records s) (text : List ℕ) where
    abbrev pub InputOrRefusal : Type 0
    InputOrRefusal = ((input : InputTree) × IsInput known s text input) ⊎ ((refusal : InputStop) × (refusal ≢ stop.NoMemory) × IsInputOf known s text (Err refusal))

    by_range : (v : ValueSyntax) → HasValueText known s text v → name_fault (measure_unit known) v ≡ None → (o : Option ℕ) → range_fault (measure_unit known) v ≡ o → InputOrRefusal
    by_range v has names None e = inl (input_of (measure_unit known) v, (v, has, names, e, refl))
    by_range v has names (Some at) e = inr (stop.PowerRange at, (λ h. cc h), (v, has, names, e))

    by_names : (v : ValueSyntax) → HasValueText known s text v → (o : Option ℕ) → name_fault (measure_unit known) v ≡ o → InputOrRefusal
    by_names v has None e = by_range v has e (range_fault (measure_unit known) v) refl
    by_names v has (Some at) e = inr (stop.Names at, (λ h. cc h), (v, has, e))

    module _ (tokens : List Token) (lexed : HasTokens (chars text) tokens) where
      by_reading : (r : Result ValueSyntax ReadStop) → r ≢ Err read_stop.NoMemory → ReadAll (IsValueText known.program.records s) value_height greatest_height (λ (v : ValueSyntax). v) tokens r → InputOrRefusal
      by_reading (Ok v) some is = let has : HasValueText known s text v = record { tokens = tokens; lexed = lexed; is = is.0; low = is.1 } in by_names v has (name_fault (measure_unit known) v) refl
      by_reading (Err (read_stop.Syntax k)) some fails =
          inr (
            stop.Shape (place_of tokens k (length text)),
            (λ h. cc h),
            record {
              tokens = tokens;
              lexed = lexed;
              k = k;
              place = refl;
              stops = record {
                within = fails.within;
                before = fails.before;
                through = λ below begins. fails.through below (begins.0, begins.1, begins.2);
                none = λ all v is low. fails.none all v is;
              };
            },
          )
      by_reading (Err (read_stop.High k)) some high =
          inr (
            stop.Shape (place_of tokens k (length text)),
            (λ h. cc h),
            record {
              tokens = tokens;
              lexed = lexed;
              k = k;
              place = refl;
              stops = record {
                within = (let below = high.within in omega (arith, below));
                before = high.before;
                through = λ below begins. high.none begins;
                none = λ all v is low. (let below = high.within in absurd (omega (arith, below, all)));
              };
            },
          )
      by_reading (Err read_stop.NoMemory) some is = absurd (some refl)

    by_fault : (fault : LexStop) → HasFault (chars text) fault → InputOrRefusal
    by_fault (lex.BadChar at) is = inr (stop.Text at, (λ h. cc h), inl is)
    by_fault (lex.NumberRange at) is = inr (stop.Text at, (λ h. cc h), inr (inl is))
    by_fault (lex.PowerText at) is = inr (stop.Text at, (λ h. cc h), inr (inr is))
    by_fault lex.NoMemory (tokens, refuses) = absurd (no_memory [] _ _ tokens refuses)

    by_text : ((tokens : List Token) × HasTokens (chars text) tokens) ⊎ ((fault : LexStop) × HasFault (chars text) fault) → InputOrRefusal
    by_text (inl (tokens, has)) =
        let (r, some, is) = each_has_reading (machine_of_values known.program.records s) is_nothing (values_read known.program formed s over) greatest_height (λ e. cc e) (omega arith) tokens in
        by_reading tokens has r some is
    by_text (inr (fault, is)) = by_fault fault is

    pub input_or_refusal : InputOrRefusal
    input_or_refusal = by_text (each (chars text))

  -- ---- all texts

  -- the shapes name records of the program
  abbrev pub AreShapesIn : List ShapeTree → Type 0
  AreShapesIn [] = Unit {0}
  AreShapesIn (s ∷ shapes) = IsShapeIn known.program.records s × AreShapesIn shapes

  abbrev pub InputsOrRefusal : List ShapeTree → List (List ℕ) → Type 0
  InputsOrRefusal shapes texts =
      ((inputs : List InputTree) × AreInputs known shapes texts inputs) ⊎ ((k : ℕ) × (refusal : InputStop) × IsFirstRefused known shapes texts k refusal)

  one_more : (s : ShapeTree) (shapes : List ShapeTree) (text : List ℕ) (texts : List (List ℕ)) (input : InputTree) → IsInput known s text input → InputsOrRefusal shapes texts → InputsOrRefusal (s ∷ shapes) (text ∷ texts)
  one_more s shapes text texts input is (inl (inputs, are)) = inl (input ∷ inputs, (is, are))
  one_more s shapes text texts input is (inr (k, refusal, first)) =
      inr (
        suc k,
        refusal,
        record {
          before = input ∷ first.before;
          read = (is, first.read);
          shape = first.shape;
          has_shape = first.has_shape;
          text = first.text;
          has_text = first.has_text;
          refused = first.refused;
          cause = first.cause;
        },
      )

  pub inputs_or_refusal : (shapes : List ShapeTree) → AreShapesIn shapes → (texts : List (List ℕ)) → length texts ≡ length shapes → InputsOrRefusal shapes texts
  inputs_or_refusal [] over [] same = inl ([], tt)
  inputs_or_refusal [] over (text ∷ texts) same = absurd (omega (arith, same))
  inputs_or_refusal (s ∷ shapes) over [] same = absurd (omega (arith, same))
  inputs_or_refusal (s ∷ shapes) over (text ∷ texts) same =
      elim (input_or_refusal s over.0 text) [
        | inl w ↦ one_more s shapes text texts w.0 w.1 (inputs_or_refusal shapes over.1 texts (omega (arith, same)))
        | inr w ↦ inr (0, w.0, record { before = []; read = tt; shape = s; has_shape = refl; text = text; has_text = refl; refused = w.2; cause = w.1 })
      ]
