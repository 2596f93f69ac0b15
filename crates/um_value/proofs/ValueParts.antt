-- What the parts of `read_value` come to.
use Rattle.std.proofs.Common.{◌≡◌, ℕ, List, [], length, Option, sym, subst, arith, Ok, Err}
use Rattle.std.specs.Prelude.{All, IfOk, Result}
use Rattle.um_syntax.specs.declared.token.Token.{Token}
use Rattle.um_tree.specs.declared.value.Input.{Input}
use Rattle.um_tree.specs.TypeTree.{ShapeTree}
use Rattle.um_tree.specs.ProgramTree.{RecordTree}
use Rattle.um_tree.specs.ValueTree.{InputTree, input_tree, without_units}
use Rattle.um_tree.specs.InputType.{ValueHas}
use Rattle.um_tree.specs.Formed.{IsUnitIn, IsFormedInput}
use Rattle.um_measures.specs.declared.abbreviation.Abbreviation.{Abbreviation}
use Rattle.um_measures.specs.Known.{Known, measure_unit}
use Rattle.um_reader.specs.Stops.{Fails, HighAt}
use Rattle.um_unit_texts.specs.UnitStops.{greatest_height}
use Rattle.um_units.specs.PowerMap.{PowerMap}
use Rattle.um_value.specs.ValueSyntax.{value_syntax}
use Rattle.um_value.specs.ValueGrammar.{IsValueText, value_height}
use Rattle.um_value.specs.ValueStops.{StopsAtValue}
use Rattle.um_value.specs.InputRead.{HasValueText, IsInputOf}
use Rattle.um_value.specs.ReadingParts.{IsLexed, IsRawOf, IsNamed}
use Rattle.um_value.specs.declared.raw.RawValue.{RawValue}
use Rattle.um_value.specs.declared.stop.InputStop.{InputStop}
use Rattle.um_value.specs.declared.stop.InputStop.TheVariants as stop
use Rattle.um_value.proofs.ValueShapes.{has_shape}
use Rattle.um_value.proofs.ValueFormed.{input_formed, measures_closed}

pub fails_stops : (records : List RecordTree) (s : ShapeTree) (tokens : List Token) (k : ℕ) → Fails (IsValueText records s) value_height greatest_height tokens k → StopsAtValue records s tokens k
fails_stops records s tokens k f = record { within = f.within; before = f.before; through = λ lt b. f.through lt (b.0, b.1, b.2); none = λ e v is low. f.none e v is }

pub high_stops : (records : List RecordTree) (s : ShapeTree) (tokens : List Token) (k : ℕ) → HighAt (IsValueText records s) value_height greatest_height tokens k → StopsAtValue records s tokens k
high_stops records s tokens k h =
    let within = h.within in
    record { within = omega (arith, within); before = h.before; through = λ lt b. h.none b; none = λ e v is low. absurd (omega (arith, within, e)) }

-- measures that stand for the same
pub same_measures : (m n : List ℕ → Option PowerMap) → ((x : List ℕ) → m x ≡ n x) → m ≡ n
same_measures m n same = λ i x. same x i

-- ---- the parts together

module _ (known : Known) (s : ShapeTree) (text : List ℕ) (tokens : List Token) (raw : RawValue) (lexed : IsLexed text (Ok tokens)) (read : IsRawOf known.program.records s tokens (length text) (Ok raw)) where
  has_text : HasValueText known s text (value_syntax raw)
  has_text = record { tokens = tokens; lexed = lexed; is = read.0; low = read.1 }

  pub read_input : (result : Result Input InputStop) → IsNamed (measure_unit known) (value_syntax raw) result → IsInputOf known s text result
  read_input (Ok input) n = (value_syntax raw, has_text, n.0, n.1, n.2)
  read_input (Err (stop.Text at)) n = absurd n
  read_input (Err (stop.Shape at)) n = absurd n
  read_input (Err (stop.Names at)) n = (value_syntax raw, has_text, n)
  read_input (Err (stop.PowerRange at)) n = (value_syntax raw, has_text, n.0, n.1)
  read_input (Err stop.NoMemory) n = tt

  pub read_shaped : (result : Result Input InputStop) → IsNamed (measure_unit known) (value_syntax raw) result → IfOk result (λ input. ValueHas known.program.records (without_units (input_tree input)) s)
  read_shaped (Ok input) n =
      subst (λ (i : InputTree). ValueHas known.program.records (without_units i) s) (sym n.2) (has_shape known.program.records (measure_unit known) (value_syntax raw) s tokens [] read.0)
  read_shaped (Err stop) n = tt

  pub read_formed : (result : Result Input InputStop) → IsNamed (measure_unit known) (value_syntax raw) result → All (λ (short : Abbreviation). IsUnitIn (length known.program.bases) 0 short.unit) known.shorts
      → IfOk result (λ input. IsFormedInput (length known.program.bases) (input_tree input))
  read_formed (Ok input) n all =
      subst (λ (i : InputTree). IsFormedInput (length known.program.bases) i) (sym n.2) (input_formed (measure_unit known) (length known.program.bases) (measures_closed known all) (value_syntax raw) n.0 n.1)
  read_formed (Err stop) n all = tt
