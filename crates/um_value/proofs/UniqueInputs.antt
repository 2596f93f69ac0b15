-- The text of an argument has one answer, memory aside.
use Rattle.std.proofs.Common.{◌≡◌, ℕ, ◌+◌, ◌≤◌, inl, inr, List, length, refl, sym, ap, ◌∙◌, subst, arith, Ok, Err}
use Rattle.std.specs.Prelude.{Option, Result}
use Rattle.std.specs.Str.{chars}
use Rattle.std.proofs.lemmas.Bool.{cases_lt}
use Rattle.std.proofs.lemmas.Option.{same_Some}
use Rattle.um_units.specs.PowerMap.{PowerMap}
use Rattle.um_syntax.specs.declared.token.Token.{Token}
use Rattle.um_syntax.specs.declared.token.LexStop.{LexStop}
use Rattle.um_syntax.specs.declared.token.LexStop.TheVariants as lex_stop
use Rattle.um_syntax.specs.Lexing.{HasTokens, HasFault}
use Rattle.um_syntax.proofs.Whole.{unique_tokens, unique_fault, tokens_or_fault}
use Rattle.um_tree.specs.TypeTree.{ShapeTree}
use Rattle.um_tree.specs.ProgramTree.{RecordTree}
use Rattle.um_tree.specs.Formed.{IsFormed}
use Rattle.um_tree.specs.declared.value.Input.{Input}
use Rattle.um_reader.proofs.Readers.{unambiguous}
use Rattle.um_reader.proofs.Texts.{within_before, within_front}
use Rattle.um_measures.specs.Known.{Known, measure_unit}
use Rattle.um_unit_texts.specs.UnitStops.{greatest_height, place_of}
use Rattle.um_value.specs.declared.stop.InputStop.{InputStop}
use Rattle.um_value.specs.declared.stop.InputStop.TheVariants as stop
use Rattle.um_value.specs.ValueSyntax.{ValueSyntax}
use Rattle.um_value.specs.ValueGrammar.{IsValueText, IsShapeIn, value_height}
use Rattle.um_value.specs.ValueNames.{name_fault, range_fault, input_of}
use Rattle.um_value.specs.ValueStops.{StopsAtValue}
use Rattle.um_value.specs.InputRead.{HasFaultAt, HasValueText, HasNoValueText, IsInputOf}
use Rattle.um_value.specs.Laws.{AreSameInput, InputsAreUnique}
use Rattle.um_value.proofs.ValueLaws.{values_read}

-- ---- the characters

abbrev place_of_stop : LexStop → ℕ
place_of_stop (lex_stop.BadChar at) = at
place_of_stop (lex_stop.NumberRange at) = at
place_of_stop (lex_stop.PowerText at) = at
place_of_stop lex_stop.NoMemory = 0

fault_there : (cs : List ℕ) (at : ℕ) → HasFaultAt cs at → (fault : LexStop) × HasFault cs fault × (place_of_stop fault ≡ at)
fault_there cs at (inl h) = (lex_stop.BadChar at, h, refl)
fault_there cs at (inr (inl h)) = (lex_stop.NumberRange at, h, refl)
fault_there cs at (inr (inr h)) = (lex_stop.PowerText at, h, refl)

one_fault : (cs : List ℕ) (at other : ℕ) → HasFaultAt cs at → HasFaultAt cs other → at ≡ other
one_fault cs at other a b =
    let f = fault_there cs at a in
    let g = fault_there cs other b in
    sym f.2 ∙ ap place_of_stop (unique_fault cs f.0 g.0 f.1 g.1) ∙ g.2

fault_or_tokens : (cs : List ℕ) (at : ℕ) (tokens : List Token) → HasFaultAt cs at → HasTokens cs tokens → ⊥
fault_or_tokens cs at tokens a b = let f = fault_there cs at a in tokens_or_fault cs tokens f.0 b f.1

-- ---- the tokens

module _ (records : List RecordTree) (s : ShapeTree) (tokens : List Token) where
  abbrev Is : List Token → ValueSyntax → Type 0
  Is = IsValueText records s

  stop_before : (j k : ℕ) → StopsAtValue records s tokens j → StopsAtValue records s tokens k → j ≤ k
  stop_before j k a b =
      elim (cases_lt k j) [
        | inl lt ↦ let within = a.within in absurd (b.through (omega (arith, within, lt)) (within_before Is value_height greatest_height tokens (k + 1) j (omega (arith, lt)) a.before))
        | inr le ↦ le
      ]

  one_stop : (j k : ℕ) → StopsAtValue records s tokens j → StopsAtValue records s tokens k → j ≡ k
  one_stop j k a b = let low = stop_before j k a b in let high = stop_before k j b a in omega (arith, low, high)

  value_or_stop : (v : ValueSyntax) (k : ℕ) → IsValueText records s tokens v → value_height v ≤ greatest_height → StopsAtValue records s tokens k → ⊥
  value_or_stop v k is low b =
      elim (cases_lt k (length tokens)) [
        | inl lt ↦ b.through lt (within_front Is value_height greatest_height tokens v (k + 1) is low)
        | inr le ↦ let within = b.within in b.none (omega (arith, within, le)) v is low
      ]

-- ---- the text

module _ (known : Known) (s : ShapeTree) (text : List ℕ) where
  pub fault_or_value : (at : ℕ) (v : ValueSyntax) → HasFaultAt (chars text) at → HasValueText known s text v → ⊥
  fault_or_value at v a b = fault_or_tokens (chars text) at b.tokens a b.lexed

  fault_or_none : (at other : ℕ) → HasFaultAt (chars text) at → HasNoValueText known s text other → ⊥
  fault_or_none at other a b = fault_or_tokens (chars text) at b.tokens a b.lexed

  pub value_or_none : (v : ValueSyntax) (at : ℕ) → HasValueText known s text v → HasNoValueText known s text at → ⊥
  value_or_none v at a b =
      let same = unique_tokens (chars text) b.tokens a.tokens b.lexed a.lexed in
      value_or_stop known.program.records s a.tokens v b.k a.is a.low (subst (λ ts. StopsAtValue known.program.records s ts b.k) same b.stops)

  one_none : (at other : ℕ) → HasNoValueText known s text at → HasNoValueText known s text other → at ≡ other
  one_none at other a b =
      let same = unique_tokens (chars text) b.tokens a.tokens b.lexed a.lexed in
      let k = one_stop known.program.records s a.tokens a.k b.k a.stops (subst (λ ts. StopsAtValue known.program.records s ts b.k) same b.stops) in
      a.place ∙ ap (λ n. place_of a.tokens n (length text)) k ∙ ap (λ ts. place_of ts b.k (length text)) (sym same) ∙ sym b.place

  module _ (formed : IsFormed known.program) (over : IsShapeIn known.program.records s) where
    abbrev measures : List ℕ → Option PowerMap
    measures = measure_unit known

    pub one_value : (v u : ValueSyntax) → HasValueText known s text v → HasValueText known s text u → v ≡ u
    one_value v u a b =
        let same = unique_tokens (chars text) b.tokens a.tokens b.lexed a.lexed in
        unambiguous (values_read known.program formed s over) a.tokens v u a.is (subst (λ ts. IsValueText known.program.records s ts u) same b.is)

    one_input : (one other : Result Input InputStop) → IsInputOf known s text one → IsInputOf known s text other → AreSameInput one other
    one_input (Err stop.NoMemory) other a b = tt
    one_input (Ok i) (Ok j) a b = a.4 ∙ ap (input_of measures) (one_value a.0 b.0 a.1 b.1) ∙ sym b.4
    one_input (Ok i) (Err (stop.Text at)) a b = absurd (fault_or_value at a.0 b a.1)
    one_input (Ok i) (Err (stop.Shape at)) a b = absurd (value_or_none a.0 at a.1 b)
    one_input (Ok i) (Err (stop.Names at)) a b = absurd (cc (sym a.2 ∙ ap (name_fault measures) (one_value a.0 b.0 a.1 b.1) ∙ b.2))
    one_input (Ok i) (Err (stop.PowerRange at)) a b = absurd (cc (sym a.3 ∙ ap (range_fault measures) (one_value a.0 b.0 a.1 b.1) ∙ b.3))
    one_input (Ok i) (Err stop.NoMemory) a b = tt
    one_input (Err (stop.Text at)) (Ok j) a b = absurd (fault_or_value at b.0 a b.1)
    one_input (Err (stop.Text at)) (Err (stop.Text place)) a b = ap (λ k. stop.Text k) (one_fault (chars text) at place a b)
    one_input (Err (stop.Text at)) (Err (stop.Shape place)) a b = absurd (fault_or_none at place a b)
    one_input (Err (stop.Text at)) (Err (stop.Names place)) a b = absurd (fault_or_value at b.0 a b.1)
    one_input (Err (stop.Text at)) (Err (stop.PowerRange place)) a b = absurd (fault_or_value at b.0 a b.1)
    one_input (Err (stop.Text at)) (Err stop.NoMemory) a b = tt
    one_input (Err (stop.Shape at)) (Ok j) a b = absurd (value_or_none b.0 at b.1 a)
    one_input (Err (stop.Shape at)) (Err (stop.Text place)) a b = absurd (fault_or_none place at b a)
    one_input (Err (stop.Shape at)) (Err (stop.Shape place)) a b = ap (λ k. stop.Shape k) (one_none at place a b)
    one_input (Err (stop.Shape at)) (Err (stop.Names place)) a b = absurd (value_or_none b.0 at b.1 a)
    one_input (Err (stop.Shape at)) (Err (stop.PowerRange place)) a b = absurd (value_or_none b.0 at b.1 a)
    one_input (Err (stop.Shape at)) (Err stop.NoMemory) a b = tt
    one_input (Err (stop.Names at)) (Ok j) a b = absurd (cc (sym b.2 ∙ ap (name_fault measures) (one_value b.0 a.0 b.1 a.1) ∙ a.2))
    one_input (Err (stop.Names at)) (Err (stop.Text place)) a b = absurd (fault_or_value place a.0 b a.1)
    one_input (Err (stop.Names at)) (Err (stop.Shape place)) a b = absurd (value_or_none a.0 place a.1 b)
    one_input (Err (stop.Names at)) (Err (stop.Names place)) a b =
        ap (λ k. stop.Names k) (same_Some at place (sym a.2 ∙ ap (name_fault measures) (one_value a.0 b.0 a.1 b.1) ∙ b.2))
    one_input (Err (stop.Names at)) (Err (stop.PowerRange place)) a b = absurd (cc (sym b.2 ∙ ap (name_fault measures) (one_value b.0 a.0 b.1 a.1) ∙ a.2))
    one_input (Err (stop.Names at)) (Err stop.NoMemory) a b = tt
    one_input (Err (stop.PowerRange at)) (Ok j) a b = absurd (cc (sym b.3 ∙ ap (range_fault measures) (one_value b.0 a.0 b.1 a.1) ∙ a.3))
    one_input (Err (stop.PowerRange at)) (Err (stop.Text place)) a b = absurd (fault_or_value place a.0 b a.1)
    one_input (Err (stop.PowerRange at)) (Err (stop.Shape place)) a b = absurd (value_or_none a.0 place a.1 b)
    one_input (Err (stop.PowerRange at)) (Err (stop.Names place)) a b = absurd (cc (sym a.2 ∙ ap (name_fault measures) (one_value a.0 b.0 a.1 b.1) ∙ b.2))
    one_input (Err (stop.PowerRange at)) (Err (stop.PowerRange place)) a b =
        ap (λ k. stop.PowerRange k) (same_Some at place (sym a.3 ∙ ap (range_fault measures) (one_value a.0 b.0 a.1 b.1) ∙ b.3))
    one_input (Err (stop.PowerRange at)) (Err stop.NoMemory) a b = tt

pub inputs_are_unique : InputsAreUnique
inputs_are_unique known s text one other formed over a b = one_input known s text formed over one other a b
