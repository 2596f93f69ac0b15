-- The loop over the tokens of a value text: one turn where it ends, and its end.
use Rattle.std.proofs.Common.{◌≡◌, ℕ, ◌<◌, List, length, get_or, Some, None, Result, Ok, Err, sym, ap, subst, ◌∙◌, arith, inl, inr, ◌⊎◌}
use Rattle.um_syntax.specs.declared.token.Token.{Token}
use Rattle.um_tree.specs.TypeTree.{ShapeTree}
use Rattle.um_tree.specs.ProgramTree.{ProgramTree}
use Rattle.um_tree.specs.Formed.{IsFormed}
use Rattle.um_reader.specs.Machine.{Machine}
use Rattle.um_reader.specs.Takes.{Takes}
use Rattle.um_reader.specs.RunTo.{RunAll}
use Rattle.um_reader.specs.declared.reading.ReadStop.TheVariants as read_stop
use Rattle.um_reader.specs.declared.taken.Taken.TheVariants as taken
use Rattle.um_reader.proofs.Loop.{Stands, through, too_high}
use Rattle.um_reader.proofs.Answers.{reads_all}
use Rattle.um_unit_texts.specs.UnitStops.{greatest_height}
use Rattle.um_unit_texts.proofs.TokenPlaces.{place_at, place_behind}
use Rattle.um_value.specs.declared.raw.RawValue.{RawValue}
use Rattle.um_value.specs.declared.stop.InputStop.{InputStop}
use Rattle.um_value.specs.declared.stop.InputStop.TheVariants as stop
use Rattle.um_value.specs.ValueSyntax.{ValueSyntax, value_syntax}
use Rattle.um_value.specs.ValueGrammar.{IsShapeIn}
use Rattle.um_value.specs.ValueStops.{StopsAtValue}
use Rattle.um_value.specs.ValueMachine.{machine_of_values}
use Rattle.um_value.specs.ReadingParts.{RunAt, IsRawOf}
use Rattle.um_value.proofs.ValueLaws.{values_read}
use Rattle.um_value.proofs.ValueParts.{fails_stops, high_stops}

module _ {S : Type 0} (m : Machine S Token ValueSyntax) (tokens : List Token) (end : ℕ) where
  -- a token is refused
  pub refused_at : (i : ℕ) (x : Token) (old new : S) → i < length tokens → get_or tokens i x ≡ x → Stands m greatest_height tokens i old → Takes m greatest_height old x taken.Stops new → RunAt m tokens end (Err (stop.Shape x.start))
  refused_at i x old new lt same s t =
      let refused = sym (through m greatest_height tokens i x old lt same s.1) ∙ t.0 in
      (i, sym (place_at tokens i end x lt same), inl (s.0, (λ below. refused), (λ all. absurd (omega (arith, lt, all)))))

  -- a token is too high
  pub high_at : (i : ℕ) (x : Token) (old new : S) → i < length tokens → get_or tokens i x ≡ x → Stands m greatest_height tokens i old → Takes m greatest_height old x taken.High new → RunAt m tokens end (Err (stop.Shape x.start))
  high_at i x old new lt same s t = (i, sym (place_at tokens i end x lt same), inr (too_high m greatest_height tokens i x old new lt same s t))

  -- all tokens are read
  pub all_read : (i : ℕ) (state : S) (v : RawValue) → i ≡ length tokens → Stands m greatest_height tokens i state → Some (value_syntax v) ≡ m.finish state → RunAt m tokens end (Ok v)
  all_read i state v all s found =
      let whole = subst (λ k. Stands m greatest_height tokens k state) all s in
      (whole.0, ap m.finish (sym whole.1) ∙ sym found)

  -- all tokens are read, and are none
  pub none_read : (i : ℕ) (state : S) → i ≡ length tokens → Stands m greatest_height tokens i state → None ≡ m.finish state → RunAt m tokens end (Err (stop.Shape end))
  none_read i state all s found =
      let whole = subst (λ k. Stands m greatest_height tokens k state) all s in
      (length tokens, sym (place_behind tokens end), inl (whole.0, (λ below. absurd (omega (arith, below))), (λ e. ap m.finish (sym whole.1) ∙ sym found)))

-- what the loop answers, by the grammar
module _ (p : ProgramTree) (formed : IsFormed p) (s : ShapeTree) (is : IsShapeIn p.records s) (tokens : List Token) (end : ℕ) where
  stops_at : (k : ℕ) → RunAll (machine_of_values p.records s) greatest_height value_syntax tokens (Err (read_stop.Syntax k)) ⊎ RunAll (machine_of_values p.records s) greatest_height value_syntax tokens (Err (read_stop.High k))
      → StopsAtValue p.records s tokens k
  stops_at k (inl r) = fails_stops p.records s tokens k (reads_all (values_read p formed s is) greatest_height tokens value_syntax (Err (read_stop.Syntax k)) r)
  stops_at k (inr r) = high_stops p.records s tokens k (reads_all (values_read p formed s is) greatest_height tokens value_syntax (Err (read_stop.High k)) r)

  pub raw_of : (answer : Result RawValue InputStop) → RunAt (machine_of_values p.records s) tokens end answer → IsRawOf p.records s tokens end answer
  raw_of (Ok v) r = reads_all (values_read p formed s is) greatest_height tokens value_syntax (Ok v) r
  raw_of (Err (stop.Text at)) r = absurd r
  raw_of (Err (stop.Shape at)) r = (r.0, r.1, stops_at r.0 r.2)
  raw_of (Err (stop.Names at)) r = absurd r
  raw_of (Err (stop.PowerRange at)) r = absurd r
  raw_of (Err stop.NoMemory) r = tt
