-- What one token gives, from the next state: heights aside, and with them.
use Rattle.std.proofs.Common.{◌≡◌, ◌≢◌, ℕ, ◌≤◌, Bool, List, None, refl, sym, ap, subst, ◌∙◌, arith}
use Rattle.um_frac.specs.declared.number.Frac.{Frac}
use Rattle.um_syntax.specs.declared.token.Token.{Token}
use Rattle.um_tree.specs.ProgramTree.{RecordTree}
use Rattle.um_reader.specs.Takes.{Takes}
use Rattle.um_reader.specs.declared.taken.Taken.{Taken}
use Rattle.um_reader.specs.declared.taken.Taken.TheVariants as taken
use Rattle.um_unit_texts.specs.UnitStops.{greatest_height}
use Rattle.um_types.specs.NoteMachine.{NoteState, NoNote, note_step, note_finish, machine_of_notes}
use Rattle.um_value.specs.ValueSyntax.{ValueSyntax}
use Rattle.um_value.specs.ValueMachine.{Frame, ValueState, InNote, Have, NoValue, note_ends, note_goes, own_act, value_step, value_finish, value_least}
use Rattle.um_types.specs.declared.note_reader.NoteReader.{NoteReader}
use Rattle.um_value.specs.declared.frame.Literal.{Literal}
use Rattle.um_value.specs.declared.frame.Focus.{Focus}
use Rattle.um_value.specs.declared.frame.Focus.TheVariants as focus
use Rattle.um_value.specs.ValueView.{state_of, Moves, ValueTakes}
use Rattle.um_value.proofs.ValueFrom.{note_goes_on}
use Rattle.um_value.proofs.ValueHeights.{own_same}

-- a state whose next state is its own
abbrev pub IsOwn : List RecordTree → ValueState → Token → Type 0
IsOwn records st x = value_step records st x ≡ own_act records st x.kind x.start x.glued

in_note : (frames : List Frame) (at : ℕ) (negative : Bool) (value : Frac) (n : NoteState) → InNote frames at negative value n ≢ NoValue
in_note frames at negative value n e = cc

in_have : (frames : List Frame) (v : ValueSyntax) → Have frames v ≢ NoValue
in_have frames v e = cc

-- a value is at hand
pub value_given : (frames : List Frame) (v : ValueSyntax) (next new : ValueState) (given : Taken) → given ≡ taken.Goes → new ≡ Have frames v → next ≡ Have frames v → Moves None next given new
value_given frames v next new given goes is e = subst (λ (g : Taken). Moves None next g new) (sym goes) (is ∙ sym e, (λ h. in_have frames v (sym is ∙ h)))

module _ (records : List RecordTree) where
  pub own_takes : (old : ValueState) (x : Token) (given : Taken) (new : ValueState) → IsOwn records old x → value_least old ≤ greatest_height
      → Moves (value_finish old) (own_act records old x.kind x.start x.glued) given new → ValueTakes records old x given new
  own_takes old x taken.Goes new own low m =
      let next : ValueState = own_act records old x.kind x.start x.glued in
      let same : value_least next ≡ value_least old = own_same records old x.kind x.start x.glued (λ h. m.1 (m.0 ∙ h)) in
      let e : value_least new ≡ value_least old = ap value_least m.0 ∙ same in
      λ s. (m.0 ∙ sym own, m.1, omega (arith, e, low))
  own_takes old x taken.Stops new own low m = λ s. (own ∙ m.0, m.1)
  own_takes old x taken.High new own low m = absurd m

  -- ---- a note inside

  pub note_has_refused : (frames : List Frame) (at : ℕ) (negative : Bool) (value : Frac) (note : NoteState) (x : Token) → note_step note x ≡ NoNote → IsOwn records (InNote frames at negative value note) x
  note_has_refused frames at negative value note x e = ap (λ m. note_goes frames at negative value m (note_ends frames at negative value (note_finish note) x.kind)) e

  -- the note goes on
  pub note_takes : (frames : List Frame) (at : ℕ) (negative : Bool) (value : Frac) (old new : NoteState) (x : Token) → value_least (InNote frames at negative value old) ≤ greatest_height → Takes machine_of_notes greatest_height old x taken.Goes new
      → ValueTakes records (InNote frames at negative value old) x taken.Goes (InNote frames at negative value new)
  note_takes frames at negative value old new x low t =
      let ended : ValueState = note_ends frames at negative value (note_finish old) x.kind in
      let on : note_goes frames at negative value (note_step old x) ended ≡ InNote frames at negative value new = ap (λ m. note_goes frames at negative value m ended) (sym t.0) ∙ note_goes_on frames at negative value new ended t.1 in
      let high = t.2 in
      λ s. (sym on, in_note frames at negative value new, omega (arith, low, high))

  -- the note is too high
  pub note_too_high : (frames : List Frame) (at : ℕ) (negative : Bool) (value : Frac) (old new : NoteState) (x : Token) (after : ValueState) → Takes machine_of_notes greatest_height old x taken.High new
      → ValueTakes records (InNote frames at negative value old) x taken.High after
  note_too_high frames at negative value old new x after t =
      let ended : ValueState = note_ends frames at negative value (note_finish old) x.kind in
      let on : note_goes frames at negative value (note_step old x) ended ≡ InNote frames at negative value (note_step old x) = note_goes_on frames at negative value (note_step old x) ended t.0 in
      let least = ap value_least on in
      let high = t.1 in
      λ s. ((λ e. in_note frames at negative value (note_step old x) (sym on ∙ e)), omega (arith, least, high))

  -- the note has refused the token: what the rest of the state does is what the whole does
  pub note_stops : (frames : List Frame) (at : ℕ) (negative : Bool) (value : Frac) (old mid : NoteState) (x : Token) (given : Taken) (new : ValueState) → value_least (InNote frames at negative value old) ≤ greatest_height
      → Takes machine_of_notes greatest_height old x taken.Stops mid
      → Moves (value_finish (InNote frames at negative value mid)) (own_act records (InNote frames at negative value mid) x.kind x.start x.glued) given new
      → ValueTakes records (InNote frames at negative value old) x given new
  note_stops frames at negative value old mid x given new low t m =
      own_takes (InNote frames at negative value old) x given new (note_has_refused frames at negative value old x t.0) low
      (subst (λ o. Moves None (note_ends frames at negative value o x.kind) given new) t.1 m)

  -- ---- where no note has begun

  pub no_note : (frames : List Frame) (f : Focus) (x : Token) → ((c : Literal) (n : NoteReader) → f ≡ focus.InNote c n → ⊥) → IsOwn records (state_of frames f) x
  no_note frames (focus.Need w) x h = refl
  no_note frames (focus.Begun w) x h = refl
  no_note frames focus.Negative x h = refl
  no_note frames (focus.Counted c) x h = refl
  no_note frames (focus.InNote c n) x h = absurd (h c n refl)
  no_note frames (focus.Name f) x h = refl
  no_note frames (focus.Equal w) x h = refl
  no_note frames (focus.Full v) x h = refl
