-- One token more of a note or a type in an expression, told by what its reader gives.
use Rattle.std.proofs.Common.{◌≡◌, ◌≢◌, ℕ, ◌≤◌, ◌<◌, max, List, [], ◌∷◌, refl, sym, ap, subst, ◌∙◌, arith}
use Rattle.um_frac.specs.declared.number.Frac.{Frac}
use Rattle.um_syntax.specs.declared.token.Token.{Token}
use Rattle.um_reader.specs.Takes.{Gives, Takes}
use Rattle.um_reader.specs.declared.taken.Taken.{Taken}
use Rattle.um_reader.specs.declared.taken.Taken.TheVariants as taken
use Rattle.um_unit_texts.specs.UnitStops.{greatest_height}
use Rattle.um_types.specs.NoteMachine.{NoteState, NeedNote, HaveHole, InUnit, NoNote, note_step, note_finish, note_least, machine_of_notes}
use Rattle.um_types.specs.TypeMachine.{TypeState, NeedType, HaveType, NoType, type_step, type_finish, type_least, machine_of_types, InNote as InTypeNote}
use Rattle.um_types.proofs.NoteLaws.{note_found_height}
use Rattle.um_types.proofs.TypeLaws.{type_found_height}
use Rattle.um_operands.specs.ExprBegun.{Frame, State, InNote, InType, Refused, finish}
use Rattle.um_operands.specs.ExprLeast.{notes_side, notes_over, whole_least}
use Rattle.um_forms.specs.ExprTokens.{expr_token}
use Rattle.um_expr.specs.ExprMachine.{note_ends, type_ends, note_goes, type_goes, step, own_step, machine_of_expressions}
use Rattle.um_expr.specs.ExprStates.{IsLow}

note_goes_on : (frames : List Frame) (at : ℕ) (c : Frac) (n : NoteState) (ended : State) → n ≢ NoNote → note_goes frames at c n ended ≡ InNote frames at c n
note_goes_on frames at c NoNote ended ok = absurd (ok refl)
note_goes_on frames at c NeedNote ended ok = refl
note_goes_on frames at c (HaveHole p) ended ok = refl
note_goes_on frames at c (InUnit p u) ended ok = refl

type_goes_on : (frames : List Frame) (at : ℕ) (s : TypeState) (ended : State) → s ≢ NoType → type_goes frames at s ended ≡ InType frames at s
type_goes_on frames at NoType ended ok = absurd (ok refl)
type_goes_on frames at (NeedType d) ended ok = refl
type_goes_on frames at (HaveType d t) ended ok = refl
type_goes_on frames at (InTypeNote d o n) ended ok = refl

in_note : (frames : List Frame) (at : ℕ) (c : Frac) (n : NoteState) → InNote frames at c n ≢ Refused
in_note frames at c n e = absurd cc

in_type : (frames : List Frame) (at : ℕ) (s : TypeState) → InType frames at s ≢ Refused
in_type frames at s e = absurd cc

-- what a token gives after another state that ends as the same expression
gives_again : (old other next same : State) (given : Taken) (new : State) → finish old ≡ finish other → next ≡ same → Gives machine_of_expressions greatest_height old next given new
    → Gives machine_of_expressions greatest_height other same given new
gives_again old other next same taken.Goes new f e g = (g.0 ∙ e, g.1, g.2)
gives_again old other next same taken.Stops new f e g = (sym e ∙ g.0, g.1 ∙ f)
gives_again old other next same taken.High new f e g = ((λ h. g.0 (e ∙ h)), subst (λ st. greatest_height < whole_least st) e g.1)

-- ---- heights inside the frames

pub notes_above : (frames : List Frame) (m : ℕ) → m ≤ notes_over frames m
notes_above [] m = omega arith
notes_above (frame ∷ frames) m = let e = notes_above frames (max (notes_side frame) m) in omega (arith, e)

-- frames that hold what is low are low around something else that is low
notes_again : (frames : List Frame) (m n limit : ℕ) → notes_over frames m ≤ limit → n ≤ limit → notes_over frames n ≤ limit
notes_again [] m n limit low le = le
notes_again (frame ∷ frames) m n limit low le =
    let e = notes_above frames (max (notes_side frame) m) in
    notes_again frames (max (notes_side frame) m) (max (notes_side frame) n) limit low (omega (arith, e, low, le))

-- ---- a note

module _ (frames : List Frame) (at : ℕ) (c : Frac) (old : NoteState) (token : Token) where
  abbrev note_ended : State
  note_ended = note_ends frames at c (note_finish old) (expr_token token.kind)

  pub note_goes_in : (new : NoteState) → whole_least (InNote frames at c old) ≤ greatest_height → Takes machine_of_notes greatest_height old token taken.Goes new
      → Takes machine_of_expressions greatest_height (InNote frames at c old) token taken.Goes (InNote frames at c new)
  note_goes_in new low t = (
    ap (λ n. InNote frames at c n) t.0 ∙ sym (note_goes_on frames at c (note_step old token) note_ended (λ h. t.1 (t.0 ∙ h))),
    in_note frames at c new,
    (let notes = notes_again frames (note_least old) (note_least new) greatest_height (omega (arith, low)) t.2 in omega (arith, low, notes)),
  )

  pub note_high_in : (new : NoteState) (other : State) → Takes machine_of_notes greatest_height old token taken.High new
      → Takes machine_of_expressions greatest_height (InNote frames at c old) token taken.High other
  note_high_in new other t =
      let e : step (InNote frames at c old) token ≡ InNote frames at c (note_step old token) = note_goes_on frames at c (note_step old token) note_ended t.0 in
      let high = t.1 in
      let above = notes_above frames (note_least (note_step old token)) in
      let least = ap whole_least e in
      ((λ h. in_note frames at c (note_step old token) (sym e ∙ h)), omega (arith, high, above, least))

  pub note_low : (mid : NoteState) → whole_least (InNote frames at c old) ≤ greatest_height → Takes machine_of_notes greatest_height old token taken.Stops mid → IsLow (InNote frames at c mid)
  note_low mid low t = λ m e.
      let same = note_found_height old m (sym t.1 ∙ e) in
      let above = notes_above frames (note_least old) in
      omega (arith, low, same, above)

  pub note_stops_in : (mid : NoteState) (given : Taken) (new : State) → Takes machine_of_notes greatest_height old token taken.Stops mid
      → Gives machine_of_expressions greatest_height (InNote frames at c mid) (own_step (InNote frames at c mid) token) given new
      → Takes machine_of_expressions greatest_height (InNote frames at c old) token given new
  note_stops_in mid given new t g =
      let e : own_step (InNote frames at c mid) token ≡ step (InNote frames at c old) token =
      ap (λ f. note_ends frames at c f (expr_token token.kind)) t.1 ∙ ap (λ n. note_goes frames at c n note_ended) (sym t.0) in
      gives_again (InNote frames at c mid) (InNote frames at c old) (own_step (InNote frames at c mid) token) (step (InNote frames at c old) token) given new refl e g

-- ---- a type

module _ (frames : List Frame) (at : ℕ) (old : TypeState) (token : Token) where
  abbrev type_ended : State
  type_ended = type_ends frames at (type_finish old) (expr_token token.kind)

  pub type_low : whole_least (InType frames at old) ≤ greatest_height → type_least old ≤ greatest_height
  type_low low = let above = notes_above frames (type_least old) in omega (arith, low, above)

  pub type_goes_in : (new : TypeState) → whole_least (InType frames at old) ≤ greatest_height → Takes machine_of_types greatest_height old token taken.Goes new
      → Takes machine_of_expressions greatest_height (InType frames at old) token taken.Goes (InType frames at new)
  type_goes_in new low t = (
    ap (λ s. InType frames at s) t.0 ∙ sym (type_goes_on frames at (type_step old token) type_ended (λ h. t.1 (t.0 ∙ h))),
    in_type frames at new,
    (let notes = notes_again frames (type_least old) (type_least new) greatest_height (omega (arith, low)) t.2 in omega (arith, low, notes)),
  )

  pub type_high_in : (new : TypeState) (other : State) → Takes machine_of_types greatest_height old token taken.High new
      → Takes machine_of_expressions greatest_height (InType frames at old) token taken.High other
  type_high_in new other t =
      let e : step (InType frames at old) token ≡ InType frames at (type_step old token) = type_goes_on frames at (type_step old token) type_ended t.0 in
      let high = t.1 in
      let above = notes_above frames (type_least (type_step old token)) in
      let least = ap whole_least e in
      ((λ h. in_type frames at (type_step old token) (sym e ∙ h)), omega (arith, high, above, least))

  pub type_is_low : (mid : TypeState) → whole_least (InType frames at old) ≤ greatest_height → Takes machine_of_types greatest_height old token taken.Stops mid → IsLow (InType frames at mid)
  type_is_low mid low t = λ m e.
      let same = type_found_height old m (sym t.1 ∙ e) in
      let above = notes_above frames (type_least old) in
      omega (arith, low, same, above)

  pub type_stops_in : (mid : TypeState) (given : Taken) (new : State) → Takes machine_of_types greatest_height old token taken.Stops mid
      → Gives machine_of_expressions greatest_height (InType frames at mid) (own_step (InType frames at mid) token) given new
      → Takes machine_of_expressions greatest_height (InType frames at old) token given new
  type_stops_in mid given new t g =
      let e : own_step (InType frames at mid) token ≡ step (InType frames at old) token =
      ap (λ f. type_ends frames at f (expr_token token.kind)) t.1 ∙ ap (λ s. type_goes frames at s type_ended) (sym t.0) in
      gives_again (InType frames at mid) (InType frames at old) (own_step (InType frames at mid) token) (step (InType frames at old) token) given new refl e g
