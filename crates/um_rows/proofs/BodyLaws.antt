-- From the walk over a body and the rows of its type against the result's note to all steps behind the head.
use Rattle.std.proofs.Common.{◌≡◌, ℕ, ◌+◌, List, [], ◌++◌, map, Option, Some, None, Ok, refl, sym, ap, ◌∙◌, subst}
use Rattle.um_units.specs.PowerMap.{nth}
use Rattle.um_tree.specs.declared.program.Record.{Record}
use Rattle.um_tree.specs.declared.program.Scheme.{Scheme}
use Rattle.um_tree.specs.TypeTree.{TypeTree, type_tree, NoteTree}
use Rattle.um_tree.specs.ExprTree.{ExprTree}
use Rattle.um_tree.specs.ProgramTree.{record_tree}
use Rattle.um_slots.specs.declared.context.Context.{Context}
use Rattle.um_equal_types.specs.declared.row.Row.{Row}
use Rattle.um_equal_types.specs.declared.row.RowStop.{RowStop}
use Rattle.um_equal_types.specs.declared.row.RowStop.TheVariants as stop
use Rattle.um_equal_types.specs.Steps.{Step, rows_of, first_past}
use Rattle.um_rows.specs.Rules.{Derived}
use Rattle.um_equal_types.specs.Pushed.{AreBehind, StopsPast}
use Rattle.um_rows.specs.Walk.{Walked, unless_past, node}
use Rattle.um_rows.specs.Reached.{StopsAs}
use Rattle.um_rows.specs.Body.{noted_signature, called, body_walk, body_holes, noted_rows, body_derived, body_steps}
use Rattle.um_equal_types.proofs.PushLaws.{stops_front, stops_back, behind-append}
use Rattle.um_rows.proofs.WalkLaws.{walk-is}

-- ---- what a node says of its steps
past_from : (o : Option ℕ) (w : Walked) (x : RowStop) → StopsAs (unless_past o w) x → StopsPast o x
past_from o w stop.Slots h = h
past_from None w (stop.Range at) h = absurd (cc h)
past_from (Some k) w (stop.Range at) h = let same : k ≡ at = cc h in ap Some same
past_from o w stop.NoMemory h = tt

none_from : (o : Option ℕ) (w v : Walked) → unless_past o w ≡ Ok v → (o ≡ None) × (w ≡ v)
none_from None w v h = let same : w ≡ v = cc h in (refl, same)
none_from (Some k) w v h = absurd (cc h)

module _ (records : List Record) (schemes : List Scheme) (c : Context) (n at : ℕ) (note : Option NoteTree) (e : ExprTree) (rs : List Row) (vars : List TypeTree) (same : vars ≡ map type_tree c.params.items) where
  abbrev found : Derived
  found = body_derived records schemes c n e

  abbrev rest : List Step
  rest = noted_rows at found.type (type_tree c.result) note

  walk_is : body_walk records schemes c rs n vars e ≡ node rs (n + body_holes records schemes c e) found
  walk_is = ap (λ vs. body_walk records schemes c rs n vs e) same ∙ walk-is (nth c.holes.items) (nth c.names.items) (map record_tree records) (noted_signature c) (called schemes c) e rs n (map type_tree c.params.items)

  pub body_stops : (x : RowStop) → StopsAs (body_walk records schemes c rs n vars e) x → StopsPast (first_past (body_steps records schemes c n at note e)) x
  body_stops x h = stops_front found.steps rest x (past_from (first_past found.steps) (record { type = found.type; rows = rs ++ rows_of found.steps; holes = n + body_holes records schemes c e }) x (subst (λ m. StopsAs m x) walk_is h))

  module _ (w : Walked) (is : body_walk records schemes c rs n vars e ≡ Ok w) where
    ends : (first_past found.steps ≡ None) × (record { type = found.type; rows = rs ++ rows_of found.steps; holes = n + body_holes records schemes c e } ≡ w)
    ends = none_from (first_past found.steps) (record { type = found.type; rows = rs ++ rows_of found.steps; holes = n + body_holes records schemes c e }) w (sym walk_is ∙ is)

    pub type_is : w.type ≡ found.type
    type_is = ap (λ (v : Walked). v.type) (sym ends.1)

    pub note_stops : (x : RowStop) → StopsPast (first_past (noted_rows at w.type (type_tree c.result) note)) x → StopsPast (first_past (body_steps records schemes c n at note e)) x
    note_stops x h = stops_back found.steps rest x ends.0 (subst (λ t. StopsPast (first_past (noted_rows at t (type_tree c.result) note)) x) type_is h)

    pub body_ends : rs ≡ [] → (new : List Row) → AreBehind (noted_rows at w.type (type_tree c.result) note) w.rows new → AreBehind (body_steps records schemes c n at note e) [] new
    body_ends none new h =
        let rows : w.rows ≡ [] ++ rows_of found.steps = ap (λ (v : Walked). v.rows) (sym ends.1) ∙ ap (λ xs. xs ++ rows_of found.steps) none in
        behind-append found.steps rest [] w.rows new (ends.0, rows) (subst (λ t. AreBehind (noted_rows at t (type_tree c.result) note) w.rows new) type_is h)
