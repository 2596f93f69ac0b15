-- One node: its rows are pushed, and then its type is in range or passes it.
use Rattle.std.proofs.Common.{◌≡◌, ℕ, ◌<◌, ◌≤◌, length, get_or, slice_get, cond, List, [], ◌∷◌, ◌++◌, map, Some, None, Ok, Err, refl, sym, ap, ◌∙◌, subst}
use Rattle.std.specs.Prelude.{IsTrue, IsFalse}
use Rattle.std.specs.Option.{option_map}
use Rattle.std.proofs.lemmas.List.{append-nil}
use Rattle.std.proofs.lemmas.Option.{slice_get-map, slice_get-get_or, slice_get_past}
use Rattle.um_tree.specs.declared.types.Ty.{Ty}
use Rattle.um_tree.specs.TypeTree.{TypeTree, num_type, list_type, type_tree}
use Rattle.um_frac.specs.declared.number.Frac.{Frac}
use Rattle.um_frac.specs.Fraction.{numerator}
use Rattle.um_units.specs.Terms.{is_zero}
use Rattle.um_units.specs.Range.{fits}
use Rattle.um_units.specs.PowerMap.{PowerMap}
use Rattle.um_tree.specs.declared.note.UnitNote.{UnitNote}
use Rattle.um_tree.specs.declared.note.UnitNote.TheVariants.{Hole, Written}
use Rattle.um_elim.proofs.Cases.{on_test}
use Rattle.um_equal_types.specs.Against.{never}
use Rattle.um_elim.specs.Application.{type_fits}
use Rattle.um_equal_types.specs.declared.row.Row.{Row}
use Rattle.um_equal_types.specs.declared.row.RowStop.{RowStop}
use Rattle.um_equal_types.specs.declared.row.RowStop.TheVariants as stop
use Rattle.um_equal_types.specs.Steps.{Step, type_at, first_past, rows_of}
use Rattle.um_equal_types.specs.Pushed.{AreBehind, StopsPast}
use Rattle.um_rows.specs.Rules.{formed, asks_zero, asks_list, local_rule, number_rule, nil_rule}
use Rattle.um_rows.specs.Walk.{unless_past, node}
use Rattle.um_rows.specs.Reached.{StopsAs}
use Rattle.um_equal_types.proofs.PushLaws.{first_of, first_past-append, rows_of-append, never_in_range}

rows_of-formed : (at : ℕ) (rows : List Step) (t : TypeTree) → rows_of (rows ++ type_at at t ∷ []) ≡ rows_of rows
rows_of-formed at rows t = rows_of-append rows (type_at at t ∷ []) ∙ append-nil (rows_of rows)

pub node_formed : (old new : List Row) (n at : ℕ) (rows : List Step) (t : TypeTree) → AreBehind rows old new → IsTrue (type_fits t) → node old n (formed at rows t) ≡ Ok (record { type = t; rows = new; holes = n })
node_formed old new n at rows t h f =
    let none : first_past (rows ++ type_at at t ∷ []) ≡ None = first_past-append rows (type_at at t ∷ []) ∙ ap (λ o. first_of o (first_past (type_at at t ∷ []))) h.0 ∙ ap (λ b. cond b None (Some at)) f in
    let same : old ++ rows_of (rows ++ type_at at t ∷ []) ≡ new = ap (λ rs. old ++ rs) (rows_of-formed at rows t) ∙ sym h.1 in
    λ i. unless_past (none i) (record { type = t; rows = same i; holes = n })

-- the type is one that was made
pub node_made : (old new : List Row) (n at : ℕ) (rows : List Step) (t made : TypeTree) → AreBehind rows old new → made ≡ t → IsTrue (type_fits made) → node old n (formed at rows t) ≡ Ok (record { type = made; rows = new; holes = n })
node_made old new n at rows t made h same f =
    ap (λ s. node old n (formed at rows s)) (sym same) ∙ node_formed old new n at rows made h f

pub node_stops : (old : List Row) (n at : ℕ) (rows : List Step) (t : TypeTree) (e : RowStop) → StopsPast (first_past rows) e → StopsAs (node old n (formed at rows t)) e
node_stops old n at rows t stop.Slots h = h
node_stops old n at rows t (stop.Range k) h =
    ap (λ o. unless_past o (record { type = t; rows = old ++ rows_of (rows ++ type_at at t ∷ []); holes = n })) (first_past-append rows (type_at at t ∷ []) ∙ ap (λ o. first_of o (first_past (type_at at t ∷ []))) h)
node_stops old n at rows t stop.NoMemory h = tt

pub node_past : (old : List Row) (n at : ℕ) (rows : List Step) (t : TypeTree) → first_past rows ≡ None → IsFalse (type_fits t) → node old n (formed at rows t) ≡ Err at
node_past old n at rows t h f =
    ap (λ o. unless_past o (record { type = t; rows = old ++ rows_of (rows ++ type_at at t ∷ []); holes = n })) (first_past-append rows (type_at at t ∷ []) ∙ ap (λ o. first_of o (first_past (type_at at t ∷ []))) h ∙ ap (λ b. cond b None (Some at)) f)

-- ---- what is looked up in a scope
pub mapped_found : {A B : Type 0} (f : A → B) (xs : List A) (k : ℕ) (x : A) → k < length xs → x ≡ get_or xs k x → slice_get (map f xs) k ≡ Some (f x)
mapped_found f xs k x h e = slice_get-map f xs k ∙ ap (option_map f) (slice_get-get_or xs k x h ∙ ap Some (sym e))

pub mapped_past : {A B : Type 0} (f : A → B) (xs : List A) (k : ℕ) → length xs ≤ k → slice_get (map f xs) k ≡ None
mapped_past f xs k h = slice_get-map f xs k ∙ ap (option_map f) (slice_get_past xs k h)

pub node_local : (rows : List Row) (n at : ℕ) (xs : List Ty) (k : ℕ) (x : Ty) (t : TypeTree) → k < length xs → x ≡ get_or xs k x → t ≡ type_tree x → IsTrue (type_fits t) →
    node rows n (local_rule at (slice_get (map type_tree xs) k)) ≡ Ok (record { type = t; rows = rows; holes = n })
node_local rows n at xs k x t h e same f =
    ap (λ o. node rows n (local_rule at o)) (mapped_found type_tree xs k x h e ∙ ap Some (sym same)) ∙ node_formed rows rows n at [] t (refl, sym (append-nil rows)) f

-- ---- a type that is out of range, behind rows that are in range
zero_in_range : (at : ℕ) (c : Frac) (m : UnitNote) → first_past (asks_zero at c m) ≡ None
zero_in_range at c Hole = on_test (is_zero (numerator c))
    (λ e. subst (λ b. first_past (cond b [] (never at)) ≡ None) (sym e) refl)
    (λ e. subst (λ b. first_past (cond b [] (never at)) ≡ None) (sym e) (never_in_range at))
zero_in_range at c (Written u) = refl

pub number_past : (rows : List Row) (n at : ℕ) (c : Frac) (m : UnitNote) (u : PowerMap) → IsFalse (fits u) → node rows n (number_rule at c m u) ≡ Err at
number_past rows n at c m u f = node_past rows n at (asks_zero at c m) (num_type u) (zero_in_range at c m) f

list_in_range : (at : ℕ) (t : TypeTree) → first_past (asks_list at t) ≡ None
list_in_range at (list_type t) = refl
list_in_range at t = never_in_range at

pub nil_past : (rows : List Row) (n at : ℕ) (t : TypeTree) → IsFalse (type_fits t) → node rows n (nil_rule at t) ≡ Err at
nil_past rows n at t f = node_past rows n at (asks_list at t) t (list_in_range at t) f
