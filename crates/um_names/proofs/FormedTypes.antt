-- The types of type texts are formed: their units, variables and records exist.
use Rattle.std.proofs.Common.{◌≡◌, ℕ, zero, suc, ◌<◌, ◌≤◌, ◌+◌, Bool, true, false, cond, List, [], ◌∷◌, length, refl, sym, ap, subst, arith, Ok, Err}
use Rattle.std.specs.Prelude.{Option, Some, None, All, slice_get, ◌==◌}
use Rattle.std.proofs.lemmas.List.Elements.{All-nil, All-cons}
use Rattle.um_units.specs.PowerMap.{one}
use Rattle.um_tree.specs.declared.note.UnitNote.{UnitNote}
use Rattle.um_tree.specs.declared.note.UnitNote.TheVariants as note
use Rattle.um_tree.specs.TypeTree.{NoteTree, bool_note, num_note, list_note, record_note}
use Rattle.um_tree.specs.TreeHeights.{type_tree_height, note_tree_height}
use Rattle.um_tree.specs.Heights.{type_height}
use Rattle.um_tree.specs.ProgramTree.{RecordTree}
use Rattle.um_tree.specs.Formed.{IsUnitIn, IsNoteIn, TakesUnits, IsTypeIn, IsNoteTreeIn, NamesEarlier}
use Rattle.um_tree.specs.RawTree.{NoteSyntax, hole_syntax, unit_note_syntax, TypeSyntax, bool_syntax, num_syntax, record_syntax, list_type_syntax, bracket_type_syntax}
use Rattle.um_measures.specs.Faults.{Found, and_then, wrong_count, hole}
use Rattle.um_measures.specs.Known.{Known, number_of, record_names, measure_unit}
use Rattle.um_measures.specs.UnitNames.{resolved_unit}
use Rattle.um_names.specs.TypeNames.{counted, declared_record, resolved_record, resolved_note, resolved_notes, resolved_number, resolved_type, written_unit, written_units, written_type}
use Rattle.um_names.proofs.FormedUnits.{AreClosedIn, measure_in, resolved_unit_in, in_one}

-- what comes behind a text is found where both are
pub then_found : {A B : Type 0} (r : Found A) (next : A → Found B) (b : B) → and_then r next ≡ Ok b → (a : A) × (r ≡ Ok a) × (next a ≡ Ok b)
then_found (Ok a) next b e = (a, refl, e)
then_found (Err f) next b e = absurd cc

pub same_count : (n m : ℕ) → (n == m) ≡ true → n ≡ m
same_count n m e = grind arith

-- ---- records

takes_units : (records : List RecordTree) (o : Option ℕ) (n at r : ℕ) → declared_record records o n at ≡ Ok r → TakesUnits records r n
takes_units records None n at r e = absurd cc
takes_units records (Some q) n at r e = by (slice_get records q) refl e where
  of : (d : RecordTree) (b : Bool) → slice_get records q ≡ Some d → (n == d.units) ≡ b → cond b (Ok q) (Err (wrong_count at)) ≡ Ok r → TakesUnits records r n
  of d true g f h =
      let same : q ≡ r = cc h in
      subst (λ k. TakesUnits records k n) same (d, g, same_count n d.units f)
  of d false g f h = absurd cc

  by : (o : Option RecordTree) → slice_get records q ≡ o → counted o q n at ≡ Ok r → TakesUnits records r n
  by None g h = absurd cc
  by (Some d) g h = of d (n == d.units) g refl h

pub record_takes : (known : Known) (x : List ℕ) (n at r : ℕ) → resolved_record known x n at ≡ Ok r → TakesUnits known.program.records r n
record_takes known x n at r e = takes_units known.program.records (number_of (record_names known.program.records) x) n at r e

-- ---- notes

module _ (known : Known) (variables : List (List ℕ)) (holes : Bool) (closed : AreClosedIn (length known.program.bases) known.shorts) where
  bases : ℕ
  bases = length known.program.bases

  note_in : (t : NoteSyntax) (n : UnitNote) → resolved_note known variables holes t ≡ Ok n → IsNoteIn (length known.program.bases) (length variables) n
  note_in (hole_syntax at) n e = by holes e where
    by : (b : Bool) → cond b (Ok note.Hole) (Err (hole at)) ≡ Ok n → IsNoteIn (length known.program.bases) (length variables) n
    by true h = let same : note.Hole ≡ n = cc h in subst (IsNoteIn (length known.program.bases) (length variables)) same tt
    by false h = absurd cc
  note_in (unit_note_syntax at u) n e =
      let w = then_found (resolved_unit (measure_unit known) variables u) (λ v. Ok (note.Written v)) n e in
      let same : note.Written w.0 ≡ n = cc (w.2) in
      subst (IsNoteIn (length known.program.bases) (length variables)) same (resolved_unit_in (measure_unit known) variables (length known.program.bases) (λ x. measure_in known x closed) u w.0 w.1)

  notes_in : (ts : List NoteSyntax) (ns : List UnitNote) → resolved_notes known variables holes ts ≡ Ok ns → All (IsNoteIn (length known.program.bases) (length variables)) ns × (length ns ≡ length ts)
  notes_in [] ns e = let same : [] ≡ ns = cc e in subst (λ (ms : List UnitNote). All (IsNoteIn (length known.program.bases) (length variables)) ms × (length ms ≡ 0)) same (All-nil (IsNoteIn (length known.program.bases) (length variables)), refl)
  notes_in (t ∷ ts) ns e =
      let w = then_found (resolved_note known variables holes t) (λ y. and_then (resolved_notes known variables holes ts) (λ ys. Ok (y ∷ ys))) ns e in
      let z = then_found (resolved_notes known variables holes ts) (λ ys. Ok (w.0 ∷ ys)) ns w.2 in
      let rest = notes_in ts z.0 z.1 in
      let same : w.0 ∷ z.0 ≡ ns = cc (z.2) in
      subst (λ (ms : List UnitNote). All (IsNoteIn (length known.program.bases) (length variables)) ms × (length ms ≡ length (t ∷ ts))) same
      (All-cons (IsNoteIn (length known.program.bases) (length variables)) w.0 z.0 (note_in t w.0 w.1) rest.0, ap suc rest.1)

  number_in : (o : Option NoteSyntax) (n : UnitNote) → resolved_number known variables holes o ≡ Ok n → IsNoteIn (length known.program.bases) (length variables) n
  number_in None n e = let same : note.Written one ≡ n = cc e in subst (IsNoteIn (length known.program.bases) (length variables)) same (in_one (length known.program.bases) (length variables))
  number_in (Some t) n e = note_in t n e

  -- the type is formed, and no taller than its text
  abbrev pub IsLowIn : ℕ → NoteTree → Type 0
  IsLowIn height n = IsNoteTreeIn (length known.program.bases) (length variables) known.program.records n × (note_tree_height n ≤ height)

  pub type_in : (t : TypeSyntax) (n : NoteTree) → resolved_type known variables holes t ≡ Ok n → IsLowIn (type_height t) n
  type_in bool_syntax n e = let same : bool_note ≡ n = cc e in subst (IsLowIn 1) same (tt, omega arith)
  type_in (num_syntax o) n e =
      let w = then_found (resolved_number known variables holes o) (λ m. Ok (num_note m)) n e in
      let same : num_note w.0 ≡ n = cc (w.2) in
      subst (IsLowIn 1) same (number_in o w.0 w.1, omega arith)
  type_in (record_syntax at x ts) n e =
      let w = then_found (resolved_record known x (length ts) at) (λ r. and_then (resolved_notes known variables holes ts) (λ ms. Ok (record_note r ms))) n e in
      let z = then_found (resolved_notes known variables holes ts) (λ ms. Ok (record_note w.0 ms)) n w.2 in
      let notes = notes_in ts z.0 z.1 in
      let takes = subst (TakesUnits known.program.records w.0) (sym notes.1) (record_takes known x (length ts) at w.0 w.1) in
      let same : record_note w.0 z.0 ≡ n = cc (z.2) in
      subst (IsLowIn 1) same ((takes, notes.0), omega arith)
  type_in (list_type_syntax t) n e =
      let w = then_found (resolved_type known variables holes t) (λ m. Ok (list_note m)) n e in
      let inner = type_in t w.0 w.1 in
      let same : list_note w.0 ≡ n = cc (w.2) in
      subst (IsLowIn (type_height t + 1)) same (inner.0, omega (arith, inner.1))
  type_in (bracket_type_syntax t) n e = let inner = type_in t n e in (inner.0, omega (arith, inner.1))

-- ---- the type of a note

unit_written : (n m : ℕ) (u : UnitNote) → IsNoteIn n m u → IsUnitIn n m (written_unit u)
unit_written n m note.Hole h = in_one n m
unit_written n m (note.Written u) h = h

units_written : (n m : ℕ) (us : List UnitNote) → All (IsNoteIn n m) us → All (IsUnitIn n m) (written_units us) × (length (written_units us) ≡ length us)
units_written n m [] h = (All-nil (IsUnitIn n m), refl)
units_written n m (u ∷ us) h =
    let rest = units_written n m us (λ k d l. h (suc k) d (omega (arith, l))) in
    (All-cons (IsUnitIn n m) (written_unit u) (written_units us) (unit_written n m u (h 0 u (omega arith))) rest.0, ap suc rest.1)

pub type_written : (n m : ℕ) (records : List RecordTree) (t : NoteTree) → IsNoteTreeIn n m records t → IsTypeIn n m records (written_type t)
type_written n m records bool_note h = tt
type_written n m records (num_note u) h = unit_written n m u h
type_written n m records (list_note t) h = type_written n m records t h
type_written n m records (record_note r us) h =
    let w = units_written n m us h.1 in
    (subst (TakesUnits records r) (sym w.1) h.0, w.0)

pub height_written : (t : NoteTree) → type_tree_height (written_type t) ≡ note_tree_height t
height_written bool_note = refl
height_written (num_note u) = refl
height_written (list_note t) = ap (λ k. k + 1) (height_written t)
height_written (record_note r us) = refl

pub slice_get-below : {A : Type 0} (xs : List A) (k : ℕ) (x : A) → slice_get xs k ≡ Some x → k < length xs
slice_get-below [] k x e = absurd cc
slice_get-below (y ∷ xs) zero x e = omega arith
slice_get-below (y ∷ xs) (suc k) x e = let l = slice_get-below xs k x e in omega (arith, l)

-- each record that it names is declared
pub earlier_written : (n m : ℕ) (records : List RecordTree) (t : NoteTree) → IsNoteTreeIn n m records t → NamesEarlier (length records) (written_type t)
earlier_written n m records bool_note h = tt
earlier_written n m records (num_note u) h = tt
earlier_written n m records (list_note t) h = earlier_written n m records t h
earlier_written n m records (record_note r us) h = slice_get-below records r h.0.0 h.0.1
