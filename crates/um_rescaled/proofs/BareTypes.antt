-- What units and types stand for doesn't depend on places.
use Rattle.std.proofs.Common.{◌≡◌, ℕ, Bool, true, false, ◌&&◌, ◌==◌, cond, List, [], ◌∷◌, ◌++◌, length, map, slice_get, Option, Some, None, is_some, Ok, Err, refl, sym, ap, ◌∙◌, zero, suc}
use Rattle.std.specs.Prelude.{option_map}
use Rattle.std.specs.List.{flat_map}
use Rattle.um_units.specs.PowerMap.{PowerMap, one, mul, inv, pow}
use Rattle.um_units.specs.Range.{fits}
use Rattle.um_tree.specs.declared.note.UnitNote.TheVariants as note
use Rattle.um_tree.specs.TypeTree.{num_note, list_note, record_note}
use Rattle.um_tree.specs.ProgramTree.{RecordTree}
use Rattle.um_tree.specs.RawTree.{UnitSyntax, UnitSyntaxes, one_syntax, measure_syntax, variable_syntax, power_syntax, side_syntax, times_syntax, over_syntax, inverse_syntax, bracket_syntax, no_units, more_units, NoteSyntax, hole_syntax, unit_note_syntax, TypeSyntax, bool_syntax, num_syntax, record_syntax, list_type_syntax, bracket_type_syntax}
use Rattle.um_measures.specs.Faults.{range, wrong_count}
use Rattle.um_measures.specs.Known.{Known, number_of, record_names, is_among, measure_unit}
use Rattle.um_measures.specs.UnitNames.{or_else, unless, unknown_in, unknown_among, unit_of, product_of, parts_fit, products_fit, ranged, resolved_unit, first_place, first_of}
use Rattle.um_measures.specs.Variables.{unit_variables, all_unit_variables, note_variables, type_variables}
use Rattle.um_names.specs.TypeNames.{counted, declared_record, resolved_record, hole_note, resolved_note, resolved_notes, resolved_type}
use Rattle.um_show.specs.Unplaced.{bare_unit, bare_units, bare_note, bare_type}
use Rattle.um_rescaled.specs.UnplacedPrograms.{unplaced_record, unplaced_program}
use Rattle.um_rescaled.proofs.BareFaults.{bare_found, itself, one_bare, two_bare}

-- ---- units

abbrev zero_place : Option ℕ → Option ℕ
zero_place None = None
zero_place (Some at) = Some 0

or_else_zero : (a b : Option ℕ) → or_else (zero_place a) (zero_place b) ≡ zero_place (or_else a b)
or_else_zero None b = refl
or_else_zero (Some at) b = refl

unless_zero : (b : Bool) (at : ℕ) → unless b 0 ≡ zero_place (unless b at)
unless_zero true at = refl
unless_zero false at = refl

mutual
  first_bare : (u : UnitSyntax) → first_place (bare_unit u) ≡ 0
  first_bare (one_syntax at) = refl
  first_bare (measure_syntax at x) = refl
  first_bare (variable_syntax at x) = refl
  first_bare (power_syntax u k) = first_bare u
  first_bare (side_syntax us) = first_of_bare us
  first_bare (times_syntax u v) = first_bare u
  first_bare (over_syntax u v) = first_bare u
  first_bare (inverse_syntax at u) = refl
  first_bare (bracket_syntax at u) = refl

  first_of_bare : (us : UnitSyntaxes) → first_of (bare_units us) ≡ 0
  first_of_bare no_units = refl
  first_of_bare (more_units u us) = first_bare u

module _ (measures : List ℕ → Option PowerMap) (variables : List (List ℕ)) where
  mutual
    unknown_bare : (u : UnitSyntax) → unknown_in measures variables (bare_unit u) ≡ zero_place (unknown_in measures variables u)
    unknown_bare (one_syntax at) = refl
    unknown_bare (measure_syntax at x) = unless_zero (is_some (measures x)) at
    unknown_bare (variable_syntax at x) = unless_zero (is_among variables x) at
    unknown_bare (power_syntax u k) = unknown_bare u
    unknown_bare (side_syntax us) = among_bare us
    unknown_bare (times_syntax u v) = (λ i. or_else (unknown_bare u i) (unknown_bare v i)) ∙ or_else_zero (unknown_in measures variables u) (unknown_in measures variables v)
    unknown_bare (over_syntax u v) = (λ i. or_else (unknown_bare u i) (unknown_bare v i)) ∙ or_else_zero (unknown_in measures variables u) (unknown_in measures variables v)
    unknown_bare (inverse_syntax at u) = unknown_bare u
    unknown_bare (bracket_syntax at u) = unknown_bare u

    among_bare : (us : UnitSyntaxes) → unknown_among measures variables (bare_units us) ≡ zero_place (unknown_among measures variables us)
    among_bare no_units = refl
    among_bare (more_units u us) = (λ i. or_else (unknown_bare u i) (among_bare us i)) ∙ or_else_zero (unknown_in measures variables u) (unknown_among measures variables us)

  mutual
    unit_bare : (u : UnitSyntax) → unit_of measures variables (bare_unit u) ≡ unit_of measures variables u
    unit_bare (one_syntax at) = refl
    unit_bare (measure_syntax at x) = refl
    unit_bare (variable_syntax at x) = refl
    unit_bare (power_syntax u k) = ap (λ v. pow v k) (unit_bare u)
    unit_bare (side_syntax us) = product_bare one us
    unit_bare (times_syntax u v) = λ i. mul (unit_bare u i) (unit_bare v i)
    unit_bare (over_syntax u v) = λ i. mul (unit_bare u i) (inv (unit_bare v i))
    unit_bare (inverse_syntax at u) = ap inv (unit_bare u)
    unit_bare (bracket_syntax at u) = unit_bare u

    product_bare : (before : PowerMap) (us : UnitSyntaxes) → product_of measures variables before (bare_units us) ≡ product_of measures variables before us
    product_bare before no_units = refl
    product_bare before (more_units u us) =
        ap (λ v. product_of measures variables (mul before v) (bare_units us)) (unit_bare u) ∙ product_bare (mul before (unit_of measures variables u)) us

  mutual
    fit_bare : (u : UnitSyntax) → parts_fit measures variables (bare_unit u) ≡ parts_fit measures variables u
    fit_bare (one_syntax at) = refl
    fit_bare (measure_syntax at x) = refl
    fit_bare (variable_syntax at x) = refl
    fit_bare (power_syntax u k) = λ i. fit_bare u i && fits (pow (unit_bare u i) k)
    fit_bare (side_syntax us) = products_bare one us
    fit_bare (times_syntax u v) = λ i. fit_bare u i && (fit_bare v i && fits (mul (unit_bare u i) (unit_bare v i)))
    fit_bare (over_syntax u v) = λ i. fit_bare u i && (fit_bare v i && fits (mul (unit_bare u i) (inv (unit_bare v i))))
    fit_bare (inverse_syntax at u) = fit_bare u
    fit_bare (bracket_syntax at u) = fit_bare u

    products_bare : (before : PowerMap) (us : UnitSyntaxes) → products_fit measures variables before (bare_units us) ≡ products_fit measures variables before us
    products_bare before no_units = refl
    products_bare before (more_units u us) =
        (λ i. fit_bare u i && (fits (mul before (unit_bare u i)) && products_fit measures variables (mul before (unit_bare u i)) (bare_units us)))
        ∙ ap (λ b. parts_fit measures variables u && (fits (mul before (unit_of measures variables u)) && b)) (products_bare (mul before (unit_of measures variables u)) us)

  within_bare : (b : Bool) (w : PowerMap) (at : ℕ) → bare_found itself (cond b (Ok w) (Err (range at))) ≡ cond b (Ok w) (Err (range 0))
  within_bare true w at = refl
  within_bare false w at = refl

  ranged_bare : (u : UnitSyntax) (o : Option ℕ) → bare_found itself (ranged measures variables u o) ≡ ranged measures variables (bare_unit u) (zero_place o)
  ranged_bare u (Some at) = refl
  ranged_bare u None =
      within_bare (parts_fit measures variables u) (unit_of measures variables u) (first_place u) ∙ (λ i. cond (sym (fit_bare u) i) (Ok (sym (unit_bare u) i)) (Err (range (sym (first_bare u) i))))

  pub resolved_unit_bare : (u : UnitSyntax) → bare_found itself (resolved_unit measures variables u) ≡ resolved_unit measures variables (bare_unit u)
  resolved_unit_bare u = ranged_bare u (unknown_in measures variables u) ∙ ap (ranged measures variables (bare_unit u)) (sym (unknown_bare u))

-- ---- records

pub record_names_bare : (ds : List RecordTree) → record_names (map unplaced_record ds) ≡ record_names ds
record_names_bare [] = refl
record_names_bare (d ∷ ds) = ap (λ ns. d.name ∷ ns) (record_names_bare ds)

pub record_at : (ds : List RecordTree) (k : ℕ) → slice_get (map unplaced_record ds) k ≡ option_map unplaced_record (slice_get ds k)
record_at [] k = refl
record_at (d ∷ ds) zero = refl
record_at (d ∷ ds) (suc k) = record_at ds k

counted_if : (b : Bool) (r at : ℕ) → bare_found itself (cond b (Ok r) (Err (wrong_count at))) ≡ cond b (Ok r) (Err (wrong_count 0))
counted_if true r at = refl
counted_if false r at = refl

counted_bare : (o : Option RecordTree) (r n at : ℕ) → bare_found itself (counted o r n at) ≡ counted (option_map unplaced_record o) r n 0
counted_bare None r n at = refl
counted_bare (Some d) r n at = counted_if (n == d.units) r at

declared_bare : (ds : List RecordTree) (o : Option ℕ) (n at : ℕ) → bare_found itself (declared_record ds o n at) ≡ declared_record (map unplaced_record ds) o n 0
declared_bare ds None n at = refl
declared_bare ds (Some r) n at = counted_bare (slice_get ds r) r n at ∙ ap (λ o. counted o r n 0) (sym (record_at ds r))

-- ---- types

abbrev pub bare_known : Known → Known
bare_known known = record { program = unplaced_program known.program; shorts = known.shorts }

hole_bare : (holes : Bool) (at : ℕ) → bare_found itself (hole_note holes at) ≡ hole_note holes 0
hole_bare true at = refl
hole_bare false at = refl

map_length : (ns : List NoteSyntax) → length (map bare_note ns) ≡ length ns
map_length [] = refl
map_length (n ∷ ns) = ap suc (map_length ns)

module _ (known : Known) (variables : List (List ℕ)) (holes : Bool) where
  note_bare : (n : NoteSyntax) → bare_found itself (resolved_note known variables holes n) ≡ resolved_note (bare_known known) variables holes (bare_note n)
  note_bare (hole_syntax at) = hole_bare holes at
  note_bare (unit_note_syntax at u) =
      one_bare itself itself (resolved_unit (measure_unit known) variables u) (resolved_unit (measure_unit known) variables (bare_unit u)) (λ v. note.Written v) (λ v. note.Written v) (resolved_unit_bare (measure_unit known) variables u) (λ v. refl)

  notes_bare : (ns : List NoteSyntax) → bare_found itself (resolved_notes known variables holes ns) ≡ resolved_notes (bare_known known) variables holes (map bare_note ns)
  notes_bare [] = refl
  notes_bare (n ∷ ns) =
      two_bare itself itself itself (resolved_note known variables holes n) (resolved_note (bare_known known) variables holes (bare_note n)) (resolved_notes known variables holes ns) (resolved_notes (bare_known known) variables holes (map bare_note ns)) (λ y ys. y ∷ ys) (λ y ys. y ∷ ys) (note_bare n) (notes_bare ns) (λ y ys. refl)

  resolved_record_bare : (x : List ℕ) (n at : ℕ) → bare_found itself (resolved_record known x n at) ≡ resolved_record (bare_known known) x n 0
  resolved_record_bare x n at =
      declared_bare known.program.records (number_of (record_names known.program.records) x) n at
      ∙ ap (λ ns. declared_record (map unplaced_record known.program.records) (number_of ns x) n 0) (sym (record_names_bare known.program.records))

  pub type_bare : (t : TypeSyntax) → bare_found itself (resolved_type known variables holes t) ≡ resolved_type (bare_known known) variables holes (bare_type t)
  type_bare bool_syntax = refl
  type_bare (num_syntax None) = refl
  type_bare (num_syntax (Some n)) = one_bare itself itself (resolved_note known variables holes n) (resolved_note (bare_known known) variables holes (bare_note n)) num_note num_note (note_bare n) (λ m. refl)
  type_bare (record_syntax at x ns) =
      two_bare itself itself itself (resolved_record known x (length ns) at) (resolved_record (bare_known known) x (length (map bare_note ns)) 0) (resolved_notes known variables holes ns) (resolved_notes (bare_known known) variables holes (map bare_note ns)) record_note record_note
      (resolved_record_bare x (length ns) at ∙ ap (λ n. resolved_record (bare_known known) x n 0) (sym (map_length ns))) (notes_bare ns) (λ r ms. refl)
  type_bare (list_type_syntax t) = one_bare itself itself (resolved_type known variables holes t) (resolved_type (bare_known known) variables holes (bare_type t)) list_note list_note (type_bare t) (λ n. refl)
  type_bare (bracket_type_syntax t) = type_bare t

-- ---- variables

mutual
  unit_variables_bare : (u : UnitSyntax) → unit_variables (bare_unit u) ≡ unit_variables u
  unit_variables_bare (one_syntax at) = refl
  unit_variables_bare (measure_syntax at x) = refl
  unit_variables_bare (variable_syntax at x) = refl
  unit_variables_bare (power_syntax u k) = unit_variables_bare u
  unit_variables_bare (side_syntax us) = all_variables_bare us
  unit_variables_bare (times_syntax u v) = λ i. unit_variables_bare u i ++ unit_variables_bare v i
  unit_variables_bare (over_syntax u v) = λ i. unit_variables_bare u i ++ unit_variables_bare v i
  unit_variables_bare (inverse_syntax at u) = unit_variables_bare u
  unit_variables_bare (bracket_syntax at u) = unit_variables_bare u

  all_variables_bare : (us : UnitSyntaxes) → all_unit_variables (bare_units us) ≡ all_unit_variables us
  all_variables_bare no_units = refl
  all_variables_bare (more_units u us) = λ i. unit_variables_bare u i ++ all_variables_bare us i

note_variables_bare : (n : NoteSyntax) → note_variables (bare_note n) ≡ note_variables n
note_variables_bare (hole_syntax at) = refl
note_variables_bare (unit_note_syntax at u) = unit_variables_bare u

notes_variables_bare : (ns : List NoteSyntax) → flat_map note_variables (map bare_note ns) ≡ flat_map note_variables ns
notes_variables_bare [] = refl
notes_variables_bare (n ∷ ns) = λ i. note_variables_bare n i ++ notes_variables_bare ns i

pub type_variables_bare : (t : TypeSyntax) → type_variables (bare_type t) ≡ type_variables t
type_variables_bare bool_syntax = refl
type_variables_bare (num_syntax None) = refl
type_variables_bare (num_syntax (Some n)) = note_variables_bare n
type_variables_bare (record_syntax at x ns) = notes_variables_bare ns
type_variables_bare (list_type_syntax t) = type_variables_bare t
type_variables_bare (bracket_type_syntax t) = type_variables_bare t
