-- The types of a signature text: the names of the whole text come first, and then ranges. Each unit variable is known.
-- Source: this project's own.
use Rattle.std.specs.Prelude.{ℕ, false, List, [], ◌∷◌, length, Option, Some, None, Ok, Err}
use Rattle.std.specs.List.{flat_map}
use Rattle.um_tree.specs.TypeTree.{TypeTree}
use Rattle.um_tree.specs.RawTree.{NoteSyntax, hole_syntax, unit_note_syntax, TypeSyntax, bool_syntax, num_syntax}
use Rattle.um_tree.specs.RawTree.{record_syntax, list_type_syntax, bracket_type_syntax}
use Rattle.um_measures.specs.Faults.{unknown, hole, Found, and_then, each}
use Rattle.um_measures.specs.Known.{Known, measure_unit}
use Rattle.um_measures.specs.UnitNames.{unknown_in}
use Rattle.um_names.specs.TypeNames.{resolved_record, resolved_type, written_type}
use Rattle.um_measures.specs.Variables.{type_variables, first_occurrences}

-- types, and the number of their unit variables
pub record SignatureTypes : Type 0 where
  pub types : List TypeTree
  pub vars : ℕ

abbrev pub unless_unknown : Option ℕ → Found (Unit {0})
unless_unknown None = Ok tt
unless_unknown (Some at) = Err (unknown at)

-- what is known, and the unit variables: the first fault besides a range
module _ (known : Known) (variables : List (List ℕ)) where
  abbrev pub note_names : NoteSyntax → Found (Unit {0})
  note_names (hole_syntax at) = Err (hole at)
  note_names (unit_note_syntax at u) = unless_unknown (unknown_in (measure_unit known) variables u)

  abbrev pub all_note_names : List NoteSyntax → Found (Unit {0})
  all_note_names [] = Ok tt
  all_note_names (n ∷ ns) = and_then (note_names n) (λ _. all_note_names ns)

  abbrev pub number_names : Option NoteSyntax → Found (Unit {0})
  number_names None = Ok tt
  number_names (Some n) = note_names n

  abbrev pub type_names : TypeSyntax → Found (Unit {0})
  type_names bool_syntax = Ok tt
  type_names (num_syntax n) = number_names n
  type_names (record_syntax at x ns) = and_then (resolved_record known x (length ns) at) (λ _. all_note_names ns)
  type_names (list_type_syntax t) = type_names t
  type_names (bracket_type_syntax t) = type_names t

  abbrev pub all_type_names : List TypeSyntax → Found (Unit {0})
  all_type_names [] = Ok tt
  all_type_names (t ∷ ts) = and_then (type_names t) (λ _. all_type_names ts)

  -- after names that are known only a range is refused
  abbrev pub one_type : TypeSyntax → Found TypeTree
  one_type t = and_then (resolved_type known variables false t) (λ n. Ok (written_type n))

  abbrev pub resolved_types : List TypeSyntax → Found (List TypeTree)
  resolved_types ts = each one_type ts

-- its unit variables, in the order of their numbers
abbrev pub signature_variables : List TypeSyntax → List (List ℕ)
signature_variables ts = first_occurrences [] (flat_map type_variables ts)

unfoldable pub resolved_signature : Known → List TypeSyntax → Found SignatureTypes
resolved_signature known ts =
    let variables = signature_variables ts in
    and_then (all_type_names known variables ts) (λ _.
    and_then (resolved_types known variables ts) (λ types. Ok (record { types = types; vars = length variables })))
