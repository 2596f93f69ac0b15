-- What is told of a fault of a name: each place of a program at which a name may be refused, with what is known there.
-- A place has one name, so at most one of them is the fault's.
-- Source: this project's own rules of scope; spaces of names as in the F# specification, Name Resolution.
use Rattle.std.specs.Prelude.{ℕ, suc, ◌==◌, Bool, true, false, cond, List, [], ◌∷◌, ◌++◌, map, length, Option, Some}
use Rattle.std.specs.Prelude.{None}
use Rattle.std.specs.List.{flat_map}
use Rattle.std.specs.Str.{bytes_eq}
use Rattle.um_tree.specs.RawTree.{UnitSyntax, UnitSyntaxes, one_syntax, measure_syntax, variable_syntax, power_syntax}
use Rattle.um_tree.specs.RawTree.{side_syntax, times_syntax, over_syntax, inverse_syntax, bracket_syntax, no_units}
use Rattle.um_tree.specs.RawTree.{more_units, NoteSyntax, hole_syntax, unit_note_syntax, TypeSyntax, bool_syntax}
use Rattle.um_tree.specs.RawTree.{num_syntax, record_syntax, list_type_syntax, bracket_type_syntax, BinderSyntax}
use Rattle.um_tree.specs.RawTree.{ExprSyntax, ExprSyntaxes, FieldSyntaxes, truth_syntax, number_syntax, name_syntax}
use Rattle.um_tree.specs.RawTree.{call_syntax, negate_syntax, not_syntax, pown_syntax, arith_syntax, compare_syntax}
use Rattle.um_tree.specs.RawTree.{and_syntax, or_syntax, if_syntax, let_syntax, match_syntax, nil_syntax, list_syntax}
use Rattle.um_tree.specs.RawTree.{cons_syntax, fields_syntax, field_syntax, bracket_expr_syntax, no_exprs, more_exprs}
use Rattle.um_tree.specs.RawTree.{no_fields, more_fields, VarSyntax, FieldDeclSyntax, ParamSyntax, FunctionSyntax}
use Rattle.um_tree.specs.RawTree.{DeclSyntax, base_syntax, short_syntax, record_decl_syntax, function_syntax}
use Rattle.um_measures.specs.declared.stop.NameStop.{NameStop}
use Rattle.um_measures.specs.declared.stop.NameStop.TheVariants as stop
use Rattle.um_sites.specs.declared.detail.NameDetail.{NameDetail}
use Rattle.um_sites.specs.declared.detail.NameDetail.TheVariants as detail
use Rattle.um_sites.specs.declared.named.Named.{Named}
use Rattle.um_sites.specs.declared.spaces.Space.TheVariants.{Types, Measures, Records, Fields, Functions}
use Rattle.um_sites.specs.Spaces.{named, names_of, place_of, parts_of, bound, variable_named, field_named}
use Rattle.um_sites.specs.Spaces.{parameter_named, declared, fields_with, callable}

-- ---- a fault

abbrev pub is_unknown : NameStop → ℕ → Bool
is_unknown (stop.Unknown at) place = place == at
is_unknown (stop.Twice at) place = false
is_unknown (stop.WrongCount at) place = false
is_unknown (stop.Hole at) place = false
is_unknown (stop.Range at) place = false
is_unknown stop.NoMemory place = false

abbrev pub is_twice : NameStop → ℕ → Bool
is_twice (stop.Unknown at) place = false
is_twice (stop.Twice at) place = place == at
is_twice (stop.WrongCount at) place = false
is_twice (stop.Hole at) place = false
is_twice (stop.Range at) place = false
is_twice stop.NoMemory place = false

abbrev pub is_wrong_count : NameStop → ℕ → Bool
is_wrong_count (stop.Unknown at) place = false
is_wrong_count (stop.Twice at) place = false
is_wrong_count (stop.WrongCount at) place = place == at
is_wrong_count (stop.Hole at) place = false
is_wrong_count (stop.Range at) place = false
is_wrong_count stop.NoMemory place = false

abbrev pub is_hole : NameStop → ℕ → Bool
is_hole (stop.Unknown at) place = false
is_hole (stop.Twice at) place = false
is_hole (stop.WrongCount at) place = false
is_hole (stop.Hole at) place = place == at
is_hole (stop.Range at) place = false
is_hole stop.NoMemory place = false

abbrev pub is_range : NameStop → Bool
is_range (stop.Unknown at) = false
is_range (stop.Twice at) = false
is_range (stop.WrongCount at) = false
is_range (stop.Hole at) = false
is_range (stop.Range at) = true
is_range stop.NoMemory = false

abbrev pub told_if : Bool → NameDetail → List NameDetail
told_if true d = d ∷ []
told_if false d = []

abbrev pub counts : Option ℕ → ℕ → List NameDetail
counts None found = []
counts (Some expected) found = detail.Counts expected found ∷ []

-- what is told of each item, given the items before it
abbrev pub told_each : {A : Type 0} → (List A → A → List NameDetail) → List A → List A → List NameDetail
told_each told before [] = []
told_each told before (x ∷ xs) = told before x ++ told_each told (before ++ x ∷ []) xs

-- ---- a body

abbrev pub count_exprs : ExprSyntaxes → ℕ
count_exprs no_exprs = 0
count_exprs (more_exprs e es) = suc (count_exprs es)

abbrev pub written_fields : FieldSyntaxes → List (List ℕ)
written_fields no_fields = []
written_fields (more_fields at x e fs) = x ∷ written_fields fs

-- the variables of the scope, and then the functions that may be called
abbrev pub known_in : List DeclSyntax → FunctionSyntax → List Named → List Named
known_in before f scope = scope ++ callable before f

-- the name of the function itself isn't known in its body unless it is `rec`
abbrev pub not_known : List DeclSyntax → FunctionSyntax → List Named → List ℕ → NameDetail
not_known before f scope x =
    cond (bytes_eq x f.name) (detail.Own x) (detail.Unknown x false (names_of (known_in before f scope)))

module _ (fault : NameStop) where
  -- ---- places of names

  -- a name that is used; quoted: a variable of a unit text; known: the names of its space known there, in order
  abbrev pub used : ℕ → List ℕ → Bool → List Named → List NameDetail
  used at x quoted known = told_if (is_unknown fault at) (detail.Unknown x quoted (names_of known))

  -- a name that is declared after those of its space
  abbrev pub declared_after : List Named → ℕ → List ℕ → List NameDetail
  declared_after before at x = told_if (is_twice fault at) (detail.Twice (place_of before x))

  abbrev pub bound_after : List Named → ℕ → Option (List ℕ) → List NameDetail
  bound_after before at None = []
  bound_after before at (Some x) = declared_after before at x

  -- so many arguments or units, if the name is known
  abbrev pub counted : ℕ → Option ℕ → ℕ → List NameDetail
  counted at expected found = cond (is_wrong_count fault at) (counts expected found) []

  -- ---- unit texts and types, after these declarations

  module _ (before : List DeclSyntax) where
    -- free: each variable is known by standing there, as in the notes of a function. Otherwise these are known
    module _ (free : Bool) (variables : List Named) where
      abbrev pub variable_told : ℕ → List ℕ → List NameDetail
      variable_told at x = cond free [] (used at x true variables)

      abbrev mutual
        pub unit_told : UnitSyntax → List NameDetail
        unit_told (one_syntax at) = []
        unit_told (measure_syntax at x) = used at x false (declared Measures before)
        unit_told (variable_syntax at x) = variable_told at x
        unit_told (power_syntax u k) = unit_told u
        unit_told (side_syntax us) = units_told us
        unit_told (times_syntax u v) = unit_told u ++ unit_told v
        unit_told (over_syntax u v) = unit_told u ++ unit_told v
        unit_told (inverse_syntax at u) = unit_told u
        unit_told (bracket_syntax at u) = unit_told u

        pub units_told : UnitSyntaxes → List NameDetail
        units_told no_units = []
        units_told (more_units u us) = unit_told u ++ units_told us

      -- of all types a field's alone is refused for a hole
      abbrev pub note_told : NoteSyntax → List NameDetail
      note_told (hole_syntax at) = told_if (is_hole fault at) detail.FieldHole
      note_told (unit_note_syntax at u) = unit_told u

      abbrev pub written_told : Option NoteSyntax → List NameDetail
      written_told None = []
      written_told (Some n) = note_told n

      abbrev pub type_told : TypeSyntax → List NameDetail
      type_told bool_syntax = []
      type_told (num_syntax n) = written_told n
      type_told (record_syntax at x ns) =
          used at x false (declared Records before) ++ counted at (parts_of (declared Records before) x) (length ns)
          ++ flat_map note_told ns
      type_told (list_type_syntax t) = type_told t
      type_told (bracket_type_syntax t) = type_told t

      abbrev pub result_told : Option TypeSyntax → List NameDetail
      result_told None = []
      result_told (Some t) = type_told t

    -- a number's unit; no variable is known in it. A hole is refused at the number's place
    abbrev pub number_told : ℕ → Option NoteSyntax → List NameDetail
    number_told at None = []
    number_told at (Some (hole_syntax place)) = told_if (is_hole fault at) detail.NumberHole
    number_told at (Some (unit_note_syntax place u)) = unit_told false [] u

    -- ---- expressions, in the body of this function

    -- a record text; expected are the fields of the record that has the first field written
    abbrev pub record_text_told : ℕ → List (List ℕ) → List NameDetail
    record_text_told at [] = []
    record_text_told at (x ∷ xs) =
        told_if (is_wrong_count fault at) (detail.Fields (names_of (fields_with before x)) (x ∷ xs))

    module _ (f : FunctionSyntax) where
      -- a name with so many arguments; a variable takes none
      abbrev pub name_told : List Named → ℕ → List ℕ → ℕ → List NameDetail
      name_told scope at x found =
          told_if (is_unknown fault at) (not_known before f scope x)
          ++ counted at (parts_of (known_in before f scope) x) found

      abbrev mutual
        pub expr_told : List Named → ExprSyntax → List NameDetail
        expr_told scope (truth_syntax at v) = []
        expr_told scope (number_syntax at c n) = number_told at n
        expr_told scope (name_syntax at x) = name_told scope at x 0
        expr_told scope (call_syntax at x es) = name_told scope at x (count_exprs es) ++ exprs_told scope es
        expr_told scope (negate_syntax at a) = expr_told scope a
        expr_told scope (not_syntax at a) = expr_told scope a
        expr_told scope (pown_syntax at a k) = expr_told scope a
        expr_told scope (arith_syntax at op a b) = expr_told scope a ++ expr_told scope b
        expr_told scope (compare_syntax at s a b) = expr_told scope a ++ expr_told scope b
        expr_told scope (and_syntax at a b) = expr_told scope a ++ expr_told scope b
        expr_told scope (or_syntax at a b) = expr_told scope a ++ expr_told scope b
        expr_told scope (if_syntax at c a b) = expr_told scope c ++ expr_told scope a ++ expr_told scope b
        expr_told scope (let_syntax at x a b) = expr_told scope a ++ expr_told (scope ++ bound x) b
        expr_told scope (match_syntax at l a x y b) =
            expr_told scope l ++ expr_told scope a ++ bound_after (bound x) y.at y.name
            ++ expr_told (scope ++ bound x ++ bound y) b
        expr_told scope (nil_syntax at t) = type_told true [] t
        expr_told scope (list_syntax at es) = exprs_told scope es
        expr_told scope (cons_syntax at a b) = expr_told scope a ++ expr_told scope b
        expr_told scope (fields_syntax at fs) = record_text_told at (written_fields fs) ++ fields_told scope fs
        expr_told scope (field_syntax at place x a) =
            expr_told scope a ++ used place x false (declared Fields before)
        expr_told scope (bracket_expr_syntax at a) = expr_told scope a

        pub exprs_told : List Named → ExprSyntaxes → List NameDetail
        exprs_told scope no_exprs = []
        exprs_told scope (more_exprs e es) = expr_told scope e ++ exprs_told scope es

        pub fields_told : List Named → FieldSyntaxes → List NameDetail
        fields_told scope no_fields = []
        fields_told scope (more_fields at x e fs) =
            used at x false (declared Fields before) ++ expr_told scope e ++ fields_told scope fs

    -- ---- parts of declarations

    -- a field of a record with these unit parameters, after the others; all records share one space of fields
    abbrev pub field_told : List VarSyntax → List FieldDeclSyntax → FieldDeclSyntax → List NameDetail
    field_told vs fs f =
        declared_after (declared Fields before ++ map field_named fs) f.at f.name
        ++ type_told false (map variable_named vs) f.type

    -- a parameter after the others
    abbrev pub parameter_told : List ParamSyntax → ParamSyntax → List NameDetail
    parameter_told ps p =
        bound_after (flat_map parameter_named ps) p.binder.at p.binder.name ++ type_told true [] p.type

  -- a unit parameter after the others
  abbrev pub variable_after : List VarSyntax → VarSyntax → List NameDetail
  variable_after vs v = declared_after (map variable_named vs) v.at v.name

  -- ---- declarations

  abbrev pub function_told : List DeclSyntax → FunctionSyntax → List NameDetail
  function_told before f =
      declared_after (declared Functions before) f.at f.name ++ told_each variable_after [] f.units
      ++ told_each (parameter_told before) [] f.params ++ result_told before true [] f.result
      ++ expr_told before f (flat_map parameter_named f.params) f.body

  -- a declaration after others; nothing is known in its own text but a `rec` function
  abbrev pub decl_told : List DeclSyntax → DeclSyntax → List NameDetail
  decl_told before (base_syntax at x) = declared_after (declared Types before) at x
  decl_told before (short_syntax at x u) =
      declared_after (declared Types before) at x ++ unit_told before false [] u
  decl_told before (record_decl_syntax at x vs fs) =
      declared_after (declared Types before) at x ++ told_each variable_after [] vs
      ++ told_each (field_told before vs) [] fs
  decl_told before (function_syntax f) = function_told before f

  -- a power past the range is told by itself
  abbrev pub range_told : List NameDetail
  range_told = cond (is_range fault) (detail.Powers ∷ []) []

  -- what is told of the fault, of a program as it is written
  abbrev pub program_told : List DeclSyntax → List NameDetail
  program_told ds = range_told ++ told_each decl_told [] ds
