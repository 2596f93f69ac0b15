-- What the typing rule of each node gives over the types of its parts: the node's rows, and then its type.
-- Source: Kennedy (1996): sums and comparisons need equal units, products and quotients have the product and the
-- quotient of the units; F# specification, Units Of Measure. Which of two equal types stands for both is this project's
-- own.
use Rattle.std.specs.Prelude.{ℕ, Bool, true, ◌==◌, List, [], ◌∷◌, ◌++◌, map, length, if◌then◌else◌, slice_get, Option}
use Rattle.std.specs.Prelude.{Some, None, ℤ}
use Rattle.um_frac.specs.declared.number.Frac.{Frac}
use Rattle.um_frac.specs.Fraction.{numerator}
use Rattle.um_units.specs.Terms.{is_zero}
use Rattle.um_units.specs.PowerMap.{PowerMap, mul, pow, inv}
use Rattle.um_tree.specs.declared.note.UnitNote.{UnitNote}
use Rattle.um_tree.specs.declared.note.UnitNote.TheVariants.{Hole, Written}
use Rattle.um_tree.specs.declared.expression.Arith.{Arith}
use Rattle.um_tree.specs.declared.expression.Arith.TheVariants.{Add, Sub, Mul, Div}
use Rattle.um_tree.specs.TypeTree.{TypeTree, bool_type, num_type, list_type, record_type}
use Rattle.um_tree.specs.ProgramTree.{RecordTree, Signature}
use Rattle.um_tree.specs.Typing.{put, unit_at, field_types}
use Rattle.um_equal_types.specs.Steps.{Step, type_at}
use Rattle.um_equal_types.specs.Against.{never, unit_against, against, types_against, against_each}

-- the type of an expression over slots, and the steps that lead to it
pub record Derived : Type 0 where
  pub type : TypeTree
  pub steps : List Step

-- the same of expressions in order
pub record AllDerived : Type 0 where
  pub types : List TypeTree
  pub steps : List Step

-- the steps of the parts come before those of the node
abbrev pub after : List Step → Derived → Derived
after ss d = record { type = d.type; steps = ss ++ d.steps }

-- a node's rows, and then its type
abbrev pub formed : ℕ → List Step → TypeTree → Derived
formed at rows t = record { type = t; steps = rows ++ type_at at t ∷ [] }

-- a part hasn't the shape that the node asks for
abbrev pub mismatch : ℕ → Derived
mismatch at = formed at (never at) bool_type

abbrev pub asks_bool : ℕ → TypeTree → List Step
asks_bool at bool_type = []
asks_bool at t = never at

abbrev pub asks_list : ℕ → TypeTree → List Step
asks_list at (list_type t) = []
asks_list at t = never at

-- the type of a list's items
abbrev pub item : TypeTree → TypeTree
item (list_type t) = t
item t = bool_type

-- ---- the nodes

-- a number with a hole is 0
abbrev pub asks_zero : ℕ → Frac → UnitNote → List Step
asks_zero at c Hole = if is_zero (numerator c) then [] else never at
asks_zero at c (Written u) = []

abbrev pub number_rule : ℕ → Frac → UnitNote → PowerMap → Derived
number_rule at c n u = formed at (asks_zero at c n) (num_type u)

abbrev pub local_rule : ℕ → Option TypeTree → Derived
local_rule at (Some t) = formed at [] t
local_rule at None = mismatch at

-- parameter against argument, argument by argument
abbrev pub call_rule : ℕ → Option Signature → List TypeTree → Derived
call_rule at (Some g) ts = formed at (types_against at g.params ts) g.result
call_rule at None ts = mismatch at

abbrev pub negate_rule : ℕ → TypeTree → Derived
negate_rule at (num_type u) = formed at [] (num_type u)
negate_rule at t = mismatch at

abbrev pub not_rule : ℕ → TypeTree → Derived
not_rule at t = formed at (asks_bool at t) bool_type

-- the unit of the part, raised
abbrev pub pown_rule : ℕ → ℤ → TypeTree → Derived
pown_rule at k (num_type u) = formed at [] (num_type (pow u k))
pown_rule at k t = mismatch at

-- `&&` and `||`
abbrev pub truths_rule : ℕ → TypeTree → TypeTree → Derived
truths_rule at s t = formed at (asks_bool at s ++ asks_bool at t) bool_type

abbrev pub units_rule : ℕ → Arith → PowerMap → PowerMap → Derived
units_rule at Add u v = formed at (unit_against at u v ∷ []) (num_type u)
units_rule at Sub u v = formed at (unit_against at u v ∷ []) (num_type u)
units_rule at Mul u v = formed at [] (num_type (mul u v))
units_rule at Div u v = formed at [] (num_type (mul u (inv v)))

abbrev pub arith_rule : ℕ → Arith → TypeTree → TypeTree → Derived
arith_rule at op (num_type u) (num_type v) = units_rule at op u v
arith_rule at op s t = mismatch at

abbrev pub compare_rule : ℕ → TypeTree → TypeTree → Derived
compare_rule at (num_type u) (num_type v) = formed at (unit_against at u v ∷ []) bool_type
compare_rule at s t = mismatch at

-- the first arm against the second
abbrev pub if_rule : ℕ → TypeTree → TypeTree → TypeTree → Derived
if_rule at c s t = formed at (asks_bool at c ++ against at s t) s

-- the empty arm against the full one
abbrev pub split_rule : ℕ → TypeTree → TypeTree → TypeTree → Derived
split_rule at l s t = formed at (asks_list at l ++ against at s t) s

abbrev pub nil_rule : ℕ → TypeTree → Derived
nil_rule at t = formed at (asks_list at t) t

-- the first item against each other
abbrev pub list_rule : ℕ → List TypeTree → Derived
list_rule at [] = mismatch at
list_rule at (t ∷ ts) = formed at (against_each at t ts) (list_type t)

-- the head against the tail's item
abbrev pub cons_rule : ℕ → TypeTree → TypeTree → Derived
cons_rule at s (list_type t) = formed at (against at s t) (list_type t)
cons_rule at s t = mismatch at

-- a value of record r at these units: declared type against part, field by field
abbrev pub record_rule : ℕ → ℕ → List PowerMap → Option RecordTree → List TypeTree → Derived
record_rule at r us (Some d) ts =
    formed at (types_against at (map (put (unit_at us)) (field_types d)) ts) (record_type r us)
record_rule at r us None ts = mismatch at

-- a field of a value of a record at these units: it is of the record that is asked for, and takes as many units
abbrev pub declared_rule : ℕ → List PowerMap → Bool → Option TypeTree → Derived
declared_rule at us true (Some t) = formed at [] (put (unit_at us) t)
declared_rule at us b o = mismatch at

abbrev pub found_rule : ℕ → ℕ → List PowerMap → Bool → Option RecordTree → Derived
found_rule at k us true (Some d) = declared_rule at us (length us == d.units) (slice_get (field_types d) k)
found_rule at k us b o = mismatch at

abbrev pub field_rule : ℕ → ℕ → ℕ → Option RecordTree → TypeTree → Derived
field_rule at r k o (record_type q us) = found_rule at k us (q == r) o
field_rule at r k o t = mismatch at
