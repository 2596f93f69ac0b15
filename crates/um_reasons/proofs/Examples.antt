-- What is told, by computation of the definitions: `x + 1<m>`, then `y + 1<s>`, then `x + y`.
use Rattle.std.proofs.Common.{◌≡◌, ℤ, pos, negsuc, List, [], ◌∷◌, Option, Some, None, refl}
use Rattle.um_units.specs.declared.Atom.TheVariants.{Base, Var}
use Rattle.um_units.specs.declared.Term.{Term}
use Rattle.um_units.specs.PowerMap.{PowerMap, product}
use Rattle.um_tree.specs.TypeTree.{TypeTree, bool_type, num_type, list_type, record_type}
use Rattle.um_reasons.specs.Reasons.{Reason, disagree, units_pass, other_rows, reason}

-- ---- the terms of what is told
abbrev unit_terms : TypeTree → List Term
unit_terms bool_type = []
unit_terms (num_type u) = u.terms
unit_terms (list_type t) = unit_terms t
unit_terms (record_type r us) = []

abbrev factor_terms : Option PowerMap → Option (List Term)
factor_terms None = None
factor_terms (Some u) = Some u.terms

abbrev told : Reason → Option (List Term × List Term × Option (List Term))
told (disagree first second factor) = Some (unit_terms first, unit_terms second, factor_terms factor)
told units_pass = None

-- ---- metres are base unit 0 and seconds base unit 1
abbrev metre : ℤ → Term
metre k = record { atom = Base 0; power = k }

abbrev second : ℤ → Term
second k = record { atom = Base 1; power = k }

abbrev x : ℤ → Term
x k = record { atom = Var 0; power = k }

abbrev y : ℤ → Term
y k = record { atom = Var 1; power = k }

abbrev rows : List PowerMap
rows = product (x (pos 1) ∷ metre (negsuc 0) ∷ []) ∷ product (y (pos 1) ∷ second (negsuc 0) ∷ []) ∷ product (x (pos 1) ∷ y (negsuc 0) ∷ []) ∷ []

-- the rows of the core but the last, in order
in_order : other_rows 3 (2 ∷ 1 ∷ 0 ∷ []) ≡ 0 ∷ 1 ∷ []
in_order = refl

-- the first type times s/m is the second
metres_and_seconds : told (reason 2 0 2 rows (2 ∷ 1 ∷ 0 ∷ []) (num_type (product (x (pos 1) ∷ []))) (num_type (product (y (pos 1) ∷ []))))
    ≡ Some (metre (pos 1) ∷ [], second (pos 1) ∷ [], Some (metre (negsuc 0) ∷ second (pos 1) ∷ []))
unfolding product
metres_and_seconds = refl

-- without the row of y its type stays open, and there is no factor
open_type : told (reason 2 0 2 rows (2 ∷ 0 ∷ []) (list_type (num_type (product (x (pos 1) ∷ [])))) (list_type (num_type (product (y (pos 1) ∷ [])))))
    ≡ Some (metre (pos 1) ∷ [], y (pos 1) ∷ [], None)
unfolding product
open_type = refl

-- a unit parameter is a unit of its own, and no factor holds it
parameter : told (reason 2 1 1 (product (x (pos 1) ∷ metre (negsuc 0) ∷ []) ∷ []) (0 ∷ []) (num_type (product (x (pos 1) ∷ []))) (num_type (product (metre (pos 1) ∷ []))))
    ≡ Some ((record { atom = Base 2; power = pos 1 }) ∷ [], metre (pos 1) ∷ [], None)
unfolding product
parameter = refl

-- a power of a type passes the range
out_of_range : told (reason 2 0 2 (product (x (pos 1) ∷ metre (negsuc 1) ∷ []) ∷ product (x (pos 1) ∷ y (negsuc 0) ∷ []) ∷ []) (1 ∷ 0 ∷ []) (num_type (product (x (pos 2000000000) ∷ []))) (num_type (product (y (pos 1) ∷ [])))) ≡ None
unfolding product
out_of_range = refl
