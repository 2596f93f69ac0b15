-- The agreements of small bodies, by computation of the definitions.
use Rattle.std.proofs.Common.{◌≡◌, ℕ, pos, true, false, List, [], ◌∷◌, map, refl}
use Rattle.um_frac.specs.declared.number.Frac.{Frac}
use Rattle.um_units.specs.declared.Atom.TheVariants.{Base, Var}
use Rattle.um_units.specs.declared.Term.{Term}
use Rattle.um_units.specs.PowerMap.{PowerMap, product, one}
use Rattle.um_tree.specs.declared.expression.Arith.TheVariants.{Add, Sub, Mul}
use Rattle.um_tree.specs.declared.note.UnitNote.TheVariants.{Written}
use Rattle.um_tree.specs.TypeTree.{TypeTree, bool_type, num_type, list_type, record_type}
use Rattle.um_tree.specs.ExprTree.{ExprTree, truth, number, local, call, arith, if, list_expr, cons, none, more}
use Rattle.um_tree.specs.ProgramTree.{Signature}
use Rattle.um_slots.specs.Holes.{Callee, known_by}
use Rattle.um_agree.specs.declared.rule.Rule.{Rule}
use Rattle.um_agree.specs.declared.rule.Rule.TheVariants as asks
use Rattle.um_agree.specs.Agreements.{Agreement}
use Rattle.um_agree.specs.RowAgreements.{agreement_of}
use Rattle.um_agree.specs.FunctionAgreements.{agreements}

-- ---- an agreement by the terms of its types
abbrev unit_terms : TypeTree → List Term
unit_terms bool_type = []
unit_terms (num_type u) = u.terms
unit_terms (list_type t) = unit_terms t
unit_terms (record_type r us) = []

abbrev view : Agreement → Rule × ℕ × List Term × List Term
view a = (a.rule, a.at, unit_terms a.first, unit_terms a.second)

-- ---- two parameters, at slots 0 and 1, and a function 3 of one parameter, whose scheme has one variable
abbrev slot_terms : ℕ → List Term
slot_terms k = record { atom = Var k; power = pos 1 } ∷ []

abbrev metres : List Term
metres = record { atom = Base 0; power = pos 1 } ∷ []

abbrev slots : ℕ → PowerMap
slots k = product (slot_terms k)

abbrev scope : List TypeTree
scope = num_type (slots 0) ∷ num_type (slots 1) ∷ []

abbrev self : Signature
self = record { params = []; result = bool_type }

abbrev callee : ℕ → Callee
callee j = known_by (record { vars = 1; signature = record { params = num_type (slots 0) ∷ []; result = bool_type } })

abbrev agreed : ExprTree → List Agreement
agreed e = agreements slots (λ k. one) [] self callee 5 scope e

abbrev metre : Frac → ExprTree
metre c = number 9 c (Written (product metres))

-- `x + 1<m>`
a_sum : (c : Frac) → map view (agreed (arith 7 Add (local 3 0) (metre c))) ≡ (asks.Sum, 7, slot_terms 0, metres) ∷ []
unfolding product
a_sum c = refl

-- a product asks for nothing of its own
a_product : (c : Frac) → map view (agreed (arith 7 Mul (arith 5 Sub (local 3 0) (local 4 1)) (metre c))) ≡ (asks.Difference, 5, slot_terms 0, slot_terms 1) ∷ []
unfolding product
a_product c = refl

-- `[x; 1<m>; y]`: the first item with each other
a_list : (c : Frac) → map view (agreed (list_expr 2 (more (local 3 0) (more (metre c) (more (local 4 1) none)))))
    ≡ (asks.Item 2, 2, slot_terms 0, metres) ∷ (asks.Item 3, 2, slot_terms 0, slot_terms 1) ∷ []
unfolding product
a_list c = refl

-- `x :: [y]`: the items of the tail, not the list
a_head : map view (agreed (cons 6 (local 3 0) (list_expr 7 (more (local 8 1) none)))) ≡ (asks.Head, 6, slot_terms 0, slot_terms 1) ∷ []
unfolding product
a_head = refl

-- `f y`: the parameter at a new instance of the scheme, whose first hole is number 5
a_call : map view (agreed (call 1 3 (more (local 2 1) none))) ≡ (asks.Argument 3 1, 1, slot_terms 5, slot_terms 1) ∷ []
unfolding product
a_call = refl

-- an agreement of truth values has no row: the first row is of the next agreement
abbrev truths : ExprTree
truths = if 1 (truth 1 true) (truth 2 true) (truth 3 false)

a_row : agreement_of (agreed (if 4 truths (arith 5 Add (local 6 0) (local 7 1)) (local 8 0))) 0 ≡ 1
unfolding product
a_row = refl

the_next : agreement_of (agreed (if 4 truths (arith 5 Add (local 6 0) (local 7 1)) (local 8 0))) 1 ≡ 2
unfolding product
the_next = refl
