-- What is found of every node, with a right and a wrong part, by computation.
use Rattle.std.proofs.Common.{◌≡◌, refl, true, List, [], ◌∷◌, Result, Ok, Err, pos, negsuc}
use Rattle.um_units.specs.PowerMap.{one}
use Rattle.um_tree.specs.declared.note.UnitNote.TheVariants.{Written}
use Rattle.um_tree.specs.declared.expression.Arith.TheVariants.{Add}
use Rattle.um_tree.specs.declared.expression.Sign.TheVariants.{Lt}
use Rattle.um_tree.specs.TypeTree.{ShapeTree, bool_shape, num_shape, list_shape, record_shape, bool_note, list_note}
use Rattle.um_tree.specs.ExprTree.{ExprTree, truth, number, local, call, negate, not_expr, pown, arith, compare, both, either, if, bind, split, nil, list_expr, cons, record_expr, field, none, more}
use Rattle.um_tree.specs.Shapes.{ShapeSignature}
use Rattle.um_tree.proofs.ExamplePrograms.{one_number}
use Rattle.um_shape.specs.RecordShapes.{RecordShape}
use Rattle.um_shape.specs.FirstFault.{ShapeFault, wrong_shape, found}

-- record 0 has a number and a truth value; function 0 takes a number and a truth value, and gives a list of numbers; the
-- variables are a number and a value of the record
abbrev records : List RecordShape
records = record { fields = num_shape ∷ bool_shape ∷ []; height = 2 } ∷ []

abbrev callees : List ShapeSignature
callees = record { params = num_shape ∷ bool_shape ∷ []; result = list_shape num_shape } ∷ []

abbrev finds : ExprTree → Result ShapeTree ShapeFault
finds e = found records callees (num_shape ∷ record_shape 0 ∷ []) e

-- parts at place 2, and the fault of a node at place 1
abbrev num : ExprTree
num = number 2 one_number (Written one)

abbrev yes : ExprTree
yes = truth 2 true

abbrev numbers : ExprTree
numbers = list_expr 2 (more num (more num none))

abbrev wrong : Result ShapeTree ShapeFault
wrong = Err (wrong_shape 1)

leaves : finds yes ∷ finds num ∷ finds (local 1 0) ∷ finds (local 1 1) ∷ finds (local 1 2) ∷ [] ≡ Ok bool_shape ∷ Ok num_shape ∷ Ok num_shape ∷ Ok (record_shape 0) ∷ wrong ∷ []
leaves = refl

single_parts :
    finds (negate 1 num) ∷ finds (negate 1 yes) ∷ finds (not_expr 1 yes) ∷ finds (not_expr 1 num)
    ∷ finds (pown 1 num (pos 3)) ∷ finds (pown 1 yes (pos 3)) ∷ finds (pown 1 numbers (negsuc 0)) ∷ []
    ≡ Ok num_shape ∷ wrong ∷ Ok bool_shape ∷ wrong ∷ Ok num_shape ∷ wrong ∷ wrong ∷ []
single_parts = refl

two_numbers :
    finds (arith 1 Add num num) ∷ finds (arith 1 Add num yes) ∷ finds (arith 1 Add yes num)
    ∷ finds (compare 1 Lt num num) ∷ finds (compare 1 Lt num yes) ∷ finds (compare 1 Lt yes num) ∷ []
    ≡ Ok num_shape ∷ wrong ∷ wrong ∷ Ok bool_shape ∷ wrong ∷ wrong ∷ []
two_numbers = refl

two_truths :
    finds (both 1 yes yes) ∷ finds (both 1 num yes) ∷ finds (both 1 yes num)
    ∷ finds (either 1 yes yes) ∷ finds (either 1 num yes) ∷ finds (either 1 yes num) ∷ []
    ≡ Ok bool_shape ∷ wrong ∷ wrong ∷ Ok bool_shape ∷ wrong ∷ wrong ∷ []
two_truths = refl

-- a condition is a truth value, and both arms have one shape; the variable of `let` comes after those of the scope
arms :
    finds (if 1 yes num num) ∷ finds (if 1 num num num) ∷ finds (if 1 yes num yes) ∷ finds (bind 1 yes (local 3 2)) ∷ finds (bind 1 yes (local 3 0)) ∷ []
    ≡ Ok num_shape ∷ wrong ∷ wrong ∷ Ok bool_shape ∷ Ok num_shape ∷ []
arms = refl

lists :
    finds numbers ∷ finds (list_expr 1 (more num (more yes none))) ∷ finds (list_expr 1 none) ∷ finds (nil 1 (list_note bool_note)) ∷ finds (nil 1 bool_note)
    ∷ finds (cons 1 num numbers) ∷ finds (cons 1 num num) ∷ finds (cons 1 yes numbers) ∷ []
    ≡ Ok (list_shape num_shape) ∷ wrong ∷ wrong ∷ Ok (list_shape bool_shape) ∷ wrong ∷ Ok (list_shape num_shape) ∷ wrong ∷ wrong ∷ []
lists = refl

-- head and tail are the two variables after those of the scope; a part that is no list is refused before the arms
matches :
    finds (split 1 numbers num (local 3 2)) ∷ finds (split 1 numbers numbers (local 3 3)) ∷ finds (split 1 numbers num (local 3 3)) ∷ finds (split 1 num (negate 5 yes) num) ∷ []
    ≡ Ok num_shape ∷ Ok (list_shape num_shape) ∷ wrong ∷ wrong ∷ []
matches = refl

calls :
    finds (call 1 0 (more num (more yes none))) ∷ finds (call 1 0 (more num (more num none))) ∷ finds (call 1 0 (more num none)) ∷ finds (call 1 1 none) ∷ []
    ≡ Ok (list_shape num_shape) ∷ wrong ∷ wrong ∷ wrong ∷ []
calls = refl

record_values :
    finds (record_expr 1 0 (more num (more yes none))) ∷ finds (record_expr 1 0 (more yes (more num none))) ∷ finds (record_expr 1 1 none)
    ∷ finds (field 1 0 0 (local 2 1)) ∷ finds (field 1 0 1 (local 2 1)) ∷ finds (field 1 0 2 (local 2 1)) ∷ finds (field 1 0 1 (local 2 0)) ∷ []
    ≡ Ok (record_shape 0) ∷ wrong ∷ wrong ∷ Ok num_shape ∷ Ok bool_shape ∷ wrong ∷ wrong ∷ []
record_values = refl

-- of several faults the left part's, and a part's before the node's own
first_of_several :
    finds (arith 5 Add (not_expr 1 num) (negate 6 yes)) ∷ finds (arith 5 Add num (negate 1 yes)) ∷ finds (arith 5 Add yes (negate 1 yes)) ∷ []
    ≡ wrong ∷ wrong ∷ wrong ∷ []
first_of_several = refl
