-- What is told of every node, with a wrong part or with unequal parts, by computation. Digits aren't computed here.
use Rattle.std.proofs.Common.{◌≡◌, refl, ◌++◌, false, List, [], ◌∷◌, Option, Some, None, pos, codes, ℕ}
use Rattle.std.specs.Fmt.{decimal}
use Rattle.um_units.specs.PowerMap.{one}
use Rattle.um_tree.specs.declared.note.UnitNote.TheVariants.{Written}
use Rattle.um_tree.specs.declared.expression.Arith.TheVariants.{Add, Sub, Mul}
use Rattle.um_tree.specs.declared.expression.Sign.TheVariants.{Lt}
use Rattle.um_tree.specs.TypeTree.{num_type, bool_type, NoteTree, bool_note, num_note, list_note, record_note}
use Rattle.um_tree.specs.ExprTree.{ExprTree, local, call, negate, not_expr, pown, arith, compare, both, either, if, bind, split, nil, list_expr, cons, record_expr, field, none, more}
use Rattle.um_tree.specs.ProgramTree.{RecordTree, FunctionTree, ProgramTree}
use Rattle.um_mismatch.specs.ShapeDetails.{shape_details}

abbrev plain_num : NoteTree
plain_num = num_note (Written one)

abbrev function : List ℕ → List NoteTree → Option NoteTree → ExprTree → FunctionTree
function name params result body = record { name = name; at = 0; recursive = false; units = 0; params = params; named = 0; result = result; body = body }

-- type r = { a: num; b: bool }
abbrev numbered : RecordTree
numbered = record { name = codes "r"; at = 0; units = 0; fields = record { name = codes "a"; type = num_type one } ∷ record { name = codes "b"; type = bool_type } ∷ [] }

-- let g (n: num) (t: bool) = [n]
-- let f (x: num) (p: r) (l: num list) (t: bool) = BODY
abbrev program : Option NoteTree → ExprTree → ProgramTree
program result body = record {
  bases = [];
  records = numbered ∷ [];
  functions =
      function (codes "g") (plain_num ∷ bool_note ∷ []) None (list_expr 0 (more (local 0 0) none))
      ∷ function (codes "f") (plain_num ∷ record_note 0 [] ∷ list_note plain_num ∷ bool_note ∷ []) result body ∷ [];
}

abbrev details : ExprTree → List ℕ
details body = shape_details (program None body)

abbrev x : ExprTree
x = local 0 0

abbrev p : ExprTree
p = local 0 1

abbrev l : ExprTree
l = local 0 2

abbrev t : ExprTree
t = local 0 3

-- nothing is told of a program whose nodes all have a shape
nothing : details (call 0 0 (more x (more t none))) ≡ []
nothing = refl

-- `x + t`
a_sum : details (arith 0 Add x t)
    ≡ codes "this operation takes numbers\n  expected: num\n  found: bool\n"
a_sum = refl

-- `t + l`
a_left_part : details (arith 0 Sub t l)
    ≡ codes "this operation takes numbers\n  expected: num\n  found: bool\n"
a_left_part = refl

-- `x * p`
a_product : details (arith 0 Mul x p)
    ≡ codes "this operation takes numbers\n  expected: num\n  found: r\n"
a_product = refl

-- `-t`
a_negation : details (negate 0 t)
    ≡ codes "this operation takes numbers\n  expected: num\n  found: bool\n"
a_negation = refl

-- `pown l 2`
a_power : details (pown 0 l (pos 2))
    ≡ codes "this operation takes numbers\n  expected: num\n  found: num list\n"
a_power = refl

-- `x < [l]`
a_comparison : details (compare 0 Lt x (list_expr 0 (more l none)))
    ≡ codes "this operation takes numbers\n  expected: num\n  found: num list list\n"
a_comparison = refl

-- `not x`
a_not : details (not_expr 0 x)
    ≡ codes "this operation takes truth values\n  expected: bool\n  found: num\n"
a_not = refl

-- `t && x`
an_and : details (both 0 t x)
    ≡ codes "this operation takes truth values\n  expected: bool\n  found: num\n"
an_and = refl

-- `x || p`
an_or : details (either 0 x p)
    ≡ codes "this operation takes truth values\n  expected: bool\n  found: num\n"
an_or = refl

-- `if x then x else t`
a_condition : details (if 0 x x t)
    ≡ codes "this operation takes truth values\n  expected: bool\n  found: num\n"
a_condition = refl

-- `if t then x else l`
branches : details (if 0 t x l)
    ≡ codes "the branches of this if must have the same type\n  then: num\n  else: num list\n"
branches = refl

-- `match x with [] -> not x | h :: s -> l`
no_list : details (split 0 x (not_expr 0 x) l)
    ≡ codes "a list must stand here\n  expected: list\n  found: num\n"
no_list = refl

-- `match l with [] -> x | h :: s -> s`
arms : details (split 0 l x (local 0 5))
    ≡ codes "the arms of this match must have the same type\n  empty: num\n  full: num list\n"
arms = refl

-- `([] : num)`
an_empty_list : details (nil 0 (num_note (Written one)))
    ≡ codes "the type of the empty list must be a list\n  expected: list\n  found: num\n"
an_empty_list = refl

-- `[x; x; t; l]`
items : details (list_expr 0 (more x (more x (more t (more l none)))))
    ≡ codes "the items of this list must have the same type\n  item 1: num\n"
    ++ (codes "  item " ++ decimal 3 ++ codes ": " ++ codes "bool" ++ codes "\n")
items = refl

-- `t :: x`
a_tail : details (cons 0 t x)
    ≡ codes "a list must stand here\n  expected: list\n  found: num\n"
a_tail = refl

-- `t :: l`
a_head : details (cons 0 t l)
    ≡ codes "the head of this list must have the type of the tail's items\n  head: bool\n  items: num\n"
a_head = refl

-- `g x x`
an_argument : details (call 0 0 (more x (more x none)))
    ≡ codes "argument " ++ decimal 2 ++ codes " of " ++ codes "g" ++ codes " must have the type of its parameter"
    ++ codes "\n" ++ codes "  parameter: bool\n" ++ codes "  argument: num\n"
an_argument = refl

-- `g l x`
the_first_argument : details (call 0 0 (more l (more x none)))
    ≡ codes "argument " ++ decimal 1 ++ codes " of " ++ codes "g" ++ codes " must have the type of its parameter"
    ++ codes "\n" ++ codes "  parameter: num\n" ++ codes "  argument: num list\n"
the_first_argument = refl

-- `{ a = x; b = p }`
a_field : details (record_expr 0 0 (more x (more p none)))
    ≡ codes "field b of this record must have its declared type\n  declared: bool\n  part: r\n"
a_field = refl

-- `l.a`
a_field_access : details (field 0 0 0 l)
    ≡ codes "this field belongs to r\n  expected: r\n  found: num list\n"
a_field_access = refl

-- `not (x + t)`
a_part_first : details (not_expr 0 (arith 0 Add x t))
    ≡ codes "this operation takes numbers\n  expected: num\n  found: bool\n"
a_part_first = refl

-- `let y = [x] in y :: y`
after_let : details (bind 0 (list_expr 0 (more x none)) (cons 0 (local 0 4) (local 0 4)))
    ≡ codes "the head of this list must have the type of the tail's items\n  head: num list\n  items: num\n"
after_let = refl

-- `let f (x: num) .. : bool = x`
a_result : shape_details (program (Some bool_note) x)
    ≡ codes "the body of f must have the type of its result\n  body: num\n  result: bool\n"
a_result = refl
