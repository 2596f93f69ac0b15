-- Listings of small codes, as they are computed. Digits aren't computed here: tests print numbers.
use Rattle.std.proofs.Common.{◌≡◌, refl, ap, pos, true, false, None, ℕ, List, [], ◌∷◌, ◌++◌, codes}
use Rattle.std.proofs.lemmas.List.{append-nil}
use Rattle.std.specs.Fmt.{decimal, signed_decimal}
use Rattle.um_tree.specs.ProgramTree.{ProgramTree}
use Rattle.um_tree.specs.ExprTree.{local}
use Rattle.um_tree.proofs.ExamplePrograms.{one_number, sum}
use Rattle.um_show.specs.NumberText.{number_text}
use Rattle.um_machine.specs.declared.op.Op.TheVariants as op
use Rattle.um_code.specs.Listing.{op_text, listing_text}

place : op_text sum (op.Load 2) ≡ codes "load " ++ decimal 2
place = ap (λ t. codes "load " ++ t) (append-nil (decimal 2))

no_operands : op_text sum op.Add ≡ codes "add"
no_operands = refl

truth : op_text sum (op.PushBool true) ≡ codes "bool true"
truth = refl

number : op_text sum (op.PushNum one_number) ≡ codes "num " ++ number_text one_number
number = ap (λ t. codes "num " ++ t) (append-nil (number_text one_number))

power : op_text sum (op.Pow (pos 3)) ≡ codes "pown " ++ signed_decimal (pos 3)
power = ap (λ t. codes "pown " ++ t) (append-nil (signed_decimal (pos 3)))

-- type R with no more than a name, and functions f and g
abbrev named : ProgramTree
named = record {
  bases = [];
  records = record { name = codes "R"; at = 0; units = 0; fields = [] } ∷ [];
  functions =
      record { name = codes "f"; at = 0; recursive = false; units = 0; params = []; named = 0; result = None; body = local 0 0 }
      ∷ record { name = codes "g"; at = 0; recursive = false; units = 0; params = []; named = 0; result = None; body = local 0 0 }
      ∷ [];
}

record_by_name : op_text named (op.MakeRec 0 2) ≡ codes "rec R " ++ decimal 2
record_by_name = ap (λ t. codes "rec R " ++ t) (append-nil (decimal 2))

function_by_name : op_text named (op.Call 1) ≡ codes "call g"
function_by_name = refl

abbrev line : ℕ → List ℕ → List ℕ
line a text = decimal a ++ codes " " ++ text ++ codes "\n"

-- two functions, the second with two parameters
lines : listing_text named (record { ops = op.Not ∷ op.Ret ∷ op.Mul ∷ []; entries = record { start = 0; end = 2; params = 0 } ∷ record { start = 2; end = 3; params = 2 } ∷ [] }) ≡ codes "f " ++ decimal 0 ++ codes "\n" ++ (line 0 (codes "not") ++ (line 1 (codes "ret") ++ [])) ++ (codes "g " ++ decimal 2 ++ codes "\n" ++ (line 2 (codes "mul") ++ []) ++ [])
lines = refl
