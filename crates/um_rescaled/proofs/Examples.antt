-- A small program at other places and in other sizes, and what its inference comes to, by computation of the definitions.
use Rattle.std.proofs.Common.{◌≡◌, ℕ, [], ◌∷◌, refl}
use Rattle.um_units.specs.PowerMap.{product}
use Rattle.um_tree.specs.declared.note.UnitNote.TheVariants.{Written}
use Rattle.um_tree.specs.declared.expression.Arith.TheVariants.{Add}
use Rattle.um_tree.specs.TypeTree.{num_note}
use Rattle.um_tree.specs.ExprTree.{number, local, arith as arith_tree}
use Rattle.um_tree.specs.ProgramTree.{ProgramTree}
use Rattle.um_tree.proofs.ExamplePrograms.{one_number, zero_number, metre, second, plain, with_functions}
use Rattle.um_infer.specs.Inference.{stops_at_units, infer}
use Rattle.um_rescaled.specs.UnplacedInferences.{unplaced_inference}
use Rattle.um_rescaled.proofs.Changed.{changed_program}

-- let sum (x: num<m>) = x + 1<s>, whose sum stands at the place
abbrev sum : ℕ → ProgramTree
sum at = with_functions (plain (num_note (Written metre) ∷ []) (arith_tree at Add (local 1 0) (number 5 one_number (Written second))) ∷ [])

-- it is refused for the units of the sum, its first equation
refused : infer (sum 3) ≡ stops_at_units 0 0 3
unfolding product
refused = refl

-- elsewhere it is refused at the other place: without the place this is the same
refused_elsewhere : infer (sum 7) ≡ stops_at_units 0 0 7
unfolding product
refused_elsewhere = refl

same_refusal : unplaced_inference (infer (sum 7)) ≡ unplaced_inference (infer (sum 3))
unfolding product
same_refusal = refl

-- and with 0<s> in place of 1<s> it is refused all the same
other_number : infer (changed_program (λ at. at) (λ c n. zero_number) (sum 3)) ≡ stops_at_units 0 0 3
unfolding product
other_number = refl
