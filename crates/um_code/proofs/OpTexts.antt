-- The text of an instruction, as it is added part by part.
use Rattle.std.proofs.Common.{◌≡◌, sym, ap, ◌∙◌, ℕ, List, ◌++◌, codes, append_assoc}
use Rattle.std.specs.List.{flat_map}
use Rattle.std.proofs.lemmas.Grind.{flat_map-append}
use Rattle.um_tree.specs.ProgramTree.{ProgramTree}
use Rattle.um_machine.specs.declared.op.Op.{Op}
use Rattle.um_machine.specs.declared.table.Operand.{Operand}
use Rattle.um_machine.specs.Table.{op_word, op_operands}
use Rattle.um_code.specs.Listing.{operand_text, op_text}

abbrev pub spaced : ProgramTree → List Operand → List ℕ
spaced p os = flat_map (λ o. codes " " ++ operand_text p o) os

pub op_added : (p : ProgramTree) (i : Op) (xs ys : List Operand) (t0 t1 t2 t3 : List ℕ) → xs ++ ys ≡ op_operands i → t1 ≡ t0 ++ op_word i → t2 ≡ t1 ++ spaced p xs → t3 ≡ t2 ++ spaced p ys → t3 ≡ t0 ++ op_text p i
op_added p i xs ys t0 t1 t2 t3 h h1 h2 h3 =
    let word = op_word i in
    h3 ∙ ap (λ t. t ++ spaced p ys) (h2 ∙ ap (λ t. t ++ spaced p xs) h1)
    ∙ append_assoc (t0 ++ word) (spaced p xs) (spaced p ys)
    ∙ append_assoc t0 word (spaced p xs ++ spaced p ys)
    ∙ ap (λ r. t0 ++ (word ++ r)) (sym (flat_map-append (λ o. codes " " ++ operand_text p o) xs ys) ∙ ap (spaced p) h)
