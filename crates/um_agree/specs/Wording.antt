-- How an agreement is told: a line that says what must be equal, and a word for each of the two types.
-- Source: this project's own texts.
use Rattle.std.specs.Prelude.{ℕ, List, ◌++◌, codes, Option, Some, None, slice_get}
use Rattle.std.specs.Fmt.{decimal}
use Rattle.um_tree.specs.ProgramTree.{FieldTree, RecordTree, FunctionTree, ProgramTree}
use Rattle.um_agree.specs.declared.rule.Rule.{Rule}
use Rattle.um_agree.specs.declared.rule.Rule.TheVariants as asks

abbrev pub function_name : Option FunctionTree → List ℕ
function_name (Some f) = f.name
function_name None = codes ""

abbrev pub named_field : Option FieldTree → List ℕ
named_field (Some f) = f.name
named_field None = codes ""

abbrev pub field_name : Option RecordTree → ℕ → List ℕ
field_name (Some d) k = named_field (slice_get d.fields k)
field_name None k = codes ""

-- in function i of the program
abbrev pub agreement_line : ProgramTree → ℕ → Rule → List ℕ
agreement_line p i asks.Sum = codes "the two sides of this sum must have the same type"
agreement_line p i asks.Difference = codes "the two sides of this difference must have the same type"
agreement_line p i asks.Comparison = codes "the two sides of this comparison must have the same type"
agreement_line p i asks.Branches = codes "the branches of this if must have the same type"
agreement_line p i asks.Arms = codes "the arms of this match must have the same type"
agreement_line p i (asks.Item k) = codes "the items of this list must have the same type"
agreement_line p i asks.Head = codes "the head of this list must have the type of the tail's items"
agreement_line p i (asks.Argument j k) =
    codes "argument " ++ decimal k ++ codes " of " ++ function_name (slice_get p.functions j)
    ++ codes " must have the type of its parameter"
agreement_line p i (asks.Part r k) =
    codes "field " ++ field_name (slice_get p.records r) k ++ codes " of this record must have its declared type"
agreement_line p i asks.ResultNote =
    codes "the body of " ++ function_name (slice_get p.functions i) ++ codes " must have the type of its result"

-- the word before the first type
abbrev pub first_word : Rule → List ℕ
first_word asks.Sum = codes "left"
first_word asks.Difference = codes "left"
first_word asks.Comparison = codes "left"
first_word asks.Branches = codes "then"
first_word asks.Arms = codes "empty"
first_word (asks.Item k) = codes "item 1"
first_word asks.Head = codes "head"
first_word (asks.Argument j k) = codes "parameter"
first_word (asks.Part r k) = codes "declared"
first_word asks.ResultNote = codes "body"

-- and before the second
abbrev pub second_word : Rule → List ℕ
second_word asks.Sum = codes "right"
second_word asks.Difference = codes "right"
second_word asks.Comparison = codes "right"
second_word asks.Branches = codes "else"
second_word asks.Arms = codes "full"
second_word (asks.Item k) = codes "item " ++ decimal k
second_word asks.Head = codes "items"
second_word (asks.Argument j k) = codes "argument"
second_word (asks.Part r k) = codes "part"
second_word asks.ResultNote = codes "result"
