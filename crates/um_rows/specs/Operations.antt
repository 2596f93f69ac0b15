-- What the typing rule of an operation gives, as the code names the operations.
-- Source: this project's own; each is the rule of its node again.
use Rattle.std.specs.Prelude.{ℕ, List, slice_get}
use Rattle.um_tree.specs.TypeTree.{TypeTree}
use Rattle.um_tree.specs.ProgramTree.{RecordTree}
use Rattle.um_rows.specs.declared.operations.Unary.{Unary}
use Rattle.um_rows.specs.declared.operations.Unary.TheVariants as unary
use Rattle.um_rows.specs.declared.operations.Binary.{Binary}
use Rattle.um_rows.specs.declared.operations.Binary.TheVariants as binary
use Rattle.um_rows.specs.Rules.{Derived, negate_rule, not_rule, pown_rule, field_rule, arith_rule, compare_rule}
use Rattle.um_rows.specs.Rules.{truths_rule, cons_rule}

abbrev pub unary_rule : List RecordTree → ℕ → Unary → TypeTree → Derived
unary_rule records at unary.Negate t = negate_rule at t
unary_rule records at unary.Not t = not_rule at t
unary_rule records at (unary.Power k) t = pown_rule at k t
unary_rule records at (unary.Field r k) t = field_rule at r k (slice_get records r) t

abbrev pub binary_rule : ℕ → Binary → TypeTree → TypeTree → Derived
binary_rule at (binary.Arith op) s t = arith_rule at op s t
binary_rule at binary.Compare s t = compare_rule at s t
binary_rule at binary.Truths s t = truths_rule at s t
binary_rule at binary.Cons s t = cons_rule at s t
