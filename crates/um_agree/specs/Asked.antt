-- The agreements of a body as the code finds them: with the numbers of nodes in place of types.
-- Source: this project's own; they are the agreements of the function again, and no public clause rests on it but the
-- one that says so.
use Rattle.std.specs.Prelude.{ℕ, suc, ◌+◌, List, [], ◌∷◌, ◌++◌, drop, Option, Some, None}
use Rattle.um_tree.specs.declared.expression.Arith.{Arith}
use Rattle.um_tree.specs.declared.expression.Arith.TheVariants.{Add, Sub, Mul, Div}
use Rattle.um_tree.specs.ExprTree.{ExprTree, ExprTrees, truth, number, local, call, negate, not_expr, pown, arith}
use Rattle.um_tree.specs.ExprTree.{compare, both, either, if, bind, split, nil, list_expr, cons, record_expr, field}
use Rattle.um_tree.specs.ExprTree.{none, more}
use Rattle.um_tree.specs.TypeTree.{NoteTree}
use Rattle.um_tree.specs.ProgramTree.{FunctionTree}
use Rattle.um_agree.specs.declared.rule.Rule.{Rule}
use Rattle.um_agree.specs.declared.rule.Rule.TheVariants as rule
use Rattle.um_agree.specs.declared.found.Asked.{Asked}
use Rattle.um_agree.specs.declared.found.Each.{Each}
use Rattle.um_agree.specs.declared.found.Each.TheVariants as each

-- ---- of one node
abbrev pub asked : Rule → ℕ → ℕ → Asked
asked r at node = record { rule = r; at = at; node = node }

abbrev pub asked_by : Option Rule → ℕ → ℕ → List Asked
asked_by (Some r) at node = asked r at node ∷ []
asked_by None at node = []

-- ---- of each part of a node
abbrev pub asked_each : (ℕ → Rule) → ℕ → ℕ → List ℕ → List Asked
asked_each rules k at [] = []
asked_each rules k at (n ∷ ns) = asked (rules k) at n ∷ asked_each rules (suc k) at ns

abbrev pub rule_each : Each → ℕ → Rule
rule_each (each.Argument j) k = rule.Argument j (k + 1)
rule_each each.Item k = rule.Item (k + 1)
rule_each (each.Part r) k = rule.Part r k

abbrev pub first_each : Each → ℕ
first_each (each.Argument j) = 0
first_each each.Item = 1
first_each (each.Part r) = 0

-- ends: the numbers of the parts' own nodes
abbrev pub asked_parts : Each → ℕ → List ℕ → List Asked
asked_parts e at ends = asked_each (rule_each e) (first_each e) at (drop (first_each e) ends)

-- ---- how many nodes the parts of an expression have
abbrev mutual
  pub parts_count : ExprTree → ℕ
  parts_count (truth at b) = 0
  parts_count (number at c m) = 0
  parts_count (local at k) = 0
  parts_count (call at j es) = all_count es
  parts_count (negate at a) = parts_count a + 1
  parts_count (not_expr at a) = parts_count a + 1
  parts_count (pown at a k) = parts_count a + 1
  parts_count (arith at op a b) = (parts_count a + 1) + (parts_count b + 1)
  parts_count (compare at sign a b) = (parts_count a + 1) + (parts_count b + 1)
  parts_count (both at a b) = (parts_count a + 1) + (parts_count b + 1)
  parts_count (either at a b) = (parts_count a + 1) + (parts_count b + 1)
  parts_count (if at c a b) = (parts_count c + 1) + ((parts_count a + 1) + (parts_count b + 1))
  parts_count (bind at a b) = (parts_count a + 1) + (parts_count b + 1)
  parts_count (split at l a b) = (parts_count l + 1) + ((parts_count a + 1) + (parts_count b + 1))
  parts_count (nil at m) = 0
  parts_count (list_expr at es) = all_count es
  parts_count (cons at a b) = (parts_count a + 1) + (parts_count b + 1)
  parts_count (record_expr at r es) = all_count es
  parts_count (field at r k a) = parts_count a + 1

  pub all_count : ExprTrees → ℕ
  all_count none = 0
  all_count (more e es) = (parts_count e + 1) + all_count es

-- the nodes of an expression, its own the last
abbrev pub count : ExprTree → ℕ
count e = parts_count e + 1

-- the numbers of the own nodes of expressions, of which c nodes come before the first
abbrev pub ends_of : ℕ → ExprTrees → List ℕ
ends_of c none = []
ends_of c (more e es) = (c + parts_count e) ∷ ends_of (c + count e) es

-- ---- of an expression, if c nodes come before its own
abbrev pub sides : Arith → Option Rule
sides Add = Some rule.Sum
sides Sub = Some rule.Difference
sides Mul = None
sides Div = None

-- the rule of a node whose last two parts must have the same type
abbrev pub rule_of : ExprTree → Option Rule
rule_of (arith at op a b) = sides op
rule_of (compare at sign a b) = Some rule.Comparison
rule_of (if at c a b) = Some rule.Branches
rule_of (split at l a b) = Some rule.Arms
rule_of (cons at a b) = Some rule.Head
rule_of e = None

abbrev mutual
  pub asked_in : ℕ → ExprTree → List Asked
  asked_in c (truth at b) = []
  asked_in c (number at n m) = []
  asked_in c (local at k) = []
  asked_in c (call at j es) = all_asked c es ++ asked_parts (each.Argument j) at (ends_of c es)
  asked_in c (negate at a) = asked_in c a
  asked_in c (not_expr at a) = asked_in c a
  asked_in c (pown at a k) = asked_in c a
  asked_in c (arith at op a b) =
      (asked_in c a ++ asked_in (c + count a) b) ++ asked_by (sides op) at (c + count a + parts_count b)
  asked_in c (compare at sign a b) =
      (asked_in c a ++ asked_in (c + count a) b) ++ asked_by (Some rule.Comparison) at (c + count a + parts_count b)
  asked_in c (both at a b) =
      (asked_in c a ++ asked_in (c + count a) b) ++ asked_by None at (c + count a + parts_count b)
  asked_in c (either at a b) =
      (asked_in c a ++ asked_in (c + count a) b) ++ asked_by None at (c + count a + parts_count b)
  asked_in c (if at d a b) =
      asked_in c d
      ++ ((asked_in (c + count d) a ++ asked_in (c + count d + count a) b)
      ++ asked_by (Some rule.Branches) at (c + count d + count a + parts_count b))
  asked_in c (bind at a b) =
      (asked_in c a ++ asked_in (c + count a) b) ++ asked_by None at (c + count a + parts_count b)
  asked_in c (split at l a b) =
      asked_in c l
      ++ ((asked_in (c + count l) a ++ asked_in (c + count l + count a) b)
      ++ asked_by (Some rule.Arms) at (c + count l + count a + parts_count b))
  asked_in c (nil at m) = []
  asked_in c (list_expr at es) = all_asked c es ++ asked_parts each.Item at (ends_of c es)
  asked_in c (cons at a b) =
      (asked_in c a ++ asked_in (c + count a) b) ++ asked_by (Some rule.Head) at (c + count a + parts_count b)
  asked_in c (record_expr at r es) = all_asked c es ++ asked_parts (each.Part r) at (ends_of c es)
  asked_in c (field at r k a) = asked_in c a

  pub all_asked : ℕ → ExprTrees → List Asked
  all_asked c none = []
  all_asked c (more e es) = asked_in c e ++ all_asked (c + count e) es

-- two parts, and what the node asks of them
abbrev pub pair_asked : ℕ → Option Rule → ℕ → ExprTree → ExprTree → List Asked
pair_asked c r at a b =
    (asked_in c a ++ asked_in (c + count a) b) ++ asked_by r at (c + count a + parts_count b)

-- all parts, and what the node asks of each
abbrev pub each_asked : ℕ → Each → ℕ → ExprTrees → List Asked
each_asked c e at es = all_asked c es ++ asked_parts e at (ends_of c es)

-- ---- of a function: those of its body, and that of its result's note
abbrev pub result_rule : Option NoteTree → Option Rule
result_rule (Some m) = Some rule.ResultNote
result_rule None = None

abbrev pub function_asked : FunctionTree → List Asked
function_asked f = asked_in 0 f.body ++ asked_by (result_rule f.result) f.at (parts_count f.body)
