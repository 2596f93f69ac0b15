-- Stacks of shapes by their numbers. This mirrors the code.
-- Source: this project's own; the jumps are those of E. W. Myers, An applicative random-access stack, 1983.
use Rattle.std.specs.Prelude.{◌≡◌, ◌<◌, ◌≤◌, ◌+◌, ◌^◌, ℕ, List, [], ◌∷◌, ◌++◌, length, map, take, reverse, get_or}
use Rattle.std.specs.Prelude.{slice_get}
use Rattle.std.specs.Prelude.{Option, Some, None, option_map, MatchOption}
use Rattle.um_verify.specs.StackShape.{StackShape, join_all, join_with, join_items}
use Rattle.um_stacks.specs.FlatShapes.{flat_shape, flat_shapes}
use Rattle.um_stacks.specs.declared.flat.FlatShape.{FlatShape}
use Rattle.um_stacks.specs.declared.stacks.Node.{Node}
use Rattle.um_stacks.specs.declared.stacks.KeptJoin.{KeptJoin}
use Rattle.um_stacks.specs.declared.join.Passed.{Passed}
use Rattle.um_stacks.specs.declared.join.Shared.{Shared}
use Rattle.um_stacks.specs.declared.join.Shared.TheVariants.{Join, Clash}

-- ---- what callers see: all stacks, by their numbers; a number that none has stands for the empty stack

abbrev pub stack_at : List (List FlatShape) → ℕ → List FlatShape
stack_at stacks k = get_or stacks k []

abbrev pub shapes_at : List (List FlatShape) → ℕ → List StackShape
shapes_at stacks k = flat_shapes (stack_at stacks k)

-- more stacks came, so each number stands for what it stood for
abbrev pub Grows : List (List FlatShape) → List (List FlatShape) → Type 0
Grows old new = (more : List (List FlatShape)) × (new ≡ old ++ more)

-- ---- nodes

-- the stacks of these nodes, after those that stand already: each has its top above an earlier one
abbrev pub and_nodes : List (List FlatShape) → List Node → List (List FlatShape)
and_nodes stacks [] = stacks
and_nodes stacks (node ∷ nodes) = and_nodes (stacks ++ (stack_at stacks node.below ++ node.top ∷ []) ∷ []) nodes

-- number 0 is the empty stack, and number k + 1 that of node k
abbrev pub stacks_of : List Node → List (List FlatShape)
stacks_of nodes = and_nodes ([] ∷ []) nodes

-- the first list is a lower part of the second
abbrev pub IsPartOf : List FlatShape → List FlatShape → Type 0
IsPartOf low whole = (rest : List FlatShape) × (whole ≡ low ++ rest)

-- the join of the shapes of two lists, from the joins of each
abbrev pub join_both : Option StackShape → Option StackShape → Option StackShape
join_both None o = None
join_both (Some s) o = join_with s o

-- the first list is a lower part of the second, and `passed` is the join of the shapes above it, if they have one
abbrev pub IsPassed : List FlatShape → List FlatShape → Option FlatShape → Type 0
IsPassed low whole passed =
    (rest : List FlatShape) × (whole ≡ low ++ rest) × (option_map flat_shape passed ≡ join_items (flat_shapes rest))

-- the node of stack k, which names lower numbers alone
pub record IsNodeOf (stacks : List (List FlatShape)) (k : ℕ) (node : Node) : Type 0 where
  pub number : k < length stacks
  pub whole : stack_at stacks k ≡ stack_at stacks node.below ++ node.top ∷ []
  pub height : node.height ≡ length (stack_at stacks k)
  pub few : node.height ≤ k
  pub below : node.below < k
  pub jump : node.jump.to < k
  pub passed : IsPassed (stack_at stacks node.jump.to) (stack_at stacks k) node.jump.passed

pub record AreNodes (nodes : List Node) : Type 0 where
  pub few : length nodes < 2 ^ 32
  pub each : (k : ℕ) (node : Node) → slice_get nodes k ≡ Some node → IsNodeOf (stacks_of nodes) (k + 1) node

-- ---- joins

-- the number of the join of two stacks, or that they have none
abbrev pub IsJoinOf : List (List FlatShape) → ℕ → ℕ → Option ℕ → Type 0
IsJoinOf stacks one other join =
    MatchOption join (None ≡ join_all (shapes_at stacks one) (shapes_at stacks other)) (λ k.
    (k < length stacks) × (Some (shapes_at stacks k) ≡ join_all (shapes_at stacks one) (shapes_at stacks other)))

pub record IsKept (stacks : List (List FlatShape)) (kept : KeptJoin) : Type 0 where
  pub one : kept.one < length stacks
  pub other : kept.other < length stacks
  pub join : IsJoinOf stacks kept.one kept.other kept.join

abbrev pub AreKept : List (List FlatShape) → List KeptJoin → Type 0
AreKept stacks joins = (k : ℕ) (kept : KeptJoin) → slice_get joins k ≡ Some kept → IsKept stacks kept

-- their lower parts of this height have no join
abbrev pub ClashUpTo : List (List FlatShape) → ℕ → ℕ → ℕ → Type 0
ClashUpTo stacks one other height =
    let lower : ℕ → List StackShape = λ k. flat_shapes (take height (stack_at stacks k)) in
    None ≡ join_all (lower one) (lower other)

-- the tops that were passed on the way down two stacks, joined
abbrev pub tops_of : List Passed → List StackShape
tops_of passed = flat_shapes (reverse (map (λ p. p.join) passed))

-- what two stacks share below these tops: a number for the join of what lies below, or a height up to which they clash
abbrev pub IsShared : List (List FlatShape) → ℕ → ℕ → List Passed → Shared → Type 0
IsShared stacks one other passed (Join k) =
    Some (shapes_at stacks k ++ tops_of passed) ≡ join_all (shapes_at stacks one) (shapes_at stacks other)
IsShared stacks one other passed (Clash height) = ClashUpTo stacks one other height
