-- Nodes and the stacks that they make.
use Rattle.std.proofs.Common.{◌≡◌, refl, sym, ap, subst, ◌∙◌, ℕ, zero, suc, ◌+◌, ◌<◌, ◌≤◌, ◌^◌, ◌⊎◌, inl, inr, List, [], ◌∷◌, ◌++◌, length, take, get_or, slice_get, Some, arith, append_assoc, length-append}
use Rattle.std.proofs.lemmas.List.{get_or_append_left, get_or_past, take-append-le}
use Rattle.std.proofs.lemmas.Option.{slice_get_read}
use Rattle.std.proofs.Math.Seq.{get_or-append_seam}
use Rattle.um_stacks.specs.declared.flat.FlatShape.{FlatShape}
use Rattle.um_stacks.specs.declared.stacks.Node.{Node}
use Rattle.um_stacks.specs.Stacks.{stack_at, and_nodes, stacks_of, IsPartOf, IsPassed, IsNodeOf, AreNodes}

pub stacks_push : (stacks : List (List FlatShape)) (nodes : List Node) (node : Node) → and_nodes stacks (nodes ++ node ∷ []) ≡ and_nodes stacks nodes ++ (stack_at (and_nodes stacks nodes) node.below ++ node.top ∷ []) ∷ []
stacks_push stacks [] node = refl
stacks_push stacks (n ∷ nodes) node = stacks_push (stacks ++ (stack_at stacks n.below ++ n.top ∷ []) ∷ []) nodes node

pub stacks_length : (stacks : List (List FlatShape)) (nodes : List Node) → length (and_nodes stacks nodes) ≡ length stacks + length nodes
stacks_length stacks [] = omega arith
stacks_length stacks (n ∷ nodes) =
    let one : length (stacks ++ (stack_at stacks n.below ++ n.top ∷ []) ∷ []) ≡ length stacks + 1 = length-append stacks ((stack_at stacks n.below ++ n.top ∷ []) ∷ []) in
    let rest = stacks_length (stacks ++ (stack_at stacks n.below ++ n.top ∷ []) ∷ []) nodes in
    omega arith

first_of : (stacks : List (List FlatShape)) (nodes : List Node) → stack_at (and_nodes ([] ∷ stacks) nodes) 0 ≡ []
first_of stacks [] = refl
first_of stacks (n ∷ nodes) = first_of (stacks ++ (stack_at ([] ∷ stacks) n.below ++ n.top ∷ []) ∷ []) nodes

pub first_empty : (nodes : List Node) → stack_at (stacks_of nodes) 0 ≡ []
first_empty nodes = first_of [] nodes

pub past_empty : (stacks : List (List FlatShape)) (k : ℕ) → length stacks ≤ k → stack_at stacks k ≡ []
past_empty stacks k h = get_or_past stacks k [] h

-- a number stands for what it stood for
pub stays : (stacks more : List (List FlatShape)) (k : ℕ) → k < length stacks → stack_at (stacks ++ more) k ≡ stack_at stacks k
stays stacks more k h = get_or_append_left stacks more [] k h

node_stays : (stacks more : List (List FlatShape)) (k : ℕ) (node : Node) → IsNodeOf stacks k node → IsNodeOf (stacks ++ more) k node
node_stays stacks more k node h =
    let l : length (stacks ++ more) ≡ length stacks + length more = length-append stacks more in
    let n = h.number in
    let b = h.below in
    let j = h.jump in
    let here : stack_at (stacks ++ more) k ≡ stack_at stacks k = stays stacks more k n in
    let low : stack_at (stacks ++ more) node.below ≡ stack_at stacks node.below = stays stacks more node.below (omega arith) in
    let jumped : stack_at (stacks ++ more) node.jump.to ≡ stack_at stacks node.jump.to = stays stacks more node.jump.to (omega arith) in
    record {
      number = omega arith;
      whole = here ∙ h.whole ∙ ap (λ (s : List FlatShape). s ++ node.top ∷ []) (sym low);
      height = h.height ∙ ap (λ (s : List FlatShape). length s) (sym here);
      few = h.few;
      below = b;
      jump = j;
      passed = (h.passed.0, here ∙ h.passed.1 ∙ ap (λ (s : List FlatShape). s ++ h.passed.0) (sym jumped), h.passed.2);
    }

pushed_at : (nodes : List Node) (node : Node) (k : ℕ) (n : Node) → slice_get (nodes ++ node ∷ []) k ≡ Some n → (slice_get nodes k ≡ Some n) ⊎ ((k ≡ length nodes) × (node ≡ n))
pushed_at [] node zero n h = inr (refl, cc)
pushed_at [] node (suc k) n h = absurd cc
pushed_at (x ∷ nodes) node zero n h = inl h
pushed_at (x ∷ nodes) node (suc k) n h = by (pushed_at nodes node k n h) where
  by : (slice_get nodes k ≡ Some n) ⊎ ((k ≡ length nodes) × (node ≡ n)) → (slice_get nodes k ≡ Some n) ⊎ ((suc k ≡ suc (length nodes)) × (node ≡ n))
  by (inl e) = inl e
  by (inr e) = inr (ap suc e.0, e.1)

abbrev more_stacks : List Node → Node → List (List FlatShape)
more_stacks nodes node = stacks_of nodes ++ (stack_at (stacks_of nodes) node.below ++ node.top ∷ []) ∷ []

pub nodes_push : (nodes : List Node) (node : Node) → AreNodes nodes → length nodes + 1 < 2 ^ 32 → IsNodeOf (stacks_of nodes ++ (stack_at (stacks_of nodes) node.below ++ node.top ∷ []) ∷ []) (length nodes + 1) node → AreNodes (nodes ++ node ∷ [])
nodes_push nodes node h few is =
    let l : length (nodes ++ node ∷ []) ≡ length nodes + 1 = length-append nodes (node ∷ []) in
    record { few = omega arith; each = each }
  where
    made : more_stacks nodes node ≡ stacks_of (nodes ++ node ∷ [])
    made = sym (stacks_push ([] ∷ []) nodes node)

    each : (k : ℕ) (n : Node) → slice_get (nodes ++ node ∷ []) k ≡ Some n → IsNodeOf (stacks_of (nodes ++ node ∷ [])) (k + 1) n
    each k n there = by (pushed_at nodes node k n there) where
      by : (slice_get nodes k ≡ Some n) ⊎ ((k ≡ length nodes) × (node ≡ n)) → IsNodeOf (stacks_of (nodes ++ node ∷ [])) (k + 1) n
      by (inl e) = subst (λ (s : List (List FlatShape)). IsNodeOf s (k + 1) n) made (node_stays (stacks_of nodes) ((stack_at (stacks_of nodes) node.below ++ node.top ∷ []) ∷ []) (k + 1) n (h.each k n e))
      by (inr e) = subst (λ (m : Node). IsNodeOf (stacks_of (nodes ++ node ∷ [])) (k + 1) m) e.1 (subst (λ (j : ℕ). IsNodeOf (stacks_of (nodes ++ node ∷ [])) (j + 1) node) (sym e.0) (subst (λ (s : List (List FlatShape)). IsNodeOf s (length nodes + 1) node) made is))

-- ---- the stacks of some nodes

pub count_is : (stacks : List (List FlatShape)) (nodes : List Node) → stacks_of nodes ≡ stacks → length stacks ≡ length nodes + 1
count_is stacks nodes v =
    let l : length (stacks_of nodes) ≡ 1 + length nodes = stacks_length ([] ∷ []) nodes in
    let s : length stacks ≡ length (stacks_of nodes) = ap (λ (s : List (List FlatShape)). length s) (sym v) in
    omega arith

pub first_is : (stacks : List (List FlatShape)) (nodes : List Node) → stacks_of nodes ≡ stacks → stack_at stacks 0 ≡ []
first_is stacks nodes v = ap (λ (s : List (List FlatShape)). stack_at s 0) (sym v) ∙ first_empty nodes

pub node_at : (stacks : List (List FlatShape)) (nodes : List Node) (place k : ℕ) (node : Node) → stacks_of nodes ≡ stacks → AreNodes nodes → place < length nodes → place + 1 ≡ k → node ≡ get_or nodes place node → IsNodeOf stacks k node
node_at stacks nodes place k node v h l e r =
    subst (λ (j : ℕ). IsNodeOf stacks j node) e (subst (λ (s : List (List FlatShape)). IsNodeOf s (place + 1) node) v (h.each place node (slice_get_read nodes (length nodes) place node refl l r)))

pub nodes_grow : (stacks : List (List FlatShape)) (nodes new : List Node) (node : Node) → stacks_of nodes ≡ stacks → AreNodes nodes → length stacks < 2 ^ 32 → IsNodeOf (stacks ++ (stack_at stacks node.below ++ node.top ∷ []) ∷ []) (length stacks) node → new ≡ nodes ++ node ∷ [] → AreNodes new
nodes_grow stacks nodes new node v h few is e =
    let l = count_is stacks nodes v in
    let there : IsNodeOf (stacks_of nodes ++ (stack_at (stacks_of nodes) node.below ++ node.top ∷ []) ∷ []) (length stacks) node = subst (λ (s : List (List FlatShape)). IsNodeOf (s ++ (stack_at s node.below ++ node.top ∷ []) ∷ []) (length stacks) node) (sym v) is in
    subst AreNodes (sym e) (nodes_push nodes node h (omega arith) (subst (λ (k : ℕ). IsNodeOf (stacks_of nodes ++ (stack_at (stacks_of nodes) node.below ++ node.top ∷ []) ∷ []) k node) l there))

pub stacks_grow : (stacks : List (List FlatShape)) (nodes new : List Node) (node : Node) → stacks_of nodes ≡ stacks → new ≡ nodes ++ node ∷ [] → stacks_of new ≡ stacks ++ (stack_at stacks node.below ++ node.top ∷ []) ∷ []
stacks_grow stacks nodes new node v e =
    ap stacks_of e ∙ stacks_push ([] ∷ []) nodes node ∙ ap (λ (s : List (List FlatShape)). s ++ (stack_at s node.below ++ node.top ∷ []) ∷ []) v

-- ---- parts

pub part_itself : (s : List FlatShape) → (rest : List FlatShape) × (s ≡ s ++ rest)
part_itself s = ([], sym (nil s)) where
  nil : (s : List FlatShape) → s ++ [] ≡ s
  nil [] = refl
  nil (x ∷ s) = ap (λ (t : List FlatShape). x ∷ t) (nil s)

pub part_of_part : (a b c : List FlatShape) → IsPartOf a b → IsPartOf b c → IsPartOf a c
part_of_part a b c h k = (h.0 ++ k.0, k.1 ∙ ap (λ (s : List FlatShape). s ++ k.0) h.1 ∙ append_assoc a h.0 k.0)

pub take_part : (low whole : List FlatShape) (n : ℕ) → IsPartOf low whole → n ≤ length low → take n low ≡ take n whole
take_part low whole n h l = sym (ap (take n) h.1 ∙ take-append-le n low h.0 l)

pub whole_length : (low whole : List FlatShape) (top : FlatShape) → whole ≡ low ++ top ∷ [] → length whole ≡ length low + 1
whole_length low whole top h = ap (λ (s : List FlatShape). length s) h ∙ length-append low (top ∷ [])

-- ---- one more stack

pub node_above : (stacks : List (List FlatShape)) (node : Node) (height : ℕ) → node.below < length stacks → node.jump.to < length stacks → height ≡ length (stack_at stacks node.below) → height ≤ node.below → node.height ≡ height + 1 → IsPassed (stack_at stacks node.jump.to) (stack_at stacks node.below ++ node.top ∷ []) node.jump.passed → IsNodeOf (stacks ++ (stack_at stacks node.below ++ node.top ∷ []) ∷ []) (length stacks) node
node_above stacks node height b j h few n p =
    let st : List FlatShape = stack_at stacks node.below ++ node.top ∷ [] in
    let l : length (stacks ++ st ∷ []) ≡ length stacks + 1 = length-append stacks (st ∷ []) in
    let long : length st ≡ length (stack_at stacks node.below) + 1 = length-append (stack_at stacks node.below) (node.top ∷ []) in
    let here : stack_at (stacks ++ st ∷ []) (length stacks) ≡ st = get_or-append_seam stacks st [] [] in
    let low : stack_at (stacks ++ st ∷ []) node.below ≡ stack_at stacks node.below = stays stacks (st ∷ []) node.below b in
    let jumped : stack_at (stacks ++ st ∷ []) node.jump.to ≡ stack_at stacks node.jump.to = stays stacks (st ∷ []) node.jump.to j in
    let height_is : length (stack_at (stacks ++ st ∷ []) (length stacks)) ≡ length st = ap (λ (s : List FlatShape). length s) here in
    record {
      number = omega arith;
      whole = here ∙ ap (λ (s : List FlatShape). s ++ node.top ∷ []) (sym low);
      height = omega arith;
      few = omega arith;
      below = b;
      jump = j;
      passed = (p.0, here ∙ p.1 ∙ ap (λ (s : List FlatShape). s ++ p.0) (sym jumped), p.2);
    }
