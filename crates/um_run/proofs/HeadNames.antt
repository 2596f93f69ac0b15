-- The first head of a name, in a search from the front.
use Rattle.std.proofs.Common.{◌≡◌, ℕ, ◌+◌, ◌<◌, ◌≤◌, Bool, true, false, cond, List, map, drop, get_or, length, Some, None, sym, ap, ◌∙◌, arith}
use Rattle.std.specs.Str.{bytes_eq}
use Rattle.um_measures.specs.Known.{one_later, number_of}
use Rattle.um_measures.proofs.Stages.{map_from_more, map_from-end}
use Rattle.um_verify.specs.declared.image.Head.{Head}
use Rattle.um_verify.specs.ImageTree.{HeadTree, head_tree}
use Rattle.um_run.specs.ImageCalls.{head_names}
use Rattle.um_run.proofs.FunctionNames.{later, later_none, later_one}

module _ (hs : List Head) (x : List ℕ) where
  -- none of the first i heads has the name
  pub record AreOthers (i : ℕ) : Type 0 where
    pub number : number_of (head_names (map head_tree hs)) x ≡ later i (number_of (head_names (map head_tree (drop i hs))) x)

  pub none_yet : AreOthers 0
  none_yet = record { number = later_none (number_of (head_names (map head_tree hs)) x) }

  at_next : (i : ℕ) (h : Head) → i < length hs → h ≡ get_or hs i h → AreOthers i → (b : Bool) → bytes_eq x h.name ≡ b
      → number_of (head_names (map head_tree hs)) x ≡ later i (cond b (Some 0) (one_later (number_of (head_names (map head_tree (drop (i + 1) hs))) x)))
  at_next i h within there o b e =
      o.number ∙ ap (λ (gs : List HeadTree). later i (number_of (head_names gs) x)) (map_from_more head_tree hs i h within there)
      ∙ ap (λ (c : Bool). later i (cond c (Some 0) (one_later (number_of (head_names (map head_tree (drop (i + 1) hs))) x)))) e

  pub one_more : (i : ℕ) (h : Head) → i < length hs → h ≡ get_or hs i h → AreOthers i → bytes_eq x h.name ≡ false → AreOthers (i + 1)
  one_more i h within there o e =
      record { number = at_next i h within there o false e ∙ later_one i (number_of (head_names (map head_tree (drop (i + 1) hs))) x) }

  pub number_found : (i : ℕ) (h : Head) → i < length hs → h ≡ get_or hs i h → AreOthers i → bytes_eq x h.name ≡ true → Some i ≡ number_of (head_names (map head_tree hs)) x
  number_found i h within there o e = sym (at_next i h within there o true e ∙ ap Some (omega arith))

  pub none_found : (i : ℕ) → length hs ≤ i → AreOthers i → None ≡ number_of (head_names (map head_tree hs)) x
  none_found i past o = sym (o.number ∙ ap (λ (gs : List HeadTree). later i (number_of (head_names gs) x)) (map_from-end head_tree hs i past))
