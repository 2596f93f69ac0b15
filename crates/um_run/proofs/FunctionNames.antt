-- The first function of a name, in a search from the front.
use Rattle.std.proofs.Common.{◌≡◌, ℕ, ◌+◌, ◌<◌, ◌≤◌, Bool, true, false, cond, List, map, drop, get_or, length, Option, Some, None, refl, sym, ap, ◌∙◌, arith}
use Rattle.std.specs.Str.{bytes_eq}
use Rattle.um_tree.specs.declared.program.Function.{Function}
use Rattle.um_tree.specs.ProgramTree.{FunctionTree, function_tree}
use Rattle.um_measures.specs.Known.{one_later, number_of, function_names}
use Rattle.um_measures.proofs.Stages.{map_from_more, map_from-end}

-- the number behind so many others
abbrev pub later : ℕ → Option ℕ → Option ℕ
later n None = None
later n (Some k) = Some (n + k)

pub later_none : (o : Option ℕ) → o ≡ later 0 o
later_none None = refl
later_none (Some k) = ap Some (omega arith)

pub later_one : (n : ℕ) (o : Option ℕ) → later n (one_later o) ≡ later (n + 1) o
later_one n None = refl
later_one n (Some k) = ap Some (omega arith)

module _ (fs : List Function) (x : List ℕ) where
  -- none of the first i functions has the name
  pub record AreOthers (i : ℕ) : Type 0 where
    pub number : number_of (function_names (map function_tree fs)) x ≡ later i (number_of (function_names (map function_tree (drop i fs))) x)

  pub none_yet : AreOthers 0
  none_yet = record { number = later_none (number_of (function_names (map function_tree fs)) x) }

  at_next : (i : ℕ) (f : Function) → i < length fs → f ≡ get_or fs i f → AreOthers i → (b : Bool) → bytes_eq x f.name ≡ b
      → number_of (function_names (map function_tree fs)) x ≡ later i (cond b (Some 0) (one_later (number_of (function_names (map function_tree (drop (i + 1) fs))) x)))
  at_next i f within there h b e =
      h.number ∙ ap (λ (gs : List FunctionTree). later i (number_of (function_names gs) x)) (map_from_more function_tree fs i f within there)
      ∙ ap (λ (c : Bool). later i (cond c (Some 0) (one_later (number_of (function_names (map function_tree (drop (i + 1) fs))) x)))) e

  pub one_more : (i : ℕ) (f : Function) → i < length fs → f ≡ get_or fs i f → AreOthers i → bytes_eq x f.name ≡ false → AreOthers (i + 1)
  one_more i f within there h e =
      record { number = at_next i f within there h false e ∙ later_one i (number_of (function_names (map function_tree (drop (i + 1) fs))) x) }

  pub number_found : (i : ℕ) (f : Function) → i < length fs → f ≡ get_or fs i f → AreOthers i → bytes_eq x f.name ≡ true → Some i ≡ number_of (function_names (map function_tree fs)) x
  number_found i f within there h e = sym (at_next i f within there h true e ∙ ap Some (omega arith))

  pub none_found : (i : ℕ) → length fs ≤ i → AreOthers i → None ≡ number_of (function_names (map function_tree fs)) x
  none_found i past h = sym (h.number ∙ ap (λ (gs : List FunctionTree). later i (number_of (function_names gs) x)) (map_from-end function_tree fs i past))
