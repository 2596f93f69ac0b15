-- The agreements of expressions one after another: what is left when the first ones are walked.
use Rattle.std.proofs.Common.{◌≡◌, refl, sym, ap, ◌∙◌, ℕ, ◌+◌, ◌<◌, ◌≤◌, List, [], ◌∷◌, ◌++◌, length, get_or, arith}
use Rattle.std.proofs.lemmas.List.{append_assoc, append-nil}
use Rattle.um_tree.specs.declared.expression.Expr.{Expr}
use Rattle.um_tree.specs.ExprTree.{expr_tree}
use Rattle.um_slots.proofs.Parts.{from, from_more, from_end}
use Rattle.um_agree.specs.declared.found.Asked.{Asked}
use Rattle.um_agree.specs.Asked.{count, parts_count, all_count, ends_of, asked_in, all_asked}

module _ (c : ℕ) (before : List Asked) (es : List Expr) where
  -- the first i expressions are walked
  pub record IsLeft (i nodes : ℕ) (asked : List Asked) (ends : List ℕ) : Type 0 where
    pub asked_left : before ++ all_asked c (from es 0) ≡ asked ++ all_asked nodes (from es i)
    pub ends_left : ends_of c (from es 0) ≡ ends ++ ends_of nodes (from es i)
    pub nodes_left : c + all_count (from es 0) ≡ nodes + all_count (from es i)

  pub none_walked : IsLeft 0 c before []
  none_walked = record { asked_left = refl; ends_left = refl; nodes_left = refl }

  module _ (i nodes : ℕ) (asked : List Asked) (ends : List ℕ) (e : Expr) (below : i < length es) (is : e ≡ get_or es i e) (l : IsLeft i nodes asked ends) where
    pub one_walked : (new : ℕ) (found : List Asked) (own : ℕ) → found ≡ asked ++ asked_in nodes (expr_tree e) → new ≡ nodes + count (expr_tree e) → own ≡ nodes + parts_count (expr_tree e) → IsLeft (i + 1) new found (ends ++ own ∷ [])
    one_walked new found own found_is new_is own_is = record {
      asked_left =
          l.asked_left ∙ ap (λ x. asked ++ all_asked nodes x) (from_more es i e below is)
          ∙ sym (append_assoc asked (asked_in nodes (expr_tree e)) (all_asked (nodes + count (expr_tree e)) (from es (i + 1))))
          ∙ (λ j. sym found_is j ++ all_asked (sym new_is j) (from es (i + 1)));
      ends_left =
          l.ends_left ∙ ap (λ x. ends ++ ends_of nodes x) (from_more es i e below is)
          ∙ sym (append_assoc ends ((nodes + parts_count (expr_tree e)) ∷ []) (ends_of (nodes + count (expr_tree e)) (from es (i + 1))))
          ∙ (λ j. (ends ++ sym own_is j ∷ []) ++ ends_of (sym new_is j) (from es (i + 1)));
      nodes_left = (let more = ap all_count (from_more es i e below is) in let left = l.nodes_left in omega (arith, more, left, new_is));
    }

  pub all_walked : (i nodes : ℕ) (asked : List Asked) (ends : List ℕ) → length es ≤ i → IsLeft i nodes asked ends →
      (asked ≡ before ++ all_asked c (from es 0)) × (nodes ≡ c + all_count (from es 0)) × (ends ≡ ends_of c (from es 0))
  all_walked i nodes asked ends past l =
      let end = from_end es i past in
      let none_left = ap all_count end in
      let left = l.nodes_left in (
        sym (l.asked_left ∙ ap (λ x. asked ++ all_asked nodes x) end ∙ append-nil asked),
        omega (arith, none_left, left),
        sym (l.ends_left ∙ ap (λ x. ends ++ ends_of nodes x) end ∙ append-nil ends),
      )
