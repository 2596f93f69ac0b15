-- Schemes that the inference of the first functions gives: each is what its function is judged to have, given those before it.
use Rattle.std.proofs.Common.{◌≡◌, inl, inr, ℕ, zero, suc, ◌<◌, ◌≤◌, List, [], ◌∷◌, ◌++◌, Some, length, slice_get, refl, sym, ap, ◌∙◌, subst, arith}
use Rattle.um_tree.specs.ProgramTree.{FunctionTree, ProgramTree, SchemeTree}
use Rattle.um_tree.specs.Formed.{IsFormed}
use Rattle.um_rows.specs.Judgement.{Judgement, has_scheme, too_many_slots, passes_range, has_no_typing, not_general, judge}
use Rattle.um_infer.specs.Inference.{Inference, all_schemes, stops_at_slots, stops_at_range, stops_at_units, stops_at_not_general, with_judgement, with_function, and_then, infer_first}
use Rattle.std.proofs.lemmas.Option.{slice_get_within}
use Rattle.um_infer.proofs.SchemeLists.{item_at, item_or_last}
use Rattle.um_infer.proofs.InferenceLaws.{first_are_principal}

-- before function i the inference gave these schemes, and with them it is judged to have the scheme s
pub record IsGiven (p : ProgramTree) (schemes : List SchemeTree) (i : ℕ) (s : SchemeTree) : Type 0 where
  pub earlier : List SchemeTree
  pub before : infer_first p i ≡ all_schemes earlier
  pub alike : (j : ℕ) → j < i → slice_get earlier j ≡ slice_get schemes j
  pub judged : (f : FunctionTree) → slice_get p.functions i ≡ Some f → judge (length p.bases) p.records earlier i f ≡ has_scheme s

-- an item stays where something is put behind
pub behind : (xs : List SchemeTree) (x : SchemeTree) (j : ℕ) → j < length xs → slice_get xs j ≡ slice_get (xs ++ x ∷ []) j
behind [] x j h = absurd (omega (arith, h))
behind (y ∷ ys) x zero h = refl
behind (y ∷ ys) x (suc j) h = behind ys x j (omega (arith, h))

same_function : (o : FunctionTree) (f : FunctionTree) → Some o ≡ Some f → o ≡ f
same_function o f e = cc e

module _ (p : ProgramTree) (formed : IsFormed p) where
  -- from the schemes of the functions before the last
  last_given : (n : ℕ) (earlier schemes : List SchemeTree) (i : ℕ) (s : SchemeTree) → n ≤ length p.functions → infer_first p n ≡ all_schemes earlier → (f : FunctionTree) → slice_get p.functions n ≡ Some f → (j : Judgement) → judge (length p.bases) p.records earlier n f ≡ j →
      ((t : SchemeTree) → slice_get earlier i ≡ Some t → i < n → IsGiven p earlier i t) → with_judgement earlier n j ≡ all_schemes schemes → i < suc n → slice_get schemes i ≡ Some s → IsGiven p schemes i s
  last_given n earlier schemes i s le before f declared (has_scheme t) judged more e l at =
      let whole : earlier ++ t ∷ [] ≡ schemes = cc e in
      let long : length earlier ≡ n = (first_are_principal p formed n earlier le before).count in
      elim (item_or_last earlier t i s (ap (λ xs. slice_get xs i) whole ∙ at)) [
        | inl there ↦
            let inside : i < length earlier = slice_get_within earlier i s there in
            let given = more s there (omega (arith, inside, long)) in
            record {
              earlier = given.earlier;
              before = given.before;
              alike = λ j h. given.alike j h ∙ behind earlier t j (omega (arith, h, inside)) ∙ ap (λ xs. slice_get xs j) whole;
              judged = given.judged;
            }
        | inr last ↦
            let here : i ≡ n = last.0 ∙ long in
            record {
              earlier = earlier;
              before = ap (infer_first p) here ∙ before;
              alike = λ j h. behind earlier t j (omega (arith, h, here, long)) ∙ ap (λ xs. slice_get xs j) whole;
              judged = λ g e. let o = same_function f g (sym declared ∙ ap (slice_get p.functions) (sym here) ∙ e) in
                  ap (λ k. judge (length p.bases) p.records earlier k g) here ∙ ap (judge (length p.bases) p.records earlier n) (sym o) ∙ judged ∙ ap has_scheme last.1;
            }
      ]
  last_given n earlier schemes i s le before f declared too_many_slots judged more e l at = absurd (cc e)
  last_given n earlier schemes i s le before f declared (passes_range place) judged more e l at = absurd (cc e)
  last_given n earlier schemes i s le before f declared (has_no_typing row place) judged more e l at = absurd (cc e)
  last_given n earlier schemes i s le before f declared (not_general row place) judged more e l at = absurd (cc e)

  pub given : (n : ℕ) (schemes : List SchemeTree) (i : ℕ) (s : SchemeTree) → n ≤ length p.functions → infer_first p n ≡ all_schemes schemes → i < n → slice_get schemes i ≡ Some s → IsGiven p schemes i s
  given zero schemes i s le e l at = absurd (omega (arith, l))
  given (suc n) schemes i s le e l at = by_first (infer_first p n) refl (λ earlier f t there h. given n earlier i t (omega (arith, le)) f h there) e
    where
      by_first : (r : Inference) → infer_first p n ≡ r → ((earlier : List SchemeTree) → infer_first p n ≡ all_schemes earlier → (t : SchemeTree) → slice_get earlier i ≡ Some t → i < n → IsGiven p earlier i t) →
          and_then r (λ schemes. with_function (length p.bases) p.records schemes n (slice_get p.functions n)) ≡ all_schemes schemes → IsGiven p schemes i s
      by_first (all_schemes earlier) f more h =
          let w = item_at p.functions n (omega (arith, le)) in
          last_given n earlier schemes i s (omega (arith, le)) f w.0 w.1 (judge (length p.bases) p.records earlier n w.0) refl (λ t there k. more earlier f t there k)
          (subst (λ o. with_function (length p.bases) p.records earlier n o ≡ all_schemes schemes) w.1 h) l at
      by_first (stops_at_slots k) f more h = absurd (cc h)
      by_first (stops_at_range k place) f more h = absurd (cc h)
      by_first (stops_at_units k row place) f more h = absurd (cc h)
      by_first (stops_at_not_general k row place) f more h = absurd (cc h)
