-- The functions of a program, judged one after another.
-- Source: Kennedy (1996): functions are taken in order, each with the schemes of those before it.
use Rattle.std.proofs.Common.{◌≡◌, ℕ, ◌+◌, ◌<◌, ◌≤◌, add-one, List, [], ◌∷◌, ◌++◌, length, slice_get, Some, Err, refl, ap, ◌∙◌}
use Rattle.um_tree.specs.ProgramTree.{FunctionTree, ProgramTree, SchemeTree}
use Rattle.um_tree.specs.Formed.{IsFormed}
use Rattle.um_rows.specs.Solutions.{HaveSchemes}
use Rattle.um_rows.specs.Judgement.{Judgement, has_scheme, too_many_slots, passes_range, has_no_typing, not_general, judge}
use Rattle.um_solving.specs.declared.refusal.Refusal.{Refusal}
use Rattle.um_solving.specs.declared.refusal.Refusal.TheVariants as refusal
use Rattle.um_infer.specs.Inference.{all_schemes, infer_first}
use Rattle.um_infer.specs.Schemes.{IsJudged}
use Rattle.um_infer.specs.Answers.{IsFirstInferred}
use Rattle.um_infer.specs.Forming.{IsAnswer}
use Rattle.um_infer.specs.Refusals.{stop_of}
use Rattle.um_infer.proofs.SchemeLists.{item_at}
use Rattle.um_infer.proofs.PrincipalSchemes.{have_schemes}
use Rattle.um_infer.proofs.Stops.{after_before, stops_first}
use Rattle.um_infer.proofs.InferenceLaws.{first_are_principal}

module _ (p : ProgramTree) (i : ℕ) (schemes : List SchemeTree) (before : infer_first p i ≡ all_schemes schemes) where
  pub have_before : IsFormed p → i ≤ length p.functions → HaveSchemes p schemes i
  have_before formed l = have_schemes p i schemes (first_are_principal p formed i schemes l before)

  module _ (l : i < length p.functions) where
    abbrev is_judged : (j : Judgement) → ((f : FunctionTree) → slice_get p.functions i ≡ Some f → judge (length p.bases) p.records schemes i f ≡ j) → IsJudged p i j
    is_judged j is = let w = item_at p.functions i l in record { function = w.0; declared = w.1; schemes = schemes; before = before; judged = is w.0 w.1 }

    -- one more scheme
    pub one_inferred : (s : SchemeTree) → ((f : FunctionTree) → slice_get p.functions i ≡ Some f → judge (length p.bases) p.records schemes i f ≡ has_scheme s) → infer_first p (i + 1) ≡ all_schemes (schemes ++ s ∷ [])
    one_inferred s is = ap (infer_first p) (add-one i) ∙ after_before p i (has_scheme s) (is_judged (has_scheme s) is)

    -- the function is refused, and so are the first functions, as soon as it is among them
    pub refused_inferred : (n : ℕ) → i < n → (r : Refusal) → ((f : FunctionTree) → slice_get p.functions i ≡ Some f → IsAnswer (judge (length p.bases) p.records schemes i f) (Err r)) → IsFirstInferred p n (Err (stop_of i r))
    refused_inferred n m (refusal.Units at) is =
        let w = item_at p.functions i l in
        let row = is w.0 w.1 in
        let h : IsJudged p i (has_no_typing row.0 at) = record { function = w.0; declared = w.1; schemes = schemes; before = before; judged = row.1 } in
        (row.0, stops_first p n i (has_no_typing row.0 at) h (λ next. refl) m)
    refused_inferred n m (refusal.NotGeneral at) is =
        let w = item_at p.functions i l in
        let row = is w.0 w.1 in
        let h : IsJudged p i (not_general row.0 at) = record { function = w.0; declared = w.1; schemes = schemes; before = before; judged = row.1 } in
        (row.0, stops_first p n i (not_general row.0 at) h (λ next. refl) m)
    refused_inferred n m (refusal.PowerRange at) is = stops_first p n i (passes_range at) (is_judged (passes_range at) is) (λ next. refl) m
    refused_inferred n m refusal.Slots is = stops_first p n i too_many_slots (is_judged too_many_slots is) (λ next. refl) m
    refused_inferred n m refusal.NoMemory is = tt
