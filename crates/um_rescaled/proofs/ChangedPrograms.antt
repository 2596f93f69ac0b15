-- The inference of a program with other places and numbers.
use Rattle.std.proofs.Common.{◌≡◌, ℕ, zero, suc, List, map, length, slice_get, Option, Some, None, refl, ◌∙◌}
use Rattle.std.specs.Option.{option_map}
use Rattle.std.proofs.lemmas.List.{length-map}
use Rattle.std.proofs.lemmas.Option.{slice_get-map}
use Rattle.um_frac.specs.declared.number.Frac.{Frac}
use Rattle.um_tree.specs.declared.note.UnitNote.{UnitNote}
use Rattle.um_tree.specs.declared.note.UnitNote.TheVariants.{Hole}
use Rattle.um_tree.specs.ProgramTree.{FunctionTree, ProgramTree, SchemeTree}
use Rattle.um_rows.specs.Judgement.{Judgement, has_scheme, too_many_slots, passes_range, has_no_typing, not_general, judge}
use Rattle.um_infer.specs.Inference.{Inference, all_schemes, stops_at_slots, stops_at_range, stops_at_units, stops_at_not_general, with_judgement, with_function, and_then, infer_first, infer}
use Rattle.um_rescaled.proofs.Changed.{changed_function, changed_program}
use Rattle.um_rescaled.proofs.ChangedSlots.{others}
use Rattle.um_rescaled.proofs.ChangedJudgements.{placed_judgement, same_judgement}

abbrev pub placed_inference : (ℕ → ℕ) → Inference → Inference
placed_inference place (all_schemes schemes) = all_schemes schemes
placed_inference place (stops_at_slots i) = stops_at_slots i
placed_inference place (stops_at_range i at) = stops_at_range i (place at)
placed_inference place (stops_at_units i row at) = stops_at_units i row (place at)
placed_inference place (stops_at_not_general i row at) = stops_at_not_general i row (place at)

judgement_placed : (place : ℕ → ℕ) (schemes : List SchemeTree) (n : ℕ) (j : Judgement) → with_judgement schemes n (placed_judgement place j) ≡ placed_inference place (with_judgement schemes n j)
judgement_placed place schemes n (has_scheme s) = refl
judgement_placed place schemes n too_many_slots = refl
judgement_placed place schemes n (passes_range at) = refl
judgement_placed place schemes n (has_no_typing row at) = refl
judgement_placed place schemes n (not_general row at) = refl

then_placed : (place : ℕ → ℕ) (r : Inference) (next other : List SchemeTree → Inference) → ((schemes : List SchemeTree) → other schemes ≡ placed_inference place (next schemes)) → and_then (placed_inference place r) other ≡ placed_inference place (and_then r next)
then_placed place (all_schemes schemes) next other h = h schemes
then_placed place (stops_at_slots i) next other h = refl
then_placed place (stops_at_range i at) next other h = refl
then_placed place (stops_at_units i row at) next other h = refl
then_placed place (stops_at_not_general i row at) next other h = refl

module _ (place : ℕ → ℕ) (number_of : Frac → UnitNote → Frac) (stays : (c : Frac) → number_of c Hole ≡ c) (p : ProgramTree) where
  abbrev bases : ℕ
  bases = length p.bases

  function_placed : (schemes : List SchemeTree) (n : ℕ) (o : Option FunctionTree) → with_function bases (others place number_of p.records) schemes n (option_map (changed_function place number_of) o) ≡ placed_inference place (with_function bases p.records schemes n o)
  function_placed schemes n (Some f) =
      (λ i. with_judgement schemes n (same_judgement place number_of stays p.records schemes n f bases i)) ∙ judgement_placed place schemes n (judge bases p.records schemes n f)
  function_placed schemes n None = refl

  first_placed : (n : ℕ) → infer_first (changed_program place number_of p) n ≡ placed_inference place (infer_first p n)
  first_placed zero = refl
  first_placed (suc n) =
      let others = others place number_of p.records in
      let next : List SchemeTree → Inference = λ schemes. with_function bases p.records schemes n (slice_get p.functions n) in
      let other : List SchemeTree → Inference = λ schemes. with_function bases others schemes n (slice_get (map (changed_function place number_of) p.functions) n) in
      (λ i. and_then (first_placed n i) other)
      ∙ then_placed place (infer_first p n) next other (λ schemes. (λ i. with_function bases others schemes n (slice_get-map (changed_function place number_of) p.functions n i)) ∙ function_placed schemes n (slice_get p.functions n))

  pub same_inference : infer (changed_program place number_of p) ≡ placed_inference place (infer p)
  same_inference = (λ i. infer_first (changed_program place number_of p) (length-map p.functions (changed_function place number_of) i)) ∙ first_placed (length p.functions)
