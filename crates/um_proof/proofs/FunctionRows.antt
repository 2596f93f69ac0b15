-- The rows of a function of a program: what the makers ask of them, and what they are judged.
use Rattle.std.proofs.Common.{◌≡◌, ℕ, ◌<◌, ◌≤◌, cond, leb, List, length, slice_get, Option, Some, None, refl, sym, ap, ◌∙◌, subst, arith}
use Rattle.std.specs.Prelude.{All}
use Rattle.std.proofs.lemmas.Bool.Decides.{nat_tests}
use Rattle.std.proofs.lemmas.List.{length-map}
use Rattle.um_units.specs.PowerMap.{nth}
use Rattle.um_units.specs.Variables.{VariablesBelow}
use Rattle.um_tree.specs.ProgramTree.{RecordTree, FunctionTree, ProgramTree, Signature, SchemeTree}
use Rattle.um_tree.specs.Formed.{BasesBelow, IsFormed}
use Rattle.um_tree.specs.Laws.{TypeHas}
use Rattle.um_tree.specs.Shapes.{IsShaped}
use Rattle.um_tree.specs.Typing.{put_signature}
use Rattle.um_tree.specs.Scheme.{signature_types, variables}
use Rattle.um_elim.specs.Solution.{rigid_units}
use Rattle.um_elim.proofs.Cases.{on_test}
use Rattle.um_equal_types.specs.declared.row.Row.{Row}
use Rattle.um_equal_types.specs.declared.row.Rows.{Rows}
use Rattle.um_equal_types.specs.Steps.{rows_of, units_of, first_past}
use Rattle.um_slots.specs.Slots.{slot_count}
use Rattle.um_rows.specs.Equations.{slot_equations}
use Rattle.um_rows.specs.Solutions.{function_rows, slot_signature, HaveSchemes}
use Rattle.um_slots.specs.Keys.{text_keys}
use Rattle.um_rows.specs.FirstUnsolvable.{Solving, solved, unsolved, out_of_range, solve}
use Rattle.um_rows.specs.Generalised.{generalised}
use Rattle.um_rows.specs.Judgement.{Judgement, has_scheme, too_many_slots, passes_range, has_no_typing, not_general, signature_fits, numbered_scheme, by_solving, by_rows, by_range, judge}
use Rattle.um_rows.specs.Answers.{rows_signature, AreEquations, HaveVariablesBelow}
use Rattle.um_slots.proofs.ParameterSlots.{parameters_have_slots}
use Rattle.um_rows.proofs.Solved.{rows_hold_slots, types_hold_slots}
use Rattle.um_proof.specs.Answers.{AreFunctionRows, judged}
use Rattle.um_proof.proofs.Inferred.{rows_hold_declared_units, types_hold_declared_units, rows_are_few}
use Rattle.um_infer.proofs.SchemeJudgements.{same_signature, same_rows}
use Rattle.um_proof.specs.ProgramSteps.{HaveInferred}
use Rattle.um_proof.proofs.DeclaredUnits.{all_none, types_none}

-- a refusal is the same wherever a power of the scheme would be refused
module _ (bases parameters slots at other : ℕ) (g : Signature) (rows : List Row) where
  abbrev IsRefusal : Judgement → Type 0
  IsRefusal (has_scheme s) = ⊥
  IsRefusal too_many_slots = ⊥
  IsRefusal (passes_range place) = ⊥
  IsRefusal (has_no_typing row place) = Unit {0}
  IsRefusal (not_general row place) = Unit {0}

  moved : (r : Solving) (j : Judgement) → IsRefusal j → by_solving bases parameters slots at g rows r ≡ j → by_solving bases parameters slots other g rows r ≡ j
  moved (solved us) j free h =
      let solution = put_signature (nth us) g in
      on_test (signature_fits solution)
      (λ e. absurd (subst IsRefusal (sym (subst (λ b. cond b (has_scheme (numbered_scheme (generalised bases parameters slots solution))) (passes_range at) ≡ j) e h)) free))
      (λ e. absurd (subst IsRefusal (sym (subst (λ b. cond b (has_scheme (numbered_scheme (generalised bases parameters slots solution))) (passes_range at) ≡ j) e h)) free))
  moved (unsolved k place) j free h = h
  moved (out_of_range place) j free h = absurd (subst IsRefusal (sym h) free)

  pub moved_refusal : (j : Judgement) → IsRefusal j → by_rows bases parameters slots at g rows ≡ j → by_rows bases parameters slots other g rows ≡ j
  moved_refusal j free h = moved (solve 0 rows (rigid_units bases parameters slots)) j free h

-- what the makers ask
pub are_function_rows : (p : ProgramTree) (schemes : List SchemeTree) (i : ℕ) (f : FunctionTree) (r : Rows) → IsFormed p → IsShaped p → HaveSchemes p schemes i → HaveInferred p schemes i → slice_get p.functions i ≡ Some f → AreEquations p.records schemes i f r →
    AreFunctionRows (length p.bases) f.units r
are_function_rows p schemes i f r formed shaped have w at h = record {
  few = subst (λ n. n ≤ 2000) (sym h.slots) h.few;
  number = (
      let few = rows_are_few p w.0 schemes i f formed shaped w.2 w.3 at in
      let same = ap length alike in
      let count = length-map r.list.items.items (λ (x : Row). x.unit) in
      omega (arith, few, same, count)
      );
  parameters_within = within;
  bases_below = (let b = formed.few_bases in let s = h.slots in let k = h.few in omega (arith, b, s, k, within));
  rows = subst (λ n. All (VariablesBelow n) (units_of r.list.items.items)) (sym h.slots) (subst (All (VariablesBelow (slot_count p.records schemes i f))) (sym alike) (rows_hold_slots p schemes i f have));
  types = subst (λ n. All (λ k. k < n) (variables (signature_types (rows_signature r)))) (sym h.slots)
      (subst (λ g. All (λ k. k < slot_count p.records schemes i f) (variables (signature_types g))) (sym types_alike) (types_hold_slots p schemes i f have));
  declared_rows = all_none (length p.bases) f.units (units_of r.list.items.items) (subst (All (BasesBelow (length p.bases))) (sym alike) (rows_hold_declared_units p w.0 schemes i f formed shaped w.2 w.3 w.1 at));
  declared_types = types_none (length p.bases) f.units (signature_types (rows_signature r))
      (subst (λ g. All (TypeHas (BasesBelow (length p.bases))) (signature_types g)) (sym types_alike) (types_hold_declared_units p w.0 schemes i f formed shaped w.2 w.3 w.1 at));
}
  where
    within : f.units ≤ r.slots
    within = let o = parameters_have_slots f.units (text_keys p.records schemes i f) in let s = h.slots in omega (arith, o, s)

    alike : units_of r.list.items.items ≡ function_rows p.records schemes i f
    alike = same_rows (length p.bases) p.records schemes i f r h

    types_alike : rows_signature r ≡ slot_signature p.records schemes i f
    types_alike = same_signature (length p.bases) p.records schemes i f r h
