-- What is known of a function of a program whose functions have schemes.
use Rattle.std.proofs.Common.{◌≡◌, ℕ, ◌<◌, ◌≤◌, List, length, slice_get, Some, sym, ◌∙◌, subst, arith}
use Rattle.std.specs.Prelude.{All}
use Rattle.um_tree.specs.ProgramTree.{FunctionTree, ProgramTree, SchemeTree}
use Rattle.um_tree.specs.Formed.{IsFormed}
use Rattle.um_tree.specs.Scheme.{signature_types, variables}
use Rattle.um_elim.specs.Solution.{rigid_units}
use Rattle.um_slots.specs.Slots.{slot_count}
use Rattle.um_equal_types.specs.declared.row.Rows.{Rows}
use Rattle.um_rows.specs.Answers.{AreEquations, rows_signature}
use Rattle.um_rows.specs.FirstUnsolvable.{solve}
use Rattle.um_rows.specs.Judgement.{has_scheme, by_rows}
use Rattle.um_rows.specs.NodeTypes.{TypedNode, function_nodes}
use Rattle.um_rows.specs.Solutions.{HaveSchemes}
use Rattle.um_rows.proofs.Solved.{types_hold_slots}
use Rattle.um_rows.proofs.NodesBelow.{nodes_hold_slots}
use Rattle.um_infer.specs.Inference.{all_schemes, infer}
use Rattle.um_infer.proofs.InferenceLaws.{given_schemes_are_principal}
use Rattle.um_infer.proofs.Judged.{few_slots, types_below, parameters_within}
use Rattle.um_infer.proofs.SchemeLists.{item_at}
use Rattle.um_infer.proofs.SchemeJudgements.{schemes_until, yes_judged}
use Rattle.um_annot.specs.TextOrder.{in_text_order}
use Rattle.um_annot.specs.Annotated.{node_types, by_solving, annotation}

-- the inference gives one list
pub same_schemes : (p : ProgramTree) (schemes others : List SchemeTree) → infer p ≡ all_schemes schemes → infer p ≡ all_schemes others → schemes ≡ others
same_schemes p schemes others e f = let both : all_schemes schemes ≡ all_schemes others = sym e ∙ f in cc both

module _ (p : ProgramTree) (formed : IsFormed p) (schemes : List SchemeTree) (inferred : infer p ≡ all_schemes schemes) (i : ℕ) (inside : i < length p.functions) where
  pub have : HaveSchemes p schemes i
  have = schemes_until p formed (length p.functions) i schemes (omega arith) (omega (arith, inside)) inferred

  pub scheme_at : (s : SchemeTree) × (slice_get schemes i ≡ Some s)
  scheme_at = item_at schemes i (subst (λ n. i < n) (sym (given_schemes_are_principal p formed schemes inferred).count) inside)

  module _ (f : FunctionTree) (declared : slice_get p.functions i ≡ Some f) where
    module _ (r : Rows) (h : AreEquations p.records schemes i f r) where
      pub few : r.slots ≤ 2000
      few = few_slots (length p.bases) p.records schemes i f r h

      pub types_low : All (λ k. k < r.slots) (variables (signature_types (rows_signature r)))
      types_low = types_below (length p.bases) p.records schemes i f r h (types_hold_slots p schemes i f have)

      pub nodes_low : (ns : List TypedNode) → ns ≡ function_nodes p.records schemes i f → All (λ k. k < r.slots) (variables (node_types ns))
      nodes_low ns is =
          subst (λ n. All (λ k. k < n) (variables (node_types ns))) (sym h.slots)
          (subst (λ xs. All (λ k. k < slot_count p.records schemes i f) (variables (node_types xs))) (sym is) (nodes_hold_slots p schemes i f have))

      pub within : (parameters : ℕ) → parameters ≡ f.units → parameters ≤ r.slots
      within parameters is = parameters_within (length p.bases) p.records schemes i f r h parameters is

      pub judged : (bases parameters at : ℕ) → bases ≡ length p.bases → parameters ≡ f.units → at ≡ f.at → (s : SchemeTree) × (by_rows bases parameters r.slots at (rows_signature r) r.list.items.items ≡ has_scheme s)
      judged bases parameters at same_bases same_units same_at = (
        scheme_at.0,
        (λ j. by_rows (same_bases j) (same_units j) r.slots (same_at j) (rows_signature r) r.list.items.items)
            ∙ yes_judged p formed (length p.functions) schemes (omega arith) inferred i inside f declared scheme_at.0 scheme_at.1 r h,
      )

      pub same_annotation : (bases parameters : ℕ) (ns : List TypedNode) → bases ≡ length p.bases → parameters ≡ f.units → ns ≡ function_nodes p.records schemes i f →
          by_solving bases parameters r.slots (rows_signature r) (in_text_order ns) (solve 0 r.list.items.items (rigid_units bases parameters r.slots)) ≡ annotation (length p.bases) p.records schemes i f
      same_annotation bases parameters ns same_bases same_units same_nodes =
          λ j. by_solving (same_bases j) (same_units j) (h.slots j) (record { params = h.params j; result = h.result j }) (in_text_order (same_nodes j)) (solve 0 (h.list j) (rigid_units (same_bases j) (same_units j) (h.slots j)))
