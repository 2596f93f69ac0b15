-- What solved the equations of functions: it stays if a scheme comes behind those of the functions before.
use Rattle.std.proofs.Common.{◌≡◌, ℕ, ◌+◌, ◌<◌, ◌≤◌, inl, inr, List, [], ◌∷◌, ◌++◌, length, Some, slice_get, Result, Ok, Err, sym, ap, ◌∙◌, subst, arith}
use Rattle.std.proofs.lemmas.List.{length-append}
use Rattle.std.proofs.lemmas.Option.{slice_get_within}
use Rattle.um_tree.specs.ProgramTree.{FunctionTree, ProgramTree, SchemeTree}
use Rattle.um_elim.specs.Solution.{rigid_units}
use Rattle.um_rows.specs.declared.nodes.TypedRows.{TypedRows}
use Rattle.um_equal_types.specs.Steps.{rows_of, first_past}
use Rattle.um_rows.specs.Answers.{AreEquations, AreRowsOf}
use Rattle.um_rows.specs.NodeTypes.{AreNodesOf, typed_nodes}
use Rattle.um_infer.specs.declared.solved.SolvedFunction.{SolvedFunction}
use Rattle.um_infer.specs.declared.solved.SolvedScheme.{SolvedScheme}
use Rattle.um_solving.specs.declared.refusal.Refusal.{Refusal}
use Rattle.um_solving.specs.Solving.{IsSolutionOf}
use Rattle.um_infer.specs.SolvedPrograms.{IsSolvedAt, AreSolvedFunctions, IsSolvedAnswer, IsSolvedBy}
use Rattle.um_infer.proofs.Judged.{solved_is_judged}
use Rattle.um_infer.proofs.SchemeLists.{item_or_last}
use Rattle.um_infer.proofs.GivenSchemes.{behind}
use Rattle.um_infer.proofs.SameEquations.{same_count, same_equations, same_nodes}

module _ (p : ProgramTree) (schemes : List SchemeTree) where
  stays : (others : List SchemeTree) (i : ℕ) (solved : SolvedFunction) → ((j : ℕ) → j < i → slice_get schemes j ≡ slice_get others j) → IsSolvedAt p schemes i solved → IsSolvedAt p others i solved
  stays others i solved same h = λ f declared.
      let w = h f declared in
      let count = same_count p.records i f schemes others same in
      let equations = same_equations p.records i f schemes others same in
      record {
        equations = record {
          few = subst (λ n. n ≤ 2000) count w.equations.few;
          in_range = ap (λ e. first_past e.steps) (sym equations) ∙ w.equations.in_range;
          slots = w.equations.slots ∙ count;
          list = w.equations.list ∙ ap (λ e. rows_of e.steps) equations;
          params = w.equations.params ∙ ap (λ e. e.params) equations;
          result = w.equations.result ∙ ap (λ e. e.result) equations;
        };
        nodes = w.nodes ∙ same_nodes p.records i f schemes others same;
        solution = w.solution;
      }

  -- one more function
  pub one_solved : (s : SchemeTree) (n : ℕ) (all : List SolvedFunction) (solved : SolvedFunction) → length schemes ≡ n → AreSolvedFunctions p schemes n all → IsSolvedAt p schemes n solved → AreSolvedFunctions p (schemes ++ s ∷ []) (n + 1) (all ++ solved ∷ [])
  one_solved s n all solved long before here = (
    length-append all (solved ∷ []) ∙ ap (λ k. k + 1) before.0,
    λ i one at. elim (item_or_last all solved i one at) [
      | inl there ↦
          let inside = slice_get_within all i one there in
          stays (schemes ++ s ∷ []) i one (λ j low. behind schemes s j (omega (arith, low, inside, before.0, long))) (before.1 i one there)
      | inr last ↦
          let place : n ≡ i = sym (last.0 ∙ before.0) in
          subst (λ k. IsSolvedAt p (schemes ++ s ∷ []) k one) place
          (subst (IsSolvedAt p (schemes ++ s ∷ []) n) last.1 (stays (schemes ++ s ∷ []) n solved (λ j low. behind schemes s j (omega (arith, low, long))) here))
    ],
  )

  -- the answer by the equations of function i is its answer
  pub answered : (i : ℕ) (typed : TypedRows) → AreRowsOf p schemes i typed.rows → AreNodesOf p schemes i typed.nodes → (bases parameters at : ℕ) → bases ≡ length p.bases →
      ((f : FunctionTree) → slice_get p.functions i ≡ Some f → (parameters ≡ f.units) × (at ≡ f.at)) → (r : Result SolvedScheme Refusal) → IsSolvedBy bases parameters at typed r → IsSolvedAnswer p schemes i r
  answered i typed equations nodes bases parameters at count head (Ok s) is = (
    λ f declared. solved_is_judged (length p.bases) p.records schemes i f typed.rows (equations f declared) bases parameters at (Ok s.scheme) count (head f declared).0 (head f declared).1 is.0,
    λ f declared. record {
      equations = subst (λ (t : TypedRows). AreEquations p.records schemes i f t.rows) (sym is.1) (equations f declared);
      nodes = ap (λ (t : TypedRows). typed_nodes t.nodes) is.1 ∙ nodes f declared;
      solution =
          let own = λ (n m : ℕ). λ (t : TypedRows). IsSolutionOf t.rows.slots (rigid_units n m t.rows.slots) t.rows.list.items.items s.function.solver in
          subst (own (length p.bases) f.units) (sym is.1) (subst (λ n. own n f.units typed) count (subst (λ m. own bases m typed) (head f declared).0 is.2));
    },
  )
  answered i typed equations nodes bases parameters at count head (Err r) is =
      λ f declared. solved_is_judged (length p.bases) p.records schemes i f typed.rows (equations f declared) bases parameters at (Err r) count (head f declared).0 (head f declared).1 is
