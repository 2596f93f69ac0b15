-- How a call ends: as the program's meaning has it, and never with a wrong shape.
use Rattle.std.proofs.Common.{◌≡◌, sym, ap, ◌∙◌, subst, ℕ, List, Some}
use Rattle.std.specs.Prelude.{IsSome}
use Rattle.um_tree.specs.ValueTree.{ValueTree, values_in_order, value_outcome}
use Rattle.um_tree.specs.ProgramTree.{FunctionTree, ProgramTree}
use Rattle.um_tree.specs.Meaning.{Out, end_of, outcome_of_call}
use Rattle.um_tree.specs.InputType.{ValuesHave}
use Rattle.um_tree.specs.Shapes.{IsShaped, IsShapeOf, ShapeAt, shapes_below}
use Rattle.um_shape.proofs.NeverWrong.{calls_are_never_wrong}
use Rattle.um_cells.specs.declared.store.Store.{Store}
use Rattle.um_cells.specs.declared.word.Word.{Word}
use Rattle.um_cells.specs.Stores.{DenotesIn, AllDenote, HasValue}
use Rattle.um_cells.proofs.Denoting.{one_value, one_value_each}
use Rattle.um_cells.specs.Arguments.{AreArgumentsOf}
use Rattle.um_eval.specs.declared.next.End.TheVariants as end
use Rattle.um_eval.specs.Progress.{EndsWith, end_of_call}

module _ (s : Store) (w : Word) where
  pub value_is_there : (out : Out ValueTree) → EndsWith s (end.Value w) out → HasValue s w
  value_is_there out (v, rest, d, e) = (v, d)

  pub value_ends : (out : Out ValueTree) (value : ValueTree) → EndsWith s (end.Value w) out → DenotesIn s w value → end_of out ≡ Some (value_outcome value)
  value_ends out value (v, rest, d, e) k = ap end_of (sym e) ∙ ap (λ u. Some (value_outcome u)) (one_value s.cells.items w v value d k)

pub allowed_calls_end : (p : ProgramTree) (f b : ℕ) (vs : List ValueTree) → IsShaped p → AreArgumentsOf p f vs → IsSome (outcome_of_call p f vs b)
allowed_calls_end p f b vs shaped (g, there, have) =
    let (signature, its) = shaped f g there in
    let shapes : IsShapeOf p.records (shapes_below p f) f g signature = subst (λ o. ShapeAt p.records (shapes_below p f) f o signature) there its in
    calls_are_never_wrong p f signature vs b its (subst (λ ss. ValuesHave p.records (values_in_order vs) ss) (sym shapes.params) have)

module _ (p : ProgramTree) (fs : List FunctionTree) (s : Store) (words : List Word) (f b : ℕ) (args : List ValueTree) (same : fs ≡ p.functions) (there : AllDenote s words args) where
  -- on the words of allowed arguments a call has an outcome
  pub right_call : IsShaped p → AreArgumentsOf p f args → (vs : List ValueTree) → AllDenote s words vs → IsSome (end_of_call fs f vs b)
  right_call shaped allowed vs d =
      subst (λ us. IsSome (end_of_call fs f us b)) (one_value_each s.cells.items words args vs there d)
      (subst (λ gs. IsSome (end_of_call gs f args b)) (sym same) (allowed_calls_end p f b args shaped allowed))
