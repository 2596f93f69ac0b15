-- Arguments in other sizes of the base units, one by one.
use Rattle.std.proofs.Common.{◌≡◌, ℕ, zero, suc, ◌+◌, ◌<◌, ◌≤◌, arith, Err, cond, IsTrue, List, [], ◌∷◌, ◌++◌, map, take, get_or, length, All, Option, Some, None, slice_get, refl, sym, ap, ◌∙◌}
use Rattle.std.specs.Prelude.{is_some}
use Rattle.std.specs.Option.{option_map}
use Rattle.std.proofs.lemmas.List.Elements.{All-nil, All-cons}
use Rattle.um_frac.specs.declared.number.Frac.{Frac}
use Rattle.std.proofs.lemmas.List.{length-map, take_more}
use Rattle.std.proofs.lemmas.Option.{get_or_from_slice_get, slice_get_read, slice_get_within}
use Rattle.um_tree.specs.TypeTree.{ShapeTree}
use Rattle.um_tree.specs.ValueTree.{ValueTree, InputTree, values_in_order, without_units}
use Rattle.um_tree.specs.ProgramTree.{RecordTree, ProgramTree}
use Rattle.um_tree.specs.Formed.{IsFormed}
use Rattle.um_tree.proofs.Moved.{slice_get_moved}
use Rattle.um_tree.specs.InputType.{ValuesHave}
use Rattle.um_tree.specs.Shapes.{note_shape}
use Rattle.um_cells.specs.Arguments.{AreArgumentsOf}
use Rattle.um_run.specs.Calls.{CallTree, call_values}
use Rattle.um_scale.specs.Sizes.{sizes}
use Rattle.um_scale.specs.RescaledInputs.{input_misfit, rescaled_input}
use Rattle.um_scale.proofs.RescaledCalls.{all_rescaled, rescaled_arguments}
use Rattle.um_call_answers.specs.declared.arguments.ArgumentStop.{ArgumentStop}
use Rattle.um_call_answers.specs.declared.arguments.ArgumentStop.TheVariants.{Misfit, NoMemory}
use Rattle.um_call_answers.specs.TwinAnswer.{misfit_among, rescaled_values}
use Rattle.um_call_answers.specs.Rescaling.{IsArgumentRescaled, AreArgumentsRescaled, IsOther}

neither : (o m : Option ℕ) → cond (is_some o) (Some 0) (option_map (λ k. suc k) m) ≡ None → (o ≡ None) × (m ≡ None)
neither None None e = (refl, refl)
neither None (Some k) e = absurd (cc e)
neither (Some k) m e = absurd (cc e)

module _ (cs : List Frac) where
  pub all_fit : (is : List InputTree) → misfit_among cs is ≡ None → All (λ i. input_misfit cs i ≡ None) is
  all_fit [] e = All-nil (λ i. input_misfit cs i ≡ None)
  all_fit (i ∷ is) e = let h = neither (input_misfit cs i) (misfit_among cs is) e in All-cons (λ j. input_misfit cs j ≡ None) i is h.0 (all_fit is h.1)

  -- one more that fits
  fit_behind : (is : List InputTree) (j : InputTree) → misfit_among cs is ≡ None → input_misfit cs j ≡ None → misfit_among cs (is ++ j ∷ []) ≡ None
  fit_behind [] j e fit = ap (λ (o : Option ℕ). cond (is_some o) (Some 0) None) fit
  fit_behind (i ∷ is) j e fit =
      let h = neither (input_misfit cs i) (misfit_among cs is) e in
      ap (λ (o : Option ℕ). cond (is_some o) (Some 0) (option_map (λ k. suc k) (misfit_among cs (is ++ j ∷ [])))) h.0
      ∙ ap (option_map (λ k. suc k)) (fit_behind is j h.1 fit)

  pub fit_more : (is : List InputTree) (k : ℕ) (j : InputTree) → take (k + 1) is ≡ take k is ++ j ∷ [] → misfit_among cs (take k is) ≡ None → input_misfit cs j ≡ None → misfit_among cs (take (k + 1) is) ≡ None
  fit_more is k j more e fit = ap (misfit_among cs) more ∙ fit_behind (take k is) j e fit

  -- the first that doesn't
  pub misfit_here : (is : List InputTree) (k : ℕ) (j : InputTree) → slice_get is k ≡ Some j → misfit_among cs (take k is) ≡ None → IsTrue (is_some (input_misfit cs j)) → misfit_among cs is ≡ Some k
  misfit_here [] k j e fit misfit = absurd (cc e)
  misfit_here (i ∷ is) zero j e fit misfit =
      let same : i ≡ j = cc e in
      ap (λ b. cond b (Some 0) (option_map (λ n. suc n) (misfit_among cs is))) (ap (λ x. is_some (input_misfit cs x)) same ∙ misfit)
  misfit_here (i ∷ is) (suc k) j e fit misfit =
      let h = neither (input_misfit cs i) (misfit_among cs (take k is)) fit in
      ap (λ (o : Option ℕ). cond (is_some o) (Some 0) (option_map (λ n. suc n) (misfit_among cs is))) h.0
      ∙ ap (option_map (λ n. suc n)) (misfit_here is k j e h.1 misfit)

-- ---- items of a list that is shown
pub shown : {A B : Type 0} (f : A → B) (xs : List A) (k : ℕ) (x : A) → k < length xs → x ≡ get_or xs k x → slice_get (map f xs) k ≡ Some (f x)
shown f xs k x below there = slice_get_moved f xs k x (slice_get_read xs (length xs) k x refl below there)

pub behind : {A : Type 0} (xs : List A) (k : ℕ) (x : A) → slice_get xs k ≡ Some x → take (k + 1) xs ≡ take k xs ++ x ∷ []
behind xs k x there = take_more xs k x (slice_get_within xs k x there) ∙ ap (λ y. take k xs ++ y ∷ []) (get_or_from_slice_get xs k x x there)

-- the argument that doesn't fit is the first
pub one_misfit : (cs : List Frac) (is : List InputTree) (k : ℕ) (i : InputTree) (old new : List InputTree) (stop : ArgumentStop) → slice_get is k ≡ Some i → misfit_among cs (take k is) ≡ None
    → IsArgumentRescaled cs k i old new (Err stop) → AreArgumentsRescaled cs is (Err stop)
one_misfit cs is k i old new (Misfit index) there fit h = misfit_here cs is k i there fit h.1 ∙ ap Some (sym h.0)
one_misfit cs is k i old new NoMemory there fit h = tt

-- the values of arguments that all fit are arguments of the program in these sizes, too
pub other_arguments : (cs : List Frac) (p q : ProgramTree) (call : CallTree) → IsOther cs p q → misfit_among cs call.inputs ≡ None → AreArgumentsOf p call.function (call_values call) → AreArgumentsOf q call.function (rescaled_values cs call)
other_arguments cs p q call other fit allowed =
    rescaled_arguments p q (sizes cs) call.function call.inputs (map (rescaled_input cs) call.inputs) other.scaled
    (all_rescaled cs other.positive call.inputs (all_fit cs call.inputs fit)) allowed

-- ---- a call has few arguments
as_many : (records : List RecordTree) (vs : List ValueTree) (shapes : List ShapeTree) → ValuesHave records (values_in_order vs) shapes → length vs ≡ length shapes
as_many records [] shapes h = sym (ap length h)
as_many records (v ∷ vs) shapes h = ap suc (as_many records vs h.1 h.3) ∙ sym (ap length h.4)

pub few_arguments : (p : ProgramTree) (call : CallTree) → IsFormed p → AreArgumentsOf p call.function (call_values call) → length call.inputs ≤ 16
few_arguments p call formed (g, declared, have) =
    let few = (formed.functions call.function g declared).few_params in
    let many = as_many p.records (call_values call) (map note_shape g.params) have in
    omega (arith, few, many, length-map call.inputs without_units, length-map g.params note_shape)
