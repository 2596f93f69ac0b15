-- A path that is read off frames is that of the call's trace.
use Rattle.std.proofs.Common.{◌≡◌, refl, sym, ap, ◌∙◌, subst, ℕ, zero, suc, ◌<◌, List, [], ◌∷◌, ◌++◌, map, append_assoc, arith, Some, None}
use Rattle.std.specs.Prelude.{IsSome}
use Rattle.um_tree.specs.ValueTree.{ValueTree}
use Rattle.um_tree.specs.ProgramTree.{FunctionTree}
use Rattle.um_tree.specs.Meaning.{Stop, wrong, Out, gives, stops, end_of, Outcome}
use Rattle.um_eval.specs.Traces.{Spot, Trace, stop_at, inside_call}
use Rattle.um_eval.specs.Stopping.{CallStops, StopsWith, inside}
use Rattle.um_eval.proofs.Traced.{traces_are_stops}
use Rattle.um_eval.specs.declared.stop.Path.{Path}
use Rattle.um_eval.specs.declared.stop.Operands.{Operands}
use Rattle.um_eval.specs.declared.frame.Frame.{Frame}
use Rattle.um_eval.specs.declared.frame.Frame.TheVariants as frame
use Rattle.um_eval.specs.Through.{Whole, spot_in, through, operand_values}
use Rattle.um_eval.specs.Progress.{StopsAt}
use Rattle.um_eval.specs.Paths.{spot_of, IsFound, spots_in}

-- ---- lists

abbrev but_last : {A : Type 0} → List A → List A
but_last [] = []
but_last (x ∷ []) = []
but_last (x ∷ y ∷ zs) = x ∷ but_last (y ∷ zs)

but_last_of : {A : Type 0} (xs : List A) (x : A) → but_last (xs ++ x ∷ []) ≡ xs
but_last_of [] x = refl
but_last_of (y ∷ []) x = refl
but_last_of (y ∷ z ∷ zs) x = ap (λ ws. y ∷ ws) (but_last_of (z ∷ zs) x)

-- ---- frames

-- the calls whose bodies the frames stand in, the command's own last
abbrev calls_in : List Frame → List Spot
calls_in [] = []
calls_in (frame.Operand op ∷ frames) = calls_in frames
calls_in (frame.Left op y ∷ frames) = calls_in frames
calls_in (frame.Right op x ∷ frames) = calls_in frames
calls_in (frame.LeftOfAnd y ∷ frames) = calls_in frames
calls_in (frame.LeftOfOr y ∷ frames) = calls_in frames
calls_in (frame.Test x y ∷ frames) = calls_in frames
calls_in (frame.Bound y ∷ frames) = calls_in frames
calls_in (frame.Matched x y ∷ frames) = calls_in frames
calls_in (frame.Inner n ∷ frames) = calls_in frames
calls_in (frame.Item c rest first ∷ frames) = calls_in frames
calls_in (frame.Body base j at ∷ frames) = spot_in frames at ∷ calls_in frames

-- a trace told from outside
told_outside : (why : Stop) (node : Spot) (operands : List ValueTree) (calls : List Spot) (frames : List Frame) → through frames (record { why = why; node = node; operands = operands; calls = calls }) ≡ record { why = why; node = node; operands = operands; calls = calls ++ calls_in frames }
told_outside why node operands calls [] = ap (λ cs. record { why = why; node = node; operands = operands; calls = cs }) (sym (append_nothing calls))
  where
    append_nothing : (xs : List Spot) → xs ++ [] ≡ xs
    append_nothing [] = refl
    append_nothing (x ∷ xs) = ap (λ ys. x ∷ ys) (append_nothing xs)
told_outside why node operands calls (frame.Operand op ∷ frames) = told_outside why node operands calls frames
told_outside why node operands calls (frame.Left op y ∷ frames) = told_outside why node operands calls frames
told_outside why node operands calls (frame.Right op x ∷ frames) = told_outside why node operands calls frames
told_outside why node operands calls (frame.LeftOfAnd y ∷ frames) = told_outside why node operands calls frames
told_outside why node operands calls (frame.LeftOfOr y ∷ frames) = told_outside why node operands calls frames
told_outside why node operands calls (frame.Test x y ∷ frames) = told_outside why node operands calls frames
told_outside why node operands calls (frame.Bound y ∷ frames) = told_outside why node operands calls frames
told_outside why node operands calls (frame.Matched x y ∷ frames) = told_outside why node operands calls frames
told_outside why node operands calls (frame.Inner n ∷ frames) = told_outside why node operands calls frames
told_outside why node operands calls (frame.Item c rest first ∷ frames) = told_outside why node operands calls frames
told_outside why node operands calls (frame.Body base j at ∷ frames) =
    told_outside why node operands (calls ++ spot_in frames at ∷ []) frames
    ∙ ap (λ cs. record { why = why; node = node; operands = operands; calls = cs }) (append_assoc calls (spot_in frames at ∷ []) (calls_in frames))

-- the node and the calls are the spots, and then the command's own call
seam : (at : ℕ) (frames : List Frame) → (own : Spot) × (spot_in frames at ∷ calls_in frames ≡ map spot_of (spots_in at frames) ++ own ∷ [])
seam at [] = (record { function = 0; at = at }, refl)
seam at (frame.Operand op ∷ frames) = seam at frames
seam at (frame.Left op y ∷ frames) = seam at frames
seam at (frame.Right op x ∷ frames) = seam at frames
seam at (frame.LeftOfAnd y ∷ frames) = seam at frames
seam at (frame.LeftOfOr y ∷ frames) = seam at frames
seam at (frame.Test x y ∷ frames) = seam at frames
seam at (frame.Bound y ∷ frames) = seam at frames
seam at (frame.Matched x y ∷ frames) = seam at frames
seam at (frame.Inner n ∷ frames) = seam at frames
seam at (frame.Item c rest first ∷ frames) = seam at frames
seam at (frame.Body base j called ∷ frames) =
    let (own, is) = seam called frames in
    let node : Spot = record { function = j; at = at } in
    (own, ap (λ ss. node ∷ ss) is)

-- ---- the path

module _ (fs : List FunctionTree) (frames : List Frame) (why : Stop) (at : ℕ) (given : Operands) (path : Path) (operands : path.operands ≡ given) (spots : path.spots.items ≡ spots_in at frames) where
  path_found : (j : ℕ) (vs : List ValueTree) (b : ℕ) → CallStops fs (inside fs) 0 0 j vs (suc b) (through frames (stop_at (spot_in frames at) why (operand_values given))) → IsFound fs j vs (suc b) (Some path)
  path_found j vs b (u, inner, told) =
      let whole : Spot = record { function = 0; at = 0 } in
      let t : Trace = record { why = why; node = spot_in frames at; operands = operand_values given; calls = calls_in frames } in
      let same : t ≡ inside_call whole u = sym (told_outside why (spot_in frames at) (operand_values given) [] frames) ∙ told in
      let (own, split) = seam at frames in
      let list : (u.node ∷ u.calls) ++ whole ∷ [] ≡ map spot_of (spots_in at frames) ++ own ∷ [] =
      sym (ap (λ (w : Trace). w.node ∷ w.calls) same) ∙ split in
      let shorter : u.node ∷ u.calls ≡ map spot_of (spots_in at frames) =
      sym (but_last_of (u.node ∷ u.calls) whole) ∙ ap but_last list ∙ but_last_of (map spot_of (spots_in at frames)) own in
      (u, inner, (sym (ap (λ (w : Trace). w.operands) same) ∙ ap operand_values (sym operands), shorter ∙ ap (map spot_of) (sym spots)))

  pub read_off : (whole : Whole) → 0 < whole.budget → StopsAt fs frames why at given whole → IsFound fs whole.function whole.arguments whole.budget (Some path)
  read_off whole some h = by whole.budget some h where
    by : (b : ℕ) → 0 < b → CallStops fs (inside fs) 0 0 whole.function whole.arguments b (through frames (stop_at (spot_in frames at) why (operand_values given))) → IsFound fs whole.function whole.arguments b (Some path)
    by zero some h = absurd (omega (arith, some))
    by (suc b) some h = path_found whole.function whole.arguments b h

-- ---- no path

-- a call that gives a value has no trace
pub value_has_none : (fs : List FunctionTree) (j : ℕ) (vs : List ValueTree) (b : ℕ) (v : ValueTree) (c : ℕ) → gives v c ≡ Outcome fs j vs b → IsFound fs j vs b None
value_has_none fs j vs b v c given t h =
    let clash : gives v c ≡ stops t.why = given ∙ traces_are_stops fs j vs b t h in
    cc clash

-- a call whose shapes are right isn't wrong
pub right_is_no_wrong : {A : Type 0} (out : Out ValueTree) → IsSome (end_of out) → stops wrong ≡ out → A
right_is_no_wrong out some is = absurd (none (subst (λ o. IsSome (end_of o)) (sym is) some)) where
  none : IsSome (end_of (stops wrong)) → ⊥
  none h = cc h

-- without a budget it has none
pub unpaid_has_none : (fs : List FunctionTree) (j : ℕ) (vs : List ValueTree) (b : ℕ) → b ≡ 0 → IsFound fs j vs b None
unfolding StopsWith
unpaid_has_none fs j vs b empty t h = subst (λ k. StopsWith fs j vs k t) empty h
