-- Traces and frames: which traces of an expression are those of the node around it, and what becomes of a trace
-- outside.
-- Source: this project's own.
use Rattle.std.specs.Prelude.{ℕ, ◌≡◌, ◌⊎◌, true, false, List, [], ◌∷◌, ◌++◌}
use Rattle.um_frac.specs.declared.number.Frac.{Frac}
use Rattle.um_tree.specs.ValueTree.{ValueTree, truth_value, number_value, list_value, no_values}
use Rattle.um_tree.specs.ExprTree.{ExprTree, ExprTrees}
use Rattle.um_tree.specs.ProgramTree.{FunctionTree}
use Rattle.um_tree.specs.Meaning.{Out, gives, calculated, raised, Means, AllMean, Outcome}
use Rattle.um_eval.specs.Traces.{Spot, Trace, inside_call}
use Rattle.um_eval.specs.Stopping.{AfterItem, CallStops, Fails, Stops, SomeStops, inside}
use Rattle.um_eval.specs.declared.frame.Unary.{Unary}
use Rattle.um_eval.specs.declared.frame.Unary.TheVariants as unary
use Rattle.um_eval.specs.declared.frame.Binary.{Binary}
use Rattle.um_eval.specs.declared.frame.Binary.TheVariants as binary
use Rattle.um_eval.specs.declared.frame.Collection.{Collection}
use Rattle.um_eval.specs.declared.frame.Collection.TheVariants as collection
use Rattle.um_eval.specs.declared.frame.Frame.{Frame}
use Rattle.um_eval.specs.declared.frame.Frame.TheVariants as frame
use Rattle.um_eval.specs.declared.stop.Operands.{Operands}
use Rattle.um_eval.specs.declared.stop.Operands.TheVariants as operands

-- ---- the call that is run

-- function, arguments and budget of the command's own call
pub record Whole : Type 0 where
  pub function : ℕ
  pub arguments : List ValueTree
  pub budget : ℕ

-- the traces of some evaluation
abbrev pub Traces : Type 1
Traces = Trace → Type 0

module _ (fs : List FunctionTree) (whole : Whole) where
  abbrev pub whole_outcome : Out ValueTree
  whole_outcome = Outcome fs whole.function whole.arguments whole.budget

  -- as if the call stood at place 0 of function 0
  abbrev pub whole_traces : Traces
  whole_traces t = CallStops fs (inside fs) 0 0 whole.function whole.arguments whole.budget t

-- ---- frames

-- the function in whose body the expression inside the frames stands; 0 for the command's own call
abbrev pub here_of : List Frame → ℕ
here_of [] = 0
here_of (frame.Operand op ∷ frames) = here_of frames
here_of (frame.Left op y ∷ frames) = here_of frames
here_of (frame.Right op x ∷ frames) = here_of frames
here_of (frame.LeftOfAnd y ∷ frames) = here_of frames
here_of (frame.LeftOfOr y ∷ frames) = here_of frames
here_of (frame.Test x y ∷ frames) = here_of frames
here_of (frame.Bound y ∷ frames) = here_of frames
here_of (frame.Matched x y ∷ frames) = here_of frames
here_of (frame.Inner n ∷ frames) = here_of frames
here_of (frame.Item c rest first ∷ frames) = here_of frames
here_of (frame.Body base j at ∷ frames) = j

-- the node of this place inside the frames
abbrev pub spot_in : List Frame → ℕ → Spot
spot_in frames at = record { function = here_of frames; at = at }

-- a trace of the expression inside the frames, told from outside: inside the calls whose bodies the frames stand in
abbrev pub through : List Frame → Trace → Trace
through [] t = t
through (frame.Operand op ∷ frames) t = through frames t
through (frame.Left op y ∷ frames) t = through frames t
through (frame.Right op x ∷ frames) t = through frames t
through (frame.LeftOfAnd y ∷ frames) t = through frames t
through (frame.LeftOfOr y ∷ frames) t = through frames t
through (frame.Test x y ∷ frames) t = through frames t
through (frame.Bound y ∷ frames) t = through frames t
through (frame.Matched x y ∷ frames) t = through frames t
through (frame.Inner n ∷ frames) t = through frames t
through (frame.Item c rest first ∷ frames) t = through frames t
through (frame.Body base j at ∷ frames) t = through frames (inside_call (spot_in frames at) t)

-- ---- a node and its parts

-- there is a value, and then this
abbrev pub Later : {A : Type 0} → Out A → (A → ℕ → Type 0) → Type 0
Later m next = (v : _) × (c : ℕ) × (m ≡ gives v c) × next v c

-- in the body of the function of this number; m is the outcome of a part, and P has its traces
module _ (fs : List FunctionTree) (here : ℕ) where
  -- the traces of an expression, and of the first of some that stops
  abbrev pub traces_of : ExprTree → List ValueTree → ℕ → Traces
  traces_of e vars b t = Stops fs (inside fs) here e vars b t

  -- an operation of one part
  abbrev pub operand_traces : Unary → Out ValueTree → Traces → Traces
  operand_traces unary.Negate m P t = P t
  operand_traces unary.Not m P t = P t
  operand_traces (unary.Power k at) m P t = P t ⊎ Later m (λ v c. Fails fs (inside fs) here at (v ∷ []) (raised k v) t)
  operand_traces (unary.Field r k) m P t = P t

  -- an operation of two parts, in the second
  abbrev pub right_traces : Binary → ValueTree → Out ValueTree → Traces → Traces
  right_traces (binary.Arith op at) v m P t =
      P t ⊎ Later m (λ w d. Fails fs (inside fs) here at (v ∷ w ∷ []) (calculated op v w) t)
  right_traces (binary.Compare sign) v m P t = P t
  right_traces binary.Cons v m P t = P t

  -- and in the first
  abbrev pub left_traces : Binary → List ValueTree → ExprTree → Out ValueTree → Traces → Traces
  left_traces op vars y m P t =
      P t ⊎ Later m (λ v c. right_traces op v (Means fs vars y c) (traces_of y vars c) t)

  abbrev pub and_traces : List ValueTree → ExprTree → Out ValueTree → Traces → Traces
  and_traces vars y m P t = P t ⊎ Later m (λ v c. (v ≡ truth_value true) × traces_of y vars c t)

  abbrev pub or_traces : List ValueTree → ExprTree → Out ValueTree → Traces → Traces
  or_traces vars y m P t = P t ⊎ Later m (λ v c. (v ≡ truth_value false) × traces_of y vars c t)

  abbrev pub test_traces : List ValueTree → ExprTree → ExprTree → Out ValueTree → Traces → Traces
  test_traces vars x y m P t =
      P t
      ⊎ Later m
      (λ v c. ((v ≡ truth_value true) × traces_of x vars c t) ⊎ ((v ≡ truth_value false) × traces_of y vars c t))

  abbrev pub bound_traces : List ValueTree → ExprTree → Out ValueTree → Traces → Traces
  bound_traces vars y m P t = P t ⊎ Later m (λ v c. traces_of y (vars ++ v ∷ []) c t)

  abbrev pub matched_traces : List ValueTree → ExprTree → ExprTree → Out ValueTree → Traces → Traces
  matched_traces vars x y m P t =
      P t
      ⊎ Later m
      (λ v c.
      ((v ≡ list_value no_values) × traces_of x vars c t)
      ⊎ AfterItem fs (inside fs) here v (λ h l. traces_of y (vars ++ h ∷ l ∷ []) c t))

  -- what is collected is made: only a call can stop
  abbrev pub collected_traces : Collection → List ValueTree → ℕ → Traces
  collected_traces collection.List vs b t = ⊥
  collected_traces (collection.Rec r) vs b t = ⊥
  collected_traces (collection.Call j at) vs b t = CallStops fs (inside fs) here at j vs b t

  -- some items are still to be evaluated, and those before them have the values vs
  abbrev pub collecting_traces : Collection → List ValueTree → List ValueTree → ExprTrees → ℕ → Traces
  collecting_traces c vs vars rest b t =
      SomeStops fs (inside fs) here rest vars b t
      ⊎ Later (AllMean fs vars rest b) (λ us d. collected_traces c (vs ++ us) d t)

  -- in an item, with some after it
  abbrev pub item_traces : Collection → List ValueTree → List ValueTree → ExprTrees → Out ValueTree → Traces → Traces
  item_traces c vs vars rest m P t =
      P t
      ⊎ Later m
      (λ v b.
      SomeStops fs (inside fs) here rest vars b t
      ⊎ Later (AllMean fs vars rest b) (λ us d. collected_traces c (vs ++ v ∷ us) d t))

-- a body, for the node of its call
abbrev pub called_traces : Spot → Traces → Traces
called_traces call P t = (u : Trace) × P u × (t ≡ inside_call call u)

-- ---- operands

abbrev pub operand_numbers : Operands → List Frac
operand_numbers operands.None = []
operand_numbers (operands.One x) = x ∷ []
operand_numbers (operands.Two x y) = x ∷ y ∷ []

abbrev pub operand_values : Operands → List ValueTree
operand_values operands.None = []
operand_values (operands.One x) = number_value x ∷ []
operand_values (operands.Two x y) = number_value x ∷ number_value y ∷ []
