-- What verified images come to.
-- Source: this project's own.
use Rattle.std.specs.Prelude.{◌≡◌, ◌≢◌, ◌≤◌, ◌+◌, ◌*◌, ℕ, true, List, Some, None, length, slice_get}
use Rattle.um_tree.specs.ValueTree.{ValueTree, values_in_order, OutcomeTree, value_outcome, trap_outcome}
use Rattle.um_tree.specs.ValueTree.{budget_outcome}
use Rattle.um_tree.specs.ProgramTree.{RecordTree}
use Rattle.um_tree.specs.TypeTree.{ShapeTree}
use Rattle.um_tree.specs.InputType.{ValueHas, ValuesHave}
use Rattle.um_machine.specs.declared.code.Entry.{Entry}
use Rattle.um_machine.specs.Machine.{done, stuck, Runs, EndsWith}
use Rattle.um_machine.specs.Jumps.{JumpsGoForward}
use Rattle.um_verify.specs.StackShape.{StackShape, fits, join}
use Rattle.um_verify.specs.ImageTree.{HeadTree, ImageTree}
use Rattle.um_verify.specs.Verified.{IsVerified}

-- a value has the shape; of another outcome nothing is asked
abbrev pub OutcomeHas : List RecordTree → OutcomeTree → ShapeTree → Type 0
OutcomeHas records (value_outcome v) s = ValueHas records v s
OutcomeHas records (trap_outcome t) s = Unit {0}
OutcomeHas records budget_outcome s = Unit {0}

-- a call of this function from outside, at values of its parameters' shapes
pub record IsCall (image : ImageTree) (f : ℕ) (head : HeadTree) (vs : List ValueTree) : Type 0 where
  pub listed : slice_get image.heads f ≡ Some head
  pub values : ValuesHave image.records (values_in_order vs) head.params

-- no step of its run is stuck
abbrev pub NeverStuck : Type 0
NeverStuck =
    (image : ImageTree) (f : ℕ) (head : HeadTree) (vs : List ValueTree) (b n : ℕ) →
    IsVerified image → IsCall image f head vs → Runs image.code f vs b n ≢ stuck

-- and some number of steps ends it, at each budget, with an outcome whose value has the result's shape
abbrev pub RunsEnd : Type 0
RunsEnd =
    (image : ImageTree) (f : ℕ) (head : HeadTree) (vs : List ValueTree) (b : ℕ) →
    IsVerified image → IsCall image f head vs →
    (o : OutcomeTree) × EndsWith image.code f vs b o × OutcomeHas image.records o head.result

-- after as many steps as the budget times one more than the instructions it has ended
abbrev pub EndsSoon : Type 0
EndsSoon =
    (image : ImageTree) (f : ℕ) (head : HeadTree) (vs : List ValueTree) (b n : ℕ) →
    IsVerified image → IsCall image f head vs → b * (length image.code.ops + 1) ≤ n →
    (o : OutcomeTree) × (Runs image.code f vs b n ≡ done o)

-- and a value with which it ends has the result's shape
abbrev pub EndsHaveShape : Type 0
EndsHaveShape =
    (image : ImageTree) (f : ℕ) (head : HeadTree) (vs : List ValueTree) (b n : ℕ) (o : OutcomeTree) →
    IsVerified image → IsCall image f head vs → Runs image.code f vs b n ≡ done o →
    OutcomeHas image.records o head.result

-- the code has an entry for the call, which takes as many values
abbrev pub CallsHaveEntries : Type 0
CallsHaveEntries =
    (image : ImageTree) (f : ℕ) (head : HeadTree) (vs : List ValueTree) → IsVerified image → IsCall image f head vs →
    (e : Entry) × (slice_get image.code.entries f ≡ Some e) × (length vs ≡ e.params)

-- the jumps of verified code go forward
abbrev pub VerifiedGoForward : Type 0
VerifiedGoForward = (image : ImageTree) → IsVerified image → JumpsGoForward image.code

-- the join of two shapes is the least that both fit
abbrev pub JoinIsLeast : Type 0
JoinIsLeast =
    (s t u : StackShape) → join s t ≡ Some u →
    (fits s u ≡ true) × (fits t u ≡ true) × ((w : StackShape) → fits s w ≡ true → fits t w ≡ true → fits u w ≡ true)

-- and if they have none, there is no shape that both fit
abbrev pub NoJoinNoBound : Type 0
NoJoinNoBound = (s t w : StackShape) → join s t ≡ None → fits s w ≡ true → fits t w ≡ true → ⊥
