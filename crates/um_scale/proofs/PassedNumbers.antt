-- Numbers that are passed one after another.
use Rattle.std.proofs.Common.{◌≡◌, refl, sym, ap, subst, ◌∙◌, ℕ, ◌+◌, ◌<◌, ◌≤◌, Bool, true, false, cond, List, [], ◌∷◌, ◌++◌, length, map, get_or, drop, Some, None, Result, Ok, Err, arith}
use Rattle.std.specs.List.{position_from}
use Rattle.std.specs.Option.{option_or}
use Rattle.std.proofs.lemmas.List.{length-append, drop_all, drop_more}
use Rattle.um_frac.specs.declared.number.Frac.{Frac}
use Rattle.um_tree.specs.declared.note.UnitNote.{UnitNote}
use Rattle.um_tree.specs.declared.value.Input.{Input}
use Rattle.um_tree.specs.ValueTree.{input_tree, inputs_in_order}
use Rattle.um_scale.specs.declared.stop.ScaleStop.{ScaleStop}
use Rattle.um_scale.specs.declared.stop.ScaleStop.TheVariants.{Range, NoMemory}
use Rattle.um_scale.specs.Stops.{IsStopAt}
use Rattle.um_scale.specs.RescaledInputs.{input_numbers, inputs_numbers, is_misfit}
use Rattle.um_scale.specs.PassedNumbers.{IsPassed}
use Rattle.um_scale.proofs.Rescaled.{neither}

-- a position in a list and one behind it
position_on : {A : Type 0} (test : A → Bool) (xs ys : List A) (k : ℕ) → position_from test k (xs ++ ys) ≡ option_or (position_from test k xs) (position_from test (k + length xs) ys)
position_on test [] ys k = let same : k ≡ k + 0 = omega arith in ap (λ n. position_from test n ys) same
position_on test (x ∷ xs) ys k =
    let same : k + 1 + length xs ≡ k + length (x ∷ xs) = omega arith in
    let later = position_on test xs ys (k + 1) ∙ ap (λ n. option_or (position_from test (k + 1) xs) (position_from test n ys)) same in
    elim (test x) as (λ b. cond b (Some k) (position_from test (k + 1) (xs ++ ys)) ≡ option_or (cond b (Some k) (position_from test (k + 1) xs)) (position_from test (k + length (x ∷ xs)) ys)) [ true ↦ refl | false ↦ later ]

-- where there is none in both, there is none in the first, and none behind it
pub none_before : {A : Type 0} (test : A → Bool) (xs ys : List A) (k : ℕ) → position_from test k (xs ++ ys) ≡ None → position_from test k xs ≡ None
none_before test xs ys k h = (neither (position_from test k xs) (position_from test (k + length xs) ys) (sym (position_on test xs ys k) ∙ h)).0

pub none_behind : {A : Type 0} (test : A → Bool) (xs ys : List A) (k : ℕ) → position_from test k (xs ++ ys) ≡ None → position_from test (k + length xs) ys ≡ None
none_behind test xs ys k h = (neither (position_from test k xs) (position_from test (k + length xs) ys) (sym (position_on test xs ys k) ∙ h)).1

module _ (cs : List Frac) where
  -- on behind numbers that are passed
  behind : (xs ys : List (Frac × UnitNote)) (k m : ℕ) → IsPassed cs xs k (Ok m) → position_from (is_misfit cs) k (xs ++ ys) ≡ position_from (is_misfit cs) m ys
  behind xs ys k m h = position_on (is_misfit cs) xs ys k ∙ (λ i. option_or (h.0 i) (position_from (is_misfit cs) (sym h.1 i) ys))

  pub passed_on : (xs ys : List (Frac × UnitNote)) (k m : ℕ) (r : Result ℕ ScaleStop) → IsPassed cs xs k (Ok m) → IsPassed cs ys m r → IsPassed cs (xs ++ ys) k r
  passed_on xs ys k m (Ok n) h g = (behind xs ys k m h ∙ g.0, omega (arith, length-append xs ys, h.1, g.1))
  passed_on xs ys k m (Err stop) h g = subst (λ o. IsStopAt o stop) (sym (behind xs ys k m h)) g

  -- a stop is one of all that follows too
  pub stopped_on : (xs ys : List (Frac × UnitNote)) (k : ℕ) (stop : ScaleStop) → IsPassed cs xs k (Err stop) → IsPassed cs (xs ++ ys) k (Err stop)
  stopped_on xs ys k (Range at) h = position_on (is_misfit cs) xs ys k ∙ ap (λ o. option_or o (position_from (is_misfit cs) (k + length xs) ys)) h
  stopped_on xs ys k NoMemory h = tt

-- ---- the inputs from one on
abbrev pub numbers_left : List Input → ℕ → List (Frac × UnitNote)
numbers_left inputs i = inputs_numbers (inputs_in_order (map input_tree (drop i inputs)))

next_left : (inputs : List Input) (i : ℕ) (x : Input) → i < length inputs → x ≡ get_or inputs i x → numbers_left inputs i ≡ input_numbers (input_tree x) ++ numbers_left inputs (i + 1)
next_left inputs i x below is =
    ap (λ (js : List Input). inputs_numbers (inputs_in_order (map input_tree js))) (drop_more inputs i x below ∙ ap (λ (y : Input). y ∷ drop (i + 1) inputs) (sym is))

-- what is answered of the inputs from one on, at the position before it, is answered of all
abbrev pub Passes : List Frac → List Input → ℕ → ℕ → ℕ → Type 0
Passes cs inputs from i next = (r : Result ℕ ScaleStop) → IsPassed cs (numbers_left inputs i) next r → IsPassed cs (numbers_left inputs 0) from r

module _ (cs : List Frac) (inputs : List Input) (from i next : ℕ) (passes : Passes cs inputs from i next) where
  pub passes_next : (x : Input) (m : ℕ) → i < length inputs → x ≡ get_or inputs i x → IsPassed cs (input_numbers (input_tree x)) next (Ok m) → Passes cs inputs from (i + 1) m
  passes_next x m below is h r g =
      passes r (subst (λ xs. IsPassed cs xs next r) (sym (next_left inputs i x below is)) (passed_on cs (input_numbers (input_tree x)) (numbers_left inputs (i + 1)) next m r h g))

  pub passes_stop : (x : Input) (stop : ScaleStop) → i < length inputs → x ≡ get_or inputs i x → IsPassed cs (input_numbers (input_tree x)) next (Err stop) → IsPassed cs (numbers_left inputs 0) from (Err stop)
  passes_stop x stop below is h =
      passes (Err stop) (subst (λ xs. IsPassed cs xs next (Err stop)) (sym (next_left inputs i x below is)) (stopped_on cs (input_numbers (input_tree x)) (numbers_left inputs (i + 1)) next stop h))

  pub passes_end : length inputs ≤ i → IsPassed cs (numbers_left inputs 0) from (Ok next)
  passes_end past =
      let none : numbers_left inputs i ≡ [] = ap (λ (js : List Input). inputs_numbers (inputs_in_order (map input_tree js))) (drop_all i inputs past) in
      passes (Ok next) (subst (λ xs. IsPassed cs xs next (Ok next)) (sym none) (refl, omega arith))
