-- The least height of a unit text that the tokens begin: it is reached, no token lowers it, and what is found has it.
use Rattle.std.proofs.Common.{◌≡◌, ◌≢◌, ℕ, ◌+◌, ◌≤◌, max, List, [], ◌∷◌, ◌++◌, cond, Bool, true, false, Some, refl, sym, ap, subst, ◌∙◌, arith}
use Rattle.um_syntax.specs.declared.token.Token.{Token}
use Rattle.um_tree.specs.RawTree.{UnitSyntax, one_syntax, measure_syntax, variable_syntax, power_syntax, side_syntax, times_syntax, over_syntax, inverse_syntax, bracket_syntax, units_in_order}
use Rattle.um_tree.specs.Heights.{unit_height, tallest_unit}
use Rattle.um_unit_texts.specs.UnitTokens.{UnitToken, sign, measure, variable, number, unit_token}
use Rattle.um_vocabulary.specs.declared.vocabulary.Symbol.TheVariants as symbol
use Rattle.um_unit_texts.specs.UnitMachine.{Frame, InBracket, InInverse, InTimes, InOver, InSide, State, Need, Have, Raised, Lowered, Refused, opens, reduce, juxtapose, begin, times_after, over_after, close_after, raise, after, raised, lowered, act, whole, unit_step, finish}
use Rattle.um_unit_texts.specs.UnitLeast.{side, least_over, least}
use Rattle.um_unit_texts.proofs.UnitLaws.{filled, all_filled, completed}

tallest_last : (earlier : List UnitSyntax) (t : UnitSyntax) → tallest_unit (units_in_order (earlier ++ t ∷ [])) ≡ max (tallest_unit (units_in_order earlier)) (unit_height t)
tallest_last [] t = omega arith
tallest_last (u ∷ us) t = let e = tallest_last us t in omega (arith, e)

pub height_filled : (frame : Frame) (t : UnitSyntax) → unit_height (filled frame t) ≡ max (side frame) (unit_height t) + 1
height_filled (InBracket at) t = omega arith
height_filled (InInverse at) t = omega arith
height_filled (InTimes left) t = refl
height_filled (InOver left) t = refl
height_filled (InSide earlier) t = ap (λ n. n + 1) (tallest_last earlier t)

height_all_filled : (frames : List Frame) (t : UnitSyntax) → unit_height (all_filled frames t) ≡ least_over frames (unit_height t)
height_all_filled [] t = refl
height_all_filled (frame ∷ frames) t = height_all_filled frames (filled frame t) ∙ ap (least_over frames) (height_filled frame t)

pub completed_height : (st : State) → st ≢ Refused → unit_height (completed st) ≡ least st
completed_height (Need frames) ok = height_all_filled frames (measure_syntax 0 [])
completed_height (Have frames t) ok = height_all_filled frames t
completed_height (Raised frames t) ok = height_all_filled frames (power_syntax t _)
completed_height (Lowered frames t) ok = height_all_filled frames (power_syntax t _)
completed_height Refused ok = absurd (ok refl)

least_up : (frames : List Frame) (h k : ℕ) → h ≤ k → least_over frames h ≤ least_over frames k
least_up [] h k le = le
least_up (frame ∷ frames) h k le = least_up frames (max (side frame) h + 1) (max (side frame) k + 1) (omega arith)

pub reduce_least : (frames : List Frame) (t : UnitSyntax) → least (reduce frames t) ≡ least_over frames (unit_height t)
reduce_least [] t = refl
reduce_least (InBracket at ∷ frames) t = refl
reduce_least (InInverse at ∷ frames) t = reduce_least frames (inverse_syntax at t) ∙ ap (least_over frames) (height_filled (InInverse at) t)
reduce_least (InTimes left ∷ frames) t = reduce_least frames (times_syntax left t)
reduce_least (InOver left ∷ frames) t = reduce_least frames (over_syntax left t)
reduce_least (InSide earlier ∷ frames) t =
    reduce_least frames (side_syntax (units_in_order (earlier ++ t ∷ []))) ∙ ap (least_over frames) (height_filled (InSide earlier) t)

abbrev Above : ℕ → State → Type 0
Above n Refused = Unit {0}
Above n (Need frames) = n ≤ least (Need frames)
Above n (Have frames t) = n ≤ least (Have frames t)
Above n (Raised frames t) = n ≤ least (Raised frames t)
Above n (Lowered frames t) = n ≤ least (Lowered frames t)

above_more : (n m : ℕ) (st : State) → n ≤ m → Above m st → Above n st
above_more n m (Need frames) le h = omega arith
above_more n m (Have frames t) le h = omega arith
above_more n m (Raised frames t) le h = omega arith
above_more n m (Lowered frames t) le h = omega arith
above_more n m Refused le h = tt

inverse_up : (frames : List Frame) (b : Bool) (at : ℕ) → Above (least_over frames 1) (cond b (Need (InInverse at ∷ frames)) Refused)
inverse_up frames true at = least_up frames 1 2 (omega arith)
inverse_up frames false at = tt

begin_up : (frames : List Frame) (what : UnitToken) (at : ℕ) → Above (least_over frames 1) (begin frames what at)
begin_up frames (measure x) at = omega arith
begin_up frames (variable x) at = omega arith
begin_up frames (number true power) at = omega arith
begin_up frames (number false power) at = tt
begin_up frames (sign symbol.LeftParen) at = least_up frames 1 2 (omega arith)
begin_up frames (sign symbol.Slash) at = inverse_up frames (opens frames) at
begin_up frames _ at = tt

first_up : (frames : List Frame) (t : UnitSyntax) → least_over frames (unit_height t) ≤ least_over (InSide (t ∷ []) ∷ frames) 1
first_up frames t = least_up frames (unit_height t) (max (tallest_unit (units_in_order (t ∷ []))) 1 + 1) (omega arith)

juxtapose_up : (frames : List Frame) (t : UnitSyntax) → least_over frames (unit_height t) ≤ least_over (juxtapose frames t) 1
juxtapose_up [] t = first_up [] t
juxtapose_up (InBracket at ∷ frames) t = first_up (InBracket at ∷ frames) t
juxtapose_up (InInverse at ∷ frames) t = first_up (InInverse at ∷ frames) t
juxtapose_up (InTimes left ∷ frames) t = first_up (InTimes left ∷ frames) t
juxtapose_up (InOver left ∷ frames) t = first_up (InOver left ∷ frames) t
juxtapose_up (InSide earlier ∷ frames) t =
    let e = tallest_last earlier t in
    least_up frames (max (tallest_unit (units_in_order earlier)) (unit_height t) + 1) (max (tallest_unit (units_in_order (earlier ++ t ∷ []))) 1 + 1) (omega (arith, e))

next_up : (frames : List Frame) (t : UnitSyntax) (what : UnitToken) (at : ℕ) → Above (least_over frames (unit_height t)) (begin (juxtapose frames t) what at)
next_up frames t what at =
    above_more (least_over frames (unit_height t)) (least_over (juxtapose frames t) 1) (begin (juxtapose frames t) what at) (juxtapose_up frames t) (begin_up (juxtapose frames t) what at)

times_up : (st : State) → Above (least st) (times_after st)
times_up (Have frames t) = least_up frames (unit_height t) (max (unit_height t) 1 + 1) (omega arith)
times_up (Need frames) = tt
times_up (Raised frames t) = tt
times_up (Lowered frames t) = tt
times_up Refused = tt

over_up : (st : State) → Above (least st) (over_after st)
over_up (Have frames t) = least_up frames (unit_height t) (max (unit_height t) 1 + 1) (omega arith)
over_up (Need frames) = tt
over_up (Raised frames t) = tt
over_up (Lowered frames t) = tt
over_up Refused = tt

close_up : (st : State) → Above (least st) (close_after st)
close_up (Have (InBracket at ∷ frames) t) = least_up frames (max 0 (unit_height t) + 1) (unit_height t + 1) (omega arith)
close_up (Have [] t) = tt
close_up (Have (InInverse at ∷ frames) t) = tt
close_up (Have (InTimes left ∷ frames) t) = tt
close_up (Have (InOver left ∷ frames) t) = tt
close_up (Have (InSide earlier ∷ frames) t) = tt
close_up (Need frames) = tt
close_up (Raised frames t) = tt
close_up (Lowered frames t) = tt
close_up Refused = tt

raise_up : (frames : List Frame) (t : UnitSyntax) → Above (least_over frames (unit_height t)) (raise frames t)
raise_up frames (one_syntax at) = least_up frames 1 2 (omega arith)
raise_up frames (measure_syntax at x) = least_up frames 1 2 (omega arith)
raise_up frames (variable_syntax at x) = least_up frames 1 2 (omega arith)
raise_up frames (bracket_syntax at u) = least_up frames (unit_height u + 1) (unit_height u + 1 + 1) (omega arith)
raise_up frames (power_syntax u k) = tt
raise_up frames (side_syntax us) = tt
raise_up frames (times_syntax u v) = tt
raise_up frames (over_syntax u v) = tt
raise_up frames (inverse_syntax at u) = tt

ended_up : (frames : List Frame) (t : UnitSyntax) (st : State) → Above (least (reduce frames t)) st → Above (least_over frames (unit_height t)) st
ended_up frames t st h = subst (λ n. Above n st) (reduce_least frames t) h

after_up : (frames : List Frame) (t : UnitSyntax) (what : UnitToken) (at : ℕ) → Above (least_over frames (unit_height t)) (after frames t what at)
after_up frames t (measure x) at = next_up frames t (measure x) at
after_up frames t (variable x) at = next_up frames t (variable x) at
after_up frames t (number one power) at = next_up frames t (number one power) at
after_up frames t (sign symbol.LeftParen) at = next_up frames t (sign symbol.LeftParen) at
after_up frames t (sign symbol.RightParen) at = ended_up frames t (close_after (reduce frames t)) (close_up (reduce frames t))
after_up frames t (sign symbol.Star) at = ended_up frames t (times_after (reduce frames t)) (times_up (reduce frames t))
after_up frames t (sign symbol.Slash) at = ended_up frames t (over_after (reduce frames t)) (over_up (reduce frames t))
after_up frames t (sign symbol.Caret) at = raise_up frames t
after_up frames t _ at = tt

raised_up : (frames : List Frame) (t : UnitSyntax) (what : UnitToken) → Above (least_over frames (unit_height t + 1)) (raised frames t what)
raised_up frames t (number one (Some n)) = omega arith
raised_up frames t (sign symbol.Minus) = omega arith
raised_up frames t _ = tt

lowered_up : (frames : List Frame) (t : UnitSyntax) (what : UnitToken) → Above (least_over frames (unit_height t + 1)) (lowered frames t what)
lowered_up frames t (number one (Some n)) = omega arith
lowered_up frames t _ = tt

act_up : (st : State) (what : UnitToken) (at : ℕ) → Above (least st) (act st what at)
act_up (Need frames) what at = begin_up frames what at
act_up (Have frames t) what at = after_up frames t what at
act_up (Raised frames t) what at = raised_up frames t what
act_up (Lowered frames t) what at = lowered_up frames t what
act_up Refused what at = tt

above_least : (n : ℕ) (st : State) → st ≢ Refused → Above n st → n ≤ least st
above_least n (Need frames) ok h = h
above_least n (Have frames t) ok h = h
above_least n (Raised frames t) ok h = h
above_least n (Lowered frames t) ok h = h
above_least n Refused ok h = absurd (ok refl)

-- a token never lowers it
pub unit_up : (st : State) (x : Token) → unit_step st x ≢ Refused → least st ≤ least (unit_step st x)
unit_up st x ok = above_least (least st) (unit_step st x) ok (act_up st (unit_token x.kind) x.start)

-- what is found has the least height
pub found_height : (st : State) (t : UnitSyntax) → finish st ≡ Some t → unit_height t ≡ least st
found_height (Have frames u) t e = sym (whole_height (reduce frames u) t e) ∙ reduce_least frames u
  where
    whole_height : (st : State) (t : UnitSyntax) → whole st ≡ Some t → least st ≡ unit_height t
    whole_height (Have [] u) t e = let same : u ≡ t = cc in ap unit_height same
    whole_height (Have (frame ∷ frames) u) t e = absurd cc
    whole_height (Need frames) t e = absurd cc
    whole_height (Raised frames u) t e = absurd cc
    whole_height (Lowered frames u) t e = absurd cc
    whole_height Refused t e = absurd cc
found_height (Need frames) t e = absurd cc
found_height (Raised frames u) t e = absurd cc
found_height (Lowered frames u) t e = absurd cc
found_height Refused t e = absurd cc
