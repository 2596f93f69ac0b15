-- Verified images: what arrives at each address of a function, and that the rule of each address holds.
-- Source: X. Leroy, Java bytecode verification: algorithms and formalizations, 2003; all jumps go forward, so there is
-- no fixed point to find.
use Rattle.std.specs.Prelude.{◌≡◌, ◌<◌, ℕ, zero, suc, ◌+◌, cond, nat_eq, List, [], ◌∷◌, Option, Some, None, slice_get}
use Rattle.um_machine.specs.declared.op.Op.{Op}
use Rattle.um_verify.specs.StackShape.{StackShape, join_all}
use Rattle.um_verify.specs.ImageTree.{ImageTree, HasForm}
use Rattle.um_verify.specs.Heads.{HeadHolds}
use Rattle.um_verify.specs.Rules.{Body, View, view_of, Sent, Flow, fails, passes, rule, forwards}

-- what arrives at an address: no state, states that have no join, or states with this join
pub data Met : Type 0 where
  nobody clash : Met
  arrived : List StackShape → Met

abbrev pub joined : Option (List StackShape) → Met
joined None = clash
joined (Some st) = arrived st

-- one more state arrives
abbrev pub merge : Met → List StackShape → Met
merge nobody st = arrived st
merge clash st = clash
merge (arrived old) st = joined (join_all old st)

-- those that are passed on to this address arrive
abbrev pub gather : Met → List Sent → ℕ → Met
gather m [] t = m
gather m (p ∷ ps) t = gather (cond (nat_eq p.to t) (merge m p.state) m) ps t

abbrev pub sends : Met → Flow → ℕ → Met
sends m fails t = m
sends m (passes ps) t = gather m ps t

-- what the instruction at an address passes on, if this arrives
abbrev pub passed : View → Body → ℕ → Option Op → Met → Flow
passed view body a None m = fails
passed view body a (Some i) nobody = fails
passed view body a (Some i) clash = fails
passed view body a (Some i) (arrived st) = forwards view body a (rule view body a st i)

module _ (view : View) (body : Body) where
  -- what has arrived at address t from the function's start and from its first n instructions
  abbrev pub met : ℕ → ℕ → Met
  met t zero = cond (nat_eq t body.start) (arrived body.params) nobody
  met t (suc n) =
      sends (met t n)
      (passed view body (body.start + n) (slice_get view.ops (body.start + n)) (met (body.start + n) n)) t

  -- what the function's n-th instruction passes on: all that arrives there comes from earlier ones
  abbrev pub flow : ℕ → Flow
  flow n = passed view body (body.start + n) (slice_get view.ops (body.start + n)) (met (body.start + n) n)

abbrev pub Passes : Flow → Type 0
Passes fails = ⊥
Passes (passes ps) = Unit {0}

-- the rule of each instruction holds
abbrev pub BodyHolds : View → Body → Type 0
BodyHolds view body = (n : ℕ) → body.start + n < body.end → Passes (flow view body n)

abbrev pub CodeHolds : View → Type 0
CodeHolds view = (f : ℕ) (body : Body) → slice_get view.bodies f ≡ Some body → BodyHolds view body

pub record IsVerified (image : ImageTree) : Type 0 where
  pub form : HasForm image
  pub heads : (i : ℕ) → HeadHolds image i
  pub code : CodeHolds (view_of image)

-- the first instruction of a function whose rule fails is the n-th
abbrev pub FirstFailure : View → Body → ℕ → Type 0
FirstFailure view body n =
    (body.start + n < body.end) × (Passes (flow view body n) → ⊥) × ((m : ℕ) → m < n → Passes (flow view body m))

-- the first address whose rule fails: it is the n-th of function f, and the functions before hold
pub record IsFirstAddress (view : View) (a : ℕ) : Type 0 where
  pub f : ℕ
  pub n : ℕ
  pub body : Body
  pub listed : slice_get view.bodies f ≡ Some body
  pub address : a ≡ body.start + n
  pub failure : FirstFailure view body n
  pub functions : (g : ℕ) (other : Body) → g < f → slice_get view.bodies g ≡ Some other → BodyHolds view other
