-- States whose shapes are low, and what is passed on of them.
use Rattle.std.proofs.Common.{◌≡◌, refl, ap, ◌∙◌, ℕ, Bool, true, false, cond, List, [], ◌∷◌, ◌++◌}
use Rattle.std.specs.Prelude.{nat_le}
use Rattle.um_tree.specs.Heights.{greatest_height}
use Rattle.um_shape.specs.RecordShapes.{RecordShape}
use Rattle.um_verify.specs.StackShape.{StackShape, stack_height}
use Rattle.um_verify.specs.Rules.{Body, View, Sent, Flow, fails, passes, need, to, inside, low_state, low_states, forwards}
use Rattle.um_verifier.specs.KnownImages.{lowered, stays}

module _ (heights : List RecordShape) where
  abbrev Low : List StackShape → Type 0
  Low st = low_state heights st ≡ true

  first_low : (b c : Bool) → cond b c false ≡ true → b ≡ true
  first_low true c h = refl
  first_low false c h = absurd cc

  rest_low : (b c : Bool) → cond b c false ≡ true → c ≡ true
  rest_low true c h = h
  rest_low false c h = absurd cc

  cond_itself : (b : Bool) → cond b true false ≡ b
  cond_itself true = refl
  cond_itself false = refl

  -- one more shape
  pub low_push : (st : List StackShape) (s : StackShape) → Low st → low_state heights (st ++ s ∷ []) ≡ nat_le (stack_height heights s) greatest_height
  low_push [] s h = cond_itself (nat_le (stack_height heights s) greatest_height)
  low_push (x ∷ st) s h =
      let first = first_low (nat_le (stack_height heights x) greatest_height) (low_state heights st) h in
      let rest = rest_low (nat_le (stack_height heights x) greatest_height) (low_state heights st) h in
      ap (λ (b : Bool). cond b (low_state heights (st ++ s ∷ [])) false) first ∙ low_push st s rest

  pub low_front : (st ts : List StackShape) → Low (st ++ ts) → Low st
  low_front [] ts h = refl
  low_front (x ∷ st) ts h =
      let first = first_low (nat_le (stack_height heights x) greatest_height) (low_state heights (st ++ ts)) h in
      let rest = rest_low (nat_le (stack_height heights x) greatest_height) (low_state heights (st ++ ts)) h in
      ap (λ (b : Bool). cond b (low_state heights st) false) first ∙ low_front st ts rest

  pub lowered_to : (a : ℕ) (st : List StackShape) (b : Bool) → low_state heights st ≡ b → lowered heights (to a st) ≡ need b (to a st)
  lowered_to a st b h = ap (λ (c : Bool). need (cond c true false) (to a st)) h ∙ ap (λ (c : Bool). need c (to a st)) (cond_itself b)

  pub lowered_both : (a t : ℕ) (st us : List StackShape) → Low st → Low us → lowered heights (passes (record { to = a; state = st } ∷ record { to = t; state = us } ∷ [])) ≡ passes (record { to = a; state = st } ∷ record { to = t; state = us } ∷ [])
  lowered_both a t st us h k =
      ap (λ (c : Bool). need (cond c (cond (low_state heights us) true false) false) (passes (record { to = a; state = st } ∷ record { to = t; state = us } ∷ []))) h
      ∙ ap (λ (c : Bool). need (cond c true false) (passes (record { to = a; state = st } ∷ record { to = t; state = us } ∷ []))) k

-- the two tests of what is passed on, one after the other
either_fails : (b : Bool) → need b fails ≡ fails
either_fails true = refl
either_fails false = refl

inside_of : (a end : ℕ) (ps : List Sent) (b : Bool) → need (inside a end ps) (need b (passes ps)) ≡ stays a end (need b (passes ps))
inside_of a end ps true = refl
inside_of a end ps false = either_fails (inside a end ps)

pub forwards_is : (view : View) (body : Body) (a : ℕ) (fl : Flow) → forwards view body a fl ≡ stays a body.end (lowered view.heights fl)
forwards_is view body a fails = refl
forwards_is view body a (passes ps) = inside_of a body.end ps (low_states view.heights ps)
