-- Each operand of the code of a formed program with low powers fits its bytes.
use Rattle.std.proofs.Common.{◌≡◌, ℕ, zero, suc, ◌+◌, ◌*◌, ◌^◌, ◌<◌, ◌≤◌, All, true, false, List, [], ◌∷◌, ◌++◌, length, get_or, Some, refl, subst, arith}
use Rattle.std.specs.Prelude.{slice_get}
use Rattle.std.specs.List.{range_with_len}
use Rattle.std.proofs.lemmas.List.Elements.{All-nil, All-cons, All-head, All-tail, All-append, All-push}
use Rattle.std.proofs.lemmas.Option.{slice_get_within}
use Rattle.um_tree.specs.declared.expression.Arith.{Arith}
use Rattle.um_tree.specs.declared.expression.Arith.TheVariants as arith_sign
use Rattle.um_tree.specs.declared.expression.Sign.{Sign}
use Rattle.um_tree.specs.declared.expression.Sign.TheVariants as sign
use Rattle.um_tree.specs.ExprTree.{ExprTree, ExprTrees, truth, number, local, call, negate, not_expr, pown, arith as arith_tree, compare, both, either, if, bind, split, nil, list_expr, cons, record_expr, field, none, more}
use Rattle.um_tree.specs.ProgramTree.{RecordTree, FunctionTree, ProgramTree}
use Rattle.um_tree.specs.Formed.{count, MayCall, IsFormedIn, AllFormedIn, IsFormed}
use Rattle.um_machine.specs.declared.op.Op.{Op}
use Rattle.um_machine.specs.declared.op.Op.TheVariants as op
use Rattle.um_machine.specs.declared.table.Operand.{Operand}
use Rattle.um_machine.specs.declared.table.Operand.TheVariants as operand
use Rattle.um_gen.specs.ProgramCode.{arith_op, sign_ops, expr_size, all_size, expr_code, all_code, parameter_places, function_code, functions_code}
use Rattle.um_gen.proofs.Sizes.{few, some}
use Rattle.um_image.specs.Places.{OperandFits, OpFits}
use Rattle.um_all_answers.proofs.Powers.{LowPowers, AllLowPowers}
use Rattle.um_all_answers.proofs.Bodies.{Low}

-- ---- single instructions

plain : All OperandFits []
plain = All-nil OperandFits

one : (o : Operand) → OperandFits o → All OperandFits (o ∷ [])
one o h = All-cons OperandFits o [] h plain

alone : (i : Op) → OpFits i → All OpFits (i ∷ [])
alone i h = All-cons OpFits i [] h (All-nil OpFits)

arith_fits : (s : Arith) → OpFits (arith_op s)
arith_fits arith_sign.Add = plain
arith_fits arith_sign.Sub = plain
arith_fits arith_sign.Mul = plain
arith_fits arith_sign.Div = plain

sign_fits : (s : Sign) → All OpFits (sign_ops s)
sign_fits sign.Lt = alone op.Lt plain
sign_fits sign.Le = alone op.Le plain
sign_fits sign.Eq = alone op.Eq plain
sign_fits sign.Gt = All-cons OpFits op.Le (op.Not ∷ []) plain (alone op.Not plain)
sign_fits sign.Ge = All-cons OpFits op.Lt (op.Not ∷ []) plain (alone op.Not plain)
sign_fits sign.Ne = All-cons OpFits op.Eq (op.Not ∷ []) plain (alone op.Not plain)

-- ---- places and counts

abbrev Below : ℕ → Type 0
Below k = k < 2 ^ 32

place_below : (ps : List ℕ) (k : ℕ) → All Below ps → get_or ps k 0 < 2 ^ 32
place_below [] zero h = omega arith
place_below [] (suc k) h = omega arith
place_below (x ∷ ps) zero h = All-head Below x ps h
place_below (x ∷ ps) (suc k) h = place_below ps k (All-tail Below x ps h)

range_below : (a n : ℕ) → a + n < 2 ^ 32 → All Below (range_with_len a n)
range_below a zero room = All-nil Below
range_below a (suc n) room = All-cons Below a (range_with_len (a + 1) n) (omega (arith, room)) (range_below (a + 1) n (omega (arith, room)))

counted : (es : ExprTrees) → count es ≤ all_size es
counted none = omega arith
counted (more e es) = let here = some e in let there = counted es in omega (arith, here, there)

module _ (p : ProgramTree) (formed : IsFormed p) where
  record_below : (r : ℕ) (d : RecordTree) → slice_get p.records r ≡ Some d → r < 2 ^ 32
  record_below r d e = let there = slice_get_within p.records r d e in let many = formed.few_records in omega (arith, there, many)

  field_below : (r k : ℕ) (d : RecordTree) → slice_get p.records r ≡ Some d → k < length d.fields → k < 2 ^ 32
  field_below r k d e less = let many = (formed.records r d e).few_fields in omega (arith, less, many)

  function_below : (j : ℕ) (f : FunctionTree) → slice_get p.functions j ≡ Some f → j < 2 ^ 32
  function_below j f e = let there = slice_get_within p.functions j f e in let many = formed.few_functions in omega (arith, there, many)

  -- ---- expressions
  module _ (i : ℕ) (f : FunctionTree) where
    callee_below : (j n : ℕ) → MayCall p i f.recursive j n → j < 2 ^ 32
    callee_below j n h = function_below j h.function h.declared

    mutual
      fits : (e : ExprTree) (n : ℕ) (ps : List ℕ) (d a : ℕ) → IsFormedIn p i f n e → LowPowers e → All Below ps → d + expr_size e < 2 ^ 32 → a + expr_size e < 2 ^ 32 → All OpFits (expr_code e ps d a)
      fits (truth at b) n ps d a h low below room up = alone (op.PushBool b) (one (operand.Bool b) tt)
      fits (number at c note) n ps d a h low below room up = alone (op.PushNum c) (one (operand.Num c) tt)
      fits (local at k) n ps d a h low below room up = alone (op.Load (get_or ps k 0)) (one (operand.Count (get_or ps k 0)) (place_below ps k below))
      fits (call at j es) n ps d a h low below room up =
          All-push OpFits (all_code es ps d a) (op.Call j) (fits_all es n ps d a h.1 low below (omega (arith, room)) (omega (arith, up))) (one (operand.Function j) (callee_below j (count es) h.0))
      fits (negate at x) n ps d a h low below room up = All-push OpFits (expr_code x ps d a) op.Neg (fits x n ps d a h low below (omega (arith, room)) (omega (arith, up))) plain
      fits (not_expr at x) n ps d a h low below room up = All-push OpFits (expr_code x ps d a) op.Not (fits x n ps d a h low below (omega (arith, room)) (omega (arith, up))) plain
      fits (pown at x k) n ps d a h low below room up =
          All-push OpFits (expr_code x ps d a) (op.Pow k) (fits x n ps d a h low.1 below (omega (arith, room)) (omega (arith, up))) (one (operand.Power k) low.0)
      fits (arith_tree at s x y) n ps d a h low below room up =
          let b = a + expr_size x in
          let left = fits x n ps d a h.0 low.0 below (omega (arith, room)) (omega (arith, up)) in
          let right = fits y n ps (d + 1) b h.1 low.1 below (omega (arith, room)) (omega (arith, up)) in
          All-append OpFits (expr_code x ps d a) (expr_code y ps (d + 1) b ++ arith_op s ∷ []) left (All-push OpFits (expr_code y ps (d + 1) b) (arith_op s) right (arith_fits s))
      fits (compare at s x y) n ps d a h low below room up =
          let b = a + expr_size x in
          let one_at_least = some x in
          let left = fits x n ps d a h.0 low.0 below (omega (arith, room)) (omega (arith, up)) in
          let right = fits y n ps (d + 1) b h.1 low.1 below (omega (arith, room, one_at_least)) (omega (arith, up)) in
          All-append OpFits (expr_code x ps d a) (expr_code y ps (d + 1) b ++ sign_ops s) left (All-append OpFits (expr_code y ps (d + 1) b) (sign_ops s) right (sign_fits s))
      fits (both at x y) n ps d a h low below room up =
          let second = a + expr_size x + 1 in
          let other = second + expr_size y + 1 in
          let left = fits x n ps d a h.0 low.0 below (omega (arith, room)) (omega (arith, up)) in
          let right = fits y n ps d second h.1 low.1 below (omega (arith, room)) (omega (arith, up)) in
          let tail = op.Jump (other + 1) ∷ op.PushBool false ∷ [] in
          let end = All-cons OpFits (op.Jump (other + 1)) (op.PushBool false ∷ []) (one (operand.Count (other + 1)) (omega (arith, up))) (alone (op.PushBool false) (one (operand.Bool false) tt)) in
          All-append OpFits (expr_code x ps d a) (op.JumpIfNot other ∷ (expr_code y ps d second ++ tail)) left
          (All-cons OpFits (op.JumpIfNot other) (expr_code y ps d second ++ tail) (one (operand.Count other) (omega (arith, up))) (All-append OpFits (expr_code y ps d second) tail right end))
      fits (either at x y) n ps d a h low below room up =
          let second = a + expr_size x + 3 in
          let other = second + expr_size y in
          let left = fits x n ps d a h.0 low.0 below (omega (arith, room)) (omega (arith, up)) in
          let right = fits y n ps d second h.1 low.1 below (omega (arith, room)) (omega (arith, up)) in
          let code = expr_code y ps d second in
          let jump = All-cons OpFits (op.Jump other) code (one (operand.Count other) (omega (arith, up))) right in
          let push = All-cons OpFits (op.PushBool true) (op.Jump other ∷ code) (one (operand.Bool true) tt) jump in
          All-append OpFits (expr_code x ps d a) (op.JumpIfNot second ∷ op.PushBool true ∷ op.Jump other ∷ code) left
          (All-cons OpFits (op.JumpIfNot second) (op.PushBool true ∷ op.Jump other ∷ code) (one (operand.Count second) (omega (arith, up))) push)
      fits (if at c x y) n ps d a h low below room up =
          let first = a + expr_size c + 1 in
          let second = first + expr_size x + 1 in
          let other = second + expr_size y in
          let test = fits c n ps d a h.0 low.0 below (omega (arith, room)) (omega (arith, up)) in
          let left = fits x n ps d first h.1 low.1 below (omega (arith, room)) (omega (arith, up)) in
          let right = fits y n ps d second h.2 low.2 below (omega (arith, room)) (omega (arith, up)) in
          let code = expr_code y ps d second in
          let jump = All-cons OpFits (op.Jump other) code (one (operand.Count other) (omega (arith, up))) right in
          let arms = All-append OpFits (expr_code x ps d first) (op.Jump other ∷ code) left jump in
          All-append OpFits (expr_code c ps d a) (op.JumpIfNot second ∷ (expr_code x ps d first ++ op.Jump other ∷ code)) test
          (All-cons OpFits (op.JumpIfNot second) (expr_code x ps d first ++ op.Jump other ∷ code) (one (operand.Count second) (omega (arith, up))) arms)
      fits (bind at x y) n ps d a h low below room up =
          let b = a + expr_size x in
          let inner = ps ++ d ∷ [] in
          let below_too = All-push Below ps d below (omega (arith, room)) in
          let left = fits x n ps d a h.0 low.0 below (omega (arith, room)) (omega (arith, up)) in
          let right = fits y (n + 1) inner (d + 1) b h.1 low.1 below_too (omega (arith, room)) (omega (arith, up)) in
          All-append OpFits (expr_code x ps d a) (expr_code y inner (d + 1) b ++ op.Slide 1 ∷ []) left (All-push OpFits (expr_code y inner (d + 1) b) (op.Slide 1) right (one (operand.Count 1) (omega arith)))
      fits (split at l x y) n ps d a h low below room up =
          let full = a + expr_size l + 1 in
          let empty = full + expr_size y + 2 in
          let other = empty + expr_size x in
          let inner = ps ++ d ∷ (d + 1) ∷ [] in
          let pair = All-cons Below d ((d + 1) ∷ []) (omega (arith, room)) (All-cons Below (d + 1) [] (omega (arith, room)) (All-nil Below)) in
          let below_too = All-append Below ps (d ∷ (d + 1) ∷ []) below pair in
          let list = fits l n ps d a h.0 low.0 below (omega (arith, room)) (omega (arith, up)) in
          let left = fits x n ps d empty h.1 low.1 below (omega (arith, room)) (omega (arith, up)) in
          let right = fits y (n + 2) inner (d + 2) full h.2 low.2 below_too (omega (arith, room)) (omega (arith, up)) in
          let code = expr_code x ps d empty in
          let jump = All-cons OpFits (op.Jump other) code (one (operand.Count other) (omega (arith, up))) left in
          let slide = All-cons OpFits (op.Slide 2) (op.Jump other ∷ code) (one (operand.Count 2) (omega arith)) jump in
          let arms = All-append OpFits (expr_code y inner (d + 2) full) (op.Slide 2 ∷ op.Jump other ∷ code) right slide in
          All-append OpFits (expr_code l ps d a) (op.Split empty ∷ (expr_code y inner (d + 2) full ++ op.Slide 2 ∷ op.Jump other ∷ code)) list
          (All-cons OpFits (op.Split empty) (expr_code y inner (d + 2) full ++ op.Slide 2 ∷ op.Jump other ∷ code) (one (operand.Count empty) (omega (arith, up))) arms)
      fits (nil at note) n ps d a h low below room up = alone (op.MakeList 0) (one (operand.Count 0) (omega arith))
      fits (list_expr at es) n ps d a h low below room up =
          let many = counted es in
          All-push OpFits (all_code es ps d a) (op.MakeList (count es)) (fits_all es n ps d a h.1 low below (omega (arith, room)) (omega (arith, up))) (one (operand.Count (count es)) (omega (arith, up, many)))
      fits (cons at x y) n ps d a h low below room up =
          let b = a + expr_size x in
          let left = fits x n ps d a h.0 low.0 below (omega (arith, room)) (omega (arith, up)) in
          let right = fits y n ps (d + 1) b h.1 low.1 below (omega (arith, room)) (omega (arith, up)) in
          All-append OpFits (expr_code x ps d a) (expr_code y ps (d + 1) b ++ op.Cons ∷ []) left (All-push OpFits (expr_code y ps (d + 1) b) op.Cons right plain)
      fits (record_expr at r es) n ps d a h low below room up =
          let many = counted es in
          let made = All-cons OperandFits (operand.Record r) (operand.Count (count es) ∷ []) (record_below r h.0.0 h.0.1) (one (operand.Count (count es)) (omega (arith, up, many))) in
          All-push OpFits (all_code es ps d a) (op.MakeRec r (count es)) (fits_all es n ps d a h.1 low below (omega (arith, room)) (omega (arith, up))) made
      fits (field at r k x) n ps d a h low below room up =
          All-push OpFits (expr_code x ps d a) (op.Field k) (fits x n ps d a h.1 low below (omega (arith, room)) (omega (arith, up))) (one (operand.Count k) (field_below r k h.0.0 h.0.1 h.0.2))

      fits_all : (es : ExprTrees) (n : ℕ) (ps : List ℕ) (d a : ℕ) → AllFormedIn p i f n es → AllLowPowers es → All Below ps → d + all_size es < 2 ^ 32 → a + all_size es < 2 ^ 32 → All OpFits (all_code es ps d a)
      fits_all none n ps d a h low below room up = All-nil OpFits
      fits_all (more e es) n ps d a h low below room up =
          let one_at_least = some e in
          let first = fits e n ps d a h.0 low.0 below (omega (arith, room)) (omega (arith, up)) in
          let others = fits_all es n ps (d + 1) (a + expr_size e) h.1 low.1 below (omega (arith, room, one_at_least)) (omega (arith, up)) in
          All-append OpFits (expr_code e ps d a) (all_code es ps (d + 1) (a + expr_size e)) first others

  -- ---- functions

  body_small : (i : ℕ) (f : FunctionTree) → slice_get p.functions i ≡ Some f → expr_size f.body ≤ 60000
  body_small i f e = let size = few f.body in let nodes = (formed.functions i f e).nodes in omega (arith, size, nodes)

  function_fits : (i : ℕ) (f : FunctionTree) → slice_get p.functions i ≡ Some f → Low f → (a : ℕ) → a + 60001 < 2 ^ 32 → All OpFits (function_code f a)
  function_fits i f e low a room =
      let is = formed.functions i f e in
      let few_params = is.few_params in
      let small = body_small i f e in
      let places = range_below 0 (length f.params) (omega (arith, few_params)) in
      let body = fits i f f.body (length f.params) (parameter_places f) (length f.params) a is.body low places (omega (arith, few_params, small)) (omega (arith, room, small)) in
      All-push OpFits (expr_code f.body (parameter_places f) (length f.params) a) op.Ret body plain

  -- these are the program's functions from the i-th on
  abbrev pub AreFunctionsFrom : ℕ → List FunctionTree → Type 0
  AreFunctionsFrom i fs = (k : ℕ) (f : FunctionTree) → slice_get fs k ≡ Some f → slice_get p.functions (i + k) ≡ Some f

  pub functions_after : (i : ℕ) (f : FunctionTree) (fs : List FunctionTree) → AreFunctionsFrom i (f ∷ fs) → AreFunctionsFrom (suc i) fs
  functions_after i f fs are k g e = let same : i + suc k ≡ suc i + k = omega arith in subst (λ (n : ℕ). slice_get p.functions n ≡ Some g) same (are (suc k) g e)

  pub all_functions : AreFunctionsFrom 0 p.functions
  all_functions k f e = let same : k ≡ 0 + k = omega arith in subst (λ (n : ℕ). slice_get p.functions n ≡ Some f) same e

  functions_fit : (i a : ℕ) (fs : List FunctionTree) → AreFunctionsFrom i fs → All Low fs → a + 60001 * length fs < 2 ^ 32 → All OpFits (functions_code fs a)
  functions_fit i a [] are low room = All-nil OpFits
  functions_fit i a (f ∷ fs) are low room =
      let here = are 0 f refl in
      let small = body_small (i + 0) f here in
      let first = function_fits (i + 0) f here (All-head Low f fs low) a (omega (arith, room)) in
      let b = a + expr_size f.body + 1 in
      let others = functions_fit (suc i) b fs (functions_after i f fs are) (All-tail Low f fs low) (omega (arith, room, small)) in
      All-append OpFits (function_code f a) (functions_code fs b) first others

  pub code_fits : All Low p.functions → All OpFits (functions_code p.functions 0)
  code_fits low = let many = formed.few_functions in functions_fit 0 0 p.functions all_functions low (omega (arith, many))
