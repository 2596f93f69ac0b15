-- The code of a function that has its shapes passes the rules.
use Rattle.std.proofs.Common.{◌≡◌, ◌≢◌, refl, subst, ap, ◌∙◌, ℕ, zero, suc, ◌+◌, ◌-◌, ◌<◌, ◌≤◌, Bool, true, false, cond, List, [], ◌∷◌, ◌++◌, length, map, Some, Ok, slice_get, arith, append_assoc, length-append}
use Rattle.std.specs.List.{range_with_len}
use Rattle.std.proofs.lemmas.List.{length-map}
use Rattle.std.proofs.lemmas.Bool.{le-leb}
use Rattle.um_tree.specs.TypeTree.{ShapeTree}
use Rattle.um_tree.specs.ProgramTree.{FunctionTree}
use Rattle.um_tree.specs.Shapes.{note_shape, ShapeSignature}
use Rattle.um_tree.specs.Heights.{greatest_height}
use Rattle.um_shape.specs.RecordShapes.{RecordShape, tallest}
use Rattle.um_shape.specs.FirstFault.{found}
use Rattle.um_machine.specs.declared.op.Op.{Op}
use Rattle.um_machine.specs.declared.op.Op.TheVariants.{Ret}
use Rattle.um_machine.specs.declared.code.Code.{Code}
use Rattle.um_machine.specs.Machine.{op_at}
use Rattle.um_machine.proofs.Rank.{op_is}
use Rattle.um_gen.specs.ProgramCode.{expr_size, expr_code, parameter_places, function_code}
use Rattle.um_gen.proofs.Stands.{InRow, in_front, after_code}
use Rattle.um_verify.specs.StackShape.{StackShape, on_stack, fits, stack_height}
use Rattle.um_verify.specs.Rules.{Body, View, passes, low_state}
use Rattle.um_verify.specs.Verified.{nobody, arrived, met, flow, Passes, BodyHolds}
use Rattle.um_verify.proofs.Fits.{equal_numbers}
use Rattle.um_verify.proofs.Joins.{fits_self}
use Rattle.um_image.proofs.Tops.{apart, PlacesFit, on_stack_height}
use Rattle.um_image.proofs.Passing.{M, F, top_of, flow_is, passes_is, both_hold}
use Rattle.um_image.proofs.NodeRules.{ret_rule}
use Rattle.um_image.proofs.Accepts.{Known, Recorded, Positive, through, some_code}

get_here : (pre st : List StackShape) (s : StackShape) (d : ℕ) → d ≡ length pre → slice_get (pre ++ s ∷ st) d ≡ Some s
get_here [] st s d e = ap (slice_get (s ∷ st)) e
get_here (x ∷ pre) st s zero e = absurd (omega arith)
get_here (x ∷ pre) st s (suc d) e = get_here pre st s d (omega arith)

-- the parameters' places
places_are : (vars : List ShapeTree) (pre : List StackShape) (from : ℕ) → from ≡ length pre → PlacesFit (pre ++ map on_stack vars) (range_with_len from (length vars)) vars
places_are [] pre from e = tt
places_are (s ∷ vars) pre from e =
    let l : length (pre ++ on_stack s ∷ []) ≡ length pre + length (on_stack s ∷ []) = length-append pre (on_stack s ∷ []) in (
      on_stack s,
      get_here pre (map on_stack vars) (on_stack s) from e,
      fits_self (on_stack s),
      subst (λ (o : List StackShape). PlacesFit o (range_with_len (from + 1) (length vars)) vars) (append_assoc pre (on_stack s ∷ []) (map on_stack vars)) (places_are vars (pre ++ on_stack s ∷ []) (from + 1) (omega arith)),
    )

low_all : (records : List RecordShape) (ss : List ShapeTree) → tallest records ss ≤ greatest_height → low_state records (map on_stack ss) ≡ true
low_all records [] h = refl
low_all records (s ∷ ss) h =
    let n = on_stack_height records s in
    let one : stack_height records (on_stack s) ≤ greatest_height = omega arith in
    let rest : tallest records ss ≤ greatest_height = omega arith in
    ap (λ (b : Bool). cond b (low_state records (map on_stack ss)) false) (le-leb (stack_height records (on_stack s)) greatest_height one) ∙ low_all records ss rest

module _ (code : Code) (f : ℕ) (view : View) (e : Body) (same_ops : view.ops ≡ code.ops) (positive : Positive view) (recorded : Recorded view) (callees : List ShapeSignature) (known : Known view callees) where
  -- function g with the result's shape s stands there
  pub body_accepted : (g : FunctionTree) (s : ShapeTree) → found view.heights callees (map note_shape g.params) g.body ≡ Ok s → e.params ≡ map on_stack (map note_shape g.params) → e.result ≡ on_stack s → e.end ≡ e.start + expr_size g.body + 1 → InRow code f e.start (function_code g e.start) → tallest view.heights (map note_shape g.params) ≤ greatest_height → BodyHolds view e
  body_accepted g s w params result end row low n within =
      let vars : List ShapeTree = map note_shape g.params in
      let d : ℕ = length g.params in
      let a : ℕ = e.start in
      let z : ℕ = a + expr_size g.body in
      let size = some_code g.body in
      let lv : length vars ≡ length g.params = length-map g.params note_shape in
      let lm : length (map on_stack vars) ≡ length vars = length-map vars on_stack in
      let here : a - a ≡ 0 = omega arith in
      let first : M view e positive a a ≡ arrived e.params = ap (met view e a) here ∙ ap (λ (b : Bool). cond b (arrived e.params) nobody) (equal_numbers a e.start refl) in
      let m : M view e positive a a ≡ arrived (map on_stack vars) = first ∙ ap arrived params in
      let quiet : (t : ℕ) → a < t → M view e positive t a ≡ nobody = λ t c. let ne : t ≢ e.start = omega arith in ap (met view e t) here ∙ ap (λ (b : Bool). cond b (arrived e.params) nobody) (apart t e.start ne) in
      let places : PlacesFit (map on_stack vars) (parameter_places g) vars = subst (λ (k : ℕ). PlacesFit (map on_stack vars) (range_with_len 0 k) vars) lv (places_are vars [] 0 refl) in
      let lst = low_all view.heights vars low in
      let body = through code f view e same_ops positive recorded callees known g.body vars (parameter_places g) d a z (map on_stack vars) s w (in_front code f a (expr_code g.body (parameter_places g) d a) (Ret ∷ []) row) refl places (omega arith) (omega arith) m lst (λ t c i. quiet t c) (omega arith) in
      let top = top_of view e positive a z (map on_stack vars) (on_stack s) body (quiet z (omega arith)) in
      let fits_result : fits top.0 e.result ≡ true = ap (fits top.0) result ∙ top.2 in
      let has_ret = (after_code code f g.body (parameter_places g) d a z (Ret ∷ []) row refl).0 in
      let last : F view e positive z ≡ passes [] = flow_is view e positive z Ret (map on_stack vars ++ top.0 ∷ []) [] (omega arith) (ret_here z has_ret) top.1 (ret_rule view e z (map on_stack vars) top.0 fits_result) refl refl in
      let each = both_hold view e positive a z (z + 1) body.holds (λ k lo hi. let q : z ≡ k = omega arith in subst (λ (j : ℕ). Passes (F view e positive j)) q (passes_is view e positive z [] last)) in
      let back : a + n - a ≡ n = omega arith in
      subst (λ (k : ℕ). Passes (flow view e k)) back (each (a + n) (omega arith) (omega arith))
    where
      ret_here : (z : ℕ) → op_at code f z ≡ Some Ret → slice_get view.ops z ≡ Some Ret
      ret_here z h = ap (λ (ops : List Op). slice_get ops z) same_ops ∙ op_is code f z Ret h
