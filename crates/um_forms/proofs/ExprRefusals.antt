-- What the machine does where a test of the code fails.
use Rattle.std.proofs.Common.{◌≡◌, ℕ, ◌≤◌, List, [], ◌∷◌, Option, option_map, refl, sym, ap, ◌∙◌, arith, inl, inr}
use Rattle.std.proofs.lemmas.Bool.{cases_lt, lt-ltb, le-ltb}
use Rattle.um_tree.specs.RawTree.{ExprSyntax}
use Rattle.um_tree.specs.declared.expression.Arith.TheVariants as arith_sign
use Rattle.um_operands.specs.declared.infix.Infix.{Infix}
use Rattle.um_operands.specs.declared.infix.Infix.TheVariants as between
use Rattle.um_operands.specs.declared.operand.Operand.{Operand}
use Rattle.um_operands.specs.declared.begun.Begun.{Begun}
use Rattle.um_operands.specs.declared.focus.Step.TheVariants as step
use Rattle.um_operands.specs.Ranks.{infix_rank, left_limit}
use Rattle.um_operands.specs.ExprOperands.{operand_expr}
use Rattle.um_operands.specs.ExprBegun.{Frame, own_rank, plug, top_bound, Have, Refused, reduce, whole, finish}
use Rattle.um_forms.specs.ExprForms.{infix_after, greater_after}
use Rattle.um_forms.specs.ExprSteps.{Simulates}

-- frames that are ended up to a lower rank first are ended alike
reduce_twice : (limit : ℕ) (frames now : List Frame) (t u : ExprSyntax) → limit ≤ 9 → Have now u ≡ reduce limit frames t → reduce 9 now u ≡ reduce 9 frames t
reduce_twice limit [] now t u le e =
    let a : now ≡ [] = cc in let b : u ≡ t = cc in ap (λ fs. reduce 9 fs u) a ∙ ap (reduce 9 []) b
reduce_twice limit (frame ∷ frames) now t u le e =
    elim (cases_lt limit (own_rank frame)) [
      | inl keeps ↦
          let f : Have now u ≡ Have (frame ∷ frames) t = e ∙ (rw lt-ltb refl) in
          let a : now ≡ frame ∷ frames = cc in
          let b : u ≡ t = cc in
          ap (λ fs. reduce 9 fs u) a ∙ ap (reduce 9 (frame ∷ frames)) b
      | inr ends ↦
          let f : Have now u ≡ reduce limit frames (plug frame t) = e ∙ (rw le-ltb refl) in
          reduce_twice limit frames now (plug frame t) u le f ∙ sym (popped frame frames t (omega (arith, ends, le)))
    ]
  where
    popped : (frame : Frame) (frames : List Frame) (t : ExprSyntax) → own_rank frame ≤ 9 → reduce 9 (frame ∷ frames) t ≡ reduce 9 frames (plug frame t)
    popped frame frames t low = rw le-ltb refl

found_alike : (limit : ℕ) (frames now : List Frame) (t u : ExprSyntax) → limit ≤ 9 → Have now u ≡ reduce limit frames t → finish (Have now u) ≡ finish (Have frames t)
found_alike limit frames now t u le e = ap whole (reduce_twice limit frames now t u le e)

pub limit_low : (sign : Infix) → left_limit sign ≤ 9
limit_low between.Or = omega arith
limit_low between.And = omega arith
limit_low (between.Compare sign) = omega arith
limit_low between.Cons = omega arith
limit_low (between.Arith arith_sign.Add) = omega arith
limit_low (between.Arith arith_sign.Sub) = omega arith
limit_low (between.Arith arith_sign.Mul) = omega arith
limit_low (between.Arith arith_sign.Div) = omega arith

-- a sign that may not stand here
pub sign_refused : (sign : Infix) (at limit : ℕ) (frames now : List Frame) (b : Begun) (t u : ExprSyntax) (o : Option Operand) → limit ≤ 9 → Have now u ≡ reduce limit frames t
    → top_bound now ≤ infix_rank sign → option_map operand_expr o ≡ finish (Have now u) → Simulates (finish (Have frames t)) b (step.Stops o) (infix_after sign at (reduce limit frames t))
sign_refused sign at limit frames now b t u o le e high found =
    let no : infix_after sign at (Have now u) ≡ Refused = rw le-ltb refl in
    (ap (infix_after sign at) (sym e) ∙ no, found ∙ found_alike limit frames now t u le e)

pub greater_refused : (at : ℕ) (frames now : List Frame) (b : Begun) (t u : ExprSyntax) (o : Option Operand) → Have now u ≡ reduce 5 frames t
    → top_bound now ≤ 6 → option_map operand_expr o ≡ finish (Have now u) → Simulates (finish (Have frames t)) b (step.Stops o) (greater_after at (reduce 5 frames t))
greater_refused at frames now b t u o e high found =
    let no : greater_after at (Have now u) ≡ Refused = rw le-ltb refl in
    (ap (greater_after at) (sym e) ∙ no, found ∙ found_alike 5 frames now t u (omega arith) e)
