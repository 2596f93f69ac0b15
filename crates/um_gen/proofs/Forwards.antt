-- The jumps of generated code go forward.
use Rattle.std.proofs.Common.{◌≡◌, refl, subst, ℕ, zero, suc, ◌+◌, List, [], ◌∷◌, ◌++◌, length, Some, slice_get, arith}
use Rattle.um_tree.specs.declared.expression.Arith.{Arith}
use Rattle.um_tree.specs.declared.expression.Arith.TheVariants as arith_of
use Rattle.um_tree.specs.declared.expression.Sign.{Sign}
use Rattle.um_tree.specs.declared.expression.Sign.TheVariants as sign
use Rattle.um_tree.specs.ExprTree.{ExprTree, ExprTrees, truth, number, local, call, negate, not_expr, pown, arith as arith_tree, compare, both, either, if, bind, split, nil, list_expr, cons, record_expr, field, none, more}
use Rattle.um_tree.specs.ProgramTree.{FunctionTree}
use Rattle.um_machine.specs.declared.op.Op.{Op}
use Rattle.um_machine.specs.declared.op.Op.TheVariants.{Ret}
use Rattle.um_machine.specs.Jumps.{GoesForward, JumpsGoForward}
use Rattle.um_gen.specs.ProgramCode.{arith_op, sign_ops, expr_size, all_size, expr_code, all_code, parameter_places, function_code, functions_code, program_code}
use Rattle.um_gen.proofs.Stands.{length_code, length_all}
use Rattle.um_gen.proofs.Sizes.{some}
use Rattle.um_gen.proofs.LaidOut.{length_function}

-- instructions from an address whose jumps go forward
abbrev Forwards : ℕ → List Op → Type 0
Forwards a [] = Unit {0}
Forwards a (i ∷ is) = GoesForward a i × Forwards (a + 1) is

one_then : (a z : ℕ) (xs ys : List Op) → Forwards a xs → z ≡ a + length xs → Forwards z ys → Forwards a (xs ++ ys)
one_then a z [] ys h e k = let same : z ≡ a = omega arith in subst (λ n. Forwards n ys) same k
one_then a z (x ∷ xs) ys h e k = (h.0, one_then (a + 1) z xs ys h.1 (omega arith) k)

code_then : (e : ExprTree) (ps : List ℕ) (d a z : ℕ) (ys : List Op) → Forwards a (expr_code e ps d a) → z ≡ a + expr_size e → Forwards z ys → Forwards a (expr_code e ps d a ++ ys)
code_then e ps d a z ys h k r = one_then a z (expr_code e ps d a) ys h (omega (arith, length_code e ps d a)) r

all_then : (es : ExprTrees) (ps : List ℕ) (d a z : ℕ) (ys : List Op) → Forwards a (all_code es ps d a) → z ≡ a + all_size es → Forwards z ys → Forwards a (all_code es ps d a ++ ys)
all_then es ps d a z ys h k r = one_then a z (all_code es ps d a) ys h (omega (arith, length_all es ps d a)) r

arith_forward : (op : Arith) (a : ℕ) → Forwards a (arith_op op ∷ [])
arith_forward arith_of.Add a = (tt, tt)
arith_forward arith_of.Sub a = (tt, tt)
arith_forward arith_of.Mul a = (tt, tt)
arith_forward arith_of.Div a = (tt, tt)

sign_forward : (s : Sign) (a : ℕ) → Forwards a (sign_ops s)
sign_forward sign.Lt a = (tt, tt)
sign_forward sign.Le a = (tt, tt)
sign_forward sign.Eq a = (tt, tt)
sign_forward sign.Gt a = (tt, (tt, tt))
sign_forward sign.Ge a = (tt, (tt, tt))
sign_forward sign.Ne a = (tt, (tt, tt))

mutual
  forwards : (e : ExprTree) (ps : List ℕ) (d a : ℕ) → Forwards a (expr_code e ps d a)
  forwards (truth at b) ps d a = (tt, tt)
  forwards (number at c n) ps d a = (tt, tt)
  forwards (local at k) ps d a = (tt, tt)
  forwards (call at j es) ps d a = all_then es ps d a (a + all_size es) _ (all_forwards es ps d a) refl (tt, tt)
  forwards (negate at x) ps d a = code_then x ps d a (a + expr_size x) _ (forwards x ps d a) refl (tt, tt)
  forwards (not_expr at x) ps d a = code_then x ps d a (a + expr_size x) _ (forwards x ps d a) refl (tt, tt)
  forwards (pown at x k) ps d a = code_then x ps d a (a + expr_size x) _ (forwards x ps d a) refl (tt, tt)
  forwards (arith_tree at op x y) ps d a = code_then x ps d a (a + expr_size x) _ (forwards x ps d a) refl (code_then y ps (d + 1) (a + expr_size x) (a + expr_size x + expr_size y) _ (forwards y ps (d + 1) (a + expr_size x)) refl (arith_forward op (a + expr_size x + expr_size y)))
  forwards (compare at s x y) ps d a = code_then x ps d a (a + expr_size x) _ (forwards x ps d a) refl (code_then y ps (d + 1) (a + expr_size x) (a + expr_size x + expr_size y) _ (forwards y ps (d + 1) (a + expr_size x)) refl (sign_forward s (a + expr_size x + expr_size y)))
  forwards (both at x y) ps d a =
      code_then x ps d a (a + expr_size x) _ (forwards x ps d a) refl (omega arith, code_then y ps d (a + expr_size x + 1) (a + expr_size x + 1 + expr_size y) _ (forwards y ps d (a + expr_size x + 1)) refl (omega arith, (tt, tt)))
  forwards (either at x y) ps d a =
      let three : a + expr_size x + 3 ≡ a + expr_size x + 1 + 1 + 1 = omega arith in
      code_then x ps d a (a + expr_size x) _ (forwards x ps d a) refl (omega arith, (tt, (omega (arith, some y), subst (λ n. Forwards n (expr_code y ps d (a + expr_size x + 3))) three (forwards y ps d (a + expr_size x + 3)))))
  forwards (if at c x y) ps d a =
      code_then c ps d a (a + expr_size c) _ (forwards c ps d a) refl (omega arith, code_then x ps d (a + expr_size c + 1) (a + expr_size c + 1 + expr_size x) _ (forwards x ps d (a + expr_size c + 1)) refl (omega (arith, some y), forwards y ps d (a + expr_size c + 1 + expr_size x + 1)))
  forwards (bind at x y) ps d a = code_then x ps d a (a + expr_size x) _ (forwards x ps d a) refl (code_then y (ps ++ d ∷ []) (d + 1) (a + expr_size x) (a + expr_size x + expr_size y) _ (forwards y (ps ++ d ∷ []) (d + 1) (a + expr_size x)) refl (tt, tt))
  forwards (split at l x y) ps d a =
      let two : a + expr_size l + 1 + expr_size y + 2 ≡ a + expr_size l + 1 + expr_size y + 1 + 1 = omega arith in
      code_then l ps d a (a + expr_size l) _ (forwards l ps d a) refl (omega arith, code_then y (ps ++ d ∷ (d + 1) ∷ []) (d + 2) (a + expr_size l + 1) (a + expr_size l + 1 + expr_size y) _ (forwards y (ps ++ d ∷ (d + 1) ∷ []) (d + 2) (a + expr_size l + 1)) refl (tt, (omega (arith, some x), subst (λ n. Forwards n (expr_code x ps d (a + expr_size l + 1 + expr_size y + 2))) two (forwards x ps d (a + expr_size l + 1 + expr_size y + 2)))))
  forwards (nil at n) ps d a = (tt, tt)
  forwards (list_expr at es) ps d a = all_then es ps d a (a + all_size es) _ (all_forwards es ps d a) refl (tt, tt)
  forwards (cons at x y) ps d a = code_then x ps d a (a + expr_size x) _ (forwards x ps d a) refl (code_then y ps (d + 1) (a + expr_size x) (a + expr_size x + expr_size y) _ (forwards y ps (d + 1) (a + expr_size x)) refl (tt, tt))
  forwards (record_expr at r es) ps d a = all_then es ps d a (a + all_size es) _ (all_forwards es ps d a) refl (tt, tt)
  forwards (field at r k x) ps d a = code_then x ps d a (a + expr_size x) _ (forwards x ps d a) refl (tt, tt)

  all_forwards : (es : ExprTrees) (ps : List ℕ) (d a : ℕ) → Forwards a (all_code es ps d a)
  all_forwards none ps d a = tt
  all_forwards (more e es) ps d a = code_then e ps d a (a + expr_size e) _ (forwards e ps d a) refl (all_forwards es ps (d + 1) (a + expr_size e))

function_forwards : (f : FunctionTree) (a : ℕ) → Forwards a (function_code f a)
function_forwards f a =
    let ps = parameter_places f in
    let n = length f.params in
    code_then f.body ps n a (a + expr_size f.body) (Ret ∷ []) (forwards f.body ps n a) refl (tt, tt)

functions_forward : (fs : List FunctionTree) (a : ℕ) → Forwards a (functions_code fs a)
functions_forward [] a = tt
functions_forward (f ∷ fs) a =
    one_then a (a + expr_size f.body + 1) (function_code f a) (functions_code fs (a + expr_size f.body + 1)) (function_forwards f a) (omega (arith, length_function f a)) (functions_forward fs (a + expr_size f.body + 1))

forward_at : (xs : List Op) (a k : ℕ) (i : Op) → Forwards a xs → slice_get xs k ≡ Some i → GoesForward (a + k) i
forward_at [] a zero i h e = absurd cc
forward_at [] a (suc k) i h e = absurd cc
forward_at (x ∷ xs) a zero i h e =
    let same : x ≡ i = cc in
    let here : a ≡ a + zero = omega arith in
    subst (λ n. GoesForward n i) here (subst (GoesForward a) same h.0)
forward_at (x ∷ xs) a (suc k) i h e =
    let there : a + 1 + k ≡ a + suc k = omega arith in
    subst (λ n. GoesForward n i) there (forward_at xs (a + 1) k i h.1 e)

-- so the jumps of a program's code do
pub generated_forward : (fs : List FunctionTree) → JumpsGoForward (program_code fs)
unfolding program_code
generated_forward fs a i e =
    let here : 0 + a ≡ a = omega arith in
    subst (λ n. GoesForward n i) here (forward_at (functions_code fs 0) 0 a i (functions_forward fs 0) e)
