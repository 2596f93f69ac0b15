-- Where the code of an expression stands.
use Rattle.std.proofs.Common.{◌≡◌, refl, sym, subst, ap, ◌∙◌, ℕ, ◌+◌, true, false, List, [], ◌∷◌, ◌++◌, length, Some, arith, length-append}
use Rattle.std.specs.Prelude.{get_or}
use Rattle.um_tree.specs.ExprTree.{ExprTree, ExprTrees, truth, number, local, call, negate, not_expr, pown, arith as arith_tree, compare, both, either, if, bind, split, nil, list_expr, cons, record_expr, field, none, more}
use Rattle.um_tree.specs.Formed.{count}
use Rattle.um_machine.specs.declared.op.Op.{Op}
use Rattle.um_machine.specs.declared.op.Op.TheVariants.{PushNum, PushBool, Load, Neg, Not, Jump, JumpIfNot, MakeList, Cons, Split, MakeRec, Field, Slide, Call, Pow}
use Rattle.um_machine.specs.declared.code.Code.{Code}
use Rattle.um_machine.specs.Machine.{op_at}
use Rattle.um_gen.specs.ProgramCode.{arith_op, sign_ops, expr_size, all_size, expr_code, all_code}

mutual
  pub length_code : (e : ExprTree) (ps : List ℕ) (d a : ℕ) → length (expr_code e ps d a) ≡ expr_size e
  length_code (truth at b) ps d a = refl
  length_code (number at c n) ps d a = refl
  length_code (local at k) ps d a = refl
  length_code (call at f es) ps d a = omega (arith, length-append (all_code es ps d a) (Call f ∷ []), length_all es ps d a)
  length_code (negate at x) ps d a = omega (arith, length-append (expr_code x ps d a) (Neg ∷ []), length_code x ps d a)
  length_code (not_expr at x) ps d a = omega (arith, length-append (expr_code x ps d a) (Not ∷ []), length_code x ps d a)
  length_code (pown at x k) ps d a = omega (arith, length-append (expr_code x ps d a) (Pow k ∷ []), length_code x ps d a)
  length_code (arith_tree at op x y) ps d a =
      omega (arith, length-append (expr_code x ps d a) (expr_code y ps (d + 1) (a + expr_size x) ++ arith_op op ∷ []), length-append (expr_code y ps (d + 1) (a + expr_size x)) (arith_op op ∷ []), length_code x ps d a, length_code y ps (d + 1) (a + expr_size x))
  length_code (compare at s x y) ps d a =
      omega (arith, length-append (expr_code x ps d a) (expr_code y ps (d + 1) (a + expr_size x) ++ sign_ops s), length-append (expr_code y ps (d + 1) (a + expr_size x)) (sign_ops s), length_code x ps d a, length_code y ps (d + 1) (a + expr_size x))
  length_code (both at x y) ps d a =
      let yc = expr_code y ps d (a + expr_size x + 1) in
      let rest = Jump (a + expr_size x + 1 + expr_size y + 1 + 1) ∷ PushBool false ∷ [] in
      omega (arith, length-append (expr_code x ps d a) (JumpIfNot (a + expr_size x + 1 + expr_size y + 1) ∷ (yc ++ rest)), length-append yc rest, length_code x ps d a, length_code y ps d (a + expr_size x + 1))
  length_code (either at x y) ps d a =
      let yc = expr_code y ps d (a + expr_size x + 3) in
      omega (arith, length-append (expr_code x ps d a) (JumpIfNot (a + expr_size x + 3) ∷ PushBool true ∷ Jump (a + expr_size x + 3 + expr_size y) ∷ yc), length_code x ps d a, length_code y ps d (a + expr_size x + 3))
  length_code (if at c x y) ps d a =
      let xc = expr_code x ps d (a + expr_size c + 1) in
      let yc = expr_code y ps d (a + expr_size c + 1 + expr_size x + 1) in
      let rest = Jump (a + expr_size c + 1 + expr_size x + 1 + expr_size y) ∷ yc in
      omega (arith, length-append (expr_code c ps d a) (JumpIfNot (a + expr_size c + 1 + expr_size x + 1) ∷ (xc ++ rest)), length-append xc rest, length_code c ps d a, length_code x ps d (a + expr_size c + 1), length_code y ps d (a + expr_size c + 1 + expr_size x + 1))
  length_code (bind at x y) ps d a =
      let yc = expr_code y (ps ++ d ∷ []) (d + 1) (a + expr_size x) in
      omega (arith, length-append (expr_code x ps d a) (yc ++ Slide 1 ∷ []), length-append yc (Slide 1 ∷ []), length_code x ps d a, length_code y (ps ++ d ∷ []) (d + 1) (a + expr_size x))
  length_code (split at l x y) ps d a =
      let yc = expr_code y (ps ++ d ∷ (d + 1) ∷ []) (d + 2) (a + expr_size l + 1) in
      let xc = expr_code x ps d (a + expr_size l + 1 + expr_size y + 2) in
      let rest = Slide 2 ∷ Jump (a + expr_size l + 1 + expr_size y + 2 + expr_size x) ∷ xc in
      omega (arith, length-append (expr_code l ps d a) (Split (a + expr_size l + 1 + expr_size y + 2) ∷ (yc ++ rest)), length-append yc rest, length_code l ps d a, length_code x ps d (a + expr_size l + 1 + expr_size y + 2), length_code y (ps ++ d ∷ (d + 1) ∷ []) (d + 2) (a + expr_size l + 1))
  length_code (nil at n) ps d a = refl
  length_code (list_expr at es) ps d a = omega (arith, length-append (all_code es ps d a) (MakeList (count es) ∷ []), length_all es ps d a)
  length_code (cons at x y) ps d a =
      omega (arith, length-append (expr_code x ps d a) (expr_code y ps (d + 1) (a + expr_size x) ++ Cons ∷ []), length-append (expr_code y ps (d + 1) (a + expr_size x)) (Cons ∷ []), length_code x ps d a, length_code y ps (d + 1) (a + expr_size x))
  length_code (record_expr at r es) ps d a = omega (arith, length-append (all_code es ps d a) (MakeRec r (count es) ∷ []), length_all es ps d a)
  length_code (field at r k x) ps d a = omega (arith, length-append (expr_code x ps d a) (Field k ∷ []), length_code x ps d a)

  pub length_all : (es : ExprTrees) (ps : List ℕ) (d a : ℕ) → length (all_code es ps d a) ≡ all_size es
  length_all none ps d a = refl
  length_all (more e es) ps d a =
      omega (arith, length-append (expr_code e ps d a) (all_code es ps (d + 1) (a + expr_size e)), length_code e ps d a, length_all es ps (d + 1) (a + expr_size e))

module _ (code : Code) (f : ℕ) where
  abbrev pub HasOp : ℕ → Op → Type 0
  HasOp a i = op_at code f a ≡ Some i

  abbrev pub IsThere : ℕ → Type 0
  IsThere a = (i : Op) × (op_at code f a ≡ Some i)

  -- instructions in a row
  abbrev pub InRow : ℕ → List Op → Type 0
  InRow a [] = Unit {0}
  InRow a (i ∷ is) = HasOp a i × InRow (a + 1) is

  -- the code of an expression stands from one address to another
  abbrev mutual
    pub Stands : ExprTree → List ℕ → ℕ → ℕ → ℕ → Type 0
    Stands (truth at b) ps d a z = HasOp a (PushBool b) × (z ≡ a + 1)
    Stands (number at c n) ps d a z = HasOp a (PushNum c) × (z ≡ a + 1)
    Stands (local at k) ps d a z = HasOp a (Load (get_or ps k 0)) × (z ≡ a + 1)
    Stands (call at j es) ps d a z = (m : ℕ) × AllStand es ps d a m × HasOp m (Call j) × (z ≡ m + 1)
    Stands (negate at x) ps d a z = (m : ℕ) × Stands x ps d a m × HasOp m Neg × (z ≡ m + 1)
    Stands (not_expr at x) ps d a z = (m : ℕ) × Stands x ps d a m × HasOp m Not × (z ≡ m + 1)
    Stands (pown at x k) ps d a z = (m : ℕ) × Stands x ps d a m × HasOp m (Pow k) × (z ≡ m + 1)
    Stands (arith_tree at op x y) ps d a z = (m n : ℕ) × Stands x ps d a m × Stands y ps (d + 1) m n × HasOp n (arith_op op) × (z ≡ n + 1)
    Stands (compare at s x y) ps d a z = (m n : ℕ) × Stands x ps d a m × Stands y ps (d + 1) m n × InRow n (sign_ops s) × (z ≡ n + length (sign_ops s))
    Stands (both at x y) ps d a z = (m n : ℕ) × Stands x ps d a m × HasOp m (JumpIfNot (n + 1)) × Stands y ps d (m + 1) n × HasOp n (Jump z) × HasOp (n + 1) (PushBool false) × (z ≡ n + 1 + 1)
    Stands (either at x y) ps d a z = (m l : ℕ) × Stands x ps d a m × HasOp m (JumpIfNot l) × HasOp (m + 1) (PushBool true) × HasOp (m + 1 + 1) (Jump z) × Stands y ps d l z
    Stands (if at c x y) ps d a z = (m n l : ℕ) × Stands c ps d a m × HasOp m (JumpIfNot l) × Stands x ps d (m + 1) n × HasOp n (Jump z) × Stands y ps d l z
    Stands (bind at x y) ps d a z = (m n : ℕ) × Stands x ps d a m × Stands y (ps ++ d ∷ []) (d + 1) m n × HasOp n (Slide 1) × (z ≡ n + 1)
    Stands (split at l x y) ps d a z = (m n t : ℕ) × Stands l ps d a m × HasOp m (Split t) × Stands y (ps ++ d ∷ (d + 1) ∷ []) (d + 2) (m + 1) n × HasOp n (Slide 2) × HasOp (n + 1) (Jump z) × Stands x ps d t z
    Stands (nil at n) ps d a z = HasOp a (MakeList 0) × (z ≡ a + 1)
    Stands (list_expr at es) ps d a z = (m : ℕ) × AllStand es ps d a m × HasOp m (MakeList (count es)) × (z ≡ m + 1)
    Stands (cons at x y) ps d a z = (m n : ℕ) × Stands x ps d a m × Stands y ps (d + 1) m n × HasOp n Cons × (z ≡ n + 1)
    Stands (record_expr at r es) ps d a z = (m : ℕ) × AllStand es ps d a m × HasOp m (MakeRec r (count es)) × (z ≡ m + 1)
    Stands (field at r k x) ps d a z = (m : ℕ) × Stands x ps d a m × HasOp m (Field k) × (z ≡ m + 1)

    pub AllStand : ExprTrees → List ℕ → ℕ → ℕ → ℕ → Type 0
    AllStand none ps d a z = z ≡ a
    AllStand (more e es) ps d a z = (m : ℕ) × Stands e ps d a m × AllStand es ps (d + 1) m z

  -- the first instruction is there
  mutual
    pub first : (e : ExprTree) (ps : List ℕ) (d a z : ℕ) → Stands e ps d a z → IsThere a
    first (truth at b) ps d a z h = (_, h.0)
    first (number at c n) ps d a z h = (_, h.0)
    first (local at k) ps d a z h = (_, h.0)
    first (call at j es) ps d a z h = all_first es ps d a h.0 h.1 (_, h.2)
    first (negate at x) ps d a z h = first x ps d a h.0 h.1
    first (not_expr at x) ps d a z h = first x ps d a h.0 h.1
    first (pown at x k) ps d a z h = first x ps d a h.0 h.1
    first (arith_tree at op x y) ps d a z h = first x ps d a h.0 h.2
    first (compare at s x y) ps d a z h = first x ps d a h.0 h.2
    first (both at x y) ps d a z h = first x ps d a h.0 h.2
    first (either at x y) ps d a z h = first x ps d a h.0 h.2
    first (if at c x y) ps d a z h = first c ps d a h.0 h.3
    first (bind at x y) ps d a z h = first x ps d a h.0 h.2
    first (split at l x y) ps d a z h = first l ps d a h.0 h.3
    first (nil at n) ps d a z h = (_, h.0)
    first (list_expr at es) ps d a z h = all_first es ps d a h.0 h.1 (_, h.2)
    first (cons at x y) ps d a z h = first x ps d a h.0 h.2
    first (record_expr at r es) ps d a z h = all_first es ps d a h.0 h.1 (_, h.2)
    first (field at r k x) ps d a z h = first x ps d a h.0 h.1

    pub all_first : (es : ExprTrees) (ps : List ℕ) (d a z : ℕ) → AllStand es ps d a z → IsThere z → IsThere a
    all_first none ps d a z h t = subst IsThere h t
    all_first (more e es) ps d a z h t = first e ps d a h.0 h.1

  pub in_front : (a : ℕ) (xs ys : List Op) → InRow a (xs ++ ys) → InRow a xs
  in_front a [] ys h = tt
  in_front a (x ∷ xs) ys h = (h.0, in_front (a + 1) xs ys h.1)

  pub in_back : (a z : ℕ) (xs ys : List Op) → InRow a (xs ++ ys) → z ≡ a + length xs → InRow z ys
  in_back a z [] ys h e = let same : a ≡ z = omega arith in subst (λ n. InRow n ys) same h
  in_back a z (x ∷ xs) ys h e = in_back (a + 1) z xs ys h.1 (omega arith)

  pub after_code : (e : ExprTree) (ps : List ℕ) (d a z : ℕ) (ys : List Op) → InRow a (expr_code e ps d a ++ ys) → z ≡ a + expr_size e → InRow z ys
  after_code e ps d a z ys h k = in_back a z (expr_code e ps d a) ys h (omega (arith, length_code e ps d a))

  after_all : (es : ExprTrees) (ps : List ℕ) (d a z : ℕ) (ys : List Op) → InRow a (all_code es ps d a ++ ys) → z ≡ a + all_size es → InRow z ys
  after_all es ps d a z ys h k = in_back a z (all_code es ps d a) ys h (omega (arith, length_all es ps d a))

  mutual
    pub stands : (e : ExprTree) (ps : List ℕ) (d a z : ℕ) → InRow a (expr_code e ps d a) → z ≡ a + expr_size e → Stands e ps d a z
    stands (truth at b) ps d a z h e = (h.0, e)
    stands (number at c n) ps d a z h e = (h.0, e)
    stands (local at k) ps d a z h e = (h.0, e)
    stands (call at j es) ps d a z h e =
        (a + all_size es, all_stand es ps d a _ (in_front a (all_code es ps d a) _ h) refl, (after_all es ps d a _ _ h refl).0, omega arith)
    stands (negate at x) ps d a z h e =
        (a + expr_size x, stands x ps d a _ (in_front a (expr_code x ps d a) _ h) refl, (after_code x ps d a _ _ h refl).0, omega arith)
    stands (not_expr at x) ps d a z h e =
        (a + expr_size x, stands x ps d a _ (in_front a (expr_code x ps d a) _ h) refl, (after_code x ps d a _ _ h refl).0, omega arith)
    stands (pown at x k) ps d a z h e =
        (a + expr_size x, stands x ps d a _ (in_front a (expr_code x ps d a) _ h) refl, (after_code x ps d a _ _ h refl).0, omega arith)
    stands (arith_tree at op x y) ps d a z h e =
        let r = after_code x ps d a (a + expr_size x) _ h refl in
        (a + expr_size x, a + expr_size x + expr_size y, stands x ps d a _ (in_front a (expr_code x ps d a) _ h) refl, stands y ps (d + 1) _ _ (in_front _ (expr_code y ps (d + 1) (a + expr_size x)) _ r) refl, (after_code y ps (d + 1) _ _ _ r refl).0, omega arith)
    stands (compare at s x y) ps d a z h e =
        let r = after_code x ps d a (a + expr_size x) _ h refl in
        (a + expr_size x, a + expr_size x + expr_size y, stands x ps d a _ (in_front a (expr_code x ps d a) _ h) refl, stands y ps (d + 1) _ _ (in_front _ (expr_code y ps (d + 1) (a + expr_size x)) _ r) refl, after_code y ps (d + 1) _ _ _ r refl, omega arith)
    stands (both at x y) ps d a z h e =
        let r = after_code x ps d a (a + expr_size x) _ h refl in
        let s = after_code y ps d (a + expr_size x + 1) (a + expr_size x + 1 + expr_size y) _ r.1 refl in
        let zz : a + expr_size x + 1 + expr_size y + 1 + 1 ≡ z = omega arith in
        (a + expr_size x, a + expr_size x + 1 + expr_size y, stands x ps d a _ (in_front a (expr_code x ps d a) _ h) refl, r.0, stands y ps d _ _ (in_front _ (expr_code y ps d (a + expr_size x + 1)) _ r.1) refl, s.0 ∙ ap (λ n. Some (Jump n)) zz, s.1.0, sym zz)
    stands (either at x y) ps d a z h e =
        let r = after_code x ps d a (a + expr_size x) _ h refl in
        let zz : a + expr_size x + 3 + expr_size y ≡ z = omega arith in
        let three : a + expr_size x + 1 + 1 + 1 ≡ a + expr_size x + 3 = omega arith in
        (a + expr_size x, a + expr_size x + 3, stands x ps d a _ (in_front a (expr_code x ps d a) _ h) refl, r.0, r.1.0, r.1.1.0 ∙ ap (λ n. Some (Jump n)) zz, stands y ps d _ _ (subst (λ n. InRow n (expr_code y ps d (a + expr_size x + 3))) three r.1.1.1) (sym zz))
    stands (if at c x y) ps d a z h e =
        let r = after_code c ps d a (a + expr_size c) _ h refl in
        let s = after_code x ps d (a + expr_size c + 1) (a + expr_size c + 1 + expr_size x) _ r.1 refl in
        let zz : a + expr_size c + 1 + expr_size x + 1 + expr_size y ≡ z = omega arith in
        (a + expr_size c, a + expr_size c + 1 + expr_size x, a + expr_size c + 1 + expr_size x + 1, stands c ps d a _ (in_front a (expr_code c ps d a) _ h) refl, r.0, stands x ps d _ _ (in_front _ (expr_code x ps d (a + expr_size c + 1)) _ r.1) refl, s.0 ∙ ap (λ n. Some (Jump n)) zz, stands y ps d _ _ s.1 (sym zz))
    stands (bind at x y) ps d a z h e =
        let r = after_code x ps d a (a + expr_size x) _ h refl in
        (a + expr_size x, a + expr_size x + expr_size y, stands x ps d a _ (in_front a (expr_code x ps d a) _ h) refl, stands y (ps ++ d ∷ []) (d + 1) _ _ (in_front _ (expr_code y (ps ++ d ∷ []) (d + 1) (a + expr_size x)) _ r) refl, (after_code y (ps ++ d ∷ []) (d + 1) _ _ _ r refl).0, omega arith)
    stands (split at l x y) ps d a z h e =
        let r = after_code l ps d a (a + expr_size l) _ h refl in
        let s = after_code y (ps ++ d ∷ (d + 1) ∷ []) (d + 2) (a + expr_size l + 1) (a + expr_size l + 1 + expr_size y) _ r.1 refl in
        let zz : a + expr_size l + 1 + expr_size y + 2 + expr_size x ≡ z = omega arith in
        let two : a + expr_size l + 1 + expr_size y + 1 + 1 ≡ a + expr_size l + 1 + expr_size y + 2 = omega arith in
        (a + expr_size l, a + expr_size l + 1 + expr_size y, a + expr_size l + 1 + expr_size y + 2, stands l ps d a _ (in_front a (expr_code l ps d a) _ h) refl, r.0, stands y _ (d + 2) _ _ (in_front _ (expr_code y (ps ++ d ∷ (d + 1) ∷ []) (d + 2) (a + expr_size l + 1)) _ r.1) refl, s.0, s.1.0 ∙ ap (λ n. Some (Jump n)) zz, stands x ps d _ _ (subst (λ n. InRow n (expr_code x ps d (a + expr_size l + 1 + expr_size y + 2))) two s.1.1) (sym zz))
    stands (nil at n) ps d a z h e = (h.0, e)
    stands (list_expr at es) ps d a z h e =
        (a + all_size es, all_stand es ps d a _ (in_front a (all_code es ps d a) _ h) refl, (after_all es ps d a _ _ h refl).0, omega arith)
    stands (cons at x y) ps d a z h e =
        let r = after_code x ps d a (a + expr_size x) _ h refl in
        (a + expr_size x, a + expr_size x + expr_size y, stands x ps d a _ (in_front a (expr_code x ps d a) _ h) refl, stands y ps (d + 1) _ _ (in_front _ (expr_code y ps (d + 1) (a + expr_size x)) _ r) refl, (after_code y ps (d + 1) _ _ _ r refl).0, omega arith)
    stands (record_expr at q es) ps d a z h e =
        (a + all_size es, all_stand es ps d a _ (in_front a (all_code es ps d a) _ h) refl, (after_all es ps d a _ _ h refl).0, omega arith)
    stands (field at q k x) ps d a z h e =
        (a + expr_size x, stands x ps d a _ (in_front a (expr_code x ps d a) _ h) refl, (after_code x ps d a _ _ h refl).0, omega arith)

    pub all_stand : (es : ExprTrees) (ps : List ℕ) (d a z : ℕ) → InRow a (all_code es ps d a) → z ≡ a + all_size es → AllStand es ps d a z
    all_stand none ps d a z h e = omega arith
    all_stand (more e es) ps d a z h k =
        (a + expr_size e, stands e ps d a _ (in_front a (expr_code e ps d a) _ h) refl, all_stand es ps (d + 1) _ _ (after_code e ps d a (a + expr_size e) _ h refl) (omega arith))
