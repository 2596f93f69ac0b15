-- What is open and at focus once an expression was read, and what is left of it where frames end.
use Rattle.std.proofs.Common.{◌≡◌, ℕ, ◌+◌, ◌≤◌, ◌<◌, List, [], ◌∷◌, ◌++◌, Bool, true, false, Some, None, refl, ap, ◌∙◌, arith}
use Rattle.std.proofs.lemmas.Bool.{lt-ltb, le-ltb}
use Rattle.um_tree.specs.declared.expression.Arith.{Arith}
use Rattle.um_tree.specs.declared.expression.Arith.TheVariants as arith_of
use Rattle.um_tree.specs.declared.expression.Sign.TheVariants as compare
use Rattle.um_tree.specs.RawTree.{ExprSyntax, ExprSyntaxes, FieldSyntaxes, FieldPart, truth_syntax, number_syntax, name_syntax, call_syntax, negate_syntax, not_syntax, pown_syntax, arith_syntax, compare_syntax, and_syntax, or_syntax, if_syntax, let_syntax, match_syntax, nil_syntax, list_syntax, cons_syntax, fields_syntax, field_syntax, bracket_expr_syntax, no_exprs, more_exprs, no_fields, more_fields, exprs_in_order, fields_in_order}
use Rattle.um_operands.specs.declared.infix.Infix.{Infix}
use Rattle.um_operands.specs.declared.infix.Infix.TheVariants as between
use Rattle.um_operands.specs.Ranks.{arith_rank, infix_rank, left_limit, right_bound}
use Rattle.um_operands.specs.ExprKinds.{is_plain_number}
use Rattle.um_operands.specs.ExprBegun.{Frame, InBracket, InItem, InField, InValue, InBody, InTest, InThen, InElse, InMatched, InEmptyArm, InFullArm, InNegate, InNot, InPown, InRight, InArgument, own_rank, top_bound, top_rank, plug, with_field, Have, reduce}
use Rattle.um_expr.specs.ExprGrammar.{rank, Fits}
use Rattle.um_forms.specs.ExprForms.{less_after, infix_after}

-- what is open once the arguments after a before were read, and the last one
abbrev pub opened_call : List Frame → ℕ → List ℕ → List ExprSyntax → ExprSyntaxes → List Frame
opened_call frames at f before no_exprs = frames
opened_call frames at f before (more_exprs e no_exprs) = InArgument at f before ∷ frames
opened_call frames at f before (more_exprs e (more_exprs d es)) = opened_call frames at f (before ++ e ∷ []) (more_exprs d es)

abbrev pub last_argument : ExprSyntax → ExprSyntaxes → ExprSyntax
last_argument t no_exprs = t
last_argument t (more_exprs e no_exprs) = e
last_argument t (more_exprs e (more_exprs d es)) = last_argument t (more_exprs d es)

-- what is open once an expression was read inside frames
abbrev pub opened : List Frame → ExprSyntax → List Frame
opened frames (truth_syntax at b) = frames
opened frames (number_syntax at c n) = frames
opened frames (name_syntax at x) = frames
opened frames (call_syntax at f args) = opened_call frames at f [] args
opened frames (negate_syntax at e) = opened (InNegate at ∷ frames) e
opened frames (not_syntax at e) = opened (InNot at ∷ frames) e
opened frames (pown_syntax at e k) = frames
opened frames (arith_syntax at op a b) = opened (InRight at (between.Arith op) a ∷ frames) b
opened frames (compare_syntax at sign a b) = opened (InRight at (between.Compare sign) a ∷ frames) b
opened frames (and_syntax at a b) = opened (InRight at between.And a ∷ frames) b
opened frames (or_syntax at a b) = opened (InRight at between.Or a ∷ frames) b
opened frames (if_syntax at c a b) = opened (InElse at c a ∷ frames) b
opened frames (let_syntax at x a b) = opened (InBody at x a ∷ frames) b
opened frames (match_syntax at l a x y b) = opened (InFullArm at l a x y ∷ frames) b
opened frames (nil_syntax at t) = frames
opened frames (list_syntax at es) = frames
opened frames (cons_syntax at a b) = opened (InRight at between.Cons a ∷ frames) b
opened frames (fields_syntax at fs) = frames
opened frames (field_syntax at place x e) = frames
opened frames (bracket_expr_syntax at e) = frames

-- the atom or the whole power at focus then
abbrev pub last_atom : ExprSyntax → ExprSyntax
last_atom (truth_syntax at b) = truth_syntax at b
last_atom (number_syntax at c n) = number_syntax at c n
last_atom (name_syntax at x) = name_syntax at x
last_atom (call_syntax at f args) = last_argument (call_syntax at f args) args
last_atom (negate_syntax at e) = last_atom e
last_atom (not_syntax at e) = last_atom e
last_atom (pown_syntax at e k) = pown_syntax at e k
last_atom (arith_syntax at op a b) = last_atom b
last_atom (compare_syntax at sign a b) = last_atom b
last_atom (and_syntax at a b) = last_atom b
last_atom (or_syntax at a b) = last_atom b
last_atom (if_syntax at c a b) = last_atom b
last_atom (let_syntax at x a b) = last_atom b
last_atom (match_syntax at l a x y b) = last_atom b
last_atom (nil_syntax at t) = nil_syntax at t
last_atom (list_syntax at es) = list_syntax at es
last_atom (cons_syntax at a b) = last_atom b
last_atom (fields_syntax at fs) = fields_syntax at fs
last_atom (field_syntax at place x e) = field_syntax at place x e
last_atom (bracket_expr_syntax at e) = bracket_expr_syntax at e

-- ---- ranks

pub arith_low : (op : Arith) → (3 ≤ arith_rank op) × (arith_rank op ≤ 4)
arith_low arith_of.Add = (omega arith, omega arith)
arith_low arith_of.Sub = (omega arith, omega arith)
arith_low arith_of.Mul = (omega arith, omega arith)
arith_low arith_of.Div = (omega arith, omega arith)

pub rank_low : (t : ExprSyntax) → rank t ≤ 9
rank_low (arith_syntax at op a b) = omega (arith, arith_low op)
rank_low (truth_syntax at b) = omega arith
rank_low (number_syntax at c n) = omega arith
rank_low (name_syntax at x) = omega arith
rank_low (call_syntax at f args) = omega arith
rank_low (negate_syntax at e) = omega arith
rank_low (not_syntax at e) = omega arith
rank_low (pown_syntax at e k) = omega arith
rank_low (compare_syntax at sign a b) = omega arith
rank_low (and_syntax at a b) = omega arith
rank_low (or_syntax at a b) = omega arith
rank_low (if_syntax at c a b) = omega arith
rank_low (let_syntax at x a b) = omega arith
rank_low (match_syntax at l a x y b) = omega arith
rank_low (nil_syntax at t) = omega arith
rank_low (list_syntax at es) = omega arith
rank_low (cons_syntax at a b) = omega arith
rank_low (fields_syntax at fs) = omega arith
rank_low (field_syntax at place x e) = omega arith
rank_low (bracket_expr_syntax at e) = omega arith

-- the right operand binds as tightly as the sign, at least
pub infix_low : (sign : Infix) → (3 ≤ infix_rank sign) × (infix_rank sign ≤ 8) × (left_limit sign ≤ infix_rank sign) × (right_bound sign ≤ infix_rank sign + 1) × (3 ≤ right_bound sign)
infix_low between.Or = (omega arith, omega arith, omega arith, omega arith, omega arith)
infix_low between.And = (omega arith, omega arith, omega arith, omega arith, omega arith)
infix_low (between.Compare sign) = (omega arith, omega arith, omega arith, omega arith, omega arith)
infix_low between.Cons = (omega arith, omega arith, omega arith, omega arith, omega arith)
infix_low (between.Arith op) =
    let low = arith_low op in (omega (arith, low), omega (arith, low), omega arith, omega arith, omega (arith, low))

-- ---- ending frames

pub pops : (limit : ℕ) (frame : Frame) (frames : List Frame) (t : ExprSyntax) → own_rank frame ≤ limit → reduce limit (frame ∷ frames) t ≡ reduce limit frames (plug frame t)
pops limit frame frames t le = rw le-ltb refl

pub stays : (limit : ℕ) (frames : List Frame) (t : ExprSyntax) → limit < top_rank frames → reduce limit frames t ≡ Have frames t
stays limit [] t lt = refl
stays limit (frame ∷ frames) t lt = rw lt-ltb refl

-- a before and then the others
abbrev pub put : List ExprSyntax → ExprSyntaxes → ExprSyntaxes
put [] es = es
put (x ∷ xs) es = more_exprs x (put xs es)

pub put_last : (before : List ExprSyntax) (e : ExprSyntax) (es : ExprSyntaxes) → put (before ++ e ∷ []) es ≡ put before (more_exprs e es)
put_last [] e es = refl
put_last (x ∷ xs) e es = ap (more_exprs x) (put_last xs e es)

pub order_last : (before : List ExprSyntax) (e : ExprSyntax) → exprs_in_order (before ++ e ∷ []) ≡ put before (more_exprs e no_exprs)
order_last [] e = refl
order_last (x ∷ xs) e = ap (more_exprs x) (order_last xs e)

abbrev pub put_fields : List FieldPart → FieldSyntaxes → FieldSyntaxes
put_fields [] fs = fs
put_fields (x ∷ xs) fs = more_fields x.at x.name x.part (put_fields xs fs)

pub put_field_last : (before : List FieldPart) (at : ℕ) (x : List ℕ) (e : ExprSyntax) (fs : FieldSyntaxes) → put_fields (with_field before at x e) fs ≡ put_fields before (more_fields at x e fs)
put_field_last [] at x e fs = refl
put_field_last (f ∷ before) at x e fs = ap (more_fields f.at f.name f.part) (put_field_last before at x e fs)

pub field_order_last : (before : List FieldPart) (at : ℕ) (x : List ℕ) (e : ExprSyntax) → fields_in_order (with_field before at x e) ≡ put_fields before (more_fields at x e no_fields)
field_order_last [] at x e = refl
field_order_last (f ∷ before) at x e = ap (more_fields f.at f.name f.part) (field_order_last before at x e)

ends_call : (es : ExprSyntaxes) (e t : ExprSyntax) (limit : ℕ) (frames : List Frame) (at : ℕ) (f : List ℕ) (before : List ExprSyntax) → 1 ≤ limit
    → reduce limit (opened_call frames at f before (more_exprs e es)) (last_argument t (more_exprs e es)) ≡ reduce limit frames (call_syntax at f (put before (more_exprs e es)))
ends_call no_exprs e t limit frames at f before le =
    pops limit (InArgument at f before) frames e le ∙ ap (λ w. reduce limit frames (call_syntax at f w)) (order_last before e)
ends_call (more_exprs d es) e t limit frames at f before le =
    ends_call es d t limit frames at f (before ++ e ∷ []) le ∙ ap (λ w. reduce limit frames (call_syntax at f w)) (put_last before e (more_exprs d es))

-- what was read ends as the expression
pub ends_as : (t : ExprSyntax) (limit : ℕ) (frames : List Frame) → Fits t → rank t ≤ limit → reduce limit (opened frames t) (last_atom t) ≡ reduce limit frames t
ends_as (truth_syntax at b) limit frames fits le = refl
ends_as (number_syntax at c n) limit frames fits le = refl
ends_as (name_syntax at x) limit frames fits le = refl
ends_as (call_syntax at f no_exprs) limit frames fits le = absurd fits.0
ends_as (call_syntax at f (more_exprs e es)) limit frames fits le = ends_call es e (call_syntax at f (more_exprs e es)) limit frames at f [] le
ends_as (negate_syntax at e) limit frames fits le = ends_as e limit (InNegate at ∷ frames) fits.1 (omega (arith, fits.0)) ∙ pops limit (InNegate at) frames e le
ends_as (not_syntax at e) limit frames fits le = ends_as e limit (InNot at ∷ frames) fits.1 (omega (arith, fits.0)) ∙ pops limit (InNot at) frames e le
ends_as (pown_syntax at e k) limit frames fits le = refl
ends_as (arith_syntax at op a b) limit frames fits le =
    ends_as b limit (InRight at (between.Arith op) a ∷ frames) fits.3 (omega (arith, fits.1)) ∙ pops limit (InRight at (between.Arith op) a) frames b le
ends_as (compare_syntax at sign a b) limit frames fits le =
    ends_as b limit (InRight at (between.Compare sign) a ∷ frames) fits.3 (omega (arith, fits.1)) ∙ pops limit (InRight at (between.Compare sign) a) frames b le
ends_as (and_syntax at a b) limit frames fits le =
    ends_as b limit (InRight at between.And a ∷ frames) fits.3 (omega (arith, fits.1)) ∙ pops limit (InRight at between.And a) frames b le
ends_as (or_syntax at a b) limit frames fits le =
    ends_as b limit (InRight at between.Or a ∷ frames) fits.3 (omega (arith, fits.1)) ∙ pops limit (InRight at between.Or a) frames b le
ends_as (if_syntax at c a b) limit frames fits le = ends_as b limit (InElse at c a ∷ frames) fits.2 (omega (arith, rank_low b)) ∙ pops limit (InElse at c a) frames b le
ends_as (let_syntax at x a b) limit frames fits le = ends_as b limit (InBody at x a ∷ frames) fits.1 (omega (arith, rank_low b)) ∙ pops limit (InBody at x a) frames b le
ends_as (match_syntax at l a x y b) limit frames fits le =
    ends_as b limit (InFullArm at l a x y ∷ frames) fits.2 (omega (arith, rank_low b)) ∙ pops limit (InFullArm at l a x y) frames b le
ends_as (nil_syntax at t) limit frames fits le = refl
ends_as (list_syntax at es) limit frames fits le = refl
ends_as (cons_syntax at a b) limit frames fits le =
    ends_as b limit (InRight at between.Cons a ∷ frames) fits.3 (omega (arith, fits.1)) ∙ pops limit (InRight at between.Cons a) frames b le
ends_as (fields_syntax at fs) limit frames fits le = refl
ends_as (field_syntax at place x e) limit frames fits le = refl
ends_as (bracket_expr_syntax at e) limit frames fits le = refl

-- all of it, up to a frame that a token ends
pub ends_whole : (t : ExprSyntax) (frames : List Frame) → Fits t → 9 < top_rank frames → reduce 9 (opened frames t) (last_atom t) ≡ Have frames t
ends_whole t frames fits lt = ends_as t 9 frames fits (rank_low t) ∙ stays 9 frames t lt

-- what may hold an expression with this sign isn't ended by its left operand
right_opens : (sign inner : Infix) → infix_rank sign < right_bound inner → left_limit sign < infix_rank inner
right_opens sign between.Or lt = omega (arith, infix_low sign)
right_opens sign between.And lt = omega (arith, infix_low sign)
right_opens sign (between.Compare s) lt = omega (arith, infix_low sign)
right_opens sign (between.Arith op) lt = omega (arith, infix_low sign)
right_opens between.Or between.Cons lt = absurd (omega arith)
right_opens between.And between.Cons lt = absurd (omega arith)
right_opens (between.Compare s) between.Cons lt = absurd (omega arith)
right_opens between.Cons between.Cons lt = omega arith
right_opens (between.Arith op) between.Cons lt = omega (arith, arith_low op)

pub infix_opens : (sign : Infix) (frames : List Frame) → infix_rank sign < top_bound frames → left_limit sign < top_rank frames
infix_opens sign [] lt = omega (arith, infix_low sign)
infix_opens sign (InRight at inner left ∷ frames) lt = right_opens sign inner lt
infix_opens sign (InNegate at ∷ frames) lt = absurd (omega (arith, infix_low sign))
infix_opens sign (InNot at ∷ frames) lt = absurd (omega (arith, infix_low sign))
infix_opens sign (InPown at ∷ frames) lt = absurd (omega (arith, infix_low sign))
infix_opens sign (InArgument at f before ∷ frames) lt = absurd (omega (arith, infix_low sign))
infix_opens sign (InBracket at ∷ frames) lt = omega (arith, infix_low sign)
infix_opens sign (InItem at before ∷ frames) lt = omega (arith, infix_low sign)
infix_opens sign (InField at before place x ∷ frames) lt = omega (arith, infix_low sign)
infix_opens sign (InValue at x ∷ frames) lt = omega (arith, infix_low sign)
infix_opens sign (InBody at x value ∷ frames) lt = omega (arith, infix_low sign)
infix_opens sign (InTest at ∷ frames) lt = omega (arith, infix_low sign)
infix_opens sign (InThen at test ∷ frames) lt = omega (arith, infix_low sign)
infix_opens sign (InElse at test one ∷ frames) lt = omega (arith, infix_low sign)
infix_opens sign (InMatched at ∷ frames) lt = omega (arith, infix_low sign)
infix_opens sign (InEmptyArm at l ∷ frames) lt = omega (arith, infix_low sign)
infix_opens sign (InFullArm at l a x y ∷ frames) lt = omega (arith, infix_low sign)

-- ---- atoms

pub atom_opened : (t : ExprSyntax) (frames : List Frame) → rank t ≡ 0 → opened frames t ≡ frames
atom_opened (truth_syntax at b) frames low = refl
atom_opened (number_syntax at c n) frames low = refl
atom_opened (name_syntax at x) frames low = refl
atom_opened (nil_syntax at t) frames low = refl
atom_opened (list_syntax at es) frames low = refl
atom_opened (fields_syntax at fs) frames low = refl
atom_opened (field_syntax at place x e) frames low = refl
atom_opened (bracket_expr_syntax at e) frames low = refl
atom_opened (call_syntax at f args) frames low = absurd (omega arith)
atom_opened (negate_syntax at e) frames low = absurd (omega arith)
atom_opened (not_syntax at e) frames low = absurd (omega arith)
atom_opened (pown_syntax at e k) frames low = absurd (omega arith)
atom_opened (arith_syntax at op a b) frames low = absurd (omega (arith, arith_low op))
atom_opened (compare_syntax at sign a b) frames low = absurd (omega arith)
atom_opened (and_syntax at a b) frames low = absurd (omega arith)
atom_opened (or_syntax at a b) frames low = absurd (omega arith)
atom_opened (if_syntax at c a b) frames low = absurd (omega arith)
atom_opened (let_syntax at x a b) frames low = absurd (omega arith)
atom_opened (match_syntax at l a x y b) frames low = absurd (omega arith)
atom_opened (cons_syntax at a b) frames low = absurd (omega arith)

pub atom_last : (t : ExprSyntax) → rank t ≡ 0 → last_atom t ≡ t
atom_last (truth_syntax at b) low = refl
atom_last (number_syntax at c n) low = refl
atom_last (name_syntax at x) low = refl
atom_last (nil_syntax at t) low = refl
atom_last (list_syntax at es) low = refl
atom_last (fields_syntax at fs) low = refl
atom_last (field_syntax at place x e) low = refl
atom_last (bracket_expr_syntax at e) low = refl
atom_last (call_syntax at f args) low = absurd (omega arith)
atom_last (negate_syntax at e) low = absurd (omega arith)
atom_last (not_syntax at e) low = absurd (omega arith)
atom_last (pown_syntax at e k) low = absurd (omega arith)
atom_last (arith_syntax at op a b) low = absurd (omega (arith, arith_low op))
atom_last (compare_syntax at sign a b) low = absurd (omega arith)
atom_last (and_syntax at a b) low = absurd (omega arith)
atom_last (or_syntax at a b) low = absurd (omega arith)
atom_last (if_syntax at c a b) low = absurd (omega arith)
atom_last (let_syntax at x a b) low = absurd (omega arith)
atom_last (match_syntax at l a x y b) low = absurd (omega arith)
atom_last (cons_syntax at a b) low = absurd (omega arith)

-- ---- numbers at focus

-- elsewhere `<` is a sign
pub less_free : (frames : List Frame) (t : ExprSyntax) (glued : Bool) (at : ℕ) → (is_plain_number t ≡ true → glued ≡ false)
    → less_after frames t glued at ≡ infix_after (between.Compare compare.Lt) at (reduce 5 frames t)
less_free frames t false at free = refl
less_free frames (number_syntax m c None) true at free = let bad : true ≡ false = free refl in absurd cc
less_free frames (number_syntax m c (Some n)) true at free = refl
less_free frames (truth_syntax m b) true at free = refl
less_free frames (name_syntax m x) true at free = refl
less_free frames (call_syntax m f args) true at free = refl
less_free frames (negate_syntax m e) true at free = refl
less_free frames (not_syntax m e) true at free = refl
less_free frames (pown_syntax m e k) true at free = refl
less_free frames (arith_syntax m op a b) true at free = refl
less_free frames (compare_syntax m sign a b) true at free = refl
less_free frames (and_syntax m a b) true at free = refl
less_free frames (or_syntax m a b) true at free = refl
less_free frames (if_syntax m c a b) true at free = refl
less_free frames (let_syntax m x a b) true at free = refl
less_free frames (match_syntax m l a x y b) true at free = refl
less_free frames (nil_syntax m t) true at free = refl
less_free frames (list_syntax m es) true at free = refl
less_free frames (cons_syntax m a b) true at free = refl
less_free frames (fields_syntax m fs) true at free = refl
less_free frames (field_syntax m place x e) true at free = refl
less_free frames (bracket_expr_syntax m e) true at free = refl
