-- The least height of an expression that the tokens begin: it is that of the completion, no token lowers it, and what is found has it.
use Rattle.std.proofs.Common.{◌≡◌, ◌≢◌, ℕ, ◌+◌, ◌≤◌, ◌<◌, max, List, [], ◌∷◌, ◌++◌, cond, ltb, Bool, true, false, Option, Some, None, refl, sym, ap, subst, ◌∙◌, arith, inl, inr}
use Rattle.std.proofs.lemmas.Bool.{cases_lt, lt-ltb, le-ltb}
use Rattle.um_frac.specs.declared.number.Frac.{Frac}
use Rattle.um_syntax.specs.declared.token.Token.{Token}
use Rattle.um_tree.specs.declared.expression.Sign.TheVariants as compare
use Rattle.um_tree.specs.declared.expression.Arith.TheVariants as arith_of
use Rattle.um_tree.specs.RawTree.{NoteSyntax, TypeSyntax, ExprSyntax, FieldPart, number_syntax, name_syntax, nil_syntax, exprs_in_order, fields_in_order}
use Rattle.um_tree.specs.Heights.{expr_height, tallest_expr, tallest_field}
use Rattle.um_unit_texts.specs.UnitTokens.{unit_token}
use Rattle.um_unit_texts.specs.UnitMachine.{power_in}
use Rattle.um_types.specs.TypeHeights.{note_height, whole_height}
use Rattle.um_types.specs.NoteMachine.{NoteState, NeedNote, HaveHole, InUnit, NoNote, note_step, note_finish, note_least}
use Rattle.um_types.specs.TypeMachine.{TypeState, NeedType, HaveType, NoType, type_step, type_finish, type_least, InNote as InTypeNote}
use Rattle.um_types.proofs.NoteLaws.{note_completed, note_completed_height, note_up, note_found_height}
use Rattle.um_types.proofs.TypeLaws.{type_completed, type_completed_height, type_up, type_found_height}
use Rattle.um_vocabulary.specs.declared.vocabulary.Keyword.TheVariants as keyword
use Rattle.um_vocabulary.specs.declared.vocabulary.Symbol.TheVariants as symbol
use Rattle.um_operands.specs.declared.infix.Infix.{Infix}
use Rattle.um_operands.specs.declared.infix.Infix.TheVariants as between
use Rattle.um_operands.specs.Ranks.{infix_rank, left_limit, infix_text}
use Rattle.um_operands.specs.ExprBegun.{Frame, InBracket, InItem, InField, InValue, InBody, InTest, InThen, InElse, InMatched, InEmptyArm, InFullArm, InNegate, InNot, InPown, InRight, InArgument, own_rank, top_bound, plug, with_field, Expected, LetBinder, LetEqual, FieldName, FieldEqual, DotName, ArmBegin, ArmOpen, ArmClose, ArmArrow, HeadBinder, HeadCons, TailBinder, TailArrow, NilColon, PownMinus, PownDigits, PownClose, State, Need, Have, HavePower, Greater, Inside, InNote, InType, Refused, reduce, whole, finish}
use Rattle.um_operands.specs.ExprLeast.{side, least_over, expected_least, expr_least, notes_side, notes_over, expected_notes, notes_least, whole_least}
use Rattle.um_operands.specs.ExprKinds.{is_power}
use Rattle.um_operands.specs.ExprHeights.{notes_in, notes_in_all, notes_in_fields, whole_expr_height}
use Rattle.um_forms.specs.declared.token.ExprToken.{ExprToken}
use Rattle.um_forms.specs.declared.token.ExprToken.TheVariants.{Name as name, Number as number, Truth as truth, Hole as hole, Operator as operator, Word as word, Mark as mark}
use Rattle.um_forms.specs.ExprTokens.{expr_token}
use Rattle.um_forms.specs.ExprForms.{if_may, empty_list, begin, after_greater, argument, begin_in, infix_after, greater_after, less_after, close_after, list_after, record_after, semi_after, in_after, then_after, else_after, with_after, bar_after, number_after, bracket_after, inside}
use Rattle.um_expr.specs.ExprMachine.{after, power_after, note_ends, type_ends, note_goes, type_goes, step}
use Rattle.um_expr.proofs.ExprEnds.{infix_low}
use Rattle.um_expr.proofs.ExprPrefixes.{SpellsPrefix}
use Rattle.um_expr.proofs.ExprCompletions.{operand, filled, all_filled, expected_filled, expr_completed}

-- ---- one part more

tallest_last : (before : List ExprSyntax) (t : ExprSyntax) → (tallest_expr (exprs_in_order (before ++ t ∷ [])) ≡ max (tallest_expr (exprs_in_order before)) (expr_height t))
    × (notes_in_all (exprs_in_order (before ++ t ∷ [])) ≡ max (notes_in_all (exprs_in_order before)) (notes_in t))
tallest_last [] t = (omega arith, omega arith)
tallest_last (u ∷ us) t = let e = tallest_last us t in (omega (arith, e.0), omega (arith, e.1))

field_last : (before : List FieldPart) (place : ℕ) (x : List ℕ) (t : ExprSyntax) → (tallest_field (fields_in_order (with_field before place x t)) ≡ max (tallest_field (fields_in_order before)) (expr_height t))
    × (notes_in_fields (fields_in_order (with_field before place x t)) ≡ max (notes_in_fields (fields_in_order before)) (notes_in t))
field_last [] place x t = (omega arith, omega arith)
field_last (u ∷ us) place x t = let e = field_last us place x t in (omega (arith, e.0), omega (arith, e.1))

infix_height : (sign : Infix) (at : ℕ) (a b : ExprSyntax) → (expr_height (infix_text at sign a b) ≡ max (expr_height a) (expr_height b) + 1) × (notes_in (infix_text at sign a b) ≡ max (notes_in a) (notes_in b))
infix_height between.Or at a b = (refl, refl)
infix_height between.And at a b = (refl, refl)
infix_height (between.Compare sign) at a b = (refl, refl)
infix_height between.Cons at a b = (refl, refl)
infix_height (between.Arith op) at a b = (refl, refl)

pub height_filled : (frame : Frame) (t : ExprSyntax) → (expr_height (filled frame t) ≡ max (side frame) (expr_height t) + 1) × (notes_in (filled frame t) ≡ max (notes_side frame) (notes_in t))
height_filled (InBracket at) t = (omega arith, omega arith)
height_filled (InItem at before) t = let e = tallest_last before t in (omega (arith, e.0), e.1)
height_filled (InField at before place x) t = let e = field_last before place x t in (omega (arith, e.0), e.1)
height_filled (InValue at x) t = (omega arith, omega arith)
height_filled (InBody at x v) t = (refl, refl)
height_filled (InTest at) t = (omega arith, omega arith)
height_filled (InThen at c) t = (omega arith, omega arith)
height_filled (InElse at c a) t = (omega arith, omega arith)
height_filled (InMatched at) t = (omega arith, omega arith)
height_filled (InEmptyArm at l) t = (omega arith, omega arith)
height_filled (InFullArm at l a x y) t = (omega arith, omega arith)
height_filled (InNegate at) t = (omega arith, omega arith)
height_filled (InNot at) t = (omega arith, omega arith)
height_filled (InPown at) t = (omega arith, omega arith)
height_filled (InRight at sign left) t = infix_height sign at left t
height_filled (InArgument at f before) t = let e = tallest_last before t in (omega (arith, e.0), e.1)

height_all_filled : (frames : List Frame) (t : ExprSyntax) → (expr_height (all_filled frames t) ≡ least_over frames (expr_height t)) × (notes_in (all_filled frames t) ≡ notes_over frames (notes_in t))
height_all_filled [] t = (refl, refl)
height_all_filled (frame ∷ frames) t =
    let a = height_all_filled frames (filled frame t) in
    let e = height_filled frame t in
    (a.0 ∙ ap (least_over frames) e.0, a.1 ∙ ap (notes_over frames) e.1)

expected_height : (expected : Expected) → (expr_height (expected_filled expected) ≡ expected_least expected) × (notes_in (expected_filled expected) ≡ expected_notes expected)
expected_height (LetBinder at) = (omega arith, omega arith)
expected_height (LetEqual at x) = (omega arith, omega arith)
expected_height (FieldName at before) = let e = field_last before 0 [] operand in (omega (arith, e.0), omega (arith, e.1))
expected_height (FieldEqual at before place x) = let e = field_last before place x operand in (omega (arith, e.0), omega (arith, e.1))
expected_height (DotName at e) = (refl, refl)
expected_height (ArmBegin at l) = (omega arith, omega arith)
expected_height (ArmOpen at l) = (omega arith, omega arith)
expected_height (ArmClose at l) = (omega arith, omega arith)
expected_height (ArmArrow at l) = (omega arith, omega arith)
expected_height (HeadBinder at l a) = (omega arith, omega arith)
expected_height (HeadCons at l a x) = (omega arith, omega arith)
expected_height (TailBinder at l a x) = (omega arith, omega arith)
expected_height (TailArrow at l a x y) = (omega arith, omega arith)
expected_height (NilColon at) = (refl, omega arith)
expected_height (PownMinus at e) = (refl, refl)
expected_height (PownDigits at e) = (refl, refl)
expected_height (PownClose at e k) = (refl, refl)

-- the least height is that of the completion
completed_heights : (st : State) (tokens rest : List Token) → SpellsPrefix st tokens rest → st ≢ Refused → (expr_height (expr_completed st) ≡ expr_least st) × (notes_in (expr_completed st) ≡ notes_least st)
completed_heights (Need frames) tokens rest h ok = height_all_filled frames operand
completed_heights (Have frames t) tokens rest h ok = height_all_filled frames t
completed_heights (HavePower frames t) tokens rest h ok = height_all_filled frames t
completed_heights (Greater frames at left) tokens rest h ok =
    let t : ExprSyntax = infix_text at (between.Compare compare.Gt) left operand in
    let a = height_all_filled frames t in (a.0, a.1 ∙ ap (notes_over frames) (omega arith))
completed_heights (Inside frames expected) tokens rest h ok =
    let a = height_all_filled frames (expected_filled expected) in
    let e = expected_height expected in
    (a.0 ∙ ap (least_over frames) e.0, a.1 ∙ ap (notes_over frames) e.1)
completed_heights (InNote frames at c n) tokens rest h ok =
    let a = height_all_filled frames (number_syntax at c (Some (note_completed n))) in (a.0, a.1 ∙ ap (notes_over frames) (note_completed_height n h.2 rest h.6))
completed_heights (InType frames at s) tokens rest h ok =
    let a = height_all_filled frames (nil_syntax at (type_completed s)) in (a.0, a.1 ∙ ap (notes_over frames) (type_completed_height s h.2 rest h.6 h.8))
completed_heights Refused tokens rest h ok = absurd (ok refl)

pub expr_completed_height : (st : State) (tokens rest : List Token) → SpellsPrefix st tokens rest → st ≢ Refused → whole_expr_height (expr_completed st) ≡ whole_least st
expr_completed_height st tokens rest h ok = let e = completed_heights st tokens rest h ok in omega (arith, e.0, e.1)

-- ---- a token never lowers it

least_up : (frames : List Frame) (h k : ℕ) → h ≤ k → least_over frames h ≤ least_over frames k
least_up [] h k le = le
least_up (frame ∷ frames) h k le = least_up frames (max (side frame) h + 1) (max (side frame) k + 1) (omega arith)

notes_up : (frames : List Frame) (m k : ℕ) → m ≤ k → notes_over frames m ≤ notes_over frames k
notes_up [] m k le = le
notes_up (frame ∷ frames) m k le = notes_up frames (max (notes_side frame) m) (max (notes_side frame) k) (omega arith)

-- what ends by itself is filled by its last part
plug_filled : (frame : Frame) (t : ExprSyntax) → own_rank frame < 10 → plug frame t ≡ filled frame t
plug_filled (InBody at x v) t lt = refl
plug_filled (InElse at c a) t lt = refl
plug_filled (InFullArm at l a x y) t lt = refl
plug_filled (InNegate at) t lt = refl
plug_filled (InNot at) t lt = refl
plug_filled (InRight at sign left) t lt = refl
plug_filled (InArgument at f before) t lt = refl
plug_filled (InBracket at) t lt = absurd (omega arith)
plug_filled (InItem at before) t lt = absurd (omega arith)
plug_filled (InPown at) t lt = absurd (omega arith)
plug_filled (InField at before place x) t lt = absurd (omega arith)
plug_filled (InValue at x) t lt = absurd (omega arith)
plug_filled (InTest at) t lt = absurd (omega arith)
plug_filled (InThen at c) t lt = absurd (omega arith)
plug_filled (InMatched at) t lt = absurd (omega arith)
plug_filled (InEmptyArm at l) t lt = absurd (omega arith)

reduce_least : (frames : List Frame) (limit : ℕ) (t : ExprSyntax) → limit < 10
    → (expr_least (reduce limit frames t) ≡ least_over frames (expr_height t)) × (notes_least (reduce limit frames t) ≡ notes_over frames (notes_in t))
reduce_least [] limit t small = (refl, refl)
reduce_least (frame ∷ frames) limit t small =
    elim (cases_lt limit (own_rank frame)) [
      | inl keeps ↦ rw lt-ltb (refl, refl)
      | inr ends ↦
          let r = reduce_least frames limit (plug frame t) small in
          let e = height_filled frame t in
          let p : plug frame t ≡ filled frame t = plug_filled frame t (omega arith) in
          rw le-ltb (r.0 ∙ ap (λ u. least_over frames (expr_height u)) p ∙ ap (least_over frames) e.0, r.1 ∙ ap (λ u. notes_over frames (notes_in u)) p ∙ ap (notes_over frames) e.1)
    ]

-- at least so high, with notes at least so high, or refused
abbrev Above : ℕ → ℕ → State → Type 0
Above n m Refused = Unit {0}
Above n m (Need frames) = (n ≤ expr_least (Need frames)) × (m ≤ notes_least (Need frames))
Above n m (Have frames t) = (n ≤ expr_least (Have frames t)) × (m ≤ notes_least (Have frames t))
Above n m (HavePower frames t) = (n ≤ expr_least (HavePower frames t)) × (m ≤ notes_least (HavePower frames t))
Above n m (Greater frames at left) = (n ≤ expr_least (Greater frames at left)) × (m ≤ notes_least (Greater frames at left))
Above n m (Inside frames expected) = (n ≤ expr_least (Inside frames expected)) × (m ≤ notes_least (Inside frames expected))
Above n m (InNote frames at c w) = (n ≤ expr_least (InNote frames at c w)) × (m ≤ notes_least (InNote frames at c w))
Above n m (InType frames at s) = (n ≤ expr_least (InType frames at s)) × (m ≤ notes_least (InType frames at s))

above_more : (n m k l : ℕ) (st : State) → n ≤ k → m ≤ l → Above k l st → Above n m st
above_more n m k l Refused a b h = tt
above_more n m k l (Need frames) a b h = (omega (arith, h.0), omega (arith, h.1))
above_more n m k l (Have frames t) a b h = (omega (arith, h.0), omega (arith, h.1))
above_more n m k l (HavePower frames t) a b h = (omega (arith, h.0), omega (arith, h.1))
above_more n m k l (Greater frames at left) a b h = (omega (arith, h.0), omega (arith, h.1))
above_more n m k l (Inside frames expected) a b h = (omega (arith, h.0), omega (arith, h.1))
above_more n m k l (InNote frames at c w) a b h = (omega (arith, h.0), omega (arith, h.1))
above_more n m k l (InType frames at s) a b h = (omega (arith, h.0), omega (arith, h.1))

-- both measures over the same frames
both_up : (frames : List Frame) (h k m l : ℕ) → h ≤ k → m ≤ l → (least_over frames h ≤ least_over frames k) × (notes_over frames m ≤ notes_over frames l)
both_up frames h k m l a b = (least_up frames h k a, notes_up frames m l b)

may_up : (frames : List Frame) (rank n m : ℕ) (st : State) → Above n m st → Above n m (if_may frames rank st)
may_up frames rank n m st h =
    elim (cases_lt rank (top_bound frames)) [
      | inl lt ↦ rw lt-ltb h
      | inr le ↦ rw le-ltb tt
    ]

empty_up : (frames : List Frame) → Above (least_over frames 1) (notes_over frames 0) (empty_list frames)
empty_up (InItem at [] ∷ InBracket p ∷ frames) = both_up frames (max 0 (max 0 1 + 1) + 1) 3 (max 0 (max 0 0)) 1 (omega arith) (omega arith)
empty_up _ = tt

begin_up : (frames : List Frame) (what : ExprToken) (at : ℕ) → Above (least_over frames 1) (notes_over frames 0) (begin frames what at)
begin_up frames (name x) at = (omega arith, omega arith)
begin_up frames (number c) at = (omega arith, omega arith)
begin_up frames (truth b) at = (omega arith, omega arith)
begin_up frames (mark symbol.LeftParen) at = both_up frames 1 (max 0 1 + 1) 0 (max 0 0) (omega arith) (omega arith)
begin_up frames (mark symbol.LeftBracket) at = both_up frames 1 (max 0 1 + 1) 0 (max 0 0) (omega arith) (omega arith)
begin_up frames (mark symbol.RightBracket) at = empty_up frames
begin_up frames (mark symbol.LeftBrace) at = both_up frames 1 (max 0 1 + 1) 0 0 (omega arith) (omega arith)
begin_up frames (word keyword.Let) at = may_up frames 9 (least_over frames 1) (notes_over frames 0) (Inside frames (LetBinder at)) (both_up frames 1 2 0 0 (omega arith) (omega arith))
begin_up frames (word keyword.If) at = may_up frames 9 (least_over frames 1) (notes_over frames 0) (Need (InTest at ∷ frames)) (both_up frames 1 (max 1 1 + 1) 0 (max 0 0) (omega arith) (omega arith))
begin_up frames (word keyword.Match) at =
    may_up frames 9 (least_over frames 1) (notes_over frames 0) (Need (InMatched at ∷ frames)) (both_up frames 1 (max 1 1 + 1) 0 (max 0 0) (omega arith) (omega arith))
begin_up frames (word keyword.Not) at = may_up frames 1 (least_over frames 1) (notes_over frames 0) (Need (InNot at ∷ frames)) (both_up frames 1 (max 0 1 + 1) 0 (max 0 0) (omega arith) (omega arith))
begin_up frames (word keyword.Pown) at = may_up frames 1 (least_over frames 1) (notes_over frames 0) (Need (InPown at ∷ frames)) (both_up frames 1 (max 0 1 + 1) 0 (max 0 0) (omega arith) (omega arith))
begin_up frames (operator (between.Arith arith_of.Sub)) at =
    may_up frames 2 (least_over frames 1) (notes_over frames 0) (Need (InNegate at ∷ frames)) (both_up frames 1 (max 0 1 + 1) 0 (max 0 0) (omega arith) (omega arith))
begin_up frames _ at = tt

at_least_up : (frames : List Frame) (place : ℕ) (left : ExprSyntax) (glued : Bool)
    → Above (expr_least (Greater frames place left)) (notes_least (Greater frames place left)) (cond glued (Need (InRight place (between.Compare compare.Ge) left ∷ frames)) Refused)
at_least_up frames place left true = both_up frames (max (expr_height left) 1 + 1) (max (expr_height left) 1 + 1) (notes_in left) (max (notes_in left) 0) (omega arith) (omega arith)
at_least_up frames place left false = tt

greater_then_up : (frames : List Frame) (place : ℕ) (left : ExprSyntax) (what : ExprToken) (at : ℕ) (glued : Bool)
    → Above (expr_least (Greater frames place left)) (notes_least (Greater frames place left)) (after_greater frames place left what at glued)
greater_then_up frames place left (operator (between.Compare compare.Eq)) at glued = at_least_up frames place left glued
greater_then_up frames place left what at glued =
    let b = both_up frames (max (expr_height left) 1 + 1) (max (expr_height left) 1 + 1) (notes_in left) (max (notes_in left) 0) (omega arith) (omega arith) in
    let inner : List Frame = InRight place (between.Compare compare.Gt) left ∷ frames in
    above_more (expr_least (Greater frames place left)) (notes_least (Greater frames place left)) (least_over inner 1) (notes_over inner 0) (begin inner what at) b.0 b.1 (begin_up inner what at)

abbrev AboveIn : ℕ → ℕ → Option (List Frame) → Type 0
AboveIn n m (Some frames) = (n ≤ least_over frames 1) × (m ≤ notes_over frames 0)
AboveIn n m None = Unit {0}

first_up : (at : ℕ) (f : List ℕ) (frames : List Frame) → AboveIn (least_over frames 1) (notes_over frames 0) (cond (ltb 1 (top_bound frames)) (Some (InArgument at f [] ∷ frames)) None)
first_up at f frames =
    elim (cases_lt 1 (top_bound frames)) [
      | inl may ↦ rw lt-ltb (both_up frames 1 (max 0 1 + 1) 0 (max 0 0) (omega arith) (omega arith))
      | inr not ↦ rw le-ltb tt
    ]

argument_up : (frames : List Frame) (t : ExprSyntax) → AboveIn (least_over frames (expr_height t)) (notes_over frames (notes_in t)) (argument frames t)
argument_up (InArgument at f before ∷ frames) t =
    let e = tallest_last before t in
    let old : List ExprSyntax = before ++ t ∷ [] in
    both_up frames (max (tallest_expr (exprs_in_order before)) (expr_height t) + 1) (max (tallest_expr (exprs_in_order old)) 1 + 1) (max (notes_in_all (exprs_in_order before)) (notes_in t))
    (max (notes_in_all (exprs_in_order old)) 0) (omega (arith, e.0)) (omega (arith, e.1))
argument_up [] (name_syntax at f) = first_up at f []
argument_up (frame ∷ frames) (name_syntax at f) = first_up at f (frame ∷ frames)
argument_up _ _ = tt

begin_in_up : (o : Option (List Frame)) (what : ExprToken) (at n m : ℕ) → AboveIn n m o → Above n m (begin_in o what at)
begin_in_up (Some frames) what at n m h = above_more n m (least_over frames 1) (notes_over frames 0) (begin frames what at) h.0 h.1 (begin_up frames what at)
begin_in_up None what at n m h = tt

argues_up : (frames : List Frame) (t : ExprSyntax) (what : ExprToken) (at : ℕ) → Above (least_over frames (expr_height t)) (notes_over frames (notes_in t)) (begin_in (argument frames t) what at)
argues_up frames t what at = begin_in_up (argument frames t) what at (least_over frames (expr_height t)) (notes_over frames (notes_in t)) (argument_up frames t)

-- ---- after what has ended

infix_up : (sign : Infix) (at : ℕ) (st : State) → Above (expr_least st) (notes_least st) (infix_after sign at st)
infix_up sign at (Have frames t) =
    may_up frames (infix_rank sign) (least_over frames (expr_height t)) (notes_over frames (notes_in t)) (Need (InRight at sign t ∷ frames))
    (both_up frames (expr_height t) (max (expr_height t) 1 + 1) (notes_in t) (max (notes_in t) 0) (omega arith) (omega arith))
infix_up sign at (Need frames) = tt
infix_up sign at (HavePower frames t) = tt
infix_up sign at (Greater frames p l) = tt
infix_up sign at (Inside frames p) = tt
infix_up sign at (InNote frames p c n) = tt
infix_up sign at (InType frames p n) = tt
infix_up sign at Refused = tt

greater_up : (at : ℕ) (st : State) → Above (expr_least st) (notes_least st) (greater_after at st)
greater_up at (Have frames t) =
    may_up frames 6 (least_over frames (expr_height t)) (notes_over frames (notes_in t)) (Greater frames at t)
    (both_up frames (expr_height t) (max (expr_height t) 1 + 1) (notes_in t) (notes_in t) (omega arith) (omega arith))
greater_up at (Need frames) = tt
greater_up at (HavePower frames t) = tt
greater_up at (Greater frames p l) = tt
greater_up at (Inside frames p) = tt
greater_up at (InNote frames p c n) = tt
greater_up at (InType frames p n) = tt
greater_up at Refused = tt

close_up : (st : State) → Above (expr_least st) (notes_least st) (close_after st)
close_up (Have (InBracket at ∷ frames) t) = both_up frames (max 0 (expr_height t) + 1) (expr_height t + 1) (max 0 (notes_in t)) (notes_in t) (omega arith) (omega arith)
close_up _ = tt

list_up : (st : State) → Above (expr_least st) (notes_least st) (list_after st)
list_up (Have (InItem at before ∷ frames) t) =
    let e = height_filled (InItem at before) t in
    both_up frames (max (side (InItem at before)) (expr_height t) + 1) (expr_height (filled (InItem at before) t)) (max (notes_side (InItem at before)) (notes_in t)) (notes_in (filled (InItem at before) t))
    (omega (arith, e.0)) (omega (arith, e.1))
list_up _ = tt

record_up : (st : State) → Above (expr_least st) (notes_least st) (record_after st)
record_up (Have (InField at before place x ∷ frames) t) =
    let f : Frame = InField at before place x in
    let e = height_filled f t in
    both_up frames (max (side f) (expr_height t) + 1) (expr_height (filled f t)) (max (notes_side f) (notes_in t)) (notes_in (filled f t)) (omega (arith, e.0)) (omega (arith, e.1))
record_up _ = tt

semi_up : (st : State) → Above (expr_least st) (notes_least st) (semi_after st)
semi_up (Have (InItem at before ∷ frames) t) =
    let e = tallest_last before t in
    let f : Frame = InItem at (before ++ t ∷ []) in
    both_up frames (max (tallest_expr (exprs_in_order before)) (expr_height t) + 1) (max (side f) 1 + 1) (max (notes_in_all (exprs_in_order before)) (notes_in t)) (max (notes_side f) 0) (omega (arith, e.0))
    (omega (arith, e.1))
semi_up (Have (InField at before place x ∷ frames) t) =
    let e = field_last before place x t in
    let p : Expected = FieldName at (with_field before place x t) in
    both_up frames (max (tallest_field (fields_in_order before)) (expr_height t) + 1) (expected_least p) (max (notes_in_fields (fields_in_order before)) (notes_in t)) (expected_notes p) (omega (arith, e.0))
    (omega (arith, e.1))
semi_up _ = tt

in_up : (st : State) → Above (expr_least st) (notes_least st) (in_after st)
in_up (Have (InValue at x ∷ frames) t) = both_up frames (max 1 (expr_height t) + 1) (max (expr_height t) 1 + 1) (max 0 (notes_in t)) (max (notes_in t) 0) (omega arith) (omega arith)
in_up _ = tt

then_up : (st : State) → Above (expr_least st) (notes_least st) (then_after st)
then_up (Have (InTest at ∷ frames) t) = both_up frames (max 1 (expr_height t) + 1) (max (max (expr_height t) 1) 1 + 1) (max 0 (notes_in t)) (max (notes_in t) 0) (omega arith) (omega arith)
then_up _ = tt

else_up : (st : State) → Above (expr_least st) (notes_least st) (else_after st)
else_up (Have (InThen at c ∷ frames) t) =
    both_up frames (max (max (expr_height c) 1) (expr_height t) + 1) (max (max (expr_height c) (expr_height t)) 1 + 1) (max (notes_in c) (notes_in t)) (max (max (notes_in c) (notes_in t)) 0)
    (omega arith) (omega arith)
else_up _ = tt

with_up : (st : State) → Above (expr_least st) (notes_least st) (with_after st)
with_up (Have (InMatched at ∷ frames) t) = both_up frames (max 1 (expr_height t) + 1) (max (expr_height t) 1 + 1) (max 0 (notes_in t)) (notes_in t) (omega arith) (omega arith)
with_up _ = tt

bar_up : (st : State) → Above (expr_least st) (notes_least st) (bar_after st)
bar_up (Have (InEmptyArm at l ∷ frames) t) =
    both_up frames (max (max (expr_height l) 1) (expr_height t) + 1) (max (expr_height l) (max (expr_height t) 1) + 1) (max (notes_in l) (notes_in t)) (max (notes_in l) (notes_in t)) (omega arith) (omega arith)
bar_up _ = tt

ended_up : (limit : ℕ) (frames : List Frame) (t : ExprSyntax) (st : State) → limit < 10 → Above (expr_least (reduce limit frames t)) (notes_least (reduce limit frames t)) st
    → Above (least_over frames (expr_height t)) (notes_over frames (notes_in t)) st
ended_up limit frames t st small h =
    let r = reduce_least frames limit t small in
    subst (λ n. Above n (notes_over frames (notes_in t)) st) r.0 (subst (λ m. Above (expr_least (reduce limit frames t)) m st) r.1 h)

left_small : (sign : Infix) → left_limit sign < 10
left_small sign = omega (arith, infix_low sign)

signed_up : (sign : Infix) (frames : List Frame) (t : ExprSyntax) (at : ℕ) → Above (least_over frames (expr_height t)) (notes_over frames (notes_in t)) (infix_after sign at (reduce (left_limit sign) frames t))
signed_up sign frames t at =
    ended_up (left_limit sign) frames t (infix_after sign at (reduce (left_limit sign) frames t)) (left_small sign) (infix_up sign at (reduce (left_limit sign) frames t))

less_up : (frames : List Frame) (t : ExprSyntax) (glued : Bool) (at : ℕ) → Above (least_over frames (expr_height t)) (notes_over frames (notes_in t)) (less_after frames t glued at)
less_up frames t false at = signed_up (between.Compare compare.Lt) frames t at
less_up frames (number_syntax p c None) true at = (omega arith, omega arith)
less_up frames t true at = signed_up (between.Compare compare.Lt) frames t at

-- the power of `pown`
number_up : (frames : List Frame) (t : ExprSyntax) (c : Frac) (at : ℕ) (power : Option ℕ) → Above (least_over frames (expr_height t)) (notes_over frames (notes_in t)) (number_after frames t c at power)
number_up (InPown p ∷ frames) t c at None = tt
number_up (InPown p ∷ frames) t c at (Some n) = both_up frames (max 0 (expr_height t) + 1) (expr_height t + 1) (max 0 (notes_in t)) (notes_in t) (omega arith) (omega arith)
number_up frames t c at power = argues_up frames t (number c) at

bracket_up : (frames : List Frame) (t : ExprSyntax) (at : ℕ) → Above (least_over frames (expr_height t)) (notes_over frames (notes_in t)) (bracket_after frames t at)
bracket_up (InPown p ∷ frames) t at = both_up frames (max 0 (expr_height t) + 1) (expr_height t + 1) (max 0 (notes_in t)) (notes_in t) (omega arith) (omega arith)
bracket_up frames t at = argues_up frames t (mark symbol.LeftParen) at

dot_up : (frames : List Frame) (t : ExprSyntax) (at : ℕ) (b : Bool) → Above (least_over frames (expr_height t)) (notes_over frames (notes_in t)) (cond b Refused (Inside frames (DotName at t)))
dot_up frames t at true = tt
dot_up frames t at false = both_up frames (expr_height t) (expr_height t + 1) (notes_in t) (notes_in t) (omega arith) (omega arith)

after_up : (frames : List Frame) (t : ExprSyntax) (what : ExprToken) (at : ℕ) (glued : Bool) (power : Option ℕ) → Above (least_over frames (expr_height t)) (notes_over frames (notes_in t)) (after frames t what at glued power)
after_up frames t (name x) at glued power = argues_up frames t (name x) at
after_up frames t (number c) at glued power = number_up frames t c at power
after_up frames t (truth b) at glued power = argues_up frames t (truth b) at
after_up frames t (mark symbol.LeftParen) at glued power = bracket_up frames t at
after_up frames t (mark symbol.LeftBracket) at glued power = argues_up frames t (mark symbol.LeftBracket) at
after_up frames t (mark symbol.LeftBrace) at glued power = argues_up frames t (mark symbol.LeftBrace) at
after_up frames t (mark symbol.Dot) at glued power = dot_up frames t at (is_power t)
after_up frames t (mark symbol.RightParen) at glued power = ended_up 9 frames t (close_after (reduce 9 frames t)) (omega arith) (close_up (reduce 9 frames t))
after_up frames t (mark symbol.RightBracket) at glued power = ended_up 9 frames t (list_after (reduce 9 frames t)) (omega arith) (list_up (reduce 9 frames t))
after_up frames t (mark symbol.RightBrace) at glued power = ended_up 9 frames t (record_after (reduce 9 frames t)) (omega arith) (record_up (reduce 9 frames t))
after_up frames t (mark symbol.Semicolon) at glued power = ended_up 9 frames t (semi_after (reduce 9 frames t)) (omega arith) (semi_up (reduce 9 frames t))
after_up frames t (word keyword.In) at glued power = ended_up 9 frames t (in_after (reduce 9 frames t)) (omega arith) (in_up (reduce 9 frames t))
after_up frames t (word keyword.Then) at glued power = ended_up 9 frames t (then_after (reduce 9 frames t)) (omega arith) (then_up (reduce 9 frames t))
after_up frames t (word keyword.Else) at glued power = ended_up 9 frames t (else_after (reduce 9 frames t)) (omega arith) (else_up (reduce 9 frames t))
after_up frames t (word keyword.With) at glued power = ended_up 9 frames t (with_after (reduce 9 frames t)) (omega arith) (with_up (reduce 9 frames t))
after_up frames t (mark symbol.Bar) at glued power = ended_up 9 frames t (bar_after (reduce 9 frames t)) (omega arith) (bar_up (reduce 9 frames t))
after_up frames t (operator (between.Compare compare.Lt)) at glued power = less_up frames t glued at
after_up frames t (operator (between.Compare compare.Gt)) at glued power = ended_up 5 frames t (greater_after at (reduce 5 frames t)) (omega arith) (greater_up at (reduce 5 frames t))
after_up frames t (operator (between.Compare compare.Ge)) at glued power = tt
after_up frames t (operator (between.Compare compare.Le)) at glued power = signed_up (between.Compare compare.Le) frames t at
after_up frames t (operator (between.Compare compare.Eq)) at glued power = signed_up (between.Compare compare.Eq) frames t at
after_up frames t (operator (between.Compare compare.Ne)) at glued power = signed_up (between.Compare compare.Ne) frames t at
after_up frames t (operator between.Or) at glued power = signed_up between.Or frames t at
after_up frames t (operator between.And) at glued power = signed_up between.And frames t at
after_up frames t (operator between.Cons) at glued power = signed_up between.Cons frames t at
after_up frames t (operator (between.Arith op)) at glued power = signed_up (between.Arith op) frames t at
after_up frames t _ at glued power = tt

power_up : (frames : List Frame) (t : ExprSyntax) (what : ExprToken) (at : ℕ) (glued : Bool) (power : Option ℕ) → Above (least_over frames (expr_height t)) (notes_over frames (notes_in t)) (power_after frames t what at glued power)
power_up frames t (operator (between.Compare compare.Lt)) at true power = tt
power_up frames t what at glued power = after_up frames t what at glued power

same_up : (frames : List Frame) (h m : ℕ) → (least_over frames h ≤ least_over frames h) × (notes_over frames m ≤ notes_over frames m)
same_up frames h m = (omega arith, omega arith)

inside_up : (frames : List Frame) (expected : Expected) (what : ExprToken) (at : ℕ) (power : Option ℕ) → Above (least_over frames (expected_least expected)) (notes_over frames (expected_notes expected)) (inside frames expected what at power)
inside_up frames (LetBinder p) (name x) at power = same_up frames 2 0
inside_up frames (LetBinder p) hole at power = same_up frames 2 0
inside_up frames (LetEqual p x) (operator (between.Compare compare.Eq)) at power = both_up frames 2 (max 1 1 + 1) 0 (max 0 0) (omega arith) (omega arith)
inside_up frames (FieldName p before) (name x) at power = same_up frames (expected_least (FieldName p before)) (expected_notes (FieldName p before))
inside_up frames (FieldEqual p before place x) (operator (between.Compare compare.Eq)) at power =
    both_up frames (max (tallest_field (fields_in_order before)) 1 + 1) (max (tallest_field (fields_in_order before)) 1 + 1) (notes_in_fields (fields_in_order before))
    (max (notes_in_fields (fields_in_order before)) 0) (omega arith) (omega arith)
inside_up frames (DotName p e) (name x) at power = same_up frames (expr_height e + 1) (notes_in e)
inside_up frames (ArmBegin p l) (mark symbol.Bar) at power = same_up frames (max (expr_height l) 1 + 1) (notes_in l)
inside_up frames (ArmBegin p l) (mark symbol.LeftBracket) at power = same_up frames (max (expr_height l) 1 + 1) (notes_in l)
inside_up frames (ArmOpen p l) (mark symbol.LeftBracket) at power = same_up frames (max (expr_height l) 1 + 1) (notes_in l)
inside_up frames (ArmClose p l) (mark symbol.RightBracket) at power = same_up frames (max (expr_height l) 1 + 1) (notes_in l)
inside_up frames (ArmArrow p l) (mark symbol.Arrow) at power = both_up frames (max (expr_height l) 1 + 1) (max (max (expr_height l) 1) 1 + 1) (notes_in l) (max (notes_in l) 0) (omega arith) (omega arith)
inside_up frames (HeadBinder p l a) (name x) at power = same_up frames (expected_least (HeadBinder p l a)) (max (notes_in l) (notes_in a))
inside_up frames (HeadBinder p l a) hole at power = same_up frames (expected_least (HeadBinder p l a)) (max (notes_in l) (notes_in a))
inside_up frames (HeadCons p l a x) (operator between.Cons) at power = same_up frames (expected_least (HeadCons p l a x)) (max (notes_in l) (notes_in a))
inside_up frames (TailBinder p l a x) (name y) at power = same_up frames (expected_least (TailBinder p l a x)) (max (notes_in l) (notes_in a))
inside_up frames (TailBinder p l a x) hole at power = same_up frames (expected_least (TailBinder p l a x)) (max (notes_in l) (notes_in a))
inside_up frames (TailArrow p l a x y) (mark symbol.Arrow) at power =
    both_up frames (max (expr_height l) (max (expr_height a) 1) + 1) (max (max (expr_height l) (expr_height a)) 1 + 1) (max (notes_in l) (notes_in a)) (max (max (notes_in l) (notes_in a)) 0) (omega arith)
    (omega arith)
inside_up frames (NilColon p) (mark symbol.Colon) at power = both_up frames 3 3 1 (0 + 1) (omega arith) (omega arith)
inside_up frames (PownMinus p e) (operator (between.Arith arith_of.Sub)) at power = same_up frames (expr_height e + 1) (notes_in e)
inside_up frames (PownDigits p e) what at (Some n) = same_up frames (expr_height e + 1) (notes_in e)
inside_up frames (PownDigits p e) what at None = tt
inside_up frames (PownClose p e k) (mark symbol.RightParen) at power = same_up frames (expr_height e + 1) (notes_in e)
inside_up frames _ _ at power = tt

-- ---- notes and types

note_end_up : (frames : List Frame) (at : ℕ) (c : Frac) (n : NoteState) (found : Option NoteSyntax) (what : ExprToken) → note_finish n ≡ found
    → Above (least_over frames 1) (notes_over frames (note_least n)) (note_ends frames at c found what)
note_end_up frames at c n (Some m) (operator (between.Compare compare.Gt)) e =
    let same = note_found_height n m e in both_up frames 1 1 (note_least n) (note_height m) (omega arith) (omega (arith, same))
note_end_up frames at c n _ _ e = tt

type_end_up : (frames : List Frame) (at : ℕ) (n : TypeState) (found : Option TypeSyntax) (what : ExprToken) → type_finish n ≡ found
    → Above (least_over frames 3) (notes_over frames (type_least n)) (type_ends frames at found what)
type_end_up frames at n (Some t) (mark symbol.RightParen) e =
    let same = type_found_height n t e in both_up frames 3 3 (type_least n) (whole_height t) (omega arith) (omega (arith, same))
type_end_up frames at n _ _ e = tt

note_goes_up : (frames : List Frame) (at : ℕ) (c : Frac) (low : ℕ) (n : NoteState) (over : State) → (n ≢ NoNote → low ≤ note_least n) → Above (least_over frames 1) (notes_over frames low) over
    → Above (least_over frames 1) (notes_over frames low) (note_goes frames at c n over)
note_goes_up frames at c low NeedNote over up h = both_up frames 1 1 low (note_least NeedNote) (omega arith) (up (λ e. cc))
note_goes_up frames at c low (HaveHole p) over up h = both_up frames 1 1 low (note_least (HaveHole p)) (omega arith) (up (λ e. cc))
note_goes_up frames at c low (InUnit p u) over up h = both_up frames 1 1 low (note_least (InUnit p u)) (omega arith) (up (λ e. cc))
note_goes_up frames at c low NoNote over up h = h

type_goes_up : (frames : List Frame) (at low : ℕ) (n : TypeState) (over : State) → (n ≢ NoType → low ≤ type_least n) → Above (least_over frames 3) (notes_over frames low) over
    → Above (least_over frames 3) (notes_over frames low) (type_goes frames at n over)
type_goes_up frames at low (NeedType depth) over up h = both_up frames 3 3 low (type_least (NeedType depth)) (omega arith) (up (λ e. cc))
type_goes_up frames at low (HaveType depth t) over up h = both_up frames 3 3 low (type_least (HaveType depth t)) (omega arith) (up (λ e. cc))
type_goes_up frames at low (InTypeNote depth owner w) over up h = both_up frames 3 3 low (type_least (InTypeNote depth owner w)) (omega arith) (up (λ e. cc))
type_goes_up frames at low NoType over up h = h

step_above : (st : State) (x : Token) → Above (expr_least st) (notes_least st) (step st x)
step_above (Need frames) x = begin_up frames (expr_token x.kind) x.start
step_above (Have frames t) x = after_up frames t (expr_token x.kind) x.start x.glued (power_in (unit_token x.kind))
step_above (HavePower frames t) x = power_up frames t (expr_token x.kind) x.start x.glued (power_in (unit_token x.kind))
step_above (Greater frames p left) x = greater_then_up frames p left (expr_token x.kind) x.start x.glued
step_above (Inside frames expected) x = inside_up frames expected (expr_token x.kind) x.start (power_in (unit_token x.kind))
step_above (InNote frames p c n) x =
    note_goes_up frames p c (note_least n) (note_step n x) (note_ends frames p c (note_finish n) (expr_token x.kind)) (λ goes. note_up n x goes)
    (note_end_up frames p c n (note_finish n) (expr_token x.kind) refl)
step_above (InType frames p n) x =
    type_goes_up frames p (type_least n) (type_step n x) (type_ends frames p (type_finish n) (expr_token x.kind)) (λ goes. type_up n x goes)
    (type_end_up frames p n (type_finish n) (expr_token x.kind) refl)
step_above Refused x = tt

above_whole : (n m : ℕ) (st : State) → st ≢ Refused → Above n m st → max n m ≤ whole_least st
above_whole n m (Need frames) ok h = omega (arith, h.0, h.1)
above_whole n m (Have frames t) ok h = omega (arith, h.0, h.1)
above_whole n m (HavePower frames t) ok h = omega (arith, h.0, h.1)
above_whole n m (Greater frames at left) ok h = omega (arith, h.0, h.1)
above_whole n m (Inside frames expected) ok h = omega (arith, h.0, h.1)
above_whole n m (InNote frames at c w) ok h = omega (arith, h.0, h.1)
above_whole n m (InType frames at s) ok h = omega (arith, h.0, h.1)
above_whole n m Refused ok h = absurd (ok refl)

-- a token never lowers it
pub expr_up : (st : State) (x : Token) → step st x ≢ Refused → whole_least st ≤ whole_least (step st x)
expr_up st x ok = above_whole (expr_least st) (notes_least st) (step st x) ok (step_above st x)

-- ---- what is found has it

whole_found_height : (st : State) (t : ExprSyntax) → whole st ≡ Some t → (expr_height t ≡ expr_least st) × (notes_in t ≡ notes_least st)
whole_found_height (Have [] u) t e = let same : u ≡ t = cc in (ap expr_height (sym same), ap notes_in (sym same))
whole_found_height (Have (frame ∷ frames) u) t e = absurd cc
whole_found_height (HavePower frames u) t e = absurd cc
whole_found_height (Need frames) t e = absurd cc
whole_found_height (Greater frames p l) t e = absurd cc
whole_found_height (Inside frames p) t e = absurd cc
whole_found_height (InNote frames p c n) t e = absurd cc
whole_found_height (InType frames p n) t e = absurd cc
whole_found_height Refused t e = absurd cc

pub expr_found_height : (st : State) (t : ExprSyntax) → finish st ≡ Some t → whole_expr_height t ≡ whole_least st
expr_found_height (Have frames u) t e =
    let w = whole_found_height (reduce 9 frames u) t e in
    let r = reduce_least frames 9 u (omega arith) in
    omega (arith, w.0, w.1, r.0, r.1)
expr_found_height (HavePower frames u) t e =
    let w = whole_found_height (reduce 9 frames u) t e in
    let r = reduce_least frames 9 u (omega arith) in
    omega (arith, w.0, w.1, r.0, r.1)
expr_found_height (Need frames) t e = absurd cc
expr_found_height (Greater frames p l) t e = absurd cc
expr_found_height (Inside frames p) t e = absurd cc
expr_found_height (InNote frames p c n) t e = absurd cc
expr_found_height (InType frames p n) t e = absurd cc
expr_found_height Refused t e = absurd cc
