-- What an expression that was begun can be completed to: the least tokens that end what is open.
use Rattle.std.proofs.Common.{◌≢◌, pos, neg_ℤ, ◌<◌, List, [], ◌∷◌, ◌++◌, true, false, Some, None, refl, sym, subst, append_assoc, arith, inl, inr}
use Rattle.um_syntax.specs.declared.token.Token.{Token}
use Rattle.um_syntax.specs.declared.token.Kind.{Kind}
use Rattle.um_syntax.specs.declared.token.Kind.TheVariants as kind
use Rattle.um_vocabulary.specs.declared.vocabulary.Keyword.{Keyword}
use Rattle.um_vocabulary.specs.declared.vocabulary.Keyword.TheVariants as keyword
use Rattle.um_vocabulary.specs.declared.vocabulary.Symbol.{Symbol}
use Rattle.um_vocabulary.specs.declared.vocabulary.Symbol.TheVariants as symbol
use Rattle.um_tree.specs.declared.expression.Sign.TheVariants as compare
use Rattle.um_tree.specs.RawTree.{bool_syntax, BinderSyntax, ExprSyntax, truth_syntax, number_syntax, pown_syntax, let_syntax, if_syntax, match_syntax, nil_syntax, list_syntax, fields_syntax, field_syntax, bracket_expr_syntax, exprs_in_order, fields_in_order}
use Rattle.um_unit_texts.proofs.UnitLaws.{zero_number}
use Rattle.um_types.proofs.NoteLaws.{NoteSpellsPrefix, note_ending, note_completed, note_can_end}
use Rattle.um_types.proofs.TypeSound.{TypeSpellsPrefix}
use Rattle.um_types.proofs.TypeLaws.{type_ending, type_completed, type_can_end}
use Rattle.um_operands.specs.declared.infix.Infix.TheVariants as between
use Rattle.um_operands.specs.Ranks.{infix_text}
use Rattle.um_operands.specs.ExprBegun.{Frame, InBracket, InItem, InField, InValue, InBody, InTest, InThen, InElse, InMatched, InEmptyArm, InFullArm, InNegate, InNot, InPown, InRight, InArgument, bound_of, top_bound, plug, with_field, Expected, LetBinder, LetEqual, FieldName, FieldEqual, DotName, ArmBegin, ArmOpen, ArmClose, ArmArrow, HeadBinder, HeadCons, TailBinder, TailArrow, NilColon, PownMinus, PownDigits, PownClose, State, Need, Have, HavePower, Greater, Inside, InNote, InType, Refused}
use Rattle.um_expr.specs.ExprGrammar.{Spells, rank, Fits}
use Rattle.um_expr.proofs.ExprEnds.{infix_low}
use Rattle.um_expr.proofs.ExprPrefixes.{FrameReads, FramesRead, FrameFits, FramesFit, ExpectedReads, ExpectedFits, SpellsPrefix, focus_low, items_last, items_fit, fields_last, fields_fit, bound_positive, plug_reads, plug_fits}

abbrev token_of : Kind → Token
token_of k = record { kind = k; start = 0; end = 0; glued = false }

abbrev word : Keyword → Token
word k = token_of (kind.Word k)

abbrev sign : Symbol → Token
sign k = token_of (kind.Sign k)

-- `true` for an operand that is missing, `_` for a binder, a name without letters, and the power 0
abbrev pub operand_token : Token
operand_token = word keyword.True

abbrev hole_token : Token
hole_token = token_of kind.Hole

abbrev name_token : Token
name_token = token_of (kind.Name [])

abbrev zero_token : Token
zero_token = token_of (kind.Number zero_number true false)

abbrev pub operand : ExprSyntax
operand = truth_syntax 0 true

abbrev unnamed : BinderSyntax
unnamed = record { at = 0; name = None }

-- from the head of the full arm on
abbrev after_head : List Token
after_head = sign symbol.ColonColon ∷ hole_token ∷ sign symbol.Arrow ∷ operand_token ∷ []

abbrev from_bar : List Token
from_bar = sign symbol.Bar ∷ hole_token ∷ after_head

-- from the `]` of the empty arm on
abbrev from_close : List Token
from_close = sign symbol.RightBracket ∷ sign symbol.Arrow ∷ operand_token ∷ from_bar

-- the least that ends a frame, and the expression then
abbrev pub ending : Frame → List Token
ending (InBracket at) = sign symbol.RightParen ∷ []
ending (InItem at before) = sign symbol.RightBracket ∷ []
ending (InField at before place x) = sign symbol.RightBrace ∷ []
ending (InValue at x) = word keyword.In ∷ operand_token ∷ []
ending (InTest at) = word keyword.Then ∷ operand_token ∷ word keyword.Else ∷ operand_token ∷ []
ending (InThen at c) = word keyword.Else ∷ operand_token ∷ []
ending (InMatched at) = word keyword.With ∷ sign symbol.LeftBracket ∷ from_close
ending (InEmptyArm at l) = from_bar
ending (InBody at x v) = []
ending (InElse at c a) = []
ending (InFullArm at l a x y) = []
ending (InNegate at) = []
ending (InNot at) = []
ending (InPown at) = zero_token ∷ []
ending (InRight at s left) = []
ending (InArgument at f before) = []

abbrev pub filled : Frame → ExprSyntax → ExprSyntax
filled (InBracket at) t = bracket_expr_syntax at t
filled (InItem at before) t = list_syntax at (exprs_in_order (before ++ t ∷ []))
filled (InField at before place x) t = fields_syntax at (fields_in_order (with_field before place x t))
filled (InValue at x) t = let_syntax at x t operand
filled (InTest at) t = if_syntax at t operand operand
filled (InThen at c) t = if_syntax at c t operand
filled (InMatched at) t = match_syntax at t operand unnamed unnamed operand
filled (InEmptyArm at l) t = match_syntax at l t unnamed unnamed operand
filled (InBody at x v) t = plug (InBody at x v) t
filled (InElse at c a) t = plug (InElse at c a) t
filled (InFullArm at l a x y) t = plug (InFullArm at l a x y) t
filled (InNegate at) t = plug (InNegate at) t
filled (InNot at) t = plug (InNot at) t
filled (InPown at) t = pown_syntax at t (pos 0)
filled (InRight at s left) t = plug (InRight at s left) t
filled (InArgument at f before) t = plug (InArgument at f before) t

abbrev pub endings : List Frame → List Token
endings [] = []
endings (frame ∷ frames) = ending frame ++ endings frames

abbrev pub all_filled : List Frame → ExprSyntax → ExprSyntax
all_filled [] t = t
all_filled (frame ∷ frames) t = all_filled frames (filled frame t)

-- the least that ends a run of tokens, and the expression then
abbrev pub expected_ending : Expected → List Token
expected_ending (LetBinder at) = hole_token ∷ sign symbol.Equal ∷ operand_token ∷ word keyword.In ∷ operand_token ∷ []
expected_ending (LetEqual at x) = sign symbol.Equal ∷ operand_token ∷ word keyword.In ∷ operand_token ∷ []
expected_ending (FieldName at before) = name_token ∷ sign symbol.Equal ∷ operand_token ∷ sign symbol.RightBrace ∷ []
expected_ending (FieldEqual at before place x) = sign symbol.Equal ∷ operand_token ∷ sign symbol.RightBrace ∷ []
expected_ending (DotName at e) = name_token ∷ []
expected_ending (ArmBegin at l) = sign symbol.LeftBracket ∷ from_close
expected_ending (ArmOpen at l) = sign symbol.LeftBracket ∷ from_close
expected_ending (ArmClose at l) = from_close
expected_ending (ArmArrow at l) = sign symbol.Arrow ∷ operand_token ∷ from_bar
expected_ending (HeadBinder at l a) = hole_token ∷ after_head
expected_ending (HeadCons at l a x) = after_head
expected_ending (TailBinder at l a x) = hole_token ∷ sign symbol.Arrow ∷ operand_token ∷ []
expected_ending (TailArrow at l a x y) = sign symbol.Arrow ∷ operand_token ∷ []
expected_ending (NilColon at) = sign symbol.Colon ∷ word keyword.Bool ∷ sign symbol.RightParen ∷ []
expected_ending (PownMinus at e) = sign symbol.Minus ∷ zero_token ∷ sign symbol.RightParen ∷ []
expected_ending (PownDigits at e) = zero_token ∷ sign symbol.RightParen ∷ []
expected_ending (PownClose at e k) = sign symbol.RightParen ∷ []

abbrev pub expected_filled : Expected → ExprSyntax
expected_filled (LetBinder at) = let_syntax at unnamed operand operand
expected_filled (LetEqual at x) = let_syntax at x operand operand
expected_filled (FieldName at before) = fields_syntax at (fields_in_order (with_field before 0 [] operand))
expected_filled (FieldEqual at before place x) = fields_syntax at (fields_in_order (with_field before place x operand))
expected_filled (DotName at e) = field_syntax at 0 [] e
expected_filled (ArmBegin at l) = match_syntax at l operand unnamed unnamed operand
expected_filled (ArmOpen at l) = match_syntax at l operand unnamed unnamed operand
expected_filled (ArmClose at l) = match_syntax at l operand unnamed unnamed operand
expected_filled (ArmArrow at l) = match_syntax at l operand unnamed unnamed operand
expected_filled (HeadBinder at l a) = match_syntax at l a unnamed unnamed operand
expected_filled (HeadCons at l a x) = match_syntax at l a x unnamed operand
expected_filled (TailBinder at l a x) = match_syntax at l a x unnamed operand
expected_filled (TailArrow at l a x y) = match_syntax at l a x y operand
expected_filled (NilColon at) = nil_syntax at bool_syntax
expected_filled (PownMinus at e) = pown_syntax at e (neg_ℤ (pos 0))
expected_filled (PownDigits at e) = pown_syntax at e (neg_ℤ (pos 0))
expected_filled (PownClose at e k) = pown_syntax at e k

abbrev pub expr_ending : State → List Token
expr_ending (Need frames) = operand_token ∷ endings frames
expr_ending (Have frames t) = endings frames
expr_ending (HavePower frames t) = endings frames
expr_ending (Greater frames at left) = operand_token ∷ endings frames
expr_ending (Inside frames expected) = expected_ending expected ++ endings frames
expr_ending (InNote frames at c n) = note_ending n ++ sign symbol.Greater ∷ endings frames
expr_ending (InType frames at s) = type_ending s ++ sign symbol.RightParen ∷ endings frames
expr_ending Refused = []

abbrev pub expr_completed : State → ExprSyntax
expr_completed (Need frames) = all_filled frames operand
expr_completed (Have frames t) = all_filled frames t
expr_completed (HavePower frames t) = all_filled frames t
expr_completed (Greater frames at left) = all_filled frames (infix_text at (between.Compare compare.Gt) left operand)
expr_completed (Inside frames expected) = all_filled frames (expected_filled expected)
expr_completed (InNote frames at c n) = all_filled frames (number_syntax at c (Some (note_completed n)))
expr_completed (InType frames at s) = all_filled frames (nil_syntax at (type_completed s))
expr_completed Refused = operand

-- ---- the tokens

filled_reads : (frame : Frame) (t : ExprSyntax) (tokens mid rest : List Token) → FrameReads frame tokens mid → Spells t mid (ending frame ++ rest) → Spells (filled frame t) tokens rest
filled_reads (InBracket at) t tokens mid rest f s = (mid, sign symbol.RightParen ∷ rest, f, s, (sign symbol.RightParen, refl, refl))
filled_reads (InItem at before) t tokens mid rest f s = (f.0, sign symbol.RightBracket ∷ rest, f.1, items_last before t f.0 mid (sign symbol.RightBracket ∷ rest) f.2 s, (sign symbol.RightBracket, refl, refl))
filled_reads (InField at before place x) t tokens mid rest f s =
    (f.0, sign symbol.RightBrace ∷ rest, f.3, fields_last before place x t f.0 f.1 f.2 mid (sign symbol.RightBrace ∷ rest) f.4 f.5 f.6 s, (sign symbol.RightBrace, refl, refl))
filled_reads (InValue at x) t tokens mid rest f s =
    (f.0, f.1, mid, word keyword.In ∷ operand_token ∷ rest, operand_token ∷ rest, f.2, f.3, f.4, s, (word keyword.In, refl, refl), (operand_token, refl, refl, refl))
filled_reads (InTest at) t tokens mid rest f s = (
  mid,
  word keyword.Then ∷ operand_token ∷ word keyword.Else ∷ operand_token ∷ rest,
  operand_token ∷ word keyword.Else ∷ operand_token ∷ rest,
  word keyword.Else ∷ operand_token ∷ rest,
  operand_token ∷ rest,
  f,
  s,
  (word keyword.Then, refl, refl),
  (operand_token, refl, refl, refl),
  (word keyword.Else, refl, refl),
  (operand_token, refl, refl, refl),
)
filled_reads (InThen at c) t tokens mid rest f s =
    (f.0, f.1, mid, word keyword.Else ∷ operand_token ∷ rest, operand_token ∷ rest, f.2, f.3, f.4, s, (word keyword.Else, refl, refl), (operand_token, refl, refl, refl))
filled_reads (InMatched at) t tokens mid rest f s = (
  mid,
  word keyword.With ∷ sign symbol.LeftBracket ∷ (from_close ++ rest),
  operand_token ∷ (from_bar ++ rest),
  from_bar ++ rest,
  operand_token ∷ rest,
  f,
  s,
  (
    sign symbol.LeftBracket ∷ (from_close ++ rest),
    sign symbol.LeftBracket ∷ (from_close ++ rest),
    from_close ++ rest,
    sign symbol.Arrow ∷ operand_token ∷ (from_bar ++ rest),
    (word keyword.With, refl, refl),
    inl refl,
    (sign symbol.LeftBracket, refl, refl),
    (sign symbol.RightBracket, refl, refl),
    (sign symbol.Arrow, refl, refl),
  ),
  (operand_token, refl, refl, refl),
  (
    hole_token ∷ (after_head ++ rest),
    after_head ++ rest,
    hole_token ∷ sign symbol.Arrow ∷ operand_token ∷ rest,
    sign symbol.Arrow ∷ operand_token ∷ rest,
    (sign symbol.Bar, refl, refl),
    (hole_token, refl, refl, refl),
    (sign symbol.ColonColon, refl, refl),
    (hole_token, refl, refl, refl),
    (sign symbol.Arrow, refl, refl),
  ),
  (operand_token, refl, refl, refl),
)
filled_reads (InEmptyArm at l) t tokens mid rest f s = (
  f.0,
  f.1,
  mid,
  from_bar ++ rest,
  operand_token ∷ rest,
  f.2,
  f.3,
  f.4,
  s,
  (
    hole_token ∷ (after_head ++ rest),
    after_head ++ rest,
    hole_token ∷ sign symbol.Arrow ∷ operand_token ∷ rest,
    sign symbol.Arrow ∷ operand_token ∷ rest,
    (sign symbol.Bar, refl, refl),
    (hole_token, refl, refl, refl),
    (sign symbol.ColonColon, refl, refl),
    (hole_token, refl, refl, refl),
    (sign symbol.Arrow, refl, refl),
  ),
  (operand_token, refl, refl, refl),
)
filled_reads (InBody at x v) t tokens mid rest f s = plug_reads (InBody at x v) t tokens mid rest (omega arith) f s
filled_reads (InElse at c a) t tokens mid rest f s = plug_reads (InElse at c a) t tokens mid rest (omega arith) f s
filled_reads (InFullArm at l a x y) t tokens mid rest f s = plug_reads (InFullArm at l a x y) t tokens mid rest (omega arith) f s
filled_reads (InNegate at) t tokens mid rest f s = plug_reads (InNegate at) t tokens mid rest (omega arith) f s
filled_reads (InNot at) t tokens mid rest f s = plug_reads (InNot at) t tokens mid rest (omega arith) f s
filled_reads (InPown at) t tokens mid rest f s = (mid, zero_token ∷ rest, f, s, inl (0, refl, (zero_token, refl, refl)))
filled_reads (InRight at o left) t tokens mid rest f s = plug_reads (InRight at o left) t tokens mid rest (omega (arith, infix_low o)) f s
filled_reads (InArgument at g before) t tokens mid rest f s = plug_reads (InArgument at g before) t tokens mid rest (omega arith) f s

first_two : (A B C D : Type 0) → A × B × C × D → A × B
first_two A B C D p = (p.0, p.1)

filled_fits : (frame : Frame) (frames : List Frame) (t : ExprSyntax) → FrameFits frame frames → Fits t → rank t < bound_of frame → Fits (filled frame t) × (rank (filled frame t) < top_bound frames)
filled_fits (InBracket at) frames t f fits lt = (fits, bound_positive frames)
filled_fits (InItem at before) frames t f fits lt = (items_fit before t f fits, bound_positive frames)
filled_fits (InField at before place x) frames t f fits lt = (fields_fit before place x t f fits, bound_positive frames)
filled_fits (InValue at x) frames t f fits lt = ((fits, tt), f)
filled_fits (InTest at) frames t f fits lt = ((fits, tt, tt), f)
filled_fits (InThen at c) frames t f fits lt = ((f.1, fits, tt), f.0)
filled_fits (InMatched at) frames t f fits lt = ((fits, tt, tt), f)
filled_fits (InEmptyArm at l) frames t f fits lt = ((f.1, fits, tt), f.0)
filled_fits (InBody at x v) frames t f fits lt = let p = plug_fits (InBody at x v) frames t (omega arith) f fits lt in (p.0, p.1)
filled_fits (InElse at c a) frames t f fits lt = let p = plug_fits (InElse at c a) frames t (omega arith) f fits lt in (p.0, p.1)
filled_fits (InFullArm at l a x y) frames t f fits lt = let p = plug_fits (InFullArm at l a x y) frames t (omega arith) f fits lt in (p.0, p.1)
filled_fits (InNegate at) frames t f fits lt = let p = plug_fits (InNegate at) frames t (omega arith) f fits lt in (p.0, p.1)
filled_fits (InNot at) frames t f fits lt = let p = plug_fits (InNot at) frames t (omega arith) f fits lt in (p.0, p.1)
filled_fits (InPown at) frames t f fits lt = ((omega (arith, lt), fits), f)
filled_fits (InRight at s left) frames t f fits lt = let p = plug_fits (InRight at s left) frames t (omega (arith, infix_low s)) f fits lt in (p.0, p.1)
filled_fits (InArgument at g before) frames t f fits lt = let p = plug_fits (InArgument at g before) frames t (omega arith) f fits lt in (p.0, p.1)

ends : (frames : List Frame) (t : ExprSyntax) (tokens mid rest : List Token) → FramesRead frames tokens mid → Spells t mid (endings frames ++ rest) → FramesFit frames → Fits t → rank t < top_bound frames
    → Spells (all_filled frames t) tokens rest × Fits (all_filled frames t)
ends [] t tokens mid rest r s f fits lt = (subst (λ w. Spells t w rest) (sym r) s, fits)
ends (frame ∷ frames) t tokens mid rest r s f fits lt =
    let p = filled_fits frame frames t f.0 fits lt in
    let q : Spells t mid (ending frame ++ (endings frames ++ rest)) = subst (λ w. Spells t mid w) (append_assoc (ending frame) (endings frames) rest) s in
    ends frames (filled frame t) tokens r.0 rest r.1 (filled_reads frame t r.0 mid (endings frames ++ rest) r.2 q) f.1 p.0 p.1

expected_reads : (expected : Expected) (tokens rest : List Token) → ExpectedReads expected tokens (expected_ending expected ++ rest) → Spells (expected_filled expected) tokens rest
expected_reads (LetBinder at) tokens rest f =
    filled_reads (InValue at unnamed) operand tokens (operand_token ∷ word keyword.In ∷ operand_token ∷ rest) rest
    (hole_token ∷ sign symbol.Equal ∷ operand_token ∷ word keyword.In ∷ operand_token ∷ rest, sign symbol.Equal ∷ operand_token ∷ word keyword.In ∷ operand_token ∷ rest, f, (hole_token, refl, refl, refl), (sign symbol.Equal, refl, refl))
    (operand_token, refl, refl, refl)
expected_reads (LetEqual at x) tokens rest f =
    filled_reads (InValue at x) operand tokens (operand_token ∷ word keyword.In ∷ operand_token ∷ rest) rest (f.0, sign symbol.Equal ∷ operand_token ∷ word keyword.In ∷ operand_token ∷ rest, f.1, f.2, (sign symbol.Equal, refl, refl))
    (operand_token, refl, refl, refl)
expected_reads (FieldName at before) tokens rest f =
    filled_reads (InField at before 0 []) operand tokens (operand_token ∷ sign symbol.RightBrace ∷ rest) rest
    (f.0, name_token ∷ sign symbol.Equal ∷ operand_token ∷ sign symbol.RightBrace ∷ rest, sign symbol.Equal ∷ operand_token ∷ sign symbol.RightBrace ∷ rest, f.1, f.2, (name_token, refl, refl, refl), (sign symbol.Equal, refl, refl)) (operand_token, refl, refl, refl)
expected_reads (FieldEqual at before place x) tokens rest f =
    filled_reads (InField at before place x) operand tokens (operand_token ∷ sign symbol.RightBrace ∷ rest) rest (f.0, f.1, sign symbol.Equal ∷ operand_token ∷ sign symbol.RightBrace ∷ rest, f.2, f.3, f.4, (sign symbol.Equal, refl, refl))
    (operand_token, refl, refl, refl)
expected_reads (DotName at e) tokens rest f = (f.0, name_token ∷ rest, f.1, f.2, (name_token, refl, refl, refl))
expected_reads (ArmBegin at l) tokens rest f =
    filled_reads (InEmptyArm at l) operand tokens (operand_token ∷ (from_bar ++ rest)) rest (
      f.0,
      f.1,
      f.2,
      f.3,
      (
        sign symbol.LeftBracket ∷ (from_close ++ rest),
        sign symbol.LeftBracket ∷ (from_close ++ rest),
        from_close ++ rest,
        sign symbol.Arrow ∷ operand_token ∷ (from_bar ++ rest),
        f.4,
        inl refl,
        (sign symbol.LeftBracket, refl, refl),
        (sign symbol.RightBracket, refl, refl),
        (sign symbol.Arrow, refl, refl),
      ),
    )
    (operand_token, refl, refl, refl)
expected_reads (ArmOpen at l) tokens rest f =
    filled_reads (InEmptyArm at l) operand tokens (operand_token ∷ (from_bar ++ rest)) rest (
      f.0,
      f.1,
      f.3,
      f.4,
      (
        f.2,
        sign symbol.LeftBracket ∷ (from_close ++ rest),
        from_close ++ rest,
        sign symbol.Arrow ∷ operand_token ∷ (from_bar ++ rest),
        f.5,
        inr f.6,
        (sign symbol.LeftBracket, refl, refl),
        (sign symbol.RightBracket, refl, refl),
        (sign symbol.Arrow, refl, refl),
      ),
    )
    (operand_token, refl, refl, refl)
expected_reads (ArmClose at l) tokens rest f =
    let a = f.4 in
    filled_reads (InEmptyArm at l) operand tokens (operand_token ∷ (from_bar ++ rest)) rest
    (f.0, f.1, f.2, f.3, (a.0, a.1, from_close ++ rest, sign symbol.Arrow ∷ operand_token ∷ (from_bar ++ rest), a.2, a.3, a.4, (sign symbol.RightBracket, refl, refl), (sign symbol.Arrow, refl, refl))) (operand_token, refl, refl, refl)
expected_reads (ArmArrow at l) tokens rest f =
    let a = f.5 in
    filled_reads (InEmptyArm at l) operand tokens (operand_token ∷ (from_bar ++ rest)) rest
    (f.0, f.1, f.3, f.4, (a.0, a.1, f.2, sign symbol.Arrow ∷ operand_token ∷ (from_bar ++ rest), a.2, a.3, a.4, f.6, (sign symbol.Arrow, refl, refl))) (operand_token, refl, refl, refl)
expected_reads (HeadBinder at l a) tokens rest f =
    plug_reads (InFullArm at l a unnamed unnamed) operand tokens (operand_token ∷ rest) rest (omega arith) (
      f.0,
      f.1,
      f.2,
      f.3,
      (
        hole_token ∷ (after_head ++ rest),
        after_head ++ rest,
        hole_token ∷ sign symbol.Arrow ∷ operand_token ∷ rest,
        sign symbol.Arrow ∷ operand_token ∷ rest,
        f.4,
        (hole_token, refl, refl, refl),
        (sign symbol.ColonColon, refl, refl),
        (hole_token, refl, refl, refl),
        (sign symbol.Arrow, refl, refl),
      ),
    )
    (operand_token, refl, refl, refl)
expected_reads (HeadCons at l a x) tokens rest f =
    plug_reads (InFullArm at l a x unnamed) operand tokens (operand_token ∷ rest) rest (omega arith) (
      f.0,
      f.1,
      f.3,
      f.4,
      (f.2, after_head ++ rest, hole_token ∷ sign symbol.Arrow ∷ operand_token ∷ rest, sign symbol.Arrow ∷ operand_token ∷ rest, f.5, f.6, (sign symbol.ColonColon, refl, refl), (hole_token, refl, refl, refl), (sign symbol.Arrow, refl, refl)),
    )
    (operand_token, refl, refl, refl)
expected_reads (TailBinder at l a x) tokens rest f =
    plug_reads (InFullArm at l a x unnamed) operand tokens (operand_token ∷ rest) rest (omega arith)
    (f.0, f.1, f.4, f.5, (f.2, f.3, hole_token ∷ sign symbol.Arrow ∷ operand_token ∷ rest, sign symbol.Arrow ∷ operand_token ∷ rest, f.6, f.7, f.8, (hole_token, refl, refl, refl), (sign symbol.Arrow, refl, refl)))
    (operand_token, refl, refl, refl)
expected_reads (TailArrow at l a x y) tokens rest f =
    plug_reads (InFullArm at l a x y) operand tokens (operand_token ∷ rest) rest (omega arith)
    (f.0, f.1, f.5, f.6, (f.2, f.3, f.4, sign symbol.Arrow ∷ operand_token ∷ rest, f.7, f.8, f.9, f.10, (sign symbol.Arrow, refl, refl))) (operand_token, refl, refl, refl)
expected_reads (NilColon at) tokens rest f =
    (f.0, f.1, sign symbol.Colon ∷ word keyword.Bool ∷ sign symbol.RightParen ∷ rest, word keyword.Bool ∷ sign symbol.RightParen ∷ rest, sign symbol.RightParen ∷ rest, f.2, f.3, f.4, (sign symbol.Colon, refl, refl), (word keyword.Bool, refl, refl), (sign symbol.RightParen, refl, refl))
expected_reads (PownMinus at e) tokens rest f =
    (f.0, f.1, f.2, f.3, inr (0, sign symbol.Minus ∷ zero_token ∷ sign symbol.RightParen ∷ rest, zero_token ∷ sign symbol.RightParen ∷ rest, sign symbol.RightParen ∷ rest, refl, f.4, (sign symbol.Minus, refl, refl), (zero_token, refl, refl), (sign symbol.RightParen, refl, refl)))
expected_reads (PownDigits at e) tokens rest f =
    (f.0, f.1, f.3, f.4, inr (0, f.2, zero_token ∷ sign symbol.RightParen ∷ rest, sign symbol.RightParen ∷ rest, refl, f.5, f.6, (zero_token, refl, refl), (sign symbol.RightParen, refl, refl)))
expected_reads (PownClose at e k) tokens rest f =
    (f.1, f.2, f.6, f.7, inr (f.0, f.3, f.4, sign symbol.RightParen ∷ rest, f.5, f.8, f.9, f.10, (sign symbol.RightParen, refl, refl)))

expected_fits : (expected : Expected) (frames : List Frame) → ExpectedFits expected frames → Fits (expected_filled expected) × (rank (expected_filled expected) < top_bound frames)
expected_fits (LetBinder at) frames f = ((tt, tt), f)
expected_fits (LetEqual at x) frames f = ((tt, tt), f)
expected_fits (FieldName at before) frames f = (fields_fit before 0 [] operand f tt, bound_positive frames)
expected_fits (FieldEqual at before expected x) frames f = (fields_fit before expected x operand f tt, bound_positive frames)
expected_fits (DotName at e) frames f = ((f.0, f.1), bound_positive frames)
expected_fits (ArmBegin at l) frames f = ((f.1, tt, tt), f.0)
expected_fits (ArmOpen at l) frames f = ((f.1, tt, tt), f.0)
expected_fits (ArmClose at l) frames f = ((f.1, tt, tt), f.0)
expected_fits (ArmArrow at l) frames f = ((f.1, tt, tt), f.0)
expected_fits (HeadBinder at l a) frames f = ((f.1, f.2, tt), f.0)
expected_fits (HeadCons at l a x) frames f = ((f.1, f.2, tt), f.0)
expected_fits (TailBinder at l a x) frames f = ((f.1, f.2, tt), f.0)
expected_fits (TailArrow at l a x y) frames f = ((f.1, f.2, tt), f.0)
expected_fits (NilColon at) frames f = (tt, bound_positive frames)
expected_fits (PownMinus at e) frames f = ((f.1, f.2), f.0)
expected_fits (PownDigits at e) frames f = ((f.1, f.2), f.0)
expected_fits (PownClose at e k) frames f = ((f.1, f.2), f.0)

-- what isn't refused can be completed
pub expr_can_end : (st : State) (tokens rest : List Token) → SpellsPrefix st tokens (expr_ending st ++ rest) → st ≢ Refused → Spells (expr_completed st) tokens rest × Fits (expr_completed st)
expr_can_end (Need frames) tokens rest h ok =
    ends frames operand tokens (operand_token ∷ (endings frames ++ rest)) rest h.0 (operand_token, refl, refl, refl) h.1 tt (bound_positive frames)
expr_can_end (Have frames t) tokens rest h ok = ends frames t tokens h.0.0 rest h.0.1 h.0.2 h.0.3 h.0.4 (focus_low frames t h.0.5).0
expr_can_end (HavePower frames t) tokens rest h ok = ends frames t tokens h.0 rest h.1 h.2 h.3 h.4 (focus_low frames t h.5).0
expr_can_end (Greater frames at left) tokens rest h ok =
    ends frames (infix_text at (between.Compare compare.Gt) left operand) tokens h.0 rest h.2 (h.1, operand_token ∷ (endings frames ++ rest), h.3, h.4, (operand_token, refl, refl, refl)) h.5
    (h.7, omega arith, h.8, tt) h.6
expr_can_end (Inside frames expected) tokens rest h ok =
    let p = expected_fits expected frames h.4 in
    let q : ExpectedReads expected h.0 (expected_ending expected ++ (endings frames ++ rest)) = subst (λ w. ExpectedReads expected h.0 w) (append_assoc (expected_ending expected) (endings frames) rest) h.2 in
    ends frames (expected_filled expected) tokens h.0 rest h.1 (expected_reads expected h.0 (endings frames ++ rest) q) h.3 p.0 p.1
expr_can_end (InNote frames at c n) tokens rest h ok =
    let behind : List Token = endings frames ++ rest in
    let p = note_can_end n h.2 (sign symbol.Greater ∷ behind) (subst (λ w. NoteSpellsPrefix n h.2 w) (append_assoc (note_ending n) (sign symbol.Greater ∷ endings frames) rest) h.6) h.8 in
    ends frames (number_syntax at c (Some (note_completed n))) tokens h.0 rest h.3 (h.1, h.4, (h.2, sign symbol.Greater ∷ behind, h.5, p.0, (sign symbol.Greater, refl, refl))) h.7 p.1 (bound_positive frames)
expr_can_end (InType frames at s) tokens rest h ok =
    let behind : List Token = endings frames ++ rest in
    let p = type_can_end s h.2 (sign symbol.RightParen ∷ behind) (subst (λ w. TypeSpellsPrefix s h.2 w) (append_assoc (type_ending s) (sign symbol.RightParen ∷ endings frames) rest) h.6) h.8 in
    let b = h.4 in
    ends frames (nil_syntax at (type_completed s)) tokens h.0 rest h.3 (b.0, b.1, h.1, h.2, sign symbol.RightParen ∷ behind, b.2, b.3, b.4, h.5, p.0, (sign symbol.RightParen, refl, refl)) h.7 p.1 (bound_positive frames)
expr_can_end Refused tokens rest h ok = absurd (ok refl)
