-- The tokens of what is open and at focus: what a state says of the tokens that were read.
use Rattle.std.proofs.Common.{◌≡◌, ◌≢◌, ℕ, pos, neg_ℤ, ◌≤◌, ◌<◌, List, [], ◌∷◌, ◌++◌, true, refl, sym, subst, arith, inl, inr, ◌⊎◌}
use Rattle.std.proofs.lemmas.Bool.{cases_lt, lt-ltb, le-ltb}
use Rattle.um_syntax.specs.declared.token.Token.{Token}
use Rattle.um_tree.specs.RawTree.{pown_syntax, BinderSyntax, ExprSyntax, FieldPart, exprs_in_order, fields_in_order}
use Rattle.um_types.specs.NoteMachine.{NoNote}
use Rattle.um_types.specs.TypeMachine.{NoType}
use Rattle.um_types.proofs.NoteLaws.{NoteSpellsPrefix}
use Rattle.um_types.proofs.TypeSound.{TypeSpellsPrefix}
use Rattle.um_vocabulary.specs.declared.vocabulary.Keyword.TheVariants as keyword
use Rattle.um_vocabulary.specs.declared.vocabulary.Symbol.TheVariants as symbol
use Rattle.um_operands.specs.declared.infix.Infix.{Infix}
use Rattle.um_operands.specs.declared.infix.Infix.TheVariants as between
use Rattle.um_operands.specs.Ranks.{infix_rank, left_limit, right_bound, infix_text}
use Rattle.um_operands.specs.ExprBegun.{Frame, InBracket, InItem, InField, InValue, InBody, InTest, InThen, InElse, InMatched, InEmptyArm, InFullArm, InNegate, InNot, InPown, InRight, InArgument, bound_of, own_rank, top_bound, plug, with_field, Expected, LetBinder, LetEqual, FieldName, FieldEqual, DotName, ArmBegin, ArmOpen, ArmClose, ArmArrow, HeadBinder, HeadCons, TailBinder, TailArrow, NilColon, PownMinus, PownDigits, PownClose, State, Need, Have, HavePower, Greater, Inside, InNote, InType, Refused, reduce}
use Rattle.um_operands.specs.ExprKinds.{is_power}
use Rattle.um_forms.specs.declared.token.ExprToken.TheVariants.{Name as name, Number as number, Word as word, Mark as mark}
use Rattle.um_forms.specs.ExprTokens.{equal, less, greater, minus, double_colon}
use Rattle.um_expr.specs.ExprGrammar.{First, FirstAt, FirstGlued, BinderSpells, InfixAt, FirstPower, EmptyArm, FullArm, Spells, AllSpell, ItemsSpell, MoreItems, FieldsSpell, MoreFields, rank, IsAny, Fits, AreAtoms, AllFit, FieldsFit}
use Rattle.um_expr.proofs.ExprEnds.{infix_low}
use Rattle.um_expr.proofs.ExprSuffixes.{Leaves, leaves_then, leaves_first, leaves_at, leaves_expr, leaves_arguments, leaves_sign, leaves_empty_arm, leaves_full_arm, NumberFree, free_more}

-- each item with the `;` after it
abbrev pub ItemsRead : List ExprSyntax → List Token → List Token → Type 0
ItemsRead [] tokens rest = tokens ≡ rest
ItemsRead (e ∷ es) tokens rest = (mid next : List Token) × Spells e tokens mid × First (mark symbol.Semicolon) mid next × ItemsRead es next rest

-- each field with the `;` after it
abbrev pub FieldsRead : List FieldPart → List Token → List Token → Type 0
FieldsRead [] tokens rest = tokens ≡ rest
FieldsRead (f ∷ fs) tokens rest =
    (sign value mid next : List Token) × FirstAt (name f.name) f.at tokens sign × First equal sign value × Spells f.part value mid × First (mark symbol.Semicolon) mid next × FieldsRead fs next rest

-- from `match` up to the `->` of the empty arm
abbrev pub MatchReads : ℕ → ExprSyntax → List Token → List Token → Type 0
MatchReads at l tokens rest = (m m' : List Token) × FirstAt (word keyword.Match) at tokens m × Spells l m m' × EmptyArm m' rest

-- from `if` up to `then`
abbrev pub TestReads : ℕ → ExprSyntax → List Token → List Token → Type 0
TestReads at c tokens rest = (t t' : List Token) × FirstAt (word keyword.If) at tokens t × Spells c t t' × First (word keyword.Then) t' rest

-- from `let` up to `=`
abbrev pub LetReads : ℕ → BinderSyntax → List Token → List Token → Type 0
LetReads at x tokens rest = (n e : List Token) × FirstAt (word keyword.Let) at tokens n × BinderSpells x n e × First equal e rest

-- `{`, fields, a name and `=`
abbrev pub FieldReads : ℕ → List FieldPart → ℕ → List ℕ → List Token → List Token → Type 0
FieldReads at before place x tokens rest =
    (a b c : List Token) × FirstAt (mark symbol.LeftBrace) at tokens a × FieldsRead before a b × FirstAt (name x) place b c × First equal c rest

-- the tokens of a frame before its open place, and then the rest
abbrev pub FrameReads : Frame → List Token → List Token → Type 0
FrameReads (InBracket at) tokens rest = FirstAt (mark symbol.LeftParen) at tokens rest
FrameReads (InItem at before) tokens rest = (a : List Token) × FirstAt (mark symbol.LeftBracket) at tokens a × ItemsRead before a rest
FrameReads (InField at before place x) tokens rest = FieldReads at before place x tokens rest
FrameReads (InValue at x) tokens rest = LetReads at x tokens rest
FrameReads (InBody at x v) tokens rest = (a b : List Token) × LetReads at x tokens a × Spells v a b × First (word keyword.In) b rest
FrameReads (InTest at) tokens rest = FirstAt (word keyword.If) at tokens rest
FrameReads (InThen at c) tokens rest = TestReads at c tokens rest
FrameReads (InElse at c a) tokens rest = (e e' : List Token) × TestReads at c tokens e × Spells a e e' × First (word keyword.Else) e' rest
FrameReads (InMatched at) tokens rest = FirstAt (word keyword.Match) at tokens rest
FrameReads (InEmptyArm at l) tokens rest = MatchReads at l tokens rest
FrameReads (InFullArm at l a x y) tokens rest = (e e' : List Token) × MatchReads at l tokens e × Spells a e e' × FullArm x y e' rest
FrameReads (InNegate at) tokens rest = FirstAt minus at tokens rest
FrameReads (InNot at) tokens rest = FirstAt (word keyword.Not) at tokens rest
FrameReads (InPown at) tokens rest = FirstAt (word keyword.Pown) at tokens rest
FrameReads (InRight at sign left) tokens rest = (mid : List Token) × Spells left tokens mid × InfixAt sign tokens at mid rest
FrameReads (InArgument at f before) tokens rest = (a : List Token) × FirstAt (name f) at tokens a × AllSpell (exprs_in_order before) a rest

abbrev pub FramesRead : List Frame → List Token → List Token → Type 0
FramesRead [] tokens rest = tokens ≡ rest
FramesRead (frame ∷ frames) tokens rest = (mid : List Token) × FramesRead frames tokens mid × FrameReads frame mid rest

-- a frame over the frames around it
abbrev pub FrameFits : Frame → List Frame → Type 0
FrameFits (InBracket at) frames = Unit {0}
FrameFits (InItem at before) frames = AllFit (exprs_in_order before)
FrameFits (InField at before place x) frames = FieldsFit (fields_in_order before)
FrameFits (InValue at x) frames = 9 < top_bound frames
FrameFits (InBody at x v) frames = (9 < top_bound frames) × Fits v
FrameFits (InTest at) frames = 9 < top_bound frames
FrameFits (InThen at c) frames = (9 < top_bound frames) × Fits c
FrameFits (InElse at c a) frames = (9 < top_bound frames) × Fits c × Fits a
FrameFits (InMatched at) frames = 9 < top_bound frames
FrameFits (InEmptyArm at l) frames = (9 < top_bound frames) × Fits l
FrameFits (InFullArm at l a x y) frames = (9 < top_bound frames) × Fits l × Fits a
FrameFits (InNegate at) frames = 2 < top_bound frames
FrameFits (InNot at) frames = 1 < top_bound frames
FrameFits (InPown at) frames = 1 < top_bound frames
FrameFits (InRight at sign left) frames = (infix_rank sign < top_bound frames) × (rank left ≤ left_limit sign) × Fits left
FrameFits (InArgument at f before) frames = (1 < top_bound frames) × AreAtoms (exprs_in_order before)

abbrev pub FramesFit : List Frame → Type 0
FramesFit [] = Unit {0}
FramesFit (frame ∷ frames) = FrameFits frame frames × FramesFit frames

-- from `with` up to `[`
abbrev pub ArmReads : List Token → List Token → Type 0
ArmReads tokens rest = (arm empty : List Token) × First (word keyword.With) tokens arm × ((arm ≡ empty) ⊎ First (mark symbol.Bar) arm empty) × First (mark symbol.LeftBracket) empty rest

-- the tokens of a run up to a place inside it
abbrev pub ExpectedReads : Expected → List Token → List Token → Type 0
ExpectedReads (LetBinder at) tokens rest = FirstAt (word keyword.Let) at tokens rest
ExpectedReads (LetEqual at x) tokens rest = (n : List Token) × FirstAt (word keyword.Let) at tokens n × BinderSpells x n rest
ExpectedReads (FieldName at before) tokens rest = (a : List Token) × FirstAt (mark symbol.LeftBrace) at tokens a × FieldsRead before a rest
ExpectedReads (FieldEqual at before place x) tokens rest = (a b : List Token) × FirstAt (mark symbol.LeftBrace) at tokens a × FieldsRead before a b × FirstAt (name x) place b rest
ExpectedReads (DotName at e) tokens rest = (mid : List Token) × Spells e tokens mid × FirstAt (mark symbol.Dot) at mid rest
ExpectedReads (ArmBegin at l) tokens rest = (m m' : List Token) × FirstAt (word keyword.Match) at tokens m × Spells l m m' × First (word keyword.With) m' rest
ExpectedReads (ArmOpen at l) tokens rest = (m m' arm : List Token) × FirstAt (word keyword.Match) at tokens m × Spells l m m' × First (word keyword.With) m' arm × First (mark symbol.Bar) arm rest
ExpectedReads (ArmClose at l) tokens rest = (m m' : List Token) × FirstAt (word keyword.Match) at tokens m × Spells l m m' × ArmReads m' rest
ExpectedReads (ArmArrow at l) tokens rest = (m m' close : List Token) × FirstAt (word keyword.Match) at tokens m × Spells l m m' × ArmReads m' close × First (mark symbol.RightBracket) close rest
ExpectedReads (HeadBinder at l a) tokens rest = (e e' : List Token) × MatchReads at l tokens e × Spells a e e' × First (mark symbol.Bar) e' rest
ExpectedReads (HeadCons at l a x) tokens rest = (e e' head : List Token) × MatchReads at l tokens e × Spells a e e' × First (mark symbol.Bar) e' head × BinderSpells x head rest
ExpectedReads (TailBinder at l a x) tokens rest =
    (e e' head cons : List Token) × MatchReads at l tokens e × Spells a e e' × First (mark symbol.Bar) e' head × BinderSpells x head cons × First double_colon cons rest
ExpectedReads (TailArrow at l a x y) tokens rest =
    (e e' head cons tail : List Token) × MatchReads at l tokens e × Spells a e e' × First (mark symbol.Bar) e' head × BinderSpells x head cons × First double_colon cons tail × BinderSpells y tail rest
ExpectedReads (NilColon at) tokens rest = (a b : List Token) × FirstAt (mark symbol.LeftParen) at tokens a × First (mark symbol.LeftBracket) a b × First (mark symbol.RightBracket) b rest
ExpectedReads (PownMinus at e) tokens rest = (a b : List Token) × FirstAt (word keyword.Pown) at tokens a × Spells e a b × First (mark symbol.LeftParen) b rest
ExpectedReads (PownDigits at e) tokens rest = (a b c : List Token) × FirstAt (word keyword.Pown) at tokens a × Spells e a b × First (mark symbol.LeftParen) b c × First minus c rest
ExpectedReads (PownClose at e k) tokens rest =
    (n : ℕ) × (a b c d : List Token) × (k ≡ neg_ℤ (pos n)) × FirstAt (word keyword.Pown) at tokens a × Spells e a b × First (mark symbol.LeftParen) b c × First minus c d × FirstPower n d rest

abbrev pub ExpectedFits : Expected → List Frame → Type 0
ExpectedFits (LetBinder at) frames = 9 < top_bound frames
ExpectedFits (LetEqual at x) frames = 9 < top_bound frames
ExpectedFits (FieldName at before) frames = FieldsFit (fields_in_order before)
ExpectedFits (FieldEqual at before place x) frames = FieldsFit (fields_in_order before)
ExpectedFits (DotName at e) frames = (rank e ≡ 0) × Fits e
ExpectedFits (ArmBegin at l) frames = (9 < top_bound frames) × Fits l
ExpectedFits (ArmOpen at l) frames = (9 < top_bound frames) × Fits l
ExpectedFits (ArmClose at l) frames = (9 < top_bound frames) × Fits l
ExpectedFits (ArmArrow at l) frames = (9 < top_bound frames) × Fits l
ExpectedFits (HeadBinder at l a) frames = (9 < top_bound frames) × Fits l × Fits a
ExpectedFits (HeadCons at l a x) frames = (9 < top_bound frames) × Fits l × Fits a
ExpectedFits (TailBinder at l a x) frames = (9 < top_bound frames) × Fits l × Fits a
ExpectedFits (TailArrow at l a x y) frames = (9 < top_bound frames) × Fits l × Fits a
ExpectedFits (NilColon at) frames = Unit {0}
ExpectedFits (PownMinus at e) frames = (1 < top_bound frames) × (rank e ≡ 0) × Fits e
ExpectedFits (PownDigits at e) frames = (1 < top_bound frames) × (rank e ≡ 0) × Fits e
ExpectedFits (PownClose at e k) frames = (1 < top_bound frames) × (rank e ≡ 0) × Fits e

-- what is at focus is an atom, or a whole power, which stands where it may
abbrev pub AtFocus : List Frame → ExprSyntax → Type 0
AtFocus frames t = (rank t ≡ 0) ⊎ ((is_power t ≡ true) × (1 < top_bound frames))

-- it stands after the frames
abbrev pub FocusReads : List Frame → ExprSyntax → List Token → List Token → Type 0
FocusReads frames t tokens rest = (mid : List Token) × FramesRead frames tokens mid × Spells t mid rest × FramesFit frames × Fits t × AtFocus frames t

-- the tokens up to the rest are those of the state, and what stands in it fits
abbrev pub SpellsPrefix : State → List Token → List Token → Type 0
SpellsPrefix (Need frames) tokens rest = FramesRead frames tokens rest × FramesFit frames
SpellsPrefix (Have frames t) tokens rest = (f : FocusReads frames t tokens rest) × (is_power t ≡ true → NumberFree f.0 rest)
SpellsPrefix (HavePower frames t) tokens rest = FocusReads frames t tokens rest
SpellsPrefix (Greater frames at left) tokens rest =
    (mid next : List Token) × FramesRead frames tokens mid × Spells left mid next × FirstAt greater at next rest × FramesFit frames × (6 < top_bound frames) × (rank left ≤ 5) × Fits left
SpellsPrefix (Inside frames expected) tokens rest = (mid : List Token) × FramesRead frames tokens mid × ExpectedReads expected mid rest × FramesFit frames × ExpectedFits expected frames
SpellsPrefix (InNote frames at c n) tokens rest =
    (mid sign next : List Token) × FramesRead frames tokens mid × FirstAt (number c) at mid sign × FirstGlued less sign next × NoteSpellsPrefix n next rest × FramesFit frames × (n ≢ NoNote)
SpellsPrefix (InType frames at s) tokens rest =
    (mid colon next : List Token) × FramesRead frames tokens mid × ExpectedReads (NilColon at) mid colon × First (mark symbol.Colon) colon next × TypeSpellsPrefix s next rest × FramesFit frames × (s ≢ NoType)
SpellsPrefix Refused tokens rest = Unit {0}

-- the same once all up to a limit has ended; what was at focus before begins the tokens `last`
abbrev pub SpellsPrefixUpTo : ℕ → List Token → State → List Token → List Token → Type 0
SpellsPrefixUpTo limit last (Have frames t) tokens rest =
    (mid : List Token) × FramesRead frames tokens mid × Spells t mid rest × FramesFit frames × Fits t × (rank t < top_bound frames) × (rank t ≤ limit) × (NumberFree last rest → NumberFree mid rest)
SpellsPrefixUpTo limit last _ tokens rest = ⊥

-- ---- one part more

pub items_next : (before : List ExprSyntax) (t : ExprSyntax) (tokens mid next rest : List Token) → ItemsRead before tokens mid → Spells t mid next → First (mark symbol.Semicolon) next rest → ItemsRead (before ++ t ∷ []) tokens rest
items_next [] t tokens mid next rest f s c = (next, rest, subst (λ w. Spells t w next) (sym f) s, c, refl)
items_next (e ∷ es) t tokens mid next rest f s c = (f.0, f.1, f.2, f.3, items_next es t f.1 mid next rest f.4 s c)

more_items : (before : List ExprSyntax) (t : ExprSyntax) (tokens next mid rest : List Token) → First (mark symbol.Semicolon) tokens next → ItemsRead before next mid → Spells t mid rest
    → MoreItems (exprs_in_order (before ++ t ∷ [])) tokens rest
more_items [] t tokens next mid rest c f s = (next, rest, c, subst (λ w. Spells t w rest) (sym f) s, refl)
more_items (e ∷ es) t tokens next mid rest c f s = (next, f.0, c, f.2, more_items es t f.0 f.1 mid rest f.3 f.4 s)

pub items_last : (before : List ExprSyntax) (t : ExprSyntax) (tokens mid rest : List Token) → ItemsRead before tokens mid → Spells t mid rest → ItemsSpell (exprs_in_order (before ++ t ∷ [])) tokens rest
items_last [] t tokens mid rest f s = (rest, subst (λ w. Spells t w rest) (sym f) s, refl)
items_last (e ∷ es) t tokens mid rest f s = (f.0, f.2, more_items es t f.0 f.1 mid rest f.3 f.4 s)

pub items_fit : (before : List ExprSyntax) (t : ExprSyntax) → AllFit (exprs_in_order before) → Fits t → AllFit (exprs_in_order (before ++ t ∷ []))
items_fit [] t h fits = (fits, tt)
items_fit (e ∷ es) t h fits = (h.0, items_fit es t h.1 fits)

pub fields_next : (before : List FieldPart) (place : ℕ) (x : List ℕ) (t : ExprSyntax) (tokens mid sign value last rest : List Token) → FieldsRead before tokens mid → FirstAt (name x) place mid sign → First equal sign value
    → Spells t value last → First (mark symbol.Semicolon) last rest → FieldsRead (with_field before place x t) tokens rest
fields_next [] place x t tokens mid sign value last rest f n e s c = (sign, value, last, rest, subst (λ w. FirstAt (name x) place w sign) (sym f) n, e, s, c, refl)
fields_next (g ∷ gs) place x t tokens mid sign value last rest f n e s c =
    (f.0, f.1, f.2, f.3, f.4, f.5, f.6, f.7, fields_next gs place x t f.3 mid sign value last rest f.8 n e s c)

more_fields_read : (before : List FieldPart) (place : ℕ) (x : List ℕ) (t : ExprSyntax) (tokens next mid sign value rest : List Token) → First (mark symbol.Semicolon) tokens next → FieldsRead before next mid
    → FirstAt (name x) place mid sign → First equal sign value → Spells t value rest → MoreFields (fields_in_order (with_field before place x t)) tokens rest
more_fields_read [] place x t tokens next mid sign value rest c f n e s = (next, sign, value, rest, c, subst (λ w. FirstAt (name x) place w sign) (sym f) n, e, s, refl)
more_fields_read (g ∷ gs) place x t tokens next mid sign value rest c f n e s =
    (next, f.0, f.1, f.2, c, f.4, f.5, f.6, more_fields_read gs place x t f.2 f.3 mid sign value rest f.7 f.8 n e s)

pub fields_last : (before : List FieldPart) (place : ℕ) (x : List ℕ) (t : ExprSyntax) (tokens mid sign value rest : List Token) → FieldsRead before tokens mid → FirstAt (name x) place mid sign → First equal sign value
    → Spells t value rest → FieldsSpell (fields_in_order (with_field before place x t)) tokens rest
fields_last [] place x t tokens mid sign value rest f n e s = (sign, value, rest, subst (λ w. FirstAt (name x) place w sign) (sym f) n, e, s, refl)
fields_last (g ∷ gs) place x t tokens mid sign value rest f n e s = (f.0, f.1, f.2, f.4, f.5, f.6, more_fields_read gs place x t f.2 f.3 mid sign value rest f.7 f.8 n e s)

pub fields_fit : (before : List FieldPart) (place : ℕ) (x : List ℕ) (t : ExprSyntax) → FieldsFit (fields_in_order before) → Fits t → FieldsFit (fields_in_order (with_field before place x t))
fields_fit [] place x t h fits = (fits, tt)
fields_fit (f ∷ fs) place x t h fits = (h.0, fields_fit fs place x t h.1 fits)

pub arguments_last : (before : List ExprSyntax) (t : ExprSyntax) (tokens mid rest : List Token) → AllSpell (exprs_in_order before) tokens mid → Spells t mid rest → AllSpell (exprs_in_order (before ++ t ∷ [])) tokens rest
arguments_last [] t tokens mid rest e s = (rest, subst (λ w. Spells t w rest) (sym e) s, refl)
arguments_last (u ∷ us) t tokens mid rest h s = (h.0, h.1, arguments_last us t h.0 mid rest h.2 s)

pub atoms_last : (before : List ExprSyntax) (t : ExprSyntax) → AreAtoms (exprs_in_order before) → Fits t → rank t ≡ 0 → AreAtoms (exprs_in_order (before ++ t ∷ []))
atoms_last [] t h fits low = (low, fits, tt)
atoms_last (u ∷ us) t h fits low = (h.0, h.1, atoms_last us t h.2 fits low)

pub any_last : (before : List ExprSyntax) (t : ExprSyntax) → IsAny (exprs_in_order (before ++ t ∷ []))
any_last [] t = tt
any_last (u ∷ us) t = tt

-- ---- ending what ends

pub infix_spells : (sign : Infix) (at : ℕ) (a b : ExprSyntax) (tokens mid next rest : List Token) → Spells a tokens mid → InfixAt sign tokens at mid next → Spells b next rest → Spells (infix_text at sign a b) tokens rest
infix_spells between.Or at a b tokens mid next rest s f r = (mid, next, s, f, r)
infix_spells between.And at a b tokens mid next rest s f r = (mid, next, s, f, r)
infix_spells (between.Compare sign) at a b tokens mid next rest s f r = (mid, next, s, f, r)
infix_spells between.Cons at a b tokens mid next rest s f r = (mid, next, s, f, r)
infix_spells (between.Arith op) at a b tokens mid next rest s f r = (mid, next, s, f, r)

pub infix_fits : (sign : Infix) (at : ℕ) (a b : ExprSyntax) → rank a ≤ left_limit sign → rank b < right_bound sign → Fits a → Fits b
    → Fits (infix_text at sign a b) × (rank (infix_text at sign a b) ≡ infix_rank sign)
infix_fits between.Or at a b le lt f g = ((le, lt, f, g), refl)
infix_fits between.And at a b le lt f g = ((le, lt, f, g), refl)
infix_fits (between.Compare sign) at a b le lt f g = ((le, lt, f, g), refl)
infix_fits between.Cons at a b le lt f g = ((le, lt, f, g), refl)
infix_fits (between.Arith op) at a b le lt f g = ((le, lt, f, g), refl)

pub plug_reads : (frame : Frame) (t : ExprSyntax) (tokens mid rest : List Token) → own_rank frame < 10 → FrameReads frame tokens mid → Spells t mid rest → Spells (plug frame t) tokens rest
plug_reads (InBody at x v) t tokens mid rest h f s = (f.2.0, f.2.1, f.0, f.1, mid, f.2.2, f.2.3, f.2.4, f.3, f.4, s)
plug_reads (InElse at c a) t tokens mid rest h f s = (f.2.0, f.2.1, f.0, f.1, mid, f.2.2, f.2.3, f.2.4, f.3, f.4, s)
plug_reads (InFullArm at l a x y) t tokens mid rest h f s = (f.2.0, f.2.1, f.0, f.1, mid, f.2.2, f.2.3, f.2.4, f.3, f.4, s)
plug_reads (InNegate at) t tokens mid rest h f s = (mid, f, s)
plug_reads (InNot at) t tokens mid rest h f s = (mid, f, s)
plug_reads (InRight at sign left) t tokens mid rest h f s = infix_spells sign at left t tokens f.0 mid rest f.1 f.2 s
plug_reads (InArgument at g before) t tokens mid rest h f s = (f.0, f.1, arguments_last before t f.0 mid rest f.2 s)
plug_reads (InBracket at) t tokens mid rest h f s = absurd (omega arith)
plug_reads (InItem at before) t tokens mid rest h f s = absurd (omega arith)
plug_reads (InField at before place x) t tokens mid rest h f s = absurd (omega arith)
plug_reads (InValue at x) t tokens mid rest h f s = absurd (omega arith)
plug_reads (InPown at) t tokens mid rest h f s = absurd (omega arith)
plug_reads (InTest at) t tokens mid rest h f s = absurd (omega arith)
plug_reads (InThen at c) t tokens mid rest h f s = absurd (omega arith)
plug_reads (InMatched at) t tokens mid rest h f s = absurd (omega arith)
plug_reads (InEmptyArm at l) t tokens mid rest h f s = absurd (omega arith)

-- a frame that needs no token to end leaves the tokens after it
plug_leaves : (frame : Frame) (frames : List Frame) (tokens rest : List Token) → own_rank frame < 10 → FrameFits frame frames → FrameReads frame tokens rest → Leaves tokens rest
plug_leaves (InBody at x v) frames tokens rest h f s =
    let l = s.2 in leaves_then (leaves_at l.2) (leaves_then (leaves_at l.3) (leaves_then (leaves_first l.4) (leaves_then (leaves_expr v s.0 s.1 s.3 f.1) (leaves_first s.4))))
plug_leaves (InElse at c a) frames tokens rest h f s =
    let t = s.2 in leaves_then (leaves_at t.2) (leaves_then (leaves_expr c t.0 t.1 t.3 f.1) (leaves_then (leaves_first t.4) (leaves_then (leaves_expr a s.0 s.1 s.3 f.2) (leaves_first s.4))))
plug_leaves (InFullArm at l a x y) frames tokens rest h f s =
    let m = s.2 in leaves_then (leaves_at m.2)
    (leaves_then (leaves_expr l m.0 m.1 m.3 f.1) (leaves_then (leaves_empty_arm m.1 s.0 m.4) (leaves_then (leaves_expr a s.0 s.1 s.3 f.2) (leaves_full_arm x y s.1 rest s.4))))
plug_leaves (InNegate at) frames tokens rest h f s = leaves_at s
plug_leaves (InNot at) frames tokens rest h f s = leaves_at s
plug_leaves (InRight at sign left) frames tokens rest h f s = leaves_then (leaves_expr left tokens s.0 s.1 f.2) (leaves_sign sign tokens at s.0 rest s.2)
plug_leaves (InArgument at g before) frames tokens rest h f s = leaves_then (leaves_at s.1) (leaves_arguments (exprs_in_order before) s.0 rest s.2 f.1)
plug_leaves (InPown at) frames tokens rest h f s = absurd (omega arith)
plug_leaves (InBracket at) frames tokens rest h f s = absurd (omega arith)
plug_leaves (InItem at before) frames tokens rest h f s = absurd (omega arith)
plug_leaves (InField at before place x) frames tokens rest h f s = absurd (omega arith)
plug_leaves (InValue at x) frames tokens rest h f s = absurd (omega arith)
plug_leaves (InTest at) frames tokens rest h f s = absurd (omega arith)
plug_leaves (InThen at c) frames tokens rest h f s = absurd (omega arith)
plug_leaves (InMatched at) frames tokens rest h f s = absurd (omega arith)
plug_leaves (InEmptyArm at l) frames tokens rest h f s = absurd (omega arith)

pub plug_fits : (frame : Frame) (frames : List Frame) (t : ExprSyntax) → own_rank frame < 10 → FrameFits frame frames → Fits t → rank t < bound_of frame
    → Fits (plug frame t) × (rank (plug frame t) < top_bound frames) × (rank (plug frame t) ≡ own_rank frame)
plug_fits (InBody at x v) frames t h f fits lt = ((f.1, fits), f.0, refl)
plug_fits (InElse at c a) frames t h f fits lt = ((f.1, f.2, fits), f.0, refl)
plug_fits (InFullArm at l a x y) frames t h f fits lt = ((f.1, f.2, fits), f.0, refl)
plug_fits (InNegate at) frames t h f fits lt = ((omega arith, fits), f, refl)
plug_fits (InNot at) frames t h f fits lt = ((omega arith, fits), f, refl)
plug_fits (InRight at sign left) frames t h f fits lt =
    let p = infix_fits sign at left t f.1 lt f.2 fits in (p.0, omega (arith, p.1, f.0), p.1)
plug_fits (InArgument at g before) frames t h f fits lt = ((any_last before t, atoms_last before t f.1 fits (omega arith)), f.0, refl)
plug_fits (InPown at) frames t h f fits lt = absurd (omega arith)
plug_fits (InBracket at) frames t h f fits lt = absurd (omega arith)
plug_fits (InItem at before) frames t h f fits lt = absurd (omega arith)
plug_fits (InField at before place x) frames t h f fits lt = absurd (omega arith)
plug_fits (InValue at x) frames t h f fits lt = absurd (omega arith)
plug_fits (InTest at) frames t h f fits lt = absurd (omega arith)
plug_fits (InThen at c) frames t h f fits lt = absurd (omega arith)
plug_fits (InMatched at) frames t h f fits lt = absurd (omega arith)
plug_fits (InEmptyArm at l) frames t h f fits lt = absurd (omega arith)

reduce_sound : (frames : List Frame) (limit : ℕ) (t : ExprSyntax) (last tokens mid rest : List Token) → limit < 10 → FramesRead frames tokens mid → Spells t mid rest → FramesFit frames → Fits t
    → rank t < top_bound frames → rank t ≤ limit → (NumberFree last rest → NumberFree mid rest) → SpellsPrefixUpTo limit last (reduce limit frames t) tokens rest
reduce_sound [] limit t last tokens mid rest small r s f fits lt le e = (mid, r, s, f, fits, lt, le, e)
reduce_sound (frame ∷ frames) limit t last tokens mid rest small r s f fits lt le e =
    elim (cases_lt limit (own_rank frame)) [
      | inl keeps ↦ rw lt-ltb (mid, r, s, f, fits, lt, le, e)
      | inr ends ↦
          let low : own_rank frame < 10 = omega arith in
          let p = plug_fits frame frames t low f.0 fits lt in
          let free : NumberFree last rest → NumberFree r.0 rest = λ n. free_more r.0 mid rest (plug_leaves frame frames r.0 mid low f.0 r.2) (e n) in
          rw le-ltb (reduce_sound frames limit (plug frame t) last tokens r.0 rest small r.1 (plug_reads frame t r.0 mid rest low r.2 s) f.1 p.0 p.1 (omega (arith, p.2)) free)
    ]

pub bound_positive : (frames : List Frame) → 0 < top_bound frames
bound_positive [] = omega arith
bound_positive (InRight at sign left ∷ frames) = omega (arith, infix_low sign)
bound_positive (InNegate at ∷ frames) = omega arith
bound_positive (InNot at ∷ frames) = omega arith
bound_positive (InPown at ∷ frames) = omega arith
bound_positive (InArgument at f before ∷ frames) = omega arith
bound_positive (InBracket at ∷ frames) = omega arith
bound_positive (InItem at before ∷ frames) = omega arith
bound_positive (InField at before place x ∷ frames) = omega arith
bound_positive (InValue at x ∷ frames) = omega arith
bound_positive (InBody at x value ∷ frames) = omega arith
bound_positive (InTest at ∷ frames) = omega arith
bound_positive (InThen at test ∷ frames) = omega arith
bound_positive (InElse at test one ∷ frames) = omega arith
bound_positive (InMatched at ∷ frames) = omega arith
bound_positive (InEmptyArm at l ∷ frames) = omega arith
bound_positive (InFullArm at l a x y ∷ frames) = omega arith

pub power_rank : (t : ExprSyntax) → is_power t ≡ true → rank t ≡ 1
power_rank (pown_syntax at e k) p = refl
power_rank t p = absurd cc

pub focus_low : (frames : List Frame) (t : ExprSyntax) → AtFocus frames t → (rank t < top_bound frames) × (rank t ≤ 1)
focus_low frames t (inl low) = (omega (arith, bound_positive frames, low), omega (arith, low))
focus_low frames t (inr p) = let one = power_rank t p.0 in (omega (arith, one, p.1), omega (arith, one))

-- what is at focus, once all up to a limit has ended
pub ended : (limit : ℕ) (frames : List Frame) (t : ExprSyntax) (tokens rest : List Token) → 0 < limit → limit < 10 → (h : FocusReads frames t tokens rest) → SpellsPrefixUpTo limit h.0 (reduce limit frames t) tokens rest
ended limit frames t tokens rest some small h =
    let low = focus_low frames t h.5 in reduce_sound frames limit t h.0 tokens h.0 rest small h.1 h.2 h.3 h.4 low.0 (omega (arith, low.1)) (λ n. n)
