-- The tokens of an expression that were read are those of the state, and what stands in it fits.
use Rattle.std.proofs.Common.{◌≡◌, ◌≢◌, ℕ, ◌≤◌, ◌<◌, List, [], ◌∷◌, ◌++◌, Bool, true, false, cond, ltb, Option, Some, None, refl, sym, ap, subst, ◌∙◌, arith, inl, inr}
use Rattle.std.proofs.lemmas.Bool.{cases_lt, lt-ltb, le-ltb}
use Rattle.um_frac.specs.declared.number.Frac.{Frac}
use Rattle.um_syntax.specs.declared.token.Token.{Token}
use Rattle.um_tree.specs.declared.expression.Sign.TheVariants as compare
use Rattle.um_tree.specs.declared.expression.Arith.TheVariants as arith_of
use Rattle.um_tree.specs.RawTree.{NoteSyntax, TypeSyntax, ExprSyntax, truth_syntax, number_syntax, name_syntax, pown_syntax, nil_syntax, list_syntax, fields_syntax, field_syntax, bracket_expr_syntax, exprs_in_order, fields_in_order}
use Rattle.um_reader.specs.Machine.{runs}
use Rattle.um_unit_texts.specs.UnitTokens.{unit_token}
use Rattle.um_unit_texts.specs.UnitMachine.{State as UnitState, power_in}
use Rattle.um_types.specs.NoteMachine.{NoteState, NeedNote, HaveHole, InUnit, NoNote, note_step, note_finish}
use Rattle.um_types.specs.TypeMachine.{TypeState, NeedType, HaveType, NoType, type_step, type_finish, InNote as InTypeNote}
use Rattle.um_types.proofs.NoteLaws.{NoteSpellsPrefix, note_sound, note_found}
use Rattle.um_types.proofs.TypeSound.{TypeSpellsPrefix, type_sound, type_found}
use Rattle.um_vocabulary.specs.declared.vocabulary.Keyword.TheVariants as keyword
use Rattle.um_vocabulary.specs.declared.vocabulary.Symbol.TheVariants as symbol
use Rattle.um_operands.specs.declared.infix.Infix.{Infix}
use Rattle.um_operands.specs.declared.infix.Infix.TheVariants as between
use Rattle.um_operands.specs.Ranks.{infix_rank, left_limit}
use Rattle.um_operands.specs.ExprBegun.{Frame, InBracket, InItem, InField, InValue, InTest, InThen, InMatched, InEmptyArm, InNegate, InNot, InPown, InRight, InArgument, top_bound, with_field, Expected, LetBinder, LetEqual, FieldName, FieldEqual, DotName, ArmBegin, ArmOpen, ArmClose, ArmArrow, HeadBinder, HeadCons, TailBinder, TailArrow, NilColon, PownMinus, PownDigits, PownClose, State, Need, Have, HavePower, Greater, Inside, InNote, InType, Refused, reduce, whole, finish}
use Rattle.um_operands.specs.ExprKinds.{is_power, is_plain_number}
use Rattle.um_forms.specs.declared.token.ExprToken.{ExprToken}
use Rattle.um_forms.specs.declared.token.ExprToken.TheVariants.{Name as name, Number as number, Truth as truth, Hole as hole, Operator as operator, Word as word, Mark as mark}
use Rattle.um_forms.specs.ExprTokens.{expr_token, equal, less, greater}
use Rattle.um_expr.specs.ExprGrammar.{First, FirstAt, FirstGlued, AfterNumber, InfixAt, Spells, rank, Fits}
use Rattle.um_forms.specs.ExprForms.{if_may, empty_list, begin, after_greater, argument, begin_in, infix_after, greater_after, less_after, close_after, list_after, record_after, semi_after, in_after, then_after, else_after, with_after, bar_after, pown_after, number_after, bracket_after, inside}
use Rattle.um_expr.specs.ExprMachine.{after, power_after, note_ends, type_ends, note_goes, type_goes, step}
use Rattle.um_expr.proofs.ExprEnds.{infix_low, arith_low}
use Rattle.um_expr.proofs.ExprAtEnd.{is_less}
use Rattle.um_expr.proofs.ExprSuffixes.{Leaves, leaves_then, leaves_first, leaves_at, leaves_expr, NumberFree, free_first, number_apart, atom_free}
use Rattle.um_expr.proofs.ExprPrefixes.{ExpectedReads, FramesRead, FramesFit, AtFocus, FocusReads, power_rank, SpellsPrefix, SpellsPrefixUpTo, items_next, items_last, items_fit, fields_next, fields_last, fields_fit, arguments_last, atoms_last, ended}

-- the token, with all that the machine looks at
abbrev pub Next : ExprToken → ℕ → Bool → List Token → List Token → Type 0
Next what at glued tokens rest = (token : Token) × (expr_token token.kind ≡ what) × (token.start ≡ at) × (token.glued ≡ glued) × (tokens ≡ token ∷ rest)

at_of : (what : ExprToken) (at : ℕ) (glued : Bool) (tokens rest : List Token) → Next what at glued tokens rest → FirstAt what at tokens rest
at_of what at glued tokens rest n = (n.0, n.1, n.2, n.4)

first_of : (what : ExprToken) (at : ℕ) (tokens rest : List Token) → FirstAt what at tokens rest → First what tokens rest
first_of what at tokens rest n = (n.0, n.1, n.3)

may_sound : (frames : List Frame) (rank : ℕ) (st : State) (tokens rest : List Token) → (rank < top_bound frames → SpellsPrefix st tokens rest) → SpellsPrefix (if_may frames rank st) tokens rest
may_sound frames rank st tokens rest h =
    elim (cases_lt rank (top_bound frames)) [
      | inl lt ↦ rw lt-ltb (h lt)
      | inr le ↦ rw le-ltb tt
    ]

atom_held : (frames : List Frame) (t : ExprSyntax) (tokens mid rest : List Token) → FramesRead frames tokens mid → Spells t mid rest → FramesFit frames → Fits t → rank t ≡ 0 → SpellsPrefix (Have frames t) tokens rest
atom_held frames t tokens mid rest r s f fits low = ((mid, r, s, f, fits, inl low), λ p. let one = power_rank t p in absurd (omega (arith, one, low)))

-- ---- an operand begins

empty_sound : (frames : List Frame) (tokens mid rest : List Token) → FramesRead frames tokens mid → FramesFit frames → First (mark symbol.RightBracket) mid rest → SpellsPrefix (empty_list frames) tokens rest
empty_sound (InItem m [] ∷ InBracket at ∷ frames) tokens mid rest r f s =
    let o = r.1.1 in
    let c = r.2 in
    (r.1.0, o, (r.0, mid, r.1.2, (c.1.0, c.1.1, c.1.3 ∙ ap (λ w. c.1.0 ∷ w) c.2), s), f.1.1, tt)
empty_sound _ tokens mid rest r f s = tt

begin_sound : (frames : List Frame) (what : ExprToken) (at : ℕ) (tokens mid rest : List Token) → FramesRead frames tokens mid → FramesFit frames → FirstAt what at mid rest → SpellsPrefix (begin frames what at) tokens rest
begin_sound frames (name x) at tokens mid rest r f s = atom_held frames (name_syntax at x) tokens mid rest r s f tt refl
begin_sound frames (number c) at tokens mid rest r f s = atom_held frames (number_syntax at c None) tokens mid rest r (rest, s, refl) f tt refl
begin_sound frames (truth b) at tokens mid rest r f s = atom_held frames (truth_syntax at b) tokens mid rest r s f tt refl
begin_sound frames (mark symbol.LeftParen) at tokens mid rest r f s = ((mid, r, s), (tt, f))
begin_sound frames (mark symbol.LeftBracket) at tokens mid rest r f s = ((mid, r, (rest, s, refl)), (tt, f))
begin_sound frames (mark symbol.RightBracket) at tokens mid rest r f s = empty_sound frames tokens mid rest r f (s.0, s.1, s.3)
begin_sound frames (mark symbol.LeftBrace) at tokens mid rest r f s = (mid, r, (rest, s, refl), f, tt)
begin_sound frames (word keyword.Let) at tokens mid rest r f s = may_sound frames 9 (Inside frames (LetBinder at)) tokens rest (λ lt. (mid, r, s, f, lt))
begin_sound frames (word keyword.If) at tokens mid rest r f s = may_sound frames 9 (Need (InTest at ∷ frames)) tokens rest (λ lt. ((mid, r, s), (lt, f)))
begin_sound frames (word keyword.Match) at tokens mid rest r f s = may_sound frames 9 (Need (InMatched at ∷ frames)) tokens rest (λ lt. ((mid, r, s), (lt, f)))
begin_sound frames (word keyword.Not) at tokens mid rest r f s = may_sound frames 1 (Need (InNot at ∷ frames)) tokens rest (λ lt. ((mid, r, s), (lt, f)))
begin_sound frames (word keyword.Pown) at tokens mid rest r f s = may_sound frames 1 (Need (InPown at ∷ frames)) tokens rest (λ lt. ((mid, r, s), (lt, f)))
begin_sound frames (operator (between.Arith arith_of.Sub)) at tokens mid rest r f s = may_sound frames 2 (Need (InNegate at ∷ frames)) tokens rest (λ lt. ((mid, r, s), (lt, f)))
begin_sound frames _ at tokens mid rest r f s = tt

-- after `>`
greater_frame : (frames : List Frame) (place : ℕ) (left : ExprSyntax) (tokens rest : List Token) → SpellsPrefix (Greater frames place left) tokens rest
    → FramesRead (InRight place (between.Compare compare.Gt) left ∷ frames) tokens rest × FramesFit (InRight place (between.Compare compare.Gt) left ∷ frames)
greater_frame frames place left tokens rest h = ((h.0, h.2, (h.1, h.3, h.4)), ((h.6, h.7, h.8), h.5))

at_least_sound : (frames : List Frame) (place : ℕ) (left : ExprSyntax) (at : ℕ) (glued : Bool) (tokens mid rest : List Token) → SpellsPrefix (Greater frames place left) tokens mid → Next equal at glued mid rest
    → SpellsPrefix (cond glued (Need (InRight place (between.Compare compare.Ge) left ∷ frames)) Refused) tokens rest
at_least_sound frames place left at true tokens mid rest h s = ((h.0, h.2, (h.1, h.3, (mid, h.4, (s.0, s.1, s.3, s.4)))), ((h.6, h.7, h.8), h.5))
at_least_sound frames place left at false tokens mid rest h s = tt

after_greater_sound : (frames : List Frame) (place : ℕ) (left : ExprSyntax) (what : ExprToken) (at : ℕ) (glued : Bool) (tokens mid rest : List Token) → SpellsPrefix (Greater frames place left) tokens mid
    → Next what at glued mid rest → SpellsPrefix (after_greater frames place left what at glued) tokens rest
after_greater_sound frames place left (operator (between.Compare compare.Eq)) at glued tokens mid rest h s = at_least_sound frames place left at glued tokens mid rest h s
after_greater_sound frames place left what at glued tokens mid rest h s =
    let g = greater_frame frames place left tokens mid h in
    begin_sound (InRight place (between.Compare compare.Gt) left ∷ frames) what at tokens mid rest g.0 g.1 (at_of what at glued mid rest s)

-- ---- arguments

abbrev OpenedTo : Option (List Frame) → List Token → List Token → Type 0
OpenedTo (Some frames) tokens rest = FramesRead frames tokens rest × FramesFit frames
OpenedTo None tokens rest = Unit {0}

first_argument_sound : (at : ℕ) (f : List ℕ) (frames : List Frame) (tokens mid rest : List Token) → FramesRead frames tokens mid → FirstAt (name f) at mid rest → FramesFit frames
    → OpenedTo (cond (ltb 1 (top_bound frames)) (Some (InArgument at f [] ∷ frames)) None) tokens rest
first_argument_sound at f frames tokens mid rest r s fit =
    elim (cases_lt 1 (top_bound frames)) [
      | inl may ↦ rw lt-ltb ((mid, r, (rest, s, refl)), ((may, tt), fit))
      | inr not ↦ rw le-ltb tt
    ]

atom_in : (frames : List Frame) (t : ExprSyntax) → top_bound frames ≤ 1 → AtFocus frames t → rank t ≡ 0
atom_in frames t le (inl low) = low
atom_in frames t le (inr p) = absurd (omega (arith, le, p.1))

argument_sound : (frames : List Frame) (t : ExprSyntax) (tokens rest : List Token) → FocusReads frames t tokens rest → OpenedTo (argument frames t) tokens rest
argument_sound (InArgument at f before ∷ frames) t tokens rest h =
    let r = h.1 in
    ((r.0, r.1, (r.2.0, r.2.1, arguments_last before t r.2.0 h.0 rest r.2.2 h.2)), ((h.3.0.0, atoms_last before t h.3.0.1 h.4 (atom_in (InArgument at f before ∷ frames) t (omega arith) h.5)), h.3.1))
argument_sound [] (name_syntax at f) tokens rest h = first_argument_sound at f [] tokens h.0 rest h.1 h.2 h.3
argument_sound (frame ∷ frames) (name_syntax at f) tokens rest h = first_argument_sound at f (frame ∷ frames) tokens h.0 rest h.1 h.2 h.3
argument_sound _ _ tokens rest h = tt

begin_in_sound : (o : Option (List Frame)) (what : ExprToken) (at : ℕ) (tokens mid rest : List Token) → OpenedTo o tokens mid → FirstAt what at mid rest → SpellsPrefix (begin_in o what at) tokens rest
begin_in_sound (Some frames) what at tokens mid rest h s = begin_sound frames what at tokens mid rest h.0 h.1 s
begin_in_sound None what at tokens mid rest h s = tt

argues : (frames : List Frame) (t : ExprSyntax) (what : ExprToken) (at : ℕ) (tokens mid rest : List Token) → FocusReads frames t tokens mid → FirstAt what at mid rest → SpellsPrefix (begin_in (argument frames t) what at) tokens rest
argues frames t what at tokens mid rest h s = begin_in_sound (argument frames t) what at tokens mid rest (argument_sound frames t tokens mid h) s

-- ---- signs between two operands

infix_sound : (sign : Infix) (last : List Token) (st : State) (at : ℕ) (tokens mid rest : List Token) → ((left : List Token) → (NumberFree last mid → NumberFree left mid) → InfixAt sign left at mid rest)
    → SpellsPrefixUpTo (left_limit sign) last st tokens mid → SpellsPrefix (infix_after sign at st) tokens rest
infix_sound sign last (Have frames t) at tokens mid rest s h =
    may_sound frames (infix_rank sign) (Need (InRight at sign t ∷ frames)) tokens rest (λ lt. ((h.0, h.1, (mid, h.2, s h.0 h.7)), ((lt, h.6, h.4), h.3)))
infix_sound sign last (Need frames) at tokens mid rest s h = absurd h
infix_sound sign last (HavePower frames t) at tokens mid rest s h = absurd h
infix_sound sign last (Greater frames p l) at tokens mid rest s h = absurd h
infix_sound sign last (Inside frames p) at tokens mid rest s h = absurd h
infix_sound sign last (InNote frames p c n) at tokens mid rest s h = absurd h
infix_sound sign last (InType frames p n) at tokens mid rest s h = absurd h
infix_sound sign last Refused at tokens mid rest s h = absurd h

left_small : (sign : Infix) → left_limit sign < 10
left_small sign = omega (arith, infix_low sign)

left_some : (sign : Infix) → 0 < left_limit sign
left_some between.Or = omega arith
left_some between.And = omega arith
left_some (between.Compare sign) = omega arith
left_some between.Cons = omega arith
left_some (between.Arith op) = omega (arith, arith_low op)

infix_then : (frames : List Frame) (t : ExprSyntax) (sign : Infix) (at : ℕ) (tokens mid rest : List Token) → (h : FocusReads frames t tokens mid)
    → ((left : List Token) → (NumberFree h.0 mid → NumberFree left mid) → InfixAt sign left at mid rest) → SpellsPrefix (infix_after sign at (reduce (left_limit sign) frames t)) tokens rest
infix_then frames t sign at tokens mid rest h s =
    infix_sound sign h.0 (reduce (left_limit sign) frames t) at tokens mid rest s (ended (left_limit sign) frames t tokens mid (left_some sign) (left_small sign) h)

greater_sound : (last : List Token) (st : State) (at : ℕ) (tokens mid rest : List Token) → FirstAt greater at mid rest → SpellsPrefixUpTo 5 last st tokens mid → SpellsPrefix (greater_after at st) tokens rest
greater_sound last (Have frames t) at tokens mid rest s h = may_sound frames 6 (Greater frames at t) tokens rest (λ lt. (h.0, mid, h.1, h.2, s, h.3, lt, h.6, h.4))
greater_sound last (Need frames) at tokens mid rest s h = absurd h
greater_sound last (HavePower frames t) at tokens mid rest s h = absurd h
greater_sound last (Greater frames p l) at tokens mid rest s h = absurd h
greater_sound last (Inside frames p) at tokens mid rest s h = absurd h
greater_sound last (InNote frames p c n) at tokens mid rest s h = absurd h
greater_sound last (InType frames p n) at tokens mid rest s h = absurd h
greater_sound last Refused at tokens mid rest s h = absurd h

need_note : NeedNote ≢ NoNote
need_note e = cc

less_then : (frames : List Frame) (t : ExprSyntax) (at : ℕ) (glued : Bool) (tokens mid rest : List Token) → (h : FocusReads frames t tokens mid) → Next less at glued mid rest
    → ((left : List Token) → (NumberFree h.0 mid → NumberFree left mid) → AfterNumber left mid → glued ≡ false) → SpellsPrefix (infix_after (between.Compare compare.Lt) at (reduce 5 frames t)) tokens rest
less_then frames t at glued tokens mid rest h s free =
    infix_then frames t (between.Compare compare.Lt) at tokens mid rest h (λ left e. (s.0, s.1, s.2, (λ n. s.3 ∙ free left e n), s.4))

-- a `<` that isn't directly after a number
less_spaced : (frames : List Frame) (t : ExprSyntax) (at : ℕ) (tokens mid rest : List Token) → FocusReads frames t tokens mid → Next less at false mid rest
    → SpellsPrefix (infix_after (between.Compare compare.Lt) at (reduce 5 frames t)) tokens rest
less_spaced frames t at tokens mid rest h s = less_then frames t at false tokens mid rest h s (λ left e n. refl)

less_glued : (frames : List Frame) (t : ExprSyntax) (at : ℕ) (tokens mid rest : List Token) → (h : FocusReads frames t tokens mid) → Next less at true mid rest → NumberFree h.0 mid
    → SpellsPrefix (infix_after (between.Compare compare.Lt) at (reduce 5 frames t)) tokens rest
less_glued frames t at tokens mid rest h s free = less_then frames t at true tokens mid rest h s (λ left e n. absurd (number_apart left mid (e free) n))

less_sound : (frames : List Frame) (t : ExprSyntax) (glued : Bool) (at : ℕ) (tokens mid rest : List Token) → (h : FocusReads frames t tokens mid) → Next less at glued mid rest
    → (glued ≡ true → is_plain_number t ≡ false → NumberFree h.0 mid) → SpellsPrefix (less_after frames t glued at) tokens rest
less_sound frames t false at tokens mid rest h s free = less_spaced frames t at tokens mid rest h s
less_sound frames (number_syntax p c None) true at tokens mid rest h s free =
    (h.0, mid, rest, h.1, (h.2.1.0, h.2.1.1, h.2.1.2, h.2.1.3 ∙ ap (λ w. h.2.1.0 ∷ w) h.2.2), (s.0, s.1, s.3, s.4), refl, h.3, need_note)
less_sound frames t true at tokens mid rest h s free = less_glued frames t at tokens mid rest h s (free refl refl)

-- ---- what ends a frame

close_sound : (last : List Token) (st : State) (tokens mid rest : List Token) → First (mark symbol.RightParen) mid rest → SpellsPrefixUpTo 9 last st tokens mid → SpellsPrefix (close_after st) tokens rest
close_sound last (Have (InBracket at ∷ frames) t) tokens mid rest s h = atom_held frames (bracket_expr_syntax at t) tokens h.1.0 rest h.1.1 (h.0, mid, h.1.2, h.2, s) h.3.1 h.4 refl
close_sound last _ tokens mid rest s h = tt

list_sound : (last : List Token) (st : State) (tokens mid rest : List Token) → First (mark symbol.RightBracket) mid rest → SpellsPrefixUpTo 9 last st tokens mid → SpellsPrefix (list_after st) tokens rest
list_sound last (Have (InItem at before ∷ frames) t) tokens mid rest s h =
    let r = h.1 in
    atom_held frames (list_syntax at (exprs_in_order (before ++ t ∷ []))) tokens r.0 rest r.1 (r.2.0, mid, r.2.1, items_last before t r.2.0 h.0 mid r.2.2 h.2, s) h.3.1 (items_fit before t h.3.0 h.4) refl
list_sound last _ tokens mid rest s h = tt

record_sound : (last : List Token) (st : State) (tokens mid rest : List Token) → First (mark symbol.RightBrace) mid rest → SpellsPrefixUpTo 9 last st tokens mid → SpellsPrefix (record_after st) tokens rest
record_sound last (Have (InField at before place x ∷ frames) t) tokens mid rest s h =
    let r = h.1 in
    let p = r.2 in
    atom_held frames (fields_syntax at (fields_in_order (with_field before place x t))) tokens r.0 rest r.1 (p.0, mid, p.3, fields_last before place x t p.0 p.1 p.2 h.0 mid p.4 p.5 p.6 h.2, s) h.3.1 (fields_fit before place x t h.3.0 h.4) refl
record_sound last _ tokens mid rest s h = tt

semi_sound : (last : List Token) (st : State) (tokens mid rest : List Token) → First (mark symbol.Semicolon) mid rest → SpellsPrefixUpTo 9 last st tokens mid → SpellsPrefix (semi_after st) tokens rest
semi_sound last (Have (InItem at before ∷ frames) t) tokens mid rest s h =
    let r = h.1 in ((r.0, r.1, (r.2.0, r.2.1, items_next before t r.2.0 h.0 mid rest r.2.2 h.2 s)), (items_fit before t h.3.0 h.4, h.3.1))
semi_sound last (Have (InField at before place x ∷ frames) t) tokens mid rest s h =
    let r = h.1 in
    let p = r.2 in
    (r.0, r.1, (p.0, p.3, fields_next before place x t p.0 p.1 p.2 h.0 mid rest p.4 p.5 p.6 h.2 s), h.3.1, fields_fit before place x t h.3.0 h.4)
semi_sound last _ tokens mid rest s h = tt

in_sound : (last : List Token) (st : State) (tokens mid rest : List Token) → First (word keyword.In) mid rest → SpellsPrefixUpTo 9 last st tokens mid → SpellsPrefix (in_after st) tokens rest
in_sound last (Have (InValue at x ∷ frames) t) tokens mid rest s h = ((h.1.0, h.1.1, (h.0, mid, h.1.2, h.2, s)), ((h.3.0, h.4), h.3.1))
in_sound last _ tokens mid rest s h = tt

then_sound : (last : List Token) (st : State) (tokens mid rest : List Token) → First (word keyword.Then) mid rest → SpellsPrefixUpTo 9 last st tokens mid → SpellsPrefix (then_after st) tokens rest
then_sound last (Have (InTest at ∷ frames) t) tokens mid rest s h = ((h.1.0, h.1.1, (h.0, mid, h.1.2, h.2, s)), ((h.3.0, h.4), h.3.1))
then_sound last _ tokens mid rest s h = tt

else_sound : (last : List Token) (st : State) (tokens mid rest : List Token) → First (word keyword.Else) mid rest → SpellsPrefixUpTo 9 last st tokens mid → SpellsPrefix (else_after st) tokens rest
else_sound last (Have (InThen at c ∷ frames) t) tokens mid rest s h = ((h.1.0, h.1.1, (h.0, mid, h.1.2, h.2, s)), ((h.3.0.0, h.3.0.1, h.4), h.3.1))
else_sound last _ tokens mid rest s h = tt

with_sound : (last : List Token) (st : State) (tokens mid rest : List Token) → First (word keyword.With) mid rest → SpellsPrefixUpTo 9 last st tokens mid → SpellsPrefix (with_after st) tokens rest
with_sound last (Have (InMatched at ∷ frames) t) tokens mid rest s h = (h.1.0, h.1.1, (h.0, mid, h.1.2, h.2, s), h.3.1, (h.3.0, h.4))
with_sound last _ tokens mid rest s h = tt

bar_sound : (last : List Token) (st : State) (tokens mid rest : List Token) → First (mark symbol.Bar) mid rest → SpellsPrefixUpTo 9 last st tokens mid → SpellsPrefix (bar_after st) tokens rest
bar_sound last (Have (InEmptyArm at l ∷ frames) t) tokens mid rest s h = (h.1.0, h.1.1, (h.0, mid, h.1.2, h.2, s), h.3.1, (h.3.0.0, h.3.0.1, h.4))
bar_sound last _ tokens mid rest s h = tt

all_ended : (frames : List Frame) (t : ExprSyntax) (tokens mid : List Token) → (h : FocusReads frames t tokens mid) → SpellsPrefixUpTo 9 h.0 (reduce 9 frames t) tokens mid
all_ended frames t tokens mid h = ended 9 frames t tokens mid (omega arith) (omega arith) h

-- ---- the power of `pown`

number_sound : (frames : List Frame) (t : ExprSyntax) (c : Frac) (at : ℕ) (tokens mid rest : List Token) → FocusReads frames t tokens mid → (s : FirstAt (number c) at mid rest)
    → SpellsPrefix (number_after frames t c at (power_in (unit_token s.0.kind))) tokens rest
number_sound (InPown p ∷ frames) t c at tokens mid rest h s = by_power (power_in (unit_token s.0.kind)) refl
  where
    by_power : (o : Option ℕ) → power_in (unit_token s.0.kind) ≡ o → SpellsPrefix (pown_after (InPown p ∷ frames) t o) tokens rest
    by_power None e = tt
    by_power (Some n) e =
        (h.1.0, h.1.1, (h.0, mid, h.1.2, h.2, inl (n, refl, (s.0, e, s.3))), h.3.1, (atom_in (InPown p ∷ frames) t (omega arith) h.5, h.4), inr (refl, h.3.0))
number_sound frames t c at tokens mid rest h s = argues frames t (number c) at tokens mid rest h s

bracket_sound : (frames : List Frame) (t : ExprSyntax) (at : ℕ) (tokens mid rest : List Token) → FocusReads frames t tokens mid → FirstAt (mark symbol.LeftParen) at mid rest → SpellsPrefix (bracket_after frames t at) tokens rest
bracket_sound (InPown p ∷ frames) t at tokens mid rest h s =
    (h.1.0, h.1.1, (h.0, mid, h.1.2, h.2, (s.0, s.1, s.3)), h.3.1, (h.3.0, atom_in (InPown p ∷ frames) t (omega arith) h.5, h.4))
bracket_sound frames t at tokens mid rest h s = argues frames t (mark symbol.LeftParen) at tokens mid rest h s

dot_sound : (frames : List Frame) (t : ExprSyntax) (at : ℕ) (tokens mid rest : List Token) → (h : FocusReads frames t tokens mid) → FirstAt (mark symbol.Dot) at mid rest → AtFocus frames t → (b : Bool) → is_power t ≡ b
    → SpellsPrefix (cond b Refused (Inside frames (DotName at t))) tokens rest
dot_sound frames t at tokens mid rest h s f true e = tt
dot_sound frames t at tokens mid rest h s (inl low) false e = (h.0, h.1, (mid, h.2, s), h.3, (low, h.4))
dot_sound frames t at tokens mid rest h s (inr p) false e = let bad : false ≡ true = sym e ∙ p.0 in absurd cc

after_sound : (frames : List Frame) (t : ExprSyntax) (what : ExprToken) (at : ℕ) (glued : Bool) (tokens mid rest : List Token) → (h : FocusReads frames t tokens mid) → (s : Next what at glued mid rest)
    → (is_less what ≡ true → glued ≡ true → is_plain_number t ≡ false → NumberFree h.0 mid) → SpellsPrefix (after frames t what at glued (power_in (unit_token s.0.kind))) tokens rest
after_sound frames t (name x) at glued tokens mid rest h s free = argues frames t (name x) at tokens mid rest h (s.0, s.1, s.2, s.4)
after_sound frames t (number c) at glued tokens mid rest h s free = number_sound frames t c at tokens mid rest h (s.0, s.1, s.2, s.4)
after_sound frames t (truth b) at glued tokens mid rest h s free = argues frames t (truth b) at tokens mid rest h (s.0, s.1, s.2, s.4)
after_sound frames t (mark symbol.LeftParen) at glued tokens mid rest h s free = bracket_sound frames t at tokens mid rest h (s.0, s.1, s.2, s.4)
after_sound frames t (mark symbol.LeftBracket) at glued tokens mid rest h s free = argues frames t (mark symbol.LeftBracket) at tokens mid rest h (s.0, s.1, s.2, s.4)
after_sound frames t (mark symbol.LeftBrace) at glued tokens mid rest h s free = argues frames t (mark symbol.LeftBrace) at tokens mid rest h (s.0, s.1, s.2, s.4)
after_sound frames t (mark symbol.Dot) at glued tokens mid rest h s free = dot_sound frames t at tokens mid rest h (s.0, s.1, s.2, s.4) h.5 (is_power t) refl
after_sound frames t (mark symbol.RightParen) at glued tokens mid rest h s free = close_sound h.0 (reduce 9 frames t) tokens mid rest (s.0, s.1, s.4) (all_ended frames t tokens mid h)
after_sound frames t (mark symbol.RightBracket) at glued tokens mid rest h s free = list_sound h.0 (reduce 9 frames t) tokens mid rest (s.0, s.1, s.4) (all_ended frames t tokens mid h)
after_sound frames t (mark symbol.RightBrace) at glued tokens mid rest h s free = record_sound h.0 (reduce 9 frames t) tokens mid rest (s.0, s.1, s.4) (all_ended frames t tokens mid h)
after_sound frames t (mark symbol.Semicolon) at glued tokens mid rest h s free = semi_sound h.0 (reduce 9 frames t) tokens mid rest (s.0, s.1, s.4) (all_ended frames t tokens mid h)
after_sound frames t (word keyword.In) at glued tokens mid rest h s free = in_sound h.0 (reduce 9 frames t) tokens mid rest (s.0, s.1, s.4) (all_ended frames t tokens mid h)
after_sound frames t (word keyword.Then) at glued tokens mid rest h s free = then_sound h.0 (reduce 9 frames t) tokens mid rest (s.0, s.1, s.4) (all_ended frames t tokens mid h)
after_sound frames t (word keyword.Else) at glued tokens mid rest h s free = else_sound h.0 (reduce 9 frames t) tokens mid rest (s.0, s.1, s.4) (all_ended frames t tokens mid h)
after_sound frames t (word keyword.With) at glued tokens mid rest h s free = with_sound h.0 (reduce 9 frames t) tokens mid rest (s.0, s.1, s.4) (all_ended frames t tokens mid h)
after_sound frames t (mark symbol.Bar) at glued tokens mid rest h s free = bar_sound h.0 (reduce 9 frames t) tokens mid rest (s.0, s.1, s.4) (all_ended frames t tokens mid h)
after_sound frames t (operator (between.Compare compare.Lt)) at glued tokens mid rest h s free = less_sound frames t glued at tokens mid rest h s (free refl)
after_sound frames t (operator (between.Compare compare.Gt)) at glued tokens mid rest h s free =
    greater_sound h.0 (reduce 5 frames t) at tokens mid rest (s.0, s.1, s.2, s.4) (ended 5 frames t tokens mid (omega arith) (omega arith) h)
after_sound frames t (operator (between.Compare compare.Ge)) at glued tokens mid rest h s free = tt
after_sound frames t (operator (between.Compare compare.Le)) at glued tokens mid rest h s free = infix_then frames t (between.Compare compare.Le) at tokens mid rest h (λ u e. (s.0, s.1, s.2, s.4))
after_sound frames t (operator (between.Compare compare.Eq)) at glued tokens mid rest h s free = infix_then frames t (between.Compare compare.Eq) at tokens mid rest h (λ u e. (s.0, s.1, s.2, s.4))
after_sound frames t (operator (between.Compare compare.Ne)) at glued tokens mid rest h s free = infix_then frames t (between.Compare compare.Ne) at tokens mid rest h (λ u e. (s.0, s.1, s.2, s.4))
after_sound frames t (operator between.Or) at glued tokens mid rest h s free = infix_then frames t between.Or at tokens mid rest h (λ u e. (s.0, s.1, s.2, s.4))
after_sound frames t (operator between.And) at glued tokens mid rest h s free = infix_then frames t between.And at tokens mid rest h (λ u e. (s.0, s.1, s.2, s.4))
after_sound frames t (operator between.Cons) at glued tokens mid rest h s free = infix_then frames t between.Cons at tokens mid rest h (λ u e. (s.0, s.1, s.2, s.4))
after_sound frames t (operator (between.Arith op)) at glued tokens mid rest h s free = infix_then frames t (between.Arith op) at tokens mid rest h (λ u e. (s.0, s.1, s.2, s.4))
after_sound frames t _ at glued tokens mid rest h s free = tt

-- after the number of a whole power
power_sound : (frames : List Frame) (t : ExprSyntax) (what : ExprToken) (at : ℕ) (glued : Bool) (tokens mid rest : List Token) → FocusReads frames t tokens mid → (s : Next what at glued mid rest)
    → SpellsPrefix (power_after frames t what at glued (power_in (unit_token s.0.kind))) tokens rest
power_sound frames t (operator (between.Compare compare.Lt)) at true tokens mid rest h s = tt
power_sound frames t (operator (between.Compare compare.Lt)) at false tokens mid rest h s = less_spaced frames t at tokens mid rest h s
power_sound frames t what at glued tokens mid rest h s = after_sound frames t what at glued tokens mid rest h s (λ l g p. absurd cc)

-- ---- inside a run of tokens that is fixed

inside_sound : (frames : List Frame) (expected : Expected) (what : ExprToken) (at : ℕ) (tokens mid rest : List Token) → SpellsPrefix (Inside frames expected) tokens mid → (s : FirstAt what at mid rest)
    → SpellsPrefix (inside frames expected what at (power_in (unit_token s.0.kind))) tokens rest
inside_sound frames (LetBinder p) (name x) at tokens mid rest h s = (h.0, h.1, (mid, h.2, s), h.3, h.4)
inside_sound frames (LetBinder p) hole at tokens mid rest h s = (h.0, h.1, (mid, h.2, s), h.3, h.4)
inside_sound frames (LetEqual p x) (operator (between.Compare compare.Eq)) at tokens mid rest h s = ((h.0, h.1, (h.2.0, mid, h.2.1, h.2.2, (s.0, s.1, s.3))), (h.4, h.3))
inside_sound frames (FieldName p before) (name x) at tokens mid rest h s = (h.0, h.1, (h.2.0, mid, h.2.1, h.2.2, s), h.3, h.4)
inside_sound frames (FieldEqual p before place x) (operator (between.Compare compare.Eq)) at tokens mid rest h s = ((h.0, h.1, (h.2.0, h.2.1, mid, h.2.2, h.2.3, h.2.4, (s.0, s.1, s.3))), (h.4, h.3))
inside_sound frames (DotName p e) (name x) at tokens mid rest h s = atom_held frames (field_syntax p at x e) tokens h.0 rest h.1 (h.2.0, mid, h.2.1, h.2.2, s) h.3 (h.4.0, h.4.1) refl
inside_sound frames (ArmBegin p l) (mark symbol.Bar) at tokens mid rest h s = (h.0, h.1, (h.2.0, h.2.1, mid, h.2.2, h.2.3, h.2.4, (s.0, s.1, s.3)), h.3, h.4)
inside_sound frames (ArmBegin p l) (mark symbol.LeftBracket) at tokens mid rest h s = (h.0, h.1, (h.2.0, h.2.1, h.2.2, h.2.3, (mid, mid, h.2.4, inl refl, (s.0, s.1, s.3))), h.3, h.4)
inside_sound frames (ArmOpen p l) (mark symbol.LeftBracket) at tokens mid rest h s = (h.0, h.1, (h.2.0, h.2.1, h.2.3, h.2.4, (h.2.2, mid, h.2.5, inr h.2.6, (s.0, s.1, s.3))), h.3, h.4)
inside_sound frames (ArmClose p l) (mark symbol.RightBracket) at tokens mid rest h s = (h.0, h.1, (h.2.0, h.2.1, mid, h.2.2, h.2.3, h.2.4, (s.0, s.1, s.3)), h.3, h.4)
inside_sound frames (ArmArrow p l) (mark symbol.Arrow) at tokens mid rest h s =
    let r = h.2 in
    let a = r.5 in
    ((h.0, h.1, (r.0, r.1, r.3, r.4, (a.0, a.1, r.2, mid, a.2, a.3, a.4, r.6, (s.0, s.1, s.3)))), (h.4, h.3))
inside_sound frames (HeadBinder p l a) (name x) at tokens mid rest h s = (h.0, h.1, (h.2.0, h.2.1, mid, h.2.2, h.2.3, h.2.4, s), h.3, h.4)
inside_sound frames (HeadBinder p l a) hole at tokens mid rest h s = (h.0, h.1, (h.2.0, h.2.1, mid, h.2.2, h.2.3, h.2.4, s), h.3, h.4)
inside_sound frames (HeadCons p l a x) (operator between.Cons) at tokens mid rest h s = (h.0, h.1, (h.2.0, h.2.1, h.2.2, mid, h.2.3, h.2.4, h.2.5, h.2.6, (s.0, s.1, s.3)), h.3, h.4)
inside_sound frames (TailBinder p l a x) (name y) at tokens mid rest h s = (h.0, h.1, (h.2.0, h.2.1, h.2.2, h.2.3, mid, h.2.4, h.2.5, h.2.6, h.2.7, h.2.8, s), h.3, h.4)
inside_sound frames (TailBinder p l a x) hole at tokens mid rest h s = (h.0, h.1, (h.2.0, h.2.1, h.2.2, h.2.3, mid, h.2.4, h.2.5, h.2.6, h.2.7, h.2.8, s), h.3, h.4)
inside_sound frames (TailArrow p l a x y) (mark symbol.Arrow) at tokens mid rest h s =
    let r = h.2 in
    ((h.0, h.1, (r.0, r.1, r.5, r.6, (r.2, r.3, r.4, mid, r.7, r.8, r.9, r.10, (s.0, s.1, s.3)))), (h.4, h.3))
inside_sound frames (NilColon p) (mark symbol.Colon) at tokens mid rest h s = (h.0, mid, rest, h.1, h.2, (s.0, s.1, s.3), refl, h.3, need_type)
  where
    need_type : NeedType 0 ≢ NoType
    need_type e = cc
inside_sound frames (PownMinus p e) (operator (between.Arith arith_of.Sub)) at tokens mid rest h s = (h.0, h.1, (h.2.0, h.2.1, mid, h.2.2, h.2.3, h.2.4, (s.0, s.1, s.3)), h.3, h.4)
inside_sound frames (PownDigits p e) what at tokens mid rest h s = by_power (power_in (unit_token s.0.kind)) refl
  where
    by_power : (o : Option ℕ) → power_in (unit_token s.0.kind) ≡ o → SpellsPrefix (inside frames (PownDigits p e) what at o) tokens rest
    by_power None same = tt
    by_power (Some n) same = (h.0, h.1, (n, h.2.0, h.2.1, h.2.2, mid, refl, h.2.3, h.2.4, h.2.5, h.2.6, (s.0, same, s.3)), h.3, h.4)
inside_sound frames (PownClose p e k) (mark symbol.RightParen) at tokens mid rest h s =
    let d = h.2 in
    let digits : Leaves d.4 mid = (d.10.0 ∷ [], d.10.2) in
    let leaves : Leaves h.0 mid = leaves_then (leaves_at d.6) (leaves_then (leaves_expr e d.1 d.2 d.7 h.4.2) (leaves_then (leaves_first d.8) (leaves_then (leaves_first d.9) digits))) in
    let last : First (mark symbol.RightParen) mid rest = (s.0, s.1, s.3) in
    let spelled : Spells (pown_syntax p e k) h.0 rest = (d.1, d.2, d.6, d.7, inr (d.0, d.3, d.4, mid, d.5, d.8, d.9, d.10, last)) in
    ((h.0, h.1, spelled, h.3, (h.4.1, h.4.2), inr (refl, h.4.0)), λ w. free_first h.0 mid rest (mark symbol.RightParen) leaves last refl)
inside_sound frames _ _ at tokens mid rest h s = tt

-- ---- notes and types

note_end_sound : (frames : List Frame) (at : ℕ) (c : Frac) (n : NoteState) (found : Option NoteSyntax) (what : ExprToken) (tokens mid rest : List Token) → SpellsPrefix (InNote frames at c n) tokens mid → First what mid rest
    → note_finish n ≡ found → SpellsPrefix (note_ends frames at c found what) tokens rest
note_end_sound frames at c n (Some m) (operator (between.Compare compare.Gt)) tokens mid rest h s e =
    let p = note_found n m h.2 mid h.6 e in
    atom_held frames (number_syntax at c (Some m)) tokens h.0 rest h.3 (h.1, h.4, (h.2, mid, h.5, p.0, s)) h.7 p.1 refl
note_end_sound frames at c n _ _ tokens mid rest h s e = tt

type_end_sound : (frames : List Frame) (at : ℕ) (n : TypeState) (found : Option TypeSyntax) (what : ExprToken) (tokens mid rest : List Token) → SpellsPrefix (InType frames at n) tokens mid → First what mid rest
    → type_finish n ≡ found → SpellsPrefix (type_ends frames at found what) tokens rest
type_end_sound frames at n (Some t) (mark symbol.RightParen) tokens mid rest h s e =
    let p = type_found n t h.2 mid h.6 e in
    let b = h.4 in
    atom_held frames (nil_syntax at t) tokens h.0 rest h.3 (b.0, b.1, h.1, h.2, mid, b.2, b.3, b.4, h.5, p.0, s) h.7 p.1 refl
type_end_sound frames at n _ _ tokens mid rest h s e = tt

hole_on : (at : ℕ) → HaveHole at ≢ NoNote
hole_on at e = cc

unit_on : (at : ℕ) (u : UnitState) → InUnit at u ≢ NoNote
unit_on at u e = cc

note_goes_sound : (frames : List Frame) (at : ℕ) (c : Frac) (n : NoteState) (over : State) (tokens mid sign next rest : List Token) → FramesRead frames tokens mid → FirstAt (number c) at mid sign
    → FirstGlued less sign next → NoteSpellsPrefix n next rest → FramesFit frames → SpellsPrefix over tokens rest → SpellsPrefix (note_goes frames at c n over) tokens rest
note_goes_sound frames at c NeedNote over tokens mid sign next rest r m g s f h = (mid, sign, next, r, m, g, s, f, need_note)
note_goes_sound frames at c (HaveHole p) over tokens mid sign next rest r m g s f h = (mid, sign, next, r, m, g, s, f, hole_on p)
note_goes_sound frames at c (InUnit p u) over tokens mid sign next rest r m g s f h = (mid, sign, next, r, m, g, s, f, unit_on p u)
note_goes_sound frames at c NoNote over tokens mid sign next rest r m g s f h = h

type_goes_sound : (frames : List Frame) (at : ℕ) (n : TypeState) (over : State) (tokens mid colon next rest : List Token) → FramesRead frames tokens mid → ExpectedReads (NilColon at) mid colon
    → First (mark symbol.Colon) colon next → TypeSpellsPrefix n next rest → FramesFit frames → SpellsPrefix over tokens rest → SpellsPrefix (type_goes frames at n over) tokens rest
type_goes_sound frames at (NeedType depth) over tokens mid colon next rest r b c s f h = (mid, colon, next, r, b, c, s, f, λ e. cc)
type_goes_sound frames at (HaveType depth t) over tokens mid colon next rest r b c s f h = (mid, colon, next, r, b, c, s, f, λ e. cc)
type_goes_sound frames at (InTypeNote depth owner n) over tokens mid colon next rest r b c s f h = (mid, colon, next, r, b, c, s, f, λ e. cc)
type_goes_sound frames at NoType over tokens mid colon next rest r b c s f h = h

focus_free : (frames : List Frame) (t : ExprSyntax) (tokens rest : List Token) → (h : FocusReads frames t tokens rest) → AtFocus frames t → (is_power t ≡ true → NumberFree h.0 rest) → is_plain_number t ≡ false → NumberFree h.0 rest
focus_free frames t tokens rest h (inl low) free plain = atom_free t h.0 rest h.2 h.4 low plain
focus_free frames t tokens rest h (inr p) free plain = free p.0

-- the token that is read goes over to the state
pub step_sound : (st : State) (x : Token) (tokens rest : List Token) → SpellsPrefix st tokens (x ∷ rest) → SpellsPrefix (step st x) tokens rest
step_sound (Need frames) x tokens rest h = begin_sound frames (expr_token x.kind) x.start tokens (x ∷ rest) rest h.0 h.1 (x, refl, refl, refl)
step_sound (Have frames t) x tokens rest h =
    after_sound frames t (expr_token x.kind) x.start x.glued tokens (x ∷ rest) rest h.0 (x, refl, refl, refl, refl) (λ l g p. focus_free frames t tokens (x ∷ rest) h.0 h.0.5 h.1 p)
step_sound (HavePower frames t) x tokens rest h = power_sound frames t (expr_token x.kind) x.start x.glued tokens (x ∷ rest) rest h (x, refl, refl, refl, refl)
step_sound (Greater frames p left) x tokens rest h = after_greater_sound frames p left (expr_token x.kind) x.start x.glued tokens (x ∷ rest) rest h (x, refl, refl, refl, refl)
step_sound (Inside frames expected) x tokens rest h = inside_sound frames expected (expr_token x.kind) x.start tokens (x ∷ rest) rest h (x, refl, refl, refl)
step_sound (InNote frames p c n) x tokens rest h =
    note_goes_sound frames p c (note_step n x) (note_ends frames p c (note_finish n) (expr_token x.kind)) tokens h.0 h.1 h.2 rest h.3 h.4 h.5 (note_sound n x h.2 rest h.6) h.7
    (note_end_sound frames p c n (note_finish n) (expr_token x.kind) tokens (x ∷ rest) rest h (x, refl, refl) refl)
step_sound (InType frames p n) x tokens rest h =
    type_goes_sound frames p (type_step n x) (type_ends frames p (type_finish n) (expr_token x.kind)) tokens h.0 h.1 h.2 rest h.3 h.4 h.5 (type_sound n x h.2 rest h.6) h.7
    (type_end_sound frames p n (type_finish n) (expr_token x.kind) tokens (x ∷ rest) rest h (x, refl, refl) refl)
step_sound Refused x tokens rest h = tt

-- the tokens that are read go over to the state, whatever follows
pub runs_sound : (read : List Token) (st : State) (tokens rest : List Token) → SpellsPrefix st tokens (read ++ rest) → SpellsPrefix (runs step st read) tokens rest
runs_sound [] st tokens rest h = h
runs_sound (x ∷ read) st tokens rest h = runs_sound read (step st x) tokens rest (step_sound st x tokens (read ++ rest) h)

pub spells_prefix : (read rest : List Token) → SpellsPrefix (runs step (Need []) read) (read ++ rest) rest
spells_prefix read rest = runs_sound read (Need []) (read ++ rest) rest (refl, tt)

-- ---- what is found

whole_found : (last : List Token) (st : State) (t : ExprSyntax) (tokens rest : List Token) → SpellsPrefixUpTo 9 last st tokens rest → whole st ≡ Some t → Spells t tokens rest × Fits t
whole_found last (Have [] u) t tokens rest h e =
    let same : u ≡ t = cc in
    subst (λ w. Spells w tokens rest × Fits w) same (subst (λ w. Spells u w rest) (sym h.1) h.2, h.4)
whole_found last (Have (frame ∷ frames) u) t tokens rest h e = absurd cc
whole_found last (HavePower frames u) t tokens rest h e = absurd cc
whole_found last (Need frames) t tokens rest h e = absurd cc
whole_found last (Greater frames p l) t tokens rest h e = absurd cc
whole_found last (Inside frames p) t tokens rest h e = absurd cc
whole_found last (InNote frames p c n) t tokens rest h e = absurd cc
whole_found last (InType frames p n) t tokens rest h e = absurd cc
whole_found last Refused t tokens rest h e = absurd cc

-- what is found is an expression
pub expr_found : (st : State) (t : ExprSyntax) (tokens rest : List Token) → SpellsPrefix st tokens rest → finish st ≡ Some t → Spells t tokens rest × Fits t
expr_found (Have frames u) t tokens rest h e = whole_found h.0.0 (reduce 9 frames u) t tokens rest (all_ended frames u tokens rest h.0) e
expr_found (HavePower frames u) t tokens rest h e = whole_found h.0 (reduce 9 frames u) t tokens rest (all_ended frames u tokens rest h) e
expr_found (Need frames) t tokens rest h e = absurd cc
expr_found (Greater frames p l) t tokens rest h e = absurd cc
expr_found (Inside frames p) t tokens rest h e = absurd cc
expr_found (InNote frames p c n) t tokens rest h e = absurd cc
expr_found (InType frames p n) t tokens rest h e = absurd cc
expr_found Refused t tokens rest h e = absurd cc
