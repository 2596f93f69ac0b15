-- What an expression spells is read as it: the whole grammar.
use Rattle.std.proofs.Common.{◌≡◌, ℕ, ℤ, pos, neg_ℤ, ◌<◌, List, [], ◌∷◌, ◌++◌, true, false, cond, Option, Some, None, refl, sym, ap, subst, ◌∙◌, arith, inl, inr, ◌⊎◌}
use Rattle.um_frac.specs.declared.number.Frac.{Frac}
use Rattle.std.proofs.lemmas.Bool.{lt-ltb}
use Rattle.um_syntax.specs.declared.token.Token.{Token}
use Rattle.um_syntax.specs.declared.token.Kind.{Kind}
use Rattle.um_tree.specs.RawTree.{TypeSyntax, BinderSyntax, ExprSyntax, ExprSyntaxes, FieldSyntaxes, FieldPart, truth_syntax, number_syntax, name_syntax, call_syntax, negate_syntax, not_syntax, pown_syntax, arith_syntax, compare_syntax, and_syntax, or_syntax, if_syntax, let_syntax, match_syntax, nil_syntax, list_syntax, cons_syntax, fields_syntax, field_syntax, bracket_expr_syntax, no_exprs, more_exprs, no_fields, more_fields, NoteSyntax}
use Rattle.um_unit_texts.specs.UnitTokens.{unit_token}
use Rattle.um_unit_texts.specs.UnitMachine.{power_in}
use Rattle.um_types.specs.TypeMachine.{NeedType}
use Rattle.um_types.specs.TypeGrammar.{TypeFits}
use Rattle.um_vocabulary.specs.declared.vocabulary.Keyword.TheVariants as keyword
use Rattle.um_vocabulary.specs.declared.vocabulary.Symbol.TheVariants as symbol
use Rattle.um_reader.specs.Machine.{Yields}
use Rattle.um_operands.specs.declared.infix.Infix.TheVariants as between
use Rattle.um_operands.specs.ExprBegun.{Frame, InBracket, InItem, InField, InValue, InBody, InTest, InThen, InElse, InMatched, InEmptyArm, InFullArm, InNegate, InNot, InPown, InRight, InArgument, top_bound, with_field, LetBinder, LetEqual, FieldName, FieldEqual, DotName, ArmBegin, ArmOpen, ArmClose, ArmArrow, HeadBinder, HeadCons, TailBinder, TailArrow, NilColon, PownMinus, PownDigits, PownClose, State, Need, Have, HavePower, Inside, InType, Refused}
use Rattle.um_operands.specs.ExprKinds.{is_power, is_plain_number}
use Rattle.um_forms.specs.declared.token.ExprToken.TheVariants.{Name as name, Number as number, Truth as truth, Operator as operator, Word as word, Mark as mark}
use Rattle.um_forms.specs.ExprTokens.{equal, minus, double_colon}
use Rattle.um_expr.specs.ExprGrammar.{First, FirstAt, AfterNumber, WrittenNote, EmptyArm, FullArm, NilSpells, FirstPower, PowerSpells, Spells, AllSpell, MoreItems, MoreFields, rank, Fits, AreAtoms, AllFit, FieldsFit}
use Rattle.um_forms.specs.ExprForms.{argument, inside, pown_after, with_after, bar_after, close_after, list_after, record_after, semi_after, in_after, then_after, else_after, begins_atom}
use Rattle.um_expr.specs.ExprMachine.{act, step}
use Rattle.um_expr.proofs.ExprEnds.{opened_call, last_argument, last_atom, atom_opened, atom_last, rank_low, arith_low, put, put_last, order_last, put_fields, put_field_last, field_order_last, ends_whole}
use Rattle.um_expr.proofs.ExprYields.{thence, yields_first, yields_at, yields_alike, yields_type, yields_type_end}
use Rattle.um_forms.specs.declared.token.ExprToken.{ExprToken}
use Rattle.um_syntax.specs.declared.token.Kind.TheVariants as kind
use Rattle.um_forms.specs.ExprTokens.{expr_token}
use Rattle.um_expr.proofs.ExprAtEnd.{at_end, ReadsTo, Reads, reads_then, plain_end, need_apart, is_less, end_alike, ends_first, ends_at}
use Rattle.um_expr.proofs.ExprFirsts.{first_atom, atom_alike}
use Rattle.um_expr.proofs.ExprComplete.{may, sign_ends, compare_ends, yields_binder, yields_written}

-- ---- the arms of a match, and the empty list

yields_bar : (frames : List Frame) (at : ℕ) (l : ExprSyntax) (tokens mid rest : List Token) → (tokens ≡ mid) ⊎ First (mark symbol.Bar) tokens mid → First (mark symbol.LeftBracket) mid rest
    → Yields step (Inside frames (ArmBegin at l)) tokens (Inside frames (ArmClose at l)) rest
yields_bar frames at l tokens mid rest (inl e) f =
    yields_first (Inside frames (ArmBegin at l)) (Inside frames (ArmClose at l)) (mark symbol.LeftBracket) tokens rest (subst (λ w. First (mark symbol.LeftBracket) w rest) (sym e) f) (λ p g k. refl)
yields_bar frames at l tokens mid rest (inr b) f =
    thence (yields_first (Inside frames (ArmBegin at l)) (Inside frames (ArmOpen at l)) (mark symbol.Bar) tokens mid b (λ p g k. refl))
    (yields_first (Inside frames (ArmOpen at l)) (Inside frames (ArmClose at l)) (mark symbol.LeftBracket) mid rest f (λ p g k. refl))

yields_empty_arm : (frames : List Frame) (at : ℕ) (l : ExprSyntax) (old : State) (begun tokens rest : List Token) → Reads old begun (InMatched at ∷ frames) l tokens → Fits l → EmptyArm tokens rest
    → Yields step old begun (Need (InEmptyArm at l ∷ frames)) rest
yields_empty_arm frames at l old begun tokens rest r fits s =
    thence (ends_first r (Inside frames (ArmBegin at l)) (word keyword.With) s.4 refl (λ p g k. ap with_after (ends_whole l (InMatched at ∷ frames) fits (omega arith))))
    (
    thence (yields_bar frames at l s.0 s.1 s.2 s.5 s.6)
    (
    thence (yields_first (Inside frames (ArmClose at l)) (Inside frames (ArmArrow at l)) (mark symbol.RightBracket) s.2 s.3 s.7 (λ p g k. refl))
    (yields_first (Inside frames (ArmArrow at l)) (Need (InEmptyArm at l ∷ frames)) (mark symbol.Arrow) s.3 rest s.8 (λ p g k. refl))
    )
    )

yields_full_arm : (frames : List Frame) (at : ℕ) (l a : ExprSyntax) (x y : BinderSyntax) (old : State) (begun tokens rest : List Token) → Reads old begun (InEmptyArm at l ∷ frames) a tokens → Fits a → FullArm x y tokens rest
    → Yields step old begun (Need (InFullArm at l a x y ∷ frames)) rest
yields_full_arm frames at l a x y old begun tokens rest r fits s =
    thence (ends_first r (Inside frames (HeadBinder at l a)) (mark symbol.Bar) s.4 refl (λ p g k. ap bar_after (ends_whole a (InEmptyArm at l ∷ frames) fits (omega arith))))
    (
    thence (yields_binder (Inside frames (HeadBinder at l a)) (λ z. Inside frames (HeadCons at l a z)) x s.0 s.1 s.5 (λ z p g k. refl) (λ p g k. refl))
    (
    thence (yields_first (Inside frames (HeadCons at l a x)) (Inside frames (TailBinder at l a x)) double_colon s.1 s.2 s.6 (λ p g k. refl))
    (
    thence (yields_binder (Inside frames (TailBinder at l a x)) (λ z. Inside frames (TailArrow at l a x z)) y s.2 s.3 s.7 (λ z p g k. refl) (λ p g k. refl))
    (yields_first (Inside frames (TailArrow at l a x y)) (Need (InFullArm at l a x y ∷ frames)) (mark symbol.Arrow) s.3 rest s.8 (λ p g k. refl))
    )
    )
    )

yields_nil : (frames : List Frame) (at : ℕ) (t : TypeSyntax) (tokens rest : List Token) → NilSpells at t tokens rest → TypeFits t → Yields step (Need frames) tokens (Have frames (nil_syntax at t)) rest
yields_nil frames at t tokens rest s fits =
    let list_at : ℕ = s.6.0.start in
    thence (yields_at (Need frames) (Need (InBracket at ∷ frames)) (mark symbol.LeftParen) at tokens s.0 s.5 (λ g k. refl))
    (
    thence
    (
    yields_at (Need (InBracket at ∷ frames)) (Need (InItem list_at [] ∷ InBracket at ∷ frames)) (mark symbol.LeftBracket) list_at s.0 s.1 (s.6.0, s.6.1, refl, s.6.2)
    (λ g k. refl)
    )
    (
    thence (yields_first (Need (InItem list_at [] ∷ InBracket at ∷ frames)) (Inside frames (NilColon at)) (mark symbol.RightBracket) s.1 s.2 s.7 (λ p g k. refl))
    (
    thence (yields_first (Inside frames (NilColon at)) (InType frames at (NeedType 0)) (mark symbol.Colon) s.2 s.3 s.8 (λ p g k. refl))
    (thence (yields_type frames at t s.3 s.4 s.9 fits) (yields_type_end frames at t s.4 rest s.10))
    )
    )
    )

-- ---- closing

closes_item : (frames : List Frame) (at : ℕ) (before : List ExprSyntax) (e : ExprSyntax) (old : State) (begun tokens rest : List Token) → Reads old begun (InItem at before ∷ frames) e tokens → Fits e
    → First (mark symbol.RightBracket) tokens rest → Yields step old begun (Have frames (list_syntax at (put before (more_exprs e no_exprs)))) rest
closes_item frames at before e old begun tokens rest r fits f =
    ends_first r (Have frames (list_syntax at (put before (more_exprs e no_exprs)))) (mark symbol.RightBracket) f refl
    (λ p g k. ap list_after (ends_whole e (InItem at before ∷ frames) fits (omega arith)) ∙ ap (λ w. Have frames (list_syntax at w)) (order_last before e))

next_item : (frames : List Frame) (at : ℕ) (before : List ExprSyntax) (e : ExprSyntax) (old : State) (begun tokens rest : List Token) → Reads old begun (InItem at before ∷ frames) e tokens → Fits e
    → First (mark symbol.Semicolon) tokens rest → Yields step old begun (Need (InItem at (before ++ e ∷ []) ∷ frames)) rest
next_item frames at before e old begun tokens rest r fits f =
    ends_first r (Need (InItem at (before ++ e ∷ []) ∷ frames)) (mark symbol.Semicolon) f refl (λ p g k. ap semi_after (ends_whole e (InItem at before ∷ frames) fits (omega arith)))

closes_field : (frames : List Frame) (at : ℕ) (before : List FieldPart) (place : ℕ) (x : List ℕ) (e : ExprSyntax) (old : State) (begun tokens rest : List Token) → Reads old begun (InField at before place x ∷ frames) e tokens → Fits e
    → First (mark symbol.RightBrace) tokens rest → Yields step old begun (Have frames (fields_syntax at (put_fields before (more_fields place x e no_fields)))) rest
closes_field frames at before place x e old begun tokens rest r fits f =
    ends_first r (Have frames (fields_syntax at (put_fields before (more_fields place x e no_fields)))) (mark symbol.RightBrace) f refl
    (λ p g k. ap record_after (ends_whole e (InField at before place x ∷ frames) fits (omega arith)) ∙ ap (λ w. Have frames (fields_syntax at w)) (field_order_last before place x e))

next_field : (frames : List Frame) (at : ℕ) (before : List FieldPart) (place : ℕ) (x : List ℕ) (e : ExprSyntax) (old : State) (begun tokens rest : List Token) → Reads old begun (InField at before place x ∷ frames) e tokens → Fits e
    → First (mark symbol.Semicolon) tokens rest → Yields step old begun (Inside frames (FieldName at (with_field before place x e))) rest
next_field frames at before place x e old begun tokens rest r fits f =
    ends_first r (Inside frames (FieldName at (with_field before place x e))) (mark symbol.Semicolon) f refl (λ p g k. ap semi_after (ends_whole e (InField at before place x ∷ frames) fits (omega arith)))

-- the name of a field and `=`
names_field : (frames : List Frame) (at : ℕ) (before : List FieldPart) (place : ℕ) (x : List ℕ) (tokens mid rest : List Token) → FirstAt (name x) place tokens mid → First equal mid rest
    → Yields step (Inside frames (FieldName at before)) tokens (Need (InField at before place x ∷ frames)) rest
names_field frames at before place x tokens mid rest f e =
    thence (yields_at (Inside frames (FieldName at before)) (Inside frames (FieldEqual at before place x)) (name x) place tokens mid f (λ g k. refl))
    (yields_first (Inside frames (FieldEqual at before place x)) (Need (InField at before place x ∷ frames)) equal mid rest e (λ p g k. refl))

-- ---- arguments

first_argument : (at : ℕ) (f : List ℕ) (frames : List Frame) → 1 < top_bound frames → argument frames (name_syntax at f) ≡ Some (InArgument at f [] ∷ frames)
first_argument at f [] lt = refl
first_argument at f (InBracket m ∷ frames) lt = refl
first_argument at f (InItem m before ∷ frames) lt = refl
first_argument at f (InField m before place x ∷ frames) lt = refl
first_argument at f (InValue m x ∷ frames) lt = refl
first_argument at f (InBody m x value ∷ frames) lt = refl
first_argument at f (InTest m ∷ frames) lt = refl
first_argument at f (InThen m test ∷ frames) lt = refl
first_argument at f (InElse m test one ∷ frames) lt = refl
first_argument at f (InMatched m ∷ frames) lt = refl
first_argument at f (InEmptyArm m l ∷ frames) lt = refl
first_argument at f (InFullArm m l a x y ∷ frames) lt = refl
first_argument at f (InNegate m ∷ frames) lt = refl
first_argument at f (InNot m ∷ frames) lt = absurd (omega arith)
first_argument at f (InPown m ∷ frames) lt = absurd (omega arith)
first_argument at f (InRight m sign left ∷ frames) lt = rw lt-ltb refl
first_argument at f (InArgument m g before ∷ frames) lt = absurd (omega arith)

-- an atom after an atom
begins_atoms : (w : ExprToken) → begins_atom w ≡ true → is_less w ≡ false
begins_atoms (operator sign) h = absurd cc
begins_atoms w h = refl

begins_argument : (frames new fs : List Frame) (t atom u : ExprSyntax) (old : State) (begun tokens mid rest : List Token) → ReadsTo old begun frames t tokens → argument frames t ≡ Some new → Spells atom tokens mid → Fits atom
    → rank atom ≡ 0 → ReadsTo (Need new) tokens fs u rest → ReadsTo old begun fs u rest
begins_argument frames new fs t atom u old begun tokens mid rest r e s fits low p =
    let y : Yields step (at_end r.power frames t) tokens (at_end p.power fs u) rest
    = yields_alike begins_atom (at_end r.power frames t) (Need new) (at_end p.power fs u) tokens rest (first_atom atom tokens mid s fits low)
    (λ w at g k h. end_alike r.power frames t w at g k (begins_atoms w h) ∙ atom_alike frames new t e w at g k h) (need_apart p.power new fs u) p.yields in
    reads_then r.yields (record { power = p.power; yields = y; number = p.number })

-- an atom leaves the frames as they were
at_atom : (old : State) (tokens : List Token) (frames : List Frame) (t : ExprSyntax) (rest : List Token) → rank t ≡ 0 → Reads old tokens frames t rest → ReadsTo old tokens frames t rest
at_atom old tokens frames t rest low r = subst (λ u. ReadsTo old tokens frames u rest) (atom_last t low) (subst (λ fs. ReadsTo old tokens fs (last_atom t) rest) (atom_opened t frames low) r)

-- ---- numbers

number_end : (at : ℕ) (c : Frac) (n : Option NoteSyntax) (tokens next rest : List Token) → FirstAt (number c) at tokens next → WrittenNote n next rest → is_plain_number (number_syntax at c n) ≡ true → AfterNumber tokens rest
number_end at c None tokens next rest f s h = ([], tokens, c, refl, (f.0, f.1, f.3 ∙ ap (λ w. f.0 ∷ w) s))
number_end at c (Some n) tokens next rest f s h = absurd cc

-- what is a power is a number
power_is : (k : Kind) (n : ℕ) → power_in (unit_token k) ≡ Some n → (c : Frac) × (expr_token k ≡ number c)
power_is (kind.Number value digits one) n e = (value, refl)
power_is (kind.Name x) n e = absurd cc
power_is (kind.Var x) n e = absurd cc
power_is (kind.Word k) n e = absurd cc
power_is kind.Hole n e = absurd cc
power_is (kind.Sign s) n e = absurd cc

no_power : (t : ExprSyntax) → rank t ≡ 0 → is_power t ≡ false
no_power (pown_syntax at e k) low = absurd (omega arith)
no_power t low = refl

-- the number of a power
bare_ends : (frames : List Frame) (at : ℕ) (e : ExprSyntax) (n : ℕ) (old : State) (begun tokens rest : List Token) → ReadsTo old begun (InPown at ∷ frames) e tokens → FirstPower n tokens rest
    → ReadsTo old begun frames (pown_syntax at e (pos n)) rest
bare_ends frames at e n old begun tokens rest r f =
    let token : Token = f.0 in
    let is = power_is token.kind n f.1 in
    let held : State = at_end r.power (InPown at ∷ frames) e in
    let y : Yields step held tokens (HavePower frames (pown_syntax at e (pos n))) rest = (
      token ∷ [],
      f.2,
      ap (λ w. act held w token.start token.glued token.kind) is.1
          ∙ end_alike r.power (InPown at ∷ frames) e (number is.0) token.start token.glued token.kind refl
          ∙ ap (pown_after (InPown at ∷ frames) e) f.1,
    )
    in reads_then r.yields (record { power = true; yields = y; number = λ h. ([], tokens, is.0, refl, (token, is.1, f.2)) })

-- the number of a power in brackets
digits_end : (frames : List Frame) (at : ℕ) (e : ExprSyntax) (n : ℕ) (tokens rest : List Token) → FirstPower n tokens rest
    → Yields step (Inside frames (PownDigits at e)) tokens (Inside frames (PownClose at e (neg_ℤ (pos n)))) rest
digits_end frames at e n tokens rest f =
    let token : Token = f.0 in (token ∷ [], f.2, ap (λ o. inside frames (PownDigits at e) (expr_token token.kind) token.start o) f.1)

power_ends : (frames : List Frame) (at : ℕ) (e : ExprSyntax) (k : ℤ) (old : State) (begun tokens rest : List Token) → ReadsTo old begun (InPown at ∷ frames) e tokens → PowerSpells k tokens rest
    → ReadsTo old begun frames (pown_syntax at e k) rest
power_ends frames at e k old begun tokens rest r (inl s) =
    subst (λ w. ReadsTo old begun frames (pown_syntax at e w) rest) (sym s.1) (bare_ends frames at e s.0 old begun tokens rest r s.2)
power_ends frames at e k old begun tokens rest r (inr s) =
    let power : ℤ = neg_ℤ (pos s.0) in
    let y : Yields step old begun (Have frames (pown_syntax at e power)) rest
    = thence (ends_first r (Inside frames (PownMinus at e)) (mark symbol.LeftParen) s.5 refl (λ p g w. refl))
    (
    thence (yields_first (Inside frames (PownMinus at e)) (Inside frames (PownDigits at e)) minus s.1 s.2 s.6 (λ p g w. refl))
    (
    thence (digits_end frames at e s.0 s.2 s.3 s.7)
    (yields_first (Inside frames (PownClose at e power)) (Have frames (pown_syntax at e power)) (mark symbol.RightParen) s.3 rest s.8 (λ p g w. refl))
    )
    ) in
    subst (λ w. ReadsTo old begun frames (pown_syntax at e w) rest) (sym s.4) (plain_end old begun frames (pown_syntax at e power) rest y refl)

mutual
  pub complete : (t : ExprSyntax) (frames : List Frame) (tokens rest : List Token) → Spells t tokens rest → Fits t → rank t < top_bound frames → Reads (Need frames) tokens frames t rest
  complete (truth_syntax at b) frames tokens rest s fits lt = plain_end (Need frames) tokens frames (truth_syntax at b) rest (yields_at (Need frames) (Have frames (truth_syntax at b)) (truth b) at tokens rest s (λ g k. refl)) refl
  complete (number_syntax at c n) frames tokens rest s fits lt =
      let y : Yields step (Need frames) tokens (Have frames (number_syntax at c n)) rest
      = thence (yields_at (Need frames) (Have frames (number_syntax at c None)) (number c) at tokens s.0 s.1 (λ g k. refl)) (yields_written frames at c n s.0 rest s.2 fits) in
      record { power = false; yields = y; number = λ h. number_end at c n tokens s.0 rest s.1 s.2 h }
  complete (name_syntax at x) frames tokens rest s fits lt = plain_end (Need frames) tokens frames (name_syntax at x) rest (yields_at (Need frames) (Have frames (name_syntax at x)) (name x) at tokens rest s (λ g k. refl)) refl
  complete (call_syntax at f no_exprs) frames tokens rest s fits lt = absurd fits.0
  complete (call_syntax at f (more_exprs e es)) frames tokens rest s fits lt =
      let first : List Frame = InArgument at f [] ∷ frames in
      let named : ReadsTo (Need frames) tokens frames (name_syntax at f) s.0
      = plain_end (Need frames) tokens frames (name_syntax at f) s.0 (yields_at (Need frames) (Have frames (name_syntax at f)) (name f) at tokens s.0 s.1 (λ g k. refl)) refl in
      let atom : ReadsTo (Need first) s.0 first e s.2.0 = at_atom (Need first) s.0 first e s.2.0 fits.1.0 (complete e first s.0 s.2.0 s.2.1 fits.1.1 (omega (arith, fits.1.0))) in
      complete_arguments es e (call_syntax at f (more_exprs e es)) at f [] frames (Need frames) tokens s.2.0 rest
      (begins_argument frames first first (name_syntax at f) e e (Need frames) tokens s.0 s.2.0 s.2.0 named (first_argument at f frames lt) s.2.1 fits.1.1 fits.1.0 atom) s.2.2 fits.1.2
  complete (negate_syntax at e) frames tokens rest s fits lt =
      reads_then (yields_at (Need frames) (Need (InNegate at ∷ frames)) minus at tokens s.0 s.1 (λ g k. may frames 2 (Need (InNegate at ∷ frames)) lt))
      (complete e (InNegate at ∷ frames) s.0 rest s.2 fits.1 (omega (arith, fits.0)))
  complete (not_syntax at e) frames tokens rest s fits lt =
      reads_then (yields_at (Need frames) (Need (InNot at ∷ frames)) (word keyword.Not) at tokens s.0 s.1 (λ g k. may frames 1 (Need (InNot at ∷ frames)) lt))
      (complete e (InNot at ∷ frames) s.0 rest s.2 fits.1 (omega (arith, fits.0)))
  complete (pown_syntax at e k) frames tokens rest s fits lt =
      let inner : List Frame = InPown at ∷ frames in
      let part : ReadsTo (Need inner) s.0 inner e s.1 = at_atom (Need inner) s.0 inner e s.1 fits.0 (complete e inner s.0 s.1 s.3 fits.1 (omega (arith, fits.0))) in
      power_ends frames at e k (Need frames) tokens s.1 rest (reads_then (yields_at (Need frames) (Need inner) (word keyword.Pown) at tokens s.0 s.2 (λ g w. may frames 1 (Need inner) lt)) part) s.4
  complete (arith_syntax at op a b) frames tokens rest s fits lt =
      let low = arith_low op in
      reads_then (sign_ends (between.Arith op) at frames a (Need frames) tokens s.0 s.1 (complete a frames tokens s.0 s.2 fits.2 (omega (arith, fits.0))) fits.2 fits.0 lt s.3 refl (λ p g k. refl))
      (complete b (InRight at (between.Arith op) a ∷ frames) s.1 rest s.4 fits.3 fits.1)
  complete (compare_syntax at sign a b) frames tokens rest s fits lt =
      compare_ends sign at frames a b (Need frames) tokens s.0 s.1 rest (complete a frames tokens s.0 s.2 fits.2 (omega (arith, fits.0))) fits.2 fits.0 lt s.3 s.4
      (complete b (InRight at (between.Compare sign) a ∷ frames) s.1 rest s.4 fits.3 fits.1)
  complete (and_syntax at a b) frames tokens rest s fits lt =
      reads_then (sign_ends between.And at frames a (Need frames) tokens s.0 s.1 (complete a frames tokens s.0 s.2 fits.2 (omega (arith, fits.0))) fits.2 fits.0 lt s.3 refl (λ p g k. refl))
      (complete b (InRight at between.And a ∷ frames) s.1 rest s.4 fits.3 fits.1)
  complete (or_syntax at a b) frames tokens rest s fits lt =
      reads_then (sign_ends between.Or at frames a (Need frames) tokens s.0 s.1 (complete a frames tokens s.0 s.2 fits.2 (omega (arith, fits.0))) fits.2 fits.0 lt s.3 refl (λ p g k. refl))
      (complete b (InRight at between.Or a ∷ frames) s.1 rest s.4 fits.3 fits.1)
  complete (cons_syntax at a b) frames tokens rest s fits lt =
      reads_then (sign_ends between.Cons at frames a (Need frames) tokens s.0 s.1 (complete a frames tokens s.0 s.2 fits.2 (omega (arith, fits.0))) fits.2 fits.0 lt s.3 refl (λ p g k. refl))
      (complete b (InRight at between.Cons a ∷ frames) s.1 rest s.4 fits.3 fits.1)
  complete (if_syntax at c a b) frames tokens rest s fits lt =
      let test : Yields step (Need frames) tokens (Need (InThen at c ∷ frames)) s.2
      = ends_first (reads_then (yields_at (Need frames) (Need (InTest at ∷ frames)) (word keyword.If) at tokens s.0 s.5 (λ g k. may frames 9 (Need (InTest at ∷ frames)) lt)) (complete c (InTest at ∷ frames) s.0 s.1 s.6 fits.0 (omega (arith, rank_low c))))
      (Need (InThen at c ∷ frames)) (word keyword.Then) s.7 refl (λ p g k. ap then_after (ends_whole c (InTest at ∷ frames) fits.0 (omega arith))) in
      let one : Yields step (Need frames) tokens (Need (InElse at c a ∷ frames)) s.4
      = ends_first (reads_then test (complete a (InThen at c ∷ frames) s.2 s.3 s.8 fits.1 (omega (arith, rank_low a))))
      (Need (InElse at c a ∷ frames)) (word keyword.Else) s.9 refl (λ p g k. ap else_after (ends_whole a (InThen at c ∷ frames) fits.1 (omega arith))) in
      reads_then one (complete b (InElse at c a ∷ frames) s.4 rest s.10 fits.2 (omega (arith, rank_low b)))
  complete (let_syntax at x a b) frames tokens rest s fits lt =
      let opens : Yields step (Need frames) tokens (Need (InValue at x ∷ frames)) s.2
      = thence (yields_at (Need frames) (Inside frames (LetBinder at)) (word keyword.Let) at tokens s.0 s.5 (λ g k. may frames 9 (Inside frames (LetBinder at)) lt))
      (
      thence (yields_binder (Inside frames (LetBinder at)) (λ z. Inside frames (LetEqual at z)) x s.0 s.1 s.6 (λ z p g k. refl) (λ p g k. refl))
      (yields_first (Inside frames (LetEqual at x)) (Need (InValue at x ∷ frames)) equal s.1 s.2 s.7 (λ p g k. refl))
      ) in
      let value : Yields step (Need frames) tokens (Need (InBody at x a ∷ frames)) s.4
      = ends_first (reads_then opens (complete a (InValue at x ∷ frames) s.2 s.3 s.8 fits.0 (omega (arith, rank_low a))))
      (Need (InBody at x a ∷ frames)) (word keyword.In) s.9 refl (λ p g k. ap in_after (ends_whole a (InValue at x ∷ frames) fits.0 (omega arith))) in
      reads_then value (complete b (InBody at x a ∷ frames) s.4 rest s.10 fits.1 (omega (arith, rank_low b)))
  complete (match_syntax at l a x y b) frames tokens rest s fits lt =
      let list : Reads (Need frames) tokens (InMatched at ∷ frames) l s.1
      = reads_then (yields_at (Need frames) (Need (InMatched at ∷ frames)) (word keyword.Match) at tokens s.0 s.5 (λ g k. may frames 9 (Need (InMatched at ∷ frames)) lt)) (complete l (InMatched at ∷ frames) s.0 s.1 s.6 fits.0 (omega (arith, rank_low l))) in
      let empty : Reads (Need frames) tokens (InEmptyArm at l ∷ frames) a s.3
      = reads_then (yields_empty_arm frames at l (Need frames) tokens s.1 s.2 list fits.0 s.7) (complete a (InEmptyArm at l ∷ frames) s.2 s.3 s.8 fits.1 (omega (arith, rank_low a))) in
      reads_then (yields_full_arm frames at l a x y (Need frames) tokens s.3 s.4 empty fits.1 s.9) (complete b (InFullArm at l a x y ∷ frames) s.4 rest s.10 fits.2 (omega (arith, rank_low b)))
  complete (nil_syntax at t) frames tokens rest s fits lt = plain_end (Need frames) tokens frames (nil_syntax at t) rest (yields_nil frames at t tokens rest s fits) refl
  complete (list_syntax at no_exprs) frames tokens rest s fits lt = absurd s.3
  complete (list_syntax at (more_exprs e es)) frames tokens rest s fits lt =
      let first : Reads (Need frames) tokens (InItem at [] ∷ frames) e s.3.0
      = reads_then (yields_at (Need frames) (Need (InItem at [] ∷ frames)) (mark symbol.LeftBracket) at tokens s.0 s.2 (λ g k. refl)) (complete e (InItem at [] ∷ frames) s.0 s.3.0 s.3.1 fits.0 (omega (arith, rank_low e))) in
      plain_end (Need frames) tokens frames (list_syntax at (more_exprs e es)) rest (complete_items es e at [] frames (Need frames) tokens s.3.0 s.1 rest first s.3.2 fits.0 fits.1 s.4) refl
  complete (fields_syntax at no_fields) frames tokens rest s fits lt = absurd s.3
  complete (fields_syntax at (more_fields place x e fs)) frames tokens rest s fits lt =
      let first : Reads (Need frames) tokens (InField at [] place x ∷ frames) e s.3.2
      = reads_then
      (thence (yields_at (Need frames) (Inside frames (FieldName at [])) (mark symbol.LeftBrace) at tokens s.0 s.2 (λ g k. refl)) (names_field frames at [] place x s.0 s.3.0 s.3.1 s.3.3 s.3.4))
      (complete e (InField at [] place x ∷ frames) s.3.1 s.3.2 s.3.5 fits.0 (omega (arith, rank_low e))) in
      plain_end (Need frames) tokens frames (fields_syntax at (more_fields place x e fs)) rest (complete_fields fs place x e at [] frames (Need frames) tokens s.3.2 s.1 rest first s.3.6 fits.0 fits.1 s.4) refl
  complete (field_syntax at place x e) frames tokens rest s fits lt =
      let part : ReadsTo (Need frames) tokens frames e s.0 = at_atom (Need frames) tokens frames e s.0 fits.0 (complete e frames tokens s.0 s.2 fits.1 (omega (arith, fits.0))) in
      let y : Yields step (Need frames) tokens (Have frames (field_syntax at place x e)) rest
      = thence (ends_at part (Inside frames (DotName at e)) (mark symbol.Dot) at s.3 refl (λ g k. ap (λ b. cond b Refused (Inside frames (DotName at e))) (no_power e fits.0)))
      (yields_at (Inside frames (DotName at e)) (Have frames (field_syntax at place x e)) (name x) place s.1 rest s.4 (λ g k. refl)) in
      plain_end (Need frames) tokens frames (field_syntax at place x e) rest y refl
  complete (bracket_expr_syntax at e) frames tokens rest s fits lt =
      let inner : Reads (Need frames) tokens (InBracket at ∷ frames) e s.1
      = reads_then (yields_at (Need frames) (Need (InBracket at ∷ frames)) (mark symbol.LeftParen) at tokens s.0 s.2 (λ g k. refl)) (complete e (InBracket at ∷ frames) s.0 s.1 s.3 fits (omega (arith, rank_low e))) in
      let y : Yields step (Need frames) tokens (Have frames (bracket_expr_syntax at e)) rest
      = ends_first inner (Have frames (bracket_expr_syntax at e)) (mark symbol.RightParen) s.4 refl (λ p g k. ap close_after (ends_whole e (InBracket at ∷ frames) fits (omega arith))) in
      plain_end (Need frames) tokens frames (bracket_expr_syntax at e) rest y refl

  -- the arguments after the first
  complete_arguments : (es : ExprSyntaxes) (e t : ExprSyntax) (at : ℕ) (f : List ℕ) (before : List ExprSyntax) (frames : List Frame) (old : State) (begun tokens rest : List Token)
      → ReadsTo old begun (InArgument at f before ∷ frames) e tokens → AllSpell es tokens rest → AreAtoms es → ReadsTo old begun (opened_call frames at f before (more_exprs e es)) (last_argument t (more_exprs e es)) rest
  complete_arguments no_exprs e t at f before frames old begun tokens rest r s fits = subst (λ w. ReadsTo old begun (InArgument at f before ∷ frames) e w) s r
  complete_arguments (more_exprs d es) e t at f before frames old begun tokens rest r s fits =
      let held : List Frame = InArgument at f before ∷ frames in
      let more : List Frame = InArgument at f (before ++ e ∷ []) ∷ frames in
      let atom : ReadsTo (Need more) tokens more d s.0 = at_atom (Need more) tokens more d s.0 fits.0 (complete d more tokens s.0 s.1 fits.1 (omega (arith, fits.0))) in
      complete_arguments es d t at f (before ++ e ∷ []) frames old begun s.0 rest (begins_argument held more more e d d old begun tokens s.0 s.0 r refl s.1 fits.1 fits.0 atom) s.2 fits.2

  -- the items after the first, and `]`
  complete_items : (es : ExprSyntaxes) (e : ExprSyntax) (at : ℕ) (before : List ExprSyntax) (frames : List Frame) (old : State) (begun tokens mid rest : List Token) → Reads old begun (InItem at before ∷ frames) e tokens
      → MoreItems es tokens mid → Fits e → AllFit es → First (mark symbol.RightBracket) mid rest → Yields step old begun (Have frames (list_syntax at (put before (more_exprs e es)))) rest
  complete_items no_exprs e at before frames old begun tokens mid rest r s fit fits f =
      closes_item frames at before e old begun tokens rest r fit (subst (λ w. First (mark symbol.RightBracket) w rest) (sym s) f)
  complete_items (more_exprs d es) e at before frames old begun tokens mid rest r s fit fits f =
      let more : List ExprSyntax = before ++ e ∷ [] in
      let next : Reads old begun (InItem at more ∷ frames) d s.1 = reads_then (next_item frames at before e old begun tokens s.0 r fit s.2) (complete d (InItem at more ∷ frames) s.0 s.1 s.3 fits.0 (omega (arith, rank_low d))) in
      subst (λ w. Yields step old begun (Have frames (list_syntax at w)) rest) (put_last before e (more_exprs d es)) (complete_items es d at more frames old begun s.1 mid rest next s.4 fits.0 fits.1 f)

  -- the fields after the first, and `}`
  complete_fields : (fs : FieldSyntaxes) (place : ℕ) (x : List ℕ) (e : ExprSyntax) (at : ℕ) (before : List FieldPart) (frames : List Frame) (old : State) (begun tokens mid rest : List Token)
      → Reads old begun (InField at before place x ∷ frames) e tokens → MoreFields fs tokens mid → Fits e → FieldsFit fs → First (mark symbol.RightBrace) mid rest
      → Yields step old begun (Have frames (fields_syntax at (put_fields before (more_fields place x e fs)))) rest
  complete_fields no_fields place x e at before frames old begun tokens mid rest r s fit fits f =
      closes_field frames at before place x e old begun tokens rest r fit (subst (λ w. First (mark symbol.RightBrace) w rest) (sym s) f)
  complete_fields (more_fields q y d fs) place x e at before frames old begun tokens mid rest r s fit fits f =
      let more : List FieldPart = with_field before place x e in
      let next : Reads old begun (InField at more q y ∷ frames) d s.3
      = reads_then (thence (next_field frames at before place x e old begun tokens s.0 r fit s.4) (names_field frames at more q y s.0 s.1 s.2 s.5 s.6)) (complete d (InField at more q y ∷ frames) s.2 s.3 s.7 fits.0 (omega (arith, rank_low d))) in
      subst (λ w. Yields step old begun (Have frames (fields_syntax at w)) rest) (put_field_last before place x e (more_fields q y d fs)) (complete_fields fs q y d at more frames old begun s.3 mid rest next s.8 fits.0 fits.1 f)
