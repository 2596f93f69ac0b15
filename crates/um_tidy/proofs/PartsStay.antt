-- The tokens of the parts of expressions (binders, units, powers, arms), in a text laid out anew, are those of the
-- same parts, places aside.
use Rattle.std.proofs.Common.{◌≡◌, refl, ap, ◌∙◌, subst, ℕ, ℤ, Bool, true, false, List, [], Option, Some, None, ◌⊎◌, inl, inr, ⊎_elim}
use Rattle.um_syntax.specs.declared.token.Token.{Token}
use Rattle.um_syntax.specs.declared.token.Kind.{Kind}
use Rattle.um_syntax.specs.declared.token.Kind.TheVariants as kind
use Rattle.um_vocabulary.specs.declared.vocabulary.Keyword.TheVariants as keyword
use Rattle.um_vocabulary.specs.declared.vocabulary.Symbol.TheVariants as symbol
use Rattle.um_tree.specs.declared.expression.Arith.TheVariants as arith_of
use Rattle.um_tree.specs.declared.expression.Sign.TheVariants as compare
use Rattle.um_tree.specs.RawTree.{NoteSyntax, BinderSyntax}
use Rattle.um_operands.specs.declared.infix.Infix.TheVariants as infix_of
use Rattle.um_unit_texts.specs.UnitTokens.{unit_token}
use Rattle.um_unit_texts.specs.UnitMachine.{power_in}
use Rattle.um_forms.specs.declared.token.ExprToken.TheVariants.{Mark as mark}
use Rattle.um_forms.specs.ExprTokens.{expr_token}
use Rattle.um_expr.specs.ExprGrammar.{First, AfterNumber, BinderSpells, WrittenNote, EmptyArm, FullArm, PowerSpells, NoteFitsIn}
use Rattle.um_expr.proofs.ExprTokenKinds.{mark_is, greater_is}
use Rattle.um_show.specs.Unplaced.{bare_written, bare_binder}
use Rattle.um_tidy.specs.declared.stand.Next.{Next}
use Rattle.um_tidy.specs.declared.stand.Next.TheVariants as next_of
use Rattle.um_tidy.specs.declared.stand.Within.TheVariants as within_of
use Rattle.um_tidy.specs.declared.stand.Stand.{Stand}
use Rattle.um_tidy.specs.Stands.{hole_stand, less_stand, kind_stand}
use Rattle.um_tidy.proofs.StandAgain.{is_number_next, is_less}
use Rattle.um_tidy.proofs.SpacedPieces.{never, is_operand, operand_names, named, bracket_binds}
use Rattle.um_tidy.proofs.TypesSpaced.{greater_is as angle_is}
use Rattle.um_tidy.proofs.TokenKinds.{word_is, truth_word, bound_kind, bound_is, operator_is}
use Rattle.um_tidy.proofs.Alike.{step}
use Rattle.um_tidy.proofs.UnitsStay.{IsNumber}
use Rattle.um_tidy.proofs.TypesStay.{note_stays}
use Rattle.um_tidy.proofs.InfixStays.{Here}

-- ---- what is bound

pub record BinderStays (x : BinderSyntax) (m : Next) (rest others : List Token) : Type 0 where
  pub again : BinderSyntax
  pub left : List Token
  pub spelled : BinderSpells again others left
  pub same : bare_binder again ≡ bare_binder x
  pub later : Here rest m left

-- where a name and `_` leave the table alike
pub binder_stays : (x : BinderSyntax) (tokens rest : List Token) → BinderSpells x tokens rest → (n m : Next) (others : List Token) → ((g : Bool) → (kind_stand n within_of.Plain g (bound_kind x.name)).next ≡ m) → ((g : Bool) → (kind_stand n within_of.Plain g (bound_kind x.name)).within ≡ within_of.Plain)
    → Here tokens n others → BinderStays x m rest others
binder_stays x tokens rest s n m others next within a =
    let o = step s.0 tokens rest (bound_kind x.name) n m within_of.Plain within_of.Plain others (bound_is x.name s.0.kind s.1) (next s.0.glued) (within s.0.glued) s.3 a in
    record { again = record { at = o.token.start; name = x.name }; left = o.left; spelled = (o.token, ap expr_token o.same ∙ s.1, refl, o.first); same = refl; later = o.later }

-- ---- parts of expressions

pub record WrittenStays (n : Option NoteSyntax) (tokens rest others : List Token) : Type 0 where
  pub again : Option NoteSyntax
  pub left : List Token
  pub next : Next
  pub operand : is_operand next ≡ true
  pub number : is_number_next next ≡ true → tokens ≡ rest
  pub spelled : WrittenNote again others left
  pub fits : NoteFitsIn again
  pub same : bare_written again ≡ bare_written n
  pub later : Here rest next left

-- directly behind a number
pub written_stays : (n : Option NoteSyntax) (tokens rest : List Token) → WrittenNote n tokens rest → NoteFitsIn n → (others : List Token) → Here tokens next_of.Number others → WrittenStays n tokens rest others
written_stays None tokens rest s f others a =
    record { again = None; left = others; next = next_of.Number; operand = refl; number = λ e. s; spelled = refl; fits = tt; same = refl; later = subst (λ ts. Here ts next_of.Number others) s a }
written_stays (Some n) tokens rest s f others a =
    let is = operator_is s.2.0.kind (infix_of.Compare compare.Lt) s.2.1 in
    let o = step s.2.0 tokens s.0 (kind.Sign symbol.Less) next_of.Number next_of.Operand within_of.Plain within_of.Angle others is (ap (λ c. (less_stand c within_of.Plain).next) s.2.2) (ap (λ c. (less_stand c within_of.Plain).within) s.2.2) s.2.3 a in
    let r = note_stays n s.0 s.1 s.3 f o.left o.later in
    let g = angle_is r.next r.ends in
    let c = step s.4.0 s.1 rest (kind.Sign symbol.Greater) r.next next_of.Ended within_of.Angle within_of.Plain r.left (greater_is s.4.0.kind s.4.1) (ap (λ (z : Stand). z.next) g) (ap (λ (z : Stand). z.within) g) s.4.2 r.later in
    record {
      again = Some r.again;
      left = c.left;
      next = next_of.Ended;
      operand = refl;
      number = λ e. never e;
      spelled = (o.left, r.left, (o.token, ap expr_token o.same ∙ s.2.1, o.number refl (ap is_less is) ∙ s.2.2, o.first), r.spelled, (c.token, ap expr_token c.same ∙ s.4.1, c.first));
      fits = r.fits;
      same = ap (λ m. Some m) r.same;
      later = c.later;
    }

power_number : (k : Kind) (n : ℕ) → power_in (unit_token k) ≡ Some n → IsNumber k
power_number (kind.Name y) n e = absurd cc
power_number (kind.Var y) n e = absurd cc
power_number (kind.Number value digits one) n e = record { value = value; digits = digits; one = one; is = refl }
power_number (kind.Word k) n e = absurd cc
power_number kind.Hole n e = absurd cc
power_number (kind.Sign k) n e = absurd cc

pub record PowerStays (k : ℤ) (tokens rest others : List Token) : Type 0 where
  pub left : List Token
  pub next : Next
  pub operand : is_operand next ≡ true
  pub number : is_number_next next ≡ true → AfterNumber tokens rest
  pub spelled : PowerSpells k others left
  pub later : Here rest next left

pub power_stays : (k : ℤ) (tokens rest : List Token) → PowerSpells k tokens rest → (n : Next) → is_operand n ≡ true → (others : List Token) → Here tokens n others → PowerStays k tokens rest others
power_stays k tokens rest s n e others a =
    ⊎_elim
    (λ p.
    let t = p.2.0 in
    let v = power_number t.kind p.0 p.2.1 in
    let o = step t tokens rest (kind.Number v.value v.digits v.one) n next_of.Number within_of.Plain within_of.Plain others v.is refl refl p.2.2 a in
    record {
      left = o.left;
      next = next_of.Number;
      operand = refl;
      number = λ h. ([], tokens, v.value, refl, (t, ap expr_token v.is, p.2.2));
      spelled = inl (p.0, p.1, (o.token, ap (λ z. power_in (unit_token z)) o.same ∙ p.2.1, o.first));
      later = o.later;
    })
    (λ m.
    let b = bracket_binds n within_of.Plain (operand_names n e) in
    let o = step m.5.0 tokens m.1 (kind.Sign symbol.LeftParen) n next_of.Binds within_of.Plain within_of.Plain others (mark_is m.5.0.kind symbol.LeftParen m.5.1) (ap (λ (z : Stand). z.next) b) (ap (λ (z : Stand). z.within) b) m.5.2 a in
    let i = step m.6.0 m.1 m.2 (kind.Sign symbol.Minus) next_of.Binds next_of.Operand within_of.Plain within_of.Plain o.left (operator_is m.6.0.kind (infix_of.Arith arith_of.Sub) m.6.1) refl refl m.6.2 o.later in
    let t = m.7.0 in
    let v = power_number t.kind m.0 m.7.1 in
    let d = step t m.2 m.3 (kind.Number v.value v.digits v.one) next_of.Operand next_of.Number within_of.Plain within_of.Plain i.left v.is refl refl m.7.2 i.later in
    let c = step m.8.0 m.3 rest (kind.Sign symbol.RightParen) next_of.Number next_of.Ended within_of.Plain within_of.Plain d.left (mark_is m.8.0.kind symbol.RightParen m.8.1) refl refl m.8.2 d.later in
    record {
      left = c.left;
      next = next_of.Ended;
      operand = refl;
      number = λ h. never h;
      spelled = inr (
        m.0,
        o.left,
        i.left,
        d.left,
        m.4,
        (o.token, ap expr_token o.same ∙ m.5.1, o.first),
        (i.token, ap expr_token i.same ∙ m.6.1, i.first),
        (d.token, ap (λ z. power_in (unit_token z)) d.same ∙ m.7.1, d.first),
        (c.token, ap expr_token c.same ∙ m.8.1, c.first),
      );
      later = c.later;
    })
    s

pub record ArmStays (rest others : List Token) : Type 0 where
  pub left : List Token
  pub spelled : EmptyArm others left
  pub later : Here rest next_of.Operand left

record BarStays (empty others : List Token) : Type 0 where
  pub left : List Token
  pub spelled : (others ≡ left) ⊎ First (mark symbol.Bar) others left
  pub later : Here empty next_of.Operand left

bar_stays : (arm empty : List Token) → (arm ≡ empty) ⊎ First (mark symbol.Bar) arm empty → (others : List Token) → Here arm next_of.Operand others → BarStays empty others
bar_stays arm empty s others a =
    ⊎_elim
    (λ e. record { left = others; spelled = inl refl; later = subst (λ ts. Here ts next_of.Operand others) e a })
    (λ b.
    let o = step b.0 arm empty (kind.Sign symbol.Bar) next_of.Operand next_of.Operand within_of.Plain within_of.Plain others (mark_is b.0.kind symbol.Bar b.1) refl refl b.2 a in
    record { left = o.left; spelled = inr (o.token, ap expr_token o.same ∙ b.1, o.first); later = o.later })
    s

pub empty_arm_stays : (tokens rest : List Token) → EmptyArm tokens rest → (n : Next) (others : List Token) → Here tokens n others → ArmStays rest others
empty_arm_stays tokens rest s n others a =
    let w = step s.4.0 tokens s.0 (kind.Word keyword.With) n next_of.Operand within_of.Plain within_of.Plain others (word_is s.4.0.kind keyword.With s.4.1) refl refl s.4.2 a in
    let b = bar_stays s.0 s.1 s.5 w.left w.later in
    let o = step s.6.0 s.1 s.2 (kind.Sign symbol.LeftBracket) next_of.Operand next_of.Operand within_of.Plain within_of.Plain b.left (mark_is s.6.0.kind symbol.LeftBracket s.6.1) refl refl s.6.2 b.later in
    let c = step s.7.0 s.2 s.3 (kind.Sign symbol.RightBracket) next_of.Operand next_of.Ended within_of.Plain within_of.Plain o.left (mark_is s.7.0.kind symbol.RightBracket s.7.1) refl refl s.7.2 o.later in
    let r = step s.8.0 s.3 rest (kind.Sign symbol.Arrow) next_of.Ended next_of.Operand within_of.Plain within_of.Plain c.left (mark_is s.8.0.kind symbol.Arrow s.8.1) refl refl s.8.2 c.later in
    record {
      left = r.left;
      spelled = (
        w.left,
        b.left,
        o.left,
        c.left,
        (w.token, ap expr_token w.same ∙ s.4.1, w.first),
        b.spelled,
        (o.token, ap expr_token o.same ∙ s.6.1, o.first),
        (c.token, ap expr_token c.same ∙ s.7.1, c.first),
        (r.token, ap expr_token r.same ∙ s.8.1, r.first),
      );
      later = r.later;
    }

-- a binder behind a sign
bound_operand : (o : Option (List ℕ)) (g : Bool) → (kind_stand next_of.Operand within_of.Plain g (bound_kind o)).next ≡ next_of.Ended
bound_operand None g = refl
bound_operand (Some x) g = refl

hole_within : (n : Next) → (hole_stand n within_of.Plain).within ≡ within_of.Plain
hole_within next_of.Binds = refl
hole_within _ = refl

pub bound_plain : (n : Next) (o : Option (List ℕ)) (g : Bool) → (kind_stand n within_of.Plain g (bound_kind o)).within ≡ within_of.Plain
bound_plain n None g = hole_within n
bound_plain n (Some x) g = let e = named n within_of.Plain in ap (λ (z : Stand). z.within) e.is

-- behind `let`
abbrev pub bound_head : Option (List ℕ) → Next
bound_head None = next_of.Ended
bound_head (Some x) = next_of.Head

pub bound_heads : (o : Option (List ℕ)) (g : Bool) → (kind_stand next_of.Heads within_of.Plain g (bound_kind o)).next ≡ bound_head o
bound_heads None g = refl
bound_heads (Some x) g = refl

pub head_equal : (o : Option (List ℕ)) (g : Bool) → (kind_stand (bound_head o) within_of.Plain g (kind.Sign symbol.Equal)).next ≡ next_of.Operand
head_equal None g = refl
head_equal (Some x) g = refl

pub head_within : (o : Option (List ℕ)) (g : Bool) → (kind_stand (bound_head o) within_of.Plain g (kind.Sign symbol.Equal)).within ≡ within_of.Plain
head_within None g = refl
head_within (Some x) g = refl

pub record FullStays (x y : BinderSyntax) (rest others : List Token) : Type 0 where
  pub head : BinderSyntax
  pub tail : BinderSyntax
  pub left : List Token
  pub spelled : FullArm head tail others left
  pub same_head : bare_binder head ≡ bare_binder x
  pub same_tail : bare_binder tail ≡ bare_binder y
  pub later : Here rest next_of.Operand left

pub full_arm_stays : (x y : BinderSyntax) (tokens rest : List Token) → FullArm x y tokens rest → (n : Next) (others : List Token) → Here tokens n others → FullStays x y rest others
full_arm_stays x y tokens rest s n others a =
    let o = step s.4.0 tokens s.0 (kind.Sign symbol.Bar) n next_of.Operand within_of.Plain within_of.Plain others (mark_is s.4.0.kind symbol.Bar s.4.1) refl refl s.4.2 a in
    let h = binder_stays x s.0 s.1 s.5 next_of.Operand next_of.Ended o.left (bound_operand x.name) (bound_plain next_of.Operand x.name) o.later in
    let c = step s.6.0 s.1 s.2 (kind.Sign symbol.ColonColon) next_of.Ended next_of.Operand within_of.Plain within_of.Plain h.left (operator_is s.6.0.kind infix_of.Cons s.6.1) refl refl s.6.2 h.later in
    let t = binder_stays y s.2 s.3 s.7 next_of.Operand next_of.Ended c.left (bound_operand y.name) (bound_plain next_of.Operand y.name) c.later in
    let r = step s.8.0 s.3 rest (kind.Sign symbol.Arrow) next_of.Ended next_of.Operand within_of.Plain within_of.Plain t.left (mark_is s.8.0.kind symbol.Arrow s.8.1) refl refl s.8.2 t.later in
    record {
      head = h.again;
      tail = t.again;
      left = r.left;
      spelled = (o.left, h.left, c.left, t.left, (o.token, ap expr_token o.same ∙ s.4.1, o.first), h.spelled, (c.token, ap expr_token c.same ∙ s.6.1, c.first), t.spelled, (r.token, ap expr_token r.same ∙ s.8.1, r.first));
      same_head = h.same;
      same_tail = t.same;
      later = r.later;
    }

-- `([] : T)`
pub truth_next : (b g : Bool) (n : Next) → (kind_stand n within_of.Plain g (kind.Word (truth_word b))).next ≡ next_of.Ended
truth_next true g n = refl
truth_next false g n = refl

pub truth_within : (b g : Bool) (n : Next) → (kind_stand n within_of.Plain g (kind.Word (truth_word b))).within ≡ within_of.Plain
truth_within true g n = refl
truth_within false g n = refl
