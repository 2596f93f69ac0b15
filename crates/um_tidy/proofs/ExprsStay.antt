-- The tokens of an expression, in a text laid out anew, are those of the same expression, places aside.
use Rattle.std.proofs.Common.{◌≡◌, refl, sym, ap, ◌∙◌, subst, ℕ, ◌≤◌, ◌<◌, true, false, List, [], ◌∷◌, ◌⊎◌, inl, inr, ⊎_elim}
use Rattle.um_syntax.specs.declared.token.Token.{Token}
use Rattle.um_syntax.specs.declared.token.Kind.TheVariants as kind
use Rattle.um_vocabulary.specs.declared.vocabulary.Keyword.TheVariants as keyword
use Rattle.um_vocabulary.specs.declared.vocabulary.Symbol.TheVariants as symbol
use Rattle.um_tree.specs.declared.expression.Arith.TheVariants as arith_of
use Rattle.um_tree.specs.RawTree.{TypeSyntax, ExprSyntax, ExprSyntaxes, FieldSyntaxes, truth_syntax, number_syntax, name_syntax, call_syntax, negate_syntax, not_syntax, pown_syntax, arith_syntax, compare_syntax, and_syntax, or_syntax, if_syntax, let_syntax, match_syntax, nil_syntax, list_syntax, cons_syntax, fields_syntax, field_syntax, bracket_expr_syntax, no_exprs, more_exprs, no_fields, more_fields}
use Rattle.um_operands.specs.declared.infix.Infix.TheVariants as infix_of
use Rattle.um_operands.specs.Ranks.{arith_rank}
use Rattle.um_types.specs.TypeGrammar.{TypeFits}
use Rattle.um_forms.specs.ExprTokens.{expr_token}
use Rattle.um_expr.specs.ExprGrammar.{AfterNumber, NilSpells, Spells, AllSpell, MoreItems, MoreFields, IsAny, Fits, AreAtoms, AllFit, FieldsFit, rank}
use Rattle.um_expr.proofs.ExprTokenKinds.{mark_is, equal_is}
use Rattle.um_expr.proofs.ExprAtEnd.{after_more}
use Rattle.um_tidy.proofs.Leaves.{Leaves, leaves_then, leaves_first, leaves_at, leaves_expr, leaves_sign, leaves_empty_arm, leaves_full_arm}
use Rattle.um_show.specs.Unplaced.{bare_binder, bare_expr, bare_exprs, bare_fields}
use Rattle.um_tidy.specs.declared.stand.Next.{Next}
use Rattle.um_tidy.specs.declared.stand.Next.TheVariants as next_of
use Rattle.um_tidy.specs.declared.stand.Within.TheVariants as within_of
use Rattle.um_tidy.specs.declared.stand.Stand.{Stand}
use Rattle.um_tidy.proofs.StandAgain.{is_number_next}
use Rattle.um_tidy.proofs.SpacedPieces.{never, is_naming, is_operand, operand_names, named_operand, bracket_binds}
use Rattle.um_tidy.proofs.TokenKinds.{name_is, word_is, number_is, truth_word, truth_is, operator_is}
use Rattle.um_tidy.proofs.Alike.{step}
use Rattle.um_tidy.proofs.TypesStay.{type_stays}
use Rattle.um_tidy.proofs.InfixStays.{Here, and_stays, arith_stays, compare_stays, cons_stays, minus_next, minus_within, or_stays}
use Rattle.um_tidy.proofs.PartsStay.{binder_stays, bound_head, bound_heads, bound_plain, empty_arm_stays, full_arm_stays, head_equal, head_within, power_stays, truth_next, truth_within, written_stays}

pub record ExprStays (e : ExprSyntax) (tokens rest others : List Token) : Type 0 where
  pub again : ExprSyntax
  pub left : List Token
  pub next : Next
  pub operand : is_operand next ≡ true
  pub number : is_number_next next ≡ true → AfterNumber tokens rest
  pub spelled : Spells again others left
  pub fits : Fits again
  pub same : bare_expr again ≡ bare_expr e
  pub ranked : rank again ≡ rank e
  pub later : Here rest next left

-- a number is still the last token, if tokens come before
past : {tokens next rest : List Token} → Leaves tokens next → AfterNumber next rest → AfterNumber tokens rest
past {tokens = tokens} {next = next} {rest = rest} l a = after_more l.0 tokens next rest l.1 a

-- `([] : T)`
nil_stays : (at : ℕ) (t : TypeSyntax) (tokens rest : List Token) → NilSpells at t tokens rest → TypeFits t → (n : Next) (others : List Token) → is_naming n ≡ false → Here tokens n others → ExprStays (nil_syntax at t) tokens rest others
nil_stays at t tokens rest s f n others names a =
    let b = bracket_binds n within_of.Plain names in
    let o = step s.5.0 tokens s.0 (kind.Sign symbol.LeftParen) n next_of.Binds within_of.Plain within_of.Plain others (mark_is s.5.0.kind symbol.LeftParen s.5.1) (ap (λ (z : Stand). z.next) b) (ap (λ (z : Stand). z.within) b) s.5.3 a in
    let l = step s.6.0 s.0 s.1 (kind.Sign symbol.LeftBracket) next_of.Binds next_of.Operand within_of.Plain within_of.Plain o.left (mark_is s.6.0.kind symbol.LeftBracket s.6.1) refl refl s.6.2 o.later in
    let c = step s.7.0 s.1 s.2 (kind.Sign symbol.RightBracket) next_of.Operand next_of.Ended within_of.Plain within_of.Plain l.left (mark_is s.7.0.kind symbol.RightBracket s.7.1) refl refl s.7.2 l.later in
    let d = step s.8.0 s.2 s.3 (kind.Sign symbol.Colon) next_of.Ended next_of.Heads within_of.Plain within_of.Plain c.left (mark_is s.8.0.kind symbol.Colon s.8.1) refl refl s.8.2 c.later in
    let r = type_stays t s.3 s.4 s.9 f d.left d.later in
    let e = step s.10.0 s.4 rest (kind.Sign symbol.RightParen) r.next next_of.Ended within_of.Plain within_of.Plain r.left (mark_is s.10.0.kind symbol.RightParen s.10.1) refl refl s.10.2 r.later in
    record {
      again = nil_syntax o.token.start r.again;
      left = e.left;
      next = next_of.Ended;
      operand = refl;
      number = λ h. never h;
      spelled = (
        o.left,
        l.left,
        c.left,
        d.left,
        r.left,
        (o.token, ap expr_token o.same ∙ s.5.1, refl, o.first),
        (l.token, ap expr_token l.same ∙ s.6.1, l.first),
        (c.token, ap expr_token c.same ∙ s.7.1, c.first),
        (d.token, ap expr_token d.same ∙ s.8.1, d.first),
        r.spelled,
        (e.token, ap expr_token e.same ∙ s.10.1, e.first),
      );
      fits = r.fits;
      same = ap (nil_syntax 0) r.same;
      ranked = refl;
      later = e.later;
    }

-- ---- expressions

record ArgumentsStay (es : ExprSyntaxes) (n : Next) (tokens rest others : List Token) : Type 0 where
  pub again : ExprSyntaxes
  pub left : List Token
  pub next : Next
  pub operand : is_operand next ≡ true
  pub number : is_number_next next ≡ true → ((is_number_next n ≡ true) × (tokens ≡ rest)) ⊎ AfterNumber tokens rest
  pub spelled : AllSpell again others left
  pub fits : AreAtoms again
  pub same : bare_exprs again ≡ bare_exprs es
  pub some : IsAny es → IsAny again
  pub later : Here rest next left

record ItemsStay (es : ExprSyntaxes) (rest others : List Token) : Type 0 where
  pub again : ExprSyntaxes
  pub left : List Token
  pub next : Next
  pub operand : is_operand next ≡ true
  pub spelled : MoreItems again others left
  pub fits : AllFit again
  pub same : bare_exprs again ≡ bare_exprs es
  pub later : Here rest next left

record FieldsStay (fs : FieldSyntaxes) (rest others : List Token) : Type 0 where
  pub again : FieldSyntaxes
  pub left : List Token
  pub next : Next
  pub operand : is_operand next ≡ true
  pub spelled : MoreFields again others left
  pub fits : FieldsFit again
  pub same : bare_fields again ≡ bare_fields fs
  pub later : Here rest next left

mutual
  pub expr_stays : (e : ExprSyntax) (tokens rest : List Token) → Spells e tokens rest → Fits e → (n : Next) (others : List Token) → is_naming n ≡ false → Here tokens n others → ExprStays e tokens rest others
  expr_stays (truth_syntax at v) tokens rest s f n others names a =
      let o = step s.0 tokens rest (kind.Word (truth_word v)) n next_of.Ended within_of.Plain within_of.Plain others (truth_is s.0.kind v s.1) (truth_next v s.0.glued n) (truth_within v s.0.glued n) s.3 a in
      record { again = truth_syntax o.token.start v; left = o.left; next = next_of.Ended; operand = refl; number = λ h. never h; spelled = (o.token, ap expr_token o.same ∙ s.1, refl, o.first); fits = tt; same = refl; ranked = refl; later = o.later }
  expr_stays (number_syntax at c u) tokens rest s f n others names a =
      let t = s.1.0 in
      let k = number_is t.kind c s.1.1 in
      let o = step t tokens s.0 (kind.Number k.value k.digits k.one) n next_of.Number within_of.Plain within_of.Plain others k.is refl refl s.1.3 a in
      let r = written_stays u s.0 rest s.2 f o.left o.later in
      record {
        again = number_syntax o.token.start c r.again;
        left = r.left;
        next = r.next;
        operand = r.operand;
        number = λ h. ([], tokens, c, refl, (t, s.1.1, s.1.3 ∙ ap (λ ts. t ∷ ts) (r.number h)));
        spelled = (o.left, (o.token, ap expr_token o.same ∙ s.1.1, refl, o.first), r.spelled);
        fits = r.fits;
        same = ap (number_syntax 0 c) r.same;
        ranked = refl;
        later = r.later;
      }
  expr_stays (name_syntax at x) tokens rest s f n others names a =
      let e = named_operand n within_of.Plain names in
      let o = step s.0 tokens rest (kind.Name x) n e.next within_of.Plain within_of.Plain others (name_is s.0.kind x s.1) (ap (λ (z : Stand). z.next) e.is) (ap (λ (z : Stand). z.within) e.is) s.3 a in
      record { again = name_syntax o.token.start x; left = o.left; next = e.next; operand = e.operand; number = λ h. never (sym e.unnumbered ∙ h); spelled = (o.token, ap expr_token o.same ∙ s.1, refl, o.first); fits = tt; same = refl; ranked = refl; later = o.later }
  expr_stays (call_syntax at x es) tokens rest s f n others names a =
      let e = named_operand n within_of.Plain names in
      let o = step s.1.0 tokens s.0 (kind.Name x) n e.next within_of.Plain within_of.Plain others (name_is s.1.0.kind x s.1.1) (ap (λ (z : Stand). z.next) e.is) (ap (λ (z : Stand). z.within) e.is) s.1.3 a in
      let r = arguments_stay es s.0 rest s.2 f.1 e.next e.operand o.left o.later in
      record {
        again = call_syntax o.token.start x r.again;
        left = r.left;
        next = r.next;
        operand = r.operand;
        number = λ h. ⊎_elim (λ i. never (sym e.unnumbered ∙ i.0)) (λ i. past (leaves_at s.1) i) (r.number h);
        spelled = (o.left, (o.token, ap expr_token o.same ∙ s.1.1, refl, o.first), r.spelled);
        fits = (r.some f.0, r.fits);
        same = ap (call_syntax 0 x) r.same;
        ranked = refl;
        later = r.later;
      }
  expr_stays (negate_syntax at e) tokens rest s f n others names a =
      let o = step s.1.0 tokens s.0 (kind.Sign symbol.Minus) n next_of.Operand within_of.Plain within_of.Plain others (operator_is s.1.0.kind (infix_of.Arith arith_of.Sub) s.1.1) (minus_next n) (minus_within n) s.1.3 a in
      let r = expr_stays e s.0 rest s.2 f.1 next_of.Operand o.left refl o.later in
      record {
        again = negate_syntax o.token.start r.again;
        left = r.left;
        next = r.next;
        operand = r.operand;
        number = λ h. past (leaves_at s.1) (r.number h);
        spelled = (o.left, (o.token, ap expr_token o.same ∙ s.1.1, refl, o.first), r.spelled);
        fits = (subst (λ m. m ≤ 2) (sym r.ranked) f.0, r.fits);
        same = ap (negate_syntax 0) r.same;
        ranked = refl;
        later = r.later;
      }
  expr_stays (not_syntax at e) tokens rest s f n others names a =
      let o = step s.1.0 tokens s.0 (kind.Word keyword.Not) n next_of.Operand within_of.Plain within_of.Plain others (word_is s.1.0.kind keyword.Not s.1.1) refl refl s.1.3 a in
      let r = expr_stays e s.0 rest s.2 f.1 next_of.Operand o.left refl o.later in
      record {
        again = not_syntax o.token.start r.again;
        left = r.left;
        next = r.next;
        operand = r.operand;
        number = λ h. past (leaves_at s.1) (r.number h);
        spelled = (o.left, (o.token, ap expr_token o.same ∙ s.1.1, refl, o.first), r.spelled);
        fits = (r.ranked ∙ f.0, r.fits);
        same = ap (not_syntax 0) r.same;
        ranked = refl;
        later = r.later;
      }
  expr_stays (pown_syntax at e k) tokens rest s f n others names a =
      let o = step s.2.0 tokens s.0 (kind.Word keyword.Pown) n next_of.Operand within_of.Plain within_of.Plain others (word_is s.2.0.kind keyword.Pown s.2.1) refl refl s.2.3 a in
      let r = expr_stays e s.0 s.1 s.3 f.1 next_of.Operand o.left refl o.later in
      let q = power_stays k s.1 rest s.4 r.next r.operand r.left r.later in
      record {
        again = pown_syntax o.token.start r.again k;
        left = q.left;
        next = q.next;
        operand = q.operand;
        number = λ h. past (leaves_then (leaves_at s.2) (leaves_expr e s.0 s.1 s.3 f.1)) (q.number h);
        spelled = (o.left, r.left, (o.token, ap expr_token o.same ∙ s.2.1, refl, o.first), r.spelled, q.spelled);
        fits = (r.ranked ∙ f.0, r.fits);
        same = ap (λ x. pown_syntax 0 x k) r.same;
        ranked = refl;
        later = q.later;
      }
  expr_stays (arith_syntax at op x y) tokens rest s f n others names a =
      let l = expr_stays x tokens s.0 s.2 f.2 n others names a in
      let i = arith_stays op tokens others at s.0 s.1 s.3 l.next l.operand l.left l.later in
      let r = expr_stays y s.1 rest s.4 f.3 i.next i.left i.names i.later in
      record {
        again = arith_syntax i.at op l.again r.again;
        left = r.left;
        next = r.next;
        operand = r.operand;
        number = λ h. past (leaves_then (leaves_expr x tokens s.0 s.2 f.2) (leaves_sign (infix_of.Arith op) tokens at s.0 s.1 s.3)) (r.number h);
        spelled = (l.left, i.left, l.spelled, i.spelled, r.spelled);
        fits = (subst (λ m. m ≤ arith_rank op) (sym l.ranked) f.0, subst (λ m. m < arith_rank op) (sym r.ranked) f.1, l.fits, r.fits);
        same = ap (λ z. arith_syntax 0 op z (bare_expr r.again)) l.same ∙ ap (arith_syntax 0 op (bare_expr x)) r.same;
        ranked = refl;
        later = r.later;
      }
  expr_stays (compare_syntax at sg x y) tokens rest s f n others names a =
      let l = expr_stays x tokens s.0 s.2 f.2 n others names a in
      let i = compare_stays sg tokens others at s.0 s.1 s.3 l.next l.operand l.left (record { number = l.number; old = leaves_expr x tokens s.0 s.2 f.2; new = leaves_expr l.again others l.left l.spelled l.fits; entry = n; begun = a }) l.later in
      let r = expr_stays y s.1 rest s.4 f.3 i.next i.left i.names i.later in
      record {
        again = compare_syntax i.at sg l.again r.again;
        left = r.left;
        next = r.next;
        operand = r.operand;
        number = λ h. past (leaves_then (leaves_expr x tokens s.0 s.2 f.2) (leaves_sign (infix_of.Compare sg) tokens at s.0 s.1 s.3)) (r.number h);
        spelled = (l.left, i.left, l.spelled, i.spelled, r.spelled);
        fits = (subst (λ m. m ≤ 5) (sym l.ranked) f.0, subst (λ m. m < 6) (sym r.ranked) f.1, l.fits, r.fits);
        same = ap (λ z. compare_syntax 0 sg z (bare_expr r.again)) l.same ∙ ap (compare_syntax 0 sg (bare_expr x)) r.same;
        ranked = refl;
        later = r.later;
      }
  expr_stays (and_syntax at x y) tokens rest s f n others names a =
      let l = expr_stays x tokens s.0 s.2 f.2 n others names a in
      let i = and_stays others at s.0 s.1 s.3 l.next l.left l.later in
      let r = expr_stays y s.1 rest s.4 f.3 i.next i.left i.names i.later in
      record {
        again = and_syntax i.at l.again r.again;
        left = r.left;
        next = r.next;
        operand = r.operand;
        number = λ h. past (leaves_then (leaves_expr x tokens s.0 s.2 f.2) (leaves_sign infix_of.And tokens at s.0 s.1 s.3)) (r.number h);
        spelled = (l.left, i.left, l.spelled, i.spelled, r.spelled);
        fits = (subst (λ m. m ≤ 7) (sym l.ranked) f.0, subst (λ m. m < 7) (sym r.ranked) f.1, l.fits, r.fits);
        same = ap (λ z. and_syntax 0 z (bare_expr r.again)) l.same ∙ ap (and_syntax 0 (bare_expr x)) r.same;
        ranked = refl;
        later = r.later;
      }
  expr_stays (or_syntax at x y) tokens rest s f n others names a =
      let l = expr_stays x tokens s.0 s.2 f.2 n others names a in
      let i = or_stays others at s.0 s.1 s.3 l.next l.left l.later in
      let r = expr_stays y s.1 rest s.4 f.3 i.next i.left i.names i.later in
      record {
        again = or_syntax i.at l.again r.again;
        left = r.left;
        next = r.next;
        operand = r.operand;
        number = λ h. past (leaves_then (leaves_expr x tokens s.0 s.2 f.2) (leaves_sign infix_of.Or tokens at s.0 s.1 s.3)) (r.number h);
        spelled = (l.left, i.left, l.spelled, i.spelled, r.spelled);
        fits = (subst (λ m. m ≤ 8) (sym l.ranked) f.0, subst (λ m. m < 8) (sym r.ranked) f.1, l.fits, r.fits);
        same = ap (λ z. or_syntax 0 z (bare_expr r.again)) l.same ∙ ap (or_syntax 0 (bare_expr x)) r.same;
        ranked = refl;
        later = r.later;
      }
  expr_stays (cons_syntax at x y) tokens rest s f n others names a =
      let l = expr_stays x tokens s.0 s.2 f.2 n others names a in
      let i = cons_stays others at s.0 s.1 s.3 l.next l.left l.later in
      let r = expr_stays y s.1 rest s.4 f.3 i.next i.left i.names i.later in
      record {
        again = cons_syntax i.at l.again r.again;
        left = r.left;
        next = r.next;
        operand = r.operand;
        number = λ h. past (leaves_then (leaves_expr x tokens s.0 s.2 f.2) (leaves_sign infix_of.Cons tokens at s.0 s.1 s.3)) (r.number h);
        spelled = (l.left, i.left, l.spelled, i.spelled, r.spelled);
        fits = (subst (λ m. m ≤ 4) (sym l.ranked) f.0, subst (λ m. m < 6) (sym r.ranked) f.1, l.fits, r.fits);
        same = ap (λ z. cons_syntax 0 z (bare_expr r.again)) l.same ∙ ap (cons_syntax 0 (bare_expr x)) r.same;
        ranked = refl;
        later = r.later;
      }
  expr_stays (if_syntax at c x y) tokens rest s f n others names a =
      let o = step s.5.0 tokens s.0 (kind.Word keyword.If) n next_of.Operand within_of.Plain within_of.Plain others (word_is s.5.0.kind keyword.If s.5.1) refl refl s.5.3 a in
      let p = expr_stays c s.0 s.1 s.6 f.0 next_of.Operand o.left refl o.later in
      let t = step s.7.0 s.1 s.2 (kind.Word keyword.Then) p.next next_of.Operand within_of.Plain within_of.Plain p.left (word_is s.7.0.kind keyword.Then s.7.1) refl refl s.7.2 p.later in
      let q = expr_stays x s.2 s.3 s.8 f.1 next_of.Operand t.left refl t.later in
      let e = step s.9.0 s.3 s.4 (kind.Word keyword.Else) q.next next_of.Operand within_of.Plain within_of.Plain q.left (word_is s.9.0.kind keyword.Else s.9.1) refl refl s.9.2 q.later in
      let r = expr_stays y s.4 rest s.10 f.2 next_of.Operand e.left refl e.later in
      record {
        again = if_syntax o.token.start p.again q.again r.again;
        left = r.left;
        next = r.next;
        operand = r.operand;
        number = λ h.
            past (leaves_then (leaves_at s.5) (leaves_then (leaves_expr c s.0 s.1 s.6 f.0) (leaves_then (leaves_first s.7) (leaves_then (leaves_expr x s.2 s.3 s.8 f.1) (leaves_first s.9))))) (r.number h);
        spelled = (o.left, p.left, t.left, q.left, e.left, (o.token, ap expr_token o.same ∙ s.5.1, refl, o.first), p.spelled, (t.token, ap expr_token t.same ∙ s.7.1, t.first), q.spelled, (e.token, ap expr_token e.same ∙ s.9.1, e.first), r.spelled);
        fits = (p.fits, q.fits, r.fits);
        same = ap (λ v. if_syntax 0 v (bare_expr q.again) (bare_expr r.again)) p.same ∙ ap (λ v. if_syntax 0 (bare_expr c) v (bare_expr r.again)) q.same ∙ ap (if_syntax 0 (bare_expr c) (bare_expr x)) r.same;
        ranked = refl;
        later = r.later;
      }
  expr_stays (let_syntax at v x y) tokens rest s f n others names a =
      let o = step s.5.0 tokens s.0 (kind.Word keyword.Let) n next_of.Heads within_of.Plain within_of.Plain others (word_is s.5.0.kind keyword.Let s.5.1) refl refl s.5.3 a in
      let b = binder_stays v s.0 s.1 s.6 next_of.Heads (bound_head v.name) o.left (bound_heads v.name) (bound_plain next_of.Heads v.name) o.later in
      let e = step s.7.0 s.1 s.2 (kind.Sign symbol.Equal) (bound_head v.name) next_of.Operand within_of.Plain within_of.Plain b.left (equal_is s.7.0.kind s.7.1) (head_equal v.name s.7.0.glued) (head_within v.name s.7.0.glued) s.7.2 b.later in
      let q = expr_stays x s.2 s.3 s.8 f.0 next_of.Operand e.left refl e.later in
      let i = step s.9.0 s.3 s.4 (kind.Word keyword.In) q.next next_of.Operand within_of.Plain within_of.Plain q.left (word_is s.9.0.kind keyword.In s.9.1) refl refl s.9.2 q.later in
      let r = expr_stays y s.4 rest s.10 f.1 next_of.Operand i.left refl i.later in
      record {
        again = let_syntax o.token.start b.again q.again r.again;
        left = r.left;
        next = r.next;
        operand = r.operand;
        number = λ h.
            past (leaves_then (leaves_at s.5) (leaves_then (leaves_at s.6) (leaves_then (leaves_first s.7) (leaves_then (leaves_expr x s.2 s.3 s.8 f.0) (leaves_first s.9))))) (r.number h);
        spelled = (o.left, b.left, e.left, q.left, i.left, (o.token, ap expr_token o.same ∙ s.5.1, refl, o.first), b.spelled, (e.token, ap expr_token e.same ∙ s.7.1, e.first), q.spelled, (i.token, ap expr_token i.same ∙ s.9.1, i.first), r.spelled);
        fits = (q.fits, r.fits);
        same = ap (λ z. let_syntax 0 z (bare_expr q.again) (bare_expr r.again)) b.same ∙ ap (λ z. let_syntax 0 (bare_binder v) z (bare_expr r.again)) q.same ∙ ap (let_syntax 0 (bare_binder v) (bare_expr x)) r.same;
        ranked = refl;
        later = r.later;
      }
  expr_stays (match_syntax at m x v u y) tokens rest s f n others names a =
      let o = step s.5.0 tokens s.0 (kind.Word keyword.Match) n next_of.Operand within_of.Plain within_of.Plain others (word_is s.5.0.kind keyword.Match s.5.1) refl refl s.5.3 a in
      let p = expr_stays m s.0 s.1 s.6 f.0 next_of.Operand o.left refl o.later in
      let e = empty_arm_stays s.1 s.2 s.7 p.next p.left p.later in
      let q = expr_stays x s.2 s.3 s.8 f.1 next_of.Operand e.left refl e.later in
      let l = full_arm_stays v u s.3 s.4 s.9 q.next q.left q.later in
      let r = expr_stays y s.4 rest s.10 f.2 next_of.Operand l.left refl l.later in
      record {
        again = match_syntax o.token.start p.again q.again l.head l.tail r.again;
        left = r.left;
        next = r.next;
        operand = r.operand;
        number = λ h.
            past (leaves_then (leaves_at s.5) (leaves_then (leaves_expr m s.0 s.1 s.6 f.0) (leaves_then (leaves_empty_arm s.1 s.2 s.7) (leaves_then (leaves_expr x s.2 s.3 s.8 f.1) (leaves_full_arm v u s.3 s.4 s.9))))) (r.number h);
        spelled = (o.left, p.left, e.left, q.left, l.left, (o.token, ap expr_token o.same ∙ s.5.1, refl, o.first), p.spelled, e.spelled, q.spelled, l.spelled, r.spelled);
        fits = (p.fits, q.fits, r.fits);
        same =
            ap (λ z. match_syntax 0 z (bare_expr q.again) (bare_binder l.head) (bare_binder l.tail) (bare_expr r.again)) p.same
            ∙ ap (λ z. match_syntax 0 (bare_expr m) z (bare_binder l.head) (bare_binder l.tail) (bare_expr r.again)) q.same
            ∙ ap (λ z. match_syntax 0 (bare_expr m) (bare_expr x) z (bare_binder l.tail) (bare_expr r.again)) l.same_head
            ∙ ap (λ z. match_syntax 0 (bare_expr m) (bare_expr x) (bare_binder v) z (bare_expr r.again)) l.same_tail
            ∙ ap (match_syntax 0 (bare_expr m) (bare_expr x) (bare_binder v) (bare_binder u)) r.same;
        ranked = refl;
        later = r.later;
      }
  expr_stays (nil_syntax at t) tokens rest s f n others names a = nil_stays at t tokens rest s f n others names a
  expr_stays (list_syntax at no_exprs) tokens rest s f n others names a = absurd s.3
  expr_stays (list_syntax at (more_exprs e es)) tokens rest s f n others names a =
      let o = step s.2.0 tokens s.0 (kind.Sign symbol.LeftBracket) n next_of.Operand within_of.Plain within_of.Plain others (mark_is s.2.0.kind symbol.LeftBracket s.2.1) refl refl s.2.3 a in
      let p = expr_stays e s.0 s.3.0 s.3.1 f.0 next_of.Operand o.left refl o.later in
      let q = items_stay es s.3.0 s.1 s.3.2 f.1 p.next p.operand p.left p.later in
      let c = step s.4.0 s.1 rest (kind.Sign symbol.RightBracket) q.next next_of.Ended within_of.Plain within_of.Plain q.left (mark_is s.4.0.kind symbol.RightBracket s.4.1) refl refl s.4.2 q.later in
      record {
        again = list_syntax o.token.start (more_exprs p.again q.again);
        left = c.left;
        next = next_of.Ended;
        operand = refl;
        number = λ h. never h;
        spelled = (o.left, q.left, (o.token, ap expr_token o.same ∙ s.2.1, refl, o.first), (p.left, p.spelled, q.spelled), (c.token, ap expr_token c.same ∙ s.4.1, c.first));
        fits = (p.fits, q.fits);
        same = ap (λ z. list_syntax 0 (more_exprs z (bare_exprs q.again))) p.same ∙ ap (λ z. list_syntax 0 (more_exprs (bare_expr e) z)) q.same;
        ranked = refl;
        later = c.later;
      }
  expr_stays (fields_syntax at no_fields) tokens rest s f n others names a = absurd s.3
  expr_stays (fields_syntax at (more_fields place x e fs)) tokens rest s f n others names a =
      let o = step s.2.0 tokens s.0 (kind.Sign symbol.LeftBrace) n next_of.Binds within_of.Plain within_of.Plain others (mark_is s.2.0.kind symbol.LeftBrace s.2.1) refl refl s.2.3 a in
      let t = s.3 in
      let v = step t.3.0 s.0 t.0 (kind.Name x) next_of.Binds next_of.Bound within_of.Plain within_of.Plain o.left (name_is t.3.0.kind x t.3.1) refl refl t.3.3 o.later in
      let i = step t.4.0 t.0 t.1 (kind.Sign symbol.Equal) next_of.Bound next_of.Operand within_of.Plain within_of.Plain v.left (equal_is t.4.0.kind t.4.1) refl refl t.4.2 v.later in
      let p = expr_stays e t.1 t.2 t.5 f.0 next_of.Operand i.left refl i.later in
      let q = fields_stay fs t.2 s.1 t.6 f.1 p.next p.operand p.left p.later in
      let c = step s.4.0 s.1 rest (kind.Sign symbol.RightBrace) q.next next_of.Ended within_of.Plain within_of.Plain q.left (mark_is s.4.0.kind symbol.RightBrace s.4.1) refl refl s.4.2 q.later in
      record {
        again = fields_syntax o.token.start (more_fields v.token.start x p.again q.again);
        left = c.left;
        next = next_of.Ended;
        operand = refl;
        number = λ h. never h;
        spelled = (
          o.left,
          q.left,
          (o.token, ap expr_token o.same ∙ s.2.1, refl, o.first),
          (v.left, i.left, p.left, (v.token, ap expr_token v.same ∙ t.3.1, refl, v.first), (i.token, ap expr_token i.same ∙ t.4.1, i.first), p.spelled, q.spelled),
          (c.token, ap expr_token c.same ∙ s.4.1, c.first),
        );
        fits = (p.fits, q.fits);
        same = ap (λ z. fields_syntax 0 (more_fields 0 x z (bare_fields q.again))) p.same ∙ ap (λ z. fields_syntax 0 (more_fields 0 x (bare_expr e) z)) q.same;
        ranked = refl;
        later = c.later;
      }
  expr_stays (field_syntax at place x e) tokens rest s f n others names a =
      let p = expr_stays e tokens s.0 s.2 f.1 n others names a in
      let d = step s.3.0 s.0 s.1 (kind.Sign symbol.Dot) p.next next_of.Operand within_of.Plain within_of.Plain p.left (mark_is s.3.0.kind symbol.Dot s.3.1) refl refl s.3.3 p.later in
      let v = step s.4.0 s.1 rest (kind.Name x) next_of.Operand next_of.Ended within_of.Plain within_of.Plain d.left (name_is s.4.0.kind x s.4.1) refl refl s.4.3 d.later in
      record {
        again = field_syntax d.token.start v.token.start x p.again;
        left = v.left;
        next = next_of.Ended;
        operand = refl;
        number = λ h. never h;
        spelled = (p.left, d.left, p.spelled, (d.token, ap expr_token d.same ∙ s.3.1, refl, d.first), (v.token, ap expr_token v.same ∙ s.4.1, refl, v.first));
        fits = (p.ranked ∙ f.0, p.fits);
        same = ap (field_syntax 0 0 x) p.same;
        ranked = refl;
        later = v.later;
      }
  expr_stays (bracket_expr_syntax at e) tokens rest s f n others names a =
      let b = bracket_binds n within_of.Plain names in
      let o = step s.2.0 tokens s.0 (kind.Sign symbol.LeftParen) n next_of.Binds within_of.Plain within_of.Plain others (mark_is s.2.0.kind symbol.LeftParen s.2.1) (ap (λ (z : Stand). z.next) b) (ap (λ (z : Stand). z.within) b) s.2.3 a in
      let p = expr_stays e s.0 s.1 s.3 f next_of.Binds o.left refl o.later in
      let c = step s.4.0 s.1 rest (kind.Sign symbol.RightParen) p.next next_of.Ended within_of.Plain within_of.Plain p.left (mark_is s.4.0.kind symbol.RightParen s.4.1) refl refl s.4.2 p.later in
      record {
        again = bracket_expr_syntax o.token.start p.again;
        left = c.left;
        next = next_of.Ended;
        operand = refl;
        number = λ h. never h;
        spelled = (o.left, p.left, (o.token, ap expr_token o.same ∙ s.2.1, refl, o.first), p.spelled, (c.token, ap expr_token c.same ∙ s.4.1, c.first));
        fits = p.fits;
        same = ap (bracket_expr_syntax 0) p.same;
        ranked = refl;
        later = c.later;
      }

  arguments_stay : (es : ExprSyntaxes) (tokens rest : List Token) → AllSpell es tokens rest → AreAtoms es → (n : Next) → is_operand n ≡ true → (others : List Token) → Here tokens n others → ArgumentsStay es n tokens rest others
  arguments_stay no_exprs tokens rest s f n e others a =
      record { again = no_exprs; left = others; next = n; operand = e; number = λ h. inl (h, s); spelled = refl; fits = tt; same = refl; some = λ i. i; later = subst (λ ts. Here ts n others) s a }
  arguments_stay (more_exprs x es) tokens rest s f n e others a =
      let p = expr_stays x tokens s.0 s.1 f.1 n others (operand_names n e) a in
      let q = arguments_stay es s.0 rest s.2 f.2 p.next p.operand p.left p.later in
      record {
        again = more_exprs p.again q.again;
        left = q.left;
        next = q.next;
        operand = q.operand;
        number = λ h. inr (⊎_elim (λ i. subst (AfterNumber tokens) i.1 (p.number i.0)) (λ i. past (leaves_expr x tokens s.0 s.1 f.1) i) (q.number h));
        spelled = (p.left, p.spelled, q.spelled);
        fits = (p.ranked ∙ f.0, p.fits, q.fits);
        same = ap (λ z. more_exprs z (bare_exprs q.again)) p.same ∙ ap (more_exprs (bare_expr x)) q.same;
        some = λ i. tt;
        later = q.later;
      }

  items_stay : (es : ExprSyntaxes) (tokens rest : List Token) → MoreItems es tokens rest → AllFit es → (n : Next) → is_operand n ≡ true → (others : List Token) → Here tokens n others → ItemsStay es rest others
  items_stay no_exprs tokens rest s f n e others a =
      record { again = no_exprs; left = others; next = n; operand = e; spelled = refl; fits = tt; same = refl; later = subst (λ ts. Here ts n others) s a }
  items_stay (more_exprs x es) tokens rest s f n e others a =
      let o = step s.2.0 tokens s.0 (kind.Sign symbol.Semicolon) n next_of.Binds within_of.Plain within_of.Plain others (mark_is s.2.0.kind symbol.Semicolon s.2.1) refl refl s.2.2 a in
      let p = expr_stays x s.0 s.1 s.3 f.0 next_of.Binds o.left refl o.later in
      let q = items_stay es s.1 rest s.4 f.1 p.next p.operand p.left p.later in
      record {
        again = more_exprs p.again q.again;
        left = q.left;
        next = q.next;
        operand = q.operand;
        spelled = (o.left, p.left, (o.token, ap expr_token o.same ∙ s.2.1, o.first), p.spelled, q.spelled);
        fits = (p.fits, q.fits);
        same = ap (λ z. more_exprs z (bare_exprs q.again)) p.same ∙ ap (more_exprs (bare_expr x)) q.same;
        later = q.later;
      }

  fields_stay : (fs : FieldSyntaxes) (tokens rest : List Token) → MoreFields fs tokens rest → FieldsFit fs → (n : Next) → is_operand n ≡ true → (others : List Token) → Here tokens n others → FieldsStay fs rest others
  fields_stay no_fields tokens rest s f n e others a =
      record { again = no_fields; left = others; next = n; operand = e; spelled = refl; fits = tt; same = refl; later = subst (λ ts. Here ts n others) s a }
  fields_stay (more_fields at x y fs) tokens rest s f n e others a =
      let o = step s.4.0 tokens s.0 (kind.Sign symbol.Semicolon) n next_of.Binds within_of.Plain within_of.Plain others (mark_is s.4.0.kind symbol.Semicolon s.4.1) refl refl s.4.2 a in
      let v = step s.5.0 s.0 s.1 (kind.Name x) next_of.Binds next_of.Bound within_of.Plain within_of.Plain o.left (name_is s.5.0.kind x s.5.1) refl refl s.5.3 o.later in
      let i = step s.6.0 s.1 s.2 (kind.Sign symbol.Equal) next_of.Bound next_of.Operand within_of.Plain within_of.Plain v.left (equal_is s.6.0.kind s.6.1) refl refl s.6.2 v.later in
      let p = expr_stays y s.2 s.3 s.7 f.0 next_of.Operand i.left refl i.later in
      let q = fields_stay fs s.3 rest s.8 f.1 p.next p.operand p.left p.later in
      record {
        again = more_fields v.token.start x p.again q.again;
        left = q.left;
        next = q.next;
        operand = q.operand;
        spelled = (o.left, v.left, i.left, p.left, (o.token, ap expr_token o.same ∙ s.4.1, o.first), (v.token, ap expr_token v.same ∙ s.5.1, refl, v.first), (i.token, ap expr_token i.same ∙ s.6.1, i.first), p.spelled, q.spelled);
        fits = (p.fits, q.fits);
        same = ap (λ z. more_fields 0 x z (bare_fields q.again)) p.same ∙ ap (more_fields 0 x (bare_expr y)) q.same;
        later = q.later;
      }
