-- The tokens of the layout of an expression are those of the same expression, places aside.
use Rattle.std.proofs.Common.{◌≡◌, ℕ, suc, ◌≤◌, ◌<◌, ℤ, pos, negsuc, Bool, true, false, List, [], ◌∷◌, ◌++◌, Option, Some, None, refl, sym, ap, ◌∙◌, subst, inl, inr}
use Rattle.um_syntax.specs.declared.token.Token.{Token}
use Rattle.um_tree.specs.declared.expression.Arith.{Arith}
use Rattle.um_tree.specs.declared.expression.Arith.TheVariants as arith
use Rattle.um_tree.specs.declared.expression.Sign.{Sign}
use Rattle.um_tree.specs.declared.expression.Sign.TheVariants as compare
use Rattle.um_tree.specs.RawTree.{NoteSyntax, BinderSyntax, ExprSyntax, ExprSyntaxes, FieldSyntaxes, truth_syntax, number_syntax, name_syntax, call_syntax, negate_syntax, not_syntax, pown_syntax, arith_syntax, compare_syntax, and_syntax, or_syntax, if_syntax, let_syntax, match_syntax, nil_syntax, list_syntax, cons_syntax, fields_syntax, field_syntax, bracket_expr_syntax, no_exprs, more_exprs, no_fields, more_fields}
use Rattle.um_unit_texts.specs.UnitMachine.{power_in}
use Rattle.um_operands.specs.declared.infix.Infix.TheVariants as between_of
use Rattle.um_operands.specs.Ranks.{arith_rank}
use Rattle.um_forms.specs.ExprTokens.{expr_token}
use Rattle.um_expr.specs.ExprGrammar.{BinderSpells, InfixAt, WrittenNote, PowerSpells, Spells, AllSpell, MoreItems, MoreFields, NoteFitsIn, IsAny, Fits, AreAtoms, AllFit, FieldsFit, rank}
use Rattle.um_show.specs.Pieces.{Piece, space, name, digits, less, greater, equal, at_most, unequal, plus, minus, times, over, double_and, double_bar, double_colon, true_word, false_word, if_word, then_word, else_word, let_word, in_word, match_word, with_word, not_word, pown_word, bar, arrow, dot, semi, colon, bracket_open, bracket_close, list_open, list_close, record_open, record_close}
use Rattle.um_show.specs.Layout.{written_pieces, type_pieces, note_pieces, bound_piece, binder_piece, truth_piece, arith_piece, compare_pieces, whole_power_pieces, between, expr_pieces, argument_pieces, item_pieces, more_item_pieces, field_pieces, more_field_pieces}
use Rattle.um_show.specs.Unplaced.{bare_written, bare_binder, bare_expr, bare_exprs, bare_fields}
use Rattle.um_show.proofs.PieceTokens.{PieceSpells, PiecesSpell, both, only, power_token}
use Rattle.um_show.proofs.TypesAgain.{note_again, type_again}

pub record ExprAgain (e : ExprSyntax) (tokens rest : List Token) : Type 0 where
  pub again : ExprSyntax
  pub spelled : Spells again tokens rest
  pub fits : Fits again
  pub same : bare_expr again ≡ bare_expr e
  pub ranked : rank again ≡ rank e

pub record ArgumentsAgain (es : ExprSyntaxes) (tokens rest : List Token) : Type 0 where
  pub again : ExprSyntaxes
  pub spelled : AllSpell again tokens rest
  pub fits : AreAtoms again
  pub same : bare_exprs again ≡ bare_exprs es
  pub some : IsAny es → IsAny again

pub record MoreItemsAgain (es : ExprSyntaxes) (tokens rest : List Token) : Type 0 where
  pub again : ExprSyntaxes
  pub spelled : MoreItems again tokens rest
  pub fits : AllFit again
  pub same : bare_exprs again ≡ bare_exprs es

pub record MoreFieldsAgain (fs : FieldSyntaxes) (tokens rest : List Token) : Type 0 where
  pub again : FieldSyntaxes
  pub spelled : MoreFields again tokens rest
  pub fits : FieldsFit again
  pub same : bare_fields again ≡ bare_fields fs

-- blanks in front of pieces have no token
pub past : (ps : List Piece) (g : Bool) (tokens : List Token) (h : Bool) (rest : List Token) → PiecesSpell (space ∷ ps) g tokens h rest → PiecesSpell ps false tokens h rest
past ps g tokens h rest s = subst (λ f. PiecesSpell ps f tokens h rest) s.here.blank_end (subst (λ ts. PiecesSpell ps s.flag ts h rest) (sym s.here.none) s.later)

pub record BinderAgain (x : BinderSyntax) (tokens rest : List Token) : Type 0 where
  pub again : BinderSyntax
  pub spelled : BinderSpells again tokens rest
  pub same : bare_binder again ≡ bare_binder x

pub binder_again : (at : ℕ) (x : Option (List ℕ)) (g : Bool) (tokens : List Token) (h : Bool) (rest : List Token) → PieceSpells (bound_piece x) g tokens h rest → BinderAgain (record { at = at; name = x }) tokens rest
binder_again at None g tokens h rest o = record { again = record { at = o.token.start; name = None }; spelled = (o.token, ap expr_token o.kind, refl, o.first); same = refl }
binder_again at (Some x) g tokens h rest o = record { again = record { at = o.token.start; name = Some x }; spelled = (o.token, ap expr_token o.kind, refl, o.first); same = refl }

-- a piece, a space, and then more
pub record Led (p : Piece) (g : Bool) (ps : List Piece) (tokens : List Token) (h : Bool) (rest : List Token) : Type 0 where
  pub flag : Bool
  pub next : List Token
  pub here : PieceSpells p g tokens flag next
  pub later : PiecesSpell ps false next h rest

pub led : (p : Piece) (ps : List Piece) (g : Bool) (tokens : List Token) (h : Bool) (rest : List Token) → PiecesSpell (p ∷ space ∷ ps) g tokens h rest → Led p g ps tokens h rest
led p ps g tokens h rest s = record { flag = s.flag; next = s.next; here = s.here; later = past ps s.flag s.next h rest s.later }

pub spaced : (p : Piece) (ps : List Piece) (g : Bool) (tokens : List Token) (h : Bool) (rest : List Token) → PiecesSpell (space ∷ p ∷ space ∷ ps) g tokens h rest → Led p false ps tokens h rest
spaced p ps g tokens h rest s = led p ps false tokens h rest (past (p ∷ space ∷ ps) g tokens h rest s)

-- signs between two operands
record Parted (xs signs ys : List Piece) (g : Bool) (tokens : List Token) (h : Bool) (rest : List Token) : Type 0 where
  pub flag : Bool
  pub behind : Bool
  pub mid : List Token
  pub next : List Token
  pub left : PiecesSpell xs g tokens flag mid
  pub middle : PiecesSpell signs false mid behind next
  pub right : PiecesSpell ys false next h rest

parted : (xs signs ys : List Piece) (g : Bool) (tokens : List Token) (h : Bool) (rest : List Token) → PiecesSpell (between xs signs ys) g tokens h rest → Parted xs signs ys g tokens h rest
parted xs signs ys g tokens h rest s =
    let b = both (xs ++ space ∷ signs) (space ∷ ys) g tokens h rest s in let c = both xs (space ∷ signs) g tokens b.flag b.next b.here in
    record { flag = c.flag; behind = b.flag; mid = c.next; next = b.next; left = c.here; middle = past signs c.flag c.next b.flag b.next c.later; right = past ys b.flag b.next h rest b.later }

arith_sign : (op : Arith) (tokens : List Token) (h : Bool) (rest : List Token) → PiecesSpell (arith_piece op ∷ []) false tokens h rest → (at : ℕ) × ((left : List Token) → InfixAt (between_of.Arith op) left at tokens rest)
arith_sign arith.Add tokens h rest s = let o = only plus false tokens h rest s in (o.token.start, λ left. (o.token, ap expr_token o.kind, refl, o.first))
arith_sign arith.Sub tokens h rest s = let o = only minus false tokens h rest s in (o.token.start, λ left. (o.token, ap expr_token o.kind, refl, o.first))
arith_sign arith.Mul tokens h rest s = let o = only times false tokens h rest s in (o.token.start, λ left. (o.token, ap expr_token o.kind, refl, o.first))
arith_sign arith.Div tokens h rest s = let o = only over false tokens h rest s in (o.token.start, λ left. (o.token, ap expr_token o.kind, refl, o.first))

compare_sign : (sg : Sign) (tokens : List Token) (h : Bool) (rest : List Token) → PiecesSpell (compare_pieces sg) false tokens h rest → (at : ℕ) × ((left : List Token) → InfixAt (between_of.Compare sg) left at tokens rest)
compare_sign compare.Lt tokens h rest s = let o = only less false tokens h rest s in (o.token.start, λ left. (o.token, ap expr_token o.kind, refl, (λ e. o.gap), o.first))
compare_sign compare.Le tokens h rest s = let o = only at_most false tokens h rest s in (o.token.start, λ left. (o.token, ap expr_token o.kind, refl, o.first))
compare_sign compare.Eq tokens h rest s = let o = only equal false tokens h rest s in (o.token.start, λ left. (o.token, ap expr_token o.kind, refl, o.first))
compare_sign compare.Ne tokens h rest s = let o = only unequal false tokens h rest s in (o.token.start, λ left. (o.token, ap expr_token o.kind, refl, o.first))
compare_sign compare.Gt tokens h rest s = let o = only greater false tokens h rest s in (o.token.start, λ left. (o.token, ap expr_token o.kind, refl, o.first))
compare_sign compare.Ge tokens h rest s =
    let o = s.here in let e = only equal s.flag s.next h rest s.later in
    (o.token.start, λ left. (s.next, (o.token, ap expr_token o.kind, refl, o.first), (e.token, ap expr_token e.kind, e.gap ∙ o.open_end, e.first)))

record UnitNoteAgain (n : Option NoteSyntax) (tokens rest : List Token) : Type 0 where
  pub again : Option NoteSyntax
  pub spelled : WrittenNote again tokens rest
  pub fits : NoteFitsIn again
  pub same : bare_written again ≡ bare_written n

-- the note directly behind a number
unit_note_again : (n : Option NoteSyntax) → NoteFitsIn n → (g : Bool) → g ≡ true → (tokens : List Token) (h : Bool) (rest : List Token) → PiecesSpell (written_pieces n) g tokens h rest → UnitNoteAgain n tokens rest
unit_note_again None f g glued tokens h rest s = record { again = None; spelled = s.same; fits = tt; same = refl }
unit_note_again (Some n) f g glued tokens h rest s =
    let o = s.here in let b = both (note_pieces n) (greater ∷ []) s.flag s.next h rest s.later in
    let r = note_again n f s.flag s.next b.flag b.next b.here in let c = only greater b.flag b.next h rest b.later in
    record { again = Some r.again; spelled = (s.next, b.next, (o.token, ap expr_token o.kind, o.gap ∙ glued, o.first), r.spelled, (c.token, ap expr_token c.kind, c.first)); fits = r.fits; same = ap (λ m. Some m) r.same }

-- the power of `pown` behind a space
power_again : (k : ℤ) (g : Bool) (tokens : List Token) (h : Bool) (rest : List Token) → PiecesSpell (space ∷ whole_power_pieces k) g tokens h rest → PowerSpells k tokens rest
power_again (pos n) g tokens h rest s =
    let o = only (digits n) false tokens h rest (past (digits n ∷ []) g tokens h rest s) in
    inl (n, refl, (o.token, ap power_in (power_token n o.token.kind o.kind), o.first))
power_again (negsuc n) g tokens h rest s =
    let p = past (bracket_open ∷ minus ∷ digits (suc n) ∷ bracket_close ∷ []) g tokens h rest s in
    let b = p.here in let m = p.later.here in let o = p.later.later.here in let e = p.later.later.later in let c = only bracket_close p.later.later.flag p.later.later.next h rest e in
    inr (suc n, p.next, p.later.next, p.later.later.next, refl, (b.token, ap expr_token b.kind, b.first), (m.token, ap expr_token m.kind, m.first), (o.token, ap power_in (power_token (suc n) o.token.kind o.kind), o.first), (c.token, ap expr_token c.kind, c.first))

truth_again : (at : ℕ) (b : Bool) (g : Bool) (tokens : List Token) (h : Bool) (rest : List Token) → PiecesSpell (truth_piece b ∷ []) g tokens h rest → ExprAgain (truth_syntax at b) tokens rest
truth_again at true g tokens h rest s = let o = only true_word g tokens h rest s in record { again = truth_syntax o.token.start true; spelled = (o.token, ap expr_token o.kind, refl, o.first); fits = tt; same = refl; ranked = refl }
truth_again at false g tokens h rest s = let o = only false_word g tokens h rest s in record { again = truth_syntax o.token.start false; spelled = (o.token, ap expr_token o.kind, refl, o.first); fits = tt; same = refl; ranked = refl }

mutual
  pub expr_again : (e : ExprSyntax) → Fits e → (old end : List Token) → Spells e old end → (g : Bool) (tokens : List Token) (h : Bool) (rest : List Token) → PiecesSpell (expr_pieces e) g tokens h rest → ExprAgain e tokens rest
  expr_again (truth_syntax at b) f old end q g tokens h rest s = truth_again at b g tokens h rest s
  expr_again (number_syntax at c n) f old end q g tokens h rest s =
      let o = s.here in let r = unit_note_again n f s.flag o.open_end s.next h rest s.later in
      record { again = number_syntax o.token.start c r.again; spelled = (s.next, (o.token, ap expr_token o.kind.2, refl, o.first), r.spelled); fits = r.fits; same = ap (number_syntax 0 c) r.same; ranked = refl }
  expr_again (name_syntax at x) f old end q g tokens h rest s =
      let o = only (name x) g tokens h rest s in
      record { again = name_syntax o.token.start x; spelled = (o.token, ap expr_token o.kind, refl, o.first); fits = tt; same = refl; ranked = refl }
  expr_again (call_syntax at x es) f old end q g tokens h rest s =
      let o = s.here in let r = arguments_again es f.1 q.0 end q.2 s.flag s.next h rest s.later in
      record { again = call_syntax o.token.start x r.again; spelled = (s.next, (o.token, ap expr_token o.kind, refl, o.first), r.spelled); fits = (r.some f.0, r.fits); same = ap (call_syntax 0 x) r.same; ranked = refl }
  expr_again (negate_syntax at e) f old end q g tokens h rest s =
      let o = s.here in let r = expr_again e f.1 q.0 end q.2 s.flag s.next h rest s.later in
      record { again = negate_syntax o.token.start r.again; spelled = (s.next, (o.token, ap expr_token o.kind, refl, o.first), r.spelled); fits = (subst (λ n. n ≤ 2) (sym r.ranked) f.0, r.fits); same = ap (negate_syntax 0) r.same; ranked = refl }
  expr_again (not_syntax at e) f old end q g tokens h rest s =
      let l = led not_word (expr_pieces e) g tokens h rest s in let o = l.here in let r = expr_again e f.1 q.0 end q.2 false l.next h rest l.later in
      record { again = not_syntax o.token.start r.again; spelled = (l.next, (o.token, ap expr_token o.kind, refl, o.first), r.spelled); fits = (r.ranked ∙ f.0, r.fits); same = ap (not_syntax 0) r.same; ranked = refl }
  expr_again (pown_syntax at e k) f old end q g tokens h rest s =
      let p = both (pown_word ∷ space ∷ expr_pieces e) (space ∷ whole_power_pieces k) g tokens h rest s in
      let l = led pown_word (expr_pieces e) g tokens p.flag p.next p.here in let o = l.here in let r = expr_again e f.1 q.0 q.1 q.3 false l.next p.flag p.next l.later in
      record { again = pown_syntax o.token.start r.again k; spelled = (l.next, p.next, (o.token, ap expr_token o.kind, refl, o.first), r.spelled, power_again k p.flag p.next h rest p.later); fits = (r.ranked ∙ f.0, r.fits); same = ap (λ x. pown_syntax 0 x k) r.same; ranked = refl }
  expr_again (arith_syntax at op a b) f old end q g tokens h rest s =
      let p = parted (expr_pieces a) (arith_piece op ∷ []) (expr_pieces b) g tokens h rest s in let i = arith_sign op p.mid p.behind p.next p.middle in
      let l = expr_again a f.2 old q.0 q.2 g tokens p.flag p.mid p.left in let r = expr_again b f.3 q.1 end q.4 false p.next h rest p.right in
      record { again = arith_syntax i.0 op l.again r.again; spelled = (p.mid, p.next, l.spelled, i.1 tokens, r.spelled); fits = (subst (λ n. n ≤ arith_rank op) (sym l.ranked) f.0, subst (λ n. n < arith_rank op) (sym r.ranked) f.1, l.fits, r.fits); same = ap (λ x. arith_syntax 0 op x (bare_expr r.again)) l.same ∙ ap (arith_syntax 0 op (bare_expr a)) r.same; ranked = refl }
  expr_again (compare_syntax at sg a b) f old end q g tokens h rest s =
      let p = parted (expr_pieces a) (compare_pieces sg) (expr_pieces b) g tokens h rest s in let i = compare_sign sg p.mid p.behind p.next p.middle in
      let l = expr_again a f.2 old q.0 q.2 g tokens p.flag p.mid p.left in let r = expr_again b f.3 q.1 end q.4 false p.next h rest p.right in
      record { again = compare_syntax i.0 sg l.again r.again; spelled = (p.mid, p.next, l.spelled, i.1 tokens, r.spelled); fits = (subst (λ n. n ≤ 5) (sym l.ranked) f.0, subst (λ n. n < 6) (sym r.ranked) f.1, l.fits, r.fits); same = ap (λ x. compare_syntax 0 sg x (bare_expr r.again)) l.same ∙ ap (compare_syntax 0 sg (bare_expr a)) r.same; ranked = refl }
  expr_again (and_syntax at a b) f old end q g tokens h rest s =
      let p = parted (expr_pieces a) (double_and ∷ []) (expr_pieces b) g tokens h rest s in let o = only double_and false p.mid p.behind p.next p.middle in
      let l = expr_again a f.2 old q.0 q.2 g tokens p.flag p.mid p.left in let r = expr_again b f.3 q.1 end q.4 false p.next h rest p.right in
      record { again = and_syntax o.token.start l.again r.again; spelled = (p.mid, p.next, l.spelled, (o.token, ap expr_token o.kind, refl, o.first), r.spelled); fits = (subst (λ n. n ≤ 7) (sym l.ranked) f.0, subst (λ n. n < 7) (sym r.ranked) f.1, l.fits, r.fits); same = ap (λ x. and_syntax 0 x (bare_expr r.again)) l.same ∙ ap (and_syntax 0 (bare_expr a)) r.same; ranked = refl }
  expr_again (or_syntax at a b) f old end q g tokens h rest s =
      let p = parted (expr_pieces a) (double_bar ∷ []) (expr_pieces b) g tokens h rest s in let o = only double_bar false p.mid p.behind p.next p.middle in
      let l = expr_again a f.2 old q.0 q.2 g tokens p.flag p.mid p.left in let r = expr_again b f.3 q.1 end q.4 false p.next h rest p.right in
      record { again = or_syntax o.token.start l.again r.again; spelled = (p.mid, p.next, l.spelled, (o.token, ap expr_token o.kind, refl, o.first), r.spelled); fits = (subst (λ n. n ≤ 8) (sym l.ranked) f.0, subst (λ n. n < 8) (sym r.ranked) f.1, l.fits, r.fits); same = ap (λ x. or_syntax 0 x (bare_expr r.again)) l.same ∙ ap (or_syntax 0 (bare_expr a)) r.same; ranked = refl }
  expr_again (cons_syntax at a b) f old end q g tokens h rest s =
      let p = parted (expr_pieces a) (double_colon ∷ []) (expr_pieces b) g tokens h rest s in let o = only double_colon false p.mid p.behind p.next p.middle in
      let l = expr_again a f.2 old q.0 q.2 g tokens p.flag p.mid p.left in let r = expr_again b f.3 q.1 end q.4 false p.next h rest p.right in
      record { again = cons_syntax o.token.start l.again r.again; spelled = (p.mid, p.next, l.spelled, (o.token, ap expr_token o.kind, refl, o.first), r.spelled); fits = (subst (λ n. n ≤ 4) (sym l.ranked) f.0, subst (λ n. n < 6) (sym r.ranked) f.1, l.fits, r.fits); same = ap (λ x. cons_syntax 0 x (bare_expr r.again)) l.same ∙ ap (cons_syntax 0 (bare_expr a)) r.same; ranked = refl }
  expr_again (if_syntax at c a b) f old end q g tokens h rest s =
      let p = both ((if_word ∷ space ∷ expr_pieces c) ++ space ∷ then_word ∷ space ∷ expr_pieces a) (space ∷ else_word ∷ space ∷ expr_pieces b) g tokens h rest s in
      let d = both (if_word ∷ space ∷ expr_pieces c) (space ∷ then_word ∷ space ∷ expr_pieces a) g tokens p.flag p.next p.here in
      let i = led if_word (expr_pieces c) g tokens d.flag d.next d.here in let t = spaced then_word (expr_pieces a) d.flag d.next p.flag p.next d.later in
      let e = spaced else_word (expr_pieces b) p.flag p.next h rest p.later in let oi = i.here in let ot = t.here in let oe = e.here in
      let x = expr_again c f.0 q.0 q.1 q.6 false i.next d.flag d.next i.later in let y = expr_again a f.1 q.2 q.3 q.8 false t.next p.flag p.next t.later in
      let z = expr_again b f.2 q.4 end q.10 false e.next h rest e.later in
      record { again = if_syntax oi.token.start x.again y.again z.again; spelled = (i.next, d.next, t.next, p.next, e.next, (oi.token, ap expr_token oi.kind, refl, oi.first), x.spelled, (ot.token, ap expr_token ot.kind, ot.first), y.spelled, (oe.token, ap expr_token oe.kind, oe.first), z.spelled); fits = (x.fits, y.fits, z.fits); same = ap (λ v. if_syntax 0 v (bare_expr y.again) (bare_expr z.again)) x.same ∙ ap (λ v. if_syntax 0 (bare_expr c) v (bare_expr z.again)) y.same ∙ ap (if_syntax 0 (bare_expr c) (bare_expr a)) z.same; ranked = refl }
  expr_again (let_syntax at x a b) f old end q g tokens h rest s =
      let p = both (let_word ∷ space ∷ binder_piece x ∷ space ∷ equal ∷ space ∷ expr_pieces a) (space ∷ in_word ∷ space ∷ expr_pieces b) g tokens h rest s in
      let l = led let_word (binder_piece x ∷ space ∷ equal ∷ space ∷ expr_pieces a) g tokens p.flag p.next p.here in
      let n = led (binder_piece x) (equal ∷ space ∷ expr_pieces a) false l.next p.flag p.next l.later in let w = binder_again x.at x.name false l.next n.flag n.next n.here in
      let e = led equal (expr_pieces a) false n.next p.flag p.next n.later in let i = spaced in_word (expr_pieces b) p.flag p.next h rest p.later in
      let ol = l.here in let oe = e.here in let oi = i.here in
      let y = expr_again a f.0 q.2 q.3 q.8 false e.next p.flag p.next e.later in let z = expr_again b f.1 q.4 end q.10 false i.next h rest i.later in
      record { again = let_syntax ol.token.start w.again y.again z.again; spelled = (l.next, n.next, e.next, p.next, i.next, (ol.token, ap expr_token ol.kind, refl, ol.first), w.spelled, (oe.token, ap expr_token oe.kind, oe.first), y.spelled, (oi.token, ap expr_token oi.kind, oi.first), z.spelled); fits = (y.fits, z.fits); same = ap (λ v. let_syntax 0 v (bare_expr y.again) (bare_expr z.again)) w.same ∙ ap (λ v. let_syntax 0 (bare_binder x) v (bare_expr z.again)) y.same ∙ ap (let_syntax 0 (bare_binder x) (bare_expr a)) z.same; ranked = refl }
  expr_again (match_syntax at l a x y b) f old end q g tokens h rest s =
      let p = both ((match_word ∷ space ∷ expr_pieces l) ++ space ∷ with_word ∷ space ∷ list_open ∷ list_close ∷ space ∷ arrow ∷ space ∷ expr_pieces a) (space ∷ bar ∷ space ∷ binder_piece x ∷ space ∷ double_colon ∷ space ∷ binder_piece y ∷ space ∷ arrow ∷ space ∷ expr_pieces b) g tokens h rest s in
      let d = both (match_word ∷ space ∷ expr_pieces l) (space ∷ with_word ∷ space ∷ list_open ∷ list_close ∷ space ∷ arrow ∷ space ∷ expr_pieces a) g tokens p.flag p.next p.here in
      let m = led match_word (expr_pieces l) g tokens d.flag d.next d.here in
      let w = spaced with_word (list_open ∷ list_close ∷ space ∷ arrow ∷ space ∷ expr_pieces a) d.flag d.next p.flag p.next d.later in
      let c = led list_close (arrow ∷ space ∷ expr_pieces a) w.later.flag w.later.next p.flag p.next w.later.later in
      let r = led arrow (expr_pieces a) false c.next p.flag p.next c.later in
      let u = spaced bar (binder_piece x ∷ space ∷ double_colon ∷ space ∷ binder_piece y ∷ space ∷ arrow ∷ space ∷ expr_pieces b) p.flag p.next h rest p.later in
      let hx = led (binder_piece x) (double_colon ∷ space ∷ binder_piece y ∷ space ∷ arrow ∷ space ∷ expr_pieces b) false u.next h rest u.later in
      let k = led double_colon (binder_piece y ∷ space ∷ arrow ∷ space ∷ expr_pieces b) false hx.next h rest hx.later in
      let hy = led (binder_piece y) (arrow ∷ space ∷ expr_pieces b) false k.next h rest k.later in
      let v = led arrow (expr_pieces b) false hy.next h rest hy.later in
      let bx = binder_again x.at x.name false u.next hx.flag hx.next hx.here in let by = binder_again y.at y.name false k.next hy.flag hy.next hy.here in
      let om = m.here in let ow = w.here in let oo = w.later.here in let oc = c.here in let oa = r.here in let ob = u.here in let ok = k.here in let ov = v.here in
      let i = expr_again l f.0 q.0 q.1 q.6 false m.next d.flag d.next m.later in let j = expr_again a f.1 q.2 q.3 q.8 false r.next p.flag p.next r.later in
      let z = expr_again b f.2 q.4 end q.10 false v.next h rest v.later in
      record { again = match_syntax om.token.start i.again j.again bx.again by.again z.again; spelled = (m.next, d.next, r.next, p.next, v.next, (om.token, ap expr_token om.kind, refl, om.first), i.spelled, (w.next, w.next, w.later.next, c.next, (ow.token, ap expr_token ow.kind, ow.first), inl refl, (oo.token, ap expr_token oo.kind, oo.first), (oc.token, ap expr_token oc.kind, oc.first), (oa.token, ap expr_token oa.kind, oa.first)), j.spelled, (u.next, hx.next, k.next, hy.next, (ob.token, ap expr_token ob.kind, ob.first), bx.spelled, (ok.token, ap expr_token ok.kind, ok.first), by.spelled, (ov.token, ap expr_token ov.kind, ov.first)), z.spelled); fits = (i.fits, j.fits, z.fits); same = ap (λ e. match_syntax 0 e (bare_expr j.again) (bare_binder bx.again) (bare_binder by.again) (bare_expr z.again)) i.same ∙ ap (λ e. match_syntax 0 (bare_expr l) e (bare_binder bx.again) (bare_binder by.again) (bare_expr z.again)) j.same ∙ ap (λ e. match_syntax 0 (bare_expr l) (bare_expr a) e (bare_binder by.again) (bare_expr z.again)) bx.same ∙ ap (λ e. match_syntax 0 (bare_expr l) (bare_expr a) (bare_binder x) e (bare_expr z.again)) by.same ∙ ap (match_syntax 0 (bare_expr l) (bare_expr a) (bare_binder x) (bare_binder y)) z.same; ranked = refl }
  expr_again (nil_syntax at t) f old end q g tokens h rest s =
      let p = both (bracket_open ∷ list_open ∷ list_close ∷ space ∷ colon ∷ space ∷ type_pieces t) (bracket_close ∷ []) g tokens h rest s in
      let oo = p.here.here in let ol = p.here.later.here in let k = led list_close (colon ∷ space ∷ type_pieces t) p.here.later.flag p.here.later.next p.flag p.next p.here.later.later in
      let c = led colon (type_pieces t) false k.next p.flag p.next k.later in let oc = k.here in let on = c.here in
      let r = type_again t f false c.next p.flag p.next c.later in let ob = only bracket_close p.flag p.next h rest p.later in
      record { again = nil_syntax oo.token.start r.again; spelled = (p.here.next, p.here.later.next, k.next, c.next, p.next, (oo.token, ap expr_token oo.kind, refl, oo.first), (ol.token, ap expr_token ol.kind, ol.first), (oc.token, ap expr_token oc.kind, oc.first), (on.token, ap expr_token on.kind, on.first), r.spelled, (ob.token, ap expr_token ob.kind, ob.first)); fits = r.fits; same = ap (nil_syntax 0) r.same; ranked = refl }
  expr_again (list_syntax at no_exprs) f old end q g tokens h rest s = absurd q.3
  expr_again (list_syntax at (more_exprs e es)) f old end q g tokens h rest s =
      let p = both (list_open ∷ item_pieces (more_exprs e es)) (list_close ∷ []) g tokens h rest s in let o = p.here.here in
      let b = both (expr_pieces e) (more_item_pieces es) p.here.flag p.here.next p.flag p.next p.here.later in
      let x = expr_again e f.0 q.0 q.3.0 q.3.1 p.here.flag p.here.next b.flag b.next b.here in let r = more_items_again es f.1 q.3.0 q.1 q.3.2 b.flag b.next p.flag p.next b.later in
      let c = only list_close p.flag p.next h rest p.later in
      record { again = list_syntax o.token.start (more_exprs x.again r.again); spelled = (p.here.next, p.next, (o.token, ap expr_token o.kind, refl, o.first), (b.next, x.spelled, r.spelled), (c.token, ap expr_token c.kind, c.first)); fits = (x.fits, r.fits); same = ap (λ v. list_syntax 0 (more_exprs v (bare_exprs r.again))) x.same ∙ ap (λ v. list_syntax 0 (more_exprs (bare_expr e) v)) r.same; ranked = refl }
  expr_again (fields_syntax at no_fields) f old end q g tokens h rest s = absurd q.3
  expr_again (fields_syntax at (more_fields place x e fs)) f old end q g tokens h rest s =
      let p = both (record_open ∷ space ∷ field_pieces (more_fields place x e fs)) (space ∷ record_close ∷ []) g tokens h rest s in
      let l = led record_open (field_pieces (more_fields place x e fs)) g tokens p.flag p.next p.here in let o = l.here in
      let b = both (name x ∷ space ∷ equal ∷ space ∷ expr_pieces e) (more_field_pieces fs) false l.next p.flag p.next l.later in
      let n = led (name x) (equal ∷ space ∷ expr_pieces e) false l.next b.flag b.next b.here in let d = led equal (expr_pieces e) false n.next b.flag b.next n.later in let on = n.here in let od = d.here in
      let y = expr_again e f.0 q.3.1 q.3.2 q.3.5 false d.next b.flag b.next d.later in let r = more_fields_again fs f.1 q.3.2 q.1 q.3.6 b.flag b.next p.flag p.next b.later in
      let c = only record_close false p.next h rest (past (record_close ∷ []) p.flag p.next h rest p.later) in
      record { again = fields_syntax o.token.start (more_fields on.token.start x y.again r.again); spelled = (l.next, p.next, (o.token, ap expr_token o.kind, refl, o.first), (n.next, d.next, b.next, (on.token, ap expr_token on.kind, refl, on.first), (od.token, ap expr_token od.kind, od.first), y.spelled, r.spelled), (c.token, ap expr_token c.kind, c.first)); fits = (y.fits, r.fits); same = ap (λ v. fields_syntax 0 (more_fields 0 x v (bare_fields r.again))) y.same ∙ ap (λ v. fields_syntax 0 (more_fields 0 x (bare_expr e) v)) r.same; ranked = refl }
  expr_again (field_syntax at place x e) f old end q g tokens h rest s =
      let p = both (expr_pieces e) (dot ∷ name x ∷ []) g tokens h rest s in let r = expr_again e f.1 old q.0 q.2 g tokens p.flag p.next p.here in
      let o = p.later.here in let n = only (name x) p.later.flag p.later.next h rest p.later.later in
      record { again = field_syntax o.token.start n.token.start x r.again; spelled = (p.next, p.later.next, r.spelled, (o.token, ap expr_token o.kind, refl, o.first), (n.token, ap expr_token n.kind, refl, n.first)); fits = (r.ranked ∙ f.0, r.fits); same = ap (field_syntax 0 0 x) r.same; ranked = refl }
  expr_again (bracket_expr_syntax at e) f old end q g tokens h rest s =
      let p = both (bracket_open ∷ expr_pieces e) (bracket_close ∷ []) g tokens h rest s in let o = p.here.here in
      let r = expr_again e f q.0 q.1 q.3 p.here.flag p.here.next p.flag p.next p.here.later in let c = only bracket_close p.flag p.next h rest p.later in
      record { again = bracket_expr_syntax o.token.start r.again; spelled = (p.here.next, p.next, (o.token, ap expr_token o.kind, refl, o.first), r.spelled, (c.token, ap expr_token c.kind, c.first)); fits = r.fits; same = ap (bracket_expr_syntax 0) r.same; ranked = refl }

  pub arguments_again : (es : ExprSyntaxes) → AreAtoms es → (old end : List Token) → AllSpell es old end → (g : Bool) (tokens : List Token) (h : Bool) (rest : List Token) → PiecesSpell (argument_pieces es) g tokens h rest → ArgumentsAgain es tokens rest
  arguments_again no_exprs f old end q g tokens h rest s = record { again = no_exprs; spelled = s.same; fits = tt; same = refl; some = λ n. n }
  arguments_again (more_exprs e es) f old end q g tokens h rest s =
      let b = both (space ∷ expr_pieces e) (argument_pieces es) g tokens h rest s in let x = expr_again e f.1 old q.0 q.1 false tokens b.flag b.next (past (expr_pieces e) g tokens b.flag b.next b.here) in
      let r = arguments_again es f.2 q.0 end q.2 b.flag b.next h rest b.later in
      record { again = more_exprs x.again r.again; spelled = (b.next, x.spelled, r.spelled); fits = (x.ranked ∙ f.0, x.fits, r.fits); same = ap (λ v. more_exprs v (bare_exprs r.again)) x.same ∙ ap (more_exprs (bare_expr e)) r.same; some = λ n. tt }

  pub more_items_again : (es : ExprSyntaxes) → AllFit es → (old end : List Token) → MoreItems es old end → (g : Bool) (tokens : List Token) (h : Bool) (rest : List Token) → PiecesSpell (more_item_pieces es) g tokens h rest → MoreItemsAgain es tokens rest
  more_items_again no_exprs f old end q g tokens h rest s = record { again = no_exprs; spelled = s.same; fits = tt; same = refl }
  more_items_again (more_exprs e es) f old end q g tokens h rest s =
      let b = both (semi ∷ space ∷ expr_pieces e) (more_item_pieces es) g tokens h rest s in let l = led semi (expr_pieces e) g tokens b.flag b.next b.here in let o = l.here in
      let x = expr_again e f.0 q.0 q.1 q.3 false l.next b.flag b.next l.later in let r = more_items_again es f.1 q.1 end q.4 b.flag b.next h rest b.later in
      record { again = more_exprs x.again r.again; spelled = (l.next, b.next, (o.token, ap expr_token o.kind, o.first), x.spelled, r.spelled); fits = (x.fits, r.fits); same = ap (λ v. more_exprs v (bare_exprs r.again)) x.same ∙ ap (more_exprs (bare_expr e)) r.same }

  pub more_fields_again : (fs : FieldSyntaxes) → FieldsFit fs → (old end : List Token) → MoreFields fs old end → (g : Bool) (tokens : List Token) (h : Bool) (rest : List Token) → PiecesSpell (more_field_pieces fs) g tokens h rest → MoreFieldsAgain fs tokens rest
  more_fields_again no_fields f old end q g tokens h rest s = record { again = no_fields; spelled = s.same; fits = tt; same = refl }
  more_fields_again (more_fields at x e fs) f old end q g tokens h rest s =
      let b = both (semi ∷ space ∷ name x ∷ space ∷ equal ∷ space ∷ expr_pieces e) (more_field_pieces fs) g tokens h rest s in
      let l = led semi (name x ∷ space ∷ equal ∷ space ∷ expr_pieces e) g tokens b.flag b.next b.here in let n = led (name x) (equal ∷ space ∷ expr_pieces e) false l.next b.flag b.next l.later in
      let d = led equal (expr_pieces e) false n.next b.flag b.next n.later in let o = l.here in let on = n.here in let od = d.here in
      let y = expr_again e f.0 q.2 q.3 q.7 false d.next b.flag b.next d.later in let r = more_fields_again fs f.1 q.3 end q.8 b.flag b.next h rest b.later in
      record { again = more_fields on.token.start x y.again r.again; spelled = (l.next, n.next, d.next, b.next, (o.token, ap expr_token o.kind, o.first), (on.token, ap expr_token on.kind, refl, on.first), (od.token, ap expr_token od.kind, od.first), y.spelled, r.spelled); fits = (y.fits, r.fits); same = ap (λ v. more_fields 0 x v (bare_fields r.again)) y.same ∙ ap (more_fields 0 x (bare_expr e)) r.same }
