-- The layout of an expression whose tokens are those of some text is a chain of pieces.
use Rattle.std.proofs.Common.{◌≡◌, ℕ, zero, suc, ◌≤◌, ℤ, pos, Bool, true, false, List, [], ◌∷◌, ◌++◌, Option, Some, None, refl, sym, subst, ⊎_elim}
use Rattle.std.specs.Prelude.{neg_ℤ}
use Rattle.um_syntax.specs.declared.token.Token.{Token}
use Rattle.um_syntax.specs.declared.token.Kind.{Kind}
use Rattle.um_vocabulary.specs.declared.vocabulary.Keyword.{Keyword}
use Rattle.um_vocabulary.specs.declared.vocabulary.Keyword.TheVariants as keyword
use Rattle.um_tree.specs.declared.expression.Arith.{Arith}
use Rattle.um_tree.specs.declared.expression.Arith.TheVariants as arith_of
use Rattle.um_tree.specs.declared.expression.Sign.{Sign}
use Rattle.um_tree.specs.declared.expression.Sign.TheVariants as compare
use Rattle.um_tree.specs.RawTree.{NoteSyntax, TypeSyntax, BinderSyntax, ExprSyntax, ExprSyntaxes, FieldSyntaxes, truth_syntax, number_syntax, name_syntax, call_syntax, negate_syntax, not_syntax, pown_syntax, arith_syntax, compare_syntax, and_syntax, or_syntax, if_syntax, let_syntax, match_syntax, nil_syntax, list_syntax, cons_syntax, fields_syntax, field_syntax, bracket_expr_syntax, no_exprs, more_exprs, no_fields, more_fields}
use Rattle.um_operands.specs.declared.infix.Infix.{Infix}
use Rattle.um_operands.specs.declared.infix.Infix.TheVariants as infix_of
use Rattle.um_forms.specs.ExprTokens.{expr_token}
use Rattle.um_expr.specs.ExprGrammar.{bound, BinderSpells, InfixAt, WrittenNote, EmptyArm, FirstPower, PowerSpells, NilSpells, Spells, AllSpell, ItemsSpell, MoreItems, FieldsSpell, MoreFields, NoteFitsIn, Fits, AreAtoms, AllFit, FieldsFit}
use Rattle.um_show.specs.Pieces.{Piece, name, word, space, equal, dot, bar, double_bar, double_and, double_colon, arrow, in_word, if_word, match_word, then_word, else_word, with_word, list_open, list_close, bracket_close, record_close}
use Rattle.um_show.specs.Layout.{written_pieces, type_pieces, bound_piece, binder_piece, truth_piece, arith_piece, compare_pieces, whole_power_pieces, expr_pieces, argument_pieces, item_pieces, more_item_pieces, field_pieces, more_field_pieces}
use Rattle.um_show.proofs.Chain.{Place, fresh, full, Good, Chain, regroup}
use Rattle.um_show.proofs.GoodTokens.{AllGood, GoodKind, first_good, name_good, number_good, power_good}
use Rattle.um_show.proofs.UnitLinks.{Linked, linked_all, link}
use Rattle.um_show.proofs.TypeLinks.{angle_links, type_links}

-- ---- words and signs with a space on each side

pub spaced_word : (k : Keyword) (ps : List Piece) → Chain (fresh false false) ps full → Chain full (space ∷ word k ∷ space ∷ ps) full
spaced_word k ps c = (tt, refl, (tt, refl, (tt, refl, c)))

pub spaced_equal : (ps : List Piece) → Chain (fresh false false) ps full → Chain full (space ∷ equal ∷ space ∷ ps) full
spaced_equal ps c = (tt, refl, (tt, refl, (tt, refl, c)))

spaced_arith : (op : Arith) (ps : List Piece) → Chain (fresh false false) ps full → Chain full (space ∷ arith_piece op ∷ space ∷ ps) full
spaced_arith arith_of.Add ps c = (tt, refl, (tt, refl, (tt, refl, c)))
spaced_arith arith_of.Sub ps c = (tt, refl, (tt, refl, (tt, refl, c)))
spaced_arith arith_of.Mul ps c = (tt, refl, (tt, refl, (tt, refl, c)))
spaced_arith arith_of.Div ps c = (tt, refl, (tt, refl, (tt, refl, c)))

spaced_compare : (sign : Sign) (ps : List Piece) → Chain (fresh false false) ps full → Chain full (space ∷ compare_pieces sign ++ space ∷ ps) full
spaced_compare compare.Lt ps c = (tt, refl, (tt, refl, (tt, refl, c)))
spaced_compare compare.Le ps c = (tt, refl, (tt, refl, (tt, refl, c)))
spaced_compare compare.Eq ps c = (tt, refl, (tt, refl, (tt, refl, c)))
spaced_compare compare.Ne ps c = (tt, refl, (tt, refl, (tt, refl, c)))
spaced_compare compare.Gt ps c = (tt, refl, (tt, refl, (tt, refl, c)))
spaced_compare compare.Ge ps c = (tt, refl, (tt, refl, (tt, refl, (tt, refl, c))))

-- ---- tokens

infix_behind : (sign : Infix) (left : List Token) (at : ℕ) (tokens rest : List Token) → InfixAt sign left at tokens rest → AllGood tokens → AllGood rest
infix_behind infix_of.Or left at tokens rest s h = (first_good tokens rest s.0 s.3 h).1
infix_behind infix_of.And left at tokens rest s h = (first_good tokens rest s.0 s.3 h).1
infix_behind infix_of.Cons left at tokens rest s h = (first_good tokens rest s.0 s.3 h).1
infix_behind (infix_of.Arith op) left at tokens rest s h = (first_good tokens rest s.0 s.3 h).1
infix_behind (infix_of.Compare compare.Lt) left at tokens rest s h = (first_good tokens rest s.0 s.4 h).1
infix_behind (infix_of.Compare compare.Le) left at tokens rest s h = (first_good tokens rest s.0 s.3 h).1
infix_behind (infix_of.Compare compare.Eq) left at tokens rest s h = (first_good tokens rest s.0 s.3 h).1
infix_behind (infix_of.Compare compare.Ne) left at tokens rest s h = (first_good tokens rest s.0 s.3 h).1
infix_behind (infix_of.Compare compare.Gt) left at tokens rest s h = (first_good tokens rest s.0 s.3 h).1
infix_behind (infix_of.Compare compare.Ge) left at tokens rest s h = (first_good s.0 rest s.2.0 s.2.3 (first_good tokens s.0 s.1.0 s.1.3 h).1).1

bound_good : (o : Option (List ℕ)) (k : Kind) → expr_token k ≡ bound o → GoodKind k → Good (bound_piece o)
bound_good None k e h = tt
bound_good (Some x) k e h = name_good k x e h

bound_step : (o : Option (List ℕ)) (g d : Bool) (ps : List Piece) (t : Place) → Good (bound_piece o) → Chain full ps t → Chain (fresh g d) (bound_piece o ∷ ps) t
bound_step None g d ps t h c = (h, refl, c)
bound_step (Some x) g d ps t h c = (h, refl, c)

-- a binder and what follows it
pub binder_links : (x : BinderSyntax) (tokens rest : List Token) → BinderSpells x tokens rest → AllGood tokens → Good (binder_piece x) × AllGood rest
binder_links x tokens rest s h = let b = first_good tokens rest s.0 s.3 h in (bound_good x.name s.0.kind s.1 b.0, b.1)

pub binder_step : (x : BinderSyntax) (g : Bool) (ps : List Piece) → Good (binder_piece x) → Chain full ps full → Chain (fresh g false) (binder_piece x ∷ ps) full
binder_step x g ps h c = bound_step x.name g false ps full h c

truth_chain : (b g : Bool) → Chain (fresh g false) (truth_piece b ∷ []) full
truth_chain true g = (tt, refl, refl)
truth_chain false g = (tt, refl, refl)

written_links : (n : Option NoteSyntax) (tokens rest : List Token) → WrittenNote n tokens rest → NoteFitsIn n → AllGood tokens → Linked full (written_pieces n) full rest
written_links None tokens rest s f h = linked_all tokens rest s h
written_links (Some n) tokens rest s f h = angle_links n tokens s.0 s.1 rest s.2.0 s.4.0 s.2.3 s.3 s.4.2 f h

negative_power_links : (n : ℕ) (rest : List Token) → n ≤ 2147483647 → AllGood rest → Linked (fresh false false) (whole_power_pieces (neg_ℤ (pos n))) full rest
negative_power_links zero rest low h = record { chain = (low, refl, refl); good = h }
negative_power_links (suc n) rest low h = record { chain = (tt, refl, (tt, refl, (low, refl, (tt, refl, refl)))); good = h }

first_power_good : (n : ℕ) (tokens rest : List Token) → FirstPower n tokens rest → AllGood tokens → (n ≤ 2147483647) × AllGood rest
first_power_good n tokens rest s h = (power_good s.0.kind n s.1, (first_good tokens rest s.0 s.2 h).1)

power_links : (k : ℤ) (tokens rest : List Token) → PowerSpells k tokens rest → AllGood tokens → Linked (fresh false false) (whole_power_pieces k) full rest
power_links k tokens rest s h =
    ⊎_elim
    (λ p. let d = first_power_good p.0 tokens rest p.2 h in subst (λ z. Linked (fresh false false) (whole_power_pieces z) full rest) (sym p.1) (record { chain = (d.0, refl, refl); good = d.1 }))
    (λ m.
    let behind = (first_good m.1 m.2 m.6.0 m.6.2 (first_good tokens m.1 m.5.0 m.5.2 h).1).1 in let d = first_power_good m.0 m.2 m.3 m.7 behind in
    subst (λ z. Linked (fresh false false) (whole_power_pieces z) full rest) (sym m.4) (negative_power_links m.0 rest d.0 (first_good m.3 rest m.8.0 m.8.2 d.1).1))
    s

empty_arm_behind : (tokens rest : List Token) → EmptyArm tokens rest → AllGood tokens → AllGood rest
empty_arm_behind tokens rest s h =
    let arm = (first_good tokens s.0 s.4.0 s.4.2 h).1 in
    let empty = ⊎_elim (λ e. subst (λ w. AllGood w) e arm) (λ b. (first_good s.0 s.1 b.0 b.2 arm).1) s.5 in
    let close = (first_good s.1 s.2 s.6.0 s.6.2 empty).1 in let arrows = (first_good s.2 s.3 s.7.0 s.7.2 close).1 in
    (first_good s.3 rest s.8.0 s.8.2 arrows).1

-- ` with [] -> ` and what follows
empty_arm_chain : (ps : List Piece) → Chain (fresh false false) ps full → Chain full (space ∷ with_word ∷ space ∷ list_open ∷ list_close ∷ space ∷ arrow ∷ space ∷ ps) full
empty_arm_chain ps c = spaced_word keyword.With (list_open ∷ list_close ∷ space ∷ arrow ∷ space ∷ ps) (tt, refl, (tt, refl, (tt, refl, (tt, refl, (tt, refl, c)))))

-- ` | x :: y -> ` and what follows
full_arm_chain : (x y : BinderSyntax) (ps : List Piece) → Good (binder_piece x) → Good (binder_piece y) → Chain (fresh false false) ps full
    → Chain full (space ∷ bar ∷ space ∷ binder_piece x ∷ space ∷ double_colon ∷ space ∷ binder_piece y ∷ space ∷ arrow ∷ space ∷ ps) full
full_arm_chain x y ps gx gy c =
    let last = binder_step y false (space ∷ arrow ∷ space ∷ ps) gy (tt, refl, (tt, refl, (tt, refl, c))) in
    let first = binder_step x false (space ∷ double_colon ∷ space ∷ binder_piece y ∷ space ∷ arrow ∷ space ∷ ps) gx (tt, refl, (tt, refl, (tt, refl, last))) in
    (tt, refl, (tt, refl, (tt, refl, first)))

-- `([] : T)`
nil_links : (at : ℕ) (t : TypeSyntax) (tokens rest : List Token) → NilSpells at t tokens rest → Fits (nil_syntax at t) → AllGood tokens → (g : Bool) → Linked (fresh g false) (expr_pieces (nil_syntax at t)) full rest
nil_links at t tokens rest s f h g =
    let empty = (first_good tokens s.0 s.5.0 s.5.3 h).1 in let close = (first_good s.0 s.1 s.6.0 s.6.2 empty).1 in
    let colons = (first_good s.1 s.2 s.7.0 s.7.2 close).1 in let written = (first_good s.2 s.3 s.8.0 s.8.2 colons).1 in
    let r = type_links t s.3 s.4 s.9 f written false in
    record {
      chain = (tt, refl, (tt, refl, (tt, refl, (tt, refl, (tt, refl, (tt, refl, link (type_pieces t) (bracket_close ∷ []) false false r.chain (tt, refl, refl)))))));
      good = (first_good s.4 rest s.10.0 s.10.2 r.good).1;
    }

-- ---- expressions

mutual
  pub expr_links : (e : ExprSyntax) (tokens rest : List Token) → Spells e tokens rest → Fits e → AllGood tokens → (g : Bool) → Linked (fresh g false) (expr_pieces e) full rest
  expr_links (truth_syntax at b) tokens rest s f h g = record { chain = truth_chain b g; good = (first_good tokens rest s.0 s.3 h).1 }
  expr_links (number_syntax at c n) tokens rest s f h g =
      let b = first_good tokens s.0 s.1.0 s.1.3 h in let r = written_links n s.0 rest s.2 f b.1 in
      record { chain = (number_good s.1.0.kind c s.1.1 b.0, refl, r.chain); good = r.good }
  expr_links (name_syntax at x) tokens rest s f h g =
      let b = first_good tokens rest s.0 s.3 h in record { chain = (name_good s.0.kind x s.1 b.0, refl, refl); good = b.1 }
  expr_links (call_syntax at x args) tokens rest s f h g =
      let b = first_good tokens s.0 s.1.0 s.1.3 h in let r = argument_links args s.0 rest s.2 f.1 b.1 in
      record { chain = (name_good s.1.0.kind x s.1.1 b.0, refl, r.chain); good = r.good }
  expr_links (negate_syntax at e) tokens rest s f h g =
      let r = expr_links e s.0 rest s.2 f.1 (first_good tokens s.0 s.1.0 s.1.3 h).1 true in record { chain = (tt, refl, r.chain); good = r.good }
  expr_links (not_syntax at e) tokens rest s f h g =
      let r = expr_links e s.0 rest s.2 f.1 (first_good tokens s.0 s.1.0 s.1.3 h).1 false in record { chain = (tt, refl, (tt, refl, r.chain)); good = r.good }
  expr_links (pown_syntax at e k) tokens rest s f h g =
      let r = expr_links e s.0 s.1 s.3 f.1 (first_good tokens s.0 s.2.0 s.2.3 h).1 false in let q = power_links k s.1 rest s.4 r.good in
      record { chain = (tt, refl, (tt, refl, link (expr_pieces e) (space ∷ whole_power_pieces k) false false r.chain (tt, refl, q.chain))); good = q.good }
  expr_links (arith_syntax at op a b) tokens rest s f h g =
      let r = expr_links a tokens s.0 s.2 f.2 h g in let q = expr_links b s.1 rest s.4 f.3 (infix_behind (infix_of.Arith op) tokens at s.0 s.1 s.3 r.good) false in
      record { chain = regroup (expr_pieces a) (space ∷ arith_piece op ∷ []) (space ∷ expr_pieces b) (fresh g false) full (link (expr_pieces a) (space ∷ arith_piece op ∷ space ∷ expr_pieces b) g false r.chain (spaced_arith op (expr_pieces b) q.chain)); good = q.good }
  expr_links (compare_syntax at sign a b) tokens rest s f h g =
      let r = expr_links a tokens s.0 s.2 f.2 h g in let q = expr_links b s.1 rest s.4 f.3 (infix_behind (infix_of.Compare sign) tokens at s.0 s.1 s.3 r.good) false in
      record { chain = regroup (expr_pieces a) (space ∷ compare_pieces sign) (space ∷ expr_pieces b) (fresh g false) full (link (expr_pieces a) (space ∷ compare_pieces sign ++ space ∷ expr_pieces b) g false r.chain (spaced_compare sign (expr_pieces b) q.chain)); good = q.good }
  expr_links (and_syntax at a b) tokens rest s f h g =
      let r = expr_links a tokens s.0 s.2 f.2 h g in let q = expr_links b s.1 rest s.4 f.3 (infix_behind infix_of.And tokens at s.0 s.1 s.3 r.good) false in
      record { chain = regroup (expr_pieces a) (space ∷ double_and ∷ []) (space ∷ expr_pieces b) (fresh g false) full (link (expr_pieces a) (space ∷ double_and ∷ space ∷ expr_pieces b) g false r.chain (tt, refl, (tt, refl, (tt, refl, q.chain)))); good = q.good }
  expr_links (or_syntax at a b) tokens rest s f h g =
      let r = expr_links a tokens s.0 s.2 f.2 h g in let q = expr_links b s.1 rest s.4 f.3 (infix_behind infix_of.Or tokens at s.0 s.1 s.3 r.good) false in
      record { chain = regroup (expr_pieces a) (space ∷ double_bar ∷ []) (space ∷ expr_pieces b) (fresh g false) full (link (expr_pieces a) (space ∷ double_bar ∷ space ∷ expr_pieces b) g false r.chain (tt, refl, (tt, refl, (tt, refl, q.chain)))); good = q.good }
  expr_links (cons_syntax at a b) tokens rest s f h g =
      let r = expr_links a tokens s.0 s.2 f.2 h g in let q = expr_links b s.1 rest s.4 f.3 (infix_behind infix_of.Cons tokens at s.0 s.1 s.3 r.good) false in
      record { chain = regroup (expr_pieces a) (space ∷ double_colon ∷ []) (space ∷ expr_pieces b) (fresh g false) full (link (expr_pieces a) (space ∷ double_colon ∷ space ∷ expr_pieces b) g false r.chain (tt, refl, (tt, refl, (tt, refl, q.chain)))); good = q.good }
  expr_links (if_syntax at c a b) tokens rest s f h g =
      let o = expr_links c s.0 s.1 s.6 f.0 (first_good tokens s.0 s.5.0 s.5.3 h).1 false in
      let r = expr_links a s.2 s.3 s.8 f.1 (first_good s.1 s.2 s.7.0 s.7.2 o.good).1 false in
      let q = expr_links b s.4 rest s.10 f.2 (first_good s.3 s.4 s.9.0 s.9.2 r.good).1 false in
      let last = spaced_word keyword.Else (expr_pieces b) q.chain in
      let middle = link (expr_pieces a) (space ∷ else_word ∷ space ∷ expr_pieces b) false false r.chain last in
      let both = spaced_word keyword.Then (expr_pieces a ++ space ∷ else_word ∷ space ∷ expr_pieces b) middle in
      let whole = link (expr_pieces c) (space ∷ then_word ∷ space ∷ expr_pieces a ++ space ∷ else_word ∷ space ∷ expr_pieces b) false false o.chain both in
      record { chain = regroup (if_word ∷ space ∷ expr_pieces c) (space ∷ then_word ∷ space ∷ expr_pieces a) (space ∷ else_word ∷ space ∷ expr_pieces b) (fresh g false) full (tt, refl, (tt, refl, whole)); good = q.good }
  expr_links (let_syntax at x a b) tokens rest s f h g =
      let o = binder_links x s.0 s.1 s.6 (first_good tokens s.0 s.5.0 s.5.3 h).1 in
      let r = expr_links a s.2 s.3 s.8 f.0 (first_good s.1 s.2 s.7.0 s.7.2 o.1).1 false in
      let q = expr_links b s.4 rest s.10 f.1 (first_good s.3 s.4 s.9.0 s.9.2 r.good).1 false in
      let last = spaced_word keyword.In (expr_pieces b) q.chain in
      let value = link (expr_pieces a) (space ∷ in_word ∷ space ∷ expr_pieces b) false false r.chain last in
      let others = expr_pieces a ++ space ∷ in_word ∷ space ∷ expr_pieces b in
      record { chain = (tt, refl, (tt, refl, binder_step x false (space ∷ equal ∷ space ∷ others) o.0 (spaced_equal others value))); good = q.good }
  expr_links (match_syntax at l a x y b) tokens rest s f h g =
      let o = expr_links l s.0 s.1 s.6 f.0 (first_good tokens s.0 s.5.0 s.5.3 h).1 false in
      let r = expr_links a s.2 s.3 s.8 f.1 (empty_arm_behind s.1 s.2 s.7 o.good) false in
      let arm = s.9 in
      let head = binder_links x arm.0 arm.1 arm.5 (first_good s.3 arm.0 arm.4.0 arm.4.2 r.good).1 in
      let tail = binder_links y arm.2 arm.3 arm.7 (first_good arm.1 arm.2 arm.6.0 arm.6.2 head.1).1 in
      let q = expr_links b s.4 rest s.10 f.2 (first_good arm.3 s.4 arm.8.0 arm.8.2 tail.1).1 false in
      let last = full_arm_chain x y (expr_pieces b) head.0 tail.0 q.chain in
      let second = space ∷ bar ∷ space ∷ binder_piece x ∷ space ∷ double_colon ∷ space ∷ binder_piece y ∷ space ∷ arrow ∷ space ∷ expr_pieces b in
      let first = empty_arm_chain (expr_pieces a ++ second) (link (expr_pieces a) second false false r.chain last) in
      let whole = link (expr_pieces l) (space ∷ with_word ∷ space ∷ list_open ∷ list_close ∷ space ∷ arrow ∷ space ∷ expr_pieces a ++ second) false false o.chain first in
      record { chain = regroup (match_word ∷ space ∷ expr_pieces l) (space ∷ with_word ∷ space ∷ list_open ∷ list_close ∷ space ∷ arrow ∷ space ∷ expr_pieces a) second (fresh g false) full (tt, refl, (tt, refl, whole)); good = q.good }
  expr_links (nil_syntax at t) tokens rest s f h g = nil_links at t tokens rest s f h g
  expr_links (list_syntax at es) tokens rest s f h g =
      let r = item_links es s.0 s.1 s.3 f (first_good tokens s.0 s.2.0 s.2.3 h).1 in
      record { chain = (tt, refl, link (item_pieces es) (list_close ∷ []) true false r.chain (tt, refl, refl)); good = (first_good s.1 rest s.4.0 s.4.2 r.good).1 }
  expr_links (fields_syntax at fs) tokens rest s f h g =
      let r = field_links fs s.0 s.1 s.3 f (first_good tokens s.0 s.2.0 s.2.3 h).1 in
      record { chain = (tt, refl, (tt, refl, link (field_pieces fs) (space ∷ record_close ∷ []) false false r.chain (tt, refl, (tt, refl, refl)))); good = (first_good s.1 rest s.4.0 s.4.2 r.good).1 }
  expr_links (field_syntax at place x e) tokens rest s f h g =
      let r = expr_links e tokens s.0 s.2 f.1 h g in let b = first_good s.1 rest s.4.0 s.4.3 (first_good s.0 s.1 s.3.0 s.3.3 r.good).1 in
      record { chain = link (expr_pieces e) (dot ∷ name x ∷ []) g false r.chain (tt, refl, (name_good s.4.0.kind x s.4.1 b.0, refl, refl)); good = b.1 }
  expr_links (bracket_expr_syntax at e) tokens rest s f h g =
      let r = expr_links e s.0 s.1 s.3 f (first_good tokens s.0 s.2.0 s.2.3 h).1 true in
      record { chain = (tt, refl, link (expr_pieces e) (bracket_close ∷ []) true false r.chain (tt, refl, refl)); good = (first_good s.1 rest s.4.0 s.4.2 r.good).1 }

  argument_links : (es : ExprSyntaxes) (tokens rest : List Token) → AllSpell es tokens rest → AreAtoms es → AllGood tokens → Linked full (argument_pieces es) full rest
  argument_links no_exprs tokens rest s f h = linked_all tokens rest s h
  argument_links (more_exprs e es) tokens rest s f h =
      let r = expr_links e tokens s.0 s.1 f.1 h false in let q = argument_links es s.0 rest s.2 f.2 r.good in
      record { chain = (tt, refl, link (expr_pieces e) (argument_pieces es) false false r.chain q.chain); good = q.good }

  item_links : (es : ExprSyntaxes) (tokens rest : List Token) → ItemsSpell es tokens rest → AllFit es → AllGood tokens → Linked (fresh true false) (item_pieces es) full rest
  item_links no_exprs tokens rest s f h = absurd s
  item_links (more_exprs e es) tokens rest s f h =
      let r = expr_links e tokens s.0 s.1 f.0 h true in let q = more_item_links es s.0 rest s.2 f.1 r.good in
      record { chain = link (expr_pieces e) (more_item_pieces es) true false r.chain q.chain; good = q.good }

  more_item_links : (es : ExprSyntaxes) (tokens rest : List Token) → MoreItems es tokens rest → AllFit es → AllGood tokens → Linked full (more_item_pieces es) full rest
  more_item_links no_exprs tokens rest s f h = linked_all tokens rest s h
  more_item_links (more_exprs e es) tokens rest s f h =
      let r = expr_links e s.0 s.1 s.3 f.0 (first_good tokens s.0 s.2.0 s.2.2 h).1 false in let q = more_item_links es s.1 rest s.4 f.1 r.good in
      record { chain = (tt, refl, (tt, refl, link (expr_pieces e) (more_item_pieces es) false false r.chain q.chain)); good = q.good }

  field_links : (fs : FieldSyntaxes) (tokens rest : List Token) → FieldsSpell fs tokens rest → FieldsFit fs → AllGood tokens → Linked (fresh false false) (field_pieces fs) full rest
  field_links no_fields tokens rest s f h = absurd s
  field_links (more_fields at x e fs) tokens rest s f h =
      let b = first_good tokens s.0 s.3.0 s.3.3 h in
      let r = expr_links e s.1 s.2 s.5 f.0 (first_good s.0 s.1 s.4.0 s.4.2 b.1).1 false in let q = more_field_links fs s.2 rest s.6 f.1 r.good in
      let others = expr_pieces e ++ more_field_pieces fs in
      record { chain = (name_good s.3.0.kind x s.3.1 b.0, refl, spaced_equal others (link (expr_pieces e) (more_field_pieces fs) false false r.chain q.chain)); good = q.good }

  more_field_links : (fs : FieldSyntaxes) (tokens rest : List Token) → MoreFields fs tokens rest → FieldsFit fs → AllGood tokens → Linked full (more_field_pieces fs) full rest
  more_field_links no_fields tokens rest s f h = linked_all tokens rest s h
  more_field_links (more_fields at x e fs) tokens rest s f h =
      let b = first_good s.0 s.1 s.5.0 s.5.3 (first_good tokens s.0 s.4.0 s.4.2 h).1 in
      let r = expr_links e s.2 s.3 s.7 f.0 (first_good s.1 s.2 s.6.0 s.6.2 b.1).1 false in let q = more_field_links fs s.3 rest s.8 f.1 r.good in
      let others = expr_pieces e ++ more_field_pieces fs in
      record { chain = (tt, refl, (tt, refl, (name_good s.5.0.kind x s.5.1 b.0, refl, spaced_equal others (link (expr_pieces e) (more_field_pieces fs) false false r.chain q.chain)))); good = q.good }
