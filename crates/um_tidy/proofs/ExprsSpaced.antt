-- The layout of an expression has the table's spaces.
use Rattle.std.proofs.Common.{◌≡◌, refl, sym, ap, ◌∙◌, ℕ, suc, ◌≤◌, ℤ, pos, negsuc, Bool, true, false, cond, List, [], ◌∷◌, ◌++◌, Option, Some, None, arith}
use Rattle.um_syntax.specs.declared.token.Token.{Token}
use Rattle.um_vocabulary.specs.declared.vocabulary.Symbol.TheVariants as symbol
use Rattle.um_tree.specs.declared.expression.Arith.{Arith}
use Rattle.um_tree.specs.declared.expression.Arith.TheVariants as arith_of
use Rattle.um_tree.specs.declared.expression.Sign.{Sign}
use Rattle.um_tree.specs.declared.expression.Sign.TheVariants as compare
use Rattle.um_tree.specs.RawTree.{NoteSyntax, TypeSyntax, ExprSyntax, ExprSyntaxes, FieldSyntaxes, truth_syntax, number_syntax, name_syntax, call_syntax, negate_syntax, not_syntax, pown_syntax, arith_syntax, compare_syntax, and_syntax, or_syntax, if_syntax, let_syntax, match_syntax, nil_syntax, list_syntax, cons_syntax, fields_syntax, field_syntax, bracket_expr_syntax, no_exprs, more_exprs, no_fields, more_fields}
use Rattle.um_operands.specs.Ranks.{arith_rank}
use Rattle.um_types.specs.TypeGrammar.{TypeFits}
use Rattle.um_expr.specs.ExprGrammar.{Spells, AllSpell, MoreItems, MoreFields, NoteFitsIn, Fits, AreAtoms, AllFit, FieldsFit, rank}
use Rattle.um_show.specs.Pieces.{Piece, name, space, equal, dot, bar, double_bar, double_and, double_colon, arrow, in_word, if_word, let_word, match_word, then_word, else_word, with_word, minus, digits, list_open, list_close, bracket_close, record_close, colon}
use Rattle.um_show.specs.Layout.{written_pieces, type_pieces, bound_piece, binder_piece, truth_piece, arith_piece, compare_pieces, whole_power_pieces, between, expr_pieces, argument_pieces, more_item_pieces, more_field_pieces}
use Rattle.um_tidy.specs.declared.stand.Next.{Next}
use Rattle.um_tidy.specs.declared.stand.Next.TheVariants as next_of
use Rattle.um_tidy.specs.declared.stand.Within.TheVariants as within_of
use Rattle.um_tidy.specs.declared.stand.Stand.{Stand}
use Rattle.um_tidy.specs.Stands.{apart, after, before, has_ended, let_stand, less_stand, minus_stand, greater_stand, equal_stand}
use Rattle.um_tidy.proofs.SpacedPieces.{joined, parted, gap_of, Spaced, joins, never, first, sign_step, name_step, is_naming, is_operand, operand_ended, operand_names, operand_opens, ended_measure, named_operand, bracket_binds}
use Rattle.um_tidy.proofs.UnitsSpaced.{not_so}
use Rattle.um_tidy.proofs.TypesSpaced.{plain, angle_spaced, type_spaced}

-- behind these pieces an operand has ended
pub record ExprSpaced (b : Bool) (n : Next) (ps : List Piece) : Type 0 where
  pub next : Next
  pub operand : is_operand next ≡ true
  pub spaced : Spaced (plain b n) (gap_of b) ps (plain false next) joined

-- the same of pieces directly behind an operand
pub record MoreSpaced (n : Next) (ps : List Piece) : Type 0 where
  pub next : Next
  pub operand : is_operand next ≡ true
  pub spaced : Spaced (plain false n) joined ps (plain false next) joined

-- ---- signs between two operands

-- behind them an operand is wanted
record SignsSpaced (n : Next) (signs : List Piece) : Type 0 where
  pub next : Next
  pub names : is_naming next ≡ false
  pub wants : has_ended next ≡ false
  pub spaced : Spaced (plain false n) parted signs (plain false next) joined

pub minus_is : (n : Next) (b : Bool) → has_ended n ≡ b → minus_stand n within_of.Plain ≡ cond b (apart next_of.Operand within_of.Plain) (before next_of.Operand within_of.Plain)
minus_is n b e = ap (λ c. cond c (apart next_of.Operand within_of.Plain) (before next_of.Operand within_of.Plain)) e

arith_spaced : (op : Arith) (n : Next) → is_operand n ≡ true → SignsSpaced n (arith_piece op ∷ [])
arith_spaced arith_of.Add n e = record { next = next_of.Operand; names = refl; wants = refl; spaced = (refl, (refl, refl)) }
arith_spaced arith_of.Sub n e = record {
  next = next_of.Operand;
  names = refl;
  wants = refl;
  spaced = sign_step (plain false n) parted symbol.Minus (apart next_of.Operand within_of.Plain) [] (plain false next_of.Operand) joined (minus_is n true (operand_ended n e)) refl (refl, refl);
}
arith_spaced arith_of.Mul n e = record { next = next_of.Operand; names = refl; wants = refl; spaced = (refl, (refl, refl)) }
arith_spaced arith_of.Div n e = record { next = next_of.Operand; names = refl; wants = refl; spaced = (refl, (refl, refl)) }

pub greater_is : (n : Next) → is_operand n ≡ true → greater_stand n within_of.Plain ≡ apart next_of.Greater within_of.Plain
greater_is n e = ap (λ b. cond b (after next_of.Ended within_of.Plain) (apart next_of.Greater within_of.Plain)) (ended_measure n (operand_ended n e))

pub equal_is : (n : Next) → is_operand n ≡ true → equal_stand n within_of.Plain ≡ apart next_of.Operand within_of.Plain
equal_is next_of.Greater e = never e
equal_is next_of.Measure e = never e
equal_is _ e = refl

compare_spaced : (sg : Sign) (n : Next) → is_operand n ≡ true → SignsSpaced n (compare_pieces sg)
compare_spaced compare.Lt n e = record {
  next = next_of.Operand;
  names = refl;
  wants = refl;
  spaced = sign_step (plain false n) parted symbol.Less (apart next_of.Operand within_of.Plain) [] (plain false next_of.Operand) joined (ap (λ b. less_stand b within_of.Plain) (operand_opens n e)) refl (refl, refl);
}
compare_spaced compare.Le n e = record { next = next_of.Operand; names = refl; wants = refl; spaced = (refl, (refl, refl)) }
compare_spaced compare.Eq n e = record {
  next = next_of.Operand;
  names = refl;
  wants = refl;
  spaced = sign_step (plain false n) parted symbol.Equal (apart next_of.Operand within_of.Plain) [] (plain false next_of.Operand) joined (equal_is n e) refl (refl, refl);
}
compare_spaced compare.Ne n e = record { next = next_of.Operand; names = refl; wants = refl; spaced = (refl, (refl, refl)) }
compare_spaced compare.Gt n e = record {
  next = next_of.Greater;
  names = refl;
  wants = refl;
  spaced = sign_step (plain false n) parted symbol.Greater (apart next_of.Greater within_of.Plain) [] (plain false next_of.Greater) joined (greater_is n e) refl (refl, refl);
}
compare_spaced compare.Ge n e = record {
  next = next_of.Operand;
  names = refl;
  wants = refl;
  spaced = sign_step (plain false n) parted symbol.Greater (apart next_of.Greater within_of.Plain) (equal ∷ []) (plain false next_of.Operand) joined (greater_is n e) refl (refl, (refl, refl));
}

infix_spaced : (xs signs ys : List Piece) (b : Bool) (n : Next) (l : ExprSpaced b n xs) (s : SignsSpaced l.next signs) → ExprSpaced false s.next ys → ExprSpaced b n (between xs signs ys)
infix_spaced xs signs ys b n l s r = record {
  next = r.next;
  operand = r.operand;
  spaced =
      joins (xs ++ space ∷ signs) (space ∷ ys) (plain b n) (plain false s.next) (plain false r.next) (gap_of b) joined joined
      (joins xs (space ∷ signs) (plain b n) (plain false l.next) (plain false s.next) (gap_of b) joined joined l.spaced (refl, s.spaced)) (refl, r.spaced);
}

-- ---- what is bound

-- behind `let`
bound_spaced : (x : Option (List ℕ)) (ps : List Piece) (t : Stand) → Spaced (plain false next_of.Operand) parted ps t joined → Spaced (plain false next_of.Heads) parted (bound_piece x ∷ space ∷ equal ∷ space ∷ ps) t joined
bound_spaced None ps t c = (refl, (refl, (refl, (refl, c))))
bound_spaced (Some x) ps t c = (refl, (refl, (refl, (refl, c))))

-- in an arm
arm_spaced : (x : Option (List ℕ)) (ps : List Piece) (t : Stand) → Spaced (plain false next_of.Ended) joined ps t joined → Spaced (plain false next_of.Operand) parted (bound_piece x ∷ ps) t joined
arm_spaced None ps t c = (refl, c)
arm_spaced (Some x) ps t c = (refl, c)

-- ---- parts of expressions

truth_spaced : (v b : Bool) (n : Next) → ExprSpaced b n (truth_piece v ∷ [])
truth_spaced true b n = record { next = next_of.Ended; operand = refl; spaced = (first b n within_of.Plain (apart next_of.Ended within_of.Plain) refl, (refl, refl)) }
truth_spaced false b n = record { next = next_of.Ended; operand = refl; spaced = (first b n within_of.Plain (apart next_of.Ended within_of.Plain) refl, (refl, refl)) }

written_spaced : (n : Option NoteSyntax) → NoteFitsIn n → MoreSpaced next_of.Number (written_pieces n)
written_spaced None f = record { next = next_of.Number; operand = refl; spaced = (refl, refl) }
written_spaced (Some n) f = record { next = next_of.Ended; operand = refl; spaced = angle_spaced next_of.Number n f refl }

power_spaced : (k : ℤ) (n : Next) → is_operand n ≡ true → MoreSpaced n (space ∷ whole_power_pieces k)
power_spaced (pos p) n e = record { next = next_of.Number; operand = refl; spaced = (refl, (refl, (refl, refl))) }
power_spaced (negsuc p) n e = record {
  next = next_of.Ended;
  operand = refl;
  spaced = (
    refl,
    sign_step (plain false n) parted symbol.LeftParen (before next_of.Binds within_of.Plain) (minus ∷ digits (suc p) ∷ bracket_close ∷ []) (plain false next_of.Ended) joined (bracket_binds n within_of.Plain (operand_names n e)) refl (refl, (refl, (refl, (refl, refl)))),
  );
}

-- `([] : T)`
nil_spaced : (at : ℕ) (t : TypeSyntax) → TypeFits t → (b : Bool) (n : Next) → is_naming n ≡ false → ExprSpaced b n (expr_pieces (nil_syntax at t))
nil_spaced at t f b n names =
    let r = type_spaced t f false in
    record {
      next = next_of.Ended;
      operand = refl;
      spaced =
          sign_step (plain b n) (gap_of b) symbol.LeftParen (before next_of.Binds within_of.Plain) (list_open ∷ list_close ∷ space ∷ colon ∷ space ∷ type_pieces t ++ bracket_close ∷ []) (plain false next_of.Ended) joined
          (bracket_binds n within_of.Plain names) (first b n within_of.Plain (before next_of.Binds within_of.Plain) refl) (refl, (refl, (refl, (refl, (refl, joins (type_pieces t) (bracket_close ∷ []) (plain false next_of.Heads) (plain false r.next) (plain false next_of.Ended) parted joined joined r.spaced (refl, (refl, refl)))))));
    }

-- ---- ranks

low : (n m : ℕ) → n ≤ 1 → 2 ≤ n → m ≤ 1
low n m a b = absurd (omega (arith, a, b))

atom : (n : ℕ) → n ≡ 0 → n ≤ 1
atom n e = omega (arith, e)

arith_low : (op : Arith) → 2 ≤ arith_rank op
arith_low arith_of.Add = omega arith
arith_low arith_of.Sub = omega arith
arith_low arith_of.Mul = omega arith
arith_low arith_of.Div = omega arith

two : 2 ≤ 2
two = omega arith

five : 2 ≤ 5
five = omega arith

six : 2 ≤ 6
six = omega arith

seven : 2 ≤ 7
seven = omega arith

eight : 2 ≤ 8
eight = omega arith

not_two : 2 ≤ 1 → ⊥
not_two h = omega (arith, h)

-- ---- expressions

-- Where an operand has ended, an atom, a call, `not` or `pown` may follow: none begins with `-`.
mutual
  pub expr_spaced : (e : ExprSyntax) (tokens rest : List Token) → Spells e tokens rest → Fits e → (b : Bool) (n : Next) → is_naming n ≡ false → (has_ended n ≡ true → rank e ≤ 1) → ExprSpaced b n (expr_pieces e)
  expr_spaced (truth_syntax at v) tokens rest s f b n names l = truth_spaced v b n
  expr_spaced (number_syntax at c u) tokens rest s f b n names l =
      let r = written_spaced u f in record { next = r.next; operand = r.operand; spaced = (first b n within_of.Plain (apart next_of.Number within_of.Plain) refl, r.spaced) }
  expr_spaced (name_syntax at x) tokens rest s f b n names l =
      let e = named_operand n within_of.Plain names in
      record { next = e.next; operand = e.operand; spaced = name_step (plain b n) (gap_of b) x (apart e.next within_of.Plain) [] (plain false e.next) joined e.is (first b n within_of.Plain (apart e.next within_of.Plain) refl) (refl, refl) }
  expr_spaced (call_syntax at x args) tokens rest s f b n names l =
      let e = named_operand n within_of.Plain names in let r = arguments_spaced args s.0 rest s.2 f.1 e.next e.operand in
      record { next = r.next; operand = r.operand; spaced = name_step (plain b n) (gap_of b) x (apart e.next within_of.Plain) (argument_pieces args) (plain false r.next) joined e.is (first b n within_of.Plain (apart e.next within_of.Plain) refl) r.spaced }
  expr_spaced (negate_syntax at e) tokens rest s f b n names l =
      let r = expr_spaced e s.0 rest s.2 f.1 true next_of.Operand refl never in
      let wants = not_so (has_ended n) (λ h. not_two (l h)) in
      record { next = r.next; operand = r.operand; spaced = sign_step (plain b n) (gap_of b) symbol.Minus (before next_of.Operand within_of.Plain) (expr_pieces e) (plain false r.next) joined (minus_is n false wants) (first b n within_of.Plain (before next_of.Operand within_of.Plain) refl) r.spaced }
  expr_spaced (not_syntax at e) tokens rest s f b n names l =
      let r = expr_spaced e s.0 rest s.2 f.1 false next_of.Operand refl never in
      record { next = r.next; operand = r.operand; spaced = (first b n within_of.Plain (apart next_of.Operand within_of.Plain) refl, (refl, r.spaced)) }
  expr_spaced (pown_syntax at e k) tokens rest s f b n names l =
      let r = expr_spaced e s.0 s.1 s.3 f.1 false next_of.Operand refl never in let q = power_spaced k r.next r.operand in
      record {
        next = q.next;
        operand = q.operand;
        spaced = (first b n within_of.Plain (apart next_of.Operand within_of.Plain) refl, (refl, joins (expr_pieces e) (space ∷ whole_power_pieces k) (plain false next_of.Operand) (plain false r.next) (plain false q.next) parted joined joined r.spaced q.spaced));
      }
  expr_spaced (arith_syntax at op x y) tokens rest s f b n names l =
      let p = expr_spaced x tokens s.0 s.2 f.2 b n names (λ h. low (arith_rank op) (rank x) (l h) (arith_low op)) in let i = arith_spaced op p.next p.operand in
      infix_spaced (expr_pieces x) (arith_piece op ∷ []) (expr_pieces y) b n p i (expr_spaced y s.1 rest s.4 f.3 false i.next i.names (λ h. never (sym i.wants ∙ h)))
  expr_spaced (compare_syntax at sg x y) tokens rest s f b n names l =
      let p = expr_spaced x tokens s.0 s.2 f.2 b n names (λ h. low 6 (rank x) (l h) six) in let i = compare_spaced sg p.next p.operand in
      infix_spaced (expr_pieces x) (compare_pieces sg) (expr_pieces y) b n p i (expr_spaced y s.1 rest s.4 f.3 false i.next i.names (λ h. never (sym i.wants ∙ h)))
  expr_spaced (and_syntax at x y) tokens rest s f b n names l =
      let p = expr_spaced x tokens s.0 s.2 f.2 b n names (λ h. low 7 (rank x) (l h) seven) in
      infix_spaced (expr_pieces x) (double_and ∷ []) (expr_pieces y) b n p (record { next = next_of.Operand; names = refl; wants = refl; spaced = (refl, (refl, refl)) }) (expr_spaced y s.1 rest s.4 f.3 false next_of.Operand refl never)
  expr_spaced (or_syntax at x y) tokens rest s f b n names l =
      let p = expr_spaced x tokens s.0 s.2 f.2 b n names (λ h. low 8 (rank x) (l h) eight) in
      infix_spaced (expr_pieces x) (double_bar ∷ []) (expr_pieces y) b n p (record { next = next_of.Operand; names = refl; wants = refl; spaced = (refl, (refl, refl)) }) (expr_spaced y s.1 rest s.4 f.3 false next_of.Operand refl never)
  expr_spaced (cons_syntax at x y) tokens rest s f b n names l =
      let p = expr_spaced x tokens s.0 s.2 f.2 b n names (λ h. low 5 (rank x) (l h) five) in
      infix_spaced (expr_pieces x) (double_colon ∷ []) (expr_pieces y) b n p (record { next = next_of.Operand; names = refl; wants = refl; spaced = (refl, (refl, refl)) }) (expr_spaced y s.1 rest s.4 f.3 false next_of.Operand refl never)
  expr_spaced (if_syntax at c x y) tokens rest s f b n names l =
      let o = expr_spaced c s.0 s.1 s.6 f.0 false next_of.Operand refl never in
      let p = expr_spaced x s.2 s.3 s.8 f.1 false next_of.Operand refl never in
      let q = expr_spaced y s.4 rest s.10 f.2 false next_of.Operand refl never in
      let test = if_word ∷ space ∷ expr_pieces c in let chosen = space ∷ then_word ∷ space ∷ expr_pieces x in let other = space ∷ else_word ∷ space ∷ expr_pieces y in
      let tested : Spaced (plain b n) (gap_of b) test (plain false o.next) joined = (first b n within_of.Plain (apart next_of.Operand within_of.Plain) refl, (refl, o.spaced)) in
      record {
        next = q.next;
        operand = q.operand;
        spaced =
            joins (test ++ chosen) other (plain b n) (plain false p.next) (plain false q.next) (gap_of b) joined joined
            (joins test chosen (plain b n) (plain false o.next) (plain false p.next) (gap_of b) joined joined tested (refl, (refl, (refl, p.spaced)))) (refl, (refl, (refl, q.spaced)));
      }
  expr_spaced (let_syntax at v x y) tokens rest s f b n names l =
      let p = expr_spaced x s.2 s.3 s.8 f.0 false next_of.Operand refl never in
      let q = expr_spaced y s.4 rest s.10 f.1 false next_of.Operand refl never in
      let value = let_word ∷ space ∷ binder_piece v ∷ space ∷ equal ∷ space ∷ expr_pieces x in
      let bound : Spaced (plain b n) (gap_of b) value (plain false p.next) joined = (first b n within_of.Plain (let_stand n) refl, (refl, bound_spaced v.name (expr_pieces x) (plain false p.next) p.spaced)) in
      record {
        next = q.next;
        operand = q.operand;
        spaced = joins value (space ∷ in_word ∷ space ∷ expr_pieces y) (plain b n) (plain false p.next) (plain false q.next) (gap_of b) joined joined bound (refl, (refl, (refl, q.spaced)));
      }
  expr_spaced (match_syntax at m x v w y) tokens rest s f b n names l =
      let o = expr_spaced m s.0 s.1 s.6 f.0 false next_of.Operand refl never in
      let p = expr_spaced x s.2 s.3 s.8 f.1 false next_of.Operand refl never in
      let q = expr_spaced y s.4 rest s.10 f.2 false next_of.Operand refl never in
      let head = match_word ∷ space ∷ expr_pieces m in
      let empty = space ∷ with_word ∷ space ∷ list_open ∷ list_close ∷ space ∷ arrow ∷ space ∷ expr_pieces x in
      let tail = space ∷ arrow ∷ space ∷ expr_pieces y in
      let full = space ∷ bar ∷ space ∷ binder_piece v ∷ space ∷ double_colon ∷ space ∷ binder_piece w ∷ tail in
      let headed : Spaced (plain b n) (gap_of b) head (plain false o.next) joined = (first b n within_of.Plain (apart next_of.Operand within_of.Plain) refl, (refl, o.spaced)) in
      let emptied : Spaced (plain false o.next) joined empty (plain false p.next) joined = (refl, (refl, (refl, (refl, (refl, (refl, (refl, (refl, p.spaced)))))))) in
      let tailed : Spaced (plain false next_of.Operand) parted (binder_piece w ∷ tail) (plain false q.next) joined = arm_spaced w.name tail (plain false q.next) (refl, (refl, (refl, q.spaced))) in
      let filled : Spaced (plain false p.next) joined full (plain false q.next) joined =
      (refl, (refl, (refl, arm_spaced v.name (space ∷ double_colon ∷ space ∷ binder_piece w ∷ tail) (plain false q.next) (refl, (refl, (refl, tailed)))))) in
      record {
        next = q.next;
        operand = q.operand;
        spaced =
            joins (head ++ empty) full (plain b n) (plain false p.next) (plain false q.next) (gap_of b) joined joined
            (joins head empty (plain b n) (plain false o.next) (plain false p.next) (gap_of b) joined joined headed emptied) filled;
      }
  expr_spaced (nil_syntax at t) tokens rest s f b n names l = nil_spaced at t f b n names
  expr_spaced (list_syntax at no_exprs) tokens rest s f b n names l = absurd s.3
  expr_spaced (list_syntax at (more_exprs e es)) tokens rest s f b n names l =
      let p = expr_spaced e s.0 s.3.0 s.3.1 f.0 true next_of.Operand refl never in let q = items_spaced es s.3.0 s.1 s.3.2 f.1 p.next p.operand in
      let items = expr_pieces e ++ more_item_pieces es in
      record {
        next = next_of.Ended;
        operand = refl;
        spaced = (
          first b n within_of.Plain (before next_of.Operand within_of.Plain) refl,
          joins items (list_close ∷ []) (plain true next_of.Operand) (plain false q.next) (plain false next_of.Ended) joined joined joined
              (joins (expr_pieces e) (more_item_pieces es) (plain true next_of.Operand) (plain false p.next) (plain false q.next) joined joined joined p.spaced q.spaced) (refl, (refl, refl)),
        );
      }
  expr_spaced (fields_syntax at no_fields) tokens rest s f b n names l = absurd s.3
  expr_spaced (fields_syntax at (more_fields place x e fs)) tokens rest s f b n names l =
      let p = expr_spaced e s.3.1 s.3.2 s.3.5 f.0 false next_of.Operand refl never in let q = fields_spaced fs s.3.2 s.1 s.3.6 f.1 p.next p.operand in
      let field = name x ∷ space ∷ equal ∷ space ∷ expr_pieces e in
      let begun : Spaced (plain false next_of.Binds) parted field (plain false p.next) joined = (refl, (refl, (refl, (refl, p.spaced)))) in
      record {
        next = next_of.Ended;
        operand = refl;
        spaced = (
          first b n within_of.Plain (apart next_of.Binds within_of.Plain) refl,
          (
            refl,
            joins (field ++ more_field_pieces fs) (space ∷ record_close ∷ []) (plain false next_of.Binds) (plain false q.next) (plain false next_of.Ended) parted joined joined
                (joins field (more_field_pieces fs) (plain false next_of.Binds) (plain false p.next) (plain false q.next) parted joined joined begun q.spaced) (refl, (refl, (refl, refl))),
          ),
        );
      }
  expr_spaced (field_syntax at place x e) tokens rest s f b n names l =
      let p = expr_spaced e tokens s.0 s.2 f.1 b n names (λ h. atom (rank e) f.0) in
      record {
        next = next_of.Ended;
        operand = refl;
        spaced = joins (expr_pieces e) (dot ∷ name x ∷ []) (plain b n) (plain false p.next) (plain false next_of.Ended) (gap_of b) joined joined p.spaced (refl, (refl, (refl, refl)));
      }
  expr_spaced (bracket_expr_syntax at e) tokens rest s f b n names l =
      let p = expr_spaced e s.0 s.1 s.3 f true next_of.Binds refl never in
      record {
        next = next_of.Ended;
        operand = refl;
        spaced =
            sign_step (plain b n) (gap_of b) symbol.LeftParen (before next_of.Binds within_of.Plain) (expr_pieces e ++ bracket_close ∷ []) (plain false next_of.Ended) joined
            (bracket_binds n within_of.Plain names) (first b n within_of.Plain (before next_of.Binds within_of.Plain) refl)
            (joins (expr_pieces e) (bracket_close ∷ []) (plain true next_of.Binds) (plain false p.next) (plain false next_of.Ended) joined joined joined p.spaced (refl, (refl, refl)));
      }

  arguments_spaced : (es : ExprSyntaxes) (tokens rest : List Token) → AllSpell es tokens rest → AreAtoms es → (n : Next) → is_operand n ≡ true → MoreSpaced n (argument_pieces es)
  arguments_spaced no_exprs tokens rest s f n o = record { next = n; operand = o; spaced = (refl, refl) }
  arguments_spaced (more_exprs e es) tokens rest s f n o =
      let p = expr_spaced e tokens s.0 s.1 f.1 false n (operand_names n o) (λ h. atom (rank e) f.0) in let q = arguments_spaced es s.0 rest s.2 f.2 p.next p.operand in
      record { next = q.next; operand = q.operand; spaced = (refl, joins (expr_pieces e) (argument_pieces es) (plain false n) (plain false p.next) (plain false q.next) parted joined joined p.spaced q.spaced) }

  items_spaced : (es : ExprSyntaxes) (tokens rest : List Token) → MoreItems es tokens rest → AllFit es → (n : Next) → is_operand n ≡ true → MoreSpaced n (more_item_pieces es)
  items_spaced no_exprs tokens rest s f n o = record { next = n; operand = o; spaced = (refl, refl) }
  items_spaced (more_exprs e es) tokens rest s f n o =
      let p = expr_spaced e s.0 s.1 s.3 f.0 false next_of.Binds refl never in let q = items_spaced es s.1 rest s.4 f.1 p.next p.operand in
      record { next = q.next; operand = q.operand; spaced = (refl, (refl, joins (expr_pieces e) (more_item_pieces es) (plain false next_of.Binds) (plain false p.next) (plain false q.next) parted joined joined p.spaced q.spaced)) }

  fields_spaced : (fs : FieldSyntaxes) (tokens rest : List Token) → MoreFields fs tokens rest → FieldsFit fs → (n : Next) → is_operand n ≡ true → MoreSpaced n (more_field_pieces fs)
  fields_spaced no_fields tokens rest s f n o = record { next = n; operand = o; spaced = (refl, refl) }
  fields_spaced (more_fields at x e fs) tokens rest s f n o =
      let p = expr_spaced e s.2 s.3 s.7 f.0 false next_of.Operand refl never in let q = fields_spaced fs s.3 rest s.8 f.1 p.next p.operand in
      record { next = q.next; operand = q.operand; spaced = (refl, (refl, (refl, (refl, (refl, (refl, joins (expr_pieces e) (more_field_pieces fs) (plain false next_of.Operand) (plain false p.next) (plain false q.next) parted joined joined p.spaced q.spaced)))))) }
