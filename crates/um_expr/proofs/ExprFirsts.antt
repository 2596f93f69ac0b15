-- The first token of an expression.
use Rattle.std.proofs.Common.{◌≡◌, ℕ, List, ◌∷◌, Bool, true, false, cond, Some, refl, ap, ◌∙◌, arith}
use Rattle.um_syntax.specs.declared.token.Token.{Token}
use Rattle.um_syntax.specs.declared.token.Kind.{Kind}
use Rattle.um_tree.specs.declared.expression.Sign.TheVariants as compare
use Rattle.um_tree.specs.RawTree.{ExprSyntax, truth_syntax, number_syntax, name_syntax, call_syntax, negate_syntax, not_syntax, pown_syntax, arith_syntax, compare_syntax, and_syntax, or_syntax, if_syntax, let_syntax, match_syntax, nil_syntax, list_syntax, cons_syntax, fields_syntax, field_syntax, bracket_expr_syntax}
use Rattle.um_vocabulary.specs.declared.vocabulary.Keyword.TheVariants as keyword
use Rattle.um_vocabulary.specs.declared.vocabulary.Symbol.TheVariants as symbol
use Rattle.um_operands.specs.declared.infix.Infix.TheVariants as between
use Rattle.um_operands.specs.ExprBegun.{Frame, InPown, InRight, Need, Have, Greater}
use Rattle.um_forms.specs.declared.token.ExprToken.{ExprToken}
use Rattle.um_forms.specs.declared.token.ExprToken.TheVariants.{Name as name, Number as number, Truth as truth, Operator as operator, Word as word, Mark as mark}
use Rattle.um_forms.specs.ExprTokens.{minus}
use Rattle.um_expr.specs.ExprGrammar.{FirstAt, Spells, Fits, rank}
use Rattle.um_unit_texts.specs.UnitTokens.{unit_token}
use Rattle.um_unit_texts.specs.UnitMachine.{power_in}
use Rattle.um_forms.specs.ExprForms.{begins_atom, argument, begin_in, in_pown, pown_after, pown_bracket}
use Rattle.um_expr.specs.ExprMachine.{act}
use Rattle.um_expr.proofs.ExprEnds.{arith_low}
use Rattle.um_expr.proofs.ExprYields.{FirstPasses}

abbrev pub is_no_equal : ExprToken → Bool
is_no_equal (operator (between.Compare compare.Eq)) = false
is_no_equal _ = true

passes : (test : ExprToken → Bool) (what : ExprToken) (at : ℕ) (tokens rest : List Token) → FirstAt what at tokens rest → test what ≡ true → FirstPasses test tokens
passes test what at tokens rest f e = (f.0, rest, f.3, ap test f.1 ∙ e)

-- an atom begins with one of these; the part of a field is an atom too
pub first_atom : (t : ExprSyntax) (tokens rest : List Token) → Spells t tokens rest → Fits t → rank t ≡ 0 → FirstPasses begins_atom tokens
first_atom (truth_syntax at b) tokens rest s fits low = passes begins_atom (truth b) at tokens rest s refl
first_atom (number_syntax at c n) tokens rest s fits low = passes begins_atom (number c) at tokens s.0 s.1 refl
first_atom (name_syntax at x) tokens rest s fits low = passes begins_atom (name x) at tokens rest s refl
first_atom (nil_syntax at t) tokens rest s fits low = passes begins_atom (mark symbol.LeftParen) at tokens s.0 s.5 refl
first_atom (list_syntax at es) tokens rest s fits low = passes begins_atom (mark symbol.LeftBracket) at tokens s.0 s.2 refl
first_atom (fields_syntax at fs) tokens rest s fits low = passes begins_atom (mark symbol.LeftBrace) at tokens s.0 s.2 refl
first_atom (field_syntax at place x e) tokens rest s fits low = first_atom e tokens s.0 s.2 fits.1 fits.0
first_atom (bracket_expr_syntax at e) tokens rest s fits low = passes begins_atom (mark symbol.LeftParen) at tokens s.0 s.2 refl
first_atom (call_syntax at f args) tokens rest s fits low = absurd (omega arith)
first_atom (negate_syntax at e) tokens rest s fits low = absurd (omega arith)
first_atom (not_syntax at e) tokens rest s fits low = absurd (omega arith)
first_atom (pown_syntax at e k) tokens rest s fits low = absurd (omega arith)
first_atom (arith_syntax at op a b) tokens rest s fits low = absurd (omega (arith, arith_low op))
first_atom (compare_syntax at sign a b) tokens rest s fits low = absurd (omega arith)
first_atom (and_syntax at a b) tokens rest s fits low = absurd (omega arith)
first_atom (or_syntax at a b) tokens rest s fits low = absurd (omega arith)
first_atom (if_syntax at c a b) tokens rest s fits low = absurd (omega arith)
first_atom (let_syntax at x a b) tokens rest s fits low = absurd (omega arith)
first_atom (match_syntax at l a x y b) tokens rest s fits low = absurd (omega arith)
first_atom (cons_syntax at a b) tokens rest s fits low = absurd (omega arith)

-- no expression begins with `=`
pub first_no_equal : (t : ExprSyntax) (tokens rest : List Token) → Spells t tokens rest → FirstPasses is_no_equal tokens
first_no_equal (truth_syntax at b) tokens rest s = passes is_no_equal (truth b) at tokens rest s refl
first_no_equal (number_syntax at c n) tokens rest s = passes is_no_equal (number c) at tokens s.0 s.1 refl
first_no_equal (name_syntax at x) tokens rest s = passes is_no_equal (name x) at tokens rest s refl
first_no_equal (call_syntax at f args) tokens rest s = passes is_no_equal (name f) at tokens s.0 s.1 refl
first_no_equal (negate_syntax at e) tokens rest s = passes is_no_equal minus at tokens s.0 s.1 refl
first_no_equal (not_syntax at e) tokens rest s = passes is_no_equal (word keyword.Not) at tokens s.0 s.1 refl
first_no_equal (pown_syntax at e k) tokens rest s = passes is_no_equal (word keyword.Pown) at tokens s.0 s.2 refl
first_no_equal (arith_syntax at op a b) tokens rest s = first_no_equal a tokens s.0 s.2
first_no_equal (compare_syntax at sign a b) tokens rest s = first_no_equal a tokens s.0 s.2
first_no_equal (and_syntax at a b) tokens rest s = first_no_equal a tokens s.0 s.2
first_no_equal (or_syntax at a b) tokens rest s = first_no_equal a tokens s.0 s.2
first_no_equal (if_syntax at c a b) tokens rest s = passes is_no_equal (word keyword.If) at tokens s.0 s.5 refl
first_no_equal (let_syntax at x a b) tokens rest s = passes is_no_equal (word keyword.Let) at tokens s.0 s.5 refl
first_no_equal (match_syntax at l a x y b) tokens rest s = passes is_no_equal (word keyword.Match) at tokens s.0 s.5 refl
first_no_equal (nil_syntax at t) tokens rest s = passes is_no_equal (mark symbol.LeftParen) at tokens s.0 s.5 refl
first_no_equal (list_syntax at es) tokens rest s = passes is_no_equal (mark symbol.LeftBracket) at tokens s.0 s.2 refl
first_no_equal (cons_syntax at a b) tokens rest s = first_no_equal a tokens s.0 s.2
first_no_equal (fields_syntax at fs) tokens rest s = passes is_no_equal (mark symbol.LeftBrace) at tokens s.0 s.2 refl
first_no_equal (field_syntax at place x e) tokens rest s = first_no_equal e tokens s.0 s.2
first_no_equal (bracket_expr_syntax at e) tokens rest s = passes is_no_equal (mark symbol.LeftParen) at tokens s.0 s.2 refl

-- where an argument may begin no power is wanted
no_pown : (frames new : List Frame) (t : ExprSyntax) → argument frames t ≡ Some new → in_pown frames ≡ false
no_pown (InPown at ∷ frames) new (name_syntax m x) e = absurd cc
no_pown (InPown at ∷ frames) new t e = absurd cc
no_pown frames new t e = refl

-- an atom after an atom begins an argument
pub atom_alike : (frames new : List Frame) (t : ExprSyntax) → argument frames t ≡ Some new
    → (w : ExprToken) (at : ℕ) (glued : Bool) (k : Kind) → begins_atom w ≡ true → act (Have frames t) w at glued k ≡ act (Need new) w at glued k
atom_alike frames new t e (name x) at glued k h = ap (λ o. begin_in o (name x) at) e
atom_alike frames new t e (number c) at glued k h =
    ap (λ b. cond b (pown_after frames t (power_in (unit_token k))) (begin_in (argument frames t) (number c) at)) (no_pown frames new t e)
    ∙ ap (λ o. begin_in o (number c) at) e
atom_alike frames new t e (truth b) at glued k h = ap (λ o. begin_in o (truth b) at) e
atom_alike frames new t e (mark symbol.LeftParen) at glued k h =
    ap (λ b. cond b (pown_bracket frames t) (begin_in (argument frames t) (mark symbol.LeftParen) at)) (no_pown frames new t e)
    ∙ ap (λ o. begin_in o (mark symbol.LeftParen) at) e
atom_alike frames new t e (mark symbol.LeftBracket) at glued k h = ap (λ o. begin_in o (mark symbol.LeftBracket) at) e
atom_alike frames new t e (mark symbol.LeftBrace) at glued k h = ap (λ o. begin_in o (mark symbol.LeftBrace) at) e
atom_alike frames new t e _ at glued k h = absurd cc

-- after `>`
pub greater_alike : (frames : List Frame) (place : ℕ) (left : ExprSyntax) (w : ExprToken) (at : ℕ) (glued : Bool) (k : Kind) → is_no_equal w ≡ true
    → act (Greater frames place left) w at glued k ≡ act (Need (InRight place (between.Compare compare.Gt) left ∷ frames)) w at glued k
greater_alike frames place left (operator (between.Compare compare.Eq)) at glued k h = absurd cc
greater_alike frames place left _ at glued k h = refl
