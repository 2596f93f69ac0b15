-- What is read leaves the tokens after it, and which token is the last.
use Rattle.std.proofs.Common.{◌≡◌, ℕ, List, [], ◌∷◌, ◌++◌, Bool, true, false, Some, None, refl, sym, ap, ◌∙◌, append_assoc, reverse, arith, inl, inr, ◌⊎◌}
use Rattle.std.proofs.lemmas.List.{append_cancel_right, reverse-append}
use Rattle.um_syntax.specs.declared.token.Token.{Token}
use Rattle.um_tree.specs.declared.expression.Sign.TheVariants as compare
use Rattle.um_tree.specs.RawTree.{NoteSyntax, TypeSyntax, BinderSyntax, ExprSyntax, ExprSyntaxes, FieldSyntaxes, truth_syntax, number_syntax, name_syntax, call_syntax, negate_syntax, not_syntax, pown_syntax, arith_syntax, compare_syntax, and_syntax, or_syntax, if_syntax, let_syntax, match_syntax, nil_syntax, list_syntax, cons_syntax, fields_syntax, field_syntax, bracket_expr_syntax, no_exprs, more_exprs, no_fields, more_fields}
use Rattle.um_types.specs.TypeGrammar.{NoteSpells, NoteFits, TypeSpells, TypeFits}
use Rattle.um_types.proofs.NoteComplete.{note_reaches}
use Rattle.um_types.proofs.TypeComplete.{type_reaches}
use Rattle.um_vocabulary.specs.declared.vocabulary.Symbol.TheVariants as symbol
use Rattle.um_operands.specs.declared.infix.Infix.{Infix}
use Rattle.um_operands.specs.declared.infix.Infix.TheVariants as between
use Rattle.um_operands.specs.ExprKinds.{is_plain_number}
use Rattle.um_forms.specs.declared.token.ExprToken.{ExprToken}
use Rattle.um_forms.specs.declared.token.ExprToken.TheVariants.{Name as name, Number as number, Truth as truth, Mark as mark}
use Rattle.um_forms.specs.ExprTokens.{expr_token, greater}
use Rattle.um_expr.specs.ExprGrammar.{First, FirstAt, FirstGlued, AfterNumber, InfixAt, EmptyArm, FullArm, Spells, AllSpell, ItemsSpell, MoreItems, FieldsSpell, MoreFields, rank, Fits, AreAtoms, AllFit, FieldsFit}
use Rattle.um_expr.proofs.ExprEnds.{rank_low, arith_low}
use Rattle.um_expr.proofs.ExprReads.{complete}

-- ---- the tokens after

abbrev pub Leaves : List Token → List Token → Type 0
Leaves tokens rest = (read : List Token) × (tokens ≡ read ++ rest)

pub leaves_then : {a b c : List Token} → Leaves a b → Leaves b c → Leaves a c
leaves_then {c = c} p q = (p.0 ++ q.0, p.1 ∙ ap (λ w. p.0 ++ w) q.1 ∙ sym (append_assoc p.0 q.0 c))

pub leaves_all : (tokens rest : List Token) → tokens ≡ rest → Leaves tokens rest
leaves_all tokens rest e = ([], e)

pub leaves_first : {what : ExprToken} → {tokens rest : List Token} → First what tokens rest → Leaves tokens rest
leaves_first f = (f.0 ∷ [], f.2)

pub leaves_at : {what : ExprToken} → {at : ℕ} → {tokens rest : List Token} → FirstAt what at tokens rest → Leaves tokens rest
leaves_at f = (f.0 ∷ [], f.3)

pub leaves_glued : {what : ExprToken} → {tokens rest : List Token} → FirstGlued what tokens rest → Leaves tokens rest
leaves_glued f = (f.0 ∷ [], f.3)

pub leaves_expr : (t : ExprSyntax) (tokens rest : List Token) → Spells t tokens rest → Fits t → Leaves tokens rest
leaves_expr t tokens rest s fits =
    let r = complete t [] tokens rest s fits (omega (arith, rank_low t)) in (r.yields.0, r.yields.1)

leaves_note : (n : NoteSyntax) (tokens rest : List Token) → NoteSpells n tokens rest → NoteFits n → Leaves tokens rest
leaves_note n tokens rest s fits = let r = note_reaches n tokens rest s fits in (r.0, r.1)

leaves_type : (t : TypeSyntax) (tokens rest : List Token) → TypeSpells t tokens rest → TypeFits t → Leaves tokens rest
leaves_type t tokens rest s fits = let r = type_reaches t 0 tokens rest s fits in (r.0, r.1)

pub leaves_arguments : (es : ExprSyntaxes) (tokens rest : List Token) → AllSpell es tokens rest → AreAtoms es → Leaves tokens rest
leaves_arguments no_exprs tokens rest s fits = leaves_all tokens rest s
leaves_arguments (more_exprs e es) tokens rest s fits = leaves_then (leaves_expr e tokens s.0 s.1 fits.1) (leaves_arguments es s.0 rest s.2 fits.2)

leaves_more_items : (es : ExprSyntaxes) (tokens rest : List Token) → MoreItems es tokens rest → AllFit es → Leaves tokens rest
leaves_more_items no_exprs tokens rest s fits = leaves_all tokens rest s
leaves_more_items (more_exprs e es) tokens rest s fits =
    leaves_then (leaves_first s.2) (leaves_then (leaves_expr e s.0 s.1 s.3 fits.0) (leaves_more_items es s.1 rest s.4 fits.1))

leaves_items : (es : ExprSyntaxes) (tokens rest : List Token) → ItemsSpell es tokens rest → AllFit es → Leaves tokens rest
leaves_items no_exprs tokens rest s fits = absurd s
leaves_items (more_exprs e es) tokens rest s fits = leaves_then (leaves_expr e tokens s.0 s.1 fits.0) (leaves_more_items es s.0 rest s.2 fits.1)

leaves_more_fields : (fs : FieldSyntaxes) (tokens rest : List Token) → MoreFields fs tokens rest → FieldsFit fs → Leaves tokens rest
leaves_more_fields no_fields tokens rest s fits = leaves_all tokens rest s
leaves_more_fields (more_fields at x e fs) tokens rest s fits =
    leaves_then (leaves_first s.4)
    (leaves_then (leaves_at s.5) (leaves_then (leaves_first s.6) (leaves_then (leaves_expr e s.2 s.3 s.7 fits.0) (leaves_more_fields fs s.3 rest s.8 fits.1))))

leaves_fields : (fs : FieldSyntaxes) (tokens rest : List Token) → FieldsSpell fs tokens rest → FieldsFit fs → Leaves tokens rest
leaves_fields no_fields tokens rest s fits = absurd s
leaves_fields (more_fields at x e fs) tokens rest s fits =
    leaves_then (leaves_at s.3) (leaves_then (leaves_first s.4) (leaves_then (leaves_expr e s.1 s.2 s.5 fits.0) (leaves_more_fields fs s.2 rest s.6 fits.1)))

pub leaves_sign : (sign : Infix) (left : List Token) (at : ℕ) (tokens rest : List Token) → InfixAt sign left at tokens rest → Leaves tokens rest
leaves_sign (between.Compare compare.Lt) left at tokens rest s = (s.0 ∷ [], s.4)
leaves_sign (between.Compare compare.Ge) left at tokens rest s = leaves_then (leaves_at s.1) (leaves_glued s.2)
leaves_sign (between.Compare compare.Le) left at tokens rest s = leaves_at s
leaves_sign (between.Compare compare.Gt) left at tokens rest s = leaves_at s
leaves_sign (between.Compare compare.Eq) left at tokens rest s = leaves_at s
leaves_sign (between.Compare compare.Ne) left at tokens rest s = leaves_at s
leaves_sign between.Or left at tokens rest s = leaves_at s
leaves_sign between.And left at tokens rest s = leaves_at s
leaves_sign between.Cons left at tokens rest s = leaves_at s
leaves_sign (between.Arith op) left at tokens rest s = leaves_at s

pub leaves_empty_arm : (tokens rest : List Token) → EmptyArm tokens rest → Leaves tokens rest
leaves_empty_arm tokens rest s = leaves_then (leaves_first s.4) (leaves_then (bar s.5) (leaves_then (leaves_first s.6) (leaves_then (leaves_first s.7) (leaves_first s.8))))
  where
    bar : (s.0 ≡ s.1) ⊎ First (mark symbol.Bar) s.0 s.1 → Leaves s.0 s.1
    bar (inl e) = leaves_all s.0 s.1 e
    bar (inr b) = leaves_first b

pub leaves_full_arm : (x y : BinderSyntax) (tokens rest : List Token) → FullArm x y tokens rest → Leaves tokens rest
leaves_full_arm x y tokens rest s = leaves_then (leaves_first s.4) (leaves_then (leaves_at s.5) (leaves_then (leaves_first s.6) (leaves_then (leaves_at s.7) (leaves_first s.8))))

-- ---- the last token

abbrev is_number : ExprToken → Bool
is_number (number c) = true
is_number _ = false

-- the token before the rest isn't a number
abbrev pub NumberFree : List Token → List Token → Type 0
NumberFree tokens rest = (read : List Token) × (last : Token) × (is_number (expr_token last.kind) ≡ false) × (tokens ≡ read ++ last ∷ rest)

pub free_more : (tokens next rest : List Token) → Leaves tokens next → NumberFree next rest → NumberFree tokens rest
free_more tokens next rest l n = (l.0 ++ n.0, n.1, n.2, l.1 ∙ ap (λ w. l.0 ++ w) n.3 ∙ sym (append_assoc l.0 n.0 (n.1 ∷ rest)))

pub free_first : (tokens mid rest : List Token) (what : ExprToken) → Leaves tokens mid → First what mid rest → is_number what ≡ false → NumberFree tokens rest
free_first tokens mid rest what l f other = (l.0, f.0, ap is_number f.1 ∙ other, l.1 ∙ ap (λ w. l.0 ++ w) f.2)

free_at : (tokens mid rest : List Token) (what : ExprToken) (at : ℕ) → Leaves tokens mid → FirstAt what at mid rest → is_number what ≡ false → NumberFree tokens rest
free_at tokens mid rest what at l f other = free_first tokens mid rest what l (f.0, f.1, f.3) other

same_last : (xs ys : List Token) (x y : Token) (rest : List Token) → xs ++ x ∷ rest ≡ ys ++ y ∷ rest → x ≡ y
same_last xs ys x y rest e =
    let whole : (xs ++ x ∷ []) ++ rest ≡ (ys ++ y ∷ []) ++ rest = append_assoc xs (x ∷ []) rest ∙ e ∙ sym (append_assoc ys (y ∷ []) rest) in
    let same : xs ++ x ∷ [] ≡ ys ++ y ∷ [] = append_cancel_right (xs ++ x ∷ []) (ys ++ y ∷ []) rest whole in
    let turned : x ∷ reverse xs ≡ y ∷ reverse ys = sym (reverse-append xs (x ∷ [])) ∙ ap reverse same ∙ reverse-append ys (y ∷ []) in
    cc

pub number_apart : (tokens rest : List Token) → NumberFree tokens rest → AfterNumber tokens rest → ⊥
number_apart tokens rest n a =
    let token : Token = a.4.0 in
    let parts : n.0 ++ n.1 ∷ rest ≡ a.0 ++ token ∷ rest = sym n.3 ∙ a.3 ∙ ap (λ w. a.0 ++ w) a.4.2 in
    let same : n.1 ≡ token = same_last n.0 a.0 n.1 token rest parts in
    let bad : false ≡ true = sym n.2 ∙ ap (λ (t : Token). is_number (expr_token t.kind)) same ∙ ap is_number a.4.1 in
    absurd cc

-- an atom that isn't a number alone has another last token
pub atom_free : (t : ExprSyntax) (tokens rest : List Token) → Spells t tokens rest → Fits t → rank t ≡ 0 → is_plain_number t ≡ false → NumberFree tokens rest
atom_free (truth_syntax at b) tokens rest s fits low plain = free_at tokens tokens rest (truth b) at (leaves_all tokens tokens refl) s refl
atom_free (number_syntax at c None) tokens rest s fits low plain = absurd cc
atom_free (number_syntax at c (Some n)) tokens rest s fits low plain =
    let w = s.2 in
    free_first tokens w.1 rest greater (leaves_then (leaves_at s.1) (leaves_then (leaves_glued w.2) (leaves_note n w.0 w.1 w.3 fits))) w.4 refl
atom_free (name_syntax at x) tokens rest s fits low plain = free_at tokens tokens rest (name x) at (leaves_all tokens tokens refl) s refl
atom_free (nil_syntax at t) tokens rest s fits low plain =
    free_first tokens s.4 rest (mark symbol.RightParen)
    (leaves_then (leaves_at s.5) (leaves_then (leaves_first s.6) (leaves_then (leaves_first s.7) (leaves_then (leaves_first s.8) (leaves_type t s.3 s.4 s.9 fits))))) s.10 refl
atom_free (list_syntax at es) tokens rest s fits low plain = free_first tokens s.1 rest (mark symbol.RightBracket) (leaves_then (leaves_at s.2) (leaves_items es s.0 s.1 s.3 fits)) s.4 refl
atom_free (fields_syntax at fs) tokens rest s fits low plain = free_first tokens s.1 rest (mark symbol.RightBrace) (leaves_then (leaves_at s.2) (leaves_fields fs s.0 s.1 s.3 fits)) s.4 refl
atom_free (field_syntax at place x e) tokens rest s fits low plain = free_at tokens s.1 rest (name x) place (leaves_then (leaves_expr e tokens s.0 s.2 fits.1) (leaves_at s.3)) s.4 refl
atom_free (bracket_expr_syntax at e) tokens rest s fits low plain = free_first tokens s.1 rest (mark symbol.RightParen) (leaves_then (leaves_at s.2) (leaves_expr e s.0 s.1 s.3 fits)) s.4 refl
atom_free (call_syntax at f args) tokens rest s fits low plain = absurd (omega arith)
atom_free (negate_syntax at e) tokens rest s fits low plain = absurd (omega arith)
atom_free (not_syntax at e) tokens rest s fits low plain = absurd (omega arith)
atom_free (pown_syntax at e k) tokens rest s fits low plain = absurd (omega arith)
atom_free (arith_syntax at op a b) tokens rest s fits low plain = absurd (omega (arith, arith_low op))
atom_free (compare_syntax at sign a b) tokens rest s fits low plain = absurd (omega arith)
atom_free (and_syntax at a b) tokens rest s fits low plain = absurd (omega arith)
atom_free (or_syntax at a b) tokens rest s fits low plain = absurd (omega arith)
atom_free (if_syntax at c a b) tokens rest s fits low plain = absurd (omega arith)
atom_free (let_syntax at x a b) tokens rest s fits low plain = absurd (omega arith)
atom_free (match_syntax at l a x y b) tokens rest s fits low plain = absurd (omega arith)
atom_free (cons_syntax at a b) tokens rest s fits low plain = absurd (omega arith)
