-- What is read of an expression leaves the tokens behind it.
use Rattle.std.proofs.Common.{◌≡◌, ℕ, List, [], ◌∷◌, ◌++◌, sym, ap, ◌∙◌, append_assoc, inl, inr, ◌⊎◌}
use Rattle.um_syntax.specs.declared.token.Token.{Token}
use Rattle.um_vocabulary.specs.declared.vocabulary.Symbol.TheVariants as symbol
use Rattle.um_tree.specs.declared.expression.Sign.TheVariants as compare
use Rattle.um_tree.specs.RawTree.{BinderSyntax, ExprSyntax}
use Rattle.um_operands.specs.declared.infix.Infix.{Infix}
use Rattle.um_operands.specs.declared.infix.Infix.TheVariants as between
use Rattle.um_forms.specs.declared.token.ExprToken.{ExprToken}
use Rattle.um_forms.specs.declared.token.ExprToken.TheVariants.{Mark as mark}
use Rattle.um_expr.specs.ExprGrammar.{First, FirstAt, FirstGlued, InfixAt, EmptyArm, FullArm, Spells, Fits}
use Rattle.um_expr.proofs.ExprLaws.{expr_reaches}

abbrev pub Leaves : List Token → List Token → Type 0
Leaves tokens rest = (read : List Token) × (tokens ≡ read ++ rest)

pub leaves_then : {a b c : List Token} → Leaves a b → Leaves b c → Leaves a c
leaves_then {c = c} p q = (p.0 ++ q.0, p.1 ∙ ap (λ w. p.0 ++ w) q.1 ∙ sym (append_assoc p.0 q.0 c))

leaves_all : (tokens rest : List Token) → tokens ≡ rest → Leaves tokens rest
leaves_all tokens rest e = ([], e)

pub leaves_first : {what : ExprToken} → {tokens rest : List Token} → First what tokens rest → Leaves tokens rest
leaves_first f = (f.0 ∷ [], f.2)

pub leaves_at : {what : ExprToken} → {at : ℕ} → {tokens rest : List Token} → FirstAt what at tokens rest → Leaves tokens rest
leaves_at f = (f.0 ∷ [], f.3)

leaves_glued : {what : ExprToken} → {tokens rest : List Token} → FirstGlued what tokens rest → Leaves tokens rest
leaves_glued f = (f.0 ∷ [], f.3)

pub leaves_expr : (t : ExprSyntax) (tokens rest : List Token) → Spells t tokens rest → Fits t → Leaves tokens rest
leaves_expr t tokens rest s fits = let r = expr_reaches t tokens rest s fits in (r.0, r.1)

pub leaves_sign : (sign : Infix) (left : List Token) (at : ℕ) (tokens rest : List Token) → InfixAt sign left at tokens rest → Leaves tokens rest
leaves_sign (between.Compare compare.Lt) left at tokens rest s = (s.0 ∷ [], s.4)
leaves_sign (between.Compare compare.Ge) left at tokens rest s = leaves_then (leaves_at s.1) (leaves_glued s.2)
leaves_sign (between.Compare compare.Le) left at tokens rest s = leaves_at s
leaves_sign (between.Compare compare.Gt) left at tokens rest s = leaves_at s
leaves_sign (between.Compare compare.Eq) left at tokens rest s = leaves_at s
leaves_sign (between.Compare compare.Ne) left at tokens rest s = leaves_at s
leaves_sign between.Or left at tokens rest s = leaves_at s
leaves_sign between.And left at tokens rest s = leaves_at s
leaves_sign between.Cons left at tokens rest s = leaves_at s
leaves_sign (between.Arith op) left at tokens rest s = leaves_at s

pub leaves_empty_arm : (tokens rest : List Token) → EmptyArm tokens rest → Leaves tokens rest
leaves_empty_arm tokens rest s = leaves_then (leaves_first s.4) (leaves_then (bar s.5) (leaves_then (leaves_first s.6) (leaves_then (leaves_first s.7) (leaves_first s.8))))
  where
    bar : (s.0 ≡ s.1) ⊎ First (mark symbol.Bar) s.0 s.1 → Leaves s.0 s.1
    bar (inl e) = leaves_all s.0 s.1 e
    bar (inr b) = leaves_first b

pub leaves_full_arm : (x y : BinderSyntax) (tokens rest : List Token) → FullArm x y tokens rest → Leaves tokens rest
leaves_full_arm x y tokens rest s = leaves_then (leaves_first s.4) (leaves_then (leaves_at s.5) (leaves_then (leaves_first s.6) (leaves_then (leaves_at s.7) (leaves_first s.8))))
