-- What the grammar reads of a list of tokens is its beginning: the rest is the end of the list.
use Rattle.std.proofs.Common.{◌≡◌, ℕ, ◌+◌, ◌≤◌, List, [], ◌∷◌, ◌++◌, length, length-append, sym, ap, ◌∙◌, append_assoc, arith}
use Rattle.um_syntax.specs.declared.token.Token.{Token}
use Rattle.um_tree.specs.RawTree.{NoteSyntax, TypeSyntax, ExprSyntax}
use Rattle.um_types.specs.TypeGrammar.{NoteSpells, NoteFits, TypeSpells, TypeFits}
use Rattle.um_types.proofs.NoteComplete.{note_reaches}
use Rattle.um_types.proofs.TypeComplete.{type_reaches}
use Rattle.um_forms.specs.declared.token.ExprToken.{ExprToken}
use Rattle.um_expr.specs.ExprGrammar.{First, FirstAt, FirstGlued, Spells, Fits}
use Rattle.um_expr.proofs.ExprLaws.{expr_reaches}

-- the tokens end with the rest
abbrev pub Leaves : List Token → List Token → Type 0
Leaves tokens rest = (read : List Token) × (tokens ≡ read ++ rest)

pub leaves_all : (tokens rest : List Token) → tokens ≡ rest → Leaves tokens rest
leaves_all tokens rest e = ([], e)

pub leaves_one : (token : Token) (tokens rest : List Token) → tokens ≡ token ∷ rest → Leaves tokens rest
leaves_one token tokens rest e = (token ∷ [], e)

leaves_then : (tokens mid rest : List Token) → Leaves tokens mid → Leaves mid rest → Leaves tokens rest
leaves_then tokens mid rest p q = (p.0 ++ q.0, p.1 ∙ ap (λ w. p.0 ++ w) q.1 ∙ sym (append_assoc p.0 q.0 rest))

pub thence : {tokens mid rest : List Token} → Leaves tokens mid → Leaves mid rest → Leaves tokens rest
thence {tokens = tokens} {mid = mid} {rest = rest} p q = leaves_then tokens mid rest p q

pub leaves_few : (tokens rest : List Token) → Leaves tokens rest → length rest ≤ length tokens
leaves_few tokens rest p = let same : length tokens ≡ length p.0 + length rest = ap length p.1 ∙ length-append p.0 rest in omega (arith, same)

-- ---- tokens, types and expressions

pub first_leaves : (what : ExprToken) (tokens rest : List Token) → First what tokens rest → Leaves tokens rest
first_leaves what tokens rest f = leaves_one f.0 tokens rest f.2

pub at_leaves : (what : ExprToken) (at : ℕ) (tokens rest : List Token) → FirstAt what at tokens rest → Leaves tokens rest
at_leaves what at tokens rest f = leaves_one f.0 tokens rest f.3

pub glued_leaves : (what : ExprToken) (tokens rest : List Token) → FirstGlued what tokens rest → Leaves tokens rest
glued_leaves what tokens rest f = leaves_one f.0 tokens rest f.3

pub note_leaves : (n : NoteSyntax) (tokens rest : List Token) → NoteSpells n tokens rest → NoteFits n → Leaves tokens rest
note_leaves n tokens rest s fits = let r = note_reaches n tokens rest s fits in (r.0, r.1)

pub type_leaves : (t : TypeSyntax) (tokens rest : List Token) → TypeSpells t tokens rest → TypeFits t → Leaves tokens rest
type_leaves t tokens rest s fits = let r = type_reaches t 0 tokens rest s fits in (r.0, r.1)

pub expr_leaves : (t : ExprSyntax) (tokens rest : List Token) → Spells t tokens rest → Fits t → Leaves tokens rest
expr_leaves t tokens rest s fits = let r = expr_reaches t tokens rest s fits in (r.0, r.1)
