-- A program has no more nodes than tokens: each node has a token of its own.
use Rattle.std.proofs.Common.{◌≡◌, ℕ, ℤ, ◌+◌, ◌≤◌, List, [], ◌∷◌, ◌++◌, length, Bool, true, false, Option, Some, None, ap, ◌∙◌, arith, ◌⊎◌, inl, inr}
use Rattle.std.proofs.lemmas.List.{length-append}
use Rattle.um_syntax.specs.declared.token.Token.{Token}
use Rattle.um_tree.specs.declared.expression.Sign.{Sign}
use Rattle.um_tree.specs.declared.expression.Sign.TheVariants as compare
use Rattle.um_tree.specs.RawTree.{VarSyntax, NoteSyntax, TypeSyntax, BinderSyntax, ExprSyntax, ExprSyntaxes, FieldSyntaxes, truth_syntax, number_syntax, name_syntax, call_syntax, negate_syntax, not_syntax, pown_syntax, arith_syntax, compare_syntax, and_syntax, or_syntax, if_syntax, let_syntax, match_syntax, nil_syntax, list_syntax, cons_syntax, fields_syntax, field_syntax, bracket_expr_syntax, no_exprs, more_exprs, no_fields, more_fields, ParamSyntax, FunctionSyntax, DeclSyntax, function_syntax}
use Rattle.um_tree.specs.Heights.{expr_nodes, all_expr_nodes, all_field_nodes}
use Rattle.um_types.specs.TypeGrammar.{NoteSpells, NoteFits, TypeSpells, TypeFits}
use Rattle.um_types.proofs.NoteComplete.{note_reaches}
use Rattle.um_types.proofs.TypeComplete.{type_reaches}
use Rattle.um_vocabulary.specs.declared.vocabulary.Symbol.TheVariants as symbol
use Rattle.um_operands.specs.declared.infix.Infix.{Infix}
use Rattle.um_operands.specs.declared.infix.Infix.TheVariants as between
use Rattle.um_forms.specs.declared.token.ExprToken.{ExprToken}
use Rattle.um_forms.specs.declared.token.ExprToken.TheVariants.{Mark as mark}
use Rattle.um_expr.specs.ExprGrammar.{First, FirstAt, FirstGlued, InfixAt, PowerSpells, WrittenNote, EmptyArm, FullArm, Spells, AllSpell, ItemsSpell, MoreItems, FieldsSpell, MoreFields, NoteFitsIn, Fits, AreAtoms, AllFit, FieldsFit}
use Rattle.um_parse.specs.DeclGrammar.{Attribute, VarSpells, MoreVars, VarsSpell, ParamsSpell, ResultSpells, RecSpells, FunctionSpells, DeclSpells, DeclsSpell, ParamsFit, ResultFits, DeclFits, DeclsFit, IsProgram}
use Rattle.um_parse.specs.ProgramNodes.{decl_nodes, program_nodes}
use Rattle.um_parse.proofs.DeclComplete.{decl_yields}

one_less : (token : Token) (tokens rest : List Token) → tokens ≡ token ∷ rest → length tokens ≡ length rest + 1
one_less token tokens rest e = let same : length tokens ≡ length (token ∷ rest) = ap length e in omega (arith, same)

no_longer : (read tokens rest : List Token) → tokens ≡ read ++ rest → length rest ≤ length tokens
no_longer read tokens rest e = let same : length tokens ≡ length read + length rest = ap length e ∙ length-append read rest in omega (arith, same)

first_less : (what : ExprToken) (tokens rest : List Token) → First what tokens rest → length tokens ≡ length rest + 1
first_less what tokens rest f = one_less f.0 tokens rest f.2

at_less : (what : ExprToken) (at : ℕ) (tokens rest : List Token) → FirstAt what at tokens rest → length tokens ≡ length rest + 1
at_less what at tokens rest f = one_less f.0 tokens rest f.3

glued_less : (what : ExprToken) (tokens rest : List Token) → FirstGlued what tokens rest → length tokens ≡ length rest + 1
glued_less what tokens rest f = one_less f.0 tokens rest f.3

note_less : (n : NoteSyntax) (tokens rest : List Token) → NoteSpells n tokens rest → NoteFits n → length rest ≤ length tokens
note_less n tokens rest s fits = let r = note_reaches n tokens rest s fits in no_longer r.0 tokens rest r.1

type_less : (t : TypeSyntax) (tokens rest : List Token) → TypeSpells t tokens rest → TypeFits t → length rest ≤ length tokens
type_less t tokens rest s fits = let r = type_reaches t 0 tokens rest s fits in no_longer r.0 tokens rest r.1

written_less : (n : Option NoteSyntax) (tokens rest : List Token) → WrittenNote n tokens rest → NoteFitsIn n → length rest ≤ length tokens
written_less None tokens rest s fits = let e : length tokens ≡ length rest = ap length s in omega (arith, e)
written_less (Some n) tokens rest s fits =
    let a = glued_less _ tokens s.0 s.2 in
    let b = note_less n s.0 s.1 s.3 fits in
    let c = first_less _ s.1 rest s.4 in
    omega (arith, a, b, c)

compare_less : (sign : Sign) (left : List Token) (at : ℕ) (tokens rest : List Token) → InfixAt (between.Compare sign) left at tokens rest → length rest + 1 ≤ length tokens
compare_less compare.Lt left at tokens rest s = let e = one_less s.0 tokens rest s.4 in omega (arith, e)
compare_less compare.Ge left at tokens rest s =
    let a = at_less _ at tokens s.0 s.1 in
    let b = glued_less _ s.0 rest s.2 in
    omega (arith, a, b)
compare_less _ left at tokens rest s = let e = at_less _ at tokens rest s in omega (arith, e)

infix_less : (sign : Infix) (left : List Token) (at : ℕ) (tokens rest : List Token) → InfixAt sign left at tokens rest → length rest + 1 ≤ length tokens
infix_less (between.Compare sign) left at tokens rest s = compare_less sign left at tokens rest s
infix_less _ left at tokens rest s = let e = at_less _ at tokens rest s in omega (arith, e)

empty_arm_less : (tokens rest : List Token) → EmptyArm tokens rest → length rest ≤ length tokens
empty_arm_less tokens rest s =
    let a = first_less _ tokens s.0 s.4 in
    let c = first_less _ s.1 s.2 s.6 in
    let d = first_less _ s.2 s.3 s.7 in
    let e = first_less _ s.3 rest s.8 in
    omega (arith, a, bar s.5, c, d, e)
  where
    bar : (s.0 ≡ s.1) ⊎ First (mark symbol.Bar) s.0 s.1 → length s.1 ≤ length s.0
    bar (inl e) = let same : length s.0 ≡ length s.1 = ap length e in omega (arith, same)
    bar (inr f) = let less = first_less _ s.0 s.1 f in omega (arith, less)

full_arm_less : (x y : BinderSyntax) (tokens rest : List Token) → FullArm x y tokens rest → length rest ≤ length tokens
full_arm_less x y tokens rest s =
    let a = first_less _ tokens s.0 s.4 in
    let b = at_less _ x.at s.0 s.1 s.5 in
    let c = first_less _ s.1 s.2 s.6 in
    let d = at_less _ y.at s.2 s.3 s.7 in
    let e = first_less _ s.3 rest s.8 in
    omega (arith, a, b, c, d, e)

power_less : (k : ℤ) (tokens rest : List Token) → PowerSpells k tokens rest → length rest ≤ length tokens
power_less k tokens rest (inl s) = let e = one_less s.2.0 tokens rest s.2.2 in omega (arith, e)
power_less k tokens rest (inr s) =
    let a = first_less _ tokens s.1 s.5 in
    let b = first_less _ s.1 s.2 s.6 in
    let c = one_less s.7.0 s.2 s.3 s.7.2 in
    let d = first_less _ s.3 rest s.8 in
    omega (arith, a, b, c, d)

-- both operands and the sign between them
both_less : (sign : Infix) (left : List Token) (at n m : ℕ) (tokens mid next rest : List Token) → n + length mid ≤ length tokens → InfixAt sign left at mid next → m + length rest ≤ length next
    → n + m + 1 + length rest ≤ length tokens
both_less sign left at n m tokens mid next rest a s b = let e = infix_less sign left at mid next s in omega (arith, a, b, e)

mutual
  fits_nodes : (t : ExprSyntax) (tokens rest : List Token) → Spells t tokens rest → Fits t → expr_nodes t + length rest ≤ length tokens
  fits_nodes (truth_syntax at b) tokens rest s fits = let e = at_less _ at tokens rest s in omega (arith, e)
  fits_nodes (number_syntax at c n) tokens rest s fits =
      let a = at_less _ at tokens s.0 s.1 in
      let b = written_less n s.0 rest s.2 fits in
      omega (arith, a, b)
  fits_nodes (name_syntax at x) tokens rest s fits = let e = at_less _ at tokens rest s in omega (arith, e)
  fits_nodes (call_syntax at f args) tokens rest s fits =
      let a = at_less _ at tokens s.0 s.1 in
      let b = fits_arguments args s.0 rest s.2 fits.1 in
      omega (arith, a, b)
  fits_nodes (negate_syntax at e) tokens rest s fits =
      let a = at_less _ at tokens s.0 s.1 in
      let b = fits_nodes e s.0 rest s.2 fits.1 in
      omega (arith, a, b)
  fits_nodes (not_syntax at e) tokens rest s fits =
      let a = at_less _ at tokens s.0 s.1 in
      let b = fits_nodes e s.0 rest s.2 fits.1 in
      omega (arith, a, b)
  fits_nodes (pown_syntax at e k) tokens rest s fits =
      let a = at_less _ at tokens s.0 s.2 in
      let b = fits_nodes e s.0 s.1 s.3 fits.1 in
      let c = power_less k s.1 rest s.4 in
      omega (arith, a, b, c)
  fits_nodes (arith_syntax at op a b) tokens rest s fits =
      both_less (between.Arith op) tokens at (expr_nodes a) (expr_nodes b) tokens s.0 s.1 rest (fits_nodes a tokens s.0 s.2 fits.2) s.3 (fits_nodes b s.1 rest s.4 fits.3)
  fits_nodes (compare_syntax at sign a b) tokens rest s fits =
      both_less (between.Compare sign) tokens at (expr_nodes a) (expr_nodes b) tokens s.0 s.1 rest (fits_nodes a tokens s.0 s.2 fits.2) s.3 (fits_nodes b s.1 rest s.4 fits.3)
  fits_nodes (and_syntax at a b) tokens rest s fits =
      both_less between.And tokens at (expr_nodes a) (expr_nodes b) tokens s.0 s.1 rest (fits_nodes a tokens s.0 s.2 fits.2) s.3 (fits_nodes b s.1 rest s.4 fits.3)
  fits_nodes (or_syntax at a b) tokens rest s fits =
      both_less between.Or tokens at (expr_nodes a) (expr_nodes b) tokens s.0 s.1 rest (fits_nodes a tokens s.0 s.2 fits.2) s.3 (fits_nodes b s.1 rest s.4 fits.3)
  fits_nodes (cons_syntax at a b) tokens rest s fits =
      both_less between.Cons tokens at (expr_nodes a) (expr_nodes b) tokens s.0 s.1 rest (fits_nodes a tokens s.0 s.2 fits.2) s.3 (fits_nodes b s.1 rest s.4 fits.3)
  fits_nodes (if_syntax at c a b) tokens rest s fits =
      let i = at_less _ at tokens s.0 s.5 in
      let p = fits_nodes c s.0 s.1 s.6 fits.0 in
      let t = first_less _ s.1 s.2 s.7 in
      let q = fits_nodes a s.2 s.3 s.8 fits.1 in
      let e = first_less _ s.3 s.4 s.9 in
      let r = fits_nodes b s.4 rest s.10 fits.2 in
      omega (arith, i, p, t, q, e, r)
  fits_nodes (let_syntax at x a b) tokens rest s fits =
      let l = at_less _ at tokens s.0 s.5 in
      let n = at_less _ x.at s.0 s.1 s.6 in
      let e = first_less _ s.1 s.2 s.7 in
      let p = fits_nodes a s.2 s.3 s.8 fits.0 in
      let i = first_less _ s.3 s.4 s.9 in
      let q = fits_nodes b s.4 rest s.10 fits.1 in
      omega (arith, l, n, e, p, i, q)
  fits_nodes (match_syntax at l a x y b) tokens rest s fits =
      let m = at_less _ at tokens s.0 s.5 in
      let p = fits_nodes l s.0 s.1 s.6 fits.0 in
      let e = empty_arm_less s.1 s.2 s.7 in
      let q = fits_nodes a s.2 s.3 s.8 fits.1 in
      let f = full_arm_less x y s.3 s.4 s.9 in
      let r = fits_nodes b s.4 rest s.10 fits.2 in
      omega (arith, m, p, e, q, f, r)
  fits_nodes (nil_syntax at t) tokens rest s fits =
      let a = at_less _ at tokens s.0 s.5 in
      let b = first_less _ s.0 s.1 s.6 in
      let c = first_less _ s.1 s.2 s.7 in
      let d = first_less _ s.2 s.3 s.8 in
      let e = type_less t s.3 s.4 s.9 fits in
      let f = first_less _ s.4 rest s.10 in
      omega (arith, a, b, c, d, e, f)
  fits_nodes (list_syntax at es) tokens rest s fits =
      let a = at_less _ at tokens s.0 s.2 in
      let b = fits_items es s.0 s.1 s.3 fits in
      let c = first_less _ s.1 rest s.4 in
      omega (arith, a, b, c)
  fits_nodes (fields_syntax at fs) tokens rest s fits =
      let a = at_less _ at tokens s.0 s.2 in
      let b = fits_fields fs s.0 s.1 s.3 fits in
      let c = first_less _ s.1 rest s.4 in
      omega (arith, a, b, c)
  fits_nodes (field_syntax at place x e) tokens rest s fits =
      let a = fits_nodes e tokens s.0 s.2 fits.1 in
      let b = at_less _ at s.0 s.1 s.3 in
      let c = at_less _ place s.1 rest s.4 in
      omega (arith, a, b, c)
  fits_nodes (bracket_expr_syntax at e) tokens rest s fits =
      let a = at_less _ at tokens s.0 s.2 in
      let b = fits_nodes e s.0 s.1 s.3 fits in
      let c = first_less _ s.1 rest s.4 in
      omega (arith, a, b, c)

  fits_arguments : (es : ExprSyntaxes) (tokens rest : List Token) → AllSpell es tokens rest → AreAtoms es → all_expr_nodes es + length rest ≤ length tokens
  fits_arguments no_exprs tokens rest s fits = let e : length tokens ≡ length rest = ap length s in omega (arith, e)
  fits_arguments (more_exprs e es) tokens rest s fits =
      let a = fits_nodes e tokens s.0 s.1 fits.1 in
      let b = fits_arguments es s.0 rest s.2 fits.2 in
      omega (arith, a, b)

  fits_items : (es : ExprSyntaxes) (tokens rest : List Token) → ItemsSpell es tokens rest → AllFit es → all_expr_nodes es + length rest ≤ length tokens
  fits_items no_exprs tokens rest s fits = absurd s
  fits_items (more_exprs e es) tokens rest s fits =
      let a = fits_nodes e tokens s.0 s.1 fits.0 in
      let b = fits_more_items es s.0 rest s.2 fits.1 in
      omega (arith, a, b)

  fits_more_items : (es : ExprSyntaxes) (tokens rest : List Token) → MoreItems es tokens rest → AllFit es → all_expr_nodes es + length rest ≤ length tokens
  fits_more_items no_exprs tokens rest s fits = let e : length tokens ≡ length rest = ap length s in omega (arith, e)
  fits_more_items (more_exprs e es) tokens rest s fits =
      let c = first_less _ tokens s.0 s.2 in
      let a = fits_nodes e s.0 s.1 s.3 fits.0 in
      let b = fits_more_items es s.1 rest s.4 fits.1 in
      omega (arith, a, b, c)

  fits_fields : (fs : FieldSyntaxes) (tokens rest : List Token) → FieldsSpell fs tokens rest → FieldsFit fs → all_field_nodes fs + length rest ≤ length tokens
  fits_fields no_fields tokens rest s fits = absurd s
  fits_fields (more_fields at x e fs) tokens rest s fits =
      let n = at_less _ at tokens s.0 s.3 in
      let q = first_less _ s.0 s.1 s.4 in
      let a = fits_nodes e s.1 s.2 s.5 fits.0 in
      let b = fits_more_fields fs s.2 rest s.6 fits.1 in
      omega (arith, n, q, a, b)

  fits_more_fields : (fs : FieldSyntaxes) (tokens rest : List Token) → MoreFields fs tokens rest → FieldsFit fs → all_field_nodes fs + length rest ≤ length tokens
  fits_more_fields no_fields tokens rest s fits = let e : length tokens ≡ length rest = ap length s in omega (arith, e)
  fits_more_fields (more_fields at x e fs) tokens rest s fits =
      let c = first_less _ tokens s.0 s.4 in
      let n = at_less _ at s.0 s.1 s.5 in
      let q = first_less _ s.1 s.2 s.6 in
      let a = fits_nodes e s.2 s.3 s.7 fits.0 in
      let b = fits_more_fields fs s.3 rest s.8 fits.1 in
      omega (arith, c, n, q, a, b)

-- ---- declarations

params_less : (ps : List ParamSyntax) (tokens rest : List Token) → ParamsSpell ps tokens rest → ParamsFit ps → length rest ≤ length tokens
params_less [] tokens rest s fits = let e : length tokens ≡ length rest = ap length s in omega (arith, e)
params_less (p ∷ ps) tokens rest s fits =
    let one = s.1 in
    let a = first_less _ tokens one.0 one.4 in
    let b = at_less _ p.binder.at one.0 one.1 one.5 in
    let c = first_less _ one.1 one.2 one.6 in
    let d = type_less p.type one.2 one.3 one.7 fits.0 in
    let e = first_less _ one.3 s.0 one.8 in
    let more = params_less ps s.0 rest s.2 fits.1 in
    omega (arith, a, b, c, d, e, more)

result_less : (recursive : Bool) (r : Option TypeSyntax) (tokens rest : List Token) → ResultSpells r tokens rest → ResultFits recursive r → length rest ≤ length tokens
result_less recursive None tokens rest s fits = let e : length tokens ≡ length rest = ap length s in omega (arith, e)
result_less recursive (Some t) tokens rest s fits =
    let a = first_less _ tokens s.0 s.1 in
    let b = type_less t s.0 rest s.2 fits in
    omega (arith, a, b)

rec_less : (recursive : Bool) (tokens rest : List Token) → RecSpells recursive tokens rest → length rest ≤ length tokens
rec_less false tokens rest s = let e : length tokens ≡ length rest = ap length s in omega (arith, e)
rec_less true tokens rest s = let e = first_less _ tokens rest s in omega (arith, e)

attribute_less : (tokens rest : List Token) → Attribute tokens rest → length rest ≤ length tokens
attribute_less tokens rest s =
    let a = first_less _ tokens s.0 s.3 in
    let b = first_less _ s.0 s.1 s.4 in
    let c = first_less _ s.1 s.2 s.5 in
    let d = first_less _ s.2 rest s.6 in
    omega (arith, a, b, c, d)

var_less : (v : VarSyntax) (tokens rest : List Token) → VarSpells v tokens rest → length rest ≤ length tokens
var_less v tokens rest s =
    let a = attribute_less tokens s.0 s.1 in
    let b = at_less _ v.at s.0 rest s.2 in
    omega (arith, a, b)

more_vars_less : (vs : List VarSyntax) (tokens rest : List Token) → MoreVars vs tokens rest → length rest ≤ length tokens
more_vars_less [] tokens rest s = let e : length tokens ≡ length rest = ap length s in omega (arith, e)
more_vars_less (v ∷ vs) tokens rest s =
    let a = first_less _ tokens s.0 s.2 in
    let b = var_less v s.0 s.1 s.3 in
    let c = more_vars_less vs s.1 rest s.4 in
    omega (arith, a, b, c)

vars_less : (vs : List VarSyntax) (tokens rest : List Token) → VarsSpell vs tokens rest → length rest ≤ length tokens
vars_less [] tokens rest s = let e : length tokens ≡ length rest = ap length s in omega (arith, e)
vars_less (v ∷ vs) tokens rest s =
    let a = first_less _ tokens s.0 s.3 in
    let b = var_less v s.0 s.1 s.4 in
    let c = more_vars_less vs s.1 s.2 s.5 in
    let d = first_less _ s.2 rest s.6 in
    omega (arith, a, b, c, d)

other_less : (d : DeclSyntax) (tokens rest : List Token) → DeclSpells d tokens rest → DeclFits d → length rest ≤ length tokens
other_less d tokens rest s fits = let p = decl_yields d tokens rest s fits in let y = p.1 in no_longer y.0 tokens rest y.1

-- the tokens behind the name of a function are as many as its nodes, or more
pub function_room : (f : FunctionSyntax) (tokens rest : List Token) → (s : FunctionSpells f tokens rest) → DeclFits (function_syntax f) → expr_nodes f.body + length rest ≤ length s.2
function_room f tokens rest s fits =
    let v = vars_less f.units s.2 s.3 s.10 in
    let d = params_less f.params s.3 s.4 s.11 fits.0 in
    let e = result_less f.recursive f.result s.4 s.5 s.12 fits.1 in
    let g = first_less _ s.5 s.6 s.13 in
    let h = fits_nodes f.body s.6 rest s.14 fits.2 in
    omega (arith, v, d, e, g, h)

decl_fits : (d : DeclSyntax) (tokens rest : List Token) → DeclSpells d tokens rest → DeclFits d → decl_nodes d + length rest ≤ length tokens
decl_fits (function_syntax f) tokens rest s fits =
    let a = first_less _ tokens s.0 s.7 in
    let b = rec_less f.recursive s.0 s.1 s.8 in
    let c = at_less _ f.at s.1 s.2 s.9 in
    let r = function_room f tokens rest s fits in
    omega (arith, a, b, c, r)
decl_fits d tokens rest s fits = let e = other_less d tokens rest s fits in omega (arith, e)

decls_fit : (ds : List DeclSyntax) (tokens rest : List Token) → DeclsSpell ds tokens rest → DeclsFit ds → program_nodes ds + length rest ≤ length tokens
decls_fit [] tokens rest s fits = let e : length tokens ≡ length rest = ap length s in omega (arith, e)
decls_fit (d ∷ ds) tokens rest s fits =
    let a = decl_fits d tokens s.0 s.1 fits.0 in
    let b = decls_fit ds s.0 rest s.2 fits.1 in
    omega (arith, a, b)

pub few_nodes : (tokens : List Token) (ds : List DeclSyntax) → IsProgram tokens ds → program_nodes ds ≤ length tokens
few_nodes tokens ds p = let e = decls_fit ds tokens [] p.spelled p.fits in omega (arith, e)
