-- The layout of a program has the table's spaces, and each of its lines begins with a token that begins a declaration.
use Rattle.std.proofs.Common.{◌≡◌, refl, sym, ap, subst, ℕ, Bool, true, false, cond, List, [], ◌∷◌, ◌++◌, Option, Some, None}
use Rattle.std.specs.List.{flat_map, join_by}
use Rattle.um_syntax.specs.declared.token.Token.{Token}
use Rattle.um_vocabulary.specs.declared.vocabulary.Keyword.{Keyword}
use Rattle.um_vocabulary.specs.declared.vocabulary.Keyword.TheVariants as keyword
use Rattle.um_vocabulary.specs.declared.vocabulary.Symbol.TheVariants as symbol
use Rattle.um_tree.specs.RawTree.{VarSyntax, FieldDeclSyntax, ParamSyntax, FunctionSyntax, TypeSyntax, DeclSyntax, base_syntax, short_syntax, record_decl_syntax, function_syntax}
use Rattle.um_types.specs.TypeGrammar.{TypeFits}
use Rattle.um_parse.specs.DeclGrammar.{FieldDeclsSpell, FunctionSpells, DeclSpells, DeclsSpell, FieldDeclsFit, ParamsFit, ResultFits, DeclFits, DeclsFit, IsProgram}
use Rattle.um_show.specs.Pieces.{Piece, word, name, space, line_end, comma, semi, colon, equal, let_word, type_word, measure_word, greater, list_close, record_open, record_close, bracket_close}
use Rattle.um_show.specs.Layout.{unit_pieces, type_pieces, expr_pieces, bound_piece, binder_piece, var_pieces, var_list_pieces, field_decl_pieces, param_pieces, result_pieces, rec_pieces, decl_pieces, line_pieces, program_pieces}
use Rattle.um_tidy.specs.declared.stand.Next.{Next}
use Rattle.um_tidy.specs.declared.stand.Next.TheVariants as next_of
use Rattle.um_tidy.specs.declared.stand.Within.{Within}
use Rattle.um_tidy.specs.declared.stand.Within.TheVariants as within_of
use Rattle.um_tidy.specs.declared.stand.Stand.{Stand}
use Rattle.um_tidy.specs.Stands.{apart, before, start, has_ended, may_begin, in_attribute, keyword_stand, attribute_stand, equal_stand, colon_stand}
use Rattle.um_tidy.proofs.SpacedPieces.{Gap, joined, parted, ended, gap_of, standing, settled, Stood, Spaced, joins, never, first, sign_step, is_naming, is_typed, operand_ended, bracket_binds}
use Rattle.um_tidy.proofs.UnitsSpaced.{UnitSpaced, unit_spaced}
use Rattle.um_tidy.proofs.TypesSpaced.{plain, angled, type_spaced}
use Rattle.um_tidy.proofs.ExprsSpaced.{expr_spaced}

-- ---- behind a type or a name that units may follow

pub typed_names : (n : Next) → is_typed n ≡ true → is_naming n ≡ false
typed_names next_of.Heads e = never e
typed_names next_of.Measures e = never e
typed_names _ e = refl

pub equal_is : (n : Next) → is_typed n ≡ true → equal_stand n within_of.Plain ≡ apart next_of.Operand within_of.Plain
equal_is next_of.Greater e = never e
equal_is next_of.Measure e = never e
equal_is _ e = refl

pub colon_is : (n : Next) → is_typed n ≡ true → colon_stand n within_of.Plain ≡ apart next_of.Heads within_of.Plain
colon_is next_of.Bound e = never e
colon_is _ e = refl

pub record TypedSpaced (n : Next) (ps : List Piece) : Type 0 where
  pub next : Next
  pub typed : is_typed next ≡ true
  pub spaced : Spaced (plain false n) joined ps (plain false next) joined

-- ---- unit parameters

var_spaced : (v : VarSyntax) (b : Bool) → UnitSpaced b next_of.Operand within_of.Angle (var_pieces v)
var_spaced v b = record {
  next = next_of.Ended;
  ends = refl;
  spaced = (first b next_of.Operand within_of.Angle (attribute_stand next_of.Operand within_of.Angle) refl, (refl, (refl, (refl, (refl, (refl, (refl, refl)))))));
}

abbrev later_vars : List VarSyntax → List Piece
later_vars vs = flat_map (λ v. (comma ∷ space ∷ []) ++ var_pieces v) vs

vars_spaced : (v : VarSyntax) (vs : List VarSyntax) (b : Bool) → UnitSpaced b next_of.Operand within_of.Angle (var_pieces v ++ later_vars vs)
vars_spaced v [] b =
    let r = var_spaced v b in let end = standing false r.next within_of.Angle in
    record { next = r.next; ends = r.ends; spaced = joins (var_pieces v) [] (standing b next_of.Operand within_of.Angle) end end (gap_of b) joined joined r.spaced (refl, refl) }
vars_spaced v (u ∷ us) b =
    let r = var_spaced v b in let q = vars_spaced u us false in
    record {
      next = q.next;
      ends = q.ends;
      spaced = joins (var_pieces v) (later_vars (u ∷ us)) (standing b next_of.Operand within_of.Angle) (standing false r.next within_of.Angle) (standing false q.next within_of.Angle) (gap_of b) joined joined r.spaced (refl, (refl, q.spaced));
    }

var_list_spaced : (vs : List VarSyntax) → TypedSpaced next_of.Head (var_list_pieces vs)
var_list_spaced [] = record { next = next_of.Head; typed = refl; spaced = (refl, refl) }
var_list_spaced (v ∷ vs) =
    record { next = next_of.Ended; typed = refl; spaced = angled next_of.Head (var_pieces v ++ later_vars vs) [] (plain false next_of.Ended) refl (vars_spaced v vs true) (refl, refl) }

-- ---- fields

record FieldSpaced (ps : List Piece) : Type 0 where
  pub next : Next
  pub typed : is_typed next ≡ true
  pub spaced : Spaced (plain false next_of.Binds) parted ps (plain false next) joined

field_spaced : (f : FieldDeclSyntax) → TypeFits f.type → FieldSpaced (field_decl_pieces f)
field_spaced f fits = let r = type_spaced f.type fits false in record { next = r.next; typed = r.typed; spaced = (refl, (refl, (refl, r.spaced))) }

abbrev later_fields : List FieldDeclSyntax → List Piece
later_fields fs = flat_map (λ f. (semi ∷ space ∷ []) ++ field_decl_pieces f) fs

later_fields_spaced : (fs : List FieldDeclSyntax) → FieldDeclsFit fs → (n : Next) → is_typed n ≡ true → TypedSpaced n (later_fields fs)
later_fields_spaced [] fits n e = record { next = n; typed = e; spaced = (refl, refl) }
later_fields_spaced (f ∷ fs) fits n e =
    let r = field_spaced f fits.0 in let q = later_fields_spaced fs fits.1 r.next r.typed in
    record {
      next = q.next;
      typed = q.typed;
      spaced = (refl, (refl, joins (field_decl_pieces f) (later_fields fs) (plain false next_of.Binds) (plain false r.next) (plain false q.next) parted joined joined r.spaced q.spaced));
    }

fields_spaced : (fs : List FieldDeclSyntax) (tokens rest : List Token) → FieldDeclsSpell fs tokens rest → FieldDeclsFit fs → FieldSpaced (join_by field_decl_pieces (semi ∷ space ∷ []) fs)
fields_spaced [] tokens rest s fits = absurd s
fields_spaced (f ∷ fs) tokens rest s fits =
    let r = field_spaced f fits.0 in let q = later_fields_spaced fs fits.1 r.next r.typed in
    record { next = q.next; typed = q.typed; spaced = joins (field_decl_pieces f) (later_fields fs) (plain false next_of.Binds) (plain false r.next) (plain false q.next) parted joined joined r.spaced q.spaced }

-- ---- functions

bind_spaced : (x : Option (List ℕ)) (ps : List Piece) (t : Stand) → Spaced (plain false next_of.Bound) joined ps t joined → Spaced (plain true next_of.Binds) joined (bound_piece x ∷ ps) t joined
bind_spaced None ps t c = (refl, c)
bind_spaced (Some x) ps t c = (refl, c)

param_spaced : (p : ParamSyntax) → TypeFits p.type → (n : Next) → is_typed n ≡ true → Spaced (plain false n) joined (param_pieces p) (plain false next_of.Ended) joined
param_spaced p fits n e =
    let r = type_spaced p.type fits false in let written = colon ∷ space ∷ type_pieces p.type ++ bracket_close ∷ [] in
    let close = joins (type_pieces p.type) (bracket_close ∷ []) (plain false next_of.Heads) (plain false r.next) (plain false next_of.Ended) parted joined joined r.spaced (refl, (refl, refl)) in (
      refl,
      sign_step (plain false n) parted symbol.LeftParen (before next_of.Binds within_of.Plain) (binder_piece p.binder ∷ written) (plain false next_of.Ended) joined (bracket_binds n within_of.Plain (typed_names n e)) refl
          (bind_spaced p.binder.name written (plain false next_of.Ended) (refl, (refl, close))),
    )

params_spaced : (ps : List ParamSyntax) → ParamsFit ps → (n : Next) → is_typed n ≡ true → TypedSpaced n (flat_map param_pieces ps)
params_spaced [] fits n e = record { next = n; typed = e; spaced = (refl, refl) }
params_spaced (p ∷ ps) fits n e =
    let q = params_spaced ps fits.1 next_of.Ended refl in
    record { next = q.next; typed = q.typed; spaced = joins (param_pieces p) (flat_map param_pieces ps) (plain false n) (plain false next_of.Ended) (plain false q.next) joined joined joined (param_spaced p fits.0 n e) q.spaced }

result_spaced : (recursive : Bool) (t : Option TypeSyntax) → ResultFits recursive t → (n : Next) → is_typed n ≡ true → TypedSpaced n (result_pieces t)
result_spaced recursive None fits n e = record { next = n; typed = e; spaced = (refl, refl) }
result_spaced recursive (Some t) fits n e =
    let r = type_spaced t fits false in
    record { next = r.next; typed = r.typed; spaced = (refl, sign_step (plain false n) parted symbol.Colon (apart next_of.Heads within_of.Plain) (space ∷ type_pieces t) (plain false r.next) joined (colon_is n e) refl (refl, r.spaced)) }

rec_spaced : (r : Bool) → Spaced (plain false next_of.Heads) parted (rec_pieces r) (plain false next_of.Heads) parted
rec_spaced false = (refl, refl)
rec_spaced true = (refl, (refl, (refl, refl)))

-- ---- declarations

-- a line's declaration; behind it another may begin
record LineSpaced (n : Next) (w : Within) (ps : List Piece) : Type 0 where
  pub next : Next
  pub within : Within
  pub begins : may_begin next ≡ true
  pub outside : in_attribute within ≡ false
  pub spaced : Spaced (standing false n w) ended ps (standing false next within) joined

pub ended_begins : (n : Next) → has_ended n ≡ true → may_begin n ≡ true
ended_begins next_of.First e = refl
ended_begins _ e = e

-- a reserved word whose row of the table is known
word_step : (s : Stand) (g : Gap) (k : Keyword) (u : Stand) (ps : List Piece) (t : Stand) (h : Gap) → keyword_stand s.next s.within k ≡ u → Stood s g u → Spaced (settled u) joined ps t h → Spaced s g (word k ∷ ps) t h
word_step s g k u ps t h is a b = (subst (λ (z : Stand). Stood s g z) (sym is) a, subst (λ (z : Stand). Spaced (settled z) joined ps t h) (sym is) b)

-- the `[<` of a declaration
abbrev opened : Bool → Within → Stand
opened b w = record { after = false; before = true; begins = b; next = next_of.Operand; within = cond b within_of.Attribute w }

-- the word `type` outside an attribute
abbrev declares : Bool → Stand
declares b = record { after = false; before = false; begins = true; next = cond b next_of.Measures next_of.Heads; within = within_of.Plain }

-- the `=` behind a head, and what follows it
equal_step : (n : Next) (ps : List Piece) (t : Stand) → is_typed n ≡ true → Spaced (plain false next_of.Operand) parted ps t joined → Spaced (plain false n) joined (space ∷ equal ∷ space ∷ ps) t joined
equal_step n ps t e c = (refl, sign_step (plain false n) parted symbol.Equal (apart next_of.Operand within_of.Plain) (space ∷ ps) t joined (equal_is n e) refl (refl, c))

function_spaced : (f : FunctionSyntax) (tokens rest : List Token) → FunctionSpells f tokens rest → DeclFits (function_syntax f) → (n : Next) (w : Within) → may_begin n ≡ true → LineSpaced n w (decl_pieces (function_syntax f))
function_spaced f tokens rest s fits n w m =
    let v = var_list_spaced f.units in let p = params_spaced f.params fits.0 v.next v.typed in let t = result_spaced f.recursive f.result fits.1 p.next p.typed in
    let e = expr_spaced f.body s.6 rest s.14 fits.2 false next_of.Operand refl never in
    let from = standing false n w in
    let head = let_word ∷ space ∷ rec_pieces f.recursive in let named = name f.name ∷ var_list_pieces f.units in
    let params = flat_map param_pieces f.params in let result = result_pieces f.result in let body = space ∷ equal ∷ space ∷ expr_pieces f.body in
    let begun : Spaced from ended head (plain false next_of.Heads) parted = (m, (refl, rec_spaced f.recursive)) in
    let headed : Spaced from ended (head ++ named) (plain false v.next) joined =
    joins head named from (plain false next_of.Heads) (plain false v.next) ended parted joined begun (refl, v.spaced) in
    let taken : Spaced from ended ((head ++ named) ++ params) (plain false p.next) joined =
    joins (head ++ named) params from (plain false v.next) (plain false p.next) ended joined joined headed p.spaced in
    let typed : Spaced from ended (((head ++ named) ++ params) ++ result) (plain false t.next) joined =
    joins ((head ++ named) ++ params) result from (plain false p.next) (plain false t.next) ended joined joined taken t.spaced in
    record {
      next = e.next;
      within = within_of.Plain;
      begins = ended_begins e.next (operand_ended e.next e.operand);
      outside = refl;
      spaced = joins (((head ++ named) ++ params) ++ result) body from (plain false t.next) (plain false e.next) ended joined joined typed (equal_step t.next (expr_pieces f.body) (plain false e.next) t.typed e.spaced);
    }

decl_spaced : (d : DeclSyntax) (tokens rest : List Token) → DeclSpells d tokens rest → DeclFits d → (n : Next) (w : Within) → may_begin n ≡ true → in_attribute w ≡ false → LineSpaced n w (decl_pieces d)
decl_spaced (base_syntax at x) tokens rest s fits n w m o = record {
  next = next_of.Measure;
  within = within_of.Plain;
  begins = refl;
  outside = refl;
  spaced = sign_step (standing false n w) ended symbol.AttributeOpen (opened true w) (measure_word ∷ greater ∷ list_close ∷ space ∷ type_word ∷ space ∷ name x ∷ []) (plain false next_of.Measure) joined (ap (λ b. opened b w) m) refl (refl, (refl, (refl, (refl, (refl, (refl, (refl, (refl, refl))))))));
}
decl_spaced (short_syntax at x u) tokens rest s fits n w m o =
    let r = unit_spaced within_of.Unit refl u fits false next_of.Operand never in
    record {
      next = r.next;
      within = within_of.Unit;
      begins = ended_begins r.next r.ends;
      outside = refl;
      spaced = sign_step (standing false n w) ended symbol.AttributeOpen (opened true w) (measure_word ∷ greater ∷ list_close ∷ space ∷ type_word ∷ space ∷ name x ∷ space ∷ equal ∷ space ∷ unit_pieces u) (standing false r.next within_of.Unit) joined (ap (λ b. opened b w) m) refl (refl, (refl, (refl, (refl, (refl, (refl, (refl, (refl, (refl, (refl, r.spaced))))))))));
    }
decl_spaced (record_decl_syntax at x vs fs) tokens rest s fits n w m o =
    let v = var_list_spaced vs in let r = fields_spaced fs s.4 s.5 s.11 fits in
    let from = standing false n w in
    let fields = join_by field_decl_pieces (semi ∷ space ∷ []) fs in
    let head = type_word ∷ space ∷ name x ∷ var_list_pieces vs in let middle = space ∷ equal ∷ space ∷ record_open ∷ space ∷ fields in
    let headed : Spaced from ended head (plain false v.next) joined =
    word_step from ended keyword.Type (declares false) (space ∷ name x ∷ var_list_pieces vs) (plain false v.next) joined (ap declares o) refl (refl, (refl, v.spaced)) in
    let filled : Spaced (plain false v.next) joined middle (plain false r.next) joined =
    equal_step v.next (record_open ∷ space ∷ fields) (plain false r.next) v.typed (refl, (refl, r.spaced)) in
    record {
      next = next_of.Ended;
      within = within_of.Plain;
      begins = refl;
      outside = refl;
      spaced =
          joins (head ++ middle) (space ∷ record_close ∷ []) from (plain false r.next) (plain false next_of.Ended) ended joined joined
          (joins head middle from (plain false v.next) (plain false r.next) ended joined joined headed filled) (refl, (refl, (refl, refl)));
    }
decl_spaced (function_syntax f) tokens rest s fits n w m o = function_spaced f tokens rest s fits n w m

-- ---- programs

pub record ProgramSpaced (n : Next) (w : Within) (ps : List Piece) : Type 0 where
  pub end : Stand
  pub spaced : Spaced (standing false n w) ended ps end ended

decls_spaced : (ds : List DeclSyntax) (tokens rest : List Token) → DeclsSpell ds tokens rest → DeclsFit ds → (n : Next) (w : Within) → may_begin n ≡ true → in_attribute w ≡ false → ProgramSpaced n w (program_pieces ds)
decls_spaced [] tokens rest s fits n w m o = record { end = standing false n w; spaced = (refl, refl) }
decls_spaced (d ∷ ds) tokens rest s fits n w m o =
    let r = decl_spaced d tokens s.0 s.1 fits.0 n w m o in let q = decls_spaced ds s.0 rest s.2 fits.1 r.next r.within r.begins r.outside in
    let from = standing false n w in let mid = standing false r.next r.within in
    record {
      end = q.end;
      spaced =
          joins (line_pieces d) (program_pieces ds) from mid q.end ended ended ended
          (joins (decl_pieces d) (line_end ∷ []) from mid mid ended joined ended r.spaced (refl, (refl, refl))) q.spaced;
    }

pub program_spaced : (tokens : List Token) (ds : List DeclSyntax) → IsProgram tokens ds → (end : Stand) × Spaced start ended (program_pieces ds) end ended
program_spaced tokens ds program = let r = decls_spaced ds tokens [] program.spelled program.fits next_of.First within_of.Plain refl refl in (r.end, r.spaced)
