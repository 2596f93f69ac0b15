-- The layout of a program whose tokens are those of some text is a chain of pieces.
use Rattle.std.proofs.Common.{Bool, true, false, List, [], ◌∷◌, ◌++◌, Option, Some, None, refl, subst}
use Rattle.std.specs.List.{flat_map, join_by}
use Rattle.um_syntax.specs.declared.token.Token.{Token}
use Rattle.um_tree.specs.RawTree.{VarSyntax, FieldDeclSyntax, ParamSyntax, FunctionSyntax, TypeSyntax, DeclSyntax, base_syntax, short_syntax, record_decl_syntax, function_syntax}
use Rattle.um_parse.specs.DeclGrammar.{Attribute, VarSpells, MoreVars, VarsSpell, FieldDeclSpells, MoreFieldDecls, FieldDeclsSpell, ParamSpells, ParamsSpell, ResultSpells, RecSpells, FunctionSpells, DeclSpells, DeclsSpell, FieldDeclsFit, ParamsFit, ResultFits, DeclFits, DeclsFit}
use Rattle.um_types.specs.TypeGrammar.{TypeFits}
use Rattle.um_show.specs.Pieces.{Piece, name, variable, space, line_end, comma, semi, colon, equal, greater, let_word, type_word, record_open, record_close, bracket_close}
use Rattle.um_show.specs.Layout.{unit_pieces, type_pieces, expr_pieces, attribute_pieces, var_pieces, var_list_pieces, field_decl_pieces, param_pieces, result_pieces, rec_pieces, decl_pieces, line_pieces, program_pieces}
use Rattle.um_show.proofs.Chain.{Place, fresh, full, Chain, joined, regroup}
use Rattle.um_show.proofs.GoodTokens.{AllGood, first_good, name_good, variable_good}
use Rattle.um_show.proofs.UnitLinks.{Linked, linked_all, link, never, unit_links}
use Rattle.um_show.proofs.TypeLinks.{type_links}
use Rattle.um_show.proofs.ExprLinks.{spaced_equal, binder_links, binder_step, expr_links}

-- ---- `[<Measure>]`

attribute_chain : (g : Bool) (ps : List Piece) (t : Place) → Chain full ps t → Chain (fresh g false) (attribute_pieces ++ ps) t
attribute_chain g ps t c = (tt, refl, (tt, refl, (tt, refl, (tt, refl, c))))

attribute_behind : (tokens rest : List Token) → Attribute tokens rest → AllGood tokens → AllGood rest
attribute_behind tokens rest s h =
    let word = (first_good tokens s.0 s.3.0 s.3.2 h).1 in let sign = (first_good s.0 s.1 s.4.0 s.4.2 word).1 in
    let last = (first_good s.1 s.2 s.5.0 s.5.2 sign).1 in (first_good s.2 rest s.6.0 s.6.2 last).1

-- ---- unit parameters

var_links : (v : VarSyntax) (tokens rest : List Token) → VarSpells v tokens rest → AllGood tokens → (g : Bool) → Linked (fresh g false) (var_pieces v) full rest
var_links v tokens rest s h g =
    let b = first_good s.0 rest s.2.0 s.2.3 (attribute_behind tokens s.0 s.1 h) in
    record { chain = attribute_chain g (space ∷ variable v.name ∷ []) full (tt, refl, (variable_good s.2.0.kind v.name s.2.1 b.0, refl, refl)); good = b.1 }

abbrev later_vars : List VarSyntax → List Piece
later_vars vs = flat_map (λ v. (comma ∷ space ∷ []) ++ var_pieces v) vs

more_vars_links : (vs : List VarSyntax) (tokens rest : List Token) → MoreVars vs tokens rest → AllGood tokens → Linked full (later_vars vs) full rest
more_vars_links [] tokens rest s h = linked_all tokens rest s h
more_vars_links (v ∷ vs) tokens rest s h =
    let r = var_links v s.0 s.1 s.3 (first_good tokens s.0 s.2.0 s.2.2 h).1 false in let q = more_vars_links vs s.1 rest s.4 r.good in
    record { chain = (tt, refl, (tt, refl, link (var_pieces v) (later_vars vs) false false r.chain q.chain)); good = q.good }

vars_links : (vs : List VarSyntax) (tokens rest : List Token) → VarsSpell vs tokens rest → AllGood tokens → Linked full (var_list_pieces vs) full rest
vars_links [] tokens rest s h = linked_all tokens rest s h
vars_links (v ∷ vs) tokens rest s h =
    let r = var_links v s.0 s.1 s.4 (first_good tokens s.0 s.3.0 s.3.2 h).1 true in let q = more_vars_links vs s.1 s.2 s.5 r.good in
    record {
      chain = (tt, refl, link (var_pieces v ++ later_vars vs) (greater ∷ []) true false (link (var_pieces v) (later_vars vs) true false r.chain q.chain) (tt, refl, refl));
      good = (first_good s.2 rest s.6.0 s.6.2 q.good).1;
    }

-- ---- fields

field_decl_links : (f : FieldDeclSyntax) (tokens rest : List Token) → FieldDeclSpells f tokens rest → TypeFits f.type → AllGood tokens → Linked (fresh false false) (field_decl_pieces f) full rest
field_decl_links f tokens rest s fits h =
    let b = first_good tokens s.0 s.2.0 s.2.3 h in let r = type_links f.type s.1 rest s.4 fits (first_good s.0 s.1 s.3.0 s.3.2 b.1).1 false in
    record { chain = (name_good s.2.0.kind f.name s.2.1 b.0, refl, (tt, refl, (tt, refl, r.chain))); good = r.good }

abbrev later_fields : List FieldDeclSyntax → List Piece
later_fields fs = flat_map (λ f. (semi ∷ space ∷ []) ++ field_decl_pieces f) fs

more_field_decl_links : (fs : List FieldDeclSyntax) (tokens rest : List Token) → MoreFieldDecls fs tokens rest → FieldDeclsFit fs → AllGood tokens → Linked full (later_fields fs) full rest
more_field_decl_links [] tokens rest s fits h = linked_all tokens rest s h
more_field_decl_links (f ∷ fs) tokens rest s fits h =
    let r = field_decl_links f s.0 s.1 s.3 fits.0 (first_good tokens s.0 s.2.0 s.2.2 h).1 in let q = more_field_decl_links fs s.1 rest s.4 fits.1 r.good in
    record { chain = (tt, refl, (tt, refl, link (field_decl_pieces f) (later_fields fs) false false r.chain q.chain)); good = q.good }

field_decls_links : (fs : List FieldDeclSyntax) (tokens rest : List Token) → FieldDeclsSpell fs tokens rest → FieldDeclsFit fs → AllGood tokens
    → Linked (fresh false false) (join_by field_decl_pieces (semi ∷ space ∷ []) fs) full rest
field_decls_links [] tokens rest s fits h = absurd s
field_decls_links (f ∷ fs) tokens rest s fits h =
    let r = field_decl_links f tokens s.0 s.1 fits.0 h in let q = more_field_decl_links fs s.0 rest s.2 fits.1 r.good in
    record { chain = link (field_decl_pieces f) (later_fields fs) false false r.chain q.chain; good = q.good }

-- ---- functions

param_links : (p : ParamSyntax) (tokens rest : List Token) → ParamSpells p tokens rest → TypeFits p.type → AllGood tokens → Linked full (param_pieces p) full rest
param_links p tokens rest s fits h =
    let b = binder_links p.binder s.0 s.1 s.5 (first_good tokens s.0 s.4.0 s.4.2 h).1 in
    let r = type_links p.type s.2 s.3 s.7 fits (first_good s.1 s.2 s.6.0 s.6.2 b.1).1 false in
    let typed = link (type_pieces p.type) (bracket_close ∷ []) false false r.chain (tt, refl, refl) in
    record {
      chain = (tt, refl, (tt, refl, binder_step p.binder true (colon ∷ space ∷ type_pieces p.type ++ bracket_close ∷ []) b.0 (tt, refl, (tt, refl, typed))));
      good = (first_good s.3 rest s.8.0 s.8.2 r.good).1;
    }

params_links : (ps : List ParamSyntax) (tokens rest : List Token) → ParamsSpell ps tokens rest → ParamsFit ps → AllGood tokens → Linked full (flat_map param_pieces ps) full rest
params_links [] tokens rest s fits h = linked_all tokens rest s h
params_links (p ∷ ps) tokens rest s fits h =
    let r = param_links p tokens s.0 s.1 fits.0 h in let q = params_links ps s.0 rest s.2 fits.1 r.good in
    record { chain = joined (param_pieces p) (flat_map param_pieces ps) full full full r.chain q.chain; good = q.good }

result_links : (recursive : Bool) (t : Option TypeSyntax) (tokens rest : List Token) → ResultSpells t tokens rest → ResultFits recursive t → AllGood tokens → Linked full (result_pieces t) full rest
result_links recursive None tokens rest s fits h = linked_all tokens rest s h
result_links recursive (Some t) tokens rest s fits h =
    let r = type_links t s.0 rest s.2 fits (first_good tokens s.0 s.1.0 s.1.2 h).1 false in record { chain = (tt, refl, (tt, refl, (tt, refl, r.chain))); good = r.good }

rec_step : (r : Bool) (ps : List Piece) → Chain (fresh false false) ps full → Chain (fresh false false) (rec_pieces r ++ ps) full
rec_step false ps c = c
rec_step true ps c = (tt, refl, (tt, refl, c))

rec_behind : (r : Bool) (tokens rest : List Token) → RecSpells r tokens rest → AllGood tokens → AllGood rest
rec_behind false tokens rest s h = subst (λ w. AllGood w) s h
rec_behind true tokens rest s h = (first_good tokens rest s.0 s.2 h).1

function_links : (f : FunctionSyntax) (tokens rest : List Token) → FunctionSpells f tokens rest → DeclFits (function_syntax f) → AllGood tokens → Linked (fresh false false) (decl_pieces (function_syntax f)) full rest
function_links f tokens rest s fits h =
    let b = first_good s.1 s.2 s.9.0 s.9.3 (rec_behind f.recursive s.0 s.1 s.8 (first_good tokens s.0 s.7.0 s.7.2 h).1) in
    let v = vars_links f.units s.2 s.3 s.10 b.1 in
    let p = params_links f.params s.3 s.4 s.11 fits.0 v.good in let t = result_links f.recursive f.result s.4 s.5 s.12 fits.1 p.good in
    let e = expr_links f.body s.6 rest s.14 fits.2 (first_good s.5 s.6 s.13.0 s.13.2 t.good).1 false in
    let params = flat_map param_pieces f.params in let body = space ∷ equal ∷ space ∷ expr_pieces f.body in
    let behind = result_pieces f.result ++ body in
    let typed = joined (result_pieces f.result) body full full full t.chain (spaced_equal (expr_pieces f.body) e.chain) in
    let taken = joined params behind full full full p.chain typed in let whole = joined (var_list_pieces f.units) (params ++ behind) full full full v.chain taken in
    let head = let_word ∷ space ∷ rec_pieces f.recursive in let named = name f.name ∷ var_list_pieces f.units in
    let all = rec_step f.recursive (named ++ (params ++ behind)) (name_good s.9.0.kind f.name s.9.1 b.0, refl, whole) in
    let begun = regroup (head ++ named) params behind (fresh false false) full (regroup head named (params ++ behind) (fresh false false) full (tt, refl, (tt, refl, all))) in
    record { chain = regroup ((head ++ named) ++ params) (result_pieces f.result) body (fresh false false) full begun; good = e.good }

-- ---- declarations

decl_links : (d : DeclSyntax) (tokens rest : List Token) → DeclSpells d tokens rest → DeclFits d → AllGood tokens → Linked (fresh false false) (decl_pieces d) full rest
decl_links (base_syntax at x) tokens rest s fits h =
    let b = first_good s.1 rest s.4.0 s.4.3 (first_good s.0 s.1 s.3.0 s.3.2 (attribute_behind tokens s.0 s.2 h)).1 in
    record { chain = attribute_chain false (space ∷ type_word ∷ space ∷ name x ∷ []) full (tt, refl, (tt, refl, (tt, refl, (name_good s.4.0.kind x s.4.1 b.0, refl, refl)))); good = b.1 }
decl_links (short_syntax at x u) tokens rest s fits h =
    let b = first_good s.1 s.2 s.6.0 s.6.3 (first_good s.0 s.1 s.5.0 s.5.2 (attribute_behind tokens s.0 s.4 h)).1 in
    let r = unit_links u s.3 rest s.8 fits (first_good s.2 s.3 s.7.0 s.7.2 b.1).1 false false never in
    record {
      chain = attribute_chain false (space ∷ type_word ∷ space ∷ name x ∷ space ∷ equal ∷ space ∷ unit_pieces u) full (tt, refl, (tt, refl, (tt, refl, (name_good s.6.0.kind x s.6.1 b.0, refl, spaced_equal (unit_pieces u) r.chain))));
      good = r.good;
    }
decl_links (record_decl_syntax at x vs fs) tokens rest s fits h =
    let b = first_good s.0 s.1 s.7.0 s.7.3 (first_good tokens s.0 s.6.0 s.6.2 h).1 in
    let v = vars_links vs s.1 s.2 s.8 b.1 in
    let r = field_decls_links fs s.4 s.5 s.11 fits (first_good s.3 s.4 s.10.0 s.10.2 (first_good s.2 s.3 s.9.0 s.9.2 v.good).1).1 in
    let fields = join_by field_decl_pieces (semi ∷ space ∷ []) fs in
    let closed = link fields (space ∷ record_close ∷ []) false false r.chain (tt, refl, (tt, refl, refl)) in
    let braces = record_open ∷ space ∷ fields ++ space ∷ record_close ∷ [] in
    let whole = joined (var_list_pieces vs) (space ∷ equal ∷ space ∷ braces) full full full v.chain (spaced_equal braces (tt, refl, (tt, refl, closed))) in
    record {
      chain = regroup (type_word ∷ space ∷ name x ∷ var_list_pieces vs) (space ∷ equal ∷ space ∷ record_open ∷ space ∷ fields) (space ∷ record_close ∷ []) (fresh false false) full (tt, refl, (tt, refl, (name_good s.7.0.kind x s.7.1 b.0, refl, whole)));
      good = (first_good s.5 rest s.12.0 s.12.2 r.good).1;
    }
decl_links (function_syntax f) tokens rest s fits h = function_links f tokens rest s fits h

pub program_links : (ds : List DeclSyntax) (tokens rest : List Token) → DeclsSpell ds tokens rest → DeclsFit ds → AllGood tokens → Chain (fresh false false) (program_pieces ds) (fresh false false)
program_links [] tokens rest s fits h = refl
program_links (d ∷ ds) tokens rest s fits h =
    let r = decl_links d tokens s.0 s.1 fits.0 h in let others = program_links ds s.0 rest s.2 fits.1 r.good in
    let line = joined (decl_pieces d) (line_end ∷ []) (fresh false false) full (fresh false false) r.chain (tt, refl, refl) in
    joined (line_pieces d) (program_pieces ds) (fresh false false) (fresh false false) (fresh false false) line others
