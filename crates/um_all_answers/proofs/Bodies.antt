-- The powers of all bodies of a text's program are low.
use Rattle.std.proofs.Common.{◌≡◌, ℕ, List, [], ◌∷◌, length, Ok, subst}
use Rattle.std.specs.Prelude.{All}
use Rattle.std.proofs.lemmas.List.Elements.{All-nil, All-push}
use Rattle.um_syntax.specs.declared.token.Token.{Token}
use Rattle.um_tree.specs.ProgramTree.{FunctionTree, ProgramTree}
use Rattle.um_tree.specs.RawTree.{FunctionSyntax, DeclSyntax, base_syntax, short_syntax, record_decl_syntax, function_syntax}
use Rattle.um_expr.specs.ExprGrammar.{Spells}
use Rattle.um_parse.specs.DeclGrammar.{DeclSpells, DeclsSpell}
use Rattle.um_measures.specs.Faults.{and_then, unless_taken}
use Rattle.um_measures.specs.Known.{Known, nothing, is_taken, measure_unit}
use Rattle.um_measures.specs.UnitNames.{resolved_unit}
use Rattle.um_measures.specs.Variables.{named_variables}
use Rattle.um_names.specs.ExprNames.{resolved_expr}
use Rattle.um_names.specs.Resolution.{resolved_parameters, resolved_params, resolved_record_decl, resolved_result, callables, scope_of, resolved_function}
use Rattle.um_names.specs.Resolution.{with_base, with_short, with_record, with_function, resolved_decl, resolved_decls, resolution, resolved_program}
use Rattle.um_names.proofs.FormedTypes.{then_found}
use Rattle.um_names.proofs.Wholes.{its_name, with_its_name, with_unit_params, with_params, with_result}
use Rattle.um_front.specs.Stages.{ShapedTree, IsShapedText}
use Rattle.um_all_answers.proofs.Powers.{LowPowers, powers}

-- ---- each declared body is one of the grammar

abbrev Body : FunctionSyntax → Type 0
Body f = (tokens rest : List Token) × Spells f.body tokens rest

abbrev DeclBody : DeclSyntax → Type 0
DeclBody (base_syntax at x) = Unit {0}
DeclBody (short_syntax at x u) = Unit {0}
DeclBody (record_decl_syntax at x vs fs) = Unit {0}
DeclBody (function_syntax f) = Body f

abbrev Bodies : List DeclSyntax → Type 0
Bodies [] = Unit {0}
Bodies (d ∷ ds) = DeclBody d × Bodies ds

decl_body : (d : DeclSyntax) (tokens rest : List Token) → DeclSpells d tokens rest → DeclBody d
decl_body (base_syntax at x) tokens rest s = tt
decl_body (short_syntax at x u) tokens rest s = tt
decl_body (record_decl_syntax at x vs fs) tokens rest s = tt
decl_body (function_syntax f) tokens rest s = (s.6, rest, s.14)

bodies : (ds : List DeclSyntax) (tokens rest : List Token) → DeclsSpell ds tokens rest → Bodies ds
bodies [] tokens rest s = tt
bodies (d ∷ ds) tokens rest s = (decl_body d tokens s.0 s.1, bodies ds s.0 rest s.2)

-- ---- and so the powers of what it stands for are low

abbrev pub Low : FunctionTree → Type 0
Low f = LowPowers f.body

function_low : (known : Known) (f : FunctionSyntax) (g : FunctionTree) → Body f → resolved_function known f ≡ Ok g → Low g
function_low known f g h e =
    let a = then_found (its_name known f) (with_its_name known f) g e in
    let u = then_found (resolved_parameters [] f.units) (with_unit_params known f) g a.2 in
    let b = then_found (resolved_params known (named_variables (u.0) f) [] f.params) (with_params known f u.0) g u.2 in
    let c = then_found (resolved_result known (named_variables (u.0) f) f.result) (with_result known f u.0 b.0) g b.2 in
    let d = then_found (resolved_expr known (named_variables (u.0) f) (callables known f) (scope_of f) f.body) (λ body. Ok (record {
      name = f.name;
      at = f.at;
      recursive = f.recursive;
      units = length (u.0);
      params = b.0;
      named = length (named_variables (u.0) f);
      result = c.0;
      body = body;
    })) g c.2 in
    let z : FunctionTree = record {
      name = f.name;
      at = f.at;
      recursive = f.recursive;
      units = length (u.0);
      params = b.0;
      named = length (named_variables (u.0) f);
      result = c.0;
      body = d.0;
    } in
    let same : z ≡ g = cc (d.2) in
    subst Low same (powers known (named_variables (u.0) f) (callables known f) (scope_of f) f.body d.0 h.0 h.1 h.2 d.1)

abbrev KnownLow : Known → Type 0
KnownLow known = All Low known.program.functions

decl_low : (known : Known) (d : DeclSyntax) (after : Known) → KnownLow known → DeclBody d → resolved_decl known d ≡ Ok after → KnownLow after
decl_low known (base_syntax at x) after held h e =
    let w = then_found (unless_taken (is_taken known x) at) (λ _. Ok (with_base known x)) after e in
    let same : with_base known x ≡ after = cc (w.2) in
    subst KnownLow same held
decl_low known (short_syntax at x u) after held h e =
    let w = then_found (unless_taken (is_taken known x) at) (λ _. and_then (resolved_unit (measure_unit known) [] u) (λ v. Ok (with_short known x v))) after e in
    let v = then_found (resolved_unit (measure_unit known) [] u) (λ v. Ok (with_short known x v)) after w.2 in
    let same : with_short known x (v.0) ≡ after = cc (v.2) in
    subst KnownLow same held
decl_low known (record_decl_syntax at x vs fs) after held h e =
    let w = then_found (resolved_record_decl known at x vs fs) (λ d. Ok (with_record known d)) after e in
    let same : with_record known (w.0) ≡ after = cc (w.2) in
    subst KnownLow same held
decl_low known (function_syntax f) after held h e =
    let w = then_found (resolved_function known f) (λ g. Ok (with_function known g)) after e in
    let same : with_function known (w.0) ≡ after = cc (w.2) in
    subst KnownLow same (All-push Low known.program.functions w.0 held (function_low known f w.0 h w.1))

decls_low : (known : Known) (ds : List DeclSyntax) (after : Known) → KnownLow known → Bodies ds → resolved_decls known ds ≡ Ok after → KnownLow after
decls_low known [] after held h e = let same : known ≡ after = cc e in subst KnownLow same held
decls_low known (d ∷ ds) after held h e =
    let w = then_found (resolved_decl known d) (λ k. resolved_decls k ds) after e in
    decls_low w.0 ds after (decl_low known d w.0 held h.0 w.1) h.1 w.2

program_low : (ds : List DeclSyntax) (p : ProgramTree) → Bodies ds → resolved_program ds ≡ Ok p → All Low p.functions
program_low ds p h e =
    let w = then_found (resolution ds) (λ known. Ok known.program) p e in
    let same : (w.0).program ≡ p = cc (w.2) in
    subst (λ (q : ProgramTree). All Low q.functions) same (decls_low nothing ds w.0 (All-nil Low) h w.1)

pub text_low : (bytes : List ℕ) (s : ShapedTree) → IsShapedText bytes s → All Low s.program.functions
text_low bytes s is = program_low is.raw s.program (bodies is.raw is.written.tokens [] is.written.read.is.spelled) is.resolved
