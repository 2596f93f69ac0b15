-- What is read from a text of at most 1,048,576 characters is readable.
use Rattle.std.proofs.Common.{◌≡◌, ℕ, ◌+◌, ◌<◌, ◌≤◌, max, Bool, true, false, IsTrue, IsSome, List, [], ◌∷◌, length, Option, Some, None, refl, arith}
use Rattle.um_syntax.specs.declared.token.Token.{Token}
use Rattle.um_syntax.specs.Lexing.{HasTokens}
use Rattle.um_tree.specs.Formed.{IsNameBytes}
use Rattle.um_tree.specs.RawTree.{TypeSyntax, FieldDeclSyntax, ParamSyntax, DeclSyntax, base_syntax, short_syntax, record_decl_syntax, function_syntax}
use Rattle.um_tree.specs.Heights.{greatest_height, expr_height}
use Rattle.um_types.specs.TypeHeights.{whole_height}
use Rattle.um_parse.specs.DeclGrammar.{FieldDeclsSpell, DeclSpells, DeclsSpell, ResultFits, DeclFits, DeclsFit}
use Rattle.um_decls.specs.DeclHeights.{fields_height, params_height, result_height}
use Rattle.um_parse.specs.ProgramHeights.{decl_height, program_height}
use Rattle.um_operands.specs.ExprHeights.{notes_in, whole_expr_height}
use Rattle.um_parse.specs.ProgramLimits.{functions_in as functions_among, passed_limit, WithinLimits}
use Rattle.um_parse.specs.Parsed.{IsRead}
use Rattle.um_names.specs.Readable.{AreReadFieldDecls, AreReadParams, IsReadResult, IsReadDecl, AreReadDecls, IsReadable}
use Rattle.um_syntax.proofs.TokenCounts.{tokens_within}
use Rattle.um_front.proofs.NameTokens.{tokens_named}
use Rattle.um_front.proofs.DeclReading.{few_decls}
use Rattle.um_front.proofs.DeclNames.{FieldsNamed, DeclNamed, DeclsNamed, decls_named}
use Rattle.um_front.proofs.ExprReadable.{left_low, right_low, type_low, expr_readable}
use Rattle.um_front.proofs.LimitCounts.{record_limits, function_limits, few_functions}

some_field : (fs : List FieldDeclSyntax) (tokens rest : List Token) → FieldDeclsSpell fs tokens rest → 0 < length fs
some_field [] tokens rest s = absurd s
some_field (f ∷ fs) tokens rest s = omega arith

fields_readable : (fs : List FieldDeclSyntax) → FieldsNamed IsNameBytes fs → fields_height fs ≤ greatest_height → AreReadFieldDecls fs
fields_readable [] named low = tt
fields_readable (f ∷ fs) named low =
    (named.0, type_low f.type (left_low (whole_height f.type) (fields_height fs) low), fields_readable fs named.1 (right_low (whole_height f.type) (fields_height fs) low))

params_readable : (ps : List ParamSyntax) → params_height ps ≤ greatest_height → AreReadParams ps
params_readable [] low = tt
params_readable (p ∷ ps) low =
    (type_low p.type (left_low (whole_height p.type) (params_height ps) low), params_readable ps (right_low (whole_height p.type) (params_height ps) low))

result_readable : (r : Option TypeSyntax) → result_height r ≤ greatest_height → IsReadResult r
result_readable None low = tt
result_readable (Some t) low = type_low t low

-- a function with `rec` has a result type
noted : (recursive : Bool) (r : Option TypeSyntax) → ResultFits recursive r → IsTrue recursive → IsSome r
noted true None fits is = absurd cc
noted false None fits is = absurd cc
noted recursive (Some t) fits is = refl

decl_readable : (d : DeclSyntax) (before : ℕ) (tokens rest : List Token) → DeclSpells d tokens rest → DeclFits d → DeclNamed IsNameBytes d → decl_height d ≤ greatest_height → passed_limit before d ≡ None → IsReadDecl d
decl_readable (base_syntax at x) before tokens rest s fits named low small = named
decl_readable (short_syntax at x u) before tokens rest s fits named low small = named
decl_readable (record_decl_syntax at x vs fs) before tokens rest s fits named low small =
    let few = record_limits before at x vs fs small in record {
      name = named.0;
      few_units = few.1;
      some_field = some_field fs s.4 s.5 s.11;
      few_fields = few.0;
      fields = fields_readable fs named.1 low;
    }
decl_readable (function_syntax f) before tokens rest s fits named low small =
    let few = function_limits before f small in
    let behind = right_low (params_height f.params) (max (result_height f.result) (whole_expr_height f.body)) low in
    let body = right_low (result_height f.result) (whole_expr_height f.body) behind in record {
      name = named;
      few_units = few.2;
      few_params = few.1;
      params = params_readable f.params (left_low (params_height f.params) (max (result_height f.result) (whole_expr_height f.body)) low);
      result = result_readable f.result (left_low (result_height f.result) (whole_expr_height f.body) behind);
      noted = noted f.recursive f.result fits.1;
      body = expr_readable f.body s.6 rest s.14 (right_low (expr_height f.body) (notes_in f.body) body);
      height = left_low (expr_height f.body) (notes_in f.body) body;
      nodes = few.3;
    }

decls_readable : (ds : List DeclSyntax) (before : ℕ) (tokens rest : List Token) → DeclsSpell ds tokens rest → DeclsFit ds → DeclsNamed IsNameBytes ds → program_height ds ≤ greatest_height → WithinLimits before ds → AreReadDecls ds
decls_readable [] before tokens rest s fits named low small = tt
decls_readable (d ∷ ds) before tokens rest s fits named low small = (
  decl_readable d before tokens s.0 s.1 fits.0 named.0 (left_low (decl_height d) (program_height ds) low) small.0,
  decls_readable ds (before + functions_among d) s.0 rest s.2 fits.1 named.1 (right_low (decl_height d) (program_height ds) low) small.1,
)

pub readable : (cs : List ℕ) (tokens : List Token) (ds : List DeclSyntax) → HasTokens cs tokens → length cs ≤ 1048576 → IsRead tokens ds → IsReadable ds
readable cs tokens ds lexed short read =
    let within = tokens_within cs tokens lexed in
    let few = few_decls ds tokens [] read.is.spelled read.is.fits in
    let named = decls_named IsNameBytes ds tokens [] read.is.spelled read.is.fits (tokens_named cs tokens lexed) in record {
      few = omega (arith, within, few, short);
      few_functions = few_functions ds read.small;
      each = decls_readable ds 0 tokens [] read.is.spelled read.is.fits named read.low read.small;
    }
