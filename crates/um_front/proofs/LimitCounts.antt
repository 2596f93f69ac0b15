-- The counts of a program within the limits.
use Rattle.std.proofs.Common.{◌≡◌, ℕ, ◌+◌, ◌≤◌, Bool, true, false, cond, nat_lt, ltb-false, List, [], ◌∷◌, length, Option, Some, None, refl, arith}
use Rattle.um_tree.specs.RawTree.{VarSyntax, FieldDeclSyntax, FunctionSyntax, DeclSyntax, base_syntax, short_syntax, record_decl_syntax, function_syntax}
use Rattle.um_tree.specs.Heights.{expr_nodes}
use Rattle.um_types.specs.declared.parse.LimitKind.{LimitKind}
use Rattle.um_types.specs.declared.parse.LimitKind.TheVariants as limit
use Rattle.um_parse.specs.ProgramLimits.{passed_limit, WithinLimits}
use Rattle.um_names.specs.Readable.{functions_in}

not_passed : (passed : Bool) (kind : LimitKind) (others : Option LimitKind) → cond passed (Some kind) others ≡ None → (passed ≡ false) × (others ≡ None)
not_passed true kind others e = absurd cc
not_passed false kind others e = (refl, e)

pub record_limits : (before at : ℕ) (x : List ℕ) (vs : List VarSyntax) (fs : List FieldDeclSyntax) → passed_limit before (record_decl_syntax at x vs fs) ≡ None → (length fs ≤ 32) × (length vs ≤ 4)
record_limits before at x vs fs e =
    let fields = not_passed (nat_lt 32 (length fs)) limit.Fields (cond (nat_lt 4 (length vs)) (Some limit.UnitParameters) None) e in
    let units = not_passed (nat_lt 4 (length vs)) limit.UnitParameters None fields.1 in
    (ltb-false 32 (length fs) fields.0, ltb-false 4 (length vs) units.0)

pub function_limits : (before : ℕ) (f : FunctionSyntax) → passed_limit before (function_syntax f) ≡ None → (before + 1 ≤ 2000) × (length f.params ≤ 16) × (length f.units ≤ 4) × (expr_nodes f.body ≤ 20000)
function_limits before f e =
    let many_nodes : Option LimitKind = cond (nat_lt 20000 (expr_nodes f.body)) (Some limit.Nodes) None in
    let many_units : Option LimitKind = cond (nat_lt 4 (length f.units)) (Some limit.UnitParameters) many_nodes in
    let functions = not_passed (nat_lt 2000 (before + 1)) limit.Functions (cond (nat_lt 16 (length f.params)) (Some limit.Parameters) many_units) e in
    let parameters = not_passed (nat_lt 16 (length f.params)) limit.Parameters many_units functions.1 in
    let units = not_passed (nat_lt 4 (length f.units)) limit.UnitParameters many_nodes parameters.1 in
    let nodes = not_passed (nat_lt 20000 (expr_nodes f.body)) limit.Nodes None units.1 in (
      ltb-false 2000 (before + 1) functions.0,
      ltb-false 16 (length f.params) parameters.0,
      ltb-false 4 (length f.units) units.0,
      ltb-false 20000 (expr_nodes f.body) nodes.0,
    )

-- with those before
functions_within : (ds : List DeclSyntax) (before : ℕ) → before ≤ 2000 → WithinLimits before ds → before + functions_in ds ≤ 2000
functions_within [] before few small = omega (arith, few)
functions_within (base_syntax at x ∷ ds) before few small = let more = functions_within ds (before + 0) (omega (arith, few)) small.1 in omega (arith, more)
functions_within (short_syntax at x u ∷ ds) before few small = let more = functions_within ds (before + 0) (omega (arith, few)) small.1 in omega (arith, more)
functions_within (record_decl_syntax at x vs fs ∷ ds) before few small = let more = functions_within ds (before + 0) (omega (arith, few)) small.1 in omega (arith, more)
functions_within (function_syntax f ∷ ds) before few small =
    let more = functions_within ds (before + 1) (function_limits before f small.0).0 small.1 in
    omega (arith, more)

pub few_functions : (ds : List DeclSyntax) → WithinLimits 0 ds → functions_in ds ≤ 2000
few_functions ds small = let few = functions_within ds 0 (omega arith) small in omega (arith, few)
