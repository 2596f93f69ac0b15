-- The pass over the limits of a program, one declaration more; no pass finds a height.
use Rattle.std.proofs.Common.{◌≡◌, ◌≢◌, ℕ, ◌+◌, List, [], ◌∷◌, Bool, true, false, cond, Option, Some, None, refl, sym, ap, subst}
use Rattle.std.specs.Prelude.{nat_lt, length}
use Rattle.um_syntax.specs.declared.token.Token.{Token}
use Rattle.um_tree.specs.RawTree.{DeclSyntax, base_syntax, short_syntax, record_decl_syntax, function_syntax}
use Rattle.um_tree.specs.Heights.{expr_nodes}
use Rattle.um_types.specs.declared.parse.LimitKind.{LimitKind}
use Rattle.um_types.specs.declared.parse.LimitKind.TheVariants as limit
use Rattle.um_parse.specs.ProgramLimits.{most_functions, most_parameters, most_fields, most_unit_parameters, most_nodes, functions_in, name_place, passed_limit, WithinLimits, FirstPassed, PassesAt}
use Rattle.um_parse.specs.Parsed.{IsLarge, LimitAt}

-- what is said of the declarations from here on is said of all, where those before pass no limit
abbrev pub Behind : List DeclSyntax → ℕ → List DeclSyntax → Type 0
Behind all before rest = (WithinLimits before rest → WithinLimits 0 all) × ((kind : LimitKind) (at : ℕ) → PassesAt before rest kind at → PassesAt 0 all kind at)

pub behind_start : (all rest : List DeclSyntax) → rest ≡ all → Behind all 0 rest
behind_start all rest e = ((λ w. subst (λ ds. WithinLimits 0 ds) e w), (λ kind at p. subst (λ ds. PassesAt 0 ds kind at) e p))

-- a declaration that passes no limit
pub behind_one : (all : List DeclSyntax) (before : ℕ) (d : DeclSyntax) (rest : List DeclSyntax) → Behind all before (d ∷ rest) → passed_limit before d ≡ None → Behind all (before + functions_in d) rest
behind_one all before d rest h e = (
  (λ w. h.0 (e, w)),
  (λ kind at p. h.1 kind at (subst (λ o. FirstPassed o (name_place d) kind at (PassesAt (before + functions_in d) rest kind at)) (sym e) p)),
)

-- a declaration that passes one
pub behind_passed : (all : List DeclSyntax) (before : ℕ) (d : DeclSyntax) (rest : List DeclSyntax) (kind : LimitKind) → Behind all before (d ∷ rest) → passed_limit before d ≡ Some kind → PassesAt 0 all kind (name_place d)
behind_passed all before d rest kind h e =
    h.1 kind (name_place d) (subst (λ o. FirstPassed o (name_place d) kind (name_place d) (PassesAt (before + functions_in d) rest kind (name_place d))) (sym e) (refl, refl))

pub behind_end : (all : List DeclSyntax) (before : ℕ) (rest : List DeclSyntax) → Behind all before rest → rest ≡ [] → WithinLimits 0 all
behind_end all before rest h e = h.0 (subst (λ ds. WithinLimits before ds) (sym e) tt)

-- ---- the height isn't looked at

abbrev a_height : Option LimitKind
a_height = Some limit.Height

no_height_if : (test : Bool) (kind : LimitKind) (other : Option LimitKind) → kind ≢ limit.Height → other ≢ a_height → cond test (Some kind) other ≢ a_height
no_height_if true kind other free others e = free cc
no_height_if false kind other free others e = others e

none_passed : (before : ℕ) (d : DeclSyntax) → passed_limit before d ≢ a_height
none_passed before (base_syntax at x) e = cc
none_passed before (short_syntax at x u) e = cc
none_passed before (record_decl_syntax at x vs fs) e =
    no_height_if (nat_lt most_fields (length fs)) limit.Fields (cond (nat_lt most_unit_parameters (length vs)) (Some limit.UnitParameters) None) (λ h. cc)
    (no_height_if (nat_lt most_unit_parameters (length vs)) limit.UnitParameters None (λ h. cc) (λ h. cc)) e
none_passed before (function_syntax f) e =
    let nodes : Option LimitKind = cond (nat_lt most_nodes (expr_nodes f.body)) (Some limit.Nodes) None in
    let units : Option LimitKind = cond (nat_lt most_unit_parameters (length f.units)) (Some limit.UnitParameters) nodes in
    let params : Option LimitKind = cond (nat_lt most_parameters (length f.params)) (Some limit.Parameters) units in
    no_height_if (nat_lt most_functions (before + 1)) limit.Functions params (λ h. cc)
    (
    no_height_if (nat_lt most_parameters (length f.params)) limit.Parameters units (λ h. cc)
    (
    no_height_if (nat_lt most_unit_parameters (length f.units)) limit.UnitParameters nodes (λ h. cc)
    (no_height_if (nat_lt most_nodes (expr_nodes f.body)) limit.Nodes None (λ h. cc) (λ h. cc))
    )
    ) e

first_none : (o : Option LimitKind) (place at : ℕ) (later : Type 0) → o ≢ a_height → (later → ⊥) → FirstPassed o place limit.Height at later → ⊥
first_none (Some kind) place at later free others p = free (ap (λ k. Some k) (sym p.0))
first_none None place at later free others p = others p

no_height : (ds : List DeclSyntax) (before at : ℕ) → PassesAt before ds limit.Height at → ⊥
no_height [] before at p = p
no_height (d ∷ ds) before at p = first_none (passed_limit before d) (name_place d) at (PassesAt (before + functions_in d) ds limit.Height at) (none_passed before d) (λ q. no_height ds (before + functions_in d) at q) p

pub large_at : (tokens : List Token) (end : ℕ) (kind : LimitKind) (at : ℕ) → IsLarge tokens kind at → LimitAt tokens end kind at
large_at tokens end limit.Height at l = absurd (no_height l.ds 0 at l.passes)
large_at tokens end limit.Functions at l = l
large_at tokens end limit.Parameters at l = l
large_at tokens end limit.Fields at l = l
large_at tokens end limit.UnitParameters at l = l
large_at tokens end limit.Nodes at l = l
large_at tokens end limit.Depth at l = l
large_at tokens end limit.Slots at l = l
