-- The schemes of a program, as the code holds them.
use Rattle.std.proofs.Common.{◌≡◌, ℕ, zero, suc, ◌<◌, List, [], ◌∷◌, length, map, get_or, slice_get, Some, sym, ap, ◌∙◌, arith}
use Rattle.std.proofs.lemmas.List.{length-map}
use Rattle.um_tree.specs.declared.program.Scheme.{Scheme}
use Rattle.um_tree.specs.ProgramTree.{ProgramTree, FunctionTree, SchemeTree, scheme_tree}
use Rattle.um_tree.specs.Formed.{IsFormed}
use Rattle.um_infer.specs.Inference.{all_schemes, infer}
use Rattle.um_infer.proofs.SchemeLists.{item_at}
use Rattle.um_infer.proofs.InferenceLaws.{given_schemes_are_principal}

pub as_many_schemes : (p : ProgramTree) (schemes : List Scheme) → IsFormed p → infer p ≡ all_schemes (map scheme_tree schemes) → length schemes ≡ length p.functions
as_many_schemes p schemes formed inferred =
    let given = given_schemes_are_principal p formed (map scheme_tree schemes) inferred in
    sym (length-map schemes scheme_tree) ∙ given.count

pub scheme_at : (schemes : List Scheme) (k : ℕ) (s : Scheme) → k < length schemes → s ≡ get_or schemes k s → slice_get (map scheme_tree schemes) k ≡ Some (scheme_tree s)
scheme_at [] k s below is = absurd (omega (arith, below))
scheme_at (x ∷ schemes) zero s below is = ap (λ y. Some (scheme_tree y)) (sym is)
scheme_at (x ∷ schemes) (suc k) s below is = scheme_at schemes k s (omega (arith, below)) is

-- a function of the program, and its scheme
pub both_at : (p : ProgramTree) (schemes : List Scheme) → IsFormed p → infer p ≡ all_schemes (map scheme_tree schemes) → (i : ℕ) → i < length p.functions → (f : FunctionTree) × (s : SchemeTree) × (slice_get p.functions i ≡ Some f) × (slice_get (map scheme_tree schemes) i ≡ Some s)
both_at p schemes formed inferred i inside =
    let count = as_many_schemes p schemes formed inferred in
    let same = length-map schemes scheme_tree in
    let f = item_at p.functions i inside in
    let s = item_at (map scheme_tree schemes) i (omega (arith, count, same, inside)) in
    (f.0, s.0, f.1, s.1)
