-- What solved the function that comes next, while the functions before it have changed.
use Rattle.std.proofs.Common.{◌≡◌, ℕ, ◌+◌, ◌<◌, List, ◌∷◌, length, drop, get_or, Some, sym, ap, ◌∙◌, arith}
use Rattle.std.proofs.lemmas.List.{drop_more}
use Rattle.std.proofs.lemmas.Option.{slice_get-get_or}
use Rattle.um_tree.specs.ProgramTree.{ProgramTree, SchemeTree}
use Rattle.um_infer.specs.declared.solved.SolvedFunction.{SolvedFunction}
use Rattle.um_infer.specs.SolvedPrograms.{IsSolvedAt, AreSolvedFunctions}

same_next : (xs ys : List SolvedFunction) (i : ℕ) (d : SolvedFunction) → i < length xs → i < length ys → drop i xs ≡ drop i ys → get_or xs i d ≡ get_or ys i d
same_next xs ys i d below inside h = let both : get_or xs i d ∷ drop (i + 1) xs ≡ get_or ys i d ∷ drop (i + 1) ys = sym (drop_more xs i d below) ∙ h ∙ drop_more ys i d inside in cc both

pub solved_here : (p : ProgramTree) (schemes : List SchemeTree) (all now : List SolvedFunction) (i : ℕ) (one : SolvedFunction) → AreSolvedFunctions p schemes (length p.functions) all → drop i now ≡ drop i all → length now ≡ length p.functions →
    i < length p.functions → one ≡ get_or now i one → IsSolvedAt p schemes i one
solved_here p schemes all now i one solved left long below is =
    let below_now : i < length now = omega (arith, below, long) in
    let inside : i < length all = omega (arith, below, solved.0) in
    solved.1 i one (slice_get-get_or all i one inside ∙ ap Some (sym (is ∙ same_next now all i one below_now inside left)))
