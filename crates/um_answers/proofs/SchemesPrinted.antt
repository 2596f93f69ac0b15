-- The lines of schemes, one more line at a time.
use Rattle.std.proofs.Common.{◌≡◌, List, [], ◌∷◌, ◌++◌, length, sym, ap, ◌∙◌, append_assoc, arith}
use Rattle.std.proofs.lemmas.List.{append-nil}
use Rattle.um_tree.specs.ProgramTree.{FunctionTree, ProgramTree, SchemeTree}
use Rattle.um_show.specs.SchemeText.{scheme_text}
use Rattle.um_reports.specs.Steps.{line}
use Rattle.um_answers.specs.TypesAnswer.{scheme_lines}

pub one_more_line : (p : ProgramTree) (fs : List FunctionTree) (ss : List SchemeTree) (f : FunctionTree) (s : SchemeTree) → length fs ≡ length ss → scheme_lines p (fs ++ f ∷ []) (ss ++ s ∷ []) ≡ scheme_lines p fs ss ++ line (scheme_text p f.name s)
one_more_line p [] [] f s same = append-nil (line (scheme_text p f.name s))
one_more_line p [] (t ∷ ss) f s same = absurd (omega (arith, same))
one_more_line p (g ∷ fs) [] f s same = absurd (omega (arith, same))
one_more_line p (g ∷ fs) (t ∷ ss) f s same =
    let rest : length fs ≡ length ss = omega (arith, same) in
    ap (λ l. line (scheme_text p g.name t) ++ l) (one_more_line p fs ss f s rest)
    ∙ sym (append_assoc (line (scheme_text p g.name t)) (scheme_lines p fs ss) (line (scheme_text p f.name s)))
