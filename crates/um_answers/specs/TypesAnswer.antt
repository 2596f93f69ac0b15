-- The answer to `types`: a line for each function, with its scheme.
-- Source: this project's own texts; schemes are Kennedy's (1996).
use Rattle.std.specs.Prelude.{ℕ, List, [], ◌∷◌, ◌++◌}
use Rattle.um_tree.specs.ProgramTree.{FunctionTree, ProgramTree, SchemeTree}
use Rattle.um_show.specs.SchemeText.{scheme_text}
use Rattle.um_reports.specs.declared.status.Status.{Status}
use Rattle.um_reports.specs.declared.status.Status.TheVariants.{Done}
use Rattle.um_reports.specs.Steps.{line, IsReply}
use Rattle.um_front.specs.Stages.{CheckedTree}
use Rattle.um_front.specs.Staged.{OfChecked}

-- a line for each function, with its name and its scheme, in order
abbrev pub scheme_lines : ProgramTree → List FunctionTree → List SchemeTree → List ℕ
scheme_lines p (f ∷ fs) (s ∷ schemes) = line (scheme_text p f.name s) ++ scheme_lines p fs schemes
scheme_lines p [] schemes = []
scheme_lines p (f ∷ fs) [] = []

abbrev pub IsSchemeList : CheckedTree → List ℕ → Status → Type 0
IsSchemeList c text status = IsReply text status (scheme_lines c.text.program c.text.program.functions c.schemes) Done

-- of a text's program
unfoldable pub TypesAnswer : List ℕ → List ℕ → Status → Type 0
TypesAnswer bytes text status = OfChecked IsSchemeList bytes text status
