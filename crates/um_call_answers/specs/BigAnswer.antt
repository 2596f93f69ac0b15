-- The answer about a generated program: its last function is called, and four lines tell of it.
-- Source: this project's own.
use Rattle.std.specs.Prelude.{ℕ, ◌-◌, ◌≡◌, ◌==◌, if◌then◌else◌, List, [], ◌∷◌, ◌++◌, map, codes, decimal}
use Rattle.std.specs.Prelude.{slice_get, Option, Some, None}
use Rattle.std.specs.Set.{distinct_count}
use Rattle.std.specs.Str.{bytes_eq}
use Rattle.um_tree.specs.ProgramTree.{FunctionTree, ProgramTree, SchemeTree}
use Rattle.um_show.specs.SchemeText.{scheme_text}
use Rattle.um_call_answers.specs.declared.way.Way.TheVariants as way
use Rattle.um_reports.specs.declared.status.Status.{Status}
use Rattle.um_reports.specs.Numbers.{number_of}
use Rattle.um_front.specs.Stages.{CheckedTree}
use Rattle.um_front.specs.Staged.{OfChecked}
use Rattle.um_call_answers.specs.AskedCall.{AskedCall}
use Rattle.um_call_answers.specs.CallAnswer.{IsCallAnswer}
use Rattle.um_call_answers.specs.BigText.{big_text}
use Rattle.um_reports.specs.Steps.{line}

-- the name of function k
abbrev pub last_name : ℕ → List ℕ
last_name k = codes "g" ++ decimal k

-- the call of function k on one metre and one second
abbrev pub last_call : ℕ → AskedCall
last_call k = record { budget = 10000000; name = last_name k; texts = codes "1<m>" ∷ codes "1<s>" ∷ [] }

-- how many different texts the schemes have, names left out
abbrev pub different_schemes : ProgramTree → List SchemeTree → ℕ
different_schemes p schemes = distinct_count bytes_eq (map (scheme_text p []) schemes)

-- the line of a function with its scheme
abbrev pub scheme_line : ProgramTree → Option FunctionTree → Option SchemeTree → List ℕ
scheme_line p (Some f) (Some s) = line (scheme_text p f.name s)
scheme_line p (Some f) None = []
scheme_line p None s = []

-- how many functions there are, how many different schemes, the scheme of the last function, and the line of its run
abbrev pub big_lines : ℕ → ProgramTree → List SchemeTree → List ℕ → List ℕ
big_lines n p schemes run =
    line (codes "functions " ++ decimal n)
    ++ line (codes "schemes " ++ decimal (different_schemes p schemes))
    ++ (codes "last " ++ scheme_line p (slice_get p.functions (n - 1)) (slice_get schemes (n - 1)))
    ++ (codes "run " ++ run)

-- if the run has a value its line is the last of four, and otherwise it is refused as any other
abbrev pub run_told : ℕ → ProgramTree → List SchemeTree → List ℕ → Status → List ℕ
run_told n p schemes run status = if number_of status == 0 then big_lines n p schemes run else run

-- the last function is run as any other
unfoldable pub IsBigAnswer : ℕ → CheckedTree → List ℕ → Status → Type 0
IsBigAnswer n c text status =
    (run : List ℕ) × IsCallAnswer way.Code (last_call (n - 1)) c run status
    × (text ≡ run_told n c.text.program c.schemes run status)

-- of the program whose text is generated
unfoldable pub BigAnswer : ℕ → List ℕ → Status → Type 0
BigAnswer n text status = OfChecked (IsBigAnswer n) (big_text n) text status
