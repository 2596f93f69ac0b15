-- What the pass over the limits of a program finds.
-- Source: this project's own.
use Rattle.std.specs.Prelude.{List, Option, Some, None}
use Rattle.um_tree.specs.RawTree.{DeclSyntax}
use Rattle.um_parse.specs.ProgramLimits.{WithinLimits, PassesAt}
use Rattle.um_parse.specs.declared.limits.Passed.{Passed}

-- nothing if the program is within its limits; otherwise the first that it passes
abbrev pub LimitPassed : List DeclSyntax → Option Passed → Type 0
LimitPassed ds None = WithinLimits 0 ds
LimitPassed ds (Some p) = PassesAt 0 ds p.kind p.at
