-- What forming a function's scheme answers, against its judgement. Want of memory may come in place of every answer.
-- Source: this project's own.
use Rattle.std.specs.Prelude.{◌≡◌, Result, Ok, Err}
use Rattle.um_tree.specs.declared.program.Scheme.{Scheme}
use Rattle.um_tree.specs.ProgramTree.{scheme_tree}
use Rattle.um_rows.specs.Judgement.{Judgement, has_scheme}
use Rattle.um_solving.specs.declared.refusal.Refusal.{Refusal}
use Rattle.um_solving.specs.Solving.{IsRefusal}

-- a function's scheme is its judgement, and so is its refusal
abbrev pub IsAnswer : Judgement → Result Scheme Refusal → Type 0
IsAnswer j (Ok s) = j ≡ has_scheme (scheme_tree s)
IsAnswer j (Err r) = IsRefusal j r
