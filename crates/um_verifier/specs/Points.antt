-- What is passed on from a program point. This mirrors the code.
-- Source: this project's own.
use Rattle.std.specs.Prelude.{◌≡◌, List}
use Rattle.um_machine.specs.declared.op.Op.{Op}
use Rattle.um_machine.specs.declared.code.Code.{Code}
use Rattle.um_verify.specs.StackShape.{StackShape}
use Rattle.um_verify.specs.Rules as rules
use Rattle.um_verify.specs.Rules.{Body, rule}
use Rattle.um_stacks.specs.Stacks.{shapes_at}
use Rattle.um_verifier.specs.KnownImages.{known_heights, known_view, lowered}
use Rattle.um_verifier.specs.Tables.{flow_of}
use Rattle.um_verifier.specs.declared.point.Point.{Point}
use Rattle.um_verifier.specs.declared.table.Flow.{Flow}

-- the shapes of the stack that arrives
abbrev pub arriving : Point → List StackShape
arriving p = shapes_at p.stacks.now p.stack

-- what the rule of the instruction passes on at the point, as part of this code and body
abbrev pub rule_at : Point → Code → Body → Op → rules.Flow
rule_at p code body op = rule (known_view p.known.now code) body p.at (arriving p) op

-- the code gives this flow if its states are low, and otherwise a failure
abbrev pub PassesOn : Point → Flow → rules.Flow → Type 0
PassesOn p given flow = flow_of p.stacks.now given ≡ lowered (known_heights p.known.now) flow
