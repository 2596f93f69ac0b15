-- Where an evaluation stops: a node, and the calls that are open there.
-- Source: this project's own.
use Rattle.std.specs.Prelude.{ℕ, List, [], ◌∷◌, ◌++◌}
use Rattle.um_tree.specs.ValueTree.{ValueTree}
use Rattle.um_tree.specs.Meaning.{Stop}

-- a node of a program: the function in whose body it stands, and its place in the text
pub record Spot : Type 0 where
  pub function : ℕ
  pub at : ℕ

-- why there is no value, the node that has none, the values of its parts, and the calls that are open, the innermost
-- first
pub record Trace : Type 0 where
  pub why : Stop
  pub node : Spot
  pub operands : List ValueTree
  pub calls : List Spot

-- at this node, on these values, with no call open
abbrev pub stop_at : Spot → Stop → List ValueTree → Trace
stop_at node why operands = record { why = why; node = node; operands = operands; calls = [] }

-- the same inside one more call, the outermost
abbrev pub inside_call : Spot → Trace → Trace
inside_call call t = record { why = t.why; node = t.node; operands = t.operands; calls = t.calls ++ call ∷ [] }
