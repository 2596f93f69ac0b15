-- Agreements: where a typing rule asks two types to be equal, and the rows that say so.
-- Source: Kennedy (1996): two types unify if their units do. What an agreement is called is this project's own.
use Rattle.std.specs.Prelude.{ℕ, List}
use Rattle.um_tree.specs.TypeTree.{TypeTree}
use Rattle.um_equal_types.specs.declared.row.Row.{Row}
use Rattle.um_equal_types.specs.Steps.{Step, rows_of}
use Rattle.um_equal_types.specs.Against.{against}
use Rattle.um_agree.specs.declared.rule.Rule.{Rule}

-- who asks for it, and two types over slots, as they are formed at the node at this place
pub record Agreement : Type 0 where
  pub rule : Rule
  pub at : ℕ
  pub first : TypeTree
  pub second : TypeTree

-- what is asked: the rows of the first type against the second
abbrev pub agreement_steps : Agreement → List Step
agreement_steps a = against a.at a.first a.second

abbrev pub agreement_rows : Agreement → List Row
agreement_rows a = rows_of (agreement_steps a)
