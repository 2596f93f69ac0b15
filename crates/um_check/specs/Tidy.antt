-- What is promised of the certificates that are made, beside their validity: they list rows in order, each at most
-- once, and their units hold declared base units alone.
-- Source: this project's own.
use Rattle.std.specs.Prelude.{◌≢◌, ℕ, ◌+◌, ◌<◌, ◌≤◌, All, List, [], ◌∷◌, length, pos}
use Rattle.um_tree.specs.Formed.{BasesBelow}
use Rattle.um_check.specs.declared.certificate.Part.{Part}
use Rattle.um_check.specs.declared.certificate.Yes.{Yes}
use Rattle.um_check.specs.declared.certificate.No.{No}

-- each part's row comes before those of the parts after it
abbrev pub AreInOrder : List Part → Type 0
AreInOrder [] = Unit {0}
AreInOrder (p ∷ ps) = All (λ q. p.row < q.row) ps × AreInOrder ps

-- the parts come in the order of their rows, each row at most once, none to the power 0, and no more of them than a
-- checker takes
pub record AreTidyParts (parts : List Part) : Type 0 where
  pub ordered : AreInOrder parts
  pub powers : All (λ p. p.times ≢ pos 0) parts
  pub few : length parts ≤ 4294967295

-- all parts are tidy, and the units hold declared base units alone. Those of `rigid` may hold base units of unit
-- parameters too, which come after the declared ones
pub record IsTidyYes (bases parameters : ℕ) (c : Yes) : Type 0 where
  pub parts : All AreTidyParts c.parts
  pub solution : All (BasesBelow bases) c.solution
  pub back : All (BasesBelow bases) c.back
  pub rigid : All (BasesBelow (bases + parameters)) c.rigid

abbrev pub IsTidyNo : No → Type 0
IsTidyNo c = AreTidyParts c.parts
