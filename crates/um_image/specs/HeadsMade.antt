-- Mirrors the code: the heads of a program's first functions.
-- Source: this project's own.
use Rattle.std.specs.Prelude.{◌≡◌, ℕ, List, length, slice_get, Some}
use Rattle.um_tree.specs.ProgramTree.{ProgramTree}
use Rattle.um_verify.specs.ImageTree.{HeadTree}
use Rattle.um_image.specs.ProgramImage.{IsHeadOf}

-- these are the heads of the first n functions
pub record AreHeadsOf (p : ProgramTree) (n : ℕ) (heads : List HeadTree) : Type 0 where
  pub count : length heads ≡ n
  pub heads_of : (i : ℕ) (h : HeadTree) → slice_get heads i ≡ Some h → IsHeadOf p i h
