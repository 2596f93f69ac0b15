-- What schemes of a program's first functions promise, and what it is to be its first function without a typing.
-- Source: Kennedy (1996): the instances of a function's principal scheme are exactly its typings.
use Rattle.std.specs.Prelude.{◌≡◌, ℕ, ◌<◌, List, length, Some, slice_get}
use Rattle.um_tree.specs.ProgramTree.{FunctionTree, ProgramTree, Signature, SchemeTree}
use Rattle.um_tree.specs.Typing.{Typing}
use Rattle.um_tree.specs.Scheme.{IsPrincipal, IsNumberedScheme}
use Rattle.um_rows.specs.Laws.{IsFirstRow, AreSolvableUpTo}
use Rattle.um_rows.specs.Judgement.{Judgement, judge}
use Rattle.um_infer.specs.Inference.{all_schemes, infer_first}

-- a scheme for each of the first n functions, in order: its instances are exactly the function's typings, and it is
-- numbered
pub record ArePrincipal (p : ProgramTree) (n : ℕ) (schemes : List SchemeTree) : Type 0 where
  pub count : length schemes ≡ n
  pub principal : (i : ℕ) (s : SchemeTree) → slice_get schemes i ≡ Some s → IsPrincipal p i s
  pub numbered : (i : ℕ) (s : SchemeTree) → slice_get schemes i ≡ Some s → IsNumberedScheme s

-- each of the first n functions has a typing
abbrev pub AreTyped : ProgramTree → ℕ → Type 0
AreTyped p n = (i : ℕ) → i < n → (g : Signature) × Typing p i g

-- function i is the first without a typing. Given the principal schemes of those before it, the row of this number is
-- the first unsolvable one of its equations, and stands at the place
pub record IsFirstUntyped (p : ProgramTree) (i row at : ℕ) : Type 0 where
  pub function : FunctionTree
  pub declared : slice_get p.functions i ≡ Some function
  pub typed_before : AreTyped p i
  pub untyped : (g : Signature) → Typing p i g → ⊥
  pub schemes : List SchemeTree
  pub principal : ArePrincipal p i schemes
  pub first_row : IsFirstRow p schemes i function row at

-- no units satisfy the rows up to that one
abbrev pub IsFirstWithoutUnits : ProgramTree → ℕ → ℕ → ℕ → Type 0
IsFirstWithoutUnits p i row at =
    (h : IsFirstUntyped p i row at) × (AreSolvableUpTo p h.schemes i h.function row → ⊥)

-- some units do, but none where each unit parameter is a unit of its own
abbrev pub IsFirstNotGeneral : ProgramTree → ℕ → ℕ → ℕ → Type 0
IsFirstNotGeneral p i row at = (h : IsFirstUntyped p i row at) × AreSolvableUpTo p h.schemes i h.function row

-- all functions before function i have schemes, and given these it is judged so
pub record IsJudged (p : ProgramTree) (i : ℕ) (judgement : Judgement) : Type 0 where
  pub function : FunctionTree
  pub declared : slice_get p.functions i ≡ Some function
  pub schemes : List SchemeTree
  pub before : infer_first p i ≡ all_schemes schemes
  pub judged : judge (length p.bases) p.records schemes i function ≡ judgement
