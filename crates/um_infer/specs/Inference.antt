-- The inference of a program: the schemes of its functions, or its first function without one.
-- Source: Kennedy (1996): functions are taken in order, each with the schemes of those before it. The limit of slots
-- and the range of powers are this project's own.
use Rattle.std.specs.Prelude.{ℕ, zero, suc, List, [], ◌∷◌, ◌++◌, length, Option, Some, None, slice_get}
use Rattle.um_tree.specs.ProgramTree.{RecordTree, FunctionTree, ProgramTree, SchemeTree}
use Rattle.um_rows.specs.Judgement.{Judgement, has_scheme, too_many_slots, passes_range, has_no_typing, not_general}
use Rattle.um_rows.specs.Judgement.{judge}

-- what functions, taken in order, come to
pub data Inference : Type 0 where
  -- each has its scheme
  all_schemes : List SchemeTree → Inference
  -- the function of this number is the first without one: it has too many slots,
  stops_at_slots : ℕ → Inference
  -- or a power passes the range at the place,
  stops_at_range : ℕ → ℕ → Inference
  -- or it has no typing: the number of its first unsolvable row, counted from 0, and its place. No units satisfy the
  -- rows up to it,
  stops_at_units : ℕ → ℕ → ℕ → Inference
  -- or some do, but none where each unit parameter is a unit of its own
  stops_at_not_general : ℕ → ℕ → ℕ → Inference

-- the schemes before function i, and what it is judged
abbrev pub with_judgement : List SchemeTree → ℕ → Judgement → Inference
with_judgement schemes i (has_scheme s) = all_schemes (schemes ++ s ∷ [])
with_judgement schemes i too_many_slots = stops_at_slots i
with_judgement schemes i (passes_range at) = stops_at_range i at
with_judgement schemes i (has_no_typing row at) = stops_at_units i row at
with_judgement schemes i (not_general row at) = stops_at_not_general i row at

abbrev pub with_function : ℕ → List RecordTree → List SchemeTree → ℕ → Option FunctionTree → Inference
with_function bases records schemes i (Some f) = with_judgement schemes i (judge bases records schemes i f)
with_function bases records schemes i None = all_schemes schemes

-- where the functions before stop, nothing comes after
abbrev pub and_then : Inference → (List SchemeTree → Inference) → Inference
and_then (all_schemes schemes) next = next schemes
and_then (stops_at_slots i) next = stops_at_slots i
and_then (stops_at_range i at) next = stops_at_range i at
and_then (stops_at_units i row at) next = stops_at_units i row at
and_then (stops_at_not_general i row at) next = stops_at_not_general i row at

-- the first n functions: those before the last, and then it
abbrev pub infer_first : ProgramTree → ℕ → Inference
infer_first p zero = all_schemes []
infer_first p (suc n) =
    and_then (infer_first p n) (λ schemes. with_function (length p.bases) p.records schemes n (slice_get p.functions n))

-- all functions
abbrev pub infer : ProgramTree → Inference
infer p = infer_first p (length p.functions)
