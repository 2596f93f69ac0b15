-- Stacks after more were made.
use Rattle.std.proofs.Common.{◌≡◌, sym, ap, ◌∙◌, ℕ, ◌+◌, ◌<◌, ◌≤◌, List, [], ◌++◌, length, arith, append_assoc, append-nil, length-append}
use Rattle.std.proofs.lemmas.List.{get_or_append_left}
use Rattle.um_stacks.specs.declared.flat.FlatShape.{FlatShape}
use Rattle.um_stacks.specs.Stacks.{stack_at, Grows}

pub stack_stays : (old new : List (List FlatShape)) (k : ℕ) → Grows old new → k < length old → stack_at new k ≡ stack_at old k
stack_stays old new k g h = ap (λ (s : List (List FlatShape)). stack_at s k) g.1 ∙ get_or_append_left old g.0 [] k h

pub more_stacks : (old new : List (List FlatShape)) → Grows old new → length old ≤ length new
more_stacks old new g =
    let l : length new ≡ length (old ++ g.0) = ap (λ (s : List (List FlatShape)). length s) g.1 in
    let n : length (old ++ g.0) ≡ length old + length g.0 = length-append old g.0 in
    omega arith

pub grows_none : (s : List (List FlatShape)) → Grows s s
grows_none s = ([], sym (append-nil s))

pub grows_on : (a b d : List (List FlatShape)) → Grows a b → Grows b d → Grows a d
grows_on a b d g h = (g.0 ++ h.0, h.1 ∙ ap (λ (s : List (List FlatShape)). s ++ h.0) g.1 ∙ append_assoc a g.0 h.0)
