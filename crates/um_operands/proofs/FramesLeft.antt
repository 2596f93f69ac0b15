-- The frames that are left once those that need no token to end have ended.
-- Published: crates above use it.
use Rattle.std.proofs.Common.{◌≡◌, ℕ, ◌+◌, ◌-◌, ◌<◌, ◌≤◌, Bool, true, false, cond, nat_lt, List, [], ◌∷◌, length, take, map, reverse, get_or, refl, sym, ap, subst, ◌∙◌, arith}
use Rattle.std.proofs.lemmas.List.{take_more, reverse-append}
use Rattle.um_tree.specs.RawTree.{ExprSyntax}
use Rattle.um_operands.specs.declared.frame.Entry.{Entry}
use Rattle.um_operands.specs.ExprBegun.{Frame, Have, own_rank, plug, reduce}
use Rattle.um_operands.specs.ExprFrames.{entry_frame, stack}
use Rattle.um_operands.specs.Standing.{left}

-- what is left has something in it
reduced_by : (limit : ℕ) (frame : Frame) (frames : List Frame) (t : ExprSyntax) (b : Bool)
    → ((u : ExprSyntax) × (reduce limit frames (plug frame t) ≡ Have (left limit frames) u))
    → (u : ExprSyntax) × (cond b (Have (frame ∷ frames) t) (reduce limit frames (plug frame t)) ≡ Have (cond b (frame ∷ frames) (left limit frames)) u)
reduced_by limit frame frames t true further = (t, refl)
reduced_by limit frame frames t false further = further

pub reduced : (limit : ℕ) (frames : List Frame) (t : ExprSyntax) → (u : ExprSyntax) × (reduce limit frames t ≡ Have (left limit frames) u)
reduced limit [] t = (t, refl)
reduced limit (frame ∷ frames) t = reduced_by limit frame frames t (nat_lt limit (own_rank frame)) (reduced limit frames (plug frame t))

stack_more : (entries : List Entry) (k : ℕ) (d : Entry) → k < length entries → stack (take (k + 1) entries) ≡ entry_frame (get_or entries k d) ∷ stack (take k entries)
stack_more entries k d lt =
    ap stack (take_more entries k d lt) ∙ ap (map entry_frame) (reverse-append (take k entries) (get_or entries k d ∷ []))

-- the innermost of the first k is entry k - 1
pub innermost : (entries : List Entry) (k : ℕ) (e : Entry) → 0 < k → k ≤ length entries → e ≡ get_or entries (k - 1) e → stack (take k entries) ≡ entry_frame e ∷ stack (take (k - 1) entries)
innermost entries k e some within is =
    let below : k - 1 < length entries = omega (arith, some, within) in
    let same : k - 1 + 1 ≡ k = omega (arith, some) in
    subst (λ n. stack (take n entries) ≡ entry_frame (get_or entries (k - 1) e) ∷ stack (take (k - 1) entries)) same (stack_more entries (k - 1) e below)
    ∙ ap (λ f. entry_frame f ∷ stack (take (k - 1) entries)) (sym is)
