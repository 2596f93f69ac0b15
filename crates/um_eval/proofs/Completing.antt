-- What frames make of an outcome and of traces: a stop passes through them all, and nothing changes where words keep their
-- values.
use Rattle.std.proofs.Common.{◌≡◌, ◌-◌, ℕ, List, [], ◌∷◌, length, take, drop, inl, inr, refl}
use Rattle.std.specs.Prelude.{◌⊎◌}
use Rattle.um_tree.specs.ValueTree.{ValueTree}
use Rattle.um_tree.specs.ProgramTree.{FunctionTree}
use Rattle.um_tree.specs.Meaning.{Stop, Out, stops}
use Rattle.um_eval.specs.Traces.{Trace, inside_call}
use Rattle.um_cells.specs.declared.store.Store.{Store}
use Rattle.um_cells.specs.declared.word.Word.{Word}
use Rattle.um_cells.specs.Stores.{Keeps}
use Rattle.um_cells.proofs.Denoting.{retained_each}
use Rattle.um_eval.specs.declared.frame.Unary.{Unary}
use Rattle.um_eval.specs.declared.frame.Unary.TheVariants as unary
use Rattle.um_eval.specs.declared.frame.Binary.{Binary}
use Rattle.um_eval.specs.declared.frame.Binary.TheVariants as binary
use Rattle.um_eval.specs.declared.frame.Frame.{Frame}
use Rattle.um_eval.specs.declared.frame.Frame.TheVariants as frame
use Rattle.um_eval.specs.Through.{Whole, Traces, whole_outcome, whole_traces, here_of, spot_in, through, operand_traces, right_traces}
use Rattle.um_eval.specs.Frames.{Completes}

in_first : {A B C : Type 0} → (B → A) → B ⊎ C → A ⊎ C
in_first go (inl b) = inl (go b)
in_first go (inr c) = inr c

module _ (fs : List FunctionTree) where
  -- ---- traces

  operand_fewer : (here : ℕ) (op : Unary) (m : Out ValueTree) (P Q : Traces) (t : Trace) → (Q t → P t) → operand_traces fs here op m Q t → operand_traces fs here op m P t
  operand_fewer here unary.Negate m P Q t less h = less h
  operand_fewer here unary.Not m P Q t less h = less h
  operand_fewer here (unary.Power k at) m P Q t less h = in_first less h
  operand_fewer here (unary.Field r k) m P Q t less h = less h

  right_fewer : (here : ℕ) (op : Binary) (v : ValueTree) (m : Out ValueTree) (P Q : Traces) (t : Trace) → (Q t → P t) → right_traces fs here op v m Q t → right_traces fs here op v m P t
  right_fewer here (binary.Arith op at) v m P Q t less h = in_first less h
  right_fewer here (binary.Compare sign) v m P Q t less h = less h
  right_fewer here binary.Cons v m P Q t less h = less h

  operand_part : (here : ℕ) (op : Unary) (m : Out ValueTree) (P : Traces) (t : Trace) → P t → operand_traces fs here op m P t
  operand_part here unary.Negate m P t p = p
  operand_part here unary.Not m P t p = p
  operand_part here (unary.Power k at) m P t p = inl p
  operand_part here (unary.Field r k) m P t p = p

  right_part : (here : ℕ) (op : Binary) (v : ValueTree) (m : Out ValueTree) (P : Traces) (t : Trace) → P t → right_traces fs here op v m P t
  right_part here (binary.Arith op at) v m P t p = inl p
  right_part here (binary.Compare sign) v m P t p = p
  right_part here binary.Cons v m P t p = p

  -- of fewer traces the same holds
  pub fewer : (s : Store) (callers waiting : List Word) (frames : List Frame) (vars : List ValueTree) (m : Out ValueTree) (P Q : Traces) (whole : Whole) → ((t : Trace) → Q t → P t) → Completes fs s callers waiting frames vars m P whole → Completes fs s callers waiting frames vars m Q whole
  fewer s callers waiting [] vars m P Q whole less (is, h) = (is, λ t q. h t (less t q))
  fewer s callers waiting (frame.Operand op ∷ frames) vars m P Q whole less h =
      fewer s callers waiting frames vars _ _ _ whole (λ t q. operand_fewer (here_of frames) op m P Q t (less t) q) h
  fewer s callers waiting (frame.Left op y ∷ frames) vars m P Q whole less h = fewer s callers waiting frames vars _ _ _ whole (λ t q. in_first (less t) q) h
  fewer s callers waiting (frame.Right op x ∷ frames) vars m P Q whole less (v, d, h) =
      (v, d, fewer s callers waiting frames vars _ _ _ whole (λ t q. right_fewer (here_of frames) op v m P Q t (less t) q) h)
  fewer s callers waiting (frame.LeftOfAnd y ∷ frames) vars m P Q whole less h = fewer s callers waiting frames vars _ _ _ whole (λ t q. in_first (less t) q) h
  fewer s callers waiting (frame.LeftOfOr y ∷ frames) vars m P Q whole less h = fewer s callers waiting frames vars _ _ _ whole (λ t q. in_first (less t) q) h
  fewer s callers waiting (frame.Test x y ∷ frames) vars m P Q whole less h = fewer s callers waiting frames vars _ _ _ whole (λ t q. in_first (less t) q) h
  fewer s callers waiting (frame.Bound y ∷ frames) vars m P Q whole less h = fewer s callers waiting frames vars _ _ _ whole (λ t q. in_first (less t) q) h
  fewer s callers waiting (frame.Matched x y ∷ frames) vars m P Q whole less h = fewer s callers waiting frames vars _ _ _ whole (λ t q. in_first (less t) q) h
  fewer s callers waiting (frame.Inner n ∷ frames) vars m P Q whole less (e, h) = (e, fewer s callers waiting frames (take (n - length callers) vars) m P Q whole less h)
  fewer s callers waiting (frame.Item c rest first ∷ frames) vars m P Q whole less (e, vs, d, h) =
      (e, vs, d, fewer s callers (take first waiting) frames vars _ _ _ whole (λ t q. in_first (less t) q) h)
  fewer s callers waiting (frame.Body base j at ∷ frames) vars m P Q whole less (e, own, d, h) =
      (e, own, d, fewer s (take base callers) waiting frames own m _ _ whole (λ t (u, q, is). (u, less u q, is)) h)

  -- a trace of the expression inside is one of the whole call, told from outside
  pub told : (s : Store) (callers waiting : List Word) (frames : List Frame) (vars : List ValueTree) (m : Out ValueTree) (P : Traces) (whole : Whole) (t : Trace) → Completes fs s callers waiting frames vars m P whole → P t → whole_traces fs whole (through frames t)
  told s callers waiting [] vars m P whole t (is, h) p = h t p
  told s callers waiting (frame.Operand op ∷ frames) vars m P whole t h p = told s callers waiting frames vars _ _ whole t h (operand_part (here_of frames) op m P t p)
  told s callers waiting (frame.Left op y ∷ frames) vars m P whole t h p = told s callers waiting frames vars _ _ whole t h (inl p)
  told s callers waiting (frame.Right op x ∷ frames) vars m P whole t (v, d, h) p = told s callers waiting frames vars _ _ whole t h (right_part (here_of frames) op v m P t p)
  told s callers waiting (frame.LeftOfAnd y ∷ frames) vars m P whole t h p = told s callers waiting frames vars _ _ whole t h (inl p)
  told s callers waiting (frame.LeftOfOr y ∷ frames) vars m P whole t h p = told s callers waiting frames vars _ _ whole t h (inl p)
  told s callers waiting (frame.Test x y ∷ frames) vars m P whole t h p = told s callers waiting frames vars _ _ whole t h (inl p)
  told s callers waiting (frame.Bound y ∷ frames) vars m P whole t h p = told s callers waiting frames vars _ _ whole t h (inl p)
  told s callers waiting (frame.Matched x y ∷ frames) vars m P whole t h p = told s callers waiting frames vars _ _ whole t h (inl p)
  told s callers waiting (frame.Inner n ∷ frames) vars m P whole t (e, h) p = told s callers waiting frames (take (n - length callers) vars) m P whole t h p
  told s callers waiting (frame.Item c rest first ∷ frames) vars m P whole t (e, vs, d, h) p = told s callers (take first waiting) frames vars _ _ whole t h (inl p)
  told s callers waiting (frame.Body base j at ∷ frames) vars m P whole t (e, own, d, h) p =
      told s (take base callers) waiting frames own m _ whole (inside_call (spot_in frames at) t) h (t, p, refl)

  -- ---- outcomes

  pub stopped : (s : Store) (callers waiting : List Word) (frames : List Frame) (vars : List ValueTree) (r : Stop) (P : Traces) (whole : Whole) → Completes fs s callers waiting frames vars (stops r) P whole → stops r ≡ whole_outcome fs whole
  stopped s callers waiting [] vars r P whole (is, h) = is
  stopped s callers waiting (frame.Operand op ∷ frames) vars r P whole h = stopped s callers waiting frames vars r _ whole h
  stopped s callers waiting (frame.Left op y ∷ frames) vars r P whole h = stopped s callers waiting frames vars r _ whole h
  stopped s callers waiting (frame.Right op x ∷ frames) vars r P whole (v, d, h) = stopped s callers waiting frames vars r _ whole h
  stopped s callers waiting (frame.LeftOfAnd y ∷ frames) vars r P whole h = stopped s callers waiting frames vars r _ whole h
  stopped s callers waiting (frame.LeftOfOr y ∷ frames) vars r P whole h = stopped s callers waiting frames vars r _ whole h
  stopped s callers waiting (frame.Test x y ∷ frames) vars r P whole h = stopped s callers waiting frames vars r _ whole h
  stopped s callers waiting (frame.Bound y ∷ frames) vars r P whole h = stopped s callers waiting frames vars r _ whole h
  stopped s callers waiting (frame.Matched x y ∷ frames) vars r P whole h = stopped s callers waiting frames vars r _ whole h
  stopped s callers waiting (frame.Inner n ∷ frames) vars r P whole (e, h) = stopped s callers waiting frames (take (n - length callers) vars) r P whole h
  stopped s callers waiting (frame.Item c rest first ∷ frames) vars r P whole (e, vs, d, h) = stopped s callers (take first waiting) frames vars r _ whole h
  stopped s callers waiting (frame.Body base j at ∷ frames) vars r P whole (e, own, d, h) = stopped s (take base callers) waiting frames own r _ whole h

  pub completes_kept : (s t : Store) → Keeps s t → (callers waiting : List Word) (frames : List Frame) (vars : List ValueTree) (m : Out ValueTree) (P : Traces) (whole : Whole) → Completes fs s callers waiting frames vars m P whole → Completes fs t callers waiting frames vars m P whole
  completes_kept s t k callers waiting [] vars m P whole h = h
  completes_kept s t k callers waiting (frame.Operand op ∷ frames) vars m P whole h = completes_kept s t k callers waiting frames vars _ _ whole h
  completes_kept s t k callers waiting (frame.Left op y ∷ frames) vars m P whole h = completes_kept s t k callers waiting frames vars _ _ whole h
  completes_kept s t k callers waiting (frame.Right op x ∷ frames) vars m P whole (v, d, h) = (v, k x v d, completes_kept s t k callers waiting frames vars _ _ whole h)
  completes_kept s t k callers waiting (frame.LeftOfAnd y ∷ frames) vars m P whole h = completes_kept s t k callers waiting frames vars _ _ whole h
  completes_kept s t k callers waiting (frame.LeftOfOr y ∷ frames) vars m P whole h = completes_kept s t k callers waiting frames vars _ _ whole h
  completes_kept s t k callers waiting (frame.Test x y ∷ frames) vars m P whole h = completes_kept s t k callers waiting frames vars _ _ whole h
  completes_kept s t k callers waiting (frame.Bound y ∷ frames) vars m P whole h = completes_kept s t k callers waiting frames vars _ _ whole h
  completes_kept s t k callers waiting (frame.Matched x y ∷ frames) vars m P whole h = completes_kept s t k callers waiting frames vars _ _ whole h
  completes_kept s t k callers waiting (frame.Inner n ∷ frames) vars m P whole (e, h) = (e, completes_kept s t k callers waiting frames (take (n - length callers) vars) m P whole h)
  completes_kept s t k callers waiting (frame.Item c rest first ∷ frames) vars m P whole (e, vs, d, h) =
      (e, vs, retained_each s.cells.items t.cells.items k (drop first waiting) vs d, completes_kept s t k callers (take first waiting) frames vars _ _ whole h)
  completes_kept s t k callers waiting (frame.Body base j at ∷ frames) vars m P whole (e, own, d, h) =
      (e, own, retained_each s.cells.items t.cells.items k (drop base callers) own d, completes_kept s t k (take base callers) waiting frames own m _ whole h)
