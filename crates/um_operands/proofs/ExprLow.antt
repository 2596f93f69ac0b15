-- Whether an expression within the heights begins with what was read.
use Rattle.std.proofs.Common.{◌≡◌, ◌≢◌, ℕ, ◌+◌, ◌<◌, ◌≤◌, min, max, List, [], ◌∷◌, length, map, reverse, true, false, refl, sym, ap, ◌∙◌, arith, inl, inr}
use Rattle.std.specs.Prelude.{nat_lt}
use Rattle.std.proofs.lemmas.Bool.{cases_lt, lt-ltb, le-ltb}
use Rattle.um_unit_texts.specs.UnitCount.{counted}
use Rattle.um_unit_texts.specs.UnitStops.{greatest_height}
use Rattle.um_operands.specs.declared.frame.Frame.{Frame as Open}
use Rattle.um_operands.specs.declared.frame.Frame.TheVariants as open_at
use Rattle.um_operands.specs.declared.frame.Entry.{Entry}
use Rattle.um_operands.specs.declared.focus.Expected.{Expected as ExpectedToken}
use Rattle.um_operands.specs.declared.focus.Expected.TheVariants as expected
use Rattle.um_operands.specs.declared.focus.Focus.{Focus}
use Rattle.um_operands.specs.declared.focus.Focus.TheVariants as focus
use Rattle.um_operands.specs.ExprBegun.{Frame, Refused}
use Rattle.um_operands.specs.ExprLeast.{least_over, expr_least, notes_side, notes_over, expected_notes, notes_least, whole_least}
use Rattle.um_operands.specs.ExprHeights.{notes_in}
use Rattle.um_operands.specs.ExprOperands.{operand_expr}
use Rattle.um_operands.specs.ExprFrames.{view_frame, entry_frame, stack, base}
use Rattle.um_operands.specs.ExprFocus.{view_expected, focus_height, state_of}
use Rattle.um_operands.proofs.ExprStackLaws.{over_base}

-- no unit text or type text in a frame is too high
frame_notes : (frame : Open) → notes_side (view_frame frame) ≤ greatest_height
frame_notes (open_at.InBracket at) = omega arith
frame_notes (open_at.InItem at before) = before.low
frame_notes (open_at.InField at before p x) = before.low
frame_notes (open_at.InValue at x) = omega arith
frame_notes (open_at.InBody at x v) = v.low
frame_notes (open_at.InTest at) = omega arith
frame_notes (open_at.InThen at c) = c.low
frame_notes (open_at.InElse at c a) = omega (arith, c.low, a.low)
frame_notes (open_at.InMatched at) = omega arith
frame_notes (open_at.InEmptyArm at l) = l.low
frame_notes (open_at.InFullArm m x y) = omega (arith, m.list.low, m.empty.low)
frame_notes (open_at.InNegate at) = omega arith
frame_notes (open_at.InNot at) = omega arith
frame_notes (open_at.InPown at) = omega arith
frame_notes (open_at.InRight at sign left) = left.low
frame_notes (open_at.InArgument at f before) = before.low

expected_low : (p : ExpectedToken) → expected_notes (view_expected p) ≤ greatest_height
expected_low (expected.LetBinder at) = omega arith
expected_low (expected.LetEqual at x) = omega arith
expected_low (expected.FieldName at before) = before.low
expected_low (expected.FieldEqual at before p x) = before.low
expected_low (expected.DotName at e) = e.low
expected_low (expected.ArmBegin at l) = l.low
expected_low (expected.ArmOpen at l) = l.low
expected_low (expected.ArmClose at l) = l.low
expected_low (expected.ArmArrow at l) = l.low
expected_low (expected.HeadBinder m) = omega (arith, m.list.low, m.empty.low)
expected_low (expected.HeadCons m x) = omega (arith, m.list.low, m.empty.low)
expected_low (expected.TailBinder m x) = omega (arith, m.list.low, m.empty.low)
expected_low (expected.TailArrow m x y) = omega (arith, m.list.low, m.empty.low)
expected_low (expected.NilColon at) = omega arith
expected_low (expected.PownMinus at e) = e.low
expected_low (expected.PownDigits at e) = e.low
expected_low (expected.PownClose at e k) = e.low

entries_low : (entries : List Entry) (m : ℕ) → m ≤ greatest_height → notes_over (map entry_frame entries) m ≤ greatest_height
entries_low [] m low = low
entries_low (e ∷ entries) m low = entries_low entries (max (notes_side (entry_frame e)) m) (omega (arith, frame_notes e.frame, low))

notes_low : (entries : List Entry) (h : Focus) → notes_least (state_of (stack entries) h) ≤ greatest_height
notes_low entries focus.Wanted = entries_low (reverse entries) 0 (omega arith)
notes_low entries (focus.Read t) = entries_low (reverse entries) (notes_in (operand_expr t)) t.low
notes_low entries (focus.Power t) = entries_low (reverse entries) (notes_in (operand_expr t)) t.low
notes_low entries (focus.Greater at left) = entries_low (reverse entries) (notes_in (operand_expr left)) left.low
notes_low entries (focus.Inside p) = entries_low (reverse entries) (expected_notes (view_expected p)) (expected_low p)

least_focus : (frames : List Frame) (h : Focus) → expr_least (state_of frames h) ≡ least_over frames (focus_height h)
least_focus frames focus.Wanted = refl
least_focus frames (focus.Read t) = refl
least_focus frames (focus.Power t) = refl
least_focus frames (focus.Greater at left) = refl
least_focus frames (focus.Inside p) = refl

less : (n : ℕ) → n < (greatest_height + 1) → nat_lt n (greatest_height + 1) ≡ true
less n low = rw lt-ltb refl

not_less : (n : ℕ) → (greatest_height + 1) ≤ n → nat_lt n (greatest_height + 1) ≡ false
not_less n high = rw le-ltb refl

-- what is counted decides
same_side : (n m : ℕ) → n ≡ min m (greatest_height + 1) → nat_lt n (greatest_height + 1) ≡ nat_lt m (greatest_height + 1)
same_side n m e =
    elim (cases_lt m (greatest_height + 1)) [
      | inl low ↦ let same : n ≡ m = omega (arith, e) in ap (λ k. nat_lt k (greatest_height + 1)) same
      | inr high ↦ let same : n ≡ (greatest_height + 1) = omega (arith, e) in ap (λ k. nat_lt k (greatest_height + 1)) same ∙ sym (not_less m high)
    ]

-- what is low beside it decides nothing
beside : (e m : ℕ) → m ≤ greatest_height → nat_lt e (greatest_height + 1) ≡ nat_lt (max e m) (greatest_height + 1)
beside e m small =
    elim (cases_lt e (greatest_height + 1)) [
      | inl low ↦ less e low ∙ sym (less (max e m) (omega (arith, low, small)))
      | inr high ↦ not_less e high ∙ sym (not_less (max e m) (omega (arith, high)))
    ]

lower : (height frames sum result hh b len e : ℕ) → height ≡ min hh (greatest_height + 1) → frames ≡ min b (greatest_height + 1) → sum ≡ min (height + min len (greatest_height + 1)) (greatest_height + 1) → result ≡ max frames sum
    → e ≡ max b (hh + len) → result ≡ min e (greatest_height + 1)
lower height frames sum result hh b len e p q r s u = omega (arith, p, q, r, s, u)

pub low_same : (entries : List Entry) (h : Focus) (height sum frames result : ℕ) → height ≡ counted (focus_height h) → frames ≡ counted (base (stack entries))
    → sum ≡ counted (height + counted (length (stack entries))) → result ≡ max frames sum → nat_lt result (greatest_height + 1) ≡ nat_lt (whole_least (state_of (stack entries) h)) (greatest_height + 1)
low_same entries h height sum frames result a b c d =
    let e = expr_least (state_of (stack entries) h) in
    let above = least_focus (stack entries) h ∙ over_base (stack entries) (focus_height h) in
    same_side result e (lower height frames sum result (focus_height h) (base (stack entries)) (length (stack entries)) e a b c d above)
    ∙ beside e (notes_least (state_of (stack entries) h)) (notes_low entries h)

-- what is at focus is no refusal
pub goes_on : (frames : List Frame) (h : Focus) → state_of frames h ≢ Refused
goes_on frames focus.Wanted e = absurd cc
goes_on frames (focus.Read t) e = absurd cc
goes_on frames (focus.Power t) e = absurd cc
goes_on frames (focus.Greater at left) e = absurd cc
goes_on frames (focus.Inside p) e = absurd cc
