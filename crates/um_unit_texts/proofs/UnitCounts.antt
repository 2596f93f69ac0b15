-- The least height over the open frames, from the parts in them and from what is at hand.
use Rattle.std.proofs.Common.{◌≡◌, ℕ, ◌+◌, ◌≤◌, min, max, List, [], ◌∷◌, length, false, refl, sym, ap, ◌∙◌, arith, inl, inr}
use Rattle.std.specs.Prelude.{nat_lt}
use Rattle.std.proofs.lemmas.Bool.{cases_lt, le-ltb}
use Rattle.um_unit_texts.specs.UnitStops.{greatest_height}
use Rattle.um_unit_texts.specs.declared.unit_frame.Focus.{Focus}
use Rattle.um_unit_texts.specs.declared.unit_frame.Focus.TheVariants as focus
use Rattle.um_unit_texts.specs.declared.unit_frames.Frames.{Frames}
use Rattle.um_unit_texts.specs.UnitMachine.{Frame}
use Rattle.um_unit_texts.specs.UnitLeast.{side, least_over, least}
use Rattle.um_unit_texts.specs.UnitCount.{counted}
use Rattle.um_unit_texts.specs.UnitFrames.{base}
use Rattle.um_unit_texts.specs.UnitView.{frames_of, state_of, focus_height}

over_base : (frames : List Frame) (h : ℕ) → least_over frames h ≡ max (base frames) (h + length frames)
over_base [] h = omega arith
over_base (frame ∷ frames) h = let e = over_base frames (max (side frame) h + 1) in omega (arith, e)

least_focus : (frames : Frames) (operand : Focus) → least (state_of frames operand) ≡ least_over (frames_of frames) (focus_height operand)
least_focus frames focus.Empty = refl
least_focus frames (focus.Full t) = refl
least_focus frames (focus.Raised t) = refl
least_focus frames (focus.Lowered t) = refl

cut_low : (n : ℕ) → nat_lt (min n (greatest_height + 1)) (greatest_height + 1) ≡ nat_lt n (greatest_height + 1)
cut_low n =
    elim (cases_lt n (greatest_height + 1)) [
      | inl low ↦ let e : min n (greatest_height + 1) ≡ n = omega arith in ap (λ m. nat_lt m (greatest_height + 1)) e
      | inr high ↦ let e : min n (greatest_height + 1) ≡ (greatest_height + 1) = omega arith in ap (λ m. nat_lt m (greatest_height + 1)) e ∙ sym (high_is n high)
    ]
  where
    high_is : (n : ℕ) → (greatest_height + 1) ≤ n → nat_lt n (greatest_height + 1) ≡ false
    high_is n high = rw le-ltb refl

counted_least : (height own sum result at_hand parts count : ℕ) → height ≡ counted at_hand → own ≡ counted parts → sum ≡ counted (height + counted count) → result ≡ max own sum → result ≡ counted (max parts (at_hand + count))
counted_least height own sum result at_hand parts count p q r s = omega (arith, p, q, r, s)

-- what is counted decides
pub low_same : (frames : Frames) (operand : Focus) (height sum own result : ℕ) → height ≡ counted (focus_height operand) → own ≡ counted (base (frames_of frames)) → sum ≡ counted (height + counted (length (frames_of frames)))
    → result ≡ max own sum → nat_lt result (greatest_height + 1) ≡ nat_lt (least (state_of frames operand)) (greatest_height + 1)
low_same frames operand height sum own result p q r s =
    ap (λ n. nat_lt n (greatest_height + 1)) (counted_least height own sum result (focus_height operand) (base (frames_of frames)) (length (frames_of frames)) p q r s
    ∙ ap counted (sym (least_focus frames operand ∙ over_base (frames_of frames) (focus_height operand))))
    ∙ cut_low (least (state_of frames operand))
