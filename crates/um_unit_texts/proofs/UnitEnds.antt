-- What is left where all ends up to the innermost brackets.
use Rattle.std.proofs.Common.{◌≡◌, List, [], ◌∷◌, ◌++◌, true, refl, sym, ap, ◌∙◌, inl, inr, ◌⊎◌}
use Rattle.um_tree.specs.RawTree.{UnitSyntax, side_syntax, times_syntax, over_syntax, inverse_syntax, units_in_order}
use Rattle.um_unit_texts.specs.UnitMachine.{Frame, InBracket, InInverse, InTimes, InOver, InSide, Have, Refused, reduce, opens, close_after, whole}
use Rattle.um_unit_texts.specs.UnitView.{ends_itself}

-- nothing that needs no token to end is left open
pub reduced_opens : (old : List Frame) (t : UnitSyntax) (frames : List Frame) (u : UnitSyntax) → Have frames u ≡ reduce old t → opens frames ≡ true
reduced_opens [] t frames u e = let same : frames ≡ [] = cc in ap opens same
reduced_opens (InBracket at ∷ old) t frames u e = let same : frames ≡ InBracket at ∷ old = cc in ap opens same
reduced_opens (InInverse at ∷ old) t frames u e = reduced_opens old (inverse_syntax at t) frames u e
reduced_opens (InTimes left ∷ old) t frames u e = reduced_opens old (times_syntax left t) frames u e
reduced_opens (InOver left ∷ old) t frames u e = reduced_opens old (over_syntax left t) frames u e
reduced_opens (InSide earlier ∷ old) t frames u e = reduced_opens old (side_syntax (units_in_order (earlier ++ t ∷ []))) frames u e

opens_stays : (frames : List Frame) (u : UnitSyntax) → opens frames ≡ true → reduce frames u ≡ Have frames u
opens_stays [] u e = refl
opens_stays (InBracket at ∷ frames) u e = refl
opens_stays (InInverse at ∷ frames) u e = absurd cc
opens_stays (InTimes left ∷ frames) u e = absurd cc
opens_stays (InOver left ∷ frames) u e = absurd cc
opens_stays (InSide earlier ∷ frames) u e = absurd cc

-- once all has ended, nothing more ends
pub reduced_stays : (old : List Frame) (t : UnitSyntax) (frames : List Frame) (u : UnitSyntax) → Have frames u ≡ reduce old t → reduce frames u ≡ reduce old t
reduced_stays old t frames u e = opens_stays frames u (reduced_opens old t frames u e) ∙ e

both_none : (fs : List Frame) → opens fs ≡ true → ends_itself fs ≡ true → ⊥
both_none [] a b = absurd cc
both_none (InBracket at ∷ frames) a b = absurd cc
both_none (InInverse at ∷ frames) a b = absurd cc
both_none (InTimes left ∷ frames) a b = absurd cc
both_none (InOver left ∷ frames) a b = absurd cc
both_none (InSide earlier ∷ frames) a b = absurd cc

-- where no brackets are open, none close, and all has ended
pub none_close : (old : List Frame) (t : UnitSyntax) (frames new : List Frame) (u : UnitSyntax) → Have frames u ≡ reduce old t → ((frames ≡ []) × (new ≡ [])) ⊎ (ends_itself frames ≡ true)
    → (close_after (reduce old t) ≡ Refused) × (whole (reduce new u) ≡ whole (reduce old t))
none_close old t frames new u e (inl (a, b)) =
    let now : reduce old t ≡ Have [] u = sym e ∙ ap (λ fs. Have fs u) a in
    (ap close_after now, ap (λ fs. whole (reduce fs u)) b ∙ sym (ap whole now))
none_close old t frames new u e (inr h) = absurd (both_none frames (reduced_opens old t frames u e) h)
