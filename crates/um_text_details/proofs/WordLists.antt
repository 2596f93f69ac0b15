-- Chosen words: lists of them put together, and that there is one.
use Rattle.std.proofs.Common.{◌≡◌, ◌⊎◌, inl, inr, zero, suc, arith, Bool, true, false, cond, ◌++◌, List, [], ◌∷◌, refl, sym, ap, subst, ◌∙◌}
use Rattle.std.specs.Bool.{Decides}
use Rattle.std.specs.List.{Contains}
use Rattle.um_text_details.specs.declared.word.Word.{Word}
use Rattle.um_text_details.specs.Expected.{AreChosen}

clash : false ≡ true → ⊥
clash e = cc

module _ (Is : Word → Type 0) where
  -- a word more that is chosen
  pub chosen_more : (ws chosen : List Word) (w : Word) → AreChosen Is ws chosen → Is w → AreChosen Is (ws ++ w ∷ []) (chosen ++ w ∷ [])
  chosen_more [] chosen w c is = inl (is, [], ap (λ l. l ++ w ∷ []) c, refl)
  chosen_more (v ∷ ws) chosen w (inl c) is = inl (c.0, c.1 ++ w ∷ [], ap (λ l. l ++ w ∷ []) c.2, chosen_more ws c.1 w c.3 is)
  chosen_more (v ∷ ws) chosen w (inr c) is = inr (c.0, chosen_more ws chosen w c.1 is)

  -- a word more that isn't
  pub chosen_same : (ws chosen : List Word) (w : Word) → AreChosen Is ws chosen → (Is w → ⊥) → AreChosen Is (ws ++ w ∷ []) chosen
  chosen_same [] chosen w c isnt = inr (isnt, c)
  chosen_same (v ∷ ws) chosen w (inl c) isnt = inl (c.0, c.1, c.2, chosen_same ws c.1 w c.3 isnt)
  chosen_same (v ∷ ws) chosen w (inr c) isnt = inr (c.0, chosen_same ws chosen w c.1 isnt)

  -- one list is chosen
  pub one_choice : (ws chosen other : List Word) → AreChosen Is ws chosen → AreChosen Is ws other → chosen ≡ other
  one_choice [] chosen other c d = c ∙ sym d
  one_choice (w ∷ ws) chosen other (inl c) (inl d) = c.2 ∙ ap (λ l. w ∷ l) (one_choice ws c.1 d.1 c.3 d.3) ∙ sym d.2
  one_choice (w ∷ ws) chosen other (inl c) (inr d) = absurd (d.0 c.0)
  one_choice (w ∷ ws) chosen other (inr c) (inl d) = absurd (c.0 d.0)
  one_choice (w ∷ ws) chosen other (inr c) (inr d) = one_choice ws chosen other c.1 d.1

-- ---- words in lists

-- an element of a list is its first, or one of the others
pub split : (v : Word) (ws : List Word) (w : Word) → Contains (v ∷ ws) w → (v ≡ w) ⊎ Contains ws w
split v ws w (zero, lt, same) = inl same
split v ws w (suc k, lt, same) = inr (k, omega (arith, lt), same)

there : (v : Word) (ws : List Word) (w : Word) → Contains ws w → Contains (v ∷ ws) w
there v ws w m = let lt = m.1 in (suc m.0, omega (arith, lt), m.2)

none_in : (w : Word) → Contains [] w → ⊥
none_in w m = let lt = m.1 in omega (arith, lt)

module _ (Is : Word → Type 0) where
  -- a word that is chosen is right
  pub chosen_is : (ws chosen : List Word) (w : Word) → AreChosen Is ws chosen → Contains chosen w → Is w
  chosen_is [] chosen w c m = absurd (none_in w (subst (λ l. Contains l w) c m))
  chosen_is (v ∷ ws) chosen w (inl c) m =
      elim (split v c.1 w (subst (λ l. Contains l w) c.2 m)) [
        | inl e ↦ subst Is e c.0
        | inr n ↦ chosen_is ws c.1 w c.3 n
      ]
  chosen_is (v ∷ ws) chosen w (inr c) m = chosen_is ws chosen w c.1 m

  -- a word of the list is chosen, or it isn't right
  pub chosen_or_not : (ws chosen : List Word) (w : Word) → AreChosen Is ws chosen → Contains ws w → Contains chosen w ⊎ (Is w → ⊥)
  chosen_or_not [] chosen w c m = absurd (none_in w m)
  chosen_or_not (v ∷ ws) chosen w (inl c) m =
      elim (split v ws w m) [
        | inl e ↦ inl (subst (λ l. Contains l w) (sym c.2) (zero, omega arith, e))
        | inr n ↦ elim (chosen_or_not ws c.1 w c.3 n) [
          | inl h ↦ inl (subst (λ l. Contains l w) (sym c.2) (there v c.1 w h))
          | inr isnt ↦ inr isnt
        ]
      ]
  chosen_or_not (v ∷ ws) chosen w (inr c) m =
      elim (split v ws w m) [
        | inl e ↦ inr (λ is. c.0 (subst Is (sym e) is))
        | inr n ↦ chosen_or_not ws chosen w c.1 n
      ]

  pub is_chosen : (ws chosen : List Word) (w : Word) → AreChosen Is ws chosen → Contains ws w → Is w → Contains chosen w
  is_chosen ws chosen w c m is =
      elim (chosen_or_not ws chosen w c m) [
        | inl h ↦ h
        | inr isnt ↦ absurd (isnt is)
      ]

-- ---- one word more

pub chosen_step : (Is : Word → Type 0) (ws chosen new : List Word) (w : Word) (b : Bool) → AreChosen Is ws chosen → Decides b (Is w)
    → new ≡ cond b (chosen ++ w ∷ []) chosen → AreChosen Is (ws ++ w ∷ []) new
chosen_step Is ws chosen new w true c d e = subst (λ l. AreChosen Is (ws ++ w ∷ []) l) (sym e) (chosen_more Is ws chosen w c (d.0 refl))
chosen_step Is ws chosen new w false c d e =
    subst (λ l. AreChosen Is (ws ++ w ∷ []) l) (sym e) (chosen_same Is ws chosen w c (λ is. clash (d.1 is)))

-- ---- two tests that say the same choose the same

pub same_choice : (Is Also : Word → Type 0) → ((w : Word) → Is w → Also w) → ((w : Word) → Also w → Is w) → (ws chosen : List Word)
    → AreChosen Is ws chosen → AreChosen Also ws chosen
same_choice Is Also f g [] chosen c = c
same_choice Is Also f g (w ∷ ws) chosen (inl c) = inl (f w c.0, c.1, c.2, same_choice Is Also f g ws c.1 c.3)
same_choice Is Also f g (w ∷ ws) chosen (inr c) = inr ((λ a. c.0 (g w a)), same_choice Is Also f g ws chosen c.1)
