-- The test of one edit, character by character.
use Rattle.std.proofs.Common.{◌≡◌, ◌≢◌, ℕ, ◌+◌, ◌-◌, ◌<◌, eqb, if◌then◌else◌, List, ◌∷◌, length, drop, get_or, sym, ap, ◌∙◌, arith, eq-eqb, ne_eqb}
use Rattle.std.proofs.lemmas.List.{drop_more, drop_all, length-drop}
use Rattle.um_similar.specs.OneEdit.{apart, one_edit}

-- what both begin with is passed over
pub past_front : (c d : ℕ) (more others : List ℕ) → c ≡ d → one_edit (c ∷ more) (d ∷ others) ≡ one_edit more others
past_front c d more others e =
    ap (λ t. if t then one_edit more others else apart (c ∷ more) (d ∷ others)) (eq-eqb c d e)

pub at_fronts : (c d : ℕ) (more others : List ℕ) → c ≢ d → one_edit (c ∷ more) (d ∷ others) ≡ apart (c ∷ more) (d ∷ others)
at_fronts c d more others e =
    ap (λ t. if t then one_edit more others else apart (c ∷ more) (d ∷ others)) (ne_eqb c d e)

module _ (first second : List ℕ) (i : ℕ) where
  both : i < length first → i < length second → one_edit (drop i first) (drop i second) ≡ one_edit (get_or first i 0 ∷ drop (i + 1) first) (get_or second i 0 ∷ drop (i + 1) second)
  both l k =
      ap (λ x. one_edit x (drop i second)) (drop_more first i 0 l)
      ∙ ap (one_edit (get_or first i 0 ∷ drop (i + 1) first)) (drop_more second i 0 k)

  pub same_front : i < length first → i < length second → get_or first i 0 ≡ get_or second i 0 → one_edit (drop (i + 1) first) (drop (i + 1) second) ≡ one_edit (drop i first) (drop i second)
  same_front l k e = sym (both l k ∙ past_front (get_or first i 0) (get_or second i 0) (drop (i + 1) first) (drop (i + 1) second) e)

  pub other_front : i < length first → i < length second → get_or first i 0 ≢ get_or second i 0 → apart (drop i first) (drop i second) ≡ one_edit (drop i first) (drop i second)
  other_front l k e =
      ap (λ x. apart x (drop i second)) (drop_more first i 0 l)
      ∙ ap (apart (get_or first i 0 ∷ drop (i + 1) first)) (drop_more second i 0 k)
      ∙ sym (both l k ∙ at_fronts (get_or first i 0) (get_or second i 0) (drop (i + 1) first) (drop (i + 1) second) e)

  pub second_ends : i < length first → i ≡ length second → eqb (length first - i) 1 ≡ one_edit (drop i first) (drop i second)
  second_ends l e =
      ap (λ n. eqb n 1) (sym (length-drop i first))
      ∙ ap (λ (x : List ℕ). eqb (length x) 1) (drop_more first i 0 l)
      ∙ sym (ap (λ x. one_edit x (drop i second)) (drop_more first i 0 l)
      ∙ ap (one_edit (get_or first i 0 ∷ drop (i + 1) first)) (drop_all i second (omega (arith, e))))

  pub first_ends : i ≡ length first → eqb (length second - i) 1 ≡ one_edit (drop i first) (drop i second)
  first_ends e =
      ap (λ n. eqb n 1) (sym (length-drop i second))
      ∙ sym (ap (λ x. one_edit x (drop i second)) (drop_all i first (omega (arith, e))))
