-- Letters one after another, unit parameters one after another, and agreements with two types each.
use Rattle.std.proofs.Common.{◌≡◌, ℕ, suc, ◌+◌, ◌-◌, ◌*◌, ◌<◌, ◌≤◌, Bool, true, false, cond, nat_lt, List, [], ◌∷◌, ◌++◌, map, drop, length, get_or, Option, Some, None, refl, sym, ap, ◌∙◌, arith}
use Rattle.std.specs.List.{range_with_len}
use Rattle.std.proofs.lemmas.Bool.Decides.{nat_tests}
use Rattle.std.proofs.lemmas.List.{append-nil, append_assoc, drop_more, get_or_past}
use Rattle.std.proofs.lemmas.List.FromFn.{length-map-range_with_len, get_or-map-range_with_len}
use Rattle.um_elim.proofs.Cases.{on_test}
use Rattle.um_tree.specs.TypeTree.{TypeTree}
use Rattle.um_tree.specs.ProgramTree.{ProgramTree}
use Rattle.um_agree.specs.Agreements.{Agreement}
use Rattle.um_unit_reasons.specs.declared.reason.Told.{Told}
use Rattle.um_unit_reasons.specs.VariableNames.{written, letter, is_free, free_letters}
use Rattle.um_unit_reasons.specs.TypeTexts.{told}

-- ---- letters
module _ (names : List (List ℕ)) (n : ℕ) where
  abbrev pub LettersLeft : ℕ → List (List ℕ) → Type 0
  LettersLeft k texts = map written (free_letters names 0 n) ≡ texts ++ map written (free_letters names k (n - k))

  pub none_lettered : LettersLeft 0 []
  none_lettered = let all : n ≡ n - 0 = omega arith in ap (λ m. map written (free_letters names 0 m)) all

  pub more_letters : (k : ℕ) (texts new : List (List ℕ)) → k < n → LettersLeft k texts → new ≡ texts ++ cond (is_free names (letter k)) (written (letter k) ∷ []) [] → LettersLeft (k + 1) new
  more_letters k texts new l left is =
      let m : ℕ = n - (k + 1) in
      let at_k : n - k ≡ suc m = omega (arith, l) in
      left ∙ ap (λ j. texts ++ map written (free_letters names k j)) at_k ∙ pushed (is_free names (letter k)) (free_letters names (k + 1) m)
      ∙ ap (λ xs. xs ++ map written (free_letters names (k + 1) m)) (sym is)
    where
      pushed : (b : Bool) (rest : List (List ℕ)) → texts ++ map written (cond b (letter k ∷ rest) rest) ≡ (texts ++ cond b (written (letter k) ∷ []) []) ++ map written rest
      pushed true rest = sym (append_assoc texts (written (letter k) ∷ []) (map written rest))
      pushed false rest = ap (λ xs. xs ++ map written rest) (sym (append-nil texts))

  pub all_letters : (k : ℕ) (texts : List (List ℕ)) → n ≤ k → LettersLeft k texts → texts ≡ map written (free_letters names 0 n)
  all_letters k texts past left =
      let none : n - k ≡ 0 = omega (arith, past) in
      sym (left ∙ ap (λ j. texts ++ map written (free_letters names k j)) none ∙ append-nil texts)

-- ---- unit parameters
pub own_at : (a n v : ℕ) → get_or (map Some (range_with_len a n)) v None ≡ cond (nat_lt v n) (Some (a + v)) None
own_at a n v =
    on_test (nat_lt v n)
    (λ t.
    let inside : v < n = grind (arith, nat_tests) in
    get_or-map-range_with_len Some a n v (a + v) None inside refl ∙ sym (ap (λ b. cond b (Some (a + v)) None) t))
    (λ t.
    let past : n ≤ v = grind (arith, nat_tests) in
    get_or_past (map Some (range_with_len a n)) v None (let all = length-map-range_with_len {X = Option ℕ} Some a n in omega (arith, all, past))
    ∙ sym (ap (λ b. cond b (Some (a + v)) None) t))

-- ---- agreements
module _ (p : ProgramTree) (texts : List (List ℕ)) (agreed : List Agreement) (types : List TypeTree) where
  abbrev pub ToldLeft : ℕ → List Told → List Told → Type 0
  ToldLeft j start all = start ++ told p texts agreed types ≡ all ++ told p texts (drop j agreed) (drop (2 * j) types)

  pub more_told : (j : ℕ) (start all new : List Told) (one : Told) (a : Agreement) (s t : TypeTree) → length types ≡ 2 * length agreed → j < length agreed → get_or agreed j a ≡ a → get_or types (2 * j) s ≡ s → get_or types (2 * j + 1) t ≡ t
      → ToldLeft j start all → one ∷ [] ≡ told p texts (a ∷ []) (s ∷ t ∷ []) → new ≡ all ++ one ∷ [] → ToldLeft (j + 1) start new
  more_told j start all new one a s t many l at first second left is push =
      let next_two : (2 * j + 1) + 1 ≡ 2 * (j + 1) = omega arith in
      let agreements : drop j agreed ≡ a ∷ drop (j + 1) agreed = drop_more agreed j a l ∙ ap (λ x. x ∷ drop (j + 1) agreed) at in
      let ends : drop (2 * j + 1) types ≡ t ∷ drop (2 * (j + 1)) types =
      drop_more types (2 * j + 1) t (omega (arith, many, l)) ∙ ap (λ x. x ∷ drop ((2 * j + 1) + 1) types) second ∙ ap (λ k. t ∷ drop k types) next_two in
      let both : drop (2 * j) types ≡ s ∷ t ∷ drop (2 * (j + 1)) types =
      drop_more types (2 * j) s (omega (arith, many, l)) ∙ ap (λ x. x ∷ drop (2 * j + 1) types) first ∙ ap (λ xs. s ∷ xs) ends in
      left ∙ ap (λ xs. all ++ told p texts xs (drop (2 * j) types)) agreements ∙ ap (λ xs. all ++ told p texts (a ∷ drop (j + 1) agreed) xs) both
      ∙ sym (append_assoc all (told p texts (a ∷ []) (s ∷ t ∷ [])) (told p texts (drop (j + 1) agreed) (drop (2 * (j + 1)) types)))
      ∙ ap (λ xs. (all ++ xs) ++ told p texts (drop (j + 1) agreed) (drop (2 * (j + 1)) types)) (sym is)
      ∙ ap (λ xs. xs ++ told p texts (drop (j + 1) agreed) (drop (2 * (j + 1)) types)) (sym push)
