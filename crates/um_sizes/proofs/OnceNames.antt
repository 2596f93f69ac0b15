-- Names added one by one are those of the sizes, and each stands once.
use Rattle.std.proofs.Common.{◌≡◌, ℕ, Bool, true, false, cond, not, ◌&&◌, ◌||◌, eqb, List, [], ◌∷◌, ◌++◌, Option, Some, None, refl, sym, ap, ◌∙◌, append_assoc, arith}
use Rattle.std.specs.Prelude.{is_some}
use Rattle.std.specs.Option.{option_and_then, option_map}
use Rattle.std.specs.List.{list_all}
use Rattle.std.specs.Str.{bytes_eq}
use Rattle.std.proofs.lemmas.List.Folds.{list_any-append}
use Rattle.std.proofs.lemmas.Bool.Decides.{nat_tests}
use Rattle.um_frac.specs.declared.number.Frac.{Frac}
use Rattle.um_measures.specs.Known.{is_among}
use Rattle.um_sizes.specs.Parts.{parts_of}
use Rattle.um_sizes.specs.ScaleWords.{size_in, sizes_in, are_once, names_of, scales_in, is_scales}
use Rattle.um_sizes.specs.Adding.{names_after}

abbrev none_among : List (List ℕ) → List (List ℕ) → Bool
none_among before names = list_all (λ x. not (is_among before x)) names

-- bytes are equal either way
same_swapped : (xs ys : List ℕ) → bytes_eq xs ys ≡ bytes_eq ys xs
same_swapped [] [] = refl
same_swapped [] (y ∷ ys) = refl
same_swapped (x ∷ xs) [] = refl
same_swapped (x ∷ xs) (y ∷ ys) = rw (same_swapped xs ys) (ap (λ b. b && bytes_eq ys xs) (swapped x y)) where
  swapped : (a b : ℕ) → eqb a b ≡ eqb b a
  swapped a b = grind (arith, nat_tests)

absent : (p q r t : Bool) → (not (p || (q || false)) && (r && not t)) ≡ ((not p && r) && not (q || t))
absent true q r t = refl
absent false true true t = refl
absent false true false t = refl
absent false false r t = refl

-- one name more
none_more : (before : List (List ℕ)) (x : List ℕ) (names : List (List ℕ)) → none_among (before ++ x ∷ []) names ≡ (none_among before names && not (is_among names x))
none_more before x [] = refl
none_more before x (y ∷ ys) =
    ap (λ b. not b && none_among (before ++ x ∷ []) ys) (list_any-append (bytes_eq y) before (x ∷ []))
    ∙ ap (λ b. not (is_among before y || (bytes_eq y x || false)) && b) (none_more before x ys)
    ∙ ap (λ b. not (is_among before y || (b || false)) && (none_among before ys && not (is_among ys x))) (same_swapped y x)
    ∙ absent (is_among before y) (bytes_eq x y) (none_among before ys) (is_among ys x)

-- ---- all parts

abbrev once_behind : List (List ℕ) → List (List ℕ × Frac) → Option (List (List ℕ))
once_behind before ss = cond (are_once (names_of ss) && none_among before (names_of ss)) (Some (before ++ names_of ss)) None

regrouped : (o a b : Bool) → (o && (b && not a)) ≡ ((not a && o) && (true && b))
regrouped true true true = refl
regrouped true true false = refl
regrouped true false b = and_true b where
  and_true : (b : Bool) → (b && true) ≡ b
  and_true true = refl
  and_true false = refl
regrouped false true b = refl
regrouped false false b = refl

pub added : (before parts : List (List ℕ)) → names_after before parts ≡ option_and_then (once_behind before) (sizes_in parts)
added before [] = ap Some (sym (append_nil before)) where
  append_nil : (xs : List (List ℕ)) → xs ++ [] ≡ xs
  append_nil [] = refl
  append_nil (x ∷ xs) = ap (λ (ys : List (List ℕ)). x ∷ ys) (append_nil xs)
added before (part ∷ parts) = by (size_in part) (λ names. added names parts) where
  next : (s : List ℕ × Frac) (ss : List (List ℕ × Frac)) → is_among before s.0 ≡ false → once_behind (before ++ s.0 ∷ []) ss ≡ once_behind before (s ∷ ss)
  next s ss new =
      ap (λ b. cond (are_once (names_of ss) && b) (Some ((before ++ s.0 ∷ []) ++ names_of ss)) None) (none_more before s.0 (names_of ss))
      ∙ ap (λ (ns : List (List ℕ)). cond (are_once (names_of ss) && (none_among before (names_of ss) && not (is_among (names_of ss) s.0))) (Some ns) None) (append_assoc before (s.0 ∷ []) (names_of ss))
      ∙ ap (λ b. cond b (Some (before ++ s.0 ∷ names_of ss)) None) (regrouped (are_once (names_of ss)) (is_among (names_of ss) s.0) (none_among before (names_of ss)))
      ∙ ap (λ b. cond ((not (is_among (names_of ss) s.0) && are_once (names_of ss)) && (not b && none_among before (names_of ss))) (Some (before ++ s.0 ∷ names_of ss)) None) (sym new)

  again : (s : List ℕ × Frac) (ss : List (List ℕ × Frac)) → is_among before s.0 ≡ true → None ≡ once_behind before (s ∷ ss)
  again s ss old =
      sym (ap (λ b. cond ((not (is_among (names_of ss) s.0) && are_once (names_of ss)) && (not b && none_among before (names_of ss))) (Some (before ++ s.0 ∷ names_of ss)) None) old
      ∙ ap (λ b. cond b (Some (before ++ s.0 ∷ names_of ss)) None) (and_no (not (is_among (names_of ss) s.0) && are_once (names_of ss)))) where
        and_no : (b : Bool) → (b && false) ≡ false
        and_no true = refl
        and_no false = refl

  with_size : ((names : List (List ℕ)) → names_after names parts ≡ option_and_then (once_behind names) (sizes_in parts))
      → (s : List ℕ × Frac) (b : Bool) → is_among before s.0 ≡ b → (o : Option (List (List ℕ × Frac))) → sizes_in parts ≡ o
      → option_and_then (λ ns. names_after ns parts) (cond b None (Some (before ++ s.0 ∷ []))) ≡ option_and_then (once_behind before) (option_map (λ ss. s ∷ ss) o)
  with_size more s true e None h = refl
  with_size more s true e (Some ss) h = again s ss e
  with_size more s false e None h = more (before ++ s.0 ∷ []) ∙ ap (option_and_then (once_behind (before ++ s.0 ∷ []))) h
  with_size more s false e (Some ss) h = more (before ++ s.0 ∷ []) ∙ ap (option_and_then (once_behind (before ++ s.0 ∷ []))) h ∙ next s ss e

  by : (o : Option (List ℕ × Frac)) → ((names : List (List ℕ)) → names_after names parts ≡ option_and_then (once_behind names) (sizes_in parts))
      → option_and_then (λ ns. names_after ns parts) (option_and_then (λ s. cond (is_among before s.0) None (Some (before ++ s.0 ∷ []))) o)
      ≡ option_and_then (once_behind before) (option_and_then (λ s. option_map (λ ss. s ∷ ss) (sizes_in parts)) o)
  by None more = refl
  by (Some s) more = with_size more s (is_among before s.0) refl (sizes_in parts) refl

-- a word of sizes is one of which all names are added to none
pub all_added : (word : List ℕ) → is_some (names_after [] (parts_of word)) ≡ is_scales word
unfolding scales_in
all_added word = ap is_some (added [] (parts_of word)) ∙ by (sizes_in (parts_of word)) where
  nothing_before : (names : List (List ℕ)) → none_among [] names ≡ true
  nothing_before [] = refl
  nothing_before (x ∷ xs) = nothing_before xs

  told : (ss : List (List ℕ × Frac)) (b c : Bool) → c ≡ true → is_some (cond (b && c) (Some (names_of ss)) None) ≡ is_some (cond b (Some ss) None)
  told ss true true e = refl
  told ss true false e = absurd (cc e)
  told ss false c e = refl

  by : (o : Option (List (List ℕ × Frac))) → is_some (option_and_then (once_behind []) o) ≡ is_some (option_and_then (λ ss. cond (are_once (names_of ss)) (Some ss) None) o)
  by None = refl
  by (Some ss) = told ss (are_once (names_of ss)) (none_among [] (names_of ss)) (nothing_before (names_of ss))
