-- The columns that white space takes, by the bits of its tabs.
use Rattle.std.proofs.Common.{◌≡◌, refl, sym, ap, ◌∙◌, ℕ, zero, suc, ◌+◌, ◌-◌, ◌*◌, ◌/◌, ◌%◌, ◌^◌, ◌<◌, ◌≤◌, ◌==◌, ◌&&◌, eqb, ltb, eqb-true, Bool, true, false, cond, List, [], ◌∷◌, ◌++◌, length, map, take, drop, get_or, replicate, append_assoc, inl, inr, arith}
use Rattle.std.specs.Simd.Lanes.{mask_l}
use lib.Lanes.{chunk}
use Rattle.std.proofs.lemmas.Bool.{cases_eq, ltb-true}
use Rattle.std.specs.Prelude.{slice_range}
use Rattle.std.proofs.lemmas.List.{drop_more, drop-drop, ext_get_or, length-append, length-drop, length-take-le, take-append-drop}
use Rattle.std.proofs.lemmas.Simd.{length-replicate, get_or-replicate, mask_l-lt}
use Rattle.um_tidy.specs.declared.columns.TheConstants.{TABS}
use Rattle.um_tidy.specs.Gaps.{width_from, spaces}
use Rattle.um_tidy.specs.Placed.{columns_after}
use Rattle.um_tidy.proofs.GapsAgain.{width_spaces}
use Rattle.um_tidy.proofs.PlacedComments.{part_size, part_byte, spaces_join}

pub width_by_tabs : (w : ℕ) (xs : List ℕ) → width_from w xs ≡ columns_after w (map (λ c. c == 9) xs)
width_by_tabs w [] = refl
width_by_tabs w (x ∷ xs) = width_by_tabs (cond (x == 9) (w / 4 * 4 + 4) (w + 1)) xs

pub width_more : (w : ℕ) (xs ys : List ℕ) → width_from w (xs ++ ys) ≡ width_from (width_from w xs) ys
width_more w [] ys = refl
width_more w (x ∷ xs) ys = width_more (cond (x == 9) (w / 4 * 4 + 4) (w + 1)) xs ys

plain_row : (gap : List ℕ) (at n : ℕ) → at + n ≤ length gap → ((k : ℕ) → at ≤ k → k < at + n → get_or gap k 0 ≡ 32) → slice_range gap at (at + n) ≡ spaces n
plain_row gap at n room plain =
    let size = part_size gap at (at + n) room in
    let whole : length (spaces n) ≡ n = length-replicate n 32 in
    ext_get_or 0 (slice_range gap at (at + n)) (spaces n) (omega (arith, size, whole))
    (λ k less.
    let short : k < n = omega (arith, less, size) in
    part_byte gap at (at + n) k (omega (arith, short)) ∙ plain (at + k) (omega arith) (omega (arith, short)) ∙ sym (get_or-replicate n k 32 0 short))

-- spaces alone
pub columns_plain_of : (gap : List ℕ) (w at n : ℕ) → at + n ≤ length gap → ((k : ℕ) → at ≤ k → k < at + n → get_or gap k 0 ≡ 32) → width_from w (slice_range gap at (at + n)) ≡ w + n
columns_plain_of gap w at n room plain = ap (width_from w) (plain_row gap at n room plain) ∙ width_spaces w n

pub plain_part : (gap : List ℕ) (from to : ℕ) → from ≤ to → to ≤ length gap → ((k : ℕ) → from ≤ k → k < to → get_or gap k 0 ≡ 32) → slice_range gap from to ≡ spaces (to - from)
plain_part gap from to order within plain =
    let place : from + (to - from) ≡ to = omega (arith, order) in
    ap (slice_range gap from) (sym place) ∙ plain_row gap from (to - from) (omega (arith, place, within)) (λ k low high. plain k low (omega (arith, high, place)))

-- at most four columns a byte
pub columns_few : (w : ℕ) (ts : List Bool) → columns_after w ts ≤ w + 4 * length ts
columns_few w [] = omega arith
columns_few w (true ∷ ts) = let few = columns_few (w / 4 * 4 + 4) ts in omega (arith, few)
columns_few w (false ∷ ts) = let few = columns_few (w + 1) ts in omega (arith, few)

columns_more : (w : ℕ) (ts us : List Bool) → columns_after w (ts ++ us) ≡ columns_after (columns_after w ts) us
columns_more w [] us = refl
columns_more w (t ∷ ts) us = columns_more (cond t (w / 4 * 4 + 4) (w + 1)) ts us

columns_plain : (w n : ℕ) → columns_after w (replicate n false) ≡ w + n
columns_plain w zero = omega arith
columns_plain w (suc n) = columns_plain (w + 1) n ∙ omega arith

-- a column more or less by whole tabs
columns_on : (q c : ℕ) (ts : List Bool) → columns_after (4 * q + c) ts ≡ 4 * q + columns_after c ts
columns_on q c [] = refl
columns_on q c (true ∷ ts) =
    let next : (4 * q + c) / 4 * 4 + 4 ≡ 4 * q + (c / 4 * 4 + 4) = omega arith in
    ap (λ w. columns_after w ts) next ∙ columns_on q (c / 4 * 4 + 4) ts
columns_on q c (false ∷ ts) =
    let next : 4 * q + c + 1 ≡ 4 * q + (c + 1) = omega arith in
    ap (λ w. columns_after w ts) next ∙ columns_on q (c + 1) ts

-- 16 bytes more
pub width_past : (space : List ℕ) (at w v : ℕ) → v ≡ columns_after w (map (λ c. c == 9) (chunk at 16 space)) → width_from v (drop (at + 16) space) ≡ width_from w (drop at space)
width_past space at w v stands =
    let part = chunk at 16 space in
    ap (λ u. width_from u (drop (at + 16) space)) (stands ∙ sym (width_by_tabs w part))
    ∙ ap (width_from (width_from w part)) (sym (drop-drop 16 at space))
    ∙ sym (width_more w part (drop 16 (drop at space)))
    ∙ ap (width_from w) (take-append-drop 16 (drop at space))

-- a byte more
pub width_one : (space : List ℕ) (at w v : ℕ) → at < length space → v ≡ width_from w (get_or space at 0 ∷ []) → width_from v (drop (at + 1) space) ≡ width_from w (drop at space)
width_one space at w v some stands =
    ap (λ u. width_from u (drop (at + 1) space)) stands ∙ ap (width_from w) (sym (drop_more space at 0 some))

-- spaces that are left
pub spaces_less : (text more : List ℕ) (some left : ℕ) → some ≤ left → more ≡ text ++ spaces some → more ++ spaces (left - some) ≡ text ++ spaces left
spaces_less text more some left fit added =
    let all : some + (left - some) ≡ left = omega (arith, fit) in
    ap (λ xs. xs ++ spaces (left - some)) added
    ∙ append_assoc text (spaces some) (spaces (left - some))
    ∙ ap (λ xs. text ++ xs) (spaces_join some (left - some) ∙ ap spaces all)

-- ---- the table

bits : ℕ → ℕ → List Bool
bits zero k = []
bits (suc n) k = (k % 2 == 1) ∷ bits n (k / 2)

bits_again : (ts : List Bool) → bits (length ts) (mask_l ts) ≡ ts
unfolding bits
bits_again [] = refl
bits_again (true ∷ ts) =
    let odd : (1 + 2 * mask_l ts) % 2 ≡ 1 = omega arith in
    let half : (1 + 2 * mask_l ts) / 2 ≡ mask_l ts = omega arith in
    λ i. (odd i == 1) ∷ (ap (bits (length ts)) half ∙ bits_again ts) i
bits_again (false ∷ ts) =
    let even : (0 + 2 * mask_l ts) % 2 ≡ 0 = omega arith in
    let half : (0 + 2 * mask_l ts) / 2 ≡ mask_l ts = omega arith in
    λ i. (even i == 1) ∷ (ap (bits (length ts)) half ∙ bits_again ts) i

abbrev entry : ℕ → ℕ → ℕ
entry c m = get_or (get_or TABS c []) m 0

-- the first n numbers of a row are right, and small
fits_below : ℕ → ℕ → Bool
fits_below c zero = true
fits_below c (suc n) = eqb (columns_after c (bits 8 n)) (c + 8 + entry c n) && (ltb (entry c n) 25 && fits_below c n)

row_fits : (c : ℕ) → c < 4 → fits_below c 256 ≡ true
unfolding fits_below bits
row_fits zero less = refl
row_fits (suc zero) less = refl
row_fits (suc (suc zero)) less = refl
row_fits (suc (suc (suc zero))) less = refl
row_fits (suc (suc (suc (suc c)))) less = absurd (omega (arith, less))

three_of : (x y rest : Bool) → (x && (y && rest)) ≡ true → (x ≡ true) × (y ≡ true) × (rest ≡ true)
three_of true true true h = (refl, refl, refl)
three_of true true false h = cc
three_of true false rest h = cc
three_of false y rest h = cc

fits_at : (c n m : ℕ) → fits_below c n ≡ true → m < n → (eqb (columns_after c (bits 8 m)) (c + 8 + entry c m) ≡ true) × (ltb (entry c m) 25 ≡ true)
unfolding fits_below
fits_at c zero m h less = absurd (omega (arith, less))
fits_at c (suc n) m h less =
    let (here, small, below) = three_of (eqb (columns_after c (bits 8 n)) (c + 8 + entry c n)) (ltb (entry c n) 25) (fits_below c n) h in
    elim (cases_eq m n) [ inl same ↦ rw same (here, small) | inr other ↦ fits_at c n m below (omega (arith, less, other)) ]

pub tabs_few : (w m : ℕ) → m < 256 → entry (w % 4) m ≤ 24
tabs_few w m less =
    let (right, small) = fits_at (w % 4) 256 m (row_fits (w % 4) (omega arith)) less in
    let below = ltb-true _ _ small in
    omega (arith, below)

pub tabs_more_is : (w m : ℕ) → m < 256 → (ts : List Bool) → length ts ≡ 8 → mask_l ts ≡ m → columns_after w ts ≡ w + 8 + entry (w % 4) m
tabs_more_is w m less ts size is =
    let (right, small) = fits_at (w % 4) 256 m (row_fits (w % 4) (omega arith)) less in
    let same : bits 8 m ≡ ts = sym (λ i. bits (size i) (is i)) ∙ bits_again ts in
    let parts : w ≡ 4 * (w / 4) + w % 4 = omega arith in
    let row : columns_after (w % 4) ts ≡ w % 4 + 8 + entry (w % 4) m = ap (columns_after (w % 4)) (sym same) ∙ eqb-true _ _ right in
    ap (λ v. columns_after v ts) parts ∙ columns_on (w / 4) (w % 4) ts ∙ omega (arith, row, parts)

-- ---- up to 16 bytes

mask_blank : (n : ℕ) → mask_l (replicate n false) ≡ 0
mask_blank zero = refl
mask_blank (suc n) = let none = mask_blank n in omega (arith, none)

mask_longer : (ts : List Bool) (n : ℕ) → mask_l (ts ++ replicate n false) ≡ mask_l ts
mask_longer [] n = mask_blank n
mask_longer (t ∷ ts) n = ap (λ m. cond t 1 0 + 2 * m) (mask_longer ts n)

-- a mask of few bits
pub mask_few : (ts : List Bool) → length ts ≤ 8 → mask_l ts < 256
mask_few ts few =
    let longer = ts ++ replicate (8 - length ts) false in
    let least = mask_l-lt longer in
    let parts = length-append ts (replicate (8 - length ts) false) in
    let left = length-replicate (8 - length ts) false in
    let size : length longer ≡ 8 = omega (arith, parts, left, few) in
    let eight = ap (λ n. 2 ^ n) size in
    let same = mask_longer ts (8 - length ts) in
    omega (arith, least, eight, same)

doubled : ℕ → ℕ → ℕ
doubled zero m = m
doubled (suc n) m = 2 * doubled n m

mask_parts : (ts us : List Bool) → mask_l (ts ++ us) ≡ mask_l ts + doubled (length ts) (mask_l us)
unfolding doubled
mask_parts [] us = omega arith
mask_parts (t ∷ ts) us = let more = mask_parts ts us in omega (arith, more)

eight_times : (m : ℕ) → doubled 8 m ≡ 256 * m
unfolding doubled
eight_times m = omega arith

pub columns_near : (w len tabs more : ℕ) → len ≤ 8 → ((ts : List Bool) → length ts ≡ 8 → mask_l ts ≡ tabs → columns_after w ts ≡ w + 8 + more)
    → (ts : List Bool) → length ts ≡ len → mask_l ts ≡ tabs → w + len + more ≡ columns_after w ts
columns_near w len tabs more few table ts size is =
    let rest = replicate (8 - len) false in
    let left = length-replicate (8 - len) false in
    let whole = length-append ts rest in
    let all = table (ts ++ rest) (omega (arith, whole, left, size, few)) (mask_longer ts (8 - len) ∙ is) in
    let parts = columns_more w ts rest in
    let plain = columns_plain (columns_after w ts) (8 - len) in
    omega (arith, all, parts, plain, few)

module _ (w len tabs first second : ℕ) (some : 8 < len) (few : len ≤ 16)
    (front : (ts : List Bool) → length ts ≡ 8 → mask_l ts ≡ tabs % 256 → columns_after w ts ≡ w + 8 + first)
    (back : (ts : List Bool) → length ts ≡ 8 → mask_l ts ≡ tabs / 256 → columns_after (w + 8 + first) ts ≡ w + 8 + first + 8 + second) where
  pub columns_far : (ts : List Bool) → length ts ≡ len → mask_l ts ≡ tabs → w + 8 + first + (len - 8) + second ≡ columns_after w ts
  columns_far ts size is =
      let fore = take 8 ts in
      let aft = drop 8 ts in
      let fore_size = length-take-le 8 ts (omega (arith, size, some)) in
      let aft_size = length-drop 8 ts in
      let whole = take-append-drop 8 ts in
      let parts : mask_l fore + 256 * mask_l aft ≡ tabs = ap (λ d. mask_l fore + d) (sym (eight_times (mask_l aft))) ∙ ap (λ n. mask_l fore + doubled n (mask_l aft)) (sym fore_size) ∙ sym (mask_parts fore aft) ∙ ap mask_l whole ∙ is in
      let small : mask_l fore < 256 = let bound = mask_l-lt fore in let eight = ap (λ n. 2 ^ n) fore_size in omega (arith, bound, eight) in
      let one = front fore fore_size (omega (arith, parts, small)) in
      let two = columns_near (w + 8 + first) (len - 8) (tabs / 256) second (omega (arith, few)) back aft (omega (arith, aft_size, size)) (omega (arith, parts, small)) in
      two ∙ ap (λ v. columns_after v aft) (sym one) ∙ sym (columns_more w fore aft) ∙ ap (columns_after w) whole
