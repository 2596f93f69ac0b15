-- White space of a line, 16 bytes at once: where it ends, and the columns that it takes.
use Rattle.std.proofs.Common.{◌≡◌, refl, sym, ap, ◌∙◌, ℕ, suc, ◌+◌, ◌-◌, ◌*◌, ◌/◌, ◌%◌, ◌^◌, ◌<◌, ◌≤◌, ◌==◌, ◌||◌, eqb, Bool, true, false, cond, not, min, List, [], ◌∷◌, ◌++◌, length, map, take, drop, get_or, bit_and, bit_or, replicate, inl, inr, arith}
use Rattle.std.specs.Prelude.{slice_range}
use Rattle.std.specs.Int.{w64, trailing_zeros}
use Rattle.std.specs.List.{prefix_len}
use Rattle.std.specs.Simd.Lanes.{mask_l}
use lib.Bits.{and_step}
use lib.Lanes.{chunk, zip2, top}
use Rattle.std.proofs.lemmas.Bool.{cases_Bool, cases_lt, not-true, not-false}
use Rattle.std.proofs.lemmas.List.{length-map, length-take-le, take-take}
use Rattle.std.proofs.lemmas.Simd.{map-map, zip2_splat, zip2_of_maps, length-chunk, mask_l-lt, mask_l-mod, first_set_mask_l, none_from_empty_mask, run_in_chunk_fails, run_in_chunk_stops}
use Rattle.um_syntax.specs.Gap.{is_space}
use Rattle.um_tidy.specs.declared.margin.Margin.{Margin}
use Rattle.um_tidy.specs.Gaps.{in_line, width_from}
use Rattle.um_tidy.specs.Placed.{is_line_space, columns_after, tabs_mask, marks_mask, ends_mask, IsLineMargin}
use Rattle.um_tidy.proofs.Masks.{some_set, some_before}
use Rattle.um_tidy.proofs.PlacedComments.{part_more, part_none, part_one}
use Rattle.um_tidy.proofs.TabColumns.{width_by_tabs, width_more, columns_few, columns_plain_of}

-- ---- a byte

pub space_of_line : (c : ℕ) → is_line_space c ≡ true → is_space c ≡ true
space_of_line c space = grind arith

pub within_line : (c : ℕ) → is_line_space c ≡ true → in_line c ≡ true
within_line c space = grind arith

pub other_byte : (c : ℕ) → is_line_space c ≡ false → (c ≡ 10 → ⊥) → is_space c ≡ false
other_byte c other line = grind (arith, other, line)

pub high_byte : (c : ℕ) → 32 < c → is_space c ≡ false
high_byte c high = grind (arith, high)

abbrev is_tab : ℕ → Bool
is_tab c = c == 9

abbrev is_mark : ℕ → Bool
is_mark c = c == 9 || c == 13

abbrev is_end : ℕ → Bool
is_end c = not (is_line_space c)

unmarked : (c : ℕ) → is_line_space c ≡ true → is_mark c ≡ false → c ≡ 32
unmarked c space plain = grind (arith, space, plain)

-- ---- the masks

map_same : (f g : ℕ → Bool) → ((c : ℕ) → f c ≡ g c) → (xs : List ℕ) → map f xs ≡ map g xs
map_same f g same [] = refl
map_same f g same (x ∷ xs) = λ i. same x i ∷ map_same f g same xs i

abbrev apart : List ℕ → ℕ → List ℕ
apart v c = zip2 (λ a b. cond (not (eqb a b)) 255 0) v (replicate 16 c)

abbrev alike : List ℕ → ℕ → List ℕ
alike v c = zip2 (λ a b. cond (eqb a b) 255 0) v (replicate 16 c)

apart_is : (v : List ℕ) (c : ℕ) → length v ≡ 16 → apart v c ≡ map (λ x. cond (not (eqb x c)) 255 0) v
apart_is v c long = zip2_splat (λ a b. cond (not (eqb a b)) 255 0) v 16 c long

alike_is : (v : List ℕ) (c : ℕ) → length v ≡ 16 → alike v c ≡ map (λ x. cond (eqb x c) 255 0) v
alike_is v c long = zip2_splat (λ a b. cond (eqb a b) 255 0) v 16 c long

three_lanes : (p q r : Bool) → top 7 (bit_and (bit_and (cond (not p) 255 0) (cond (not q) 255 0)) (cond (not r) 255 0)) ≡ not (p || (q || r))
three_lanes true true true = refl
three_lanes true true false = refl
three_lanes true false true = refl
three_lanes true false false = refl
three_lanes false true true = refl
three_lanes false true false = refl
three_lanes false false true = refl
three_lanes false false false = refl

two_lanes : (p q : Bool) → top 7 (bit_or (cond p 255 0) (cond q 255 0)) ≡ (p || q)
two_lanes true true = refl
two_lanes true false = refl
two_lanes false true = refl
two_lanes false false = refl

pub ends_are : (v : List ℕ) → length v ≡ 16
    → mask_l (map (top 7) (zip2 bit_and (zip2 bit_and (apart v 32) (apart v 9)) (apart v 13))) % 2 ^ 64 ≡ mask_l (map (λ c. not (is_line_space c)) v)
ends_are v long =
    let lanes : ℕ → ℕ = λ x. bit_and (bit_and (cond (not (eqb x 32)) 255 0) (cond (not (eqb x 9)) 255 0)) (cond (not (eqb x 13)) 255 0) in
    let both = zip2_of_maps bit_and (λ x. cond (not (eqb x 32)) 255 0) (λ x. cond (not (eqb x 9)) 255 0) v (apart_is v 32 long) (apart_is v 9 long) in
    let all = zip2_of_maps bit_and (λ x. bit_and (cond (not (eqb x 32)) 255 0) (cond (not (eqb x 9)) 255 0)) (λ x. cond (not (eqb x 13)) 255 0) v both (apart_is v 13 long) in
    let size = length-map v is_end in
    ap (λ ms. mask_l ms % 2 ^ 64) (ap (map (top 7)) all ∙ map-map (top 7) lanes v ∙ map_same (λ x. top 7 (lanes x)) is_end (λ x. three_lanes (eqb x 32) (eqb x 9) (eqb x 13)) v)
    ∙ mask_l-mod (map is_end v) 64 (omega (arith, size, long))

pub marks_are : (v : List ℕ) → length v ≡ 16
    → mask_l (map (top 7) (zip2 bit_or (alike v 9) (alike v 13))) % 2 ^ 64 ≡ mask_l (map (λ c. c == 9 || c == 13) v)
marks_are v long =
    let lanes : ℕ → ℕ = λ x. bit_or (cond (eqb x 9) 255 0) (cond (eqb x 13) 255 0) in
    let all = zip2_of_maps bit_or (λ x. cond (eqb x 9) 255 0) (λ x. cond (eqb x 13) 255 0) v (alike_is v 9 long) (alike_is v 13 long) in
    let size = length-map v is_mark in
    ap (λ ms. mask_l ms % 2 ^ 64) (ap (map (top 7)) all ∙ map-map (top 7) lanes v ∙ map_same (λ x. top 7 (lanes x)) is_mark (λ x. two_lanes (eqb x 9) (eqb x 13)) v)
    ∙ mask_l-mod (map is_mark v) 64 (omega (arith, size, long))

pub mask_short : (p : ℕ → Bool) (v : List ℕ) → length v ≡ 16 → mask_l (map p v) < 65536
mask_short p v long =
    let few = mask_l-lt (map p v) in
    let size = ap (λ n. 2 ^ n) (length-map v p ∙ long) in
    omega (arith, few, size)

-- ---- the bits before the first end

half : (t : Bool) (a : ℕ) → (cond t 1 0 + 2 * a) / 2 ≡ a
half true a = omega arith
half false a = omega arith

lowest_bit : (t : Bool) (a : ℕ) → (cond t 1 0 + 2 * a) % 2 ≡ cond t 1 0
lowest_bit true a = omega arith
lowest_bit false a = omega arith

and_bits : (t e : Bool) (a b : ℕ) → bit_and (cond t 1 0 + 2 * a) (cond e 1 0 + 2 * b) ≡ bit_and a b * 2 + min (cond t 1 0) (cond e 1 0)
and_bits t e a b = and_step (cond t 1 0 + 2 * a) (cond e 1 0 + 2 * b) ∙ (λ i. bit_and (half t a i) (half e b i) * 2 + min (lowest_bit t a i) (lowest_bit e b i))

min_bit : (t : Bool) → min (cond t 1 0) 1 ≡ cond t 1 0
min_bit true = refl
min_bit false = refl

min_none : (t : Bool) → min (cond t 1 0) 0 ≡ 0
min_none true = refl
min_none false = refl

-- a test that only white space of a line passes
abbrev IsApart : (ℕ → Bool) → Type 0
IsApart p = (c : ℕ) → min (cond {A = ℕ} (p c) 1 0) (cond {A = ℕ} (is_end c) 1 0) ≡ 0

apart_tabs : (p q r : Bool) → min (cond q 1 0) (cond (not (p || (q || r))) 1 0) ≡ 0
apart_tabs true true r = refl
apart_tabs true false r = refl
apart_tabs false true r = refl
apart_tabs false false true = refl
apart_tabs false false false = refl

apart_marks : (p q r : Bool) → min (cond (q || r) 1 0) (cond (not (p || (q || r))) 1 0) ≡ 0
apart_marks true true r = refl
apart_marks true false true = refl
apart_marks true false false = refl
apart_marks false true r = refl
apart_marks false false true = refl
apart_marks false false false = refl

abbrev bits_of : (ℕ → Bool) → List ℕ → ℕ
bits_of p xs = mask_l (map p xs)

abbrev before : List ℕ → List ℕ
before xs = take (prefix_len (λ c. not (is_end c)) xs) xs

none_both : (p : ℕ → Bool) → IsApart p → (xs : List ℕ) → bit_and (bits_of p xs) (bits_of is_end xs) ≡ 0
none_both p apart [] = refl
none_both p apart (x ∷ xs) =
    and_bits (p x) (is_end x) (bits_of p xs) (bits_of is_end xs)
    ∙ (λ i. none_both p apart xs i * 2 + apart x i)

first_bits : (p : ℕ → Bool) → IsApart p → (xs : List ℕ) → 0 < bits_of is_end xs → bit_and (bits_of p xs) (bits_of is_end xs - 1) ≡ bits_of p (before xs)
first_bits p apart [] some = absurd (omega (arith, some))
first_bits p apart (x ∷ xs) some = elim (cases_Bool (is_line_space x)) [
  | inl space ↦
      let one : 1 + prefix_len (λ c. not (is_end c)) xs ≡ suc (prefix_len (λ c. not (is_end c)) xs) = omega arith in
      let clear : cond {A = ℕ} (is_end x) 1 0 ≡ 0 = ap (λ b. cond (not b) 1 0) space in
      let later : 0 < bits_of is_end xs = omega (arith, some, clear) in
      let less : bits_of is_end (x ∷ xs) - 1 ≡ 1 + 2 * (bits_of is_end xs - 1) = omega (arith, clear, later) in
      let all : bits_of p (before (x ∷ xs)) ≡ cond {A = ℕ} (p x) 1 0 + 2 * bits_of p (before xs) =
      ap (λ b. bits_of p (take (cond (not (not b)) (1 + prefix_len (λ c. not (is_end c)) xs) 0) (x ∷ xs))) space ∙ ap (λ k. bits_of p (take k (x ∷ xs))) one in
      let joint : bit_and (bits_of p (x ∷ xs)) (1 + 2 * (bits_of is_end xs - 1)) ≡ bit_and (bits_of p xs) (bits_of is_end xs - 1) * 2 + min (cond {A = ℕ} (p x) 1 0) 1 =
      and_bits (p x) true (bits_of p xs) (bits_of is_end xs - 1) in
      let bit = min_bit (p x) in
      let rest = first_bits p apart xs later in
      ap (bit_and (bits_of p (x ∷ xs))) less ∙ omega (arith, joint, bit, rest, all)
  | inr other ↦
      let set : cond {A = ℕ} (is_end x) 1 0 ≡ 1 = ap (λ b. cond (not b) 1 0) other in
      let less : bits_of is_end (x ∷ xs) - 1 ≡ 0 + 2 * bits_of is_end xs = omega (arith, set) in
      let all : bits_of p (before (x ∷ xs)) ≡ 0 =
      ap (λ b. bits_of p (take (cond (not (not b)) (1 + prefix_len (λ c. not (is_end c)) xs) 0) (x ∷ xs))) other in
      let joint : bit_and (bits_of p (x ∷ xs)) (0 + 2 * bits_of is_end xs) ≡ bit_and (bits_of p xs) (bits_of is_end xs) * 2 + min (cond {A = ℕ} (p x) 1 0) 0 =
      and_bits (p x) false (bits_of p xs) (bits_of is_end xs) in
      let bit = min_none (p x) in
      let none = none_both p apart xs in
      ap (bit_and (bits_of p (x ∷ xs))) less ∙ omega (arith, joint, bit, none, all)
]

-- ---- more white space of a line

pub no_margin : (gap : List ℕ) (at : ℕ) → at ≤ length gap → IsLineMargin gap (record { line = at; end = at; width = 0; others = 0 })
no_margin gap at within = record {
  order = (omega arith, within);
  space = λ k low high. absurd (omega (arith, low, high));
  width = ap (width_from 0) (sym (part_none gap at));
  plain = λ none k low high. absurd (omega (arith, low, high));
}

pub line_more : (gap : List ℕ) (m : Margin) (n w o : ℕ) → IsLineMargin gap m → m.end + n ≤ length gap → ((k : ℕ) → m.end ≤ k → k < m.end + n → is_line_space (get_or gap k 0) ≡ true)
    → w ≡ width_from m.width (slice_range gap m.end (m.end + n)) → (o ≡ 0 → (m.others ≡ 0) × ((k : ℕ) → m.end ≤ k → k < m.end + n → get_or gap k 0 ≡ 32))
    → IsLineMargin gap (record { line = m.line; end = m.end + n; width = w; others = o })
line_more gap m n w o is room space width plain = record {
  order = (omega (arith, is.order.0), room);
  space = λ k low high. elim (cases_lt k m.end) [
    | inl sooner ↦ is.space k low sooner
    | inr later ↦ space k later high
  ];
  width =
      width
      ∙ ap (λ v. width_from v (slice_range gap m.end (m.end + n))) is.width
      ∙ sym (width_more 0 (slice_range gap m.line m.end) (slice_range gap m.end (m.end + n)))
      ∙ ap (width_from 0) (sym (part_more gap m.line m.end (m.end + n) is.order.0 (omega arith)));
  plain = λ none k low high. elim (cases_lt k m.end) [
    | inl sooner ↦ is.plain (plain none).0 k low sooner
    | inr later ↦ (plain none).1 k later high
  ];
}

-- a byte more
pub line_one : (gap : List ℕ) (m : Margin) (w o : ℕ) → IsLineMargin gap m → m.end < length gap → is_line_space (get_or gap m.end 0) ≡ true
    → w ≡ width_from m.width (get_or gap m.end 0 ∷ []) → (o ≡ 0 → (m.others ≡ 0) × (get_or gap m.end 0 ≡ 32))
    → IsLineMargin gap (record { line = m.line; end = m.end + 1; width = w; others = o })
line_one gap m w o is some here width plain =
    line_more gap m 1 w o is (omega (arith, some))
    (λ k low high. let same : m.end ≡ k = omega (arith, low, high) in ap (λ j. is_line_space (get_or gap j 0)) (sym same) ∙ here)
    (width ∙ ap (width_from m.width) (sym (part_one gap m.end some)))
    (λ none. ((plain none).0, λ k low high. let same : m.end ≡ k = omega (arith, low, high) in ap (λ j. get_or gap j 0) (sym same) ∙ (plain none).1))

-- up to a place, by its bytes
pub line_up_to : (gap : List ℕ) (m : Margin) (e w : ℕ) → IsLineMargin gap m → m.end ≤ e → e ≤ length gap → ((k : ℕ) → m.end ≤ k → k < e → is_line_space (get_or gap k 0) ≡ true)
    → w ≡ width_from m.width (slice_range gap m.end e) → IsLineMargin gap (record { line = m.line; end = e; width = w; others = 1 })
line_up_to gap m e w is order within space width = record {
  order = (omega (arith, is.order.0, order), within);
  space = λ k low high. elim (cases_lt k m.end) [
    | inl sooner ↦ is.space k low sooner
    | inr later ↦ space k later high
  ];
  width =
      width
      ∙ ap (λ v. width_from v (slice_range gap m.end e)) is.width
      ∙ sym (width_more 0 (slice_range gap m.line m.end) (slice_range gap m.end e))
      ∙ ap (width_from 0) (sym (part_more gap m.line m.end e is.order.0 order));
  plain = λ none k low high. absurd (omega (arith, none));
}

pub byte_more : (gap : List ℕ) (from column end v w : ℕ) → from ≤ end → end < length gap → v ≡ width_from column (slice_range gap from end) → w ≡ width_from v (get_or gap end 0 ∷ [])
    → w ≡ width_from column (slice_range gap from (end + 1))
byte_more gap from column end v w order some before width =
    let here = get_or gap end 0 ∷ [] in
    width
    ∙ ap (λ u. width_from u here) before
    ∙ sym (width_more column (slice_range gap from end) here)
    ∙ ap (width_from column) (sym (part_more gap from end (end + 1) order (omega arith) ∙ ap (λ ys. slice_range gap from end ++ ys) (part_one gap end some)))

pub space_more : (gap : List ℕ) (from end : ℕ) → ((k : ℕ) → from ≤ k → k < end → is_line_space (get_or gap k 0) ≡ true) → is_line_space (get_or gap end 0) ≡ true
    → (k : ℕ) → from ≤ k → k < end + 1 → is_line_space (get_or gap k 0) ≡ true
space_more gap from end before here = λ k low high. elim (cases_lt k end) [
  | inl sooner ↦ before k low sooner
  | inr later ↦ let same : end ≡ k = omega (arith, later, high) in ap (λ j. is_line_space (get_or gap j 0)) (sym same) ∙ here
]

-- ---- the next 16 bytes, if the white space ends there

module _ (gap : List ℕ) (m : Margin) (ends n : ℕ) (is : IsLineMargin gap m) (room : m.end + 16 ≤ length gap) (by_ends : ends ≡ ends_mask gap m.end) (some : 0 < ends)
    (lowest : n ≡ trailing_zeros w64 ends) where
  abbrev part : List ℕ
  part = chunk m.end 16 gap

  long : length part ≡ 16
  long = length-chunk m.end 16 gap room

  set : 0 < bits_of is_end part
  set = omega (arith, some, by_ends)

  counted : n ≡ prefix_len (λ c. not (is_end c)) part
  counted =
      lowest ∙ some_set ends some ∙ ap (λ k. cond (eqb k 0) 16 (trailing_zeros w64 k)) by_ends ∙ first_set_mask_l is_end part 16 long (omega arith)

  pub part_few : n < 16
  part_few = let few = some_before is_end part set in omega (arith, few, counted, long)

  part_space : (k : ℕ) → m.end ≤ k → k < m.end + n → is_line_space (get_or gap k 0) ≡ true
  part_space k low high = not-false _ (run_in_chunk_fails is_end gap m.end 16 n 0 room counted k low high)

  pub part_ended : is_line_space (get_or gap (m.end + n) 0) ≡ false
  part_ended = not-true _ (run_in_chunk_stops is_end gap m.end 16 n 0 room counted part_few)

  -- the first of them
  row : chunk m.end n gap ≡ take n part
  row = sym (take-take n 16 (drop m.end gap) (omega (arith, part_few)))

  slice_row : slice_range gap m.end (m.end + n) ≡ take n part
  slice_row = let size : m.end + n - m.end ≡ n = omega arith in ap (λ k. take k (drop m.end gap)) size ∙ row

  bits_before : (p : ℕ → Bool) → IsApart p → (mask : ℕ) → mask ≡ bits_of p part → bits_of p (take n part) ≡ bit_and mask (ends - 1)
  bits_before p apart mask stands = ap (λ k. bits_of p (take k part)) counted ∙ sym (first_bits p apart part set) ∙ sym (λ i. bit_and (stands i) (by_ends i - 1))

  pub part_tabs : List Bool
  part_tabs = map (λ c. c == 9) (take n part)

  pub part_tabs_size : length part_tabs ≡ n
  unfolding part_tabs
  part_tabs_size = length-map (take n part) is_tab ∙ length-take-le n part (omega (arith, long, part_few))

  pub part_tabs_mask : (tabs : ℕ) → tabs ≡ tabs_mask gap m.end → mask_l part_tabs ≡ bit_and tabs (ends - 1)
  unfolding part_tabs
  part_tabs_mask tabs stands = bits_before is_tab (λ c. apart_tabs (c == 32) (c == 9) (c == 13)) tabs stands

  -- no tab and no CR
  part_plain : (marks : ℕ) → marks ≡ marks_mask gap m.end → bit_and marks (ends - 1) ≡ 0 → (k : ℕ) → m.end ≤ k → k < m.end + n → get_or gap k 0 ≡ 32
  part_plain marks stands none k low high =
      let clear : bits_of is_mark (chunk m.end n gap) ≡ 0 = ap (bits_of is_mark) row ∙ bits_before is_mark (λ c. apart_marks (c == 32) (c == 9) (c == 13)) marks stands ∙ none in
      unmarked (get_or gap k 0) (part_space k low high)
      (none_from_empty_mask is_mark gap m.end n 0 (omega (arith, room, part_few)) clear k low high)

  part_room : m.end + n ≤ length gap
  part_room = omega (arith, room, part_few)

  pub part_marked : (marks w : ℕ) → marks ≡ marks_mask gap m.end → w ≡ columns_after m.width part_tabs
      → IsLineMargin gap (record { line = m.line; end = m.end + n; width = w; others = m.others + bit_and marks (ends - 1) })
  unfolding part_tabs
  part_marked marks w stands width =
      line_more gap m n w (m.others + bit_and marks (ends - 1)) is part_room part_space
      (width ∙ sym (width_by_tabs m.width (take n part)) ∙ ap (width_from m.width) (sym slice_row))
      (λ none. (omega (arith, none), part_plain marks stands (omega (arith, none))))

  pub part_unmarked : (marks : ℕ) → marks ≡ marks_mask gap m.end → bit_and marks (ends - 1) ≡ 0
      → IsLineMargin gap (record { line = m.line; end = m.end + n; width = m.width + n; others = m.others })
  part_unmarked marks stands none =
      let alone = part_plain marks stands none in
      line_more gap m n (m.width + n) m.others is part_room part_space
      (sym (columns_plain_of gap m.width m.end n part_room alone))
      (λ old. (old, alone))

-- ---- the next 16 bytes, if all of them are white space

module _ (gap : List ℕ) (m : Margin) (is : IsLineMargin gap m) (room : m.end + 16 ≤ length gap) (none : ends_mask gap m.end ≡ 0) where
  abbrev whole : List ℕ
  whole = chunk m.end 16 gap

  whole_long : length whole ≡ 16
  whole_long = length-chunk m.end 16 gap room

  whole_space : (k : ℕ) → m.end ≤ k → k < m.end + 16 → is_line_space (get_or gap k 0) ≡ true
  whole_space k low high = not-false _ (none_from_empty_mask is_end gap m.end 16 0 room none k low high)

  whole_row : slice_range gap m.end (m.end + 16) ≡ whole
  whole_row = let size : m.end + 16 - m.end ≡ 16 = omega arith in ap (λ k. take k (drop m.end gap)) size

  pub whole_tabs_size : length (map (λ c. c == 9) whole) ≡ 16
  whole_tabs_size = length-map whole is_tab ∙ whole_long

  pub whole_narrow : (w : ℕ) → w ≡ columns_after m.width (map (λ c. c == 9) whole) → w ≤ m.width + 64
  whole_narrow w width = let few = columns_few m.width (map is_tab whole) in let size = whole_tabs_size in omega (arith, width, few, size)

  pub whole_more : (marks w : ℕ) → marks ≡ marks_mask gap m.end → w ≡ columns_after m.width (map (λ c. c == 9) whole)
      → IsLineMargin gap (record { line = m.line; end = m.end + 16; width = w; others = m.others + marks })
  whole_more marks w stands width =
      line_more gap m 16 w (m.others + marks) is room whole_space
      (width ∙ sym (width_by_tabs m.width whole) ∙ ap (width_from m.width) (sym whole_row))
      (λ plain. (
        omega (arith, plain),
        λ k low high.
            unmarked (get_or gap k 0) (whole_space k low high) (none_from_empty_mask is_mark gap m.end 16 0 room (sym stands ∙ omega (arith, plain)) k low high),
      ))
