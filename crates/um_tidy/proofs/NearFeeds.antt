-- A line feed among the next bytes, or after them.
use Rattle.std.proofs.Common.{◌≡◌, sym, ap, ◌∙◌, ℕ, ◌+◌, ◌-◌, ◌<◌, ◌≤◌, false, cond, eqb, List, length, map, drop, get_or, Option, Some, None, IfSome, MatchOption, arith}
use Rattle.std.specs.Int.{w64, trailing_zeros}
use Rattle.std.specs.List.{prefix_len}
use Rattle.std.specs.Simd.Lanes.{mask_l}
use lib.Lanes.{chunk}
use Rattle.std.proofs.lemmas.List.{drop_more, drop-drop, length-drop, get_or-drop}
use Rattle.std.proofs.lemmas.List.Sums.{prefix_len-le-length, prefix_len_passes, prefix_len_stops}
use Rattle.std.proofs.lemmas.Simd.{length-chunk, get_or-chunk, first_set_mask_l}
use Rattle.um_tidy.specs.Gaps.{in_line}
use Rattle.um_tidy.proofs.BlankLines.{prefix_past}

-- n bytes pass of the next 16
pub record IsNear (xs : List ℕ) (from n : ℕ) : Type 0 where
  pub within : n ≤ 16
  pub passed : prefix_len in_line (drop from xs) ≡ n + prefix_len in_line (drop (from + n) xs)
  pub ended : n < 16 → prefix_len in_line (drop (from + n) xs) ≡ 0

counted_near : (xs : List ℕ) (from n : ℕ) → from + 16 ≤ length xs → n ≡ prefix_len in_line (chunk from 16 xs) → IsNear xs from n
counted_near xs from n room is =
    let part = chunk from 16 xs in
    let long = length-chunk from 16 xs room in
    let few = prefix_len-le-length in_line part in
    let more = length-drop from xs in
    record {
      within = omega (arith, is, few, long);
      passed =
          prefix_past in_line (drop from xs) n (omega (arith, is, few, long, more, room))
          (λ k less. ap in_line (get_or-drop from xs k 0 ∙ sym (get_or-chunk from 16 xs k 0 (omega (arith, less, is, few, long)))) ∙ prefix_len_passes in_line part k 0 (omega (arith, less, is)))
          ∙ ap (λ ys. n + prefix_len in_line ys) (drop-drop n from xs);
      ended = λ short.
          let here : in_line (get_or xs (from + n) 0) ≡ false = ap in_line (sym (get_or-chunk from 16 xs n 0 short)) ∙ ap (λ k. in_line (get_or part k 0)) is ∙ prefix_len_stops in_line part 0 (omega (arith, is, short, long)) in
          ap (prefix_len in_line) (drop_more xs (from + n) 0 (omega (arith, short, room)))
          ∙ ap (λ b. cond b (1 + prefix_len in_line (drop (from + n + 1) xs)) 0) here;
    }

-- so many by the mask of a comparison of 16 bytes with a line feed
pub is_near : (xs : List ℕ) (from n mask : ℕ) → from + 16 ≤ length xs → mask ≡ mask_l (map (λ x. eqb x 10) (chunk from 16 xs)) → n ≡ cond (eqb mask 0) 16 (trailing_zeros w64 mask) → IsNear xs from n
is_near xs from n mask room compared is =
    counted_near xs from n room
    (is ∙ ap (λ m. cond (eqb m 0) 16 (trailing_zeros w64 m)) compared ∙ first_set_mask_l (λ x. eqb x 10) (chunk from 16 xs) 16 (length-chunk from 16 xs room) (omega arith))

-- the first line feed from a place on, if it stands after another
module _ (xs : List ℕ) (from to : ℕ) (order : from ≤ to) (fits : to ≤ length xs) where
  pub later_feed : prefix_len in_line (drop from xs) ≡ (to - from) + prefix_len in_line (drop to xs) → (r : Option ℕ)
      → MatchOption r (prefix_len in_line (drop to xs) ≡ length (drop to xs)) (λ at. to + prefix_len in_line (drop to xs) ≡ at)
      → MatchOption r (prefix_len in_line (drop from xs) ≡ length (drop from xs)) (λ at. from + prefix_len in_line (drop from xs) ≡ at)
  later_feed past None none = let a = length-drop from xs in let b = length-drop to xs in omega (arith, order, fits, past, none, a, b)
  later_feed past (Some at) is = omega (arith, order, past, is)

pub later_within : (from to size : ℕ) → from ≤ to → (r : Option ℕ) → IfSome r (λ at. (to ≤ at) × (at < size)) → IfSome r (λ at. (from ≤ at) × (at < size))
later_within from to size order None h = h
later_within from to size order (Some at) (after, within) = (omega (arith, order, after), within)
