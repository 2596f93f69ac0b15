-- Edges among the next places.
use Rattle.std.proofs.Common.{◌≡◌, refl, sym, ap, ◌∙◌, ℕ, ◌+◌, ◌-◌, ◌<◌, ◌≤◌, ◌%◌, ◌^◌, ◌&&◌, ◌||◌, eqb, ltb, Bool, true, false, cond, not, List, length, map, get_or, bit_and, bit_or, replicate, inl, inr, arith}
use Rattle.std.specs.Int.{w64, trailing_zeros}
use Rattle.std.specs.List.{prefix_len}
use Rattle.std.specs.Simd.Lanes.{mask_l}
use lib.Lanes.{chunk, zip2, top}
use Rattle.std.proofs.lemmas.Bool.{cases_lt, not-true, not-false}
use Rattle.std.proofs.lemmas.List.{length-map}
use Rattle.std.proofs.lemmas.List.Sums.{prefix_len-le-length, prefix_len_passes, prefix_len_stops}
use Rattle.std.proofs.lemmas.Simd.{length-chunk, length-zip2, length-replicate, get_or-chunk, get_or-zip2, get_or-replicate, first_set_mask_l, mask_l-mod}
use Rattle.um_tidy.specs.Placed.{is_edge, NoEdges}
use Rattle.um_tidy.proofs.Masks.{some_set, some_before}

-- ---- going on

pub no_edges_more : (gap : List ℕ) (from mid to : ℕ) → NoEdges gap from mid → NoEdges gap mid to → NoEdges gap from to
no_edges_more gap from mid to first second = λ k low high. elim (cases_lt k mid) [
  | inl sooner ↦ first k low sooner
  | inr later ↦ second k later high
]

pub no_edges_one : (gap : List ℕ) (from at : ℕ) → NoEdges gap from at → is_edge gap at ≡ false → NoEdges gap from (at + 1)
no_edges_one gap from at first here = no_edges_more gap from at (at + 1) first (λ k low high. let same : at ≡ k = omega (arith, low, high) in ap (is_edge gap) (sym same) ∙ here)

pub no_edges_none : (gap : List ℕ) (from : ℕ) → NoEdges gap from from
no_edges_none gap from = λ k low high. absurd (omega (arith, low, high))

-- ---- the next 16 places

pub record IsNearEdge (gap : List ℕ) (at n : ℕ) : Type 0 where
  pub within : n ≤ 16
  pub inner : NoEdges gap at (at + n)
  pub ended : n < 16 → is_edge gap (at + n) ≡ true

joined : (p q r : Bool) → top 7 (bit_and (cond p 255 0) (bit_or (cond q 255 0) (cond r 255 0))) ≡ (p && (q || r))
joined true true true = refl
joined true true false = refl
joined true false true = refl
joined true false false = refl
joined false true true = refl
joined false true false = refl
joined false false true = refl
joined false false false = refl

-- a comparison of 16 bytes with one
abbrev compared : (ℕ → ℕ → Bool) → ℕ → ℕ → List ℕ → List ℕ
compared t at y gap = zip2 (λ a b. cond (t a b) 255 0) (chunk at 16 gap) (replicate 16 y)

compared_size : (t : ℕ → ℕ → Bool) (at y : ℕ) (gap : List ℕ) → at + 16 ≤ length gap → length (compared t at y gap) ≡ 16
compared_size t at y gap room =
    let long = length-chunk at 16 gap room in
    length-zip2 (λ a b. cond (t a b) 255 0) (chunk at 16 gap) (replicate 16 y) (long ∙ sym (length-replicate 16 y)) ∙ long

compared_at : (t : ℕ → ℕ → Bool) (at y : ℕ) (gap : List ℕ) (k : ℕ) → at + 16 ≤ length gap → k < 16 → get_or (compared t at y gap) k 0 ≡ cond (t (get_or gap (at + k) 0) y) 255 0
compared_at t at y gap k room less =
    let long = length-chunk at 16 gap room in
    let size = length-replicate 16 y in
    get_or-zip2 (λ a b. cond (t a b) 255 0) (chunk at 16 gap) (replicate 16 y) k 0 0 0 (omega (arith, long, less)) (omega (arith, size, less))
    ∙ (λ i. cond (t (get_or-chunk at 16 gap k 0 less i) (get_or-replicate 16 k y 0 less i)) 255 0)

abbrev either : List ℕ → ℕ → List ℕ
either gap at = zip2 bit_or (compared ltb (at - 1) 33 gap) (compared ltb (at + 1) 33 gap)

abbrev lanes : List ℕ → ℕ → List ℕ
lanes gap at = zip2 bit_and (compared eqb at 10 gap) (either gap at)

module _ (gap : List ℕ) (at : ℕ) (some : 0 < at) (room : at + 17 ≤ length gap) where
  here_size : length (compared eqb at 10 gap) ≡ 16
  here_size = compared_size eqb at 10 gap (omega (arith, room))

  before_size : length (compared ltb (at - 1) 33 gap) ≡ 16
  before_size = compared_size ltb (at - 1) 33 gap (omega (arith, some, room))

  after_size : length (compared ltb (at + 1) 33 gap) ≡ 16
  after_size = compared_size ltb (at + 1) 33 gap (omega (arith, room))

  either_size : length (either gap at) ≡ 16
  either_size = length-zip2 bit_or (compared ltb (at - 1) 33 gap) (compared ltb (at + 1) 33 gap) (before_size ∙ sym after_size) ∙ before_size

  lanes_size : length (lanes gap at) ≡ 16
  lanes_size = length-zip2 bit_and (compared eqb at 10 gap) (either gap at) (here_size ∙ sym either_size) ∙ here_size

  lane_is : (k : ℕ) → k < 16 → top 7 (get_or (lanes gap at) k 0) ≡ is_edge gap (at + k)
  lane_is k less =
      let before : at - 1 + k ≡ at + k - 1 = omega (arith, some) in
      let after : at + 1 + k ≡ at + k + 1 = omega arith in
      let here = get_or gap (at + k) 0 in
      let both : get_or (lanes gap at) k 0 ≡ bit_and (cond (eqb here 10) 255 0) (bit_or (cond (ltb (get_or gap (at - 1 + k) 0) 33) 255 0) (cond (ltb (get_or gap (at + 1 + k) 0) 33) 255 0)) =
      get_or-zip2 bit_and (compared eqb at 10 gap) (either gap at) k 0 0 0 (omega (arith, less, here_size)) (omega (arith, less, either_size))
      ∙ (λ i. bit_and (compared_at eqb at 10 gap k (omega (arith, room)) less i)
      ((get_or-zip2 bit_or (compared ltb (at - 1) 33 gap) (compared ltb (at + 1) 33 gap) k 0 0 0 (omega (arith, less, before_size)) (omega (arith, less, after_size))
      ∙ (λ j. bit_or (compared_at ltb (at - 1) 33 gap k (omega (arith, some, room)) less j) (compared_at ltb (at + 1) 33 gap k (omega (arith, room)) less j))) i)) in
      ap (top 7) both
      ∙ joined (eqb here 10) (ltb (get_or gap (at - 1 + k) 0) 33) (ltb (get_or gap (at + 1 + k) 0) 33)
      ∙ (λ i. eqb here 10 && (ltb (get_or gap (before i) 0) 33 || ltb (get_or gap (after i) 0) 33))

  counted_edges : (n : ℕ) → n ≡ prefix_len (λ x. not (top 7 x)) (lanes gap at) → IsNearEdge gap at n
  counted_edges n is =
      let few = prefix_len-le-length (λ x. not (top 7 x)) (lanes gap at) in
      let within : n ≤ 16 = omega (arith, is, few, lanes_size) in
      record {
        within = within;
        inner = λ k low high.
            let place : at + (k - at) ≡ k = omega (arith, low) in
            ap (is_edge gap) (sym place)
            ∙ sym (lane_is (k - at) (omega (arith, low, high, within)))
            ∙ not-true _ (prefix_len_passes (λ x. not (top 7 x)) (lanes gap at) (k - at) 0 (omega (arith, low, high, is)));
        ended = λ short.
            sym (lane_is n short)
            ∙ ap (λ k. top 7 (get_or (lanes gap at) k 0)) is
            ∙ not-false _ (prefix_len_stops (λ x. not (top 7 x)) (lanes gap at) 0 (omega (arith, is, short, lanes_size)));
      }

  -- so many by the mask of the comparisons
  pub near_edge_is : (n mask : ℕ) → mask ≡ mask_l (map (top 7) (lanes gap at)) % 2 ^ 64 → n ≡ cond (eqb mask 0) 16 (trailing_zeros w64 mask) → IsNearEdge gap at n
  near_edge_is n mask joint is =
      let size = length-map (lanes gap at) (top 7) in
      let whole : mask ≡ mask_l (map (top 7) (lanes gap at)) = joint ∙ mask_l-mod (map (top 7) (lanes gap at)) 64 (omega (arith, size, lanes_size)) in
      counted_edges n (is ∙ ap (λ m. cond (eqb m 0) 16 (trailing_zeros w64 m)) whole ∙ first_set_mask_l (top 7) (lanes gap at) 16 lanes_size (omega arith))

  pub near_edge_within : (mask : ℕ) → mask ≡ mask_l (map (top 7) (lanes gap at)) % 2 ^ 64 → 0 < mask → trailing_zeros w64 mask < 16
  near_edge_within mask joint some =
      let size = length-map (lanes gap at) (top 7) in
      let whole : mask ≡ mask_l (map (top 7) (lanes gap at)) = joint ∙ mask_l-mod (map (top 7) (lanes gap at)) 64 (omega (arith, size, lanes_size)) in
      let few = some_before (top 7) (lanes gap at) (omega (arith, some, whole)) in
      let counted = some_set mask some ∙ ap (λ m. cond (eqb m 0) 16 (trailing_zeros w64 m)) whole ∙ first_set_mask_l (top 7) (lanes gap at) 16 lanes_size (omega arith) in
      omega (arith, few, counted, lanes_size)
