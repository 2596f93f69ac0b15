-- A list in two parts: what a place cuts off, and what is behind it.
use Rattle.std.proofs.Common.{◌≡◌, refl, sym, ap, ◌∙◌, subst, ℕ, zero, suc, ◌+◌, ◌-◌, ◌≤◌, List, [], ◌∷◌, ◌++◌, length, take, drop, slice_get, arith}
use Rattle.std.specs.Prelude.{Bool, true, false, cond}
use Rattle.std.proofs.lemmas.List.{length-append, length-take, length-take-le, take-append-drop, take-append-le, drop-append-le, drop-take}
use Rattle.std.proofs.Math.Seq.{take-append_seam, drop-append_seam}

module _ {A : Type 0} (ws : List A) (base : ℕ) (fits : base ≤ length ws) where
  pub grown : (b : Bool) (ms ns : List A) → ns ≡ cond b (ws ++ ms) ws → base ≤ length ns
  grown true ms ns e = omega (arith, fits, ap length e ∙ length-append ws ms)
  grown false ms ns e = omega (arith, fits, ap length e)

  -- more behind it
  pub more_behind : (ms ns : List A) → ns ≡ ws ++ ms → drop base ns ≡ drop base ws ++ ms
  more_behind ms ns e = ap (drop base) e ∙ drop-append-le base ws ms fits

  pub same_before : (ms ns : List A) → ns ≡ ws ++ ms → take base ns ≡ take base ws
  same_before ms ns e = ap (take base) e ∙ take-append-le base ws ms fits

  -- cut further on
  pub fits_cut : (len : ℕ) (ns : List A) → ns ≡ take len ws → length (take base ws) ≤ len → base ≤ length ns
  fits_cut len ns e l = omega (arith, fits, ap length e ∙ length-take len ws, length-take-le base ws fits, l)

  pub cut_behind : (len : ℕ) (ns : List A) → ns ≡ take len ws → length (take base ws) ≤ len → drop base ns ≡ take (len - length (take base ws)) (drop base ws)
  cut_behind len ns e l =
      let whole : len ≡ base + (len - length (take base ws)) = omega (arith, length-take-le base ws fits, l) in
      ap (drop base) (e ∙ ap (λ k. take k ws) whole) ∙ drop-take base (len - length (take base ws)) ws

  pub cut_before : (len : ℕ) (ns : List A) → ns ≡ take len ws → length (take base ws) ≤ len → take base ns ≡ take base ws
  cut_before len ns e l =
      let within : base ≤ length (take len ws) = omega (arith, fits, length-take len ws, length-take-le base ws fits, l) in
      ap (take base) e ∙ sym (take-append-le base (take len ws) (drop len ws) within) ∙ ap (take base) (take-append-drop len ws)

  -- a new place at the end
  pub opened : (ms ns : List A) (end : ℕ) → ns ≡ ws ++ ms → end ≡ length ws → (base ≤ length (take end ns)) × (take base (take end ns) ≡ take base ws) × (drop base (take end ns) ≡ drop base ws) × (drop end ns ≡ ms)
  opened ms ns end e l =
      let all : take end ns ≡ ws = ap (take end) e ∙ ap (λ k. take k (ws ++ ms)) l ∙ take-append_seam ws ms in (
        subst (λ xs. base ≤ length xs) (sym all) fits,
        ap (take base) all,
        ap (drop base) all,
        ap (drop end) e ∙ ap (λ k. drop k (ws ++ ms)) l ∙ drop-append_seam ws ms,
      )

-- what is read behind the place
pub behind : {A : Type 0} (ws : List A) (base k : ℕ) → slice_get (drop base ws) k ≡ slice_get ws (base + k)
behind ws zero k =
    let same : k ≡ 0 + k = omega arith in
    ap (slice_get ws) same
behind [] (suc base) k = refl
behind (w ∷ ws) (suc base) k =
    let same : suc (base + k) ≡ suc base + k = omega arith in
    behind ws base k ∙ ap (slice_get (w ∷ ws)) same
