-- What was written, after more was put at its end.
use Rattle.std.proofs.Common.{◌≡◌, refl, sym, ap, ◌∙◌, ℕ, zero, suc, ◌+◌, ◌-◌, ◌≤◌, List, ◌∷◌, ◌++◌, append_assoc, length, take, drop, replicate, arith}
use lib.Lanes.{put_chunk}
use Rattle.std.proofs.Math.Seq.{take-append-add}
use Rattle.std.proofs.lemmas.List.{take-take, take-replicate, take-append-le, length-take-le, length-drop}
use Rattle.std.proofs.lemmas.Simd.{take_more_put_chunk}

-- the first n of 16 bytes that were stored
stored : (old xs : List ℕ) (at n : ℕ) → length xs ≡ 16 → at + 16 ≤ length old → n ≤ 16 → take (at + n) (put_chunk at old xs) ≡ take at old ++ take n xs
stored old xs at n long room few =
    let size = length-take-le at old (omega (arith, room)) in
    let place : at + 16 ≡ at + length xs = omega (arith, long) in
    sym (take-take (at + n) (at + 16) (put_chunk at old xs) (omega (arith, few)))
    ∙ ap (take (at + n)) (take_more_put_chunk at old xs (at + 16) place room)
    ∙ ap (λ k. take (k + n) (take at old ++ xs)) (sym size)
    ∙ take-append-add (take at old) xs n

pub stored_spaces : (old : List ℕ) (at n : ℕ) → at + 16 ≤ length old → n ≤ 16 → take (at + n) (put_chunk at old (replicate 16 32)) ≡ take at old ++ replicate n 32
stored_spaces old at n room few = stored old (replicate 16 32) at n refl room few ∙ ap (λ xs. take at old ++ xs) (take-replicate n 16 32 few)

pub stored_near : (old xs : List ℕ) (at from n : ℕ) → at + 16 ≤ length old → from + 16 ≤ length xs → n ≤ 16 → take (at + n) (put_chunk at old (take 16 (drop from xs))) ≡ take at old ++ take n (drop from xs)
stored_near old xs at from n room some few =
    let size = length-drop from xs in
    stored old (take 16 (drop from xs)) at n (length-take-le 16 (drop from xs) (omega (arith, size, some))) room few
    ∙ ap (λ ys. take at old ++ ys) (take-take n 16 (drop from xs) few)

-- more room
pub filled_more : (old bytes more last : List ℕ) → take (length old) bytes ≡ old → length old ≤ length bytes → last ≡ bytes ++ more → take (length old) last ≡ old
filled_more old bytes more last front fit added = ap (take (length old)) added ∙ take-append-le (length old) bytes more fit ∙ front

pub grown : (old new : List ℕ) (n : ℕ) → n ≤ length old → take (length old) new ≡ old → take n new ≡ take n old
grown old new n fit front = sym (take-take n (length old) new fit) ∙ ap (take n) front

replicate_join : (m n c : ℕ) → replicate m c ++ replicate n c ≡ replicate (m + n) c
replicate_join zero n c = let same : n ≡ zero + n = omega arith in ap (λ k. replicate k c) same
replicate_join (suc m) n c = let next : suc (m + n) ≡ suc m + n = omega arith in ap (λ xs. c ∷ xs) (replicate_join m n c) ∙ ap (λ k. replicate k c) next

-- some spaces, and then the others
pub spaces_left : (text more : List ℕ) (some left : ℕ) → some ≤ left → more ≡ text ++ replicate some 32 → more ++ replicate (left - some) 32 ≡ text ++ replicate left 32
spaces_left text more some left fit added =
    let all : some + (left - some) ≡ left = omega (arith, fit) in
    ap (λ xs. xs ++ replicate (left - some) 32) added
    ∙ append_assoc text (replicate some 32) (replicate (left - some) 32)
    ∙ ap (λ xs. text ++ xs) (replicate_join some (left - some) 32 ∙ ap (λ k. replicate k 32) all)
