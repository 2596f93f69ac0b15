-- The literals of a program by their places: each place is that of one token.
use Rattle.std.proofs.Common.{◌≡◌, ℕ, ◌+◌, ◌≤◌, ◌<◌, Bool, true, false, cond, List, [], ◌∷◌, ◌++◌, Option, Some, None, refl, ap, subst, ◌∙◌, append_assoc, arith}
use Rattle.std.specs.Prelude.{nat_eq}
use Rattle.std.proofs.lemmas.Bool.Decides.{nat_tests}
use Rattle.um_frac.specs.declared.number.Frac.{Frac}
use Rattle.um_text_details.proofs.RisingTokens.{Rise}
use Rattle.um_show.proofs.GoodTokens.{IsNatural, GoodKind, AllGood}
use Rattle.um_scale.specs.RescaledText.{literal_at}
use Rattle.um_rescaled.proofs.Picks.{Pick, front, with_place, picked, KeepsSign, AllKeepSigns, AreTold}

-- the places are below this
abbrev Below : ℕ → List (ℕ × Frac) → Type 0
Below n [] = Unit {0}
Below n (l ∷ ls) = (l.0 < n) × Below n ls

below_more : (n m : ℕ) (ls : List (ℕ × Frac)) → n ≤ m → Below n ls → Below m ls
below_more n m [] le h = tt
below_more n m (l ∷ ls) le h = let first = h.0 in (omega (arith, le, first), below_more n m ls le h.1)

below_append : (n : ℕ) (ls ms : List (ℕ × Frac)) → Below n ls → Below n ms → Below n (ls ++ ms)
below_append n [] ms h k = k
below_append n (l ∷ ls) ms h k = (h.0, below_append n ls ms h.1 k)

below_one : (at : ℕ) (o : Option Frac) → Below (at + 1) (with_place at o)
below_one at None = tt
below_one at (Some c) = (omega arith, tt)

differs_above : (place key : ℕ) → key < place → nat_eq place key ≡ false
differs_above place key h = grind (arith, nat_tests)

differs_below : (place key : ℕ) → place < key → nat_eq place key ≡ false
differs_below place key h = grind (arith, nat_tests)

equals_itself : (place : ℕ) → nat_eq place place ≡ true
equals_itself place = grind (arith, nat_tests)

skipped : (ls ms : List (ℕ × Frac)) (place : ℕ) → Below place ls → literal_at (ls ++ ms) place ≡ literal_at ms place
skipped [] ms place h = refl
skipped (l ∷ ls) ms place h = ap (λ b. cond b (Some l.1) (literal_at (ls ++ ms) place)) (differs_above place l.0 h.0) ∙ skipped ls ms place h.1

absent : (ps : List Pick) (from end place : ℕ) → Rise from (front ps) end → place < from → literal_at (picked ps) place ≡ None
absent [] from end place rise h = refl
absent (p ∷ ps) from end place rise h =
    let first : from ≤ p.token.start = rise.0 in
    by (omega (arith, h, first)) p.number (absent ps (p.token.start + 1) end place rise.1 (omega (arith, h, first)))
  where
    by : place < p.token.start → (o : Option Frac) → literal_at (picked ps) place ≡ None → literal_at (with_place p.token.start o ++ picked ps) place ≡ None
    by low None rest = rest
    by low (Some c) rest = ap (λ b. cond b (Some c) (literal_at (picked ps) place)) (differs_below place p.token.start low) ∙ rest

own : (at : ℕ) (o : Option Frac) (ps : List Pick) (end : ℕ) → Rise (at + 1) (front ps) end → literal_at (with_place at o ++ picked ps) at ≡ o
own at None ps end rise = absent ps (at + 1) end at rise (omega arith)
own at (Some c) ps end rise = ap (λ b. cond b (Some c) (literal_at (picked ps) at)) (equals_itself at)

pub told : (ps : List Pick) (before : List (ℕ × Frac)) (from end : ℕ) → Rise from (front ps) end → Below from before → AreTold (literal_at (before ++ picked ps)) ps
told [] before from end rise below = tt
told (p ∷ ps) before from end rise below =
    let at = p.token.start in
    let here = with_place at p.number in
    let low : from ≤ at = rise.0 in
    let later = told ps (before ++ here) (at + 1) end rise.1 (below_append (at + 1) before here (below_more from (at + 1) before (omega (arith, low)) below) (below_one at p.number)) in (
      skipped before (here ++ picked ps) at (below_more from at before low below) ∙ own at p.number ps end rise.1,
      subst (λ ls. AreTold (literal_at ls) ps) (append_assoc before here (picked ps)) later,
    )

-- ---- no number is below 0

pub natural : (ps : List Pick) (place : ℕ) (c : Frac) → AllKeepSigns ps → AllGood (front ps) → literal_at (picked ps) place ≡ Some c → IsNatural c
natural [] place c signs good is = absurd (cc is)
natural (p ∷ ps) place c signs good is = by (natural ps place c signs.1 good.1) p.number signs.0 is
  where
    sought : (literal_at (picked ps) place ≡ Some c → IsNatural c) → (d : Frac) → IsNatural d → (b : Bool) → cond b (Some d) (literal_at (picked ps) place) ≡ Some c → IsNatural c
    sought later d h true e = let same : d ≡ c = cc e in subst IsNatural same h
    sought later d h false e = later e

    by : (literal_at (picked ps) place ≡ Some c → IsNatural c) → (o : Option Frac) → KeepsSign p.token.kind o → literal_at (with_place p.token.start o ++ picked ps) place ≡ Some c → IsNatural c
    by later None sign e = later e
    by later (Some d) sign e = sought later d (sign.4 (subst GoodKind sign.3 good.0)) (nat_eq place p.token.start) e
