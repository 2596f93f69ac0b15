-- Lists of blocks of tokens.
use Rattle.std.proofs.Common.{◌≡◌, ℕ, zero, suc, ◌+◌, ◌*◌, ◌-◌, ◌<◌, ◌≤◌, List, [], ◌∷◌, ◌++◌, length, Option, Some, None, Bor, MatchOption, IfSome, refl, sym, ap, subst, ◌∙◌, arith, append_assoc}
use Rattle.std.specs.Prelude.{slice_get, slice_index_or}
use Rattle.std.specs.Option.{option_copied}
use Rattle.std.specs.List.{HoldsAt}
use Rattle.std.specs.Global.{Vec}
use Rattle.std.proofs.lemmas.List.{length-append, append-nil}
use Rattle.std.proofs.lemmas.Option.{none-some, same_Some, slice_get_past, slice_get_read}
use Rattle.um_syntax.specs.declared.token.Token.{Token}
use Rattle.um_syntax.specs.Blocks.{joined, AreWhole}

pub length-joined : (bs : List (Vec Token)) → AreWhole bs → length (joined bs) ≡ length bs * 256
length-joined [] w = refl
length-joined (b ∷ bs) w =
    let more = length-joined bs w.1 in
    let both = length-append b.items (joined bs) in
    omega (arith, w.0, more, both)

pub joined-push : (bs : List (Vec Token)) (b : Vec Token) → joined (bs ++ b ∷ []) ≡ joined bs ++ b.items
joined-push [] b = append-nil b.items
joined-push (a ∷ bs) b = ap (λ ts. a.items ++ ts) (joined-push bs b) ∙ sym (append_assoc a.items (joined bs) b.items)

pub whole-push : (bs : List (Vec Token)) (b : Vec Token) → AreWhole bs → length b.items ≡ 256 → AreWhole (bs ++ b ∷ [])
whole-push [] b w is = (is, tt {0})
whole-push (a ∷ bs) b w is = (w.0, whole-push bs b w.1 is)

-- what stands at a place of the second of two lists
right : {X : Type 0} (xs ys : List X) (i k : ℕ) → i ≡ k + length xs → slice_get (xs ++ ys) i ≡ slice_get ys k
right [] ys i k is = ap (slice_get ys) (omega (arith, is))
right (x ∷ xs) ys zero k is = absurd (omega (arith, is))
right (x ∷ xs) ys (suc i) k is = right xs ys i k (omega (arith, is))

-- what stands at a place of the first
left : {X : Type 0} (xs ys : List X) (k : ℕ) → k < length xs → slice_get (xs ++ ys) k ≡ slice_get xs k
left [] ys k h = absurd (omega (arith, h))
left (x ∷ xs) ys zero h = refl
left (x ∷ xs) ys (suc k) h = left xs ys k (omega (arith, h))

-- what stands before the end of two lists, if the second is that long
pub back_right : {X : Type 0} (xs ys : List X) (k : ℕ) → k ≤ length ys → slice_get (xs ++ ys) (length (xs ++ ys) - k) ≡ slice_get ys (length ys - k)
back_right xs ys k long =
    let both = length-append xs ys in
    right xs ys (length (xs ++ ys) - k) (length ys - k) (omega (arith, both, long))

-- what stands before the end of blocks stands before the end of the last
pub back_of_last : (bs : List (Vec Token)) (b : Vec Token) (k : ℕ) → AreWhole bs → slice_get bs (length bs - 1) ≡ Some b → k ≤ 256
    → slice_get (joined bs) (length (joined bs) - k) ≡ slice_get b.items (256 - k)
back_of_last [] b k w is few = absurd (none-some b is)
back_of_last (a ∷ []) b k w is few =
    let same : joined (a ∷ []) ≡ a.items = append-nil a.items in
    ap (λ (ts : List Token). slice_get ts (length ts - k)) same ∙ ap (λ (n : ℕ). slice_get a.items (n - k)) w.0
    ∙ ap (λ (x : Vec Token). slice_get x.items (256 - k)) (same_Some a b is)
back_of_last (a ∷ next ∷ bs) b k w is few =
    let size = length-joined (next ∷ bs) w.1 in
    let place : length (a ∷ next ∷ bs) - 1 ≡ suc (length (next ∷ bs) - 1) = omega arith in
    let further : slice_get (next ∷ bs) (length (next ∷ bs) - 1) ≡ Some b = subst (λ n. slice_get (a ∷ next ∷ bs) n ≡ Some b) place is in
    back_right a.items (joined (next ∷ bs)) k (omega (arith, size, few)) ∙ back_of_last (next ∷ bs) b k w.1 further few

-- what stands before the end of blocks that some others follow
pub back_left : (xs ys : List Token) (k : ℕ) → 0 < k → k ≤ length xs → slice_get (xs ++ ys) (length xs - k) ≡ slice_get xs (length xs - k)
back_left xs ys k some long = left xs ys (length xs - k) (omega (arith, some, long))

-- what `get` answers
pub got : {X : Type 0} (ts : List X) (i : ℕ) (r : Option (Bor X)) → IfSome r (λ t. t.now ≡ slice_index_or ts i t.now) → MatchOption r (length ts ≤ i) (λ t. (i < length ts) × HoldsAt (λ x. t.now ≡ x) ts i)
    → option_copied r ≡ slice_get ts i
got ts i None is within = sym (slice_get_past ts i within)
got ts i (Some t) is within = sym (slice_get_read ts (length ts) i t.now refl within.0 is)

-- what stands in a block, of blocks that some others follow
pub in_block : (bs : List (Vec Token)) (ys : List Token) (k q r : ℕ) (b : Vec Token) → AreWhole bs → k ≡ q * 256 + r → r < 256 → slice_get bs q ≡ Some b
    → slice_get (joined bs ++ ys) k ≡ slice_get b.items r
in_block [] ys k q r b w place few is = absurd (none-some b is)
in_block (a ∷ bs) ys k zero r b w place few is =
    ap (slice_get (joined (a ∷ bs) ++ ys)) (omega (arith, place)) ∙ ap (λ ts. slice_get ts r) (append_assoc a.items (joined bs) ys)
    ∙ left a.items (joined bs ++ ys) r (omega (arith, w.0, few)) ∙ ap (λ (x : Vec Token). slice_get x.items r) (same_Some a b is)
in_block (a ∷ bs) ys k (suc q) r b w place few is =
    ap (λ ts. slice_get ts k) (append_assoc a.items (joined bs) ys) ∙ right a.items (joined bs ++ ys) k (q * 256 + r) (omega (arith, w.0, place))
    ∙ in_block bs ys (q * 256 + r) q r b w.1 refl few is

-- what stands after the blocks
pub after_blocks : (bs : List (Vec Token)) (ys : List Token) (k : ℕ) → AreWhole bs → length bs * 256 ≤ k → slice_get (joined bs ++ ys) k ≡ slice_get ys (k - length bs * 256)
after_blocks bs ys k w past =
    let size = length-joined bs w in
    right (joined bs) ys k (k - length bs * 256) (omega (arith, size, past))
