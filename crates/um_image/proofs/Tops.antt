-- States that differ in their tops alone, and what is taken from them.
use Rattle.std.proofs.Common.{◌≡◌, ◌≢◌, refl, sym, subst, ap, ◌∙◌, ℕ, zero, suc, ◌+◌, ◌-◌, ◌<◌, ◌≤◌, Bool, true, false, cond, List, [], ◌∷◌, ◌++◌, length, map, take, drop, Option, Some, None, slice_get, arith, append_assoc, length-append}
use Rattle.std.specs.Prelude.{nat_eq, nat_lt, nat_le, get_or, option_map}
use Rattle.std.proofs.Math.Seq.{take-append_seam, drop-append_seam}
use Rattle.std.proofs.lemmas.Bool.{le-leb}
use Rattle.std.proofs.lemmas.Bool.Decides.{nat_tests}
use Rattle.um_tree.specs.TypeTree.{ShapeTree, bool_shape, num_shape, list_shape, record_shape}
use Rattle.um_tree.specs.Heights.{greatest_height}
use Rattle.um_shape.specs.RecordShapes.{RecordShape, declared_height, shape_height}
use Rattle.um_machine.specs.Stack.{takes}
use Rattle.um_verify.specs.StackShape.{StackShape, void, bool, num, list, made, on_stack, fits, join, fit_all, join_cons, join_all, join_with, join_items, stack_height}
use Rattle.um_verify.specs.Rules.{Sent, Flow, fails, low_state, low_states}
use Rattle.um_verify.specs.Verified.{Met, nobody, arrived, joined, merge, gather}
use Rattle.um_verify.proofs.Fits.{equal_numbers, same_number}
use Rattle.um_verify.proofs.Joins.{joins_below}

pub is_below : (m n : ℕ) → m < n → nat_lt m n ≡ true
is_below m n h = grind (arith, nat_tests)

pub apart : (m n : ℕ) → m ≢ n → nat_eq m n ≡ false
apart m n h = grind (arith, nat_tests)

-- ---- joins

all_self : (st : List StackShape) (s t w : StackShape) → join s t ≡ Some w → join_all (st ++ s ∷ []) (st ++ t ∷ []) ≡ Some (st ++ w ∷ [])
all_self [] s t w h = ap (λ (o : Option StackShape). join_cons o (Some [])) h
all_self (x ∷ st) s t w h =
    ap (λ (o : Option (List StackShape)). join_cons (join x x) o) (all_self st s t w h) ∙ ap (λ (o : Option StackShape). join_cons o (Some (st ++ w ∷ []))) (join_self x)
  where
    join_self : (s : StackShape) → join s s ≡ Some s
    join_self void = refl
    join_self bool = refl
    join_self num = refl
    join_self (list s) = ap (option_map list) (join_self s)
    join_self (made r) = ap (λ (t : Bool). cond t (Some (made r)) None) (equal_numbers r r refl)

abbrev pub merges : Met → List StackShape → List StackShape → Met
merges m st [] = m
merges m st (w ∷ ws) = merges (merge m (st ++ w ∷ [])) st ws

abbrev pub AllFit : List StackShape → StackShape → Type 0
AllFit [] s = Unit {0}
AllFit (w ∷ ws) s = (fits w s ≡ true) × AllFit ws s

-- some, and each fits the shape
abbrev pub Tops : List StackShape → StackShape → Type 0
Tops [] s = ⊥
Tops (w ∷ ws) s = (fits w s ≡ true) × AllFit ws s

pub all_fit : (ws : List StackShape) (s : StackShape) → Tops ws s → AllFit ws s
all_fit [] s h = tt
all_fit (w ∷ ws) s h = h

merges_more : (st ws : List StackShape) (w s : StackShape) → fits w s ≡ true → AllFit ws s → (u : StackShape) × (merges (arrived (st ++ w ∷ [])) st ws ≡ arrived (st ++ u ∷ [])) × (fits u s ≡ true)
merges_more st [] w s h k = (w, refl, h)
merges_more st (v ∷ ws) w s h k =
    let j = joins_below w v s h k.0 in
    let r = merges_more st ws j.0 s j.2 k.1 in
    (r.0, ap (λ (o : Option (List StackShape)). merges (joined o) st ws) (all_self st w v j.0 j.1) ∙ r.1, r.2)

-- where nobody was, they make one state
pub merges_top : (m : Met) (st ws : List StackShape) (s : StackShape) → m ≡ nobody → Tops ws s → (u : StackShape) × (merges m st ws ≡ arrived (st ++ u ∷ [])) × (fits u s ≡ true)
merges_top m st [] s e h = absurd h
merges_top m st (w ∷ ws) s e h =
    let r = merges_more st ws w s h.0 h.1 in
    (r.0, ap (λ (m : Met). merges (merge m (st ++ w ∷ [])) st ws) e ∙ r.1, r.2)

-- the shape of the items of a list
pub items_below : (ws : List StackShape) (s : StackShape) → AllFit ws s → (u : StackShape) × (join_items ws ≡ Some u) × (fits u s ≡ true)
items_below [] s h = (void, refl, refl)
items_below (w ∷ ws) s h =
    let r = items_below ws s h.1 in
    let j = joins_below w r.0 s h.0 r.2 in
    (j.0, ap (join_with w) r.1 ∙ j.1, j.2)

-- ---- what is passed on

pub gather_hit : (m : Met) (u t : ℕ) (x : List StackShape) (ps : List Sent) → u ≡ t → gather m (record { to = u; state = x } ∷ ps) t ≡ gather (merge m x) ps t
gather_hit m u t x ps h = ap (λ (b : Bool). gather (cond b (merge m x) m) ps t) (equal_numbers u t h)

pub gather_miss : (m : Met) (u t : ℕ) (x : List StackShape) (ps : List Sent) → u ≢ t → gather m (record { to = u; state = x } ∷ ps) t ≡ gather m ps t
gather_miss m u t x ps h = ap (λ (b : Bool). gather (cond b (merge m x) m) ps t) (apart u t h)

pub takes_from : (st vs : List StackShape) (n : ℕ) (go : List StackShape → List StackShape → Flow) → n ≡ length vs → takes 0 n (st ++ vs) fails go ≡ go st vs
unfolding takes
takes_from st vs n go h =
    let len : length (st ++ vs) ≡ length st + length vs = length-append st vs in
    let enough : 0 + n ≤ length (st ++ vs) = omega arith in
    let at : length (st ++ vs) - n ≡ length st = omega arith in
    ap (λ b. cond b (go (take (length (st ++ vs) - n) (st ++ vs)) (drop (length (st ++ vs) - n) (st ++ vs))) fails) (le-leb _ _ enough)
    ∙ ap (λ m. go (take m (st ++ vs)) (drop m (st ++ vs))) at
    ∙ (λ i. go (take-append_seam st vs i) (drop-append_seam st vs i))

-- ---- shapes place by place

abbrev pub FitEach : List StackShape → List ShapeTree → Type 0
FitEach [] [] = Unit {0}
FitEach (w ∷ ws) (s ∷ ss) = (fits w (on_stack s) ≡ true) × FitEach ws ss
FitEach ws ss = ⊥

pub fit_each_length : (ws : List StackShape) (ss : List ShapeTree) → FitEach ws ss → length ws ≡ length ss
fit_each_length [] [] h = refl
fit_each_length (w ∷ ws) (s ∷ ss) h = ap suc (fit_each_length ws ss h.1)
fit_each_length [] (s ∷ ss) h = absurd h
fit_each_length (w ∷ ws) [] h = absurd h

pub fit_each_all : (ws : List StackShape) (ss : List ShapeTree) → FitEach ws ss → fit_all ws (map on_stack ss) ≡ true
fit_each_all [] [] h = refl
fit_each_all (w ∷ ws) (s ∷ ss) h = ap (λ (b : Bool). cond b (fit_all ws (map on_stack ss)) false) h.0 ∙ fit_each_all ws ss h.1
fit_each_all [] (s ∷ ss) h = absurd h
fit_each_all (w ∷ ws) [] h = absurd h

-- ---- places

-- the variables' places have shapes that fit theirs
abbrev pub PlacesFit : List StackShape → List ℕ → List ShapeTree → Type 0
PlacesFit st [] [] = Unit {0}
PlacesFit st (p ∷ ps) (v ∷ vars) = (w : StackShape) × (slice_get st p ≡ Some w) × (fits w (on_stack v) ≡ true) × PlacesFit st ps vars
PlacesFit st ps vars = ⊥

get_left : (st ts : List StackShape) (p : ℕ) (w : StackShape) → slice_get st p ≡ Some w → slice_get (st ++ ts) p ≡ Some w
get_left [] ts zero w h = absurd cc
get_left [] ts (suc p) w h = absurd cc
get_left (x ∷ st) ts zero w h = h
get_left (x ∷ st) ts (suc p) w h = get_left st ts p w h

get_seam : (st ts : List StackShape) (w : StackShape) (d : ℕ) → d ≡ length st → slice_get (st ++ w ∷ ts) d ≡ Some w
get_seam [] ts w d e = ap (slice_get (w ∷ ts)) e
get_seam (x ∷ st) ts w zero e = absurd (omega arith)
get_seam (x ∷ st) ts w (suc d) e = get_seam st ts w d (omega arith)

pub places_get : (st : List StackShape) (ps : List ℕ) (vars : List ShapeTree) (k : ℕ) (s : ShapeTree) → PlacesFit st ps vars → slice_get vars k ≡ Some s → (w : StackShape) × (slice_get st (get_or ps k 0) ≡ Some w) × (fits w (on_stack s) ≡ true)
places_get st [] [] zero s h j = absurd cc
places_get st [] [] (suc k) s h j = absurd cc
places_get st (q ∷ ps) (v ∷ vars) zero s h j = let f : v ≡ s = cc in (h.0, h.1, subst (λ (v : ShapeTree). fits h.0 (on_stack v) ≡ true) f h.2)
places_get st (q ∷ ps) (v ∷ vars) (suc k) s h j = places_get st ps vars k s h.3 j
places_get st [] (v ∷ vars) k s h j = absurd h
places_get st (q ∷ ps) [] k s h j = absurd h

pub places_keep : (st ts : List StackShape) (ps : List ℕ) (vars : List ShapeTree) → PlacesFit st ps vars → PlacesFit (st ++ ts) ps vars
places_keep st ts [] [] h = tt
places_keep st ts (p ∷ ps) (x ∷ vars) h = (h.0, get_left st ts p h.0 h.1, h.2, places_keep st ts ps vars h.3)
places_keep st ts [] (x ∷ vars) h = absurd h
places_keep st ts (p ∷ ps) [] h = absurd h

places_both : (st : List StackShape) (ps qs : List ℕ) (vars more : List ShapeTree) → PlacesFit st ps vars → PlacesFit st qs more → PlacesFit st (ps ++ qs) (vars ++ more)
places_both st [] qs [] more h k = k
places_both st (p ∷ ps) qs (x ∷ vars) more h k = (h.0, h.1, h.2, places_both st ps qs vars more h.3 k)
places_both st [] qs (x ∷ vars) more h k = absurd h
places_both st (p ∷ ps) qs [] more h k = absurd h

pub places_push : (st : List StackShape) (w : StackShape) (v : ShapeTree) (ps : List ℕ) (vars : List ShapeTree) (d : ℕ) → d ≡ length st → fits w (on_stack v) ≡ true → PlacesFit st ps vars → PlacesFit (st ++ w ∷ []) (ps ++ d ∷ []) (vars ++ v ∷ [])
places_push st w v ps vars d e f h =
    places_both (st ++ w ∷ []) ps (d ∷ []) vars (v ∷ []) (places_keep st (w ∷ []) ps vars h) (w, get_seam st [] w d e, f, tt)

pub places_two : (st : List StackShape) (i r : StackShape) (c : ShapeTree) (ps : List ℕ) (vars : List ShapeTree) (d : ℕ) → d ≡ length st → fits i (on_stack c) ≡ true → fits r (list (on_stack c)) ≡ true → PlacesFit st ps vars → PlacesFit (st ++ i ∷ r ∷ []) (ps ++ d ∷ (d + 1) ∷ []) (vars ++ c ∷ list_shape c ∷ [])
places_two st i r c ps vars d e f g h =
    let l : length (st ++ i ∷ []) ≡ length st + length (i ∷ []) = length-append st (i ∷ []) in
    let second : slice_get (st ++ i ∷ r ∷ []) (d + 1) ≡ Some r = ap (λ (xs : List StackShape). slice_get xs (d + 1)) (sym (append_assoc st (i ∷ []) (r ∷ []))) ∙ get_seam (st ++ i ∷ []) [] r (d + 1) (omega arith) in
    places_both (st ++ i ∷ r ∷ []) ps (d ∷ (d + 1) ∷ []) vars (c ∷ list_shape c ∷ []) (places_keep st (i ∷ r ∷ []) ps vars h) (i, get_seam st (r ∷ []) i d e, f, (r, second, g, tt))

-- ---- heights

pub on_stack_height : (records : List RecordShape) (s : ShapeTree) → stack_height records (on_stack s) ≡ shape_height records s
on_stack_height records bool_shape = refl
on_stack_height records num_shape = refl
on_stack_height records (list_shape s) = ap (λ (n : ℕ). n + 1) (on_stack_height records s)
on_stack_height records (record_shape r) = refl

module _ (records : List RecordShape) (positive : (r : ℕ) (d : RecordShape) → slice_get records r ≡ Some d → 1 ≤ d.height) where
  abbrev pub Low : List StackShape → Type 0
  Low st = low_state records st ≡ true

  abbrev pub IsLow : StackShape → Type 0
  IsLow s = stack_height records s ≤ greatest_height

  record_high : (r : ℕ) (o : Option RecordShape) → slice_get records r ≡ o → 1 ≤ declared_height o
  record_high r None e = omega arith
  record_high r (Some d) e = positive r d e

  one_high : (s : StackShape) → 1 ≤ stack_height records s
  one_high void = omega arith
  one_high bool = omega arith
  one_high num = omega arith
  one_high (list s) = omega arith
  one_high (made r) = record_high r (slice_get records r) refl

  -- what fits is no higher
  pub fits_lower : (s t : StackShape) → fits s t ≡ true → stack_height records s ≤ stack_height records t
  fits_lower void t h = one_high t
  fits_lower bool bool h = omega arith
  fits_lower num num h = omega arith
  fits_lower (list s) (list t) h = let l = fits_lower s t h in omega arith
  fits_lower (made q) (made r) h = subst (λ (n : ℕ). stack_height records (made q) ≤ stack_height records (made n)) (same_number q r h) (omega arith)
  fits_lower s t h = absurd cc

  pub low_fitting : (s t : StackShape) → fits s t ≡ true → IsLow t → IsLow s
  low_fitting s t h k = let l = fits_lower s t h in omega arith

  low_is : (s : StackShape) → IsLow s → nat_le (stack_height records s) greatest_height ≡ true
  low_is s h = le-leb (stack_height records s) greatest_height h

  cond_test : (a b : Bool) → cond a b false ≡ true → a ≡ true
  cond_test true b h = refl
  cond_test false b h = absurd cc

  cond_rest : (a b : Bool) → cond a b false ≡ true → b ≡ true
  cond_rest true b h = h
  cond_rest false b h = absurd cc

  pub low_more : (st : List StackShape) (s : StackShape) → Low st → IsLow s → Low (st ++ s ∷ [])
  low_more [] s h k = ap (λ (b : Bool). cond b true false) (low_is s k)
  low_more (x ∷ st) s h k =
      let first : nat_le (stack_height records x) greatest_height ≡ true = cond_test (nat_le (stack_height records x) greatest_height) (low_state records st) h in
      let rest : low_state records st ≡ true = cond_rest (nat_le (stack_height records x) greatest_height) (low_state records st) h in
      ap (λ (b : Bool). cond b (low_state records (st ++ s ∷ [])) false) first ∙ low_more st s rest k

  pub low_sent : (u : ℕ) (st : List StackShape) (ps : List Sent) → Low st → low_states records ps ≡ true → low_states records (record { to = u; state = st } ∷ ps) ≡ true
  low_sent u st ps h k = ap (λ (b : Bool). cond b (low_states records ps) false) h ∙ k
