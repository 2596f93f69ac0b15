-- Bytes of elements that are added one after another.
use Rattle.std.proofs.Common.{◌≡◌, refl, sym, subst, ap, ◌∙◌, ℕ, zero, suc, ◌+◌, ◌<◌, ◌≤◌, List, [], ◌∷◌, ◌++◌, All, map, drop, length, get_or, Some, slice_get, ℤ, arith, append_assoc}
use Rattle.um_shape.proofs.Declarations.{All-unmapped}
use Rattle.std.specs.List.{flat_map}
use Rattle.std.proofs.lemmas.List.{append-nil, drop_more, drop_all}
use Rattle.um_machine.specs.declared.op.Op.{Op}
use Rattle.um_machine.specs.declared.code.Entry.{Entry}
use Rattle.um_verify.specs.ImageTree.{HeadTree, Follow, Match}
use Rattle.um_verify.specs.declared.image.Head.{Head}
use Rattle.um_verify.specs.ImageTree.{head_tree}
use Rattle.um_image.proofs.Items.{all_of}
use Rattle.um_image.specs.Encoding.{long_bytes, own_ops}
use Rattle.um_image.specs.Pieces.{op_bytes, function_bytes, functions_bytes}

module _ {A B : Type 0} (bytes : B → List ℕ) (tree : A → B) (xs : List A) where
  -- the bytes of the first k elements are added
  abbrev pub Left : ℕ → List ℕ → List ℕ → Type 0
  Left k before out = out ++ flat_map bytes (map tree (drop k xs)) ≡ before ++ flat_map bytes (map tree xs)

  pub left_next : (k : ℕ) (x : A) (before out more : List ℕ) → k < length xs → x ≡ get_or xs k x → Left k before out → more ≡ out ++ bytes (tree x) → Left (k + 1) before more
  left_next k x before out more h s left added =
      let rest = flat_map bytes (map tree (drop (k + 1) xs)) in
      let next : flat_map bytes (map tree (drop k xs)) ≡ bytes (tree x) ++ rest = ap (λ (ys : List A). flat_map bytes (map tree ys)) (drop_more xs k x h) ∙ ap (λ (y : A). bytes (tree y) ++ rest) (sym s) in
      ap (λ (t : List ℕ). t ++ rest) added ∙ append_assoc out (bytes (tree x)) rest ∙ ap (λ (r : List ℕ). out ++ r) (sym next) ∙ left

  pub left_last : (k : ℕ) (before out : List ℕ) → length xs ≤ k → Left k before out → out ≡ before ++ flat_map bytes (map tree xs)
  left_last k before out h left =
      sym (append-nil out) ∙ ap (λ (ys : List A). out ++ flat_map bytes (map tree ys)) (sym (drop_all k xs h)) ∙ left

module _ (hs : List Head) (ops : List Op) (es : List Entry) where
  -- those of the first k functions
  abbrev pub FunctionsLeft : ℕ → List ℕ → List ℕ → Type 0
  FunctionsLeft k before out = out ++ functions_bytes (map head_tree (drop k hs)) ops (drop k es) ≡ before ++ functions_bytes (map head_tree hs) ops es

  pub functions_next : (k : ℕ) (h : Head) (e : Entry) (before out more : List ℕ) → k < length hs → k < length es → h ≡ get_or hs k h → e ≡ get_or es k e → FunctionsLeft k before out → more ≡ out ++ function_bytes (head_tree h) (own_ops ops e) → FunctionsLeft (k + 1) before more
  functions_next k h e before out more l m s q left added =
      let rest = functions_bytes (map head_tree (drop (k + 1) hs)) ops (drop (k + 1) es) in
      let next : functions_bytes (map head_tree (drop k hs)) ops (drop k es) ≡ function_bytes (head_tree h) (own_ops ops e) ++ rest = (λ i. functions_bytes (map head_tree (drop_more hs k h l i)) ops (drop_more es k e m i)) ∙ (λ i. function_bytes (head_tree (sym s i)) (own_ops ops (sym q i)) ++ rest) in
      ap (λ (t : List ℕ). t ++ rest) added ∙ append_assoc out (function_bytes (head_tree h) (own_ops ops e)) rest ∙ ap (λ (r : List ℕ). out ++ r) (sym next) ∙ left

  pub functions_last : (k : ℕ) (before out : List ℕ) → length hs ≤ k → FunctionsLeft k before out → out ≡ before ++ functions_bytes (map head_tree hs) ops es
  functions_last k before out h left =
      sym (append-nil out) ∙ ap (λ (ys : List Head). out ++ functions_bytes (map head_tree ys) ops (drop k es)) (sym (drop_all k hs h)) ∙ left

-- two numbers of eight bytes
pub both_long : (a b d : List ℕ) (m p n q : ℤ) → m ≡ p → n ≡ q → b ≡ a ++ long_bytes m → d ≡ b ++ long_bytes n → d ≡ a ++ (long_bytes p ++ long_bytes q)
both_long a b d m p n q s t h k =
    k ∙ ap (λ (x : List ℕ). x ++ long_bytes n) h ∙ append_assoc a (long_bytes m) (long_bytes n) ∙ (λ i. a ++ (long_bytes (s i) ++ long_bytes (t i)))

module _ (is : List Op) where
  -- those of the first k instructions
  abbrev pub OpsLeft : ℕ → List ℕ → List ℕ → Type 0
  OpsLeft k before out = out ++ flat_map op_bytes (drop k is) ≡ before ++ flat_map op_bytes is

  pub ops_next : (k : ℕ) (i : Op) (before out more : List ℕ) → k < length is → i ≡ get_or is k i → OpsLeft k before out → more ≡ out ++ op_bytes i → OpsLeft (k + 1) before more
  ops_next k i before out more h s left added =
      let rest = flat_map op_bytes (drop (k + 1) is) in
      let next : flat_map op_bytes (drop k is) ≡ op_bytes i ++ rest = ap (λ (js : List Op). flat_map op_bytes js) (drop_more is k i h) ∙ ap (λ (j : Op). op_bytes j ++ rest) (sym s) in
      ap (λ (t : List ℕ). t ++ rest) added ∙ append_assoc out (op_bytes i) rest ∙ ap (λ (r : List ℕ). out ++ r) (sym next) ∙ left

  pub ops_last : (k : ℕ) (before out : List ℕ) → length is ≤ k → OpsLeft k before out → out ≡ before ++ flat_map op_bytes is
  ops_last k before out h left =
      sym (append-nil out) ∙ ap (λ (js : List Op). out ++ flat_map op_bytes js) (sym (drop_all k is h)) ∙ left

-- what holds of all trees of some elements holds of that of each
pub tree_at : {A B : Type 0} (P : B → Type 0) (tree : A → B) (xs : List A) (i : ℕ) (x : A) → All P (map tree xs) → i < length xs → x ≡ get_or xs i x → P (tree x)
tree_at P tree xs i x h l e = subst (λ y. P (tree y)) (sym e) (All-unmapped P tree xs h i x l)

-- as many entries as heads
pub match_lengths : (es : List Entry) (hs : List HeadTree) → Match es hs → length es ≡ length hs
match_lengths [] [] h = refl
match_lengths (e ∷ es) (x ∷ hs) h = ap suc (match_lengths es hs h.1)
match_lengths [] (x ∷ hs) h = absurd h
match_lengths (e ∷ es) [] h = absurd h

-- entries that follow each other end at the last address
pub follow_up : (a z : ℕ) (es : List Entry) → Follow a es z → a ≤ z
follow_up a z [] h = omega arith
follow_up a z (e ∷ es) h = let l = follow_up e.end z es h.2 in let m = h.1 in omega arith

pub follow_within : (a z : ℕ) (es : List Entry) → Follow a es z → All (λ e. (e.start ≤ e.end) × (e.end ≤ z)) es
follow_within a z es h = all_of (λ e. (e.start ≤ e.end) × (e.end ≤ z)) es (λ k e s. at a es k e h s) where
  at : (a : ℕ) (es : List Entry) (k : ℕ) (e : Entry) → Follow a es z → slice_get es k ≡ Some e → (e.start ≤ e.end) × (e.end ≤ z)
  at a [] zero e h s = absurd cc
  at a [] (suc k) e h s = absurd cc
  at a (x ∷ es) zero e h s =
      let same : x ≡ e = cc in
      let l = follow_up x.end z es h.2 in
      let start = h.0 in
      let m = h.1 in
      let both : (x.start ≤ x.end) × (x.end ≤ z) = (omega arith, omega arith) in
      subst (λ (y : Entry). (y.start ≤ y.end) × (y.end ≤ z)) same both
  at a (x ∷ es) (suc k) e h s = at x.end es k e h.2 s
