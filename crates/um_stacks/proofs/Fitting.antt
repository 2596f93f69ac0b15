-- Lists in lists that fit.
use Rattle.std.proofs.Common.{◌≡◌, refl, sym, ap, ◌∙◌, ℕ, zero, suc, ◌<◌, Bool, true, false, arith}
use Rattle.um_verify.specs.StackShape.{StackShape, void, fits}
use Rattle.um_stacks.specs.FlatShapes.{item_shape, in_lists, flat_shape}
use Rattle.um_stacks.specs.declared.flat.Item.{Item}
use Rattle.um_stacks.specs.declared.flat.Item.TheVariants as base
use Rattle.um_stacks.specs.declared.flat.FlatShape.{FlatShape}
use Rattle.um_stacks.proofs.Nests.{Plain}

fits_level : (n : ℕ) (s t : StackShape) → fits (in_lists n s) (in_lists n t) ≡ fits s t
fits_level zero s t = refl
fits_level (suc n) s t = fits_level n s t

fits_void : (m n : ℕ) (t : StackShape) → m < n → fits (in_lists m void) (in_lists n t) ≡ true
fits_void zero n t h = refl
fits_void (suc m) zero t h = absurd (omega arith)
fits_void (suc m) (suc n) t h = fits_void m n t (omega arith)

fits_plain : (b : Item) (m n : ℕ) (t : StackShape) → Plain b → m < n → fits (in_lists m (item_shape b)) (in_lists n t) ≡ false
fits_plain base.Void m n t p h = absurd p
fits_plain b zero zero t p h = absurd (omega arith)
fits_plain base.Bool zero (suc n) t p h = refl
fits_plain base.Num zero (suc n) t p h = refl
fits_plain (base.Record r) zero (suc n) t p h = refl
fits_plain b (suc m) zero t p h = absurd (omega arith)
fits_plain b (suc m) (suc n) t p h = fits_plain b m n t p (omega arith)

fits_higher : (b : Item) (m n : ℕ) (s : StackShape) → m < n → fits (in_lists n s) (in_lists m (item_shape b)) ≡ false
fits_higher b zero zero s h = absurd (omega arith)
fits_higher base.Void zero (suc n) s h = refl
fits_higher base.Bool zero (suc n) s h = refl
fits_higher base.Num zero (suc n) s h = refl
fits_higher (base.Record r) zero (suc n) s h = refl
fits_higher b (suc m) zero s h = absurd (omega arith)
fits_higher b (suc m) (suc n) s h = fits_higher b m n s (omega arith)

pub low_void : (s t : FlatShape) → s.lists < t.lists → s.item ≡ base.Void → true ≡ fits (flat_shape s) (flat_shape t)
low_void s t h b = sym (ap (λ (c : Item). fits (in_lists s.lists (item_shape c)) (flat_shape t)) b ∙ fits_void s.lists t.lists (item_shape t.item) h)

pub low_plain : (s t : FlatShape) (c : Item) → s.lists < t.lists → s.item ≡ c → Plain c → false ≡ fits (flat_shape s) (flat_shape t)
low_plain s t c h b p = sym (ap (λ (c : Item). fits (in_lists s.lists (item_shape c)) (flat_shape t)) b ∙ fits_plain c s.lists t.lists (item_shape t.item) p h)

pub high : (s t : FlatShape) → t.lists < s.lists → false ≡ fits (flat_shape s) (flat_shape t)
high s t h = sym (fits_higher t.item t.lists s.lists (item_shape s.item) h)

pub level : (s t : FlatShape) (b : Bool) → s.lists ≡ t.lists → b ≡ fits (item_shape s.item) (item_shape t.item) → b ≡ fits (flat_shape s) (flat_shape t)
level s t b h e = e ∙ sym (ap (λ (n : ℕ). fits (flat_shape s) (in_lists n (item_shape t.item))) (sym h) ∙ fits_level s.lists (item_shape s.item) (item_shape t.item))
