-- Joins of lists in lists.
use Rattle.std.proofs.Common.{◌≡◌, refl, sym, ap, ◌∙◌, ℕ, zero, suc, ◌<◌, Option, Some, None, option_map, arith}
use Rattle.um_verify.specs.StackShape.{StackShape, void, list, join}
use Rattle.um_stacks.specs.FlatShapes.{item_shape, in_lists, flat_shape}
use Rattle.um_stacks.specs.declared.flat.Item.{Item}
use Rattle.um_stacks.specs.declared.flat.Item.TheVariants.{Void, Bool, Num, Record}
use Rattle.um_stacks.specs.declared.flat.FlatShape.{FlatShape}

nest_more : (n : ℕ) (o : Option StackShape) → option_map list (option_map (in_lists n) o) ≡ option_map (in_lists (suc n)) o
nest_more n None = refl
nest_more n (Some s) = refl

pub join_level : (n : ℕ) (s t : StackShape) → join (in_lists n s) (in_lists n t) ≡ option_map (in_lists n) (join s t)
join_level zero s t = same (join s t)
  where
    same : (o : Option StackShape) → o ≡ option_map (in_lists zero) o
    same None = refl
    same (Some s) = refl
join_level (suc n) s t = ap (option_map list) (join_level n s t) ∙ nest_more n (join s t)

less_void : (m n : ℕ) (t : StackShape) → m < n → join (in_lists m void) (in_lists n t) ≡ Some (in_lists n t)
less_void zero n t h = refl
less_void (suc m) zero t h = absurd (omega arith)
less_void (suc m) (suc n) t h = ap (option_map list) (less_void m n t (omega arith))

more_void : (m n : ℕ) (t : StackShape) → m < n → join (in_lists n t) (in_lists m void) ≡ Some (in_lists n t)
more_void zero zero t h = absurd (omega arith)
more_void zero (suc n) t h = refl
more_void (suc m) zero t h = absurd (omega arith)
more_void (suc m) (suc n) t h = ap (option_map list) (more_void m n t (omega arith))

-- a shape that is no list, and not void
abbrev pub Plain : Item → Type 0
Plain Void = ⊥
Plain Bool = Unit {0}
Plain Num = Unit {0}
Plain (Record r) = Unit {0}

less_plain : (b : Item) (m n : ℕ) (t : StackShape) → Plain b → m < n → join (in_lists m (item_shape b)) (in_lists n t) ≡ None
less_plain Void m n t p h = absurd p
less_plain b zero zero t p h = absurd (omega arith)
less_plain Bool zero (suc n) t p h = refl
less_plain Num zero (suc n) t p h = refl
less_plain (Record r) zero (suc n) t p h = refl
less_plain b (suc m) zero t p h = absurd (omega arith)
less_plain b (suc m) (suc n) t p h = ap (option_map list) (less_plain b m n t p (omega arith))

more_plain : (b : Item) (m n : ℕ) (t : StackShape) → Plain b → m < n → join (in_lists n t) (in_lists m (item_shape b)) ≡ None
more_plain Void m n t p h = absurd p
more_plain b zero zero t p h = absurd (omega arith)
more_plain Bool zero (suc n) t p h = refl
more_plain Num zero (suc n) t p h = refl
more_plain (Record r) zero (suc n) t p h = refl
more_plain b (suc m) zero t p h = absurd (omega arith)
more_plain b (suc m) (suc n) t p h = ap (option_map list) (more_plain b m n t p (omega arith))

pub lower_void : (s t : FlatShape) → s.lists < t.lists → s.item ≡ Void → Some (flat_shape t) ≡ join (flat_shape s) (flat_shape t)
lower_void s t h b = sym (ap (λ (c : Item). join (in_lists s.lists (item_shape c)) (flat_shape t)) b ∙ less_void s.lists t.lists (item_shape t.item) h)

pub lower_plain : (s t : FlatShape) (c : Item) → s.lists < t.lists → s.item ≡ c → Plain c → None ≡ join (flat_shape s) (flat_shape t)
lower_plain s t c h b p = sym (ap (λ (c : Item). join (in_lists s.lists (item_shape c)) (flat_shape t)) b ∙ less_plain c s.lists t.lists (item_shape t.item) p h)

pub higher_void : (s t : FlatShape) → t.lists < s.lists → t.item ≡ Void → Some (flat_shape s) ≡ join (flat_shape s) (flat_shape t)
higher_void s t h b = sym (ap (λ (c : Item). join (flat_shape s) (in_lists t.lists (item_shape c))) b ∙ more_void t.lists s.lists (item_shape s.item) h)

pub higher_plain : (s t : FlatShape) (c : Item) → t.lists < s.lists → t.item ≡ c → Plain c → None ≡ join (flat_shape s) (flat_shape t)
higher_plain s t c h b p = sym (ap (λ (c : Item). join (flat_shape s) (in_lists t.lists (item_shape c))) b ∙ more_plain c t.lists s.lists (item_shape s.item) p h)

map_both : (n : ℕ) (o : Option Item) → option_map (in_lists n) (option_map item_shape o) ≡ option_map (λ b. in_lists n (item_shape b)) o
map_both n None = refl
map_both n (Some b) = refl

pub same_level : (s t : FlatShape) (o : Option Item) → s.lists ≡ t.lists → option_map item_shape o ≡ join (item_shape s.item) (item_shape t.item) → option_map (λ (b : Item). in_lists s.lists (item_shape b)) o ≡ join (flat_shape s) (flat_shape t)
same_level s t o h k =
    sym (ap (λ (n : ℕ). join (flat_shape s) (in_lists n (item_shape t.item))) (sym h) ∙ join_level s.lists (item_shape s.item) (item_shape t.item) ∙ ap (option_map (in_lists s.lists)) (sym k) ∙ map_both s.lists o)

pub level_none : (s t : FlatShape) (o : Option Item) → s.lists ≡ t.lists → o ≡ None → option_map item_shape o ≡ join (item_shape s.item) (item_shape t.item) → None ≡ join (flat_shape s) (flat_shape t)
level_none s t o h e k = ap (option_map (λ (b : Item). in_lists s.lists (item_shape b))) (sym e) ∙ same_level s t o h k

pub level_some : (s t : FlatShape) (b : Item) (o : Option Item) → s.lists ≡ t.lists → o ≡ Some b → option_map item_shape o ≡ join (item_shape s.item) (item_shape t.item) → Some (in_lists s.lists (item_shape b)) ≡ join (flat_shape s) (flat_shape t)
level_some s t b o h e k = ap (option_map (λ (b : Item). in_lists s.lists (item_shape b))) (sym e) ∙ same_level s t o h k
