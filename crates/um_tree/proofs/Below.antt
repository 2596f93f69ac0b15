-- The typings and the shapes of a function do not depend on how many functions come after it.
use Rattle.std.proofs.Common.{◌≡◌, refl, ap, subst, sym, ℕ, zero, suc, ◌<◌, true, false, cond, nat_eq, length, slice_get, arith}
use Rattle.std.proofs.lemmas.Bool.Decides.{nat_tests}
use Rattle.um_tree.specs.ProgramTree.{ProgramTree, Signature}
use Rattle.um_tree.specs.Typing.{TypingAt, typings_below, Typing}
use Rattle.um_tree.specs.Shapes.{ShapeSignature, ShapeAt, shapes_below, FunctionShape}
use Rattle.um_tree.specs.Laws.{EarlierTypings, EarlierShapesAre}

pub typings_below-is : (p : ProgramTree) (n j : ℕ) (g : Signature) → j < n → typings_below p n j g ≡ Typing p j g
typings_below-is p zero j g h = absurd (omega arith)
typings_below-is p (suc n) j g h =
    elim (nat_eq j n) as (λ b. nat_eq j n ≡ b → cond b (TypingAt (length p.bases) p.records (typings_below p n) n (slice_get p.functions n) g) (typings_below p n j g) ≡ Typing p j g) [
      | true ↦ λ e. let same : n ≡ j = grind (arith, nat_tests) in ap (λ (m : ℕ). TypingAt (length p.bases) p.records (typings_below p m) m (slice_get p.functions m) g) same
      | false ↦ λ e. typings_below-is p n j g (grind (arith, nat_tests))
    ] refl

pub shapes_below-is : (p : ProgramTree) (n j : ℕ) (g : ShapeSignature) → j < n → shapes_below p n j g ≡ FunctionShape p j g
shapes_below-is p zero j g h = absurd (omega arith)
shapes_below-is p (suc n) j g h =
    elim (nat_eq j n) as (λ b. nat_eq j n ≡ b → cond b (ShapeAt p.records (shapes_below p n) n (slice_get p.functions n) g) (shapes_below p n j g) ≡ FunctionShape p j g) [
      | true ↦ λ e. let same : n ≡ j = grind (arith, nat_tests) in ap (λ (m : ℕ). ShapeAt p.records (shapes_below p m) m (slice_get p.functions m) g) same
      | false ↦ λ e. shapes_below-is p n j g (grind (arith, nat_tests))
    ] refl

pub earlier_typings : EarlierTypings
earlier_typings p n j g h = (λ m. subst (λ (X : Type 0). X) (typings_below-is p n j g h) m, λ m. subst (λ (X : Type 0). X) (sym (typings_below-is p n j g h)) m)

pub earlier_shapes_are : EarlierShapesAre
earlier_shapes_are p n j g h = (λ m. subst (λ (X : Type 0). X) (shapes_below-is p n j g h) m, λ m. subst (λ (X : Type 0). X) (sym (shapes_below-is p n j g h)) m)
