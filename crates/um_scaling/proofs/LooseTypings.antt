-- A typing of a formed program's function is one that a choice of units gives: units for its unit parameters change no
-- written unit.
use Rattle.std.proofs.Common.{◌≡◌, refl, sym, subst, inl, ℕ, zero, suc, ◌<◌, ◌≤◌, true, false, cond, nat_eq, length, Some, slice_get, arith}
use Rattle.std.proofs.lemmas.Bool.Decides.{nat_tests}
use Rattle.um_units.specs.PowerMap.{PowerMap}
use Rattle.um_units.specs.Variables.{IsClosed}
use Rattle.um_tree.specs.ProgramTree.{FunctionTree, ProgramTree, Signature}
use Rattle.um_tree.specs.Typing.{moved_signature, IsInstantiation, IsLooseTypingOf, IsTypingOf, TypingAt, typings_below}
use Rattle.um_tree.specs.Formed.{BasesBelow, IsFormed}
use Rattle.um_tree.specs.Laws.{ProgramHas, Leaves, Fixes}
use Rattle.um_tree.proofs.Below.{earlier_typings}
use Rattle.um_tree.proofs.Moved.{typing_of}
use Rattle.um_tree.proofs.TypingLaws.{homomorphisms_keep_typings, closed_units_are_fixed}
use Rattle.um_tree.proofs.WrittenUnits.{formed_units_are_declared, program_has_both}

-- a function before number n has a number below n
below_low : (p : ProgramTree) (n j : ℕ) (g : Signature) → typings_below p n j g → j < n
below_low p zero j g m = absurd m
below_low p (suc n) j g m =
    elim (nat_eq j n) as (λ t. nat_eq j n ≡ t → cond t (TypingAt (length p.bases) p.records (typings_below p n) n (slice_get p.functions n) g) (typings_below p n j g) → j < suc n) [
      | true ↦ λ e m. grind (arith, nat_tests, e)
      | false ↦ λ e m. let low = below_low p n j g m in omega (arith, low)
    ] refl m

module _ (p : ProgramTree) (formed : IsFormed p) (units : ℕ) (h : PowerMap → PowerMap) (is : IsInstantiation (length p.bases) units h) where
  leaves : (u : PowerMap) → BasesBelow (length p.bases) u → Leaves h u
  leaves u below k held = is.others k (inl (below k held))

  fixes : (u : PowerMap) → IsClosed u × BasesBelow (length p.bases) u → Fixes h u
  fixes u w = closed_units_are_fixed h u is.homomorphism (leaves u w.1) w.0

  left : (i : ℕ) → ProgramHas (Leaves h) (Fixes h) p i
  left i =
      let declared = formed_units_are_declared p i formed in
      program_has_both (BasesBelow (length p.bases)) (BasesBelow (length p.bases)) (Leaves h) (λ u. IsClosed u × BasesBelow (length p.bases) u) (λ u. IsClosed u × BasesBelow (length p.bases) u) (Fixes h) (λ u v w. leaves u v) (λ u v w. fixes u v) p i declared declared

  earlier_stay : (i j : ℕ) (g : Signature) → typings_below p i j g → typings_below p i j (moved_signature h g)
  earlier_stay i j g m =
      let low = below_low p i j g m in
      (earlier_typings p i j (moved_signature h g) low).1 (homomorphisms_keep_typings p j g h (formed_units_are_declared p j formed) is.homomorphism (left j) ((earlier_typings p i j g low).0 m))

pub loose_of_formed : (p : ProgramTree) → IsFormed p → (i : ℕ) (f : FunctionTree) → slice_get p.functions i ≡ Some f → (g : Signature) → IsTypingOf (length p.bases) p.records (typings_below p i) i f g → IsLooseTypingOf p.records (typings_below p i) i f g
loose_of_formed p formed i f at g m =
    let there = left p formed f.units m.change m.instantiates i in
    let self : i ≤ i = omega arith in
    let moved = typing_of m.change m.instantiates.homomorphism p.records there.records (typings_below p i) (earlier_stay p formed f.units m.change m.instantiates i) i f m.signature (there.functions i f self at) m.typing.loose in
    subst (IsLooseTypingOf p.records (typings_below p i) i f) (sym m.given) moved.0
