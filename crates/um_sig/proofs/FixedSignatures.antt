-- Any units in place of a signature's variables, where these were units of their own: a change of units that leaves the
-- declared base units.
-- Source: Kennedy (1997): a homomorphism of units is given by the units that it gives for the atoms.
use Rattle.std.proofs.Common.{◌≡◌, ℕ, ◌+◌, ◌-◌, ◌<◌, true, false, if◌then◌else◌, nat_lt, List, [], ◌∷◌, map, refl, ap, ◌∙◌, arith}
use Rattle.std.specs.Prelude.{All}
use Rattle.std.proofs.lemmas.Bool.Decides.{nat_tests}
use Rattle.std.proofs.lemmas.List.Elements.{All-head, All-tail}
use Rattle.um_units.specs.declared.Atom.{Atom}
use Rattle.um_units.specs.declared.Atom.TheVariants.{Base, Var}
use Rattle.um_units.specs.PowerMap.{PowerMap, atom, extension, replace}
use Rattle.um_units.proofs.Replacement.{extension-mul, extension-atom, replace_alike}
use Rattle.um_tree.specs.TypeTree.{TypeTree, bool_type, num_type, list_type, record_type}
use Rattle.um_tree.specs.Typing.{put, moved, IsHomomorphism, parameter_unit}
use Rattle.um_tree.specs.Formed.{BasesBelow}
use Rattle.um_tree.specs.Laws.{TypeHas, Leaves}
use Rattle.um_tree.proofs.Homomorphisms.{h-replace}
use Rattle.um_sig.specs.Instances.{AreOverBases}

module _ (bases : ℕ) (t : ℕ → PowerMap) where
  -- t k for the base unit bases + k, and each other atom for itself
  abbrev unfixed_at : Atom → PowerMap
  unfixed_at (Base m) = if nat_lt m bases then atom (Base m) else t (m - bases)
  unfixed_at (Var k) = atom (Var k)

  abbrev pub unfixed : PowerMap → PowerMap
  unfixed = extension unfixed_at

  pub unfixed-mul : IsHomomorphism unfixed
  unfixed-mul = extension-mul unfixed_at

  is_declared : (m : ℕ) → m < bases → nat_lt m bases ≡ true
  is_declared m low = grind (arith, nat_tests)

  is_behind : (k : ℕ) → nat_lt (bases + k) bases ≡ false
  is_behind k = grind (arith, nat_tests)

  back : (k : ℕ) → bases + k - bases ≡ k
  back k = omega arith

  declared_left : (m : ℕ) → m < bases → unfixed (atom (Base m)) ≡ atom (Base m)
  declared_left m low = extension-atom unfixed_at (Base m) ∙ ap (λ b. if b then atom (Base m) else t (m - bases)) (is_declared m low)

  pub unfixed-parameter : (k : ℕ) → unfixed (parameter_unit bases k) ≡ t k
  unfixed-parameter k =
      extension-atom unfixed_at (Base (bases + k))
      ∙ ap (λ b. if b then atom (Base (bases + k)) else t (bases + k - bases)) (is_behind k)
      ∙ ap t (back k)

  pub leaves_declared : (u : PowerMap) → BasesBelow bases u → Leaves unfixed u
  leaves_declared u below m held = declared_left m (below m held)

  -- it changes what is put into a type over declared base units
  module _ (s r : ℕ → PowerMap) (same : (k : ℕ) → unfixed (s k) ≡ r k) where
    unit_unfixed : (u : PowerMap) → BasesBelow bases u → unfixed (replace s u) ≡ replace r u
    unit_unfixed u below = h-replace unfixed unfixed-mul u (leaves_declared u below) s ∙ replace_alike (λ k. unfixed (s k)) r u (λ k held. same k)

    units_unfixed : (us : List PowerMap) → All (BasesBelow bases) us → map unfixed (map (replace s) us) ≡ map (replace r) us
    units_unfixed [] below = refl
    units_unfixed (u ∷ us) below =
        let first = unit_unfixed u (All-head (BasesBelow bases) u us below) in
        let rest = units_unfixed us (All-tail (BasesBelow bases) u us below) in
        λ i. first i ∷ rest i

    type_unfixed : (w : TypeTree) → TypeHas (BasesBelow bases) w → moved unfixed (put s w) ≡ put r w
    type_unfixed bool_type below = refl
    type_unfixed (num_type u) below = ap num_type (unit_unfixed u below)
    type_unfixed (list_type w) below = ap list_type (type_unfixed w below)
    type_unfixed (record_type q us) below = ap (record_type q) (units_unfixed us below)

    pub types_unfixed : (ws : List TypeTree) → AreOverBases bases ws → map (moved unfixed) (map (put s) ws) ≡ map (put r) ws
    types_unfixed [] below = refl
    types_unfixed (w ∷ ws) below =
        let first = type_unfixed w (All-head (TypeHas (BasesBelow bases)) w ws below) in
        let rest = types_unfixed ws (All-tail (TypeHas (BasesBelow bases)) w ws below) in
        λ i. first i ∷ rest i
