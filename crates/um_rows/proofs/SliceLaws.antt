-- The units of some holes as a part of the list of all.
use Rattle.std.proofs.Common.{◌≡◌, ℕ, zero, suc, ◌+◌, ◌-◌, ◌<◌, ◌≤◌, List, [], ◌∷◌, map, length, get_or, take, drop, refl, sym, ap, ◌∙◌, length-drop, arith}
use Rattle.std.proofs.lemmas.List.{length-take-le, get_or-take, get_or-drop}
use mathlib.Core.Logic.{∥∥₁_map}
use Rattle.um_units.specs.declared.Atom.TheVariants.{Var}
use Rattle.um_units.specs.PowerMap.{PowerMap, one, atom, nth}
use Rattle.um_tree.specs.TypeTree.{TypeTree}
use Rattle.um_tree.specs.Typing.{put, unit_at}
use Rattle.um_rows.specs.Derivation.{first_units}
use Rattle.um_slots.specs.SlotUnits.{AreNumbered, AreVariables}
use Rattle.um_rows.proofs.Variables.{TypeBelow, TypesBelow, put_alike_below, types_put_alike_below}

-- the default isn't read
any_default : (us : List PowerMap) (k : ℕ) (d e : PowerMap) → k < length us → get_or us k d ≡ get_or us k e
any_default [] k d e h = absurd (omega (arith, h))
any_default (u ∷ us) zero d e h = refl
any_default (u ∷ us) (suc k) d e h = any_default us k d e (omega (arith, h))

module _ (us : List PowerMap) (first many : ℕ) (room : first + many ≤ length us) where
  abbrev pub part : List PowerMap
  part = take many (drop first us)

  pub length-part : length part ≡ many
  length-part = length-take-le many (drop first us) (let l = length-drop first us in omega (arith, l, room))

  pub nth-part : (k : ℕ) → k < many → nth part k ≡ nth us (first + k)
  nth-part k h = get_or-take many (drop first us) k (atom (Var k)) h ∙ get_or-drop first us k (atom (Var k)) ∙ any_default us (first + k) (atom (Var k)) (atom (Var (first + k))) (omega (arith, h, room))

  part_numbered : AreNumbered us → AreNumbered part
  part_numbered are = record {
    number = λ k. are.number (first + k);
    place = λ j. are.place j - first;
    variable = λ k h. (let low : k < many = omega (arith, h, length-part) in nth-part k low ∙ are.variable (first + k) (omega (arith, low, room)));
    apart = λ k h. (let low : k < many = omega (arith, h, length-part) in let e = are.apart (first + k) (omega (arith, low, room)) in omega (arith, e));
  }

  pub part_variables : AreVariables us → AreVariables part
  part_variables are = ∥∥₁_map are part_numbered

  -- types over the part's variables
  pub put-part : (t : TypeTree) → TypeBelow many t → put (λ k. nth us (first + k)) t ≡ put (nth part) t
  put-part t low = put_alike_below many (λ k. nth us (first + k)) (nth part) (λ k h. sym (nth-part k h)) t low

  pub types_put-part : (ts : List TypeTree) → TypesBelow many ts → map (put (λ k. nth us (first + k))) ts ≡ map (put (nth part)) ts
  types_put-part ts low = types_put_alike_below many (λ k. nth us (first + k)) (nth part) (λ k h. sym (nth-part k h)) ts low

-- a list by its elements
listed : (xs : List PowerMap) (f : ℕ → PowerMap) → ((k : ℕ) → k < length xs → nth xs k ≡ f k) → first_units (length xs) f ≡ xs
listed [] f h = refl
listed (x ∷ xs) f h =
    let head : f 0 ≡ x = sym (h 0 (omega arith)) in
    let rest = listed xs (λ k. f (suc k)) (λ k l. any_default xs k (atom (Var k)) (atom (Var (suc k))) l ∙ h (suc k) (omega (arith, l))) in
    λ i. head i ∷ rest i

pub first_units-part : (us : List PowerMap) (first many : ℕ) (room : first + many ≤ length us) → first_units many (λ k. nth us (first + k)) ≡ take many (drop first us)
first_units-part us first many room =
    let l = length-part us first many room in
    ap (λ m. first_units m (λ k. nth us (first + k))) (sym l) ∙ listed (take many (drop first us)) (λ k. nth us (first + k)) (λ k h. nth-part us first many room k (omega (arith, h, l)))

-- the units of a record, where no other variables stand in the types of its fields
pub put-units : (us : List PowerMap) (t : TypeTree) → TypeBelow (length us) t → put (nth us) t ≡ put (unit_at us) t
put-units us t low = put_alike_below (length us) (nth us) (unit_at us) (λ k h. any_default us k (atom (Var k)) one h) t low

pub types_put-units : (us : List PowerMap) (ts : List TypeTree) → TypesBelow (length us) ts → map (put (nth us)) ts ≡ map (put (unit_at us)) ts
types_put-units us ts low = types_put_alike_below (length us) (nth us) (unit_at us) (λ k h. any_default us k (atom (Var k)) one h) ts low
