-- Rigid rows: products of them, and what solves them.
use Rattle.std.proofs.Common.{◌≡◌, ℕ, zero, suc, ◌+◌, true, false, cond, List, [], ◌∷◌, length, take, refl, sym, ap, ◌∙◌}
use Rattle.std.specs.Prelude.{nat_lt}
use Rattle.std.proofs.lemmas.Bool.{ltb-true}
use Rattle.std.proofs.lemmas.List.Elements.{All-nil, All-cons, All-head, All-tail}
use Rattle.um_units.specs.declared.Atom.TheVariants.{Base, Var}
use Rattle.um_units.specs.PowerMap.{PowerMap, one, atom, replace, nth}
use Rattle.um_units.specs.Solutions.{Solves}
use Rattle.um_units.proofs.Replacement.{replace-replace, replace-base, replace-variable}
use Rattle.um_elim.specs.Solution.{rigid_unit}
use Rattle.um_rows.specs.Solutions.{IsRigid}
use Rattle.um_check.specs.declared.certificate.Part.{Part}
use Rattle.um_check.specs.Combination.{combined, NamesRowsBelow}
use Rattle.um_check.specs.Refutation.{rigid_rows}
use Rattle.um_check.proofs.Combinations.{combined-map}

-- a rigid solution gives each fixed slot what the rigid rows have for it
same_unit_at : (bases fixed : ℕ) (units : List PowerMap) → IsRigid bases fixed units → (k : ℕ) → replace (nth units) (rigid_unit bases fixed k) ≡ nth units k
same_unit_at bases fixed units rigid k =
    elim (nat_lt k fixed) as (λ b. nat_lt k fixed ≡ b → replace (nth units) (cond b (atom (Base (bases + k))) (atom (Var k))) ≡ nth units k) [
      | true ↦ λ e. replace-base (nth units) (bases + k) ∙ sym (rigid k (ltb-true k fixed e))
      | false ↦ λ e. replace-variable (nth units) k
    ] refl

-- so it solves the rigid rows
pub rigid_solves : (bases fixed : ℕ) (rows units : List PowerMap) → IsRigid bases fixed units → Solves (nth units) rows → Solves (nth units) (rigid_rows bases fixed rows)
rigid_solves bases fixed [] units rigid h = All-nil (λ row. replace (nth units) row ≡ one)
rigid_solves bases fixed (row ∷ rows) units rigid h =
    All-cons (λ row. replace (nth units) row ≡ one) (replace (rigid_unit bases fixed) row) (rigid_rows bases fixed rows)
    (replace-replace (rigid_unit bases fixed) (nth units) row ∙ ap (λ s. replace s row) (λ i k. same_unit_at bases fixed units rigid k i) ∙ All-head (λ row. replace (nth units) row ≡ one) row rows h)
    (rigid_solves bases fixed rows units rigid (All-tail (λ row. replace (nth units) row ≡ one) row rows h))

pub take-rigid : (bases fixed n : ℕ) (rows : List PowerMap) → take n (rigid_rows bases fixed rows) ≡ rigid_rows bases fixed (take n rows)
take-rigid bases fixed zero rows = refl
take-rigid bases fixed (suc n) [] = refl
take-rigid bases fixed (suc n) (row ∷ rows) = λ i. replace (rigid_unit bases fixed) row ∷ take-rigid bases fixed n rows i

pub combined-rigid : (bases fixed : ℕ) (rows : List PowerMap) (parts : List Part) → NamesRowsBelow (length rows) parts → combined (rigid_rows bases fixed rows) parts ≡ replace (rigid_unit bases fixed) (combined rows parts)
combined-rigid bases fixed rows parts named = combined-map (rigid_unit bases fixed) rows parts named
