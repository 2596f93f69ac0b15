-- Cells behind others.
use Rattle.std.proofs.Common.{◌≡◌, refl, sym, ap, ◌∙◌, subst, ℕ, zero, suc, ◌+◌, List, [], ◌∷◌, ◌++◌, length, Some, arith, ◌⊎◌, inl, inr}
use Rattle.std.specs.Prelude.{slice_get}
use Rattle.um_cells.specs.declared.cell.Cell.{Cell}
use Rattle.um_cells.specs.Denotes.{Retains}
use Rattle.um_cells.proofs.Denoting.{Extends, retained}

extends_append : (s more : List Cell) → Extends s (s ++ more)
extends_append [] more n c h = absurd cc
extends_append (x ∷ s) more zero c h = h
extends_append (x ∷ s) more (suc n) c h = extends_append s more n c h

pub extends_grown : (s t more : List Cell) → t ≡ s ++ more → Extends s t
extends_grown s t more e = subst (λ x. Extends s x) (sym e) (extends_append s more)

pub retains_grown : (s t more : List Cell) → t ≡ s ++ more → Retains s t
retains_grown s t more e = retained s t (extends_grown s t more e)

at_end : (s : List Cell) (c : Cell) (more : List Cell) → slice_get (s ++ c ∷ more) (length s) ≡ Some c
at_end [] c more = refl
at_end (x ∷ s) c more = at_end s c more

-- the first cell behind the others
pub next_cell : (s t more : List Cell) (c : Cell) (n : ℕ) → t ≡ s ++ c ∷ more → n ≡ length s → slice_get t n ≡ Some c
next_cell s t more c n e m = ap (λ u. slice_get u n) e ∙ ap (slice_get (s ++ c ∷ more)) m ∙ at_end s c more

-- a cell stands among the first ones or among those behind
pub cell_of_append : (s more : List Cell) (n : ℕ) (c : Cell) → slice_get (s ++ more) n ≡ Some c → (slice_get s n ≡ Some c) ⊎ ((k : ℕ) × (n ≡ length s + k) × (slice_get more k ≡ Some c))
cell_of_append [] more n c h = inr (n, omega arith, h)
cell_of_append (x ∷ s) more zero c h = inl h
cell_of_append (x ∷ s) more (suc n) c h =
    elim (cell_of_append s more n c h) [ inl e ↦ inl e | inr e ↦ inr (e.0, omega (arith, e.1), e.2) ]
