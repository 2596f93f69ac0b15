use Rattle.std.proofs.Common.{◌≡◌, take, map, length, ◌++◌, ◌∷◌}
use Rattle.um_cells.specs.declared.cell.Cell.TheVariants.{Record, Part}
use Rattle.um_cells.proofs.cell.push_each.Given as goal

abbrev pub invariant-loop-part : goal.invariant-loop-part
invariant-loop-part l = l.cells.items ≡ l.fn.cells.items ++ Record (length l.parts) ∷ map Part (take l.part-index l.parts)
