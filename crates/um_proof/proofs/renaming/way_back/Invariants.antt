use Rattle.std.proofs.Common.{◌≡◌, ℕ, List, take, map, length}
use Rattle.std.specs.Prelude.{All}
use Rattle.um_tree.specs.Formed.{BasesBelow}
use Rattle.um_tree.specs.TypeTree.{type_tree}
use Rattle.um_proof.specs.Renaming.{ArePlaces, GoBack}
use Rattle.um_proof.proofs.renaming.way_back.Given as goal

abbrev pub invariant-loop-i : goal.invariant-loop-i
invariant-loop-i l = record {
  count : length l.out.items ≡ l.vars;
  back : (order : List ℕ) → ArePlaces order l.held (map type_tree l.places) → GoBack order (take l.i l.held) l.back l.out.items;
  declared : (n : ℕ) → All (BasesBelow n) l.back → All (BasesBelow n) l.out.items;
}
