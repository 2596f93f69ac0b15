use Rattle.std.proofs.Common.{◌≡◌, take, length}
use Rattle.um_units.specs.declared.Term.{Term}
use Rattle.um_tree.specs.Scheme.{atom_variables}
use Rattle.um_proof.proofs.HeldVariables.{AreMarked}
use Rattle.um_proof.proofs.renaming.mark_terms.Given as goal

abbrev pub invariant-loop-term : goal.invariant-loop-term
invariant-loop-term l = record {
  count : length l.marks.items ≡ length l.initial.marks.items;
  marks : AreMarked (λ (t : Term). atom_variables t.atom) l.initial.marks.items l.marks.items (take l.term-index l.terms);
}
