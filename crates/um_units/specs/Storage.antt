-- The terms that are stored, in the value itself or on the heap.
use Rattle.std.specs.Prelude.{List}
use Rattle.um_units.specs.declared.Term.{Term}
use Rattle.um_units.specs.declared.terms.Storage.{Storage}
use Rattle.um_units.specs.declared.terms.Storage.TheVariants.{Few, Heap}

abbrev pub stored_terms : Storage → List Term
stored_terms (Few terms) = terms
stored_terms (Heap terms) = terms.items
