use Rattle.std.proofs.Common.{◌≡◌, refl, sym, subst, Some}
use Rattle.std.specs.Prelude.{slice_get}
use Rattle.um_machine.specs.declared.code.Entry.{Entry}
use Rattle.um_tests.proofs.machine.code_of.Goals as goal

abbrev entry : Entry
entry = record { start = 0; end = 2; params = 0 }

pub returns : goal.returns
returns c =
    let found = subst (λ items. slice_get items 0 ≡ Some entry) (sym c.in_ok-vec-2.ensures.items) refl in
    (entry, subst (λ entries. slice_get entries 0 ≡ Some entry) (sym c.from_vec-2.ensures) found, refl)
