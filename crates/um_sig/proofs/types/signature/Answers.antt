use Rattle.std.proofs.Common.{map}
use Rattle.std.proofs.lemmas.Result.{err_from_is_err_and}
use Rattle.um_tree.specs.RawTree.{type_syntax}
use Rattle.um_tree.specs.TypeTree.{type_tree}
use Rattle.um_names.specs.Tables.{known_of}
use Rattle.um_sig.proofs.SignatureHeads.{signature_is, names_stop, types_stop}
use Rattle.um_sig.proofs.types.signature.Goals as goal

pub returns-clause-exact : goal.returns-clause-exact
returns-clause-exact c =
    signature_is (known_of c.args.tables.now) (map type_syntax c.args.raw.now) c.in_ok-variables.variables (map type_tree c.in_ok-items.items.items) c.count.result tt
    c.in_ok-variables.ensures c.in_ok-all_type_names.ensures.exact c.in_ok-items.ensures.exact c.count.ensures

pub returns-in_err-all_type_names-clause-faults : goal.returns-in_err-all_type_names-clause-faults
returns-in_err-all_type_names-clause-faults c =
    let p = err_from_is_err_and c.from_residual-in_err-all_type_names.result c.from_residual-in_err-all_type_names.ensures.1 in
    rw (p.1, p.2) (names_stop (known_of c.args.tables.now) (map type_syntax c.args.raw.now) c.in_ok-variables.variables c.in_err-all_type_names.field-0.0 c.in_ok-variables.ensures c.in_err-all_type_names.ensures.faults)

pub returns-in_err-items-clause-faults : goal.returns-in_err-items-clause-faults
returns-in_err-items-clause-faults c =
    let p = err_from_is_err_and c.from_residual-in_err-items.result c.from_residual-in_err-items.ensures.1 in
    rw (p.1, p.2)
    (types_stop (known_of c.args.tables.now) (map type_syntax c.args.raw.now) c.in_ok-variables.variables c.in_err-items.field-0.0 tt c.in_ok-variables.ensures c.in_ok-all_type_names.ensures.exact c.in_err-items.ensures.faults)
