use Rattle.std.proofs.Common.{◌≡◌, ℕ, List, false, map, sym, ap, subst, ◌∙◌, Ok}
use Rattle.um_tree.specs.ProgramTree.{RecordTree, field_tree}
use Rattle.um_tree.specs.RawTree.{var_syntax, field_decl_syntax}
use Rattle.um_measures.specs.Faults.{Found, and_then}
use Rattle.um_measures.specs.Known.{is_taken, is_among, record_names}
use Rattle.um_names.specs.Resolution.{resolved_parameters, with_record}
use Rattle.um_names.specs.Tables.{known_of}
use Rattle.um_names.proofs.Taken.{not_record}
use Rattle.um_names.proofs.Wholes.{record_is}
use Rattle.um_names.proofs.declare.declare_record.Goals as goal

pub add_record-requires-clause-new : goal.add_record-requires-clause-new
add_record-requires-clause-new c =
    let k = known_of c.args.tables.now in
    let x = c.args.name.now in
    let new : is_taken k x ≡ false = sym (c.is_taken.ensures ∙ ap (is_taken k) c.as_slice.ensures) ∙ c.if-is_taken.false in
    subst (λ (y : List ℕ). is_among (record_names k.program.records) y ≡ false) (sym c.in_ok-copied.ensures) (not_record k x new)

pub returns-clause-exact : goal.returns-clause-exact
returns-clause-exact c =
    let a = c.args in
    let k = known_of a.tables.now in
    let new : is_taken k a.name.now ≡ false = sym (c.is_taken.ensures ∙ ap (is_taken k) c.as_slice.ensures) ∙ c.if-is_taken.false in
    let us = c.add_unit_parameters.new.names in
    let units = subst (λ (ns : List (List ℕ)). resolved_parameters ns (map var_syntax a.vars.now) ≡ Ok us) c.with_digest-variables.ensures c.in_ok-add_unit_parameters.ensures.exact in
    ap (λ (r : Found RecordTree). and_then r (λ d. Ok (with_record k d)))
    (record_is k a.at a.name.now (map var_syntax a.vars.now) (map field_decl_syntax a.fields.now) c.in_ok-copied.field-0 c.count.result us (map field_tree c.in_ok-items.items.items)
    c.in_ok-copied.ensures c.count.ensures new units c.in_ok-items.ensures.exact)
    ∙ ap Ok (sym c.in_ok-add_record.ensures.known)
