use Rattle.std.proofs.Common.{◌≡◌, ◌∷◌, [], ◌<◌, ◌≤◌, ℕ, List, Bool, true, false, length, map, sym, ap, refl, subst, ◌∙◌, arith}
use Rattle.std.specs.Prelude.{MatchOption}
use Rattle.std.specs.List.{list_all}
use Rattle.std.proofs.lemmas.List.{length-map}
use Rattle.std.proofs.lemmas.Result.{IfOk-weaker}
use Rattle.um_tree.specs.declared.program.FieldDecl.{FieldDecl}
use Rattle.um_tree.specs.TypeTree.{type_tree}
use Rattle.um_tree.specs.ProgramTree.{field_tree, record_tree}
use Rattle.um_tree.specs.Shapes.{type_shape}
use Rattle.um_verify.specs.StackShape.{on_stack}
use Rattle.um_verifier.specs.KnownImages.{known_heights, admits}
use Rattle.um_verifier.specs.Names.{Takes}
use Rattle.um_verifier.specs.KnownHeads.{IsKnownRecord}
use Rattle.um_verifier.proofs.RecordHeads.{RecordFound, low_fields, shapes_are, field_names_are, bad_name, bad_fields, found_record}
use Rattle.um_verifier.proofs.records.checked_record.Goals as goal

pub returns-then-not-named : goal.returns-then-not-named
returns-then-not-named c = λ records i there takes.
    let old = c.args.names.now in
    let new = c.take_name.new.taken in
    bad_name records i (record_tree c.args.declared.now) there c.args.known.now old c.args.field_names.now takes new
    (subst (λ (b : Bool). Takes b old (c.args.declared.now.name ∷ []) new) c.if-not-named.true c.in_ok-named.ensures)

pub returns-then-not-fields_named : goal.returns-then-not-fields_named
returns-then-not-fields_named c = λ records i there takes.
    let old = c.args.field_names.now in
    let new = c.take_field_names.new.taken in
    let fs = c.deref-fields.result.now in
    let named = subst (λ (b : Bool). Takes b old (map (λ (f : FieldDecl). f.name) fs) new) c.if-not-fields_named.true c.in_ok-fields_named.ensures in
    bad_fields records i (record_tree c.args.declared.now) there c.args.known.now c.args.names.now old takes new
    (subst (λ (ns : List (List ℕ)). Takes false old ns new) (field_names_are fs c.args.declared.now.fields.items.items c.deref-fields.ensures.value) named)

pub known_record-requires : goal.known_record-requires
known_record-requires c = rw c.deref-fields.ensures.value (record { low = low_fields c.args.declared.now c.requires.plain })

pub returns : goal.returns
returns c = λ records i there takes.
    let d = record_tree c.args.declared.now in
    let known = c.args.known.now in
    let fs = c.deref-fields.result.now in
    let items = c.args.declared.now.fields.items.items in
    let same = c.deref-fields.ensures.value in
    let ss = map (λ (f : FieldDecl). on_stack (type_shape (type_tree f.ty))) fs in
    let old = c.args.names.now in
    let new = c.take_name.new.taken in
    let old_fields = c.args.field_names.now in
    let new_fields = c.take_field_names.new.taken in
    let many : length (map field_tree items) ≡ length fs = length-map items field_tree ∙ sym (ap (λ (xs : List FieldDecl). length xs) same) in
    let some : 0 < length (map field_tree items) = omega (arith, many, c.if-fields-eq0.false) in
    let few : length (map field_tree items) ≤ 32 = omega (arith, many, c.if-fields-gt32.false) in
    let named = subst (λ (b : Bool). Takes b old (c.args.declared.now.name ∷ []) new) c.if-not-named.false c.in_ok-named.ensures in
    let fields_named = subst (λ (ns : List (List ℕ)). Takes true old_fields ns new_fields) (field_names_are fs items same) (subst (λ (b : Bool). Takes b old_fields (map (λ (f : FieldDecl). f.name) fs) new_fields) c.if-not-fields_named.false c.in_ok-fields_named.ensures) in
    IfOk-weaker c.known_record.result (λ found. MatchOption found (list_all (admits known) ss ≡ false) (λ r. (list_all (admits known) ss ≡ true) × IsKnownRecord (known_heights known) ss r)) (λ found. RecordFound records i d known old old_fields new new_fields found)
    (found_record records i d there known old old_fields takes new new_fields ss (shapes_are fs items d same refl) some few named fields_named)
    c.known_record.ensures
