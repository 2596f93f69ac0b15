use Rattle.std.proofs.Common.{◌∷◌, [], map, get_or, subst}
use Rattle.um_tree.specs.declared.program.FieldDecl.{FieldDecl}
use Rattle.um_verifier.specs.Names.{Takes}
use Rattle.um_verifier.proofs.TakenNames.{more_taken, not_taken, field_name, as_many}
use Rattle.um_verifier.proofs.names.take_field_names.Goals as goal

pub returns-then-not-holds : goal.returns-then-not-holds
returns-then-not-holds c =
    let fields = c.args.fields.now in
    let zs = map (λ (f : FieldDecl). f.name) fields in
    let i = c.loop-i.i in
    let d = c.index-fields-i.result in
    let f : FieldDecl = get_or fields i d in
    let t = subst (λ b. Takes b c.loop-i.taken (f.name ∷ []) c.take_name.new.taken) c.if-not-holds.true c.in_ok-holds.ensures in
    not_taken c.args.taken.now zs c.loop-i.taken c.take_name.new.taken i f.name (as_many fields i c.loop-i-test.true) (field_name fields i d c.loop-i-test.true) c.loop-i.invariant t

pub loop-i-preserved : goal.loop-i-preserved
loop-i-preserved c =
    let fields = c.args.fields.now in
    let zs = map (λ (f : FieldDecl). f.name) fields in
    let i = c.loop-i.i in
    let d = c.index-fields-i.result in
    let f : FieldDecl = get_or fields i d in
    let t = subst (λ b. Takes b c.loop-i.taken (f.name ∷ []) c.take_name.new.taken) c.if-not-holds.false c.in_ok-holds.ensures in
    more_taken c.args.taken.now zs c.loop-i.taken c.take_name.new.taken i f.name (as_many fields i c.loop-i-test.true) (field_name fields i d c.loop-i-test.true) c.loop-i.invariant t
