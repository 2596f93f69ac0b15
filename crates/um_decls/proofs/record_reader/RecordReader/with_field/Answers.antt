use Rattle.std.proofs.Common.{is_ok, [], ◌∷◌, map, ap, ◌∙◌}
use Rattle.std.proofs.lemmas.List.{map-append}
use Rattle.um_tree.specs.RawTree.{field_decl_syntax}
use Rattle.um_types.specs.TypeView.{type_state}
use Rattle.um_decls.specs.DeclViews.{field_state}
use Rattle.um_decls.proofs.DeclLists.{fields_pushed}
use Rattle.um_decls.proofs.record_reader.RecordReader.with_field.Goals as goal

pub invariant_of-self : goal.invariant_of-self
invariant_of-self c =
    let old = c.args.self.now in
    record { low = fields_pushed (is_ok c.push.result) old.fields.items.items c.push.new.self.items c.args.field c.push.ensures.items old.low c.requires }

pub returns : goal.returns
returns c =
    let old = c.args.self.now in
    let pushed = ap (map field_decl_syntax) c.in_ok-push.ensures.items ∙ map-append field_decl_syntax old.fields.items.items (c.args.field ∷ []) in
    c.put.ensures ∙ ap (λ fs. field_state old.head fs (type_state old.ty) c.args.expected) pushed
