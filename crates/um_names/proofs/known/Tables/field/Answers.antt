use Rattle.std.proofs.Common.{◌≡◌, ◌<◌, length, refl, sym, ap, ◌∙◌, arith}
use Rattle.std.specs.Prelude.{Some, slice_get}
use Rattle.std.proofs.lemmas.Option.{slice_get_read}
use Rattle.um_names.specs.Tables.{numbered_field}
use Rattle.um_measures.proofs.NameLists.{number_of-below}
use Rattle.um_names.proofs.known.Tables.field.Goals as goal

pub index-requires : goal.index-requires
index-requires c =
    let t = c.args.self.now in
    omega (arith, number_of-below c.args.name.now t.fields c.in-Some.k (sym c.in-Some.ensures), c.requires.counts, t.field_numbers.ok)

pub returns-in-None : goal.returns-in-None
returns-in-None c = ap (numbered_field c.args.self.now.field_numbers.items) c.in-None.ensures ∙ c.requires.fields c.args.name.now

pub returns-in-Some : goal.returns-in-Some
returns-in-Some c =
    let t = c.args.self.now in
    let below : c.in-Some.k < length t.field_numbers.items = omega (arith, number_of-below c.args.name.now t.fields c.in-Some.k (sym c.in-Some.ensures), c.requires.counts) in
    let there : slice_get t.field_numbers.items c.in-Some.k ≡ Some c.index.result.now = slice_get_read t.field_numbers.items (length t.field_numbers.items) c.in-Some.k c.index.result.now refl below c.index.ensures in
    sym there ∙ ap (numbered_field t.field_numbers.items) c.in-Some.ensures ∙ c.requires.fields c.args.name.now
