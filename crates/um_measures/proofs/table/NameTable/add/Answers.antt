use Rattle.std.proofs.Common.{rules, arith}
use Rattle.std.specs.HashMap.Entry.{map_with_value}
use Rattle.um_measures.proofs.NameNumbers.{put, numbers_more, names_more}
use Rattle.um_measures.proofs.table.NameTable.add.Goals as goal

pub invariant_of-self-2 : goal.invariant_of-self-2
invariant_of-self-2 c =
    let old = c.self.inside.numbers in
    let entry = c.in_ok-self-inside.field-0 in
    let f = c.in_ok-self-inside.ensures in
    let new = put old c.in_ok-key.key c.len-count.result entry f.found f.value f.key f.unchanged f.update c.or_insert.result.now c.or_insert.ensures.value in
    numbers_more old (map_with_value entry c.or_insert.result.now) c.in_ok-key.key c.len-count.result c.self.invariant new c.len-count.ensures.len (omega (arith, c.if-count.false))
    _ (search rules)

pub returns : goal.returns
returns c =
    let old = c.self.inside.numbers in
    let entry = c.in_ok-self-inside.field-0 in
    let f = c.in_ok-self-inside.ensures in
    let new = put old c.in_ok-key.key c.len-count.result entry f.found f.value f.key f.unchanged f.update c.or_insert.result.now c.or_insert.ensures.value in
    names_more old.entries (map_with_value entry c.or_insert.result.now).entries c.in_ok-key.key c.len-count.result new c.args.self.now c.args.name.now c.self.view_is c.in_ok-key.ensures.items
    _ (search rules)
