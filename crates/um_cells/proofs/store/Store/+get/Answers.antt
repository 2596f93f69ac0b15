use Rattle.std.proofs.Common.{rules, ◌≡◌, sym, subst, ap, ◌∙◌, arith, map, length, ◌+◌, ◌*◌, ◌<◌, ◌≤◌, ◌∷◌, [], Some, length-append}
use Rattle.um_tree.specs.ValueTree.{value_tree}
use Rattle.std.specs.Prelude.{IsTrue}
use Rattle.um_tree.specs.declared.value.Value.{the_lemmas}
use Rattle.um_cells.specs.declared.cell.Cell.TheVariants.{Record}
use Rattle.um_cells.specs.Denotes.{ListFrom, PartsFrom}
use Rattle.um_cells.proofs.Walking.{reach, reach_of_next, next_is_item, followed, reach_within, next_within, next_item, item_names, list_step, list_end, parts_step, parts_end, part_is_there, part_names, named_value, item_of_value, record_of_value, record_read, nil_read}
use Rattle.um_cells.proofs.store.Store.+get.Goals as goal

pub get-items_from-requires : goal.get-items_from-requires
get-items_from-requires t c =
    let far : 2 * reach c.args.word + 1 ≡ 2 * (c.in-List.n + 1) + 1 = ap (λ w. 2 * reach w + 1) c.in-List.is in
    (omega (arith, c.decreases), item_of_value c.args.self.now.cells.items c.args.word c.in-List.n c.in-List.is c.requires)

pub get-parts_of-requires : goal.get-parts_of-requires
get-parts_of-requires t c =
    let far : 2 * reach c.args.word + 1 ≡ 2 * (c.in-Rec.n + 1) + 1 = ap (λ w. 2 * reach w + 1) c.in-Rec.is in
    (omega (arith, c.decreases), record_of_value c.args.self.now.cells.items c.args.word _ c.in-Rec.n c.in-Rec.is c.requires)

pub get-returns-in-Nil : goal.get-returns-in-Nil
get-returns-in-Nil t c = nil_read value_tree c.args.self.now.cells.items c.args.word c.new.result.items _ c.in-Nil.is (search (rules, the_lemmas)) c.new.ensures.items

pub get-returns-in_ok-parts_of-in-Rec : goal.get-returns-in_ok-parts_of-in-Rec
get-returns-in_ok-parts_of-in-Rec t c = record_read value_tree c.args.self.now.cells.items c.args.word c.in-Rec.number c.in-Rec.n c.in_ok-parts_of-in-Rec.field-0.items _ c.in-Rec.is (search (rules, the_lemmas)) c.in_ok-parts_of-in-Rec.ensures.0 c.in_ok-parts_of-in-Rec.ensures.1

pub items_from-loop-next-init : goal.items_from-loop-next-init
items_from-loop-next-init t c = record {
  within = omega arith;
  item = c.requires;
  list = λ us l. subst (λ xs. ListFrom c.args.self.now.cells.items (Some c.args.n) (followed (map value_tree xs) us)) (sym c.new-items.ensures.items) l;
}

pub items_from-item_at-word-requires : goal.items_from-item_at-word-requires
items_from-item_at-word-requires t c = subst (λ o. IsTrue (next_is_item c.args.self.now.cells.items o)) c.in-Some.is c.loop-next.invariant.item

pub items_from-get-requires : goal.items_from-get-requires
items_from-get-requires t c =
    let (a, b) = item_names c.args.self.now.cells.items c.in-Some.m c.item_at-word.result.0 c.item_at-word.result.1 c.args.self.now.formed c.item_at-word.ensures in
    let far : reach c.item_at-word.result.0 ≤ c.in-Some.m = reach_within c.args.self.now.cells.items c.in-Some.m c.item_at-word.result.0 a in
    let here : c.in-Some.m + 1 ≤ c.args.n + 1 = subst (λ o. reach_of_next o ≤ c.args.n + 1) c.in-Some.is c.loop-next.invariant.within in
    (omega (arith, c.decreases), named_value c.args.self.now.cells.items c.in-Some.m _ c.item_at-word.result.0 c.args.self.now.formed c.item_at-word.ensures a)

pub items_from-loop-next-smaller : goal.items_from-loop-next-smaller
items_from-loop-next-smaller t c =
    let (a, b) = item_names c.args.self.now.cells.items c.in-Some.m c.item_at-word.result.0 c.item_at-word.result.1 c.args.self.now.formed c.item_at-word.ensures in
    let next : reach_of_next c.item_at-word.result.1 ≤ c.in-Some.m = next_within c.args.self.now.cells.items c.in-Some.m c.item_at-word.result.1 b in
    let here : reach_of_next c.loop-next.next ≡ c.in-Some.m + 1 = ap reach_of_next c.in-Some.is in
    let less : reach_of_next c.item_at-word.result.1 < reach_of_next c.loop-next.next = omega arith in
    less

pub items_from-loop-next-preserved : goal.items_from-loop-next-preserved
items_from-loop-next-preserved t c =
    let (a, b) = item_names c.args.self.now.cells.items c.in-Some.m c.item_at-word.result.0 c.item_at-word.result.1 c.args.self.now.formed c.item_at-word.ensures in
    let here : c.in-Some.m + 1 ≤ c.args.n + 1 = subst (λ o. reach_of_next o ≤ c.args.n + 1) c.in-Some.is c.loop-next.invariant.within in
    let next = next_within c.args.self.now.cells.items c.in-Some.m c.item_at-word.result.1 b in
    record {
      within = omega arith;
      item = next_item c.args.self.now.cells.items c.in-Some.m c.item_at-word.result.1 b;
      list = list_step value_tree c.args.self.now.cells.items c.args.n c.loop-next.next c.in-Some.m c.item_at-word.result.0 c.item_at-word.result.1 c.loop-next.items.items c.push.new.self.items c.in_ok-item.item c.in-Some.is c.item_at-word.ensures c.in_ok-item.ensures c.in_ok-push.ensures.items c.loop-next.invariant.list;
    }

pub items_from-returns : goal.items_from-returns
items_from-returns t c = list_end value_tree c.args.self.now.cells.items c.args.n c.loop-next.next c.loop-next.items.items c.in_default.is c.loop-next.invariant.list

pub parts_of-loop-k-init : goal.parts_of-loop-k-init
parts_of-loop-k-init t c = record {
  many = ap length c.new-parts.ensures.items;
  parts = λ us l. subst (λ xs. PartsFrom c.args.self.now.cells.items (c.args.n + 1) (followed (map value_tree xs) us)) (sym c.new-parts.ensures.items) (let same : c.args.n + 1 + 0 ≡ c.args.n + 1 = omega arith in subst (λ i. PartsFrom c.args.self.now.cells.items i us) same l);
}

pub parts_of-part_at-word-requires : goal.parts_of-part_at-word-requires
parts_of-part_at-word-requires t c = part_is_there c.args.self.now.cells.items c.args.n c.count_at-count.result c.loop-k.k c.args.self.now.formed c.count_at-count.ensures (omega arith)

pub parts_of-get-requires : goal.parts_of-get-requires
parts_of-get-requires t c =
    let a = part_names c.args.self.now.cells.items c.args.n c.count_at-count.result c.loop-k.k c.part_at-word.result c.args.self.now.formed c.count_at-count.ensures (omega arith) c.part_at-word.ensures in
    let far : reach c.part_at-word.result ≤ c.args.n = reach_within c.args.self.now.cells.items c.args.n c.part_at-word.result a in
    (omega (arith, c.decreases), named_value c.args.self.now.cells.items c.args.n _ c.part_at-word.result c.args.self.now.formed c.count_at-count.ensures a)

pub parts_of-loop-k-preserved : goal.parts_of-loop-k-preserved
parts_of-loop-k-preserved t c = record {
  many = omega (arith, ap length c.in_ok-push.ensures.items, length-append c.loop-k.parts.items (c.in_ok-part.part ∷ []));
  parts = parts_step value_tree c.args.self.now.cells.items (c.args.n + 1) c.loop-k.k c.part_at-word.result c.loop-k.parts.items c.push.new.self.items c.in_ok-part.part c.part_at-word.ensures c.in_ok-part.ensures c.in_ok-push.ensures.items c.loop-k.invariant.parts;
}

pub parts_of-returns : goal.parts_of-returns
parts_of-returns t c =
    let all : length c.loop-k.parts.items ≡ c.count_at-count.result = omega arith in
    (c.count_at-count.ensures ∙ ap (λ k. Some (Record k)) (sym all), parts_end value_tree c.args.self.now.cells.items (c.args.n + 1) c.loop-k.k c.loop-k.parts.items c.loop-k.invariant.parts)
