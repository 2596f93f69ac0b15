use Rattle.std.proofs.Common.{◌≡◌, ◌+◌, ◌-◌, length, sym, subst, arith, rules, None, refl}
use Rattle.um_cells.specs.Denotes.{ListFrom}
use Rattle.um_cells.proofs.Denoting.{retains_both}
use Rattle.um_cells.proofs.WellFormed.{holds_at, hold_kept, hold_from_values}
use Rattle.um_cells.proofs.Rows.{no_items_left, longer_row}
use Rattle.um_cells.proofs.store.Store.make_list.Goals as goal

pub loop-i-init : goal.loop-i-init
loop-i-init c = record {
  keeps = λ w v x. x;
  list = λ vs h. subst (λ us. ListFrom c.args.self.now.cells.items None us) (sym (no_items_left c.args.self.now.cells.items c.args.items.now vs h)) refl;
  holds = search rules;
  cells = omega arith;
}

pub loop-i-preserved : goal.loop-i-preserved
loop-i-preserved c = record {
  keeps = retains_both c.args.self.now.cells.items c.loop-i.self.cells.items c.add_item.new.self.cells.items c.loop-i.invariant.keeps c.in_ok-add_item.ensures.keeps;
  list = λ vs h. longer_row c.args.self.now.cells.items c.loop-i.self.cells.items c.add_item.new.self.cells.items c.args.items.now vs c.loop-i.i c.index-items-i.result c.index-items-i.result c.loop-i.first c.in_ok-add_item.field-0 c.loop-i.invariant.keeps h (omega arith) (omega arith) c.index-items-i.is (c.loop-i.invariant.list vs h) c.in_ok-add_item.ensures.list;
  holds = c.in_ok-add_item.ensures.holds;
  cells =
      let before : length c.loop-i.self.cells.items + c.loop-i.i ≡ length c.args.self.now.cells.items + length c.args.items.now = c.loop-i.invariant.cells in
      let more : length c.add_item.new.self.cells.items ≡ length c.loop-i.self.cells.items + 1 = c.in_ok-add_item.ensures.one_cell in
      let after : length c.add_item.new.self.cells.items + (c.loop-i.i - 1) ≡ length c.args.self.now.cells.items + length c.args.items.now = omega arith in
      after;
}

pub add_item-requires-clause-item : goal.add_item-requires-clause-item
add_item-requires-clause-item c = holds_at c.loop-i.self.cells.items c.args.items.now (c.loop-i.i - 1) c.index-items-i.result c.index-items-i.result (omega arith) c.index-items-i.is (hold_kept c.args.self.now.cells.items c.loop-i.self.cells.items c.args.items.now c.args.self.now.formed c.loop-i.invariant.keeps (hold_from_values c.args.self.now.cells.items c.args.items.now c.requires.0 c.requires.1))

pub add_item-requires-clause-next : goal.add_item-requires-clause-next
add_item-requires-clause-next c = c.loop-i.invariant.holds
