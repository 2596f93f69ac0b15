use Rattle.std.proofs.Common.{sym}
use Rattle.um_cells.proofs.WellFormed.{holds_from_value}
use Rattle.um_cells.proofs.Operating.{list_holds, longer_some}
use Rattle.um_cells.proofs.store.Store.cons.Goals as goal

pub add_item-requires-clause-item : goal.add_item-requires-clause-item
add_item-requires-clause-item c = holds_from_value c.args.self.now.cells.items c.args.item c.requires.item.0 c.requires.item.1

pub add_item-requires-clause-next : goal.add_item-requires-clause-next
add_item-requires-clause-next c = list_holds c.args.self.now.cells.items c.args.list c.in-Some.next (sym c.in-Some.ensures) (holds_from_value c.args.self.now.cells.items c.args.list c.requires.list.0 c.requires.list.1)

pub returns-clause-gives : goal.returns-clause-gives
returns-clause-gives c = λ v u h k. longer_some c.args.self.now.cells.items c.add_item.new.self c.args.list c.in-Some.next c.in_ok-n.n v u (sym c.in-Some.ensures) (λ vs l. c.in_ok-n.ensures.list v vs h l) k
