use Rattle.std.proofs.Common.{rules}
use Rattle.um_cells.proofs.Growing.{retains_grown}
use Rattle.um_cells.proofs.Adding.{formed_pushed, list_added, item_added}
use Rattle.um_cells.proofs.store.Store.add_item.Goals as goal

pub invariant_of-self : goal.invariant_of-self
invariant_of-self c = record { formed = formed_pushed _ c.args.self.now.cells.items c.push.new.self.items c.args.item c.args.next c.push.ensures.items c.args.self.now.formed c.requires.item c.requires.next }

pub returns-clause-keeps : goal.returns-clause-keeps
returns-clause-keeps c = retains_grown c.args.self.now.cells.items c.push.new.self.items _ c.in_ok-push.ensures.items

pub returns-clause-list : goal.returns-clause-list
returns-clause-list c = λ v vs h l. list_added c.args.self.now.cells.items c.push.new.self.items c.args.item c.args.next c.len-n.result v vs c.in_ok-push.ensures.items (search rules) h l

pub returns-clause-holds : goal.returns-clause-holds
returns-clause-holds c = item_added c.args.self.now.cells.items c.push.new.self.items c.args.item c.args.next c.len-n.result c.in_ok-push.ensures.items (search rules)
