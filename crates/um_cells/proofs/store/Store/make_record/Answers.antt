use Rattle.std.proofs.Common.{rules}
use Rattle.um_cells.proofs.Growing.{retains_grown}
use Rattle.um_cells.proofs.WellFormed.{hold_from_values}
use Rattle.um_cells.proofs.Adding.{formed_made}
use Rattle.um_cells.proofs.Rows.{record_added, cells_of_record}
use Rattle.um_cells.proofs.store.Store.make_record.Goals as goal

pub returns-clause-keeps : goal.returns-clause-keeps
returns-clause-keeps c = retains_grown c.args.self.now.cells.items c.push_record.new.cells.items _ c.in_ok-push_record.ensures.ok

pub returns-clause-denotes : goal.returns-clause-denotes
returns-clause-denotes c = λ vs h. record_added c.args.self.now.cells.items c.push_record.new.cells.items c.args.parts.now vs c.args.record_number c.len-n.result c.in_ok-push_record.ensures.ok (search rules) h

pub returns-clause-cells : goal.returns-clause-cells
returns-clause-cells c = cells_of_record c.args.self.now.cells.items c.push_record.new.cells.items c.args.parts.now c.in_ok-push_record.ensures.ok

pub invariant_of-self : goal.invariant_of-self
invariant_of-self c = record { formed = formed_made _ c.push_record.result c.args.self.now.cells.items c.push_record.new.cells.items c.args.parts.now c.push_record.ensures.ok c.push_record.ensures.same c.args.self.now.formed (hold_from_values c.args.self.now.cells.items c.args.parts.now c.requires.0 c.requires.1) }
