use Rattle.std.proofs.Common.{rules, sym, subst, ◌∙◌, ap}
use Rattle.std.specs.Prelude.{IsTrue}
use Rattle.um_cells.specs.Formed.{holds, is_item, is_record}
use Rattle.um_cells.proofs.Exact.{exact_true, exact_list, exact_record}
use Rattle.um_cells.proofs.store.Store.holds.Goals as goal

pub returns-in-Bool : goal.returns-in-Bool
returns-in-Bool c = exact_true c.args.self.now.cells.items c.args.word c.args.self.now.formed (subst (λ w. IsTrue (holds c.args.self.now.cells.items w)) (sym c.in-Bool.is) (search rules))

pub returns-in-Num : goal.returns-in-Num
returns-in-Num c = exact_true c.args.self.now.cells.items c.args.word c.args.self.now.formed (subst (λ w. IsTrue (holds c.args.self.now.cells.items w)) (sym c.in-Num.is) (search rules))

pub returns-in-Nil : goal.returns-in-Nil
returns-in-Nil c = exact_true c.args.self.now.cells.items c.args.word c.args.self.now.formed (subst (λ w. IsTrue (holds c.args.self.now.cells.items w)) (sym c.in-Nil.is) (search rules))

pub returns-in-List : goal.returns-in-List
returns-in-List c = exact_list c.args.self.now.cells.items c.args.word c.in-List.n c.is_item.result c.args.self.now.formed c.in-List.is (c.is_item.ensures ∙ ap is_item c.cell.ensures)

pub returns-in-Rec : goal.returns-in-Rec
returns-in-Rec c = exact_record c.args.self.now.cells.items c.args.word c.in-Rec.field-0 c.in-Rec.n c.is_record.result c.args.self.now.formed c.in-Rec.is (c.is_record.ensures ∙ ap is_record c.cell-in-Rec.ensures)
