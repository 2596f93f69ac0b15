use Rattle.std.proofs.Common.{map, sym, arith}
use Rattle.um_tree.specs.RawTree.{var_syntax}
use Rattle.um_decls.specs.DeclMachine.{NoDecl, Expects, OfRecord, RecordEqual}
use Rattle.um_decls.specs.DeclViews.{view_var}
use Rattle.um_decls.proofs.DeclTaken.{var_low, goes_on}
use Rattle.um_decls.proofs.record_reader.RecordReader.take_vars.Goals as goal

pub returns-in-Goes-clause-taken : goal.returns-in-Goes-clause-taken
returns-in-Goes-clause-taken c =
    let h = c.args.self.now.head in
    let o = OfRecord h.at h.name in
    let vs = map var_syntax c.take_var.new.vars.items.items in
    let given = (rw c.in-Goes.is at c.in_ok-next.ensures.taken) o in
    goes_on NoDecl _ (Expects (view_var o vs c.in-Goes.next)) _ c.put.ensures (sym given) (λ e. cc) (var_low o vs c.in-Goes.next)

pub returns-in-Ends-clause-taken : goal.returns-in-Ends-clause-taken
returns-in-Ends-clause-taken c =
    let h = c.args.self.now.head in
    let vs = map var_syntax c.take_var.new.vars.items.items in
    let given = (rw c.in-Ends.is at c.in_ok-next.ensures.taken) (OfRecord h.at h.name) in
    goes_on NoDecl _ (Expects (RecordEqual h.at h.name vs)) _ c.put-in-Ends.ensures (sym given) (λ e. cc) (omega arith)
