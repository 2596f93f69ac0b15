use Rattle.std.proofs.Common.{sym, ap}
use Rattle.um_decls.specs.DeclMachine.{NoDecl, Expects}
use Rattle.um_parse.specs.ReaderStates.{view_expected, place_state}
use Rattle.um_decls.proofs.DeclTaken.{goes_on}
use Rattle.um_parse.proofs.DeclExpected.{expected_low}
use Rattle.um_parse.proofs.decl_reader.DeclReader.take_fixed.Goals as goal

pub returns-in-Some : goal.returns-in-Some
returns-in-Some c =
    goes_on NoDecl _ (Expects (view_expected c.in-Some.next)) _ (ap (λ p. place_state p c.put.new.self.function) c.put.ensures.place) (sym (c.in-Some.ensures c.args.token.now.start)) (λ e. cc) (expected_low c.in-Some.next)
