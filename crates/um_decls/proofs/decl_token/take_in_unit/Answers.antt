use Rattle.std.proofs.Common.{◌≡◌, ap}
use Rattle.std.proofs.lemmas.Result.{IfOk-weaker}
use Rattle.um_reader.specs.declared.taken.Taken.TheVariants as taken
use Rattle.um_decls.specs.DeclMachine.{DeclBegin, Expects, decl_step}
use Rattle.um_decls.specs.DeclTokens.{BeginsAlike, IfStops}
use Rattle.um_decls.proofs.DeclTokens.{if_stops}
use Rattle.um_decls.proofs.decl_token.take_in_unit.Goals as goal

pub returns-clause-kept : goal.returns-clause-kept
returns-clause-kept c =
    let old = c.args.token.now in
    let new = c.take.new.token in
    IfOk-weaker c.take.result (λ t. t ≡ taken.Stops → new ≡ old) (λ t. IfStops t (BeginsAlike new old)) (λ t h. if_stops t (λ e. ap (decl_step (Expects DeclBegin)) (h e))) c.take.ensures.kept
