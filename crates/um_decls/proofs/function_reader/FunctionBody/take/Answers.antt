use Rattle.std.proofs.Common.{◌≡◌, ◌⊎◌}
use Rattle.std.proofs.lemmas.Result.{IfOk-weaker}
use Rattle.um_syntax.specs.Emptied.{emptied}
use Rattle.um_reader.specs.declared.taken.Taken.TheVariants as taken
use Rattle.um_decls.specs.DeclTokens.{BeginsAlike, IfStops}
use Rattle.um_decls.proofs.DeclTokens.{alike, if_stops}
use Rattle.um_decls.proofs.function_reader.FunctionBody.take.Goals as goal

pub returns-clause-kept : goal.returns-clause-kept
returns-clause-kept c =
    let old = c.args.token.now in
    let new = c.take.new.token in
    IfOk-weaker c.take.result (λ t. t ≡ taken.Stops → (new ≡ old) ⊎ (new ≡ emptied old)) (λ t. IfStops t (BeginsAlike new old)) (λ t h. if_stops t (λ e. alike new old (h e))) c.take.ensures.kept
