use Rattle.std.proofs.Common.{◌+◌, ◌-◌, sym, subst, List}
use Rattle.std.proofs.lemmas.Result.{err_from_is_err_and}
use Rattle.um_image.specs.Encoding.{FunctionPart}
use Rattle.um_image.specs.Reading.{function_at, many_at, with_front}
use Rattle.um_image.proofs.Loops.{Rest, goes_on, ends}
use Rattle.um_image.proofs.FunctionLoops.{onto_ok, onto_fails}
use Rattle.um_image.proofs.function.add_functions.Goals as goal

pub returns-in_err-rest : goal.returns-in_err-rest
returns-in_err-rest c = λ fs h.
    let p = err_from_is_err_and c.from_residual.result c.from_residual.ensures.1 in
    let k = c.loop.invariant.kept fs h in
    let failed = onto_fails k.0 c.loop.rest.now c.in_err-rest.field-0.0 (c.in_err-rest.ensures.kept k.0 k.1) in
    rw (p.1, p.2) (ends function_at c.in_err-rest.field-0.0 k.0 c.args.count c.loop.counter c.loop.rest.now (with_front fs (many_at function_at c.args.count c.args.bytes.now)) c.loop-test.true failed k.2)

pub loop-preserved : goal.loop-preserved
loop-preserved c = record {
  room = c.in_ok-rest.ensures.room;
  kept = λ fs h.
      let k = c.loop.invariant.kept fs h in
      let n = c.in_ok-rest.ensures.kept k.0 k.1 in
      let o = onto_ok k.0 c.loop.rest.now n.0 c.in_ok-rest.rest.now n.2 in
      let total = with_front fs (many_at function_at c.args.count c.args.bytes.now) in
      let next = goes_on function_at k.0 c.args.count c.loop.counter c.loop.rest.now o.0 c.in_ok-rest.rest.now total c.loop-test.true o.1 k.2 in
      (n.0, n.1, subst (λ (gs : List FunctionPart). Rest function_at gs (c.args.count - (c.loop.counter + 1)) c.in_ok-rest.rest.now total) (sym o.2) next);
}
