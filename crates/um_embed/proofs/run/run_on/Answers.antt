use Rattle.std.proofs.Common.{◌∙◌, subst, sym, ltb-false}
use Rattle.um_tool.specs.Served.{IsComplete}
use Rattle.um_embed.proofs.Calm.{calm, undisturbed}
use Rattle.um_embed.proofs.run.run_on.Goals as goal

pub returns-clause-complete : goal.returns-clause-complete
returns-clause-complete c = λ complete.
    c.serve-status.ensures.complete
    (undisturbed c.in_ok-words.words c.args.text.now c.new-source.result (c.new-source.ensures ∙ c.in_ok-from_slice.ensures.items)
    (subst (λ words. IsComplete words c.args.text.now) (sym c.in_ok-words.ensures) complete))
    (calm _ _ (ltb-false 0 _ (sym c.has_failed.ensures ∙ c.if-has_failed.false)))
    (c.wants_memory.ensures c.if-wants_memory.false)
