use Rattle.std.proofs.Common.{sym, ◌∙◌}
use Rattle.um_run.proofs.HeadNames.{none_yet, one_more, number_found, none_found}
use Rattle.um_run.proofs.head.head_named.Goals as goal

pub loop-k-init : goal.loop-k-init
loop-k-init c = none_yet c.args.heads.now c.args.name.now

pub loop-k-preserved : goal.loop-k-preserved
loop-k-preserved c = one_more c.args.heads.now c.args.name.now c.loop-k.k c.index-heads-k.result c.loop-k-test.true c.index-heads-k.is c.loop-k.invariant (sym c.has_name.ensures ∙ c.if-has_name.false)

pub returns-then-has_name : goal.returns-then-has_name
returns-then-has_name c = number_found c.args.heads.now c.args.name.now c.loop-k.k c.index-heads-k.result c.loop-k-test.true c.index-heads-k.is c.loop-k.invariant (sym c.has_name.ensures ∙ c.if-has_name.true)

pub returns : goal.returns
returns c = none_found c.args.heads.now c.args.name.now c.loop-k.k c.loop-k-test.false c.loop-k.invariant
