use Rattle.um_verify.specs.ImageTree.{head_tree, IsPlainHead}
use Rattle.um_image.proofs.Added.{tree_at, functions_next}
use Rattle.std.proofs.Common.{◌≡◌, refl, rules, ◌<◌, ◌≤◌, length, get_or}
use Rattle.std.proofs.lemmas.List.{get_or_default}
use Rattle.um_machine.specs.declared.code.Entry.{Entry}
use Rattle.um_image.specs.Encoding.{own_ops}
use Rattle.um_image.proofs.Fitting.{functions_until_next, functions_until_last}
use Rattle.um_image.proofs.encoding.put_functions.Goals as goal

pub put_function-requires-clause-plain : goal.put_function-requires-clause-plain
put_function-requires-clause-plain c = tree_at IsPlainHead head_tree c.args.heads.now c.loop-i.i c.index-heads-i.result c.requires.plain c.loop-i-test.true c.index-heads-i.is

pub loop-i-preserved : goal.loop-i-preserved
loop-i-preserved c =
    let hs = c.args.heads.now in
    let es = c.args.entries.now in
    let e : Entry = get_or es c.loop-i.i (record { start = 0; end = 0; params = 0 }) in
    let lt : c.loop-i.i < length es = search rules in
    let is : e ≡ get_or es c.loop-i.i e = get_or_default es c.loop-i.i (record { start = 0; end = 0; params = 0 }) e lt in (
      functions_next hs c.args.ops.now es c.loop-i.i c.index-heads-i.result e c.put_number.new.out.items c.loop-i.out.items c.put_function.new.out.items c.loop-i-test.true lt c.index-heads-i.is is c.loop-i.invariant.0 c.in_ok-put_function.ensures.bytes,
      functions_until_next hs c.args.ops.now es c.loop-i.i c.index-heads-i.result e (own_ops c.args.ops.now e) c.loop-i-test.true lt c.index-heads-i.is is refl c.in_ok-put_function.ensures.fits c.loop-i.invariant.1,
    )

pub returns-clause-fits : goal.returns-clause-fits
returns-clause-fits c =
    let past : length c.args.heads.now ≤ c.loop-i.i = search rules in
    functions_until_last c.args.heads.now c.args.ops.now c.args.entries.now c.loop-i.i past c.loop-i.invariant.1
