use Rattle.std.proofs.Common.{rules, ◌≡◌, ◌-◌, take, get_or, sym, ap, subst, ◌∙◌, arith}
use Rattle.um_syntax.specs.declared.number.Part.TheVariants as part
use Rattle.um_syntax.specs.declared.pending.Pending.TheVariants.{Comment}
use Rattle.um_syntax.specs.Machine.{AllKept, IsNumberRun, first_figures, part_takes}
use Rattle.um_syntax.proofs.AtOnce.{first_run, more_run}
use Rattle.um_syntax.proofs.number.NumberText.at_front.Goals as goal

pub loop-text-init : goal.loop-text-init
loop-text-init c =
    let bytes = c.args.bytes.now in
    let first = first_run bytes c.requires.some c.requires.from c.requires.to in
    let figures : c.new.result ≡ first_figures (get_or bytes 0 0 - 48) = search rules in
    record {
      within = omega arith;
      fits = c.new.ensures.fits;
      plain = first.0;
      run = subst (IsNumberRun (take 1 bytes) 1 part.Whole) (sym figures) first.1;
    }

pub loop-text-preserved : goal.loop-text-preserved
loop-text-preserved c =
    let bytes = c.args.bytes.now in
    let old = c.loop-text.text in
    let new = c.with-text.result in
    let same : c.from-in-loop-text.result ≡ get_or bytes old.len 0 = search rules in
    let takes = ap (part_takes old.part) (sym same) ∙ sym c.takes.ensures ∙ c.if-takes.true in
    let more = more_run bytes old.len old.end new.end 0 old.part new.part old.figures new.figures c.loop-text-test.true c.loop-text.invariant.plain c.loop-text.invariant.run takes c.with-text.ensures.taken in
    record {
      within = omega arith;
      fits = c.with-text.ensures.fits;
      plain = subst (λ n. AllKept Comment (take n bytes)) (sym c.with-text.ensures.len) more.0;
      run = subst (λ n. IsNumberRun (take n bytes) new.end new.part new.figures) (sym c.with-text.ensures.len) more.1;
    }
