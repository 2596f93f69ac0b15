use Rattle.std.proofs.Common.{ap, sym, take, ◌∙◌}
use Rattle.um_measures.specs.Known.{Known, is_taken}
use Rattle.um_names.specs.Resolution.{with_base}
use Rattle.um_sig.specs.Heads.{only_bases}
use Rattle.um_sig.proofs.HeadNames.{new_among, taken_only}
use Rattle.um_measures.proofs.MeasureLists.{take_next}
use Rattle.um_sig.proofs.heads.base_tables.Goals as goal

pub with_base-requires-clause-new : goal.with_base-requires-clause-new
with_base-requires-clause-new c =
    let xs = c.args.names.now in
    let i = c.loop-i.i in
    let x = c.index-names-i.result in
    ap (λ (k : Known). is_taken k x) c.loop-i.invariant.known ∙ taken_only (take i xs) x (new_among xs i x c.requires.once c.loop-i-test.true c.index-names-i.is)

pub loop-i-preserved : goal.loop-i-preserved
loop-i-preserved c = record {
  are = c.in_ok-tables.ensures.tables;
  known = c.in_ok-tables.ensures.known ∙ ap (λ (k : Known). with_base k c.index-names-i.result) c.loop-i.invariant.known
      ∙ ap only_bases (sym (take_next c.args.names.now c.loop-i.i c.index-names-i.result c.loop-i-test.true c.index-names-i.is));
}
