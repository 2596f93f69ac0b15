use Rattle.std.proofs.Common.{◌≤◌, length, Option, Result, subst, arith}
use Rattle.std.specs.Prelude.{IfOk}
use Rattle.std.specs.declared.alloc.AllocError.{AllocError}
use Rattle.std.proofs.lemmas.List.{length-map}
use Rattle.um_tree.specs.ProgramTree.{record_tree}
use Rattle.um_verify.specs.Heads.{RecordHolds}
use Rattle.um_verifier.specs.declared.known.KnownRecord.{KnownRecord}
use Rattle.um_verifier.specs.declared.known.Known.{Known}
use Rattle.um_verifier.proofs.Firsts.{hold_next, all_hold, tree_there}
use Rattle.um_verifier.proofs.RecordHeads.{RecordFound, trees, is_first, is_found, takes_next, whole_takes}
use Rattle.um_verifier.proofs.records.add_records.Goals as goal

pub returns-in-None : goal.returns-in-None
returns-in-None c =
    let ds = c.args.declared.now in
    let i = c.loop-i.i in
    let r = c.index-declared-i.result in
    let there = tree_there record_tree ds i r c.loop-i-test.true c.index-declared-i.is in
    let d = record_tree r in
    let known = c.loop-i.known in
    let names = c.loop-i.names in
    let fields = c.loop-i.field_names in
    let new = c.checked_record.new.names in
    let new_fields = c.checked_record.new.field_names in
    let found = subst (λ (o : Result (Option KnownRecord) AllocError). IfOk o (λ found. RecordFound (trees ds) i d known names fields new new_fields found)) c.in_ok-checked_record.was (c.checked_record.ensures (trees ds) i there c.loop-i.invariant.takes) in
    record {
      d = d;
      there = there;
      fails = is_first (trees ds) i d known names fields new new_fields c.in_ok-checked_record.field-0 c.in-None.is found;
      before = c.loop-i.invariant.hold;
    }

pub loop-i-preserved : goal.loop-i-preserved
loop-i-preserved c =
    let ds = c.args.declared.now in
    let i = c.loop-i.i in
    let r = c.index-declared-i.result in
    let there = tree_there record_tree ds i r c.loop-i-test.true c.index-declared-i.is in
    let d = record_tree r in
    let known = c.loop-i.known in
    let names = c.loop-i.names in
    let fields = c.loop-i.field_names in
    let new = c.checked_record.new.names in
    let new_fields = c.checked_record.new.field_names in
    let one = c.in-Some.r in
    let found = subst (λ (o : Result (Option KnownRecord) AllocError). IfOk o (λ found. RecordFound (trees ds) i d known names fields new new_fields found)) c.in_ok-checked_record.was (c.checked_record.ensures (trees ds) i there c.loop-i.invariant.takes) in
    let finds = is_found (trees ds) i d known names fields new new_fields c.in_ok-checked_record.field-0 one c.in-Some.is found in
    let after : Known = record { records = c.push.new.self; heads = known.heads } in
    record {
      heads = c.loop-i.invariant.heads;
      takes = takes_next (trees ds) i d there known names fields c.loop-i.invariant.takes after new new_fields one c.in_ok-push-in-Some.ensures.items finds;
      hold = hold_next (RecordHolds (trees ds)) (trees ds) i d there c.loop-i.invariant.hold finds.holds;
    }

pub returns : goal.returns
returns c =
    let ds = c.args.declared.now in
    let end : length (trees ds) ≤ c.loop-i.i = omega (arith, length-map ds record_tree, c.loop-i-test.false) in
    record {
      heads = c.loop-i.invariant.heads;
      shapes = whole_takes (trees ds) c.loop-i.i c.loop-i.known c.loop-i.names c.loop-i.field_names end c.loop-i.invariant.takes;
      hold = all_hold (RecordHolds (trees ds)) (trees ds) c.loop-i.i end c.loop-i.invariant.hold;
    }
