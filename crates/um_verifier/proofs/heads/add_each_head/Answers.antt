use Rattle.std.proofs.Common.{◌≡◌, ◌≤◌, ◌+◌, ℕ, List, length, get_or, Option, Result, sym, ap, subst, ◌∙◌, arith}
use Rattle.std.specs.Prelude.{IfOk}
use Rattle.std.specs.declared.alloc.AllocError.{AllocError}
use Rattle.std.proofs.lemmas.List.{length-map}
use Rattle.um_tree.specs.ProgramTree.{record_tree}
use Rattle.um_machine.specs.declared.code.Entry.{Entry}
use Rattle.um_verify.specs.declared.image.Head.{Head}
use Rattle.um_verify.specs.ImageTree.{head_tree, image_tree}
use Rattle.um_verify.specs.Heads.{FunctionHolds, IsFirstHead}
use Rattle.um_verifier.specs.declared.known.KnownHead.{KnownHead}
use Rattle.um_verifier.specs.declared.known.Known.{Known}
use Rattle.um_verifier.proofs.Firsts.{hold_next, all_hold}
use Rattle.um_verifier.proofs.FunctionHeads.{HeadFound, trees, head_there, plain_at, entry_there, is_first, is_found, takes_next, all_take, entry_within, function_first}
use Rattle.um_verifier.proofs.heads.add_each_head.Goals as goal

pub bounds-entries-k : goal.bounds-entries-k
bounds-entries-k c = entry_within c.as_slice-entries.result.now c.args.image.now.code.entries c.deref-heads.result.now c.args.image.now.heads.items.items c.loop-k.k c.as_slice-entries.ensures c.deref-heads.ensures.value c.requires.form.entries c.loop-k-test.true

pub checked_head-requires : goal.checked_head-requires
checked_head-requires c =
    let hs = c.deref-heads.result.now in
    record { plain = plain_at hs c.args.image.now.heads.items.items c.loop-k.k c.index-heads-k.result c.deref-heads.ensures.value c.requires.form.heads c.loop-k-test.true c.index-heads-k.is }

pub returns-in-None-clause-refusal : goal.returns-in-None-clause-refusal
returns-in-None-clause-refusal c =
    let image = image_tree c.args.image.now in
    let items = c.args.image.now.heads.items.items in
    let records = c.args.image.now.records.items in
    let k = c.loop-k.k in
    let h = head_tree c.index-heads-k.result in
    let none : Entry = record { start = 0; end = 0; params = 0 } in
    let there = head_there c.deref-heads.result.now items k c.index-heads-k.result c.deref-heads.ensures.value c.loop-k-test.true c.index-heads-k.is in
    let within = entry_within c.as_slice-entries.result.now c.args.image.now.code.entries c.deref-heads.result.now items k c.as_slice-entries.ensures c.deref-heads.ensures.value c.requires.form.entries c.loop-k-test.true in
    let entry = entry_there c.as_slice-entries.result.now image.code.entries k none c.as_slice-entries.ensures within in
    let old = c.loop-k.names in
    let new = c.checked_head.new.names in
    let found = subst (λ (o : Result (Option KnownHead) AllocError). IfOk o (λ found. HeadFound image k h old new found)) c.in_ok-checked_head.was (c.checked_head.ensures image k there entry c.loop-k.invariant.takes) in
    let fails = is_first image k h old new c.in_ok-checked_head.field-0 c.in-None.is found in
    let count : length image.records ≡ c.len.result = length-map records.items record_tree ∙ sym records.ok.0 ∙ sym c.len.ensures in
    subst (λ (n : ℕ). IsFirstHead image (n + k)) count (function_first image k h c.requires.records.hold there fails c.loop-k.invariant.hold)

pub loop-k-preserved : goal.loop-k-preserved
loop-k-preserved c =
    let image = image_tree c.args.image.now in
    let items = c.args.image.now.heads.items.items in
    let k = c.loop-k.k in
    let h = head_tree c.index-heads-k.result in
    let none : Entry = record { start = 0; end = 0; params = 0 } in
    let e : Entry = get_or c.as_slice-entries.result.now k none in
    let there = head_there c.deref-heads.result.now items k c.index-heads-k.result c.deref-heads.ensures.value c.loop-k-test.true c.index-heads-k.is in
    let within = entry_within c.as_slice-entries.result.now c.args.image.now.code.entries c.deref-heads.result.now items k c.as_slice-entries.ensures c.deref-heads.ensures.value c.requires.form.entries c.loop-k-test.true in
    let entry = entry_there c.as_slice-entries.result.now image.code.entries k none c.as_slice-entries.ensures within in
    let known = c.loop-k.known in
    let old = c.loop-k.names in
    let new = c.checked_head.new.names in
    let takes = c.loop-k.invariant.takes in
    let one = c.in-Some.h in
    let found = subst (λ (o : Result (Option KnownHead) AllocError). IfOk o (λ found. HeadFound image k h old new found)) c.in_ok-checked_head.was (c.checked_head.ensures image k there entry takes) in
    let finds = is_found image k h old new c.in_ok-checked_head.field-0 one c.in-Some.is found in
    let after : Known = record { records = known.records; heads = c.push.new.self } in
    record {
      takes = takes_next image k h e there entry known old takes after new one (record { fields = takes.shapes.fields; heights = takes.shapes.heights }) c.in_ok-push-in-Some.ensures.items finds;
      hold = hold_next (FunctionHolds image) image.heads k h there c.loop-k.invariant.hold finds.holds;
    }

pub returns-clause-heads : goal.returns-clause-heads
returns-clause-heads c =
    let image = image_tree c.args.image.now in
    let items = c.args.image.now.heads.items.items in
    let k = c.loop-k.k in
    let m : length (trees items) ≡ length items = length-map items head_tree in
    let heads : length c.deref-heads.result.now ≡ length items = ap (λ (hs : List Head). length hs) c.deref-heads.ensures.value in
    let end : length (trees items) ≤ k = omega (arith, m, heads, c.loop-k-test.false) in
    record {
      shapes = c.loop-k.invariant.takes.shapes;
      heads = all_take image k c.loop-k.known c.loop-k.names end c.loop-k.invariant.takes;
      records = c.requires.records.hold;
      functions = all_hold (FunctionHolds image) image.heads k end c.loop-k.invariant.hold;
    }
