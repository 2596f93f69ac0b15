use Rattle.std.proofs.Common.{arith, ◌≡◌, refl, ap, ◌≤◌, List, get_or, length}
use Rattle.std.specs.Prelude.{MatchOption}
use Rattle.um_machine.specs.declared.code.Entry.{Entry}
use Rattle.um_verify.specs.Verified.{BodyHolds}
use Rattle.um_verifier.specs.KnownImages.{known_body, known_view}
use Rattle.um_verify.specs.Verified.{FirstFailure}
use Rattle.um_verifier.proofs.EachBody.{read_body, before_next, all_hold, holds_of, fails_of}
use Rattle.um_verifier.proofs.body.verify_code.Goals as goal

pub returns-in-Some : goal.returns-in-Some
returns-in-Some c =
    let known = c.args.known.now in
    let code = c.args.code.now in
    let es = c.as_slice-entries.result.now in
    let none : Entry = record { start = 0; end = 0; params = 0 } in
    let e : Entry = get_or es c.loop-f.f none in
    let h = c.index.result.now in
    let view = known_view known code in
    let given : MatchOption c.in_ok-verify_body.field-0 (BodyHolds view (known_body e h)) (λ n. FirstFailure view (known_body e h) n) = c.in_ok-verify_body.ensures in
    let failure = fails_of view (known_body e h) c.in_ok-verify_body.field-0 c.in-Some.n c.in-Some.is given in
    record {
      f = c.loop-f.f;
      n = c.in-Some.n;
      body = known_body e h;
      listed = read_body known code es c.loop-f.f none e h c.requires.ready c.as_slice-entries.ensures c.loop-f-test.true refl c.index.ensures;
      address = refl;
      failure = failure;
      functions = c.loop-f.invariant;
    }

pub loop-f-preserved : goal.loop-f-preserved
loop-f-preserved c =
    let known = c.args.known.now in
    let code = c.args.code.now in
    let es = c.as_slice-entries.result.now in
    let none : Entry = record { start = 0; end = 0; params = 0 } in
    let e : Entry = get_or es c.loop-f.f none in
    let h = c.index.result.now in
    let view = known_view known code in
    let given : MatchOption c.in_ok-verify_body.field-0 (BodyHolds view (known_body e h)) (λ n. FirstFailure view (known_body e h) n) = c.in_ok-verify_body.ensures in
    let holds = holds_of view (known_body e h) c.in_ok-verify_body.field-0 c.in-None.is given in
    before_next view c.loop-f.f (known_body e h) c.loop-f.invariant (read_body known code es c.loop-f.f none e h c.requires.ready c.as_slice-entries.ensures c.loop-f-test.true refl c.index.ensures) holds

pub returns : goal.returns
returns c =
    let same : length c.as_slice-entries.result.now ≡ length c.args.code.now.entries = ap (λ (es : List Entry). length es) c.as_slice-entries.ensures in
    let end = c.loop-f-test.false in
    let past : length c.args.code.now.entries ≤ c.loop-f.f = omega arith in
    all_hold c.args.known.now c.args.code.now c.loop-f.f c.loop-f.invariant past
