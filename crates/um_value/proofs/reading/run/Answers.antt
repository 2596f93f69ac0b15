use Rattle.std.proofs.Common.{rules, ◌≤◌, arith, length, map, sym, subst}
use Rattle.std.proofs.lemmas.List.{length_push}
use Rattle.std.proofs.lemmas.Iterator.Consumers.{YieldsList-turn}
use Rattle.std.proofs.lemmas.Iterator.Adapters.{YieldsList-from_vec}
use Rattle.um_tree.specs.TypeTree.{shape_tree}
use Rattle.um_tree.specs.ProgramTree.{record_tree}
use Rattle.um_reader.proofs.Loop.{Stands, goes}
use Rattle.um_unit_texts.specs.UnitStops.{greatest_height}
use Rattle.um_value.specs.ValueMachine.{value_least, machine_of_values}
use Rattle.um_value.specs.ValueView.{value_state}
use Rattle.um_value.proofs.ValueLoop.{refused_at, high_at}
use Rattle.um_value.proofs.reading.run.Goals as goal

pub loop-token-init : goal.loop-token-init
loop-token-init c = ((omega arith, (λ e. cc), omega arith), c.new-reader.ensures.start)

pub take_token-requires : goal.take_token-requires
take_token-requires c = record { low = subst (λ s. value_least s ≤ greatest_height) (sym c.loop-token.invariant.1) c.loop-token.invariant.0.2 }

pub loop-token-preserved : goal.loop-token-preserved
loop-token-preserved c =
    let s = shape_tree c.args.shape.now in
    let m = machine_of_values (map record_tree c.args.records.now) s in
    let tokens = c.args.tokens in
    let x = c.in-Some.token in
    let turn = YieldsList-turn (YieldsList-from_vec {s = c.into_iter-token-iterator.result} tokens (search rules) (search rules))
    c.loop-token.yielded c.loop-token.token-iterator c.loop-token.yielded_by c.next.result c.next.new.self x c.in-Some.is c.next.ensures.steps in
    let given = rw c.in-Ok-Goes.field-0-is at c.in-Ok-Goes.ensures in
    subst (λ k. Stands m greatest_height tokens k (value_state c.take_token.new.reader)) (sym (length_push c.loop-token.yielded x))
    (goes m greatest_height tokens (length c.loop-token.yielded) x (value_state c.loop-token.reader) (value_state c.take_token.new.reader) turn.0 (sym turn.1) c.loop-token.invariant (given s))

pub returns-in-Ok-Stops : goal.returns-in-Ok-Stops
returns-in-Ok-Stops c =
    let s = shape_tree c.args.shape.now in
    let m = machine_of_values (map record_tree c.args.records.now) s in
    let tokens = c.args.tokens in
    let x = c.in-Some.token in
    let turn = YieldsList-turn (YieldsList-from_vec {s = c.into_iter-token-iterator.result} tokens (search rules) (search rules))
    c.loop-token.yielded c.loop-token.token-iterator c.loop-token.yielded_by c.next.result c.next.new.self x c.in-Some.is c.next.ensures.steps in
    let given = rw c.in-Ok-Stops.field-0-is at c.in-Ok-Stops.ensures in
    rw c.stopped.ensures
    (refused_at m tokens c.args.end (length c.loop-token.yielded) x (value_state c.loop-token.reader) (value_state c.take_token.new.reader) turn.0 (sym turn.1) c.loop-token.invariant (given s))

pub returns-in-Ok-High : goal.returns-in-Ok-High
returns-in-Ok-High c =
    let s = shape_tree c.args.shape.now in
    let m = machine_of_values (map record_tree c.args.records.now) s in
    let tokens = c.args.tokens in
    let x = c.in-Some.token in
    let turn = YieldsList-turn (YieldsList-from_vec {s = c.into_iter-token-iterator.result} tokens (search rules) (search rules))
    c.loop-token.yielded c.loop-token.token-iterator c.loop-token.yielded_by c.next.result c.next.new.self x c.in-Some.is c.next.ensures.steps in
    let given = rw c.in-Ok-High.field-0-is at c.in-Ok-High.ensures in
    rw c.stopped-in-Ok-High.ensures
    (high_at m tokens c.args.end (length c.loop-token.yielded) x (value_state c.loop-token.reader) (value_state c.take_token.new.reader) turn.0 (sym turn.1) c.loop-token.invariant (given s))
