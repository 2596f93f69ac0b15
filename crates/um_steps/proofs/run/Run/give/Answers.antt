use Rattle.std.proofs.Common.{◌∙◌, ◌++◌, ◌∷◌, [], ap, refl, sym, map, reverse, take}
use Rattle.std.proofs.lemmas.List.{nil_from_length}
use Rattle.um_machine.specs.declared.code.Code.{Code}
use Rattle.um_machine.specs.Machine.{State, arrive, returns}
use Rattle.um_steps.specs.Going.{frame_of, state_of, code_of}
use Rattle.um_words.proofs.Taken.{take_less}
use Rattle.um_steps.proofs.Acted.{callers_pushed, frames_popped, first_frame, arrives_at, top_value}
use Rattle.um_steps.proofs.run.Run.give.Goals as goal

pub returns-in-Some-clause-step : goal.returns-in-Some-clause-step
returns-in-Some-clause-step c = λ code vs v h d.
    let m = c.args.self.now in
    let caller = c.in-Some.caller in
    let rest = c.pop.new.self.items in
    let low = take m.running.base vs in
    let pushed = callers_pushed rest m.callers.items caller c.in-Some.ensures.items in
    let less = take_less m.running.base c.args.at vs c.requires.base in
    let (from, before, below, waits) = frames_popped m.ops.now m.entries.now m.running caller rest m.callers.items c.in-Some.ensures.items m.frames in
    let s : State = record { at = m.running.back; stack = low ++ v ∷ []; running = frame_of caller; callers = map frame_of (reverse rest); budget = m.budget } in
    let there = arrives_at (code_of m) caller (first_frame m.ops.now m.entries.now caller (reverse rest) waits) s refl from before in (
      low ++ v ∷ [],
      (h.0, c.replace.ensures.value vs v h.1 d),
      ap (returns code (state_of m vs) v (take m.running.base (take c.args.at vs))) pushed
          ∙ ap (λ l. arrive code (record { at = m.running.back; stack = l ++ v ∷ []; running = frame_of caller; callers = map frame_of (reverse rest); budget = m.budget })) less
          ∙ ap (λ (x : Code). arrive x s) (sym h.0) ∙ there,
    )

pub returns-in-Some-clause-there : goal.returns-in-Some-clause-there
returns-in-Some-clause-there c =
    let m = c.args.self.now in
    let (from, before, below, waits) = frames_popped m.ops.now m.entries.now m.running c.in-Some.caller c.pop.new.self.items m.callers.items c.in-Some.ensures.items m.frames in
    (from, before)

pub returns-in-None-clause-step : goal.returns-in-None-clause-step
returns-in-None-clause-step c = λ code vs v h d.
    let m = c.args.self.now in
    let empty = nil_from_length m.callers.items (sym m.callers.ok.0 ∙ c.in-None.ensures.cases.0) in
    (vs, v, h.1, top_value m vs h.1 c.args.at c.args.y v c.requires.place c.requires.word d, ap (λ fs. returns code (state_of m vs) v (take m.running.base (take c.args.at vs)) (map frame_of (reverse fs))) empty)
