use Rattle.std.proofs.Common.{◌+◌, ◌-◌, ◌++◌, ◌∷◌, [], ◌∙◌, ap, sym, map, reverse}
use Rattle.um_machine.specs.Machine.{going}
use Rattle.um_steps.specs.Going.{frame_of}
use Rattle.um_steps.proofs.Acted.{callers_pushed}
use Rattle.um_steps.proofs.run.Run.begin.Goals as goal

pub returns-in-Ok-clause-step : goal.returns-in-Ok-clause-step
returns-in-Ok-clause-step c = λ code vs h.
    let m = c.args.self.now in
    let f = c.args.frame in
    let all = c.push_reserved.new.self.items in
    let added = c.push_reserved.ensures.items ∙ ap (λ fs. fs ++ m.running ∷ []) c.make_room.ensures.same in
    let pushed = callers_pushed m.callers.items all m.running added in (
      vs,
      h,
      ap (λ fs. going (record { at = f.start; stack = vs; running = record { function = f.function; back = m.at + 1; base = f.base }; callers = fs; budget = m.budget - 1 })) (sym pushed)
          ∙ ap (λ b. going (record { at = f.start; stack = vs; running = record { function = f.function; back = b; base = f.base }; callers = map frame_of (reverse all); budget = m.budget - 1 })) (sym c.requires.back),
    )

pub returns-in-Err-clause-stays : goal.returns-in-Err-clause-stays
returns-in-Err-clause-stays c = λ code vs h.
    let m = c.args.self.now in
    (h, ap (λ fs. record { at = m.at; stack = vs; running = frame_of m.running; callers = map frame_of (reverse fs); budget = m.budget }) c.make_room.ensures.same)
