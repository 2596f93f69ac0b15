use Rattle.std.proofs.Common.{◌∷◌, ◌++◌, ◌∙◌, [], ap, append_assoc, reverse, sym}
use Rattle.std.proofs.lemmas.List.{reverse-append, nil_from_length}
use Rattle.um_eval.specs.Paths.{spots_at, spots_in}
use Rattle.um_eval.proofs.Outcomes.{append_none}
use Rattle.um_eval.proofs.path.take_spots.Goals as goal

pub loop-frame-init : goal.loop-frame-init
loop-frame-init c = ap (λ ss. ss ++ spots_in c.args.place (reverse c.args.frames.now.items)) c.new-spots.ensures.items

pub loop-frame-preserved : goal.loop-frame-preserved
loop-frame-preserved c =
    let frame = c.in-Some.frame in
    let at = c.loop-frame.at in
    let spots = c.loop-frame.spots.items in
    let rest = reverse c.pop.new.self.items in
    let popped = ap reverse c.in-Some.ensures.items ∙ reverse-append c.pop.new.self.items (frame ∷ []) in
    ap (λ ss. ss ++ spots_in c.in_ok-at.at rest) c.in_ok-at.ensures.spots
    ∙ append_assoc spots (spots_at frame at) (spots_in c.in_ok-at.at rest)
    ∙ ap (λ k. spots ++ (spots_at frame at ++ spots_in k rest)) c.in_ok-at.ensures.place
    ∙ sym (ap (λ fr. spots ++ spots_in at fr) popped)
    ∙ c.loop-frame.invariant

pub returns : goal.returns
returns c =
    let frames = c.loop-frame.frames in
    let empty = ap reverse (nil_from_length frames.items (sym frames.ok.0 ∙ (rw c.in_default.is at c.pop.ensures.cases).0)) in
    let spots = c.loop-frame.spots.items in
    sym (append_none spots) ∙ sym (ap (λ fr. spots ++ spots_in c.loop-frame.at fr) empty) ∙ c.loop-frame.invariant
