use Rattle.std.proofs.Common.{◌≡◌, ◌≤◌, OnOk, IfOk, sym, subst}
use Rattle.std.proofs.lemmas.Result.{IfOk-weaker}
use Rattle.um_syntax.specs.declared.token.Token.{Token}
use Rattle.um_syntax.specs.Emptied.{emptied}
use Rattle.um_reader.specs.Takes.{Gives, Takes}
use Rattle.um_reader.specs.declared.taken.Taken.TheVariants as taken
use Rattle.um_unit_texts.specs.UnitStops.{greatest_height}
use Rattle.um_types.specs.NoteView.{note_state}
use Rattle.um_types.specs.TypeView.{type_state}
use Rattle.um_operands.specs.ExprBegun.{Need, InNote, InType}
use Rattle.um_operands.specs.ExprLeast.{whole_least}
use Rattle.um_operands.specs.ExprFocus.{open_in}
use Rattle.um_expr.specs.ExprMachine.{own_step, machine_of_expressions}
use Rattle.um_expr.specs.ExprStates.{inner_state, expr_state}
use Rattle.um_expr.specs.declared.reader.Inner.{Inner}
use Rattle.um_expr.proofs.ExprInside.{note_goes_in, note_high_in, note_stops_in, note_low, type_low, type_goes_in, type_high_in, type_stops_in, type_is_low}
use Rattle.um_expr.proofs.ExprEmptied.{kept_of}
use Rattle.um_expr.proofs.reader.ExprReader.take.Goals as goal

pub returns-in-Nothing : goal.returns-in-Nothing
returns-in-Nothing c =
    let old = c.args.self.now in
    let token = c.args.token.now in
    let new = expr_state c.take_own.new.self in
    record {
      taken =
          subst (λ (i : Inner). IfOk c.take_own.result (λ t. Takes machine_of_expressions greatest_height (inner_state old.begun i) token t new)) (sym c.in-Nothing.is)
          c.take_own.ensures.taken;
      kept = kept_of c.take_own.result token c.take_own.new.token c.take_own.ensures.rest;
    }

pub take_refused-requires : goal.take_refused-requires
take_refused-requires c =
    let old = c.args.self.now in
    let fs = open_in old.begun in
    let low = subst (λ (i : Inner). whole_least (inner_state old.begun i) ≤ greatest_height) c.in-Note.is c.requires.low in
    record { low = note_low fs c.in-Note.field-0 c.in-Note.field-1 (note_state c.in-Note.note) c.args.token.now (note_state c.take.new.self) low (rw c.in-Stops.is at c.in_ok-take-in-Note.ensures.taken) }

pub take-requires-in-Type : goal.take-requires-in-Type
take-requires-in-Type c =
    let old = c.args.self.now in
    let fs = open_in old.begun in
    let low = subst (λ (i : Inner). whole_least (inner_state old.begun i) ≤ greatest_height) c.in-Type.is c.requires.low in
    record { low = type_low fs c.in-Type.field-0 (type_state c.in-Type.ty) c.args.token.now low }

pub take_refused-requires-in-Stops-2 : goal.take_refused-requires-in-Stops-2
take_refused-requires-in-Stops-2 c =
    let old = c.args.self.now in
    let fs = open_in old.begun in
    let low = subst (λ (i : Inner). whole_least (inner_state old.begun i) ≤ greatest_height) c.in-Type.is c.requires.low in
    record { low = type_is_low fs c.in-Type.field-0 (type_state c.in-Type.ty) c.args.token.now (type_state c.take-in-Type.new.self) low (rw c.in-Stops-2.is at c.in_ok-take-in-Type.ensures.taken) }

pub returns-in-Goes : goal.returns-in-Goes
returns-in-Goes c =
    let old = c.args.self.now in
    let fs = open_in old.begun in
    let at = c.in-Note.field-0 in
    let value = c.in-Note.field-1 in
    let new = note_state c.take.new.self in
    let low = subst (λ (i : Inner). whole_least (inner_state old.begun i) ≤ greatest_height) c.in-Note.is c.requires.low in
    record {
      taken =
          subst (λ (i : Inner). Takes machine_of_expressions greatest_height (inner_state old.begun i) c.args.token.now taken.Goes (InNote fs at value new)) (sym c.in-Note.is)
          (note_goes_in fs at value (note_state c.in-Note.note) c.args.token.now new low (rw c.in-Goes.is at c.in_ok-take-in-Note.ensures.taken));
      kept = λ e. absurd cc;
    }

pub returns-in-High : goal.returns-in-High
returns-in-High c =
    let old = c.args.self.now in
    let fs = open_in old.begun in
    record {
      taken =
          subst (λ (i : Inner). Takes machine_of_expressions greatest_height (inner_state old.begun i) c.args.token.now taken.High (Need fs)) (sym c.in-Note.is)
          (note_high_in fs c.in-Note.field-0 c.in-Note.field-1 (note_state c.in-Note.note) c.args.token.now (note_state c.take.new.self) (Need fs) (rw c.in-High.is at c.in_ok-take-in-Note.ensures.taken));
      kept = λ e. absurd cc;
    }

pub returns-in-Goes-2 : goal.returns-in-Goes-2
returns-in-Goes-2 c =
    let old = c.args.self.now in
    let fs = open_in old.begun in
    let at = c.in-Type.field-0 in
    let new = type_state c.take-in-Type.new.self in
    let low = subst (λ (i : Inner). whole_least (inner_state old.begun i) ≤ greatest_height) c.in-Type.is c.requires.low in
    record {
      taken =
          subst (λ (i : Inner). Takes machine_of_expressions greatest_height (inner_state old.begun i) c.args.token.now taken.Goes (InType fs at new)) (sym c.in-Type.is)
          (type_goes_in fs at (type_state c.in-Type.ty) c.args.token.now new low (rw c.in-Goes-2.is at c.in_ok-take-in-Type.ensures.taken));
      kept = λ e. absurd cc;
    }

pub returns-in-High-2 : goal.returns-in-High-2
returns-in-High-2 c =
    let old = c.args.self.now in
    let fs = open_in old.begun in
    record {
      taken =
          subst (λ (i : Inner). Takes machine_of_expressions greatest_height (inner_state old.begun i) c.args.token.now taken.High (Need fs)) (sym c.in-Type.is)
          (type_high_in fs c.in-Type.field-0 (type_state c.in-Type.ty) c.args.token.now (type_state c.take-in-Type.new.self) (Need fs) (rw c.in-High-2.is at c.in_ok-take-in-Type.ensures.taken));
      kept = λ e. absurd cc;
    }

pub returns-in-Stops : goal.returns-in-Stops
returns-in-Stops c =
    let old = c.args.self.now in
    let token = c.args.token.now in
    let fs = open_in old.begun in
    let mid = note_state c.take.new.self in
    let now = InNote fs c.in-Note.field-0 c.in-Note.field-1 mid in
    let new = expr_state c.take_refused.new.self in
    let r = c.take_refused.result in
    let same = (c.in_ok-take-in-Note.ensures.kept c.in-Stops.is) in
    let refused = rw c.in-Stops.is at c.in_ok-take-in-Note.ensures.taken in
    record {
      taken =
          IfOk-weaker r (λ t. Gives machine_of_expressions greatest_height now (own_step now c.take.new.token) t new) (λ t. Takes machine_of_expressions greatest_height (inner_state old.begun old.inner) token t new)
          (λ t g.
          subst (λ (i : Inner). Takes machine_of_expressions greatest_height (inner_state old.begun i) token t new) (sym c.in-Note.is)
          (note_stops_in fs c.in-Note.field-0 c.in-Note.field-1 (note_state c.in-Note.note) token mid t new refused (subst (λ (k : Token). Gives machine_of_expressions greatest_height now (own_step now k) t new) same g)))
          c.take_refused.ensures.taken;
      kept = kept_of r token c.take_refused.new.token (subst (λ (k : Token). OnOk r (c.take_refused.new.token ≡ emptied k)) same c.take_refused.ensures.rest);
    }

pub returns-in-Stops-2 : goal.returns-in-Stops-2
returns-in-Stops-2 c =
    let old = c.args.self.now in
    let token = c.args.token.now in
    let fs = open_in old.begun in
    let mid = type_state c.take-in-Type.new.self in
    let now = InType fs c.in-Type.field-0 mid in
    let new = expr_state c.take_refused-in-Stops-2.new.self in
    let r = c.take_refused-in-Stops-2.result in
    let same = (c.in_ok-take-in-Type.ensures.kept c.in-Stops-2.is) in
    let refused = rw c.in-Stops-2.is at c.in_ok-take-in-Type.ensures.taken in
    record {
      taken =
          IfOk-weaker r (λ t. Gives machine_of_expressions greatest_height now (own_step now c.take-in-Type.new.token) t new) (λ t. Takes machine_of_expressions greatest_height (inner_state old.begun old.inner) token t new)
          (λ t g.
          subst (λ (i : Inner). Takes machine_of_expressions greatest_height (inner_state old.begun i) token t new) (sym c.in-Type.is)
          (type_stops_in fs c.in-Type.field-0 (type_state c.in-Type.ty) token mid t new refused (subst (λ (k : Token). Gives machine_of_expressions greatest_height now (own_step now k) t new) same g)))
          c.take_refused-in-Stops-2.ensures.taken;
      kept = kept_of r token c.take_refused-in-Stops-2.new.token (subst (λ (k : Token). OnOk r (c.take_refused-in-Stops-2.new.token ≡ emptied k)) same c.take_refused-in-Stops-2.ensures.rest);
    }
