-- Whether a token goes on in a note, by whether it does in the unit text inside.
use Rattle.std.proofs.Common.{◌≡◌, ℕ, [], refl}
use Rattle.um_syntax.specs.declared.token.Kind.{Kind}
use Rattle.um_syntax.specs.declared.token.Kind.TheVariants as kind
use Rattle.um_unit_texts.specs.UnitTokens.{unit_token}
use Rattle.um_unit_texts.specs.UnitMachine.{State, Need, Have, Raised, Lowered, Refused, begin}
use Rattle.um_unit_texts.specs.Standing.{unit_stands}
use Rattle.um_types.specs.NoteMachine.{note_begin, unit_goes}
use Rattle.um_types.specs.Standing.{note_stands}

pub goes_stands : (at : ℕ) (u : State) → unit_stands u ≡ note_stands (unit_goes at u)
goes_stands at (Need frames) = refl
goes_stands at (Have frames t) = refl
goes_stands at (Raised frames t) = refl
goes_stands at (Lowered frames t) = refl
goes_stands at Refused = refl

pub begin_stands : (k : Kind) (at : ℕ) → (k ≡ kind.Hole → ⊥) → unit_stands (begin [] (unit_token k) at) ≡ note_stands (note_begin k at)
begin_stands kind.Hole at other = absurd (other refl)
begin_stands (kind.Name x) at other = goes_stands at (begin [] (unit_token (kind.Name x)) at)
begin_stands (kind.Var x) at other = goes_stands at (begin [] (unit_token (kind.Var x)) at)
begin_stands (kind.Number value digits one) at other = goes_stands at (begin [] (unit_token (kind.Number value digits one)) at)
begin_stands (kind.Word w) at other = goes_stands at (begin [] (unit_token (kind.Word w)) at)
begin_stands (kind.Sign s) at other = goes_stands at (begin [] (unit_token (kind.Sign s)) at)
