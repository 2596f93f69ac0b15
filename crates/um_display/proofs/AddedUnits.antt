-- Units of parts, one more at a time.
use Rattle.std.proofs.Common.{◌≡◌, ℕ, zero, suc, ◌+◌, ◌<◌, ◌≤◌, List, [], ◌∷◌, ◌++◌, drop, get_or, length, Option, refl, sym, ap, ◌∙◌, append_assoc, add-one, arith}
use Rattle.std.specs.Prelude.{Result, Ok, Err}
use Rattle.std.proofs.lemmas.List.{append-nil}
use Rattle.um_units.specs.PowerMap.{PowerMap}
use Rattle.um_display.specs.declared.part.Part.{Part}
use Rattle.um_display.specs.declared.unit.DisplayUnit.{DisplayUnit}
use Rattle.um_display.specs.declared.unit.UnitsStop.{UnitsStop}
use Rattle.um_display.specs.declared.unit.UnitsStop.TheVariants.{NoUnit, PowerRange, NoMemory}
use Rattle.um_display.specs.UnitWords.{PartSyntax}
use Rattle.um_display.specs.DisplayUnits.{before_others, part_unit, part_units, IsStop}
use Rattle.um_display.specs.PartView.{part_syntax, list_syntax}

abbrev pub after_these : List DisplayUnit → Result (List DisplayUnit) UnitsStop → Result (List DisplayUnit) UnitsStop
after_these us (Ok vs) = Ok (us ++ vs)
after_these us (Err stop) = Err stop

after_one : (us : List DisplayUnit) (u : DisplayUnit) (r : Result (List DisplayUnit) UnitsStop) → after_these us (before_others (Ok u) r) ≡ after_these (us ++ u ∷ []) r
after_one us u (Ok vs) = ap Ok (sym (append_assoc us (u ∷ []) vs))
after_one us u (Err stop) = refl

-- those from number i on
abbrev pub parts_from : List Part → ℕ → List PartSyntax
parts_from parts i = list_syntax (drop i parts)

from_next : (parts : List Part) (i : ℕ) (part : Part) → i < length parts → part ≡ get_or parts i part → parts_from parts i ≡ part_syntax part ∷ parts_from parts (suc i)
from_next [] i part h e = absurd (omega arith)
from_next (p ∷ ps) zero part h e = ap (λ q. part_syntax q ∷ list_syntax ps) (sym e)
from_next (p ∷ ps) (suc i) part h e = from_next ps i part (omega arith) e

from_more : (parts : List Part) (i : ℕ) (part : Part) → i < length parts → part ≡ get_or parts i part → parts_from parts i ≡ part_syntax part ∷ parts_from parts (i + 1)
from_more parts i part h e = rw add-one (from_next parts i part h e)

from_end : (parts : List Part) (i : ℕ) → length parts ≤ i → parts_from parts i ≡ []
from_end [] zero h = refl
from_end [] (suc i) h = refl
from_end (p ∷ ps) zero h = absurd (omega (arith, h))
from_end (p ∷ ps) (suc i) h = from_end ps i (omega (arith, h))

module _ (measures : List ℕ → Option PowerMap) (parts : List Part) where
  pub record Added (before now : List DisplayUnit) (i : ℕ) : Type 0 where
    pub added : List DisplayUnit
    pub now_is : now ≡ before ++ added
    pub units : part_units measures (list_syntax parts) ≡ after_these added (part_units measures (parts_from parts i))

  nothing_before : (r : Result (List DisplayUnit) UnitsStop) → r ≡ after_these [] r
  nothing_before (Ok vs) = refl
  nothing_before (Err stop) = refl

  pub none_added : (before : List DisplayUnit) → Added before before 0
  none_added before = record { added = []; now_is = sym (append-nil before); units = nothing_before (part_units measures (list_syntax parts)) }

  module _ (before now new : List DisplayUnit) (i : ℕ) (part : Part) (below : i < length parts) (is : part ≡ get_or parts i part) where
    pub one_added : (u : DisplayUnit) → Added before now i → new ≡ now ++ u ∷ [] → part_unit measures (part_syntax part) ≡ Ok u → Added before new (i + 1)
    one_added u so_far after unit = record {
      added = so_far.added ++ u ∷ [];
      now_is = after ∙ ap (λ (us : List DisplayUnit). us ++ u ∷ []) so_far.now_is ∙ append_assoc before so_far.added (u ∷ []);
      units =
          so_far.units ∙ ap (λ (ps : List PartSyntax). after_these so_far.added (part_units measures ps)) (from_more parts i part below is)
          ∙ ap (λ r. after_these so_far.added (before_others r (part_units measures (parts_from parts (i + 1))))) unit
          ∙ after_one so_far.added u (part_units measures (parts_from parts (i + 1)));
    }

    pub one_failed : (stop : UnitsStop) → Added before now i → IsStop (part_unit measures (part_syntax part)) stop → IsStop (part_units measures (list_syntax parts)) stop
    one_failed NoMemory so_far h = tt
    one_failed NoUnit so_far h =
        so_far.units ∙ ap (λ (ps : List PartSyntax). after_these so_far.added (part_units measures ps)) (from_more parts i part below is)
        ∙ ap (λ r. after_these so_far.added (before_others r (part_units measures (parts_from parts (i + 1))))) h
    one_failed PowerRange so_far h =
        so_far.units ∙ ap (λ (ps : List PartSyntax). after_these so_far.added (part_units measures ps)) (from_more parts i part below is)
        ∙ ap (λ r. after_these so_far.added (before_others r (part_units measures (parts_from parts (i + 1))))) h

  pub all_added : (before now : List DisplayUnit) (i : ℕ) → length parts ≤ i → Added before now i
      → (added : List DisplayUnit) × (now ≡ before ++ added) × (part_units measures (list_syntax parts) ≡ Ok added)
  all_added before now i past so_far = (
    so_far.added,
    so_far.now_is,
    so_far.units ∙ ap (λ (ps : List PartSyntax). after_these so_far.added (part_units measures ps)) (from_end parts i past)
        ∙ ap Ok (append-nil so_far.added),
  )
