-- The stages of a text: each has its value, or a fault that is told. Published: crates above use it.
use Rattle.std.proofs.Common.{◌≡◌, ◌⊎◌, ℕ, List, codes, Option, Some, None, Result, Ok, Err, refl, sym, ap, subst, inl, inr}
use Rattle.um_tree.specs.RawTree.{DeclSyntax}
use Rattle.um_types.specs.declared.parse.LimitKind.TheVariants as limit
use Rattle.um_measures.specs.declared.stop.NameStop.TheVariants as name_stop
use Rattle.um_measures.specs.Faults.{Fault, unknown, twice, wrong_count, hole, range, and_then}
use Rattle.um_measures.specs.Known.{Known}
use Rattle.um_names.specs.Resolution.{resolution, resolved_program}
use Rattle.um_shape.specs.declared.stop.ShapeStop.TheVariants as shape_stop
use Rattle.um_shape.specs.FirstFault.{ShapeFault, wrong_shape, too_deep, first_fault}
use Rattle.um_infer.specs.Inference.{Inference, all_schemes, stops_at_slots, stops_at_range, stops_at_units, stops_at_not_general, infer}
use Rattle.um_infer.specs.Laws.{SlotStopsAreExact, RangeStopsAreExact, UnitStopsAreExact, NotGeneralStopsAreExact}
use Rattle.um_reports.specs.declared.status.Status.{Status}
use Rattle.um_reports.specs.declared.status.Status.TheVariants.{Limit, Names, Shape, Units, NotGeneral, PowerRange}
use Rattle.um_reports.specs.Refusals.{placed, limit_label, units_label, not_general_label, range_label}
use Rattle.um_front.specs.Stages.{IsReadText, ShapedTree, IsShapedText, IsCheckedText}
use Rattle.um_front.specs.Refused.{IsUnshaped, IsUnchecked, IsUntypedReply}
use Rattle.um_all_answers.specs.Answered.{HasAnswer, IsReadOrRefused}

-- the value of a stage, or a refusal
abbrev pub Either : {A : Type 0} → (List ℕ → A → Type 0) → (List ℕ → List ℕ → Status → Type 0) → List ℕ → Type 0
Either {A} Is IsNot bytes = ((x : A) × Is bytes x) ⊎ HasAnswer IsNot bytes

module _ (bytes : List ℕ) where
  -- ---- from the program as it is written to its shapes
  module _ (raw : List DeclSyntax) (read : IsReadText bytes raw) where
    named : (fault : Fault) → resolved_program raw ≡ Err fault → HasAnswer IsUnshaped bytes
    unfolding IsUnshaped
    named (unknown at) e = (placed (codes "error 7: unknown name at ") bytes at, Names, inr (inl (raw, read, name_stop.Unknown at, e, (refl, refl))))
    named (twice at) e = (placed (codes "error 7: declared twice at ") bytes at, Names, inr (inl (raw, read, name_stop.Twice at, e, (refl, refl))))
    named (wrong_count at) e = (placed (codes "error 7: wrong count at ") bytes at, Names, inr (inl (raw, read, name_stop.WrongCount at, e, (refl, refl))))
    named (hole at) e = (placed (codes "error 7: hole at ") bytes at, Names, inr (inl (raw, read, name_stop.Hole at, e, (refl, refl))))
    named (range at) e = (placed (codes "error 10: power range at ") bytes at, PowerRange, inr (inl (raw, read, name_stop.Range at, e, (refl, refl))))

    shaped : (known : Known) → resolution raw ≡ Ok known → (o : Option ShapeFault) → first_fault known.program ≡ o → Either IsShapedText IsUnshaped bytes
    unfolding IsUnshaped
    shaped known is None fault =
        inl (
          record { program = known.program; abbreviations = known.shorts },
          record {
            raw = raw;
            written = read;
            resolved = ap (λ r. and_then r (λ k. Ok k.program)) is;
            abbreviated = ap (λ r. and_then r (λ k. Ok k.shorts)) is;
            faultless = fault;
          },
        )
    shaped known is (Some (wrong_shape at)) fault =
        inr (placed (codes "error 8: shape at ") bytes at, Shape, inr (inr (raw, read, known.program, ap (λ r. and_then r (λ k. Ok k.program)) is, shape_stop.Shape at, fault, (refl, refl))))
    shaped known is (Some (too_deep at)) fault =
        inr (placed (limit_label limit.Depth) bytes at, Limit, inr (inr (raw, read, known.program, ap (λ r. and_then r (λ k. Ok k.program)) is, shape_stop.Depth at, fault, (refl, refl))))

    by_names : (r : Result Known Fault) → resolution raw ≡ r → Either IsShapedText IsUnshaped bytes
    by_names (Ok known) is = shaped known is (first_fault known.program) refl
    by_names (Err fault) is = inr (named fault (ap (λ r. and_then r (λ k. Ok k.program)) is))

  pub shapes_or_refusal : IsReadOrRefused bytes → Either IsShapedText IsUnshaped bytes
  unfolding IsUnshaped
  shapes_or_refusal (inl (raw, read)) = by_names raw read (resolution raw) refl
  shapes_or_refusal (inr (text, status, unread)) = inr (text, status, inl unread)

  -- ---- and to its schemes
  module _ (slots : SlotStopsAreExact) (ranges : RangeStopsAreExact) (units : UnitStopsAreExact) (less_general : NotGeneralStopsAreExact) where
    untyped : (s : ShapedTree) → IsShapedText bytes s → (text : List ℕ) (status : Status) (r : Inference) → infer s.program ≡ r → IsUntypedReply bytes text status s.program r → Either IsCheckedText IsUnchecked bytes
    unfolding IsUnchecked
    untyped s is text status r e reply = inr (text, status, inr (s, is, subst (λ (x : Inference). IsUntypedReply bytes text status s.program x) (sym e) reply))

    inferred : (s : ShapedTree) → IsShapedText bytes s → (r : Inference) → infer s.program ≡ r → Either IsCheckedText IsUnchecked bytes
    inferred s is (all_schemes schemes) e = inl (record { text = s; schemes = schemes }, record { shaped = is; inferred = e })
    inferred s is (stops_at_slots i) e =
        let j = (slots s.program i).0 e in
        untyped s is (placed (limit_label limit.Slots) bytes j.function.at) Limit (stops_at_slots i) e (j.function, j.declared, (refl, refl))
    inferred s is (stops_at_range i at) e =
        let j = (ranges s.program i at).0 e in
        untyped s is (placed (range_label j.function.name) bytes at) PowerRange (stops_at_range i at) e (j.function, j.declared, (refl, refl))
    inferred s is (stops_at_units i row at) e =
        let j = (units s.program i row at).0 e in
        untyped s is (placed (units_label j.function.name) bytes at) Units (stops_at_units i row at) e (j.function, j.declared, (refl, refl))
    inferred s is (stops_at_not_general i row at) e =
        let j = (less_general s.program i row at).0 e in
        untyped s is (placed (not_general_label j.function.name) bytes at) NotGeneral (stops_at_not_general i row at) e (j.function, j.declared, (refl, refl))

    by_shapes : Either IsShapedText IsUnshaped bytes → Either IsCheckedText IsUnchecked bytes
    unfolding IsUnchecked
    by_shapes (inl (s, is)) = inferred s is (infer s.program) refl
    by_shapes (inr (text, status, unshaped)) = inr (text, status, inl unshaped)

    pub schemes_or_refusal : IsReadOrRefused bytes → Either IsCheckedText IsUnchecked bytes
    schemes_or_refusal read = by_shapes (shapes_or_refusal read)
