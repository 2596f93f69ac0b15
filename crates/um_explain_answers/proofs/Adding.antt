-- What is added after a report line, from what was added one after another.
use Rattle.std.proofs.Common.{◌≡◌, ℕ, List, ◌++◌, length, refl, sym, ap, ◌∙◌, subst, append_assoc}
use Rattle.std.specs.Prelude.{Option, slice_get}
use Rattle.um_syntax.specs.declared.token.Token.{Token}
use Rattle.um_tree.specs.RawTree.{DeclSyntax}
use Rattle.um_tree.specs.ProgramTree.{ProgramTree}
use Rattle.um_types.specs.declared.parse.LimitKind.TheVariants as limit
use Rattle.um_shape.specs.declared.stop.ShapeStop.{ShapeStop}
use Rattle.um_shape.specs.declared.stop.ShapeStop.TheVariants as shape_stop
use Rattle.um_infer.specs.declared.stop.InferStop.{InferStop}
use Rattle.um_infer.specs.declared.stop.InferStop.TheVariants as infer_stop
use Rattle.um_excerpt.specs.Excerpt.{excerpt}
use Rattle.um_mismatch.specs.ShapeDetails.{shape_details}
use Rattle.um_text_details.specs.LimitDetails.{limit_details}
use Rattle.um_text_details.specs.Stops.{AddsTold}
use Rattle.um_explain_answers.specs.UnitsDetails.{IsUnitsDetails}
use Rattle.um_explain_answers.specs.Added.{Adds}
use Rattle.um_explain_answers.specs.NameRest.{IsShapeRest}
use Rattle.um_explain_answers.specs.TokenRest.{IsSyntaxRest, missing_line}
use Rattle.um_explain_answers.specs.SchemeRest.{IsSchemeRest, function_place}

both_added : (before a b mid after : List ℕ) → mid ≡ before ++ a → after ≡ mid ++ b → after ≡ before ++ (a ++ b)
both_added before a b mid after first second = second ∙ ap (λ t. t ++ b) first ∙ append_assoc before a b

pub syntax_added : (bytes : List ℕ) (tokens : List Token) (at : ℕ) (before mid more after : List ℕ) (missing : Option ℕ) → mid ≡ before ++ excerpt bytes at → AddsTold tokens (length bytes) mid more missing
    → after ≡ more ++ missing_line bytes missing → Adds (IsSyntaxRest bytes tokens at) before after
syntax_added bytes tokens at before mid more after missing source (words, e, told) last =
    let shown = excerpt bytes at in (
      (shown ++ words) ++ missing_line bytes missing,
      both_added before (shown ++ words) (missing_line bytes missing) more after (both_added before shown words mid more source e) last,
      (words, missing, told, refl),
    )

pub mismatch_added : (bytes : List ℕ) (p : ProgramTree) (stop : ShapeStop) (at : ℕ) → stop ≡ shape_stop.Shape at → (before mid after : List ℕ) → mid ≡ before ++ excerpt bytes at → after ≡ mid ++ shape_details p → Adds (IsShapeRest bytes p stop) before after
mismatch_added bytes p stop at is before mid after source e =
    subst (λ (s : ShapeStop). Adds (IsShapeRest bytes p s) before after) (sym is)
    (excerpt bytes at ++ shape_details p, both_added before (excerpt bytes at) (shape_details p) mid after source e, refl)

module _ (bytes : List ℕ) (raw : List DeclSyntax) (p : ProgramTree) (stop : InferStop) (i at : ℕ) (before mid after : List ℕ) (source : mid ≡ before ++ excerpt bytes at) where
  abbrev AddsDetails : InferStop → Type 0
  AddsDetails s = (text : List ℕ) × IsUnitsDetails bytes raw p s text × (after ≡ mid ++ text)

  pub units_added : stop ≡ infer_stop.Units i at → AddsDetails (infer_stop.Units i at) → Adds (IsSchemeRest bytes raw p stop) before after
  units_added is (text, details, e) =
      subst (λ (s : InferStop). Adds (IsSchemeRest bytes raw p s) before after) (sym is)
      (excerpt bytes at ++ text, both_added before (excerpt bytes at) text mid after source e, (text, details, refl))

  pub general_added : stop ≡ infer_stop.NotGeneral i at → AddsDetails (infer_stop.NotGeneral i at) → Adds (IsSchemeRest bytes raw p stop) before after
  general_added is (text, details, e) =
      subst (λ (s : InferStop). Adds (IsSchemeRest bytes raw p s) before after) (sym is)
      (excerpt bytes at ++ text, both_added before (excerpt bytes at) text mid after source e, (text, details, refl))

  pub slots_added : stop ≡ infer_stop.Slots i → function_place (slice_get p.functions i) ≡ at → after ≡ mid ++ limit_details limit.Slots → Adds (IsSchemeRest bytes raw p stop) before after
  slots_added is place e =
      let rest = excerpt bytes at ++ limit_details limit.Slots in
      subst (λ (s : InferStop). Adds (IsSchemeRest bytes raw p s) before after) (sym is)
      (rest, both_added before (excerpt bytes at) (limit_details limit.Slots) mid after source e, ap (λ (n : ℕ). excerpt bytes n ++ limit_details limit.Slots) (sym place))
