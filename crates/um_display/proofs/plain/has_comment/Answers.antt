use Rattle.std.proofs.Common.{◌≡◌, Bool, true, false, codes, refl}
use Rattle.std.specs.Prelude.{◌↔◌, MatchBool}
use Rattle.std.specs.Str.Iter.{HasSubslice}
use Rattle.std.proofs.lemmas.Bool.{false≢true}
use Rattle.std.proofs.lemmas.Str.Pattern.{contains_text}
use Rattle.um_display.proofs.plain.has_comment.Goals as goal

pub returns : goal.returns
returns c =
    by c.contains.result (contains_text c.contains.result (codes "//") c.args.text.now c.contains.ensures.cases) where
      by : (b : Bool) → (b ≡ true) ↔ HasSubslice c.args.text.now (codes "//")
          → MatchBool b (HasSubslice c.args.text.now (codes "//")) (HasSubslice c.args.text.now (codes "//") → ⊥)
      by true h = h.0 refl
      by false h = λ s. false≢true (h.1 s)
