-- A list whose front was replaced, and the rest as it was.
use Rattle.std.proofs.Common.{◌≡◌, ℕ, ◌<◌, ◌+◌, ◌∷◌, List, length, drop, get_or, set, sym, ◌∙◌, arith}
use Rattle.std.proofs.lemmas.List.{drop-set-lt, drop_more, get_or_default}

module _ {X : Type 0} (before now : List X) (i : ℕ) (same : drop i now ≡ drop i before) (lt : i < length now) (below : i < length before) (d : X) where
  parts : get_or now i d ∷ drop (i + 1) now ≡ get_or before i d ∷ drop (i + 1) before
  parts = sym (drop_more now i d lt) ∙ same ∙ drop_more before i d below

  pub same_at : get_or before i (get_or now i d) ≡ get_or now i d
  same_at = let e : get_or now i d ≡ get_or before i d = cc parts in get_or_default before i (get_or now i d) d below ∙ sym e

  -- one more is replaced
  pub same_behind : (y : X) → drop (i + 1) (set now i y) ≡ drop (i + 1) before
  same_behind y = let e : drop (i + 1) now ≡ drop (i + 1) before = cc parts in drop-set-lt (i + 1) now i y (omega arith) ∙ e
