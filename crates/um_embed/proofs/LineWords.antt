-- The words of a command line.
use Rattle.std.proofs.Common.{◌≡◌, ap, sym, ℕ, Bool, true, false, if◌then◌else◌, List, codes, refl}
use Rattle.std.specs.Str.{IsUtf8, is_utf8}
use Rattle.std.proofs.lemmas.Str.{IsUtf8-from_is_utf8, is_utf8-from_IsUtf8}
use Rattle.um_embed.specs.Embedded.{words_between}
use Rattle.um_embed.specs.CommandLine.{words_in}

abbrev chosen : List ℕ → Bool → List (List ℕ)
chosen bytes is_text = words_between (if is_text then bytes else codes "?")

pub words_of_text : (bytes : List ℕ) → IsUtf8 bytes → words_between bytes ≡ words_in bytes
words_of_text bytes is = ap (chosen bytes) (sym (is_utf8-from_IsUtf8 bytes is))

pub words_of_other : (bytes : List ℕ) → ¬ (IsUtf8 bytes) → words_between (codes "?") ≡ words_in bytes
words_of_other bytes is_not = go (is_utf8 bytes) refl
  where
    go : (is_text : Bool) → is_utf8 bytes ≡ is_text → words_between (codes "?") ≡ words_in bytes
    go true is = absurd (is_not (IsUtf8-from_is_utf8 bytes is))
    go false is = ap (chosen bytes) (sym is)
