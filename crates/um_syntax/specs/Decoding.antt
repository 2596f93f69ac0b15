-- UTF-8 character by character (Unicode, section 3.9).
use Rattle.std.specs.Prelude.{◌≡◌, ◌≢◌, ℕ, ◌<◌, cond, nat_lt, List, ◌++◌, length, slice_index}
use Rattle.std.specs.Char.{encode_utf8, IsScalar}
use Rattle.um_syntax.specs.declared.decode.Decoded.{Decoded}
use Rattle.um_syntax.specs.declared.decode.Decoded.TheVariants as decoded

-- how many bytes a character has that begins with this byte; 0 if none does
abbrev pub char_len : ℕ → ℕ
char_len b =
    cond (nat_lt b 128) 1
    (cond (nat_lt b 192) 0 (cond (nat_lt b 224) 2 (cond (nat_lt b 240) 3 (cond (nat_lt b 248) 4 0))))

-- no whole character stands at the front of the bytes
abbrev pub NoWhole : List ℕ → Type 0
NoWhole bytes = (c : ℕ) (more : List ℕ) → IsScalar c → bytes ≢ encode_utf8 c ++ more

-- and none will, whatever follows them
abbrev pub NoChar : List ℕ → Type 0
NoChar bytes = (after : List ℕ) → NoWhole (bytes ++ after)

-- what stands at the front of bytes that are at most one character
abbrev pub IsDecoded : Decoded → List ℕ → Type 0
IsDecoded (decoded.Whole c) bytes = IsScalar c × (bytes ≡ encode_utf8 c)
IsDecoded decoded.Partial bytes = length bytes < char_len (slice_index bytes 0)
IsDecoded decoded.Broken bytes = NoChar bytes
