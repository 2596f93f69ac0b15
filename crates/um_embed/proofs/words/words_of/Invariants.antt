use Rattle.std.proofs.Common.{◌≡◌, ◌++◌, length, map}
use Rattle.std.specs.Prelude.{string_bytes}
use denote.Text.{Utf8}
use denote.Shadow.{shadow}
use Rattle.um_embed.specs.Embedded.{words_between}
use Rattle.um_embed.proofs.words.words_of.Given as goal

-- the words so far, and those of the rest, are those of the text
abbrev pub invariant-loop-word : goal.invariant-loop-word
invariant-loop-word l = record {
  text : shadow (Utf8 l.rest);
  words : words_between l.text ≡ map string_bytes l.words.items ++ words_between l.rest;
}

abbrev pub decreases-loop-word : goal.decreases-loop-word
decreases-loop-word l = length l.rest
