use Rattle.std.proofs.Common.{◌≡◌, ◌++◌, length}
use denote.Text.{Utf8}
use denote.Shadow.{shadow}
use Rattle.um_embed.specs.Embedded.{words_between}
use Rattle.um_embed.proofs.line.parts_of.Given as goal

-- the words so far, and the parts of the rest, are the parts of the text
abbrev pub invariant-loop-word : goal.invariant-loop-word
invariant-loop-word l = record {
  text : shadow (Utf8 l.rest);
  parts : words_between l.text ≡ l.words ++ words_between l.rest;
}

abbrev pub decreases-loop-word : goal.decreases-loop-word
decreases-loop-word l = length l.rest
