use Rattle.std.proofs.Common.{ap, nat_lt}
use Rattle.std.proofs.lemmas.Iterator.{YieldsList-from_chars}
use Rattle.std.proofs.lemmas.Iterator.Consumers.{count_from_yields_List}
use Rattle.um_sites.proofs.text.has_similar.Goals as goal

pub returns : goal.returns
returns c = ap (λ n. nat_lt 1 n) (count_from_yields_List _ c.count.result c.count.ensures.ran (YieldsList-from_chars c.args.word.now c.utf8.word c.chars.ensures.rest))
