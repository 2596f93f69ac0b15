use Rattle.std.proofs.Common.{[], Ok, refl, sym, ap, inl}
use Rattle.um_syntax.proofs.Feeds.{none_counted}
use Rattle.um_syntax.proofs.feed.Lexer.new.Goals as goal

pub returns-clause-stands : goal.returns-clause-stands
returns-clause-stands c = record {
  cs = [];
  tail = [];
  read = record { scalars = refl; place = refl; scanned = ap (λ s. Ok s) (sym c.new.ensures); counted = ([], [], refl, inl refl, tt, none_counted) };
  whole = refl;
  behind = refl;
}
