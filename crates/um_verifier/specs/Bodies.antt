-- What is asked of the heads before the code is looked at. This mirrors the code.
-- Source: this project's own.
use Rattle.std.specs.Prelude.{◌≡◌, ◌<◌, All, length}
use Rattle.um_machine.specs.declared.code.Code.{Code}
use Rattle.um_verifier.specs.States.{AreLow}
use Rattle.um_verifier.specs.declared.known.Known.{Known}

pub record AreReady (known : Known) (code : Code) : Type 0 where
  pub count : length code.entries ≡ length known.heads.items
  pub filled : All (λ e. e.start < e.end) code.entries
  pub low : All (λ h. AreLow known h.params.items) known.heads.items
