-- What the host's room for a program owns: nothing, or the box of a program.
-- Source: this project's own.
use Rattle.std.specs.Prelude.{ℕ, List, Bool, true, false}
use Rattle.std.specs.Box.Ownership.{box_owns}
use Rattle.std.specs.contracts.impls.GlobalAllocator.TheImpl.{ghosts}
use Rattle.um_embed.specs.contracts.opened.Opened.{the_row}
use mir.Syntax.{Ty}
use base.Fml.{Fml, ftrue}
use denote.RawPtr.{Ptr}

-- the right to free a block of the heap, whose handle has nothing in it
abbrev pub freed : Ty → Ptr → Fml
freed = ghosts.dealloc_token (record { memory = record { seal = tt } })

abbrev pub opened_owns : Bool → Ptr → List ℕ → Fml
opened_owns true p text = box_owns freed the_row p text
opened_owns false p text = ftrue
