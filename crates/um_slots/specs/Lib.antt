-- What a reader must trust, in reading order: the units that are left open, what a call goes to, the keys that ask for
-- slots, slots, notes as types over them, a call as a function.
pub use Rattle.um_uses.specs.Holes
pub use Rattle.um_uses.specs.Callees
pub mod Keys
pub mod Slots
pub mod Noted
pub mod CallFunction
-- What mirrors the code: slots given one by one, what is known of a function.
pub mod Slotting
pub mod SlotUnits
pub mod Contexts
