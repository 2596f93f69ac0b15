-- A text that is too long is refused at each stage.
use Rattle.std.proofs.Common.{ℕ, ◌<◌, List, length, codes, inl}
use Rattle.um_reports.specs.declared.status.Status.{Status}
use Rattle.um_reports.specs.declared.status.Status.TheVariants.{TooLong}
use Rattle.um_reports.specs.Steps.{line, IsReply}
use Rattle.um_front.specs.Refused.{IsUnread, IsUnshaped, IsUnchecked}

module _ (bytes text : List ℕ) (status : Status) (long : 1048576 < length bytes) (reply : IsReply text status (line (codes "error 2: text too long")) TooLong) where
  pub too_long_unread : IsUnread bytes text status
  unfolding IsUnread
  too_long_unread = inl (long, reply)

  pub too_long_unshaped : IsUnshaped bytes text status
  unfolding IsUnshaped
  too_long_unshaped = inl too_long_unread

  pub too_long_unchecked : IsUnchecked bytes text status
  unfolding IsUnchecked
  too_long_unchecked = inl too_long_unshaped
