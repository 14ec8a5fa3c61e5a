-- What the layers above cite of `kept`, and nothing else of its proofs: the theorem about what is kept, how the lists go on from event to event, and what
-- the pieces hold through a run; and of lists of anything, who is in them. Assumes nothing.
pub use Rattle.kept.proofs.Covering.{kept_suffices}
pub use Rattle.kept.proofs.Through.{kept_first, kept_after_access, kept_after_other, kept_at_most}
pub use Rattle.kept.proofs.Through.{holds_first, holds_other, holds_next}
pub use Rattle.kept.proofs.Through.{cleared_whole, cleared_rest, cleared_same, rest_kept_on}
pub use Rattle.kept.proofs.Lists.{either_way, in_front, in_back, in_either, first_has}
