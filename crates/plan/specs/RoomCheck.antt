-- The code's own. What the check of the room asks: numbers small enough to count on from. Assumes nothing.
use Rattle.std.specs.Prelude.{ℕ, ◌≤◌}
use Rattle.plan.specs.SpanWalk.{Chunked}

pub record RoomFits (nrows len kept elims : ℕ) : Type 0 where
  pub chunked : Chunked nrows len
  pub few-kept : kept ≤ 65_536
  pub few-elims : elims ≤ 65_536
