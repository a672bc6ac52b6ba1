-- To be believed. What the four lists of a side that are lent as one hold. Assumes nothing.
use Rattle.plan.specs.declared.lent.Spans.{Spans}
use Rattle.plan.specs.Spans.{Spread, spread_of}

abbrev pub spread_lent : Spans → Spread
spread_lent s = spread_of s.starts.now s.lo.now s.hi.now s.local.now
