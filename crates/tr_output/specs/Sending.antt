-- Private contracts alone cite this file.
-- The writing of bytes to a sink by way of a buffer.
use Rattle.std.specs.Prelude.{◌≡◌, ℕ, ◌+◌, ◌≤◌, List, ◌++◌, length}
use Rattle.tr_io.specs.declared.streams.Sink.{Ghosts}
use Rattle.tr_io.specs.Faults.{HasFault}
use Rattle.tr_io.specs.Streams.{Grew, GrewByPrefix}

module _ {K : Type 0} (sink : Ghosts K) where
  -- The buffer held some bytes, and more came: the sink took a front of both, and the buffer holds the rest.
  pub record Sends (before after : K) (was is more : List ℕ) : Type 0 where
    pub sent : List ℕ
    pub parts : sent ++ is ≡ was ++ more
    pub grew : Grew (sink.written before) (sink.written after) sent
    pub room : sink.room before ≤ sink.room after + length sent

  -- a write failed: the sink took a front of both
  pub record HasStopped (before after : K) (was more : List ℕ) : Type 0 where
    pub front : GrewByPrefix (sink.written before) (sink.written after) (was ++ more)
    pub failed : HasFault (sink.faults before) (sink.faults after)
