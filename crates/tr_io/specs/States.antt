-- The models of the sources and sinks in memory.
use Rattle.std.specs.Prelude.{ℕ, List}

-- a source with planned faults
pub record SourceState : Type 0 where
  -- the bytes still to come
  pub left : List ℕ
  -- the number of reads
  pub reads : ℕ
  -- the numbers of the reads that fail, counted from 1
  pub fails : List ℕ
  -- the number of reads that failed
  pub faults : ℕ

-- a source that gives a limited number of bytes at once, with planned faults
pub record PieceState : Type 0 where
  -- the bytes still to come
  pub left : List ℕ
  -- the most bytes that one read gives
  pub piece : ℕ
  -- the number of reads
  pub reads : ℕ
  -- the numbers of the reads that fail, counted from 1
  pub fails : List ℕ
  -- the number of reads that failed
  pub faults : ℕ

-- a sink that never fails
pub record SteadyState : Type 0 where
  -- the bytes that it has taken
  pub written : List ℕ
  -- the number of bytes that it can take without more memory
  pub room : ℕ

-- a sink with planned faults
pub record SinkState : Type 0 where
  -- the bytes that it has taken
  pub written : List ℕ
  -- the number of bytes that it can take without more memory
  pub room : ℕ
  -- the most bytes that one write takes
  pub piece : ℕ
  -- the number of writes
  pub writes : ℕ
  -- the numbers of the writes that fail, counted from 1
  pub fails : List ℕ
  -- the number of writes that failed
  pub faults : ℕ

-- a source or a sink over a stream of the system
pub record StreamState (S : Type 0) : Type 0 where
  pub stream : S
  -- the number of reads or writes that failed
  pub faults : ℕ
