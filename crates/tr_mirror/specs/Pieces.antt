-- Private contracts alone cite this file.
-- A piece of a stream whose front was read.
use Rattle.std.specs.Prelude.{◌≡◌, ◌≢◌, ◌<◌, true, false, ℕ, List, ◌++◌, length, drop, None, IsSome, is_some}
use Rattle.tr_mirror.specs.Headers.{header_len, header_of, record_len}
use Rattle.tr_mirror.specs.Standings.{Standing, header_fault, pixel_fault}
use Rattle.tr_mirror.specs.Records.{is_unknown}
use Rattle.tr_mirror.specs.Readings.{Reading, cut_between, is_between}
use Rattle.tr_mirror.specs.Automata.{after_bytes, shown_from}

-- if the bytes count a cut, they end with it: there is a screen, no record has begun after it, and there is no fault
pub record EndsAtCut (old new : Reading) : Type 0 where
  pub screen : new.standing.cuts ≢ old.standing.cuts → IsSome new.standing.screen
  pub between : new.standing.cuts ≢ old.standing.cuts → is_between new ≡ true
  pub fault : is_some new.fault ≡ true → new.standing.cuts ≡ old.standing.cuts

-- the front of a piece was read, and the rest wasn't; no byte of the front but the last one ends a cut
pub record TakesFront (old new : Reading) (piece rest : List ℕ) : Type 0 where
  pub front : List ℕ
  pub parts : front ++ rest ≡ piece
  pub some : 0 < length front
  pub came : after_bytes old front ≡ new
  pub shown : shown_from old front ≡ cut_between old.standing new.standing
  pub ends : EndsAtCut old new

-- the bytes are a whole record without a fault
pub record IsFaultless (s : Standing) (bytes : List ℕ) : Type 0 where
  pub known : is_unknown bytes ≡ false
  pub whole : length bytes ≡ record_len bytes
  pub header : header_fault s (header_of bytes) ≡ None
  pub pixels : pixel_fault s (drop (header_len bytes) bytes) ≡ None
