-- Lists of timestamps in increasing order.
use Rattle.std.specs.Prelude.{◌≤◌, Bool, true, ◌&&◌, List, [], ◌∷◌, length, IsTrue}
use Rattle.hy_record.specs.declared.stamps.TheConstants.{MAX_STAMPS}
use Rattle.hy_record.specs.Stamp.{Timestamp, stamp_lt}

-- the timestamp is below the first of the list, if there is one
abbrev pub is_below_first : Timestamp → List Timestamp → Bool
is_below_first stamp [] = true
is_below_first stamp (first ∷ others) = stamp_lt stamp first

-- each timestamp is below the next
abbrev pub is_rising : List Timestamp → Bool
is_rising [] = true
is_rising (stamp ∷ others) = is_below_first stamp others && is_rising others

-- a list as it is sent: short, and in order
pub record IsStampList (stamps : List Timestamp) : Type 0 where
  pub few : length stamps ≤ MAX_STAMPS
  pub rising : IsTrue (is_rising stamps)
