-- Timestamps: a sequence number and a client, ordered by the number and then by the client.
use Rattle.std.specs.Prelude.{ℕ, ◌+◌, ◌<◌, ◌^◌, Bool, ◌&&◌, ◌||◌, ◌==◌, Option, Some, None, nat_lt, if◌then◌else◌}
use Rattle.std.specs.declared.cmp.Ordering.{Ordering}
use Rattle.std.specs.Ordering.{nat_cmp, ordering_then}
use Rattle.hy_base.specs.declared.limits.TheConstants.{SN_END}

-- a timestamp
pub record Timestamp : Type 0 where
  pub sn : ℕ
  pub cid : ℕ

-- the timestamp with this sequence number, which has an end
abbrev pub stamp_of : ℕ → ℕ → Option Timestamp
stamp_of sn cid = if nat_lt sn SN_END then Some (record { sn = sn; cid = cid }) else None

-- the timestamp of a client's write upon a record of this one
abbrev pub next_stamp : Timestamp → ℕ → Option Timestamp
next_stamp stamp cid = stamp_of (stamp.sn + 1) cid

-- by the sequence number, and then by the client
abbrev pub stamp_cmp : Timestamp → Timestamp → Ordering
stamp_cmp a b = ordering_then (nat_cmp a.sn b.sn) (nat_cmp a.cid b.cid)

-- the first is below the second
unfoldable pub stamp_lt : Timestamp → Timestamp → Bool
stamp_lt a b = nat_lt a.sn b.sn || (a.sn == b.sn && nat_lt a.cid b.cid)

-- the two are one
unfoldable pub stamp_eq : Timestamp → Timestamp → Bool
stamp_eq a b = a.sn == b.sn && a.cid == b.cid

-- the numbers of a timestamp are in range
pub record IsStamp (stamp : Timestamp) : Type 0 where
  pub number : stamp.sn < SN_END
  pub client : stamp.cid < 2 ^ 32

-- a timestamp that a write has: neither number is zero
pub record IsWritten (stamp : Timestamp) : Type 0 where
  pub number : 0 < stamp.sn
  pub client : 0 < stamp.cid
