-- The order of a key's operations: each stands at its point.
use Rattle.std.specs.Prelude.{ℕ, Bool, true, false, ◌&&◌, ◌||◌, ◌==◌, not, nat_lt, List, [], ◌∷◌, map, Option, Some, None, if◌then◌else◌}
use Rattle.std.specs.Option.{option_or, option_map}
use Rattle.std.specs.List.{filter_map}
use Rattle.hy_record.specs.declared.action.Action.{Action}
use Rattle.hy_record.specs.declared.action.Action.TheVariants as asked
use Rattle.hy_record.specs.declared.action.Reply.{Reply}
use Rattle.hy_record.specs.declared.action.Reply.TheVariants as told
use Rattle.hy_record.specs.Stamp.{Timestamp, stamp_lt}
use Rattle.hy_record.specs.Key.{key_eq}
use Rattle.hy_protocol.specs.Write.{own_stamp}
use Rattle.hy_protocol.specs.Operations.{key_of, write_plan}
use Rattle.hy_order.specs.declared.operation.Operation.{Operation}
use Rattle.hy_trace.specs.Deeds.{Params, Deed, served, inputs_of}
use Rattle.hy_trace.specs.History.{Return, return_of, Begun, begun_of, operation_of}
use Rattle.hy_trace.specs.Points.{Point, is_earlier, read_point, write_point, changed_point, was_applied}

-- an operation in an order: the timestamp that it wrote or found, whether it reads (0 for a write, 1 for a read), and its point
pub record Mark : Type 0 where
  pub op : Operation
  pub stamp : Timestamp
  pub reads : ℕ
  pub point : Point

-- a put, a delete or a swap that did what was asked
abbrev pub is_done : Reply → Bool
is_done (told.Done s) = true
is_done (told.Swapped s) = true
is_done (told.Changed s) = false
is_done (told.Value v s) = false
is_done (told.Absent s) = false
is_done (told.Exhausted s) = false
is_done (told.Collected n) = false

abbrev pub is_done_return : Option Return → Bool
is_done_return None = false
is_done_return (Some r) = is_done r.reply

-- a put, a delete or a swap is listed where it did what was asked, or its update was applied
abbrev pub write_mark : Params → List Deed → Begun → List ℕ → Option (List ℕ) → Option Mark
write_mark p t b key value =
    if is_done_return (return_of p b.client b.op t) || was_applied (served t) b.client b.op
    then
    option_map (λ stamp. record { op = operation_of p t b; stamp = stamp; reads = 0; point = write_point b.client b.op t })
    (own_stamp (write_plan p.f p.k b.client b.op key value) (inputs_of b.client b.op t))
    else None

-- a read that found this
abbrev pub found_mark : Params → List Deed → Begun → Timestamp → Option Mark
found_mark p t b s = Some (record { op = operation_of p t b; stamp = s; reads = 1; point = read_point b.client b.op t })

abbrev pub reply_mark : Params → List Deed → Begun → Reply → Option Mark
reply_mark p t b (told.Value v s) = found_mark p t b s
reply_mark p t b (told.Absent s) = found_mark p t b s
reply_mark p t b (told.Done s) = None
reply_mark p t b (told.Exhausted s) = None
reply_mark p t b (told.Collected n) = None
reply_mark p t b (told.Swapped s) = None
reply_mark p t b (told.Changed s) = None

-- a get is listed where it finished
abbrev pub read_mark : Params → List Deed → Begun → Option Return → Option Mark
read_mark p t b None = None
read_mark p t b (Some r) = reply_mark p t b r.reply

-- a swap that found another record
abbrev pub changed_reply_mark : Params → List Deed → Begun → Reply → Option Mark
changed_reply_mark p t b (told.Changed s) =
    Some (record { op = operation_of p t b; stamp = s; reads = 1; point = changed_point b.client b.op t })
changed_reply_mark p t b (told.Swapped s) = None
changed_reply_mark p t b (told.Done s) = None
changed_reply_mark p t b (told.Exhausted s) = None
changed_reply_mark p t b (told.Collected n) = None
changed_reply_mark p t b (told.Value v s) = None
changed_reply_mark p t b (told.Absent s) = None

-- it is listed, as a read
abbrev pub changed_mark : Params → List Deed → Begun → Option Return → Option Mark
changed_mark p t b None = None
changed_mark p t b (Some r) = changed_reply_mark p t b r.reply

abbrev pub mark_by : Params → List Deed → Begun → Action → Option Mark
mark_by p t b (asked.Put key value) = write_mark p t b key (Some value)
mark_by p t b (asked.Delete key) = write_mark p t b key None
mark_by p t b (asked.Get key) = read_mark p t b (return_of p b.client b.op t)
mark_by p t b (asked.Collect key) = None
mark_by p t b (asked.Swap key expected value) =
    option_or (changed_mark p t b (return_of p b.client b.op t)) (write_mark p t b key (Some value))

-- the operation in the order of the key, if it is listed there
unfoldable pub mark_of : Params → List Deed → List ℕ → Begun → Option Mark
mark_of p t key b = if key_eq (key_of b.start.action) key then mark_by p t b b.start.action else None

-- the listed operations of the key, the last begun first
abbrev pub marks_of : Params → List Deed → List ℕ → List Mark
marks_of p t key = filter_map (mark_of p t key) (begun_of t)

-- the mark in its place, by which of two comes after the other
unfoldable pub insert_mark : (Mark → Mark → Bool) → Mark → List Mark → List Mark
insert_mark after m [] = m ∷ []
insert_mark after m (first ∷ others) = if after m first then first ∷ insert_mark after m others else m ∷ first ∷ others

-- the marks in order
unfoldable pub sorted_marks : (Mark → Mark → Bool) → List Mark → List Mark
sorted_marks after [] = []
sorted_marks after (m ∷ ms) = insert_mark after m (sorted_marks after ms)

-- the first comes after the second: its point is later, or the same and its timestamp greater
unfoldable pub is_later : Mark → Mark → Bool
is_later a b = is_earlier b.point a.point || (not (is_earlier a.point b.point) && stamp_lt b.stamp a.stamp)

-- the first comes after the second by timestamp; a read comes after the write that it found, and reads of one timestamp stand by their points
unfoldable pub is_behind : Mark → Mark → Bool
is_behind a b =
    nat_lt b.stamp.sn a.stamp.sn
    || (b.stamp.sn == a.stamp.sn && (nat_lt b.stamp.cid a.stamp.cid
    || (b.stamp.cid == a.stamp.cid && (nat_lt b.reads a.reads
    || (b.reads == a.reads && nat_lt b.point.step a.point.step)))))

abbrev pub op_of : Mark → Operation
op_of m = m.op

-- the operations of a key: each at its point, and those of one point by timestamp
abbrev pub operations_in_order : Params → List Deed → List ℕ → List Operation
operations_in_order p t key = map op_of (sorted_marks is_later (marks_of p t key))

-- the same operations by timestamp
abbrev pub operations_by_stamp : Params → List Deed → List ℕ → List Operation
operations_by_stamp p t key = map op_of (sorted_marks is_behind (marks_of p t key))

abbrev pub number_of : Operation → ℕ
number_of op = op.number

-- the order of a key: the numbers of its operations
unfoldable pub linearization_of : Params → List Deed → List ℕ → List ℕ
linearization_of p t key = map number_of (operations_in_order p t key)
