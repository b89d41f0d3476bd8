-- The operations of a key in order are a linearization of a register.
use Rattle.std.proofs.Common.{◌≡◌, ◌≢◌, ◌+◌, ◌≤◌, ◌<◌, ℕ, true, false, List, [], ◌∷◌, map, Option, Some, None, refl, sym, ap, subst, ◌∙◌, inl, inr, arith}
use Rattle.std.specs.Prelude.{◌||◌, ◌==◌, ◌⊎◌, nat_lt}
use Rattle.std.proofs.lemmas.Option.{none-some, same_Some}
use Rattle.std.proofs.lemmas.Bool.Decides.{nat_tests}
use Rattle.hy_record.specs.declared.action.Action.TheVariants as asked
use Rattle.hy_order.specs.Linearization.{Register, no_register, written_stamp, is_changed, IsStampOf, FindsStamp, TellsValue}
use Rattle.hy_protocol.specs.Progress.{Progress}
use Rattle.hy_trace.specs.Order.{changed_reply_mark, changed_mark}
use Rattle.std.specs.List.{AllByRecursion, filter_map, cons_option}
use Rattle.std.proofs.lemmas.Bool.{false≢true, both_ways, eqb-true, eqb-false, ltb-true}
use Rattle.hy_record.specs.declared.action.Action.{Action}
use Rattle.hy_record.specs.declared.action.Reply.{Reply}
use Rattle.hy_record.specs.declared.action.Reply.TheVariants as told
use Rattle.hy_record.specs.Stamp.{Timestamp, stamp_lt}
use Rattle.hy_base.specs.Shape.{IsShape}
use Rattle.hy_record.specs.Key.{key_eq}
use Rattle.hy_record.proofs.Order.{key_eq-same, stamp_le-lt, stamp_lt-same, stamp_lt-other, stamp_lt-neither, stamp_eq-true}
use Rattle.hy_meta.proofs.Rising.{cases_bool}
use Rattle.hy_protocol.specs.Write.{own_stamp}
use Rattle.hy_protocol.specs.Read.{read_reply}
use Rattle.hy_order.specs.declared.operation.End.{End}
use Rattle.hy_order.specs.declared.operation.End.TheVariants.{Replied}
use Rattle.hy_order.specs.declared.operation.Operation.{Operation}
use Rattle.hy_order.specs.Linearization.{register_after, TellsRegister, ReadsRegister, RespectsRealTime}
use Rattle.hy_protocol.specs.Progress.{progress_of}
use Rattle.hy_trace.specs.Points.{write_point}
use Rattle.hy_trace.specs.Order.{Mark, is_behind, insert_mark, sorted_marks}
use Rattle.hy_trace.specs.Deeds.{Params, Deed, Start, served, inputs_of, start_of}
use Rattle.hy_protocol.specs.Operations.{key_of, write_plan, replied}
use Rattle.hy_trace.specs.Trace.{IsTrace}
use Rattle.hy_trace.specs.Points.{was_applied}
use Rattle.hy_theorems.specs.Writing.{Change, Puts, Deletes, Swaps, change_value, change_expected, change_action}
use Rattle.hy_theorems.proofs.Numbers.{le-number, lt-number, AreNext, numbers-differ}
use Rattle.hy_theorems.proofs.Invariant.{trace-holds, by-means, cells-next}
use Rattle.hy_theorems.proofs.TopAt.{top_at}
use Rattle.hy_theorems.proofs.Overwritten.{applied-was, at-applied}
use Rattle.hy_theorems.proofs.Verdicts.{applied-unchanged}
use Rattle.hy_theorems.proofs.Cells.{CellWrite, cell-write, cell-change}
use Rattle.hy_meta.proofs.Lasting.{applied-tried}
use Rattle.hy_trace.specs.History.{Return, return_of, Begun, begun_of, end_of, operation_of}
use Rattle.hy_trace.specs.Order.{is_done_return, write_mark, mark_by, mark_of, marks_of}
use Rattle.hy_trace.proofs.Growth.{top, start-same}
use Rattle.hy_theorems.proofs.Writes.{update-own}
use Rattle.hy_theorems.proofs.Replies.{is_read_reply}
use Rattle.hy_theorems.proofs.Apart.{own-above}
use Rattle.hy_theorems.proofs.Values.{IsCollisionFree}
use Rattle.hy_theorems.proofs.Told.{ArePutBytes, IsServedWrite, IsFound, TellsFound, read-tells}
use Rattle.hy_theorems.proofs.RealTime.{return-reply, stamp_of_reply}
use Rattle.hy_theorems.proofs.Ordering.{AreInTime, AreApart, InTime, Differs, all-each, all-inserted, all-sorted, sorted-ordered, ordered-real_time, op_of, Before, before-parts, IsLeft, IsMark, IsOver, IsFree, IsClear, AreClear, sought, sought-write, sought-read, expected_by, Found, Finds, IsAbove, ordered-reads}
use Rattle.hy_theorems.proofs.Meaning.{or-true, IsUpdating, WasStamp}
use Rattle.hy_theorems.proofs.Writes.{key_of-write}
use Rattle.hy_trace.proofs.Growth.{zero_stamp, zero-least}
use Rattle.hy_theorems.proofs.Beginnings.{AreOthers, begun-are, IsAmongBegun, begun, begun-in}
use Rattle.hy_theorems.proofs.Marks.{behind-lt, as-read, RepliesWrite, IsWriteMark, IsGetMark, IsChangedMark, IsReadMark, IsMarkOf, mark-is, mark-replied, mark-writing, in-time, marks-differ}

pub picked : {A B : Type 0} (f : A → Option B) (Q : A → Type 0) (P : B → Type 0) (xs : List A) → ((a : A) (b : B) → Q a → f a ≡ Some b → P b) → AllByRecursion Q xs → AllByRecursion P (filter_map f xs)
picked f Q P [] each all = tt
picked f Q P (x ∷ xs) each all = by_first (f x) refl (filter_map f xs) (picked f Q P xs each all.1)
  where
    by_first : (o : Option _) → f x ≡ o → (rest : List _) → AllByRecursion P rest → AllByRecursion P (cons_option o rest)
    by_first None is others rest = rest
    by_first (Some b) is others rest = (each x b all.0 is, rest)

-- two marks apart stay apart in order
differs-back : (m n : Mark) → Differs m n → Differs n m
differs-back m n differs zero_ zero__ same = differs zero__ zero_ (sym same)

apart-inserted : (m : Mark) (ms : List Mark) → AllByRecursion (Differs m) ms → AreApart ms → AreApart (insert_mark is_behind m ms)
unfolding insert_mark
apart-inserted m [] one all = (tt, tt)
apart-inserted m (first ∷ others) one all =
    elim (cases_bool (is_behind m first)) [
      | inl behind ↦ rw behind (all-inserted (Differs first) m others (differs-back m first one.0) all.0, apart-inserted m others one.1 all.1)
      | inr before ↦ rw before (one, all)
    ]

pub apart-sorted : (ms : List Mark) → AreApart ms → AreApart (sorted_marks is_behind ms)
unfolding sorted_marks
apart-sorted [] apart = tt
apart-sorted (m ∷ ms) apart = apart-inserted m (sorted_marks is_behind ms) (all-sorted (Differs m) ms apart.0) (apart-sorted ms apart.1)

-- of all pairs, those of a mark and a later one
later-pairs : (ms : List Mark) → AllByRecursion (λ a. AllByRecursion (InTime a) ms) ms → AreInTime ms
later-pairs [] all = tt
later-pairs (m ∷ ms) all = (all.0.1, later-pairs ms (all-each (λ a. AllByRecursion (InTime a) (m ∷ ms)) (λ a. AllByRecursion (InTime a) ms) ms (λ a h. h.1) all.1))

-- a mark of a write of this timestamp, which leaves this
abbrev pub Leaves : Mark → Timestamp → Register → Type 0
Leaves m stamp held = (m.reads ≡ 0) × (m.stamp ≡ stamp) × ((g : Register) → register_after m.op.action m.op.end g ≡ held)

left-picked : (f : Begun → Option Mark) (ops : List Begun) (b : Begun) (m : Mark) (stamp : Timestamp) (held : Register) → IsAmongBegun ops b → f b ≡ Some m → Leaves m stamp held → IsLeft (filter_map f ops) stamp held
left-picked f [] b m stamp held among is leaves = absurd among
left-picked f (first ∷ others) b m stamp held (inl same) is leaves = rw (ap f same ∙ is) (inl leaves)
left-picked f (first ∷ others) b m stamp held (inr later) is leaves = by_first (f first) (filter_map f others) (left-picked f others b m stamp held later is leaves)
  where
    by_first : (o : Option Mark) (rest : List Mark) → IsLeft rest stamp held → IsLeft (cons_option o rest) stamp held
    by_first None rest left = left
    by_first (Some x) rest left = inr left

left-inserted : (m : Mark) (ms : List Mark) (stamp : Timestamp) (held : Register) → Leaves m stamp held ⊎ IsLeft ms stamp held → IsLeft (insert_mark is_behind m ms) stamp held
unfolding insert_mark
left-inserted m [] stamp held (inl leaves) = inl leaves
left-inserted m [] stamp held (inr left) = absurd left
left-inserted m (first ∷ others) stamp held which =
    elim (cases_bool (is_behind m first)) [
      | inr before ↦ rw before (at_front which)
      | inl behind ↦ rw behind (further which (λ (w : Leaves m stamp held ⊎ IsLeft others stamp held). left-inserted m others stamp held w))
    ]
  where
    at_front : Leaves m stamp held ⊎ IsLeft (first ∷ others) stamp held → IsLeft (m ∷ first ∷ others) stamp held
    at_front (inl leaves) = inl leaves
    at_front (inr left) = inr left

    further : Leaves m stamp held ⊎ IsLeft (first ∷ others) stamp held → (Leaves m stamp held ⊎ IsLeft others stamp held → IsLeft (insert_mark is_behind m others) stamp held) → IsLeft (first ∷ insert_mark is_behind m others) stamp held
    further (inl leaves) rest = inr (rest (inl leaves))
    further (inr (inl is)) rest = inl is
    further (inr (inr later)) rest = inr (rest (inr later))

left-sorted : (ms : List Mark) (stamp : Timestamp) (held : Register) → IsLeft ms stamp held → IsLeft (sorted_marks is_behind ms) stamp held
unfolding sorted_marks
left-sorted [] stamp held left = left
left-sorted (m ∷ ms) stamp held (inl is) = left-inserted m (sorted_marks is_behind ms) stamp held (inl is)
left-sorted (m ∷ ms) stamp held (inr later) = left-inserted m (sorted_marks is_behind ms) stamp held (inr (left-sorted ms stamp held later))

pub all-pairs : {A : Type 0} (P Q : A → Type 0) (xs : List A) → AllByRecursion P xs → AllByRecursion Q xs → AllByRecursion (λ a. P a × Q a) xs
all-pairs P Q [] x y = tt
all-pairs P Q (a ∷ as_) x y = ((x.0, y.0), all-pairs P Q as_ x.1 y.1)

-- what a write leaves, by how it ended
left-by : Change → End → Register
left-by change end = record { value = change_value change; stamp = written_stamp end }

writes-leave : (key : List ℕ) (change : Change) (end : End) (g : Register) → is_changed end ≡ false → register_after (change_action key change) end g ≡ left-by change end
unfolding left-by
writes-leave key (Puts v) end g plain = refl
writes-leave key Deletes end g plain = refl
writes-leave key (Swaps e v) end g plain = rw plain refl

-- the end of a write: pending, or with its timestamp
plain-end : (x : Timestamp) (reply : Reply) (at : ℕ) → RepliesWrite x reply → (is_changed (Replied at reply) ≡ false) × IsStampOf (written_stamp (Replied at reply)) x
plain-end x reply at (inl done) = subst (λ (y : Reply). (is_changed (Replied at y) ≡ false) × IsStampOf (written_stamp (Replied at y)) x) done (refl, refl)
plain-end x reply at (inr swapped) = subst (λ (y : Reply). (is_changed (Replied at y) ≡ false) × IsStampOf (written_stamp (Replied at y)) x) swapped (refl, refl)

-- a put or a delete tells nothing, and a swap the timestamp that it expects
plain-tells : (key : List ℕ) (change : Change) (x : Timestamp) (reply : Reply) (at : ℕ) (g : Register) → change_expected change ≡ None → RepliesWrite x reply → TellsRegister g (change_action key change) (Replied at reply)
plain-tells key (Puts v) x reply at g free (inl done) = subst (λ (y : Reply). TellsValue g (Replied at y)) done tt
plain-tells key (Puts v) x reply at g free (inr swapped) = subst (λ (y : Reply). TellsValue g (Replied at y)) swapped tt
plain-tells key Deletes x reply at g free (inl done) = subst (λ (y : Reply). TellsValue g (Replied at y)) done tt
plain-tells key Deletes x reply at g free (inr swapped) = subst (λ (y : Reply). TellsValue g (Replied at y)) swapped tt
plain-tells key (Swaps e v) x reply at g free which = absurd (none-some e (sym free))

pending-tells : (key : List ℕ) (change : Change) (g : Register) (progress : Progress) → change_expected change ≡ None → TellsRegister g (change_action key change) (end_of None progress)
pending-tells key (Puts v) g progress free = tt
pending-tells key Deletes g progress free = tt
pending-tells key (Swaps e v) g progress free = absurd (none-some e (sym free))

swap-tells : (g : Register) (e x : Timestamp) (reply : Reply) (at : ℕ) → IsStampOf g.stamp e → RepliesWrite x reply → FindsStamp g e (Replied at reply)
swap-tells g e x reply at is (inl done) = subst (λ (y : Reply). FindsStamp g e (Replied at y)) done tt
swap-tells g e x reply at is (inr swapped) = subst (λ (y : Reply). FindsStamp g e (Replied at y)) swapped is

-- the order of a key's operations is a linearization
module _ (p : Params) (t : List Deed) (trace : IsTrace p t) (key : List ℕ) where
  abbrev pub Is : Mark → Type 0
  Is m = (b : Begun) × IsMarkOf p t trace key b m

  abbrev pub marks : List Mark
  marks = marks_of p t key

  marks-are : AllByRecursion Is marks
  marks-are = picked (mark_of p t key) (λ b. start_of b.client b.op t ≡ Some b.start) Is (begun_of t) (λ b m began is. (b, mark-is p t trace key b m began is)) (begun-are p t trace).0

  pub sorted-are : AllByRecursion Is (sorted_marks is_behind marks)
  sorted-are = all-sorted Is marks marks-are

  pub real-time : RespectsRealTime (map op_of (sorted_marks is_behind marks))
  real-time =
      ordered-real_time (sorted_marks is_behind marks) (sorted-ordered marks)
      (later-pairs (sorted_marks is_behind marks) (all-each Is (λ m. AllByRecursion (InTime m) (sorted_marks is_behind marks)) (sorted_marks is_behind marks)
      (λ m a. all-each Is (InTime m) (sorted_marks is_behind marks) (λ n b. in-time p t trace key a.0 b.0 m n a.1 b.1) sorted-are) sorted-are))

  picked-apart : (ops : List Begun) → AllByRecursion (λ b. start_of b.client b.op t ≡ Some b.start) ops → AreOthers ops → AreApart (filter_map (mark_of p t key) ops)
  picked-apart [] began others = tt
  picked-apart (b ∷ ops) began others = by_first (mark_of p t key b) refl (picked-apart ops began.1 others.1)
    where
      by_first : (o : Option Mark) → mark_of p t key b ≡ o → AreApart (filter_map (mark_of p t key) ops) → AreApart (cons_option o (filter_map (mark_of p t key) ops))
      by_first None is rest = rest
      by_first (Some m) is rest =
          let here = mark-is p t trace key b m began.0 is in
          let both_ : AllByRecursion (λ a. (start_of a.client a.op t ≡ Some a.start) × ((b.client ≡ a.client) × (b.op ≡ a.op) → ⊥)) ops = all-pairs (λ a. start_of a.client a.op t ≡ Some a.start) (λ a. (b.client ≡ a.client) × (b.op ≡ a.op) → ⊥) ops began.1 others.0 in (
            picked (mark_of p t key) (λ a. (start_of a.client a.op t ≡ Some a.start) × ((b.client ≡ a.client) × (b.op ≡ a.op) → ⊥)) (Differs m) ops
                (λ a n known other. marks-differ p t trace key b a m n here (mark-is p t trace key a n known.0 other) known.1) both_,
            rest,
          )

  -- the end of a write that is listed
  end-is : (b : Begun) (m : Mark) → IsMarkOf p t trace key b m → m.op.end ≡ end_of (return_of p b.client b.op t) (progress_of p.f p.k b.client b.op b.start.action (inputs_of b.client b.op t))
  end-is b m of = ap (λ (x : Operation). x.end) of.op_is

  action-is : (b : Begun) (m : Mark) → IsMarkOf p t trace key b m → m.op.action ≡ b.start.action
  action-is b m of = ap (λ (x : Operation). x.action) of.op_is

  write-end : (b : Begun) (m : Mark) → (of : IsMarkOf p t trace key b m) → IsWriteMark p t trace key b m → (is_changed m.op.end ≡ false) × IsStampOf (written_stamp m.op.end) m.stamp
  write-end b m of w = subst (λ (x : End). (is_changed x ≡ false) × IsStampOf (written_stamp x) m.stamp) (sym (end-is b m of)) (by_return (return_of p b.client b.op t) refl)
    where
      progress : Progress
      progress = progress_of p.f p.k b.client b.op b.start.action (inputs_of b.client b.op t)

      by_return : (o : Option Return) → return_of p b.client b.op t ≡ o → (is_changed (end_of o progress) ≡ false) × IsStampOf (written_stamp (end_of o progress)) m.stamp
      by_return None is = (refl, tt)
      by_return (Some r) is = plain-end m.stamp r.reply r.at (mark-replied p t trace key b m r of w is)

  -- a write whose update was applied has a mark
  write-marked : (b : Begun) (change : Change) (x : Timestamp) → start_of b.client b.op t ≡ Some b.start → b.start.action ≡ change_action key change → was_applied (served t) b.client b.op ≡ true → own_stamp (write_plan p.f p.k b.client b.op key (change_value change)) (inputs_of b.client b.op t) ≡ Some x →
      mark_of p t key b ≡ Some (record { op = operation_of p t b; stamp = x; reads = 0; point = write_point b.client b.op t })
  unfolding mark_of
  write-marked b change x began action applied own =
      let of_key : key_eq (key_of b.start.action) key ≡ true = ap (λ (k : List ℕ). key_eq k key) (ap key_of action ∙ key_of-write key change) ∙ key_eq-same key in
      let listed : (is_done_return (return_of p b.client b.op t) || was_applied (served t) b.client b.op) ≡ true = or-true (is_done_return (return_of p b.client b.op t)) (was_applied (served t) b.client b.op) applied in
      let marked : write_mark p t b key (change_value change) ≡ Some (record { op = operation_of p t b; stamp = x; reads = 0; point = write_point b.client b.op t }) = rw (listed, own) refl in
      rw of_key (ap (mark_by p t b) action ∙ by_change change action marked)
    where
      unchanged : (e : Timestamp) (v : List ℕ) → b.start.action ≡ asked.Swap key e v → (o : Option Return) → return_of p b.client b.op t ≡ o → changed_mark p t b o ≡ None
      unchanged e v action_ None returned = refl
      unchanged e v action_ (Some r) returned = by_reply r.reply refl
        where
          by_reply : (reply : Reply) → r.reply ≡ reply → changed_reply_mark p t b reply ≡ None
          by_reply (told.Changed s) is = absurd (applied-unchanged p b.client b.op key e v t b.start r s trace began action_ returned is applied)
          by_reply (told.Swapped s) is = refl
          by_reply (told.Done s) is = refl
          by_reply (told.Exhausted s) is = refl
          by_reply (told.Collected n) is = refl
          by_reply (told.Value w s) is = refl
          by_reply (told.Absent s) is = refl

      by_change : (c : Change) → b.start.action ≡ change_action key c → {y : Option Mark} → write_mark p t b key (change_value c) ≡ y → mark_by p t b (change_action key c) ≡ y
      by_change (Puts v) action_ is = is
      by_change Deletes action_ is = is
      by_change (Swaps e v) action_ is = rw (unchanged e v action_ (return_of p b.client b.op t) refl) is

  -- what is left of a write that was served, among the marks
  pub record LeftWrite (value : Option (List ℕ)) (x : Timestamp) : Type 0 where
    pub held : Register
    pub value_is : held.value ≡ value
    pub stamp_is : IsStampOf held.stamp x
    pub left : IsLeft (sorted_marks is_behind marks) x held

  found-left : (value : Option (List ℕ)) (x : Timestamp) (c n : ℕ) → IsServedWrite p c n key value x t → LeftWrite value x
  unfolding left-by
  found-left value x c n w =
      let u = w.updating in
      let b = begun c n u.start in
      let own : own_stamp (write_plan p.f p.k c n key (change_value u.change)) (inputs_of c n t) ≡ Some w.attempt.rec.stamp = update-own (write_plan p.f p.k c n key (change_value u.change)) (inputs_of c n t) w.attempt.rec u.update in
      let applied : was_applied (served t) c n ≡ true = subst (λ (y : ℕ). was_applied (served t) y n ≡ true) w.by.0 (subst (λ (y : ℕ). was_applied (served t) w.attempt.client y ≡ true) w.by.1 (applied-was (served t) w.attempt w.applied)) in
      let m : Mark = record { op = operation_of p t b; stamp = w.attempt.rec.stamp; reads = 0; point = write_point c n t } in
      let is : mark_of p t key b ≡ Some m = write-marked b u.change w.attempt.rec.stamp u.began u.action_is applied own in
      let of = mark-is p t trace key b m u.began is in
      let end = by_sort b m of refl of.sort in
      let leaves : (g : Register) → register_after m.op.action m.op.end g ≡ left-by u.change m.op.end = λ g. ap (λ (y : Action). register_after y m.op.end g) u.action_is ∙ writes-leave key u.change m.op.end g end.0 in
      record {
        held = left-by u.change m.op.end;
        value_is = w.value_is;
        stamp_is = subst (λ (y : Timestamp). IsStampOf (written_stamp m.op.end) y) w.stamp_is end.1;
        left = subst (λ (y : Timestamp). IsLeft (sorted_marks is_behind marks) y (left-by u.change m.op.end)) w.stamp_is
            (left-sorted marks m.stamp (left-by u.change m.op.end) (left-picked (mark_of p t key) (begun_of t) b m m.stamp (left-by u.change m.op.end) (begun-in c n t u.start u.began) is (refl, refl, leaves)));
      }
    where
      by_sort : (b : Begun) (m : Mark) → (of : IsMarkOf p t trace key b m) → m.reads ≡ 0 → IsWriteMark p t trace key b m ⊎ IsReadMark p t trace key b m → (is_changed m.op.end ≡ false) × IsStampOf (written_stamp m.op.end) m.stamp
      by_sort b m of zero_ (inl write) = write-end b m of write
      by_sort b m of zero_ (inr read) = (let k = read.reads_is in absurd (omega (arith, k, zero_)))

  -- where the record had a timestamp, a write left it, or nothing was written
  pub record LeftAt (x : Timestamp) : Type 0 where
    pub held : Register
    pub stamp_is : IsStampOf held.stamp x
    pub found : ((x ≡ zero_stamp) × (held ≡ no_register)) ⊎ IsLeft (sorted_marks is_behind marks) x held

  left-at : (x : Timestamp) (n : ℕ) → top_at t key n ≡ x → LeftAt x
  left-at x n is =
      elim (cases_bool (stamp_lt zero_stamp x)) [
        | inr not_above ↦ (let same : zero_stamp ≡ x = stamp_eq-true zero_stamp x (stamp_lt-neither zero_stamp x not_above (zero-least x)) in record { held = no_register; stamp_is = same; found = inl (sym same, refl) })
        | inl above ↦
            let a = at-applied t key n x is above in
            let u : IsUpdating p a.0.client a.0.op key a.0.expected a.0.rec t = by-means p t a.0 a.0.client a.0.op key trace (trace-holds p t trace) (applied-tried (served t) a.0 a.1) (refl, refl, a.2) in
            let left = found-left (change_value u.change) x a.0.client a.0.op (record { attempt = a.0; applied = a.1; by = (refl, refl, a.2); updating = u; value_is = refl; stamp_is = a.3 }) in
            record { held = left.held; stamp_is = left.stamp_is; found = inr left.left }
      ]

  -- what a write that is listed seeks
  write-sought : (b : Begun) (m : Mark) → (of : IsMarkOf p t trace key b m) → (w : IsWriteMark p t trace key b m) → sought m ≡ change_expected w.change
  write-sought b m of w = sought-write m w.reads_is ∙ (ap expected_by (action-is b m of ∙ w.action_is) ∙ of_change w.change)
    where
      of_change : (change : Change) → expected_by (change_action key change) ≡ change_expected change
      of_change (Puts v) = refl
      of_change Deletes = refl
      of_change (Swaps e v) = refl

  swap-of : (change : Change) (x : Timestamp) → change_expected change ≡ Some x → (v : List ℕ) × (change ≡ Swaps x v)
  swap-of (Puts v) x is = absurd (none-some x is)
  swap-of Deletes x is = absurd (none-some x is)
  swap-of (Swaps e v) x is = (v, ap (λ (y : Timestamp). Swaps y v) (same_Some e x is))

  seeks-cell : (b : Begun) (m : Mark) → (of : IsMarkOf p t trace key b m) → (w : IsWriteMark p t trace key b m) → (x : Timestamp) → sought m ≡ Some x → (v : List ℕ) × (w.change ≡ Swaps x v) × CellWrite t key m x
  seeks-cell b m of w x seeks =
      let s = swap-of w.change x (sym (write-sought b m of w) ∙ seeks) in
      (s.0, s.1, cell-write p t trace key b m of w x s.0 s.1)

  mark-kind : (m : Mark) → Is m → IsMark m
  mark-kind m mark =
      elim mark.1.sort [
        | inl write ↦ inl write.reads_is
        | inr read ↦ inr (read.reads_is, λ g. keeps g mark.0 read mark.1)
      ]
    where
      keeps : (g : Register) (b : Begun) → IsReadMark p t trace key b m → IsMarkOf p t trace key b m → register_after m.op.action m.op.end g ≡ g
      keeps g b read of =
          elim read.kind [
            | inl get ↦ ap (λ (x : Action). register_after x m.op.end g) (action-is b m of ∙ get.action_is)
            | inr changed ↦
                let end : m.op.end ≡ Replied read.ret.at (told.Changed m.stamp) = end-is b m of ∙ (ap (λ (o : Option Return). end_of o (progress_of p.f p.k b.client b.op b.start.action (inputs_of b.client b.op t))) read.returned ∙ ap (λ (x : Reply). Replied read.ret.at x) changed.reply_is) in
                ap (λ (x : Action). register_after x m.op.end g) (action-is b m of ∙ changed.action_is) ∙ ap (λ (x : End). register_after (asked.Swap key changed.expected changed.value) x g) end
          ]

  mark-over : (m : Mark) → Is m → IsOver m
  mark-over m mark reads x seeks =
      elim mark.1.sort [
        | inr read ↦ (let k = read.reads_is in absurd (omega (arith, k, reads)))
        | inl write ↦ (let cell = (seeks-cell mark.0 m mark.1 write x seeks).2 in let number = cell.number in lt-number x m.stamp (omega (arith, number)))
      ]

  mark-free : (m : Mark) → Is m → IsFree m
  mark-free m mark none g =
      elim mark.1.sort [
        | inr read ↦ absurd (none-some m.stamp (sym none ∙ sought-read m read.reads_is))
        | inl write ↦
            let b = mark.0 in
            let free : change_expected write.change ≡ None = sym (write-sought b m mark.1 write) ∙ none in
            subst (λ (x : Action). TellsRegister g x m.op.end) (sym (action-is b m mark.1 ∙ write.action_is)) (subst (λ (x : End). TellsRegister g (change_action key write.change) x) (sym (end-is b m mark.1)) (by_return b write mark.1 free (return_of p b.client b.op t) refl))
      ]
    where
      by_return : (b : Begun) (w : IsWriteMark p t trace key b m) → IsMarkOf p t trace key b m → change_expected w.change ≡ None → (o : Option Return) → return_of p b.client b.op t ≡ o → TellsRegister g (change_action key w.change) (end_of o (progress_of p.f p.k b.client b.op b.start.action (inputs_of b.client b.op t)))
      by_return b w of free None is = pending-tells key w.change g _ free
      by_return b w of free (Some r) is = plain-tells key w.change m.stamp r.reply r.at g free (mark-replied p t trace key b m r of w is)

  above-zero : (m : Mark) → Is m → IsAbove zero_stamp m
  above-zero m mark reads =
      elim mark.1.sort [
        | inr read ↦ (let k = read.reads_is in absurd (omega (arith, k, reads)))
        | inl write ↦ stamp_le-lt zero_stamp (top mark.0.start.before key) m.stamp (zero-least (top mark.0.start.before key)) (own-above p t mark.0.client mark.0.op key m.stamp trace (mark-writing p t trace key mark.0 m mark.1 write)).0
      ]

  -- no write of the key has a timestamp between the one that a swap expects and its own
  between : (x : Timestamp) (a b : Mark) → CellWrite t key b x → WasStamp (served t) key a.stamp → stamp_lt x a.stamp ≡ true → Before a b → a.stamp ≢ b.stamp → ⊥
  between x a b cell was below before apart =
      let next : AreNext (served t) key = cells-next p t trace (trace-holds p t trace) key cell.cell in
      let parts = before-parts a b before in
      let high = parts.sn in
      let number = cell.number in
      let low = le-number x a.stamp (stamp_lt-other x a.stamp below) in
      elim (cases_bool (a.stamp.sn == x.sn)) [
        | inl same ↦
            let one : a.stamp ≡ x = numbers-differ (served t) key a.stamp x next was cell.seen (eqb-true a.stamp.sn x.sn same) in
            both_ways (stamp_lt x x) (stamp_lt-same x) (subst (λ (y : Timestamp). stamp_lt x y ≡ true) one below)
        | inr other ↦
            let differ = eqb-false a.stamp.sn x.sn other in
            let level : a.stamp.sn ≡ b.stamp.sn = level_at a.stamp.sn x.sn b.stamp.sn low high number differ in
            apart (numbers-differ (served t) key a.stamp b.stamp next was cell.was level)
      ]
    where
      level_at : (a x b : ℕ) → x ≤ a → a ≤ b → b ≡ x + 1 → (a ≡ x → ⊥) → a ≡ b
      level_at a x b low high next differ =
          elim (cases_bool (a == x)) [
            | inl same ↦ absurd (differ (eqb-true a x same))
            | inr other ↦ (let less : x < a = strict a x low differ in omega (arith, less, high, next))
          ]
        where
          strict : (a x : ℕ) → x ≤ a → (a ≡ x → ⊥) → x < a
          strict a x low differ = elim (cases_bool (nat_lt x a)) [ inl less ↦ ltb-true x a less | inr not_less ↦ absurd (differ (grind (arith, nat_tests))) ]

  mark-clear : (a b : Mark) → Is a → Is b → IsClear a b
  mark-clear a b first second reads x seeks below before apart =
      elim second.1.sort [
        | inr read ↦
            let same : b.stamp ≡ x = same_Some b.stamp x (sym (sought-read b read.reads_is) ∙ seeks) in
            both_ways (is_behind a b) before (behind-lt a b (subst (λ (y : Timestamp). stamp_lt y a.stamp ≡ true) (sym same) below))
        | inl write ↦
            let cell = (seeks-cell second.0 b second.1 write x seeks).2 in
            elim first.1.sort [
              | inr other ↦ (let k = other.reads_is in omega (arith, k, reads))
              | inl front ↦
                  let change = cell-change p t trace key first.0 front.change cell.cell first.1.began front.action_is in
                  let mine = cell-write p t trace key first.0 a first.1 front change.0 change.1 change.2 in
                  between x a b cell mine.was below before (apart write.reads_is)
            ]
      ]

  all-clear : (ms : List Mark) → AllByRecursion Is ms → AreClear ms
  all-clear [] all = tt
  all-clear (m ∷ ms) all = (all-each Is (IsClear m) ms (λ n is. mark-clear m n all.0 is) all.1, all-clear ms all.1)

  module _ (shape : IsShape p.f p.k) (free : IsCollisionFree p t) (bytes_only : ArePutBytes t) where
    by-found : (value : Option (List ℕ)) (x : Timestamp) (m : Mark) → x ≡ m.stamp → ((g : Register) → g.value ≡ value → TellsRegister g m.op.action m.op.end) → IsFound p key value x t → Found zero_stamp no_register (sorted_marks is_behind marks) m m.stamp
    by-found value x m same tells (inl none) = (no_register, tells no_register (sym none.0), inl (sym same ∙ none.1, refl))
    by-found value x m same tells (inr write) =
        let left = found-left value x write.0 write.1 write.2 in
        (left.held, tells left.held left.value_is, inr (subst (λ (y : Timestamp). IsLeft (sorted_marks is_behind marks) y left.held) same left.left))

    by-reply : (m : Mark) (at : ℕ) (reply : Reply) → m.op.action ≡ asked.Get key → m.op.end ≡ Replied at reply → is_read_reply reply ≡ true → stamp_of_reply reply ≡ m.stamp → TellsFound p key reply t → Found zero_stamp no_register (sorted_marks is_behind marks) m m.stamp
    by-reply m at (told.Value v s) action end_is finished same found = by-found (Some v) s m same (λ g value. subst (λ (a : Action). TellsRegister g a m.op.end) (sym action) (subst (λ (e : End). TellsValue g e) (sym end_is) value)) found
    by-reply m at (told.Absent s) action end_is finished same found = by-found None s m same (λ g value. subst (λ (a : Action). TellsRegister g a m.op.end) (sym action) (subst (λ (e : End). TellsValue g e) (sym end_is) value)) found
    by-reply m at (told.Done s) action end_is finished same found = absurd (false≢true finished)
    by-reply m at (told.Exhausted s) action end_is finished same found = absurd (false≢true finished)
    by-reply m at (told.Collected n) action end_is finished same found = absurd (false≢true finished)
    by-reply m at (told.Swapped s) action end_is finished same found = absurd (false≢true finished)
    by-reply m at (told.Changed s) action end_is finished same found = absurd (false≢true finished)

    get-finds : (b : Begun) (m : Mark) → IsMarkOf p t trace key b m → (read : IsReadMark p t trace key b m) → IsGetMark p t trace key b m read.ret → Found zero_stamp no_register (sorted_marks is_behind marks) m m.stamp
    get-finds b m of read get =
        let h = return-reply p b.client b.op t read.ret trace read.returned in
        let same : h.start ≡ b.start = start-same b.client b.op t h.start b.start h.began of.began in
        let replies : read_reply (inputs_of b.client b.op t) ≡ Some read.ret.reply = as-read b.client b.op key (inputs_of b.client b.op t) p ∙ (ap (λ (x : Action). replied p.f p.k b.client b.op x (inputs_of b.client b.op t)) (sym (ap (λ (s : Start). s.action) same ∙ get.action_is)) ∙ h.replies) in
        let end : m.op.end ≡ Replied read.ret.at read.ret.reply = end-is b m of ∙ ap (λ (o : Option Return). end_of o (progress_of p.f p.k b.client b.op b.start.action (inputs_of b.client b.op t))) read.returned in
        by-reply m read.ret.at read.ret.reply (action-is b m of ∙ get.action_is) end get.finished get.stamp_is (read-tells p t trace shape free bytes_only b.client b.op key b.start read.ret.reply of.began of.key_is replies)

    changed-finds : (b : Begun) (m : Mark) → IsMarkOf p t trace key b m → (read : IsReadMark p t trace key b m) → IsChangedMark p t trace key b m read.ret → Found zero_stamp no_register (sorted_marks is_behind marks) m m.stamp
    changed-finds b m of read changed =
        let left = left-at m.stamp m.point.step read.at.here in
        let end : m.op.end ≡ Replied read.ret.at (told.Changed m.stamp) = end-is b m of ∙ (ap (λ (o : Option Return). end_of o (progress_of p.f p.k b.client b.op b.start.action (inputs_of b.client b.op t))) read.returned ∙ ap (λ (x : Reply). Replied read.ret.at x) changed.reply_is) in
        let finds : FindsStamp left.held changed.expected m.op.end = subst (λ (x : End). FindsStamp left.held changed.expected x) (sym end) (changed.other, left.stamp_is) in
        (left.held, subst (λ (a : Action). TellsRegister left.held a m.op.end) (sym (action-is b m of ∙ changed.action_is)) finds, left.found)

    swap-finds : (b : Begun) (m : Mark) → (of : IsMarkOf p t trace key b m) → (w : IsWriteMark p t trace key b m) → (x : Timestamp) → sought m ≡ Some x → Found zero_stamp no_register (sorted_marks is_behind marks) m x
    swap-finds b m of w x seeks =
        let cell = seeks-cell b m of w x seeks in
        let left = left-at x cell.2.step cell.2.before in
        let finds : FindsStamp left.held x m.op.end = subst (λ (y : End). FindsStamp left.held x y) (sym (end-is b m of)) (by_return left.held left.stamp_is (return_of p b.client b.op t) refl) in
        (left.held, subst (λ (a : Action). TellsRegister left.held a m.op.end) (sym (action-is b m of ∙ (w.action_is ∙ ap (change_action key) cell.1))) finds, left.found)
      where
        by_return : (g : Register) → IsStampOf g.stamp x → (o : Option Return) → return_of p b.client b.op t ≡ o → FindsStamp g x (end_of o (progress_of p.f p.k b.client b.op b.start.action (inputs_of b.client b.op t)))
        by_return g is None returned = is
        by_return g is (Some r) returned = swap-tells g x m.stamp r.reply r.at is (mark-replied p t trace key b m r of w returned)

    mark-finds : (m : Mark) → Is m → Finds zero_stamp no_register (sorted_marks is_behind marks) m
    mark-finds m mark x seeks =
        elim mark.1.sort [
          | inl write ↦ swap-finds mark.0 m mark.1 write x seeks
          | inr read ↦ subst (λ (y : Timestamp). Found zero_stamp no_register (sorted_marks is_behind marks) m y) (same_Some m.stamp x (sym (sought-read m read.reads_is) ∙ seeks)) (by_kind read read.kind)
        ]
      where
        by_kind : (read : IsReadMark p t trace key mark.0 m) → IsGetMark p t trace key mark.0 m read.ret ⊎ IsChangedMark p t trace key mark.0 m read.ret → Found zero_stamp no_register (sorted_marks is_behind marks) m m.stamp
        by_kind read (inl get) = get-finds mark.0 m mark.1 read get
        by_kind read (inr changed) = changed-finds mark.0 m mark.1 read changed

    pub reads-register : ReadsRegister no_register (map op_of (sorted_marks is_behind marks))
    reads-register =
        ordered-reads zero_stamp no_register (sorted_marks is_behind marks)
        (all-each Is IsMark (sorted_marks is_behind marks) mark-kind sorted-are)
        (all-each Is IsOver (sorted_marks is_behind marks) mark-over sorted-are)
        (all-each Is IsFree (sorted_marks is_behind marks) mark-free sorted-are)
        (sorted-ordered marks)
        (all-each Is (IsAbove zero_stamp) (sorted_marks is_behind marks) above-zero sorted-are)
        (apart-sorted marks (let is = begun-are p t trace in picked-apart (begun_of t) is.0 is.1))
        (all-clear (sorted_marks is_behind marks) sorted-are)
        (all-each Is (Finds zero_stamp no_register (sorted_marks is_behind marks)) (sorted_marks is_behind marks) mark-finds sorted-are)
