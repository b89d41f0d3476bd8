-- The marks of an atomic log stand where the record of their key passes their timestamps.
use Rattle.std.proofs.Common.{◌≡◌, ℕ, ◌+◌, ◌<◌, ◌≤◌, Bool, true, false, cond, List, take, Option, Some, None, refl, sym, ap, subst, ◌∙◌, inl, inr, arith}
use Rattle.std.specs.Prelude.{◌&&◌, ◌⊎◌}
use Rattle.std.specs.List.{slice_get}
use Rattle.std.proofs.lemmas.Bool.{both_ways, cases_lt}
use Rattle.std.proofs.lemmas.Option.{none-some, same_Some, cond_some}
use Rattle.hy_record.specs.Key.{key_eq}
use Rattle.hy_record.specs.Stamp.{Timestamp, stamp_lt, stamp_eq}
use Rattle.hy_record.proofs.Order.{key_eq-true, stamp_lt-same, stamp_lt-le, stamp_le-lt, stamp_eq-true}
use Rattle.hy_points.specs.declared.mark.Mark.{Mark}
use Rattle.hy_points.specs.declared.point.ActKind.{ActKind}
use Rattle.hy_points.specs.declared.point.ActKind.TheVariants.{Put, Get, Delete, Swap}
use Rattle.hy_points.specs.declared.point.Point.{Point}
use Rattle.hy_points.specs.declared.point.Point.TheVariants.{Begin, Ask, Set, Try, End}
use Rattle.hy_points.specs.declared.telling.Asking.{Asking}
use Rattle.hy_points.specs.declared.telling.Setting.{Setting}
use Rattle.hy_points.specs.declared.telling.Trying.{Trying}
use Rattle.hy_points.specs.Lookups.{Beginning, first_from, beginning, asking, setting, trying, ending, has_ended, is_of_key}
use Rattle.hy_points.specs.Atomic.{IsAtomicLog, AsksOnce, applied_stamp, no_stamp, writes}
use Rattle.hy_points.specs.Marks.{overwriting, overwriting_at, mark_before, write_mark, read_mark, unexpected, swap_mark, operation_mark, point_mark}
use Rattle.hy_points.proofs.Sorting.{cases_bool}
use Rattle.hy_points.proofs.Places.{first-at, first-upto, at-front, begun-there, set-there}
use Rattle.hy_points.proofs.Heights.{Le, le-trans, le-both, IsApplied, height, height-above, height-from, height-rises, height-raised, stays-at}
use Rattle.hy_points.proofs.Swapping.{both-of, HasRead, Wrote}
use Rattle.hy_points.proofs.Courses.{next-above, Reads, Writes, WroteThere, only-begun, has-read, wrote, wrote-there, applied-wrote, read-there, never-both, wrote-ended, own-op, one-by-one}

-- at most, and not the same
below-other : (a b : Timestamp) → Le a b → (a ≡ b → ⊥) → stamp_lt a b ≡ true
below-other a b le other = elim (cases_bool (stamp_lt a b)) [
  | inl less ↦ less
  | inr not_less ↦ absurd (other (le-both a b le not_less))
]

-- where a mark stands
pub record IsPlaced (pick : Point → Option Timestamp) (log : List Point) (m : Mark) : Type 0 where
  pub below : m.reads ≡ false → stamp_lt (height pick log m.place) m.stamp ≡ true
  pub found : m.reads ≡ true → (height pick log m.place ≡ m.stamp) × (m.is_at ≡ true)
  pub here : m.is_at ≡ true → height pick log (m.place + 1) ≡ m.stamp
  pub past : m.is_at ≡ false → stamp_lt m.stamp (height pick log (m.place + 1)) ≡ true

-- the mark of a read that returned
pub record IsReadMark (log : List Point) (begun : Beginning) (m : Mark) : Type 0 where
  pub ask : Asking
  pub by : HasRead log m.op begun.act ask
  pub ended : has_ended log m.op ≡ true
  pub is : m ≡ record { place = ask.place; is_at = true; stamp = ask.found; reads = true; op = m.op }

-- the mark of a write that was applied, or was refused and returned
pub record IsWriteMark (log : List Point) (key : List ℕ) (begun : Beginning) (m : Mark) : Type 0 where
  pub set : Setting
  pub by : Wrote log m.op begun.act set
  pub is : ((set.is_applied ≡ true) × (m ≡ record { place = set.place; is_at = true; stamp = set.stamp; reads = false; op = m.op }))
      ⊎ ((set.is_applied ≡ false) × (has_ended log m.op ≡ true) × (m ≡ mark_before m.op set.stamp (overwriting log key set.stamp)))

-- the mark of an operation of the key
pub record IsMarkOf (log : List Point) (key : List ℕ) (m : Mark) : Type 0 where
  pub begun : Beginning
  pub is_begun : beginning log m.op ≡ Some begun
  pub of_key : begun.key ≡ key
  pub sort : IsReadMark log begun m ⊎ IsWriteMark log key begun m

module _ (log : List Point) (atomic : IsAtomicLog log) (once : AsksOnce log) (key : List ℕ) where
  abbrev own : Point → Option Timestamp
  own = applied_stamp log key

  -- a writing of the key
  pub written : (op : ℕ) (set : Setting) (b : Beginning) → beginning log op ≡ Some b → b.key ≡ key → Wrote log op b.act set → Writes log key op set
  written op set b is of by = subst (λ k. Writes log k op set) of (wrote log atomic once op set b is by)

  pub was-read : (op : ℕ) (ask : Asking) (b : Beginning) → beginning log op ≡ Some b → b.key ≡ key → HasRead log op b.act ask → Reads log key op ask
  was-read op ask b is of by = subst (λ k. Reads log k op ask) of (has-read log atomic once op ask b is by)

  pub applied-there : (op : ℕ) (set : Setting) → Writes log key op set → set.is_applied ≡ true → IsApplied own log set.place set.stamp
  applied-there op set w applied = wrote-there log atomic key op set w.begun w.is_begun w.of_key w.by applied

  -- behind a writing the record is not below its timestamp
  pub written-before : (op : ℕ) (set : Setting) → Writes log key op set → (n : ℕ) → set.place < n → Le set.stamp (height own log n)
  written-before op set w n less = elim (cases_bool set.is_applied) [
    | inl applied ↦ height-above own log n set.place set.stamp less (applied-there op set w applied)
    | inr refused ↦ le-trans set.stamp (height own log set.place) (height own log n) (sym w.applies ∙ refused) (height-rises own log set.place n (omega (arith, less)))
  ]

  -- before the reading of a write the record is below its timestamp
  pub write-above : (op : ℕ) (set : Setting) → (w : Writes log key op set) → (n : ℕ) → n ≤ w.ask.place → stamp_lt (height own log n) set.stamp ≡ true
  write-above op set w n le =
      stamp_le-lt (height own log n) w.ask.found set.stamp
      (subst (λ t. Le (height own log n) t) (sym w.finds) (height-rises own log n w.ask.place le))
      (next-above w.ask.found w.begun.client set.stamp w.next).0

  above-none : (op : ℕ) (set : Setting) → Writes log key op set → stamp_lt no_stamp set.stamp ≡ true
  above-none op set w = (next-above w.ask.found w.begun.client set.stamp w.next).2

  -- a write that returned before another began has a smaller timestamp
  earlier-write : (a b : ℕ) (s t : Setting) → Writes log key a s → (w : Writes log key b t) → (e : ℕ) → ending log a ≡ Some e → e < w.begun.place → stamp_lt s.stamp t.stamp ≡ true
  earlier-write a b s t first second e ended less =
      let after_ = second.after in
      let inside = wrote-ended log atomic a e ended first.begun.act s first.by in
      stamp_le-lt s.stamp (height own log e) t.stamp (written-before a s first e inside) (write-above b t second e (omega (arith, less, after_)))

  -- two writes differ in their timestamps
  pub apart : (a b : ℕ) (s t : Setting) → Writes log key a s → Writes log key b t → (a ≡ b → ⊥) → s.stamp ≡ t.stamp → ⊥
  apart a b s t first second other same =
      elim (cases_lt first.begun.place second.begun.place) [
        | inl less ↦
            let e = one-by-one log atomic a b first.begun second.begun first.is_begun second.is_begun clients less in
            never s.stamp t.stamp same (earlier-write a b s t first second e.0 e.1 e.2)
        | inr past ↦ elim (cases_lt second.begun.place first.begun.place) [
          | inl less ↦
              let e = one-by-one log atomic b a second.begun first.begun second.is_begun first.is_begun (sym clients) less in
              never t.stamp s.stamp (sym same) (earlier-write b a t s second first e.0 e.1 e.2)
          | inr upto ↦
              let at : first.begun.place ≡ second.begun.place = omega (arith, past, upto) in
              let e : Some (Begin a first.begun.client first.begun.key first.begun.act) ≡ Some (Begin b second.begun.client second.begun.key second.begun.act)
              = sym (begun-there log a first.begun first.is_begun) ∙ ap (slice_get log) at ∙ begun-there log b second.begun second.is_begun in
              other (op-of e)
        ]
      ]
    where
      clients : first.begun.client ≡ second.begun.client
      clients = sym (next-above first.ask.found first.begun.client s.stamp first.next).1 ∙ ap (λ (x : Timestamp). x.cid) same ∙ (next-above second.ask.found second.begun.client t.stamp second.next).1

      never : (x y : Timestamp) → x ≡ y → stamp_lt x y ≡ true → ⊥
      never x y e less = both_ways (stamp_lt x x) (stamp_lt-same x) (subst (λ z. stamp_lt x z ≡ true) (sym e) less)

      op-of : {o p c d : ℕ} {k l : List ℕ} {x y : ActKind} → Some (Begin o c k x) ≡ Some (Begin p d l y) → o ≡ p
      op-of e = cc

  -- an operation writes once
  one-writing : (op : ℕ) (s t : Setting) → Writes log key op s → Writes log key op t → s ≡ t
  one-writing op s t first second = by_both first.by second.by
    where
      same : first.begun ≡ second.begun
      same = same_Some first.begun second.begun (sym first.is_begun ∙ second.is_begun)

      never : (a b : ActKind) (found : Timestamp) → writes a ≡ true → a ≡ b → b ≡ Swap found → ⊥
      never a b found is e kind = (let f : writes (Swap found) ≡ true = ap writes (sym kind ∙ sym e) ∙ is in cc)

      by_both : Wrote log op first.begun.act s → Wrote log op second.begun.act t → s ≡ t
      by_both (inl x) (inl y) = same_Some s t (sym x.1 ∙ y.1)
      by_both (inl x) (inr y) = absurd (never first.begun.act second.begun.act y.tried.found x.0 (ap (λ (b : Beginning). b.act) same) y.kind)
      by_both (inr x) (inl y) = absurd (never second.begun.act first.begun.act x.tried.found y.0 (sym (ap (λ (b : Beginning). b.act) same)) x.kind)
      by_both (inr x) (inr y) = x.is ∙ (ap (λ (r : Trying). record { place = r.place; stamp = r.stamp; is_applied = true }) (same_Some x.tried y.tried (sym x.has ∙ y.has)) ∙ sym y.is)

  -- what is applied to a key that is written is a writing
  sets-alone : (op : ℕ) (set : Setting) → setting log op ≡ Some set → is_of_key log key op ≡ true → (place : ℕ) (t : Timestamp) → IsApplied own log place t → (o : ℕ) × (slice_get log place ≡ Some (Set o t true)) × (is_of_key log key o ≡ true)
  sets-alone op set has is place t a = by_wrote (applied-wrote log atomic key place t a)
    where
      by_wrote : (w : WroteThere log atomic key place t) → (o : ℕ) × (slice_get log place ≡ Some (Set o t true)) × (is_of_key log key o ≡ true)
      by_wrote w = elim w.by [
        | inl by ↦ (w.op, set-there log w.op (record { place = place; stamp = t; is_applied = true }) by.1, own-op log atomic key w.op w.begun w.is_begun w.of_key)
        | inr by ↦ absurd (never-both log atomic key op w.op set by.tried has is by.has (own-op log atomic key w.op w.begun w.is_begun w.of_key))
      ]

  overwrites : (place op : ℕ) (stamp t : Timestamp) → is_of_key log key op ≡ true → stamp_lt stamp t ≡ true → overwriting_at log key stamp (0 + place) (Set op t true) ≡ Some (0 + place)
  overwrites place op stamp t is less = rw (is, less) refl

  -- what the first overwriting writing is
  overwriting-is : (stamp : Timestamp) (n p : ℕ) (point : Point) → overwriting_at log key stamp n point ≡ Some p → (p ≡ n) × ((op : ℕ) × (t : Timestamp) × (point ≡ Set op t true) × (is_of_key log key op ≡ true) × (stamp_lt stamp t ≡ true))
  overwriting-is stamp n p (Begin o client k act) is = absurd (none-some p is)
  overwriting-is stamp n p (Ask o found) is = absurd (none-some p is)
  overwriting-is stamp n p (Try o t found) is = absurd (none-some p is)
  overwriting-is stamp n p (End o) is = absurd (none-some p is)
  overwriting-is stamp n p (Set o t false) is = absurd (none-some p is)
  overwriting-is stamp n p (Set o t true) is =
      let f = cond_some (is_of_key log key o && stamp_lt stamp t) n p is in
      let g = both-of (is_of_key log key o) (stamp_lt stamp t) f.0 in
      (sym f.1, (o, t, refl, g.0, g.1))

  -- a refused write stands just before the first writing that passes its timestamp
  pub overwritten : (op : ℕ) (set : Setting) → setting log op ≡ Some set → Writes log key op set → set.is_applied ≡ false
      → (p : ℕ) × (overwriting log key set.stamp ≡ Some p) × (stamp_lt (height own log p) set.stamp ≡ true) × (stamp_lt set.stamp (height own log (p + 1)) ≡ true)
  unfolding overwriting
  overwritten op set has w refused = from (height-from own log set.place)
    where
      is_own : is_of_key log key op ≡ true
      is_own = own-op log atomic key op w.begun w.is_begun w.of_key

      differs : (place : ℕ) (t : Timestamp) → IsApplied own log place t → t ≡ set.stamp → ⊥
      differs place t a same =
          (let b = applied-wrote log atomic key place t a in
          let x = written b.op (record { place = place; stamp = t; is_applied = true }) b.begun b.is_begun b.of_key b.by in
          apart b.op op (record { place = place; stamp = t; is_applied = true }) set x w
          (λ e. both_ways set.is_applied refused (ap (λ (s : Setting). s.is_applied) (one-writing op set (record { place = place; stamp = t; is_applied = true }) w (subst (λ o. Writes log key o (record { place = place; stamp = t; is_applied = true })) e x)))) same)

      upto : Le set.stamp (height own log set.place)
      upto = sym w.applies ∙ refused

      found : (place : ℕ) → IsApplied own log place (height own log set.place) → (p : ℕ) × (first_from (overwriting_at log key set.stamp) 0 log ≡ Some p) × (stamp_lt (height own log p) set.stamp ≡ true) × (stamp_lt set.stamp (height own log (p + 1)) ≡ true)
      found place a =
          (let less = below-other set.stamp (height own log set.place) upto (λ e. differs place (height own log set.place) a (sym e)) in
          let b = sets-alone op set has is_own place (height own log set.place) a in
          let f = first-upto (overwriting_at log key set.stamp) 0 log place (Set b.0 (height own log set.place) true) (0 + place) b.1 (overwrites place b.0 set.stamp (height own log set.place) b.2 less) in
          let t = first-at (overwriting_at log key set.stamp) 0 log f.0 f.1 in
          let g = overwriting-is set.stamp (0 + t.0.place) f.0 t.0.point t.0.tells in
          let at : f.0 ≡ t.0.place = (let e = g.0 in omega (arith, e)) in
          let applied : IsApplied own log t.0.place g.1.1 = record { point = Set g.1.0 g.1.1 true; there = t.0.there ∙ ap Some g.1.2; picks = rw g.1.3 refl } in (
            t.0.place,
            f.1 ∙ ap Some at,
            low t.0.place t.1,
            stamp_lt-le set.stamp g.1.1 (height own log (t.0.place + 1)) g.1.4 (height-above own log (t.0.place + 1) t.0.place g.1.1 (omega arith) applied),
          ))
        where
          low : (p : ℕ) → first_from (overwriting_at log key set.stamp) 0 (take p log) ≡ None → stamp_lt (height own log p) set.stamp ≡ true
          low p none = elim (height-from own log p) [
            | inl zero_ ↦ subst (λ t. stamp_lt t set.stamp ≡ true) (sym zero_) (above-none op set w)
            | inr one ↦ elim (cases_bool (stamp_lt set.stamp (height own log p))) [
              | inr upto_ ↦ below-other (height own log p) set.stamp upto_ (λ e. differs one.0 (height own log p) one.2 e)
              | inl higher_ ↦
                  let b = sets-alone op set has is_own one.0 (height own log p) one.2 in
                  let f = first-upto (overwriting_at log key set.stamp) 0 (take p log) one.0 (Set b.0 (height own log p) true) (0 + one.0)
                  (at-front log p one.0 (Set b.0 (height own log p) true) one.1 b.1) (overwrites one.0 b.0 set.stamp (height own log p) b.2 higher_) in
                  absurd (none-some f.0 (sym none ∙ f.1))
            ]
          ]

      from : (height own log set.place ≡ no_stamp) ⊎ ((place : ℕ) × (place < set.place) × IsApplied own log place (height own log set.place)) → (p : ℕ) × (first_from (overwriting_at log key set.stamp) 0 log ≡ Some p) × (stamp_lt (height own log p) set.stamp ≡ true) × (stamp_lt set.stamp (height own log (p + 1)) ≡ true)
      from (inl zero_) = absurd (both_ways (stamp_lt no_stamp set.stamp) (subst (λ t. Le set.stamp t) zero_ upto) (above-none op set w))
      from (inr one) = found one.0 one.2

  -- the mark of each listed operation of the key is placed
  pub placed : (m : Mark) → IsMarkOf log key m → IsPlaced own log m
  placed m of = elim of.sort [
    | inl read ↦ subst (IsPlaced own log) (sym read.is) (by_read read (was-read m.op read.ask of.begun of.is_begun of.of_key read.by) (read-there log atomic key m.op read.ask of.begun of.is_begun read.by))
    | inr write ↦ by_write write (written m.op write.set of.begun of.is_begun of.of_key write.by) write.is
  ]
    where
      by_read : (r : IsReadMark log of.begun m) → Reads log key m.op r.ask → (point : Point) × (slice_get log r.ask.place ≡ Some point) × (applied_stamp log key point ≡ None) → IsPlaced own log (record { place = r.ask.place; is_at = true; stamp = r.ask.found; reads = true; op = m.op })
      by_read r f there = record {
        below = λ e. cc;
        found = λ e. (sym f.finds, refl);
        here = λ e. (stays-at own log r.ask.place there.0 there.1 there.2 ∙ sym f.finds);
        past = λ e. cc;
      }

      by_set : (set : Setting) → Wrote log m.op of.begun.act set → set.is_applied ≡ false → setting log m.op ≡ Some set
      by_set set (inl by) refused = by.1
      by_set set (inr by) refused = absurd (both_ways set.is_applied refused (ap (λ (s : Setting). s.is_applied) by.is))

      by_write : (w : IsWriteMark log key of.begun m) → Writes log key m.op w.set
          → ((w.set.is_applied ≡ true) × (m ≡ record { place = w.set.place; is_at = true; stamp = w.set.stamp; reads = false; op = m.op }))
          ⊎ ((w.set.is_applied ≡ false) × (has_ended log m.op ≡ true) × (m ≡ mark_before m.op w.set.stamp (overwriting log key w.set.stamp)))
          → IsPlaced own log m
      by_write w f (inl applied) =
          (let below_ : stamp_lt (height own log w.set.place) w.set.stamp ≡ true = sym f.applies ∙ applied.0 in
          subst (IsPlaced own log) (sym applied.1) (record {
            below = λ e. below_;
            found = λ e. cc;
            here = λ e. height-raised own log w.set.place w.set.stamp (applied-there m.op w.set f applied.0) below_;
            past = λ e. cc;
          }))
      by_write w f (inr refused) =
          (let o = overwritten m.op w.set (by_set w.set w.by refused.0) f refused.0 in
          subst (IsPlaced own log) (sym (refused.2 ∙ ap (mark_before m.op w.set.stamp) o.1)) (record {
            below = λ e. o.2;
            found = λ e. cc;
            here = λ e. cc;
            past = λ e. o.3;
          }))

-- the mark of a point is that of the operation that begins there
pub mark-of : (log : List Point) → IsAtomicLog log → (key : List ℕ) (place : ℕ) (point : Point) (m : Mark) → slice_get log place ≡ Some point → point_mark log key point ≡ Some m
    → IsMarkOf log key m × ((client : ℕ) × (act : ActKind) × (point ≡ Begin m.op client key act))
mark-of log atomic key place (Ask op found) m there is = absurd (none-some m is)
mark-of log atomic key place (Set op stamp applied) m there is = absurd (none-some m is)
mark-of log atomic key place (Try op stamp found) m there is = absurd (none-some m is)
mark-of log atomic key place (End op) m there is = absurd (none-some m is)
mark-of log atomic key place (Begin op client k act) m there is = by_test (key_eq k key) refl is
  where
    made : (m : Mark) → m.op ≡ op → k ≡ key → IsReadMark log (record { place = place; client = client; key = k; act = act }) m ⊎ IsWriteMark log key (record { place = place; client = client; key = k; act = act }) m
        → IsMarkOf log key m × ((c : ℕ) × (a : ActKind) × (Begin op client k act ≡ Begin m.op c key a))
    made m own_ of sort = (
      record { begun = record { place = place; client = client; key = k; act = act }; is_begun = ap (beginning log) own_ ∙ only-begun log atomic place op client k act there; of_key = of; sort = sort },
      (client, act, (let e = sym own_ in cc)),
    )

    reads : (o : Option Asking) (b : Bool) → has_ended log op ≡ b → ((ask : Asking) → o ≡ Some ask → HasRead log op act ask) → read_mark b op o ≡ Some m → k ≡ key → IsMarkOf log key m × ((c : ℕ) × (a : ActKind) × (Begin op client k act ≡ Begin m.op c key a))
    reads None b ended by e of = absurd (none-some m e)
    reads (Some ask) false ended by e of = absurd (none-some m e)
    reads (Some ask) true ended by e of =
        (let same : record { place = ask.place; is_at = true; stamp = ask.found; reads = true; op = op } ≡ m = same_Some (record { place = ask.place; is_at = true; stamp = ask.found; reads = true; op = op }) m e in
        let own_ : m.op ≡ op = sym (ap (λ (x : Mark). x.op) same) in
        made m own_ of (inl (record {
          ask = ask;
          by = subst (λ o. HasRead log o act ask) (sym own_) (by ask refl);
          ended = ap (has_ended log) own_ ∙ ended;
          is = sym same ∙ ap (λ o. record { place = ask.place; is_at = true; stamp = ask.found; reads = true; op = o }) (sym own_);
        })))

    writes_ : (o : Option Setting) → setting log op ≡ o → write_mark log key op o ≡ Some m → k ≡ key → writes act ≡ true → IsMarkOf log key m × ((c : ℕ) × (a : ActKind) × (Begin op client k act ≡ Begin m.op c key a))
    writes_ None has e of write = absurd (none-some m e)
    writes_ (Some set) has e of write = by_applied set.is_applied refl e
      where
        with_set : (own_ : m.op ≡ op) → ((set.is_applied ≡ true) × (m ≡ record { place = set.place; is_at = true; stamp = set.stamp; reads = false; op = m.op }))
            ⊎ ((set.is_applied ≡ false) × (has_ended log m.op ≡ true) × (m ≡ mark_before m.op set.stamp (overwriting log key set.stamp))) → IsMarkOf log key m × ((c : ℕ) × (a : ActKind) × (Begin op client k act ≡ Begin m.op c key a))
        with_set own_ is_ = made m own_ of (inr (record { set = set; by = inl (write, ap (setting log) own_ ∙ has); is = is_ }))

        before-op : (o : Option ℕ) → (mark_before op set.stamp o).op ≡ op
        before-op None = refl
        before-op (Some p) = refl

        by_applied : (b : Bool) → set.is_applied ≡ b → cond b (Some (record { place = set.place; is_at = true; stamp = set.stamp; reads = false; op = op })) (cond (has_ended log op) (Some (mark_before op set.stamp (overwriting log key set.stamp))) None) ≡ Some m
            → IsMarkOf log key m × ((c : ℕ) × (a : ActKind) × (Begin op client k act ≡ Begin m.op c key a))
        by_applied true applied f =
            (let same = same_Some (record { place = set.place; is_at = true; stamp = set.stamp; reads = false; op = op }) m f in
            let own_ : m.op ≡ op = sym (ap (λ (x : Mark). x.op) same) in
            with_set own_ (inl (applied, sym same ∙ ap (λ o. record { place = set.place; is_at = true; stamp = set.stamp; reads = false; op = o }) (sym own_))))
        by_applied false refused f =
            (let g = cond_some (has_ended log op) (mark_before op set.stamp (overwriting log key set.stamp)) m f in
            let own_ : m.op ≡ op = sym (ap (λ (x : Mark). x.op) g.1) ∙ before-op (overwriting log key set.stamp) in
            with_set own_ (inr (refused, ap (has_ended log) own_ ∙ g.0, sym g.1 ∙ ap (λ o. mark_before o set.stamp (overwriting log key set.stamp)) (sym own_))))

    passed : (expected : Timestamp) (asked : Option Asking) (ask : Asking) → unexpected expected asked ≡ Some ask → (asked ≡ Some ask) × (stamp_eq expected ask.found ≡ false)
    passed expected None ask is = absurd (none-some ask is)
    passed expected (Some a) ask is = by_test (stamp_eq expected a.found) refl is
      where
        by_test : (b : Bool) → stamp_eq expected a.found ≡ b → cond b None (Some a) ≡ Some ask → (Some a ≡ Some ask) × (stamp_eq expected ask.found ≡ false)
        by_test true same e = absurd (none-some ask e)
        by_test false same e = (e, ap (λ (x : Asking). stamp_eq expected x.found) (sym (same_Some a ask e)) ∙ same)

    swaps : (expected : Timestamp) → act ≡ Swap expected → (o : Option Trying) → trying log op ≡ o → swap_mark (has_ended log op) expected op (asking log op) o ≡ Some m → k ≡ key → IsMarkOf log key m × ((c : ℕ) × (a : ActKind) × (Begin op client k act ≡ Begin m.op c key a))
    swaps expected kind None none f of =
        reads (unexpected expected (asking log op)) (has_ended log op) refl (λ ask is. (let p = passed expected (asking log op) ask is in inr (inl (record { expected = expected; kind = kind; none = none; asked = p.0; other = p.1 })))) f of
    swaps expected kind (Some tried) has f of = by_found (stamp_eq expected tried.found) refl f
      where
        by_found : (b : Bool) → stamp_eq expected tried.found ≡ b → cond b (Some (record { place = tried.place; is_at = true; stamp = tried.stamp; reads = false; op = op })) (read_mark (has_ended log op) op (Some (record { place = tried.place; found = tried.found }))) ≡ Some m → IsMarkOf log key m × ((c : ℕ) × (a : ActKind) × (Begin op client k act ≡ Begin m.op c key a))
        by_found true same e =
            (let is_ : record { place = tried.place; is_at = true; stamp = tried.stamp; reads = false; op = op } ≡ m = same_Some (record { place = tried.place; is_at = true; stamp = tried.stamp; reads = false; op = op }) m e in
            let own_ : m.op ≡ op = sym (ap (λ (x : Mark). x.op) is_) in
            made m own_ of (inr (record {
              set = record { place = tried.place; stamp = tried.stamp; is_applied = true };
              by = inr (record { tried = tried; kind = kind ∙ ap Swap (stamp_eq-true expected tried.found same); has = ap (trying log) own_ ∙ has; is = refl });
              is = inl (refl, sym is_ ∙ ap (λ o. record { place = tried.place; is_at = true; stamp = tried.stamp; reads = false; op = o }) (sym own_));
            })))
        by_found false other e =
            reads (Some (record { place = tried.place; found = tried.found })) (has_ended log op) refl (λ ask is. inr (inr (record { expected = expected; tried = tried; kind = kind; has = has; other = other; is = sym (same_Some (record { place = tried.place; found = tried.found }) ask is) }))) e of

    by_act : (a : ActKind) → act ≡ a → operation_mark log key op a ≡ Some m → k ≡ key → IsMarkOf log key m × ((c : ℕ) × (x : ActKind) × (Begin op client k act ≡ Begin m.op c key x))
    by_act Get e f of = reads (asking log op) (has_ended log op) refl (λ ask asked. inl (e, asked)) f of
    by_act Put e f of = writes_ (setting log op) refl f of (ap writes e)
    by_act Delete e f of = writes_ (setting log op) refl f of (ap writes e)
    by_act (Swap expected) e f of = swaps expected e (trying log op) refl f of

    by_test : (b : Bool) → key_eq k key ≡ b → cond b (operation_mark log key op act) None ≡ Some m → IsMarkOf log key m × ((c : ℕ) × (a : ActKind) × (Begin op client k act ≡ Begin m.op c key a))
    by_test false same e = absurd (none-some m e)
    by_test true same e = by_act act refl e (key_eq-true k key same)
