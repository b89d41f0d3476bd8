-- The marks of a key stand at places of their own.
use Rattle.std.proofs.Common.{◌≡◌, ℕ, List, [], ◌∷◌, Option, Some, None, refl, sym, ap, subst, ◌∙◌, inl, inr, arith}
use Rattle.std.specs.List.{AllByRecursion, filter_map, cons_option}
use Rattle.hy_record.specs.declared.action.Action.{Action}
use Rattle.hy_record.specs.declared.action.Action.TheVariants as asked
use Rattle.hy_record.specs.Stamp.{Timestamp}
use Rattle.hy_protocol.specs.Operations.{write_plan, replied}
use Rattle.hy_protocol.specs.Read.{version_of, read_reply}
use Rattle.hy_trace.specs.Deeds.{Params, Deed, Start, inputs_of, start_of}
use Rattle.hy_trace.specs.History.{Return, return_of, Begun, begun_of}
use Rattle.hy_trace.specs.Order.{Mark, mark_of, marks_of}
use Rattle.hy_trace.specs.Points as trace_points
use Rattle.hy_trace.specs.Points.{Point, Update, first_update, is_own, was_applied, write_point, read_point, changed_point}
use Rattle.hy_trace.specs.Trace.{IsTrace}
use Rattle.hy_trace.proofs.Growth.{start-same}
use Rattle.hy_theorems.specs.Writing.{Swaps}
use Rattle.hy_theorems.proofs.Apart.{change-has, replied-write}
use Rattle.hy_theorems.proofs.Beginnings.{AreOthers, begun-are}
use Rattle.hy_theorems.proofs.Linear.{picked, all-pairs}
use Rattle.hy_theorems.proofs.Marks.{as-read, IsMarkOf, mark-is, marks-differ}
use Rattle.hy_theorems.proofs.Points.{answered-version}
use Rattle.hy_theorems.proofs.ReadPoints.{reply-version}
use Rattle.hy_theorems.proofs.RealTime.{return-reply}
use Rattle.hy_log.proofs.DeedAt.{AsksAt, asks-once, update-asks, version-asks}
use Rattle.hy_log.proofs.FirstMade.{has-version}
use Rattle.hy_log.proofs.Sorting.{Stands, AreSpread, IsSort, stands}

module _ (p : Params) (t : List Deed) (trace : IsTrace p t) (key : List ℕ) where
  abbrev IsOf : Begun → Mark → Type 0
  IsOf b m = IsMarkOf p t trace key b m

  abbrev IsOther : Begun → Begun → Type 0
  IsOther b a = (b.client ≡ a.client) × (b.op ≡ a.op) → ⊥

  replies : (b : Begun) (a : Action) (r : Return) → start_of b.client b.op t ≡ Some b.start → b.start.action ≡ a → return_of p b.client b.op t ≡ Some r → replied p.f p.k b.client b.op a (inputs_of b.client b.op t) ≡ Some r.reply
  replies b a r began action returned =
      let h = return-reply p b.client b.op t r trace returned in
      let same : h.start ≡ b.start = start-same b.client b.op t h.start b.start h.began began in
      ap (λ (x : Action). replied p.f p.k b.client b.op x (inputs_of b.client b.op t)) (sym (ap (λ (s : Start). s.action) same ∙ action)) ∙ h.replies

  read-asks : (b : Begun) (k : List ℕ) (r : Return) → start_of b.client b.op t ≡ Some b.start → b.start.action ≡ asked.Get k → return_of p b.client b.op t ≡ Some r → AsksAt t (read_point b.client b.op t).step b.client b.op
  read-asks b k r began action returned =
      let inputs = inputs_of b.client b.op t in
      let told_ : read_reply inputs ≡ Some r.reply = as-read b.client b.op k inputs p ∙ replies b (asked.Get k) r began action returned in
      let gets : (s : Start) → start_of b.client b.op t ≡ Some s → s.action ≡ asked.Get k = λ s other. ap (λ (x : Start). x.action) (start-same b.client b.op t s b.start other began) ∙ action in
      let v = answered-version (version_of inputs) r.reply (reply-version p b.client b.op k r.reply t trace gets told_) in
      version-asks p b.client b.op t trace b.start began v.0 v.1

  -- a swap that found another record was judged at its point, or was told that record by an answer that was made there
  changed-asks : (b : Begun) (k value : List ℕ) (e : Timestamp) (r : Return) → start_of b.client b.op t ≡ Some b.start → b.start.action ≡ asked.Swap k e value → return_of p b.client b.op t ≡ Some r → AsksAt t (changed_point b.client b.op t).step b.client b.op
  unfolding changed_point
  changed-asks b k value e r began action returned = by_update (first_update (is_own b.client b.op) t) refl
    where
      by_update : (o : Option Update) → first_update (is_own b.client b.op) t ≡ o → AsksAt t (trace_points.changed_by o b.client b.op t).step b.client b.op
      by_update (Some u) first = update-asks b.client b.op t u first
      by_update None first =
          let inputs = inputs_of b.client b.op t in
          let has = change-has (write_plan p.f p.k b.client b.op k (Some value)) (Swaps e value) inputs r.reply (sym (replied-write p b.client b.op k (Swaps e value) inputs) ∙ replies b (asked.Swap k e value) r began action returned) in
          let v = has-version inputs has.0 has.1 in
          version-asks p b.client b.op t trace b.start began v.0 v.1

  -- the operation of a read asked at the step of its mark
  mark-asks : (b : Begun) (m : Mark) → IsOf b m → m.reads ≡ 1 → AsksAt t m.point.step b.client b.op
  mark-asks b m of one = elim of.sort [
    | inl write ↦ (let none = write.reads_is in absurd (omega (arith, none, one)))
    | inr read ↦ elim read.kind [
      | inl get ↦ subst (λ (x : Point). AsksAt t x.step b.client b.op) (sym get.point_is) (read-asks b key read.ret of.began get.action_is read.returned)
      | inr changed ↦
          subst (λ (x : Point). AsksAt t x.step b.client b.op) (sym changed.point_is) (changed-asks b key changed.value changed.expected read.ret of.began changed.action_is read.returned)
    ]
  ]

  sort-of : (b : Begun) (m : Mark) → IsOf b m → IsSort m
  sort-of b m of =
      elim of.sort [
        | inl write ↦ inl write.reads_is
        | inr read ↦ (let late = read.late in inr (read.reads_is, omega (arith, late)))
      ]

  stand : (a b : Begun) (m n : Mark) → IsOf a m → IsOf b n → IsOther a b → Stands m n
  stand a b m n first second other =
      stands m n (sort-of a m first) (sort-of b n second) (record {
        writes = marks-differ p t trace key a b m n first second other;
        reads = λ reads too same. other (asks-once t m.point.step n.point.step a.client a.op b.client b.op (mark-asks a m first reads) (mark-asks b n second too) same);
      })

  spread : (ops : List Begun) → AllByRecursion (λ b. start_of b.client b.op t ≡ Some b.start) ops → AreOthers ops → AreSpread (filter_map (mark_of p t key) ops)
  spread [] began others = tt
  spread (b ∷ ops) began others = by_first (mark_of p t key b) refl (spread ops began.1 others.1)
    where
      by_first : (o : Option Mark) → mark_of p t key b ≡ o → AreSpread (filter_map (mark_of p t key) ops) → AreSpread (cons_option o (filter_map (mark_of p t key) ops))
      by_first None is rest = rest
      by_first (Some m) is rest =
          let here = mark-is p t trace key b m began.0 is in
          let known = all-pairs (λ a. start_of a.client a.op t ≡ Some a.start) (IsOther b) ops began.1 others.0 in (
            picked (mark_of p t key) (λ a. (start_of a.client a.op t ≡ Some a.start) × IsOther b a) (Stands m) ops
                (λ a n facts is_mark. stand b a m n here (mark-is p t trace key a n facts.0 is_mark) facts.1) known,
            rest,
          )

  pub marks-spread : AreSpread (marks_of p t key)
  marks-spread = spread (begun_of t) (begun-are p t trace).0 (begun-are p t trace).1
