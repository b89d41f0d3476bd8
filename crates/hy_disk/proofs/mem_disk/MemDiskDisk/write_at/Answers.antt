use Rattle.std.proofs.Common.{◌≡◌, ◌+◌, [], ◌∷◌, List, ℕ, length, true, false, sym, ap, ◌∙◌, arith, rules}
use Rattle.std.specs.Global.{Vec}
use Rattle.hy_base.specs.Faults.{next_count}
use Rattle.hy_disk.specs.Disk.{written}
use Rattle.hy_disk.specs.Laws.{length-written}
use Rattle.hy_disk.specs.MemDisk.{Step, wrote, contents_after, total_written, steps_of, DiskValue, FailsByNumber, Suffices}
use Rattle.hy_disk.proofs.Steps.{length-laid, total-laid}
use Rattle.hy_disk.proofs.Doing.{elapses_to, wrote_leaves, wrote_contents, failed_leaves, reach_failed, reach_done, no_room, room_for}
use Rattle.hy_disk.proofs.mem_disk.MemDiskDisk.write_at.Goals as goal
use Rattle.hy_disk.proofs.mem_disk.MemDiskDisk.write_at.Goals.{then-next_fails-via-then-next_fails, then-next_fails-via-else-next_fails+then-not-has_room}

pub returns-then-next_fails-clause-leaves : goal.returns-then-next_fails-clause-leaves
returns-then-next_fails-clause-leaves c =
    failed_leaves c.args.place (length c.args.bytes.now) c.args.self.now.steps _ (ap (λ (d : DiskValue). d.steps) c.self.view_is)

pub returns-then-next_fails-clause-reach : goal.returns-then-next_fails-clause-reach
returns-then-next_fails-clause-reach c =
    let n = length c.args.bytes.now in
    let fails : Suffices c.args.self.now 1 n (c.args.place + n) → FailsByNumber c.args.self.now = λ suffices. elim c.then-next_fails.branch [
      | then-next_fails-via-then-next_fails w ↦ rw (← c.self.view_is) (c.next_fails.ensures.fails.0 w.if-next_fails.true)
      | then-next_fails-via-else-next_fails+then-not-has_room w ↦
          let inside = rw (← c.self.view_is) at suffices in
          absurd (no_room (record { steps = steps_of c.self.inside.past; room = c.self.inside.room; failing = []; calls = 0; faults = 0 }) c.args.place n
          (sym w.has_room.ensures ∙ w.if-not-has_room.true) (record { file = inside.file; written = inside.written; marks = inside.marks }))
    ] in
    reach_failed c.args.self.now _ 1 n (c.args.place + n) fails (search rules)
    (omega (arith, c.next_fails.ensures.grows, ap (λ (d : DiskValue). d.calls) c.self.view_is))
    (omega (arith, c.fault.ensures.grows, ap (λ (d : DiskValue). d.faults) c.self.view_is))

pub add_write-requires-clause-marks : goal.add_write-requires-clause-marks
add_write-requires-clause-marks c =
    let past = c.self.inside.past in
    let fits = room_for (record { steps = steps_of c.self.inside.past; room = c.self.inside.room; failing = []; calls = 0; faults = 0 }) c.args.place
    (length c.args.bytes.now) (sym c.has_room.ensures ∙ c.if-not-has_room.false) in
    omega (arith, fits.marks, length-laid past.marks.items past.bytes.items [], past.marks.ok.0, c.self.invariant.room_for_marks)

pub add_write-requires-clause-bytes : goal.add_write-requires-clause-bytes
unfolding total_written
add_write-requires-clause-bytes c =
    let past = c.self.inside.past in
    let fits = room_for (record { steps = steps_of c.self.inside.past; room = c.self.inside.room; failing = []; calls = 0; faults = 0 }) c.args.place
    (length c.args.bytes.now) (sym c.has_room.ensures ∙ c.if-not-has_room.false) in
    omega (arith, fits.written, total-laid past.marks.items past.bytes.items [] c.self.invariant.marked, past.bytes.ok.0, c.self.invariant.room_for_bytes)

pub invariant_of-self-2 : goal.invariant_of-self-2
unfolding contents_after total_written
invariant_of-self-2 c =
    let i = c.self.invariant in
    let past = c.self.inside.past in
    let fits = room_for (record { steps = steps_of c.self.inside.past; room = c.self.inside.room; failing = []; calls = 0; faults = 0 }) c.args.place
    (length c.args.bytes.now) (sym c.has_room.ensures ∙ c.if-not-has_room.false) in
    let size = ap (length {A = ℕ}) c.write_into.ensures.file ∙ length-written c.args.place c.args.bytes.now c.self.inside.file.items in
    record {
      made = c.write_into.ensures.file ∙ ap (λ (l : List ℕ). written c.args.place c.args.bytes.now l) i.made
          ∙ sym (ap contents_after c.add_write.ensures.steps);
      marked = c.add_write.ensures.marked;
      file_fits = omega (arith, i.file_fits, fits.file, size, c.self.inside.file.ok.0, c.write_into.new.file.ok.0);
      bytes_fit = omega (arith, fits.written, total-laid past.marks.items past.bytes.items [] i.marked, past.bytes.ok.0, c.add_write.ensures.bytes);
      marks_fit = omega (arith, fits.marks, length-laid past.marks.items past.bytes.items [], past.marks.ok.0, c.add_write.ensures.marks);
      room_for_file = omega (arith, i.room_for_file, c.write_into.ensures.room);
      room_for_bytes = omega (arith, i.room_for_bytes, c.add_write.ensures.room_for_bytes);
      room_for_marks = omega (arith, i.room_for_marks, c.add_write.ensures.room_for_marks);
    }

pub returns-clause-contents : goal.returns-clause-contents
returns-clause-contents c = wrote_contents c.args.place c.args.bytes.now c.args.self.now.steps _
    (c.add_write.ensures.steps ∙ ap (λ (d : DiskValue). wrote c.args.place c.args.bytes.now ∷ d.steps) c.self.view_is)

pub returns-clause-leaves : goal.returns-clause-leaves
returns-clause-leaves c = wrote_leaves c.args.place c.args.bytes.now c.args.self.now.steps _
    (c.add_write.ensures.steps ∙ ap (λ (d : DiskValue). wrote c.args.place c.args.bytes.now ∷ d.steps) c.self.view_is)

pub returns-clause-time : goal.returns-clause-time
returns-clause-time c = elapses_to (wrote c.args.place c.args.bytes.now) c.args.self.now.steps _
    (c.add_write.ensures.steps ∙ ap (λ (d : DiskValue). wrote c.args.place c.args.bytes.now ∷ d.steps) c.self.view_is)

pub returns-clause-reach : goal.returns-clause-reach
unfolding total_written
returns-clause-reach c =
    let n = length c.args.bytes.now in
    let p : steps_of c.add_write.new.self ≡ wrote c.args.place c.args.bytes.now ∷ c.args.self.now.steps = c.add_write.ensures.steps
    ∙ ap (λ (d : DiskValue). wrote c.args.place c.args.bytes.now ∷ d.steps) c.self.view_is in
    let works : FailsByNumber c.args.self.now → ⊥ = λ fails.
    let inside = rw (← c.self.view_is) at fails in let is = c.next_fails.ensures.fails.1 inside in let no : true ≡ false = sym is
    ∙ c.if-next_fails.false in cc in
    reach_done c.args.self.now _ 1 n (c.args.place + n) works (ap (λ (d : DiskValue). d.room) c.self.view_is)
    (ap (λ (v : Vec ℕ). v.items) c.next_fails.ensures.failing ∙ ap (λ (d : DiskValue). d.failing) c.self.view_is)
    (c.next_fails.ensures.made ∙ ap (λ (d : DiskValue). next_count d.calls) c.self.view_is) (ap (λ (d : DiskValue). d.faults) c.self.view_is)
    (omega (arith, c.next_fails.ensures.grows, ap (λ (d : DiskValue). d.calls) c.self.view_is))
    (omega (arith, ap (length {A = Step}) p)) (omega (arith, ap total_written p))
