use Rattle.std.proofs.Common.{◌≡◌, ◌∷◌, ℕ, length, true, false, sym, ap, ◌∙◌, arith, rules}
use Rattle.std.specs.Global.{Vec}
use Rattle.hy_base.specs.Faults.{next_count}
use Rattle.hy_disk.specs.MemDisk.{Step, synced, contents_after, total_written, steps_of, DiskValue, FailsByNumber, Suffices}
use Rattle.hy_disk.proofs.Doing.{elapses_to, synced_contents, synced_leaves, reach_failed, reach_done}
use Rattle.hy_disk.proofs.mem_disk.MemDiskDisk.sync.Goals as goal
use Rattle.hy_disk.proofs.mem_disk.MemDiskDisk.sync.Goals.{then-next_fails-via-then-next_fails, then-next_fails-via-else-next_fails+then-count-self}

pub invariant_of-self-2 : goal.invariant_of-self-2
unfolding contents_after
invariant_of-self-2 c =
    let i = c.self.invariant in
    record {
      made = i.made ∙ sym (ap contents_after c.add_sync.ensures.steps);
      marked = c.add_sync.ensures.marked;
      file_fits = i.file_fits;
      bytes_fit = omega (arith, i.bytes_fit, c.add_sync.ensures.bytes);
      marks_fit = omega (arith, c.add_sync.ensures.marks, c.if-count-self.false, c.count.ensures.marks);
      room_for_file = i.room_for_file;
      room_for_bytes = omega (arith, i.room_for_bytes, c.add_sync.ensures.room_for_bytes);
      room_for_marks = omega (arith, i.room_for_marks, c.add_sync.ensures.room_for_marks);
    }

pub returns-clause-contents : goal.returns-clause-contents
returns-clause-contents c = synced_contents c.args.self.now.steps _ (c.add_sync.ensures.steps ∙ ap (λ (d : DiskValue). synced ∷ d.steps) c.self.view_is)

pub returns-clause-leaves : goal.returns-clause-leaves
returns-clause-leaves c = synced_leaves c.args.self.now.steps _ (c.add_sync.ensures.steps ∙ ap (λ (d : DiskValue). synced ∷ d.steps) c.self.view_is)

pub returns-clause-time : goal.returns-clause-time
returns-clause-time c = elapses_to synced c.args.self.now.steps _ (c.add_sync.ensures.steps ∙ ap (λ (d : DiskValue). synced ∷ d.steps) c.self.view_is)

pub returns-clause-reach : goal.returns-clause-reach
unfolding total_written
returns-clause-reach c =
    let p : steps_of c.add_sync.new.self ≡ synced ∷ c.args.self.now.steps = c.add_sync.ensures.steps
    ∙ ap (λ (d : DiskValue). synced ∷ d.steps) c.self.view_is in
    let works : FailsByNumber c.args.self.now → ⊥ = λ fails.
    let inside = rw (← c.self.view_is) at fails in let is = c.next_fails.ensures.fails.1 inside in let no : true ≡ false = sym is
    ∙ c.if-next_fails.false in cc in
    reach_done c.args.self.now _ 1 0 0 works (ap (λ (d : DiskValue). d.room) c.self.view_is)
    (ap (λ (v : Vec ℕ). v.items) c.next_fails.ensures.failing ∙ ap (λ (d : DiskValue). d.failing) c.self.view_is)
    (c.next_fails.ensures.made ∙ ap (λ (d : DiskValue). next_count d.calls) c.self.view_is) (ap (λ (d : DiskValue). d.faults) c.self.view_is)
    (omega (arith, c.next_fails.ensures.grows, ap (λ (d : DiskValue). d.calls) c.self.view_is))
    (omega (arith, ap (length {A = Step}) p)) (omega (arith, ap total_written p))

pub returns-then-next_fails-clause-reach : goal.returns-then-next_fails-clause-reach
returns-then-next_fails-clause-reach c =
    let fails : Suffices c.args.self.now 1 0 0 → FailsByNumber c.args.self.now = λ suffices. elim c.then-next_fails.branch [
      | then-next_fails-via-then-next_fails w ↦ rw (← c.self.view_is) (c.next_fails.ensures.fails.0 w.if-next_fails.true)
      | then-next_fails-via-else-next_fails+then-count-self w ↦
          let inside = rw (← c.self.view_is) at suffices in absurd (omega (arith, inside.marks, w.if-count-self.true, w.count.ensures.steps))
    ] in
    reach_failed c.args.self.now _ 1 0 0 fails (search rules)
    (omega (arith, c.next_fails.ensures.grows, ap (λ (d : DiskValue). d.calls) c.self.view_is))
    (omega (arith, c.fault.ensures.grows, ap (λ (d : DiskValue). d.faults) c.self.view_is))
