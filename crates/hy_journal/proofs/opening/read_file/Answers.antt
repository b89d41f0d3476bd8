use Rattle.std.proofs.Common.{◌≡◌, ℕ, List, ◌++◌, length, take, subst, ◌∙◌, arith}
use Rattle.std.proofs.lemmas.List.{take_at}
use Rattle.hy_disk.specs.Disk.{ReadsAt}
use Rattle.hy_journal.proofs.Found.{piece_more, piece_within, same_then}
use Rattle.hy_journal.proofs.Moments.{goes_on}
use Rattle.hy_journal.proofs.Reaching.{looks}
use Rattle.hy_journal.proofs.opening.read_file.Goals as goal

pub loop-disk-preserved : goal.loop-disk-preserved
loop-disk-preserved g c =
    let i = c.loop-disk.invariant in
    let file = g.D.Disk.contents c.args.disk.now in
    let bytes = c.loop-disk.bytes.items in
    let count = c.in_ok-count.count in
    let size : length c.read_at.new.buf ≡ c.loop-disk.chunk.len = omega (arith, c.read_at.auto.buf, c.deref_mut.ensures.len) in
    let same : c.deref.result.now ≡ c.read_at.new.buf = c.deref.ensures.value ∙ take_at _ _ _ size in
    let grown : c.extend_from_slice.new.self.items ≡ bytes ++ take count c.read_at.new.buf = rw same at c.in_ok-extend_from_slice.ensures.items in
    let place : c.len-in-loop-disk.result ≡ length bytes = omega (arith, c.len-in-loop-disk.ensures, c.loop-disk.bytes.ok.0) in
    let here : ReadsAt file c.len-in-loop-disk.result c.read_at.new.buf count = subst
    (λ (f : List ℕ). ReadsAt f c.len-in-loop-disk.result c.read_at.new.buf count) i.contents c.in_ok-count.ensures.bytes in
    let reads : ReadsAt file (length bytes) c.read_at.new.buf count = subst (λ (n : ℕ). ReadsAt file n c.read_at.new.buf count) place here in
    record {
      size = i.size;
      room = i.room;
      front = rw grown (piece_more file bytes c.read_at.new.buf count i.front reads);
      within = rw grown (omega (arith, piece_within file bytes c.read_at.new.buf count (omega (arith, i.within, i.size)) reads, i.size));
      contents = c.read_at.ensures.contents ∙ i.contents;
      leaves = same_then (g.D.Disk.may_leave c.args.disk.now) (g.D.Disk.may_leave c.loop-disk.disk)
          (g.D.Disk.may_leave c.read_at.new.self) i.leaves c.read_at.ensures.leaves;
      moments = goes_on g.D.Disk.moment g.D.Disk.left_since c.args.disk.now c.loop-disk.disk c.read_at.new.self
          (g.D.Disk.may_leave c.args.disk.now) _ i.moments c.read_at.ensures.time
          (λ f now. (i.leaves f).0 ((c.read_at.ensures.leaves f).0 now));
      reach = looks g.D.Disk.reach g.met.D.Disk.reach_then g.met.D.Disk.reach_more c.args.disk.now c.loop-disk.disk c.read_at.new.self i.reach c.read_at.ensures.reach;
      kept = c.in_ok-count.ensures.cause.kept ∙ i.kept;
    }

pub returns-in_err-count-clause-reach : goal.returns-in_err-count-clause-reach
returns-in_err-count-clause-reach g c = looks g.D.Disk.reach g.met.D.Disk.reach_then g.met.D.Disk.reach_more c.args.disk.now c.loop-disk.disk c.read_at.new.self c.loop-disk.invariant.reach c.read_at.ensures.reach

pub returns-in_err-extend_from_slice-clause-reach : goal.returns-in_err-extend_from_slice-clause-reach
returns-in_err-extend_from_slice-clause-reach g c = looks g.D.Disk.reach g.met.D.Disk.reach_then g.met.D.Disk.reach_more c.args.disk.now c.loop-disk.disk c.read_at.new.self c.loop-disk.invariant.reach c.read_at.ensures.reach
