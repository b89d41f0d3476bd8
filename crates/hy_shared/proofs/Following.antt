-- What a session may do after a step, from what the step told.
use Rattle.std.proofs.Common.{◌≡◌, ℕ, true, false, List, [], ◌++◌, length, Option, Some, None, refl, sym, ap, ◌∙◌, inl, inr}
use Rattle.std.specs.List.{slice_get}
use Rattle.std.proofs.lemmas.Option.{same_Some}
use Rattle.hy_record.specs.Stamp.{next_stamp}
use Rattle.hy_record.specs.Record.{RecordValue, is_tombstone}
use Rattle.hy_record.specs.declared.action.Reply.TheVariants as reply
use Rattle.hy_points.specs.declared.point.ActKind.TheVariants.{Get}
use Rattle.hy_points.specs.Atomic.{no_stamp, writes}
use Rattle.hy_shared.specs.declared.event.Event.{Event}
use Rattle.hy_shared.specs.declared.event.Event.TheVariants.{Ask}
use Rattle.hy_shared.specs.declared.running.Running.{Running}
use Rattle.hy_shared.specs.declared.said.Said.{Said}
use Rattle.hy_shared.specs.declared.found.Found.{Found}
use Rattle.hy_shared.specs.Rows.{FitsLayout}
use Rattle.hy_shared.specs.Sessions.{SessionValue, HasRead}
use Rattle.hy_shared.specs.Answers.{MayUpdate, Updates, MayFinish}
use Rattle.hy_shared.specs.Found.{Reads, found_stamp}
use Rattle.hy_shared.proofs.Lists.{at-length}

-- a write that has read may write the next timestamp
pub may-update : (before after : SessionValue) (answer : Option Found) → Reads before answer after → (running : Running) → before.running ≡ Some running → writes running.act ≡ true → running.set ≡ None
    → (rec : RecordValue) → next_stamp (found_stamp answer) after.client ≡ Some rec.stamp → FitsLayout after.table.layout rec → MayUpdate after rec
may-update before after answer reads running ran write unset rec next fits =
    let same : running ≡ reads.running = same_Some running reads.running (sym ran ∙ reads.ran) in
    record {
      running = record { row = reads.running.row; key = reads.running.key; act = reads.running.act; found = Some (found_stamp answer); set = reads.running.set };
      runs = reads.runs;
      is_write = ap (λ (r : Running). writes r.act) (sym same) ∙ write;
      not_set = ap (λ (r : Running). r.set) (sym same) ∙ unset;
      found = found_stamp answer;
      read = refl;
      next = next;
      fits = fits;
    }

-- a write that has written is done
pub may-done : (before after : SessionValue) (rec : RecordValue) (answer : Said) → MayUpdate before rec → Updates before rec answer after → MayFinish after (reply.Done rec.stamp)
may-done before after rec answer may raised =
    let same : may.running ≡ raised.running = same_Some may.running raised.running (sym may.runs ∙ raised.ran) in
    record {
      running = record { row = raised.running.row; key = raised.running.key; act = raised.running.act; found = raised.running.found; set = Some rec.stamp };
      runs = raised.runs;
      may = (ap (λ (r : Running). writes r.act) (sym same) ∙ may.is_write, refl);
    }

-- what was read is a reading of the log
has-read : (before after : SessionValue) (answer : Option Found) → (reads : Reads before answer after) → HasRead after.seen reads.running.row (found_stamp answer)
has-read before after answer reads =
    let front : List Event = before.seen ++ reads.sees.between in
    (length front, ap (λ (log : List Event). slice_get log (length front)) reads.sees.seen ∙ at-length front (Ask reads.running.row (found_stamp answer)) [])

module _ (before after : SessionValue) (running : Running) (ran : before.running ≡ Some running) (is_get : running.act ≡ Get) where
  -- a get that found a value may reply it
  pub may-value : (found : Found) → Reads before (Some found) after → is_tombstone found.rec.kind ≡ false → (bytes : List ℕ) → MayFinish after (reply.Value bytes found.rec.stamp)
  may-value found reads value bytes =
      let same : running ≡ reads.running = same_Some running reads.running (sym ran ∙ reads.ran) in
      let recorded = reads.recorded in
      record {
        running = record { row = reads.running.row; key = reads.running.key; act = reads.running.act; found = Some found.rec.stamp; set = reads.running.set };
        runs = reads.runs;
        may = (
          ap (λ (r : Running). r.act) (sym same) ∙ is_get,
          has-read before after (Some found) reads,
          record { row = found.row; rec = found.rec; written = recorded.written; stamp_is = refl; kind_is = value },
        );
      }

  -- a get that found a deletion may reply that the key is absent
  pub may-absent : (found : Found) → Reads before (Some found) after → is_tombstone found.rec.kind ≡ true → MayFinish after (reply.Absent found.rec.stamp)
  may-absent found reads deleted =
      let same : running ≡ reads.running = same_Some running reads.running (sym ran ∙ reads.ran) in
      let recorded = reads.recorded in
      record {
        running = record { row = reads.running.row; key = reads.running.key; act = reads.running.act; found = Some found.rec.stamp; set = reads.running.set };
        runs = reads.runs;
        may = (
          ap (λ (r : Running). r.act) (sym same) ∙ is_get,
          has-read before after (Some found) reads,
          inr (record { row = found.row; rec = found.rec; written = recorded.written; stamp_is = refl; kind_is = deleted }),
        );
      }

  -- so may one that found no record
  pub may-be-none : Reads before None after → MayFinish after (reply.Absent no_stamp)
  may-be-none reads =
      let same : running ≡ reads.running = same_Some running reads.running (sym ran ∙ reads.ran) in
      record {
        running = record { row = reads.running.row; key = reads.running.key; act = reads.running.act; found = Some no_stamp; set = reads.running.set };
        runs = reads.runs;
        may = (ap (λ (r : Running). r.act) (sym same) ∙ is_get, has-read before after None reads, inl refl);
      }
