-- A new disk.
use Rattle.std.proofs.Common.{◌≡◌, ◌⊎◌, inl, inr, ℕ, ◌+◌, ◌-◌, ◌/◌, ◌^◌, ◌<◌, ◌≤◌, min, List, [], ◌∷◌, length, Contains, refl, sym, ◌∙◌, ap, subst, arith}
use Rattle.hy_base.specs.Faults.{Rose}
use Rattle.hy_record.specs.declared.message.MetaAsk.{MetaAsk}
use Rattle.hy_disk.specs.MemDisk.{DiskValue, Reach, Suffices, AreSmall, FailsWithin, MayLeave, Step, contents_after, fresh_disk, total_written}
use Rattle.hy_journal.specs.declared.kept.TheConstants.{KEPT_ROOM}
use Rattle.hy_journal.specs.declared.entry.Entry.{Entry}
use Rattle.hy_journal.specs.declared.keeper.Keeper.{Keeper}
use Rattle.hy_journal.specs.File.{IsNew, blocks, Holds, IsWithOrWithout}
use Rattle.hy_journal.specs.Fold.{asks_of, asks_after}
use Rattle.hy_journal.specs.Keeper.{Stands, FindsSome, disk_of}
use Rattle.hy_journal.specs.Kept.{Kept}
use Rattle.hy_journal.specs.Playing.{IsPlayed, file_of, files_of, Place, IsFew, CanReopen}
use Rattle.hy_journal.proofs.Blocks.{recovers_new}
use Rattle.hy_journal.proofs.Weighing.{is_stop, small_stop, stop_within, not_risen}

-- ---- a new disk

pub no_file : Holds [] [] (files_of (fresh_disk KEPT_ROOM []))
unfolding MayLeave
no_file file left = inl (recovers_new file (omega (arith, ap (length {A = ℕ}) left)))

pub fresh_holds : (disk : DiskValue) (failing : List ℕ) → disk ≡ fresh_disk KEPT_ROOM failing → Holds [] [] (files_of disk)
fresh_holds disk failing is = subst (λ (l : List Step). Holds [] [] (MayLeave l)) (sym (ap (λ (d : DiskValue). d.steps) is)) no_file

pub first_file : (room : ℕ) (failing : List ℕ) → file_of (fresh_disk room failing) ≡ []
unfolding contents_after
first_file room failing = refl

pub none_found : (found : List Entry) → IsWithOrWithout [] [] found → found ≡ []
none_found found (inl same) = same
none_found found (inr same) = same

pub no_asks : asks_of [] ≡ []
unfolding asks_after
no_asks = refl

pub stands_none : (keeper : Keeper DiskValue) → FindsSome file_of files_of [] [] keeper → Stands file_of files_of keeper [] []
stands_none keeper finds =
    let none = none_found finds.found finds.is in
    subst (λ (l : List MetaAsk). Stands file_of files_of keeper [] l) (ap asks_of none ∙ no_asks)
    (subst (λ (l : List Entry). Stands file_of files_of keeper l (asks_of finds.found)) none finds.stands)

pub no_blocks : length (blocks []) ≡ 0
unfolding blocks
no_blocks = refl

pub nothing_written : total_written [] ≡ 0
unfolding total_written
nothing_written = refl

abbrev pub first_place : ℕ → ℕ → Place
first_place stop again = record { stop = stop; entries = []; served = []; count = 0; bytes = 0; again = again }

pub few_first : (stop again : ℕ) → IsFew (first_place stop again)
few_first stop again = record { file = omega (arith, no_blocks); five = omega arith; many = omega arith; within = omega arith }

pub played_ok : (stop : ℕ) (keeper : Keeper DiskValue) → stop < 2 ^ 32 → FindsSome file_of files_of [] [] keeper
    → Reach (fresh_disk KEPT_ROOM (stop ∷ [])) (disk_of keeper) 3 1 1 → (disk_of keeper).faults ≡ 0 → (disk_of keeper).calls ≡ 4
    → IsPlayed stop keeper [] []
played_ok stop keeper small finds reach faults calls = record {
  place = first_place stop 0;
  at = record {
    stands = stands_none keeper finds;
    used = record {
      room = reach.room;
      failing = reach.failing;
      small = small;
      steps = omega (arith, reach.marks);
      written = omega (arith, reach.written, nothing_written);
      faults = omega (arith, faults);
      once = omega arith;
      waits = λ some. refl;
    };
    few = few_first stop 0;
  };
  same = refl;
  long = refl;
  goes = λ more rest kept. subst (λ (n : ℕ). Kept (stop - n) [] [] more rest) calls kept;
}

pub fresh_new : (disk : DiskValue) (failing : List ℕ) → disk ≡ fresh_disk KEPT_ROOM failing → IsNew (file_of disk)
fresh_new disk failing is =
    omega (arith, ap (λ (d : DiskValue). length (file_of d)) is, ap (length {A = ℕ}) (first_file KEPT_ROOM failing))

pub played_from : (stop : ℕ) (disk : DiskValue) (keeper : Keeper DiskValue) → stop < 2 ^ 32 → disk ≡ fresh_disk KEPT_ROOM (stop ∷ [])
    → FindsSome file_of files_of [] [] keeper
    → Reach disk (disk_of keeper) 3 1 1 × ((disk_of keeper).faults ≡ disk.faults)
    → (IsNew (file_of disk) → (disk_of keeper).calls ≡ min (disk.calls + 4) (2 ^ 64 - 1))
    → IsPlayed stop keeper [] []
played_from stop disk keeper small is finds opened calls =
    played_ok stop keeper small finds (subst (λ (d : DiskValue). Reach d (disk_of keeper) 3 1 1) is opened.0)
    (opened.1 ∙ ap (λ (d : DiskValue). d.faults) is)
    (omega (arith, calls (fresh_new disk (stop ∷ []) is), ap (λ (d : DiskValue). d.calls) is))

-- what is known where the first opening failed
pub record FirstFails (stop : ℕ) (disk : DiskValue) : Type 0 where
  pub reopens : CanReopen disk
  pub holds : Holds [] [] (files_of disk)
  pub room : disk.room ≡ KEPT_ROOM
  pub failing : disk.failing ≡ stop ∷ []
  pub steps : length disk.steps ≤ 3
  pub written : total_written disk.steps ≤ 1
  pub faults : disk.faults ≤ 4
  pub past : stop ≤ disk.calls
  pub early : stop ≤ 4

pub first_fails : (stop : ℕ) (disk : DiskValue) → stop < 2 ^ 32 → Reach (fresh_disk KEPT_ROOM (stop ∷ [])) disk 3 1 1
    → disk.calls ≤ 4 → Rose 0 disk.faults → Holds [] [] (files_of disk) → FirstFails stop disk
first_fails stop disk small reach near rose holds = either (reach.sound suffices numbers)
  where
    suffices : Suffices (fresh_disk KEPT_ROOM (stop ∷ [])) 3 1 1
    suffices = record { file = omega arith; written = omega (arith, nothing_written); marks = omega arith }

    numbers : AreSmall (stop ∷ [])
    numbers = small_stop (stop ∷ []) stop refl small

    by : (0 < stop) × (stop ≤ disk.calls) → FirstFails stop disk
    by within =
        let past = within.1 in
        let eighth = ap (λ (n : ℕ). n / 8) reach.room in
        let faults = reach.slow suffices numbers in
        record {
          reopens = record {
            entries = [];
            more = [];
            holds = holds;
            suffices = record {
              file = omega (arith, reach.room);
              written = omega (arith, reach.room, reach.written, nothing_written);
              marks = omega (arith, eighth, reach.marks);
            };
            few = omega (arith, faults, near);
            small = small_stop disk.failing stop reach.failing small;
            past = λ n is.
                let one = is_stop stop n (subst (λ (l : List ℕ). Contains l n) reach.failing is) in
                omega (arith, one, past);
          };
          holds = holds;
          room = reach.room;
          failing = reach.failing;
          steps = omega (arith, reach.marks);
          written = omega (arith, reach.written, nothing_written);
          faults = omega (arith, faults, near);
          past = past;
          early = omega (arith, past, near);
        }

    either : (disk.faults ≡ 0) ⊎ FailsWithin (stop ∷ []) 0 disk.calls → FirstFails stop disk
    either (inl same) = absurd (not_risen 0 disk.faults same (omega arith) rose)
    either (inr within) = by (stop_within (stop ∷ []) stop 0 disk.calls refl within)

pub fails_from : (stop : ℕ) (fresh disk : DiskValue) → stop < 2 ^ 32 → fresh ≡ fresh_disk KEPT_ROOM (stop ∷ [])
    → Reach fresh disk 3 1 1 → (IsNew (file_of fresh) → disk.calls ≤ fresh.calls + 4) → Rose fresh.faults disk.faults
    → Holds [] [] (files_of disk) → FirstFails stop disk
fails_from stop fresh disk small is reach near rose holds =
    first_fails stop disk small (subst (λ (d : DiskValue). Reach d disk 3 1 1) is reach)
    (omega (arith, near (fresh_new fresh (stop ∷ []) is), ap (λ (d : DiskValue). d.calls) is))
    (subst (λ (n : ℕ). Rose n disk.faults) (ap (λ (d : DiskValue). d.faults) is) rose) holds

pub played_again : (stop : ℕ) (disk : DiskValue) (keeper : Keeper DiskValue) → stop < 2 ^ 32 → FirstFails stop disk
    → ((entries more : List Entry) → Holds entries more (files_of disk) → FindsSome file_of files_of entries more keeper)
    → Reach disk (disk_of keeper) 3 1 1 × ((disk_of keeper).faults ≡ disk.faults)
    → IsPlayed stop keeper [] []
played_again stop disk keeper small fails finds opened =
    let reach = opened.0 in
    let none : stop - (disk_of keeper).calls ≡ 0 = omega (arith, fails.past, reach.calls) in
    let never : stop - 4 ≡ 0 = omega (arith, fails.early) in
    record {
      place = first_place stop 1;
      at = record {
        stands = stands_none keeper (finds [] [] fails.holds);
        used = record {
          room = reach.room ∙ fails.room;
          failing = reach.failing ∙ fails.failing;
          small = small;
          steps = omega (arith, reach.marks, fails.steps);
          written = omega (arith, reach.written, fails.written);
          faults = omega (arith, opened.1, fails.faults);
          once = omega arith;
          waits = λ some. omega (arith, some, none);
        };
        few = few_first stop 1;
      };
      same = refl;
      long = refl;
      goes = λ more rest kept. subst (λ (n : ℕ). Kept n [] [] more rest) (none ∙ sym never) kept;
    }
