use Rattle.std.proofs.Common.{refl}
use Rattle.hy_journal.specs.File.{HasOrLacks}
use Rattle.hy_journal.specs.Keeper.{OpenLeaves}
use Rattle.hy_journal.proofs.Moments.{weaker}
use Rattle.hy_journal.proofs.Surviving.{finds_one, outside, leaves_these}
use Rattle.hy_journal.proofs.keeper.Keeper.open.Goals as goal

pub returns-in-Ok-clause-survives : goal.returns-in-Ok-clause-survives
returns-in-Ok-clause-survives g c entries more holds =
    let laws = c.files_stand_for_one_list.ensures in
    let file = g.D.Disk.contents c.args.disk in
    let held = holds file (g.met.D.Disk.contents_left c.args.disk) in
    let opens = c.in-Ok.ensures.opens in (
      record {
        found = opens.entries;
        is = finds_one laws.one laws.sound laws.short file entries more opens.entries held opens.recovers;
        stands = record { sound = refl; settled = opens.settled; folded = opens.folded };
      },
      weaker g.D.Disk.moment g.D.Disk.left_since c.args.disk c.prepare.new.disk (OpenLeaves file (g.D.Disk.may_leave c.args.disk))
          (HasOrLacks entries more) c.prepare.ensures.any_moment
          (leaves_these entries more file (g.D.Disk.may_leave c.args.disk) holds (g.met.D.Disk.contents_left c.args.disk)),
    )

pub returns-in-Err-clause-survives_err : goal.returns-in-Err-clause-survives_err
returns-in-Err-clause-survives_err g c entries more holds =
    let laws = c.files_stand_for_one_list.ensures in
    let file = g.D.Disk.contents c.args.disk in
    let held = holds file (g.met.D.Disk.contents_left c.args.disk) in
    let leaves = leaves_these entries more file (g.D.Disk.may_leave c.args.disk) holds (g.met.D.Disk.contents_left c.args.disk) in
    let moments = c.prepare.ensures.any_moment in (
      outside laws.one laws.sound laws.short file entries more c.in-Err.fault held c.in-Err.ensures.cause,
      λ f left. leaves f (moments.each f (g.met.D.Disk.counts_now c.prepare.new.disk (g.D.Disk.moment c.args.disk) f moments.later left)),
      weaker g.D.Disk.moment g.D.Disk.left_since c.args.disk c.prepare.new.disk (OpenLeaves file (g.D.Disk.may_leave c.args.disk))
          (HasOrLacks entries more) moments leaves,
    )
