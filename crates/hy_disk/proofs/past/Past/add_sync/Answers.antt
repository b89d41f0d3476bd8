use Rattle.std.proofs.Common.{[], ◌∷◌, ap, ◌∙◌, arith}
use Rattle.hy_disk.specs.MemDisk.{marked, laid}
use Rattle.hy_disk.specs.declared.past.Mark.{Mark}
use Rattle.hy_disk.specs.declared.past.Mark.TheVariants.{Sync}
use Rattle.std.proofs.Common.{List}
use Rattle.hy_disk.proofs.Steps.{marked-append, laid-sync}
use Rattle.hy_disk.proofs.past.Past.add_sync.Goals as goal

pub returns-clause-steps : goal.returns-clause-steps
returns-clause-steps c =
    ap (λ (l : List Mark). laid l c.args.self.now.bytes.items []) c.push_reserved.ensures.items
    ∙ laid-sync c.args.self.now.marks.items c.args.self.now.bytes.items []

pub returns-clause-marked : goal.returns-clause-marked
unfolding marked
returns-clause-marked c =
    ap marked c.push_reserved.ensures.items ∙ marked-append c.args.self.now.marks.items (Sync ∷ []) ∙ omega (arith, c.requires.marked)
