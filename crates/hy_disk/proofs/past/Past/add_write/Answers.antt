use Rattle.std.proofs.Common.{◌≡◌, ◌++◌, [], ◌∷◌, List, ℕ, length, ap, ◌∙◌, arith, rules, length-append}
use Rattle.hy_disk.specs.MemDisk.{marked, laid}
use Rattle.hy_disk.specs.declared.past.Mark.{Mark}
use Rattle.hy_disk.specs.declared.past.Mark.TheVariants.{Write}
use Rattle.hy_disk.proofs.Steps.{marked-append, laid-write}
use Rattle.hy_disk.proofs.past.Past.add_write.Goals as goal

pub returns-clause-steps : goal.returns-clause-steps
returns-clause-steps c =
    let bytes : c.extend_from_slice.new.self.items ≡ c.args.self.now.bytes.items ++ c.args.bytes.now = search rules in
    ap (λ (l : List Mark). laid l c.extend_from_slice.new.self.items []) c.push_reserved.ensures.items
    ∙ ap (λ (l : List ℕ). laid (c.args.self.now.marks.items ++ Write c.args.place (length c.args.bytes.now) ∷ []) l []) bytes
    ∙ laid-write c.args.self.now.marks.items c.args.self.now.bytes.items [] c.args.place c.args.bytes.now c.requires.marked

pub returns-clause-marked : goal.returns-clause-marked
unfolding marked
returns-clause-marked c =
    let bytes : c.extend_from_slice.new.self.items ≡ c.args.self.now.bytes.items ++ c.args.bytes.now = search rules in
    ap marked c.push_reserved.ensures.items ∙ marked-append c.args.self.now.marks.items (Write c.args.place (length c.args.bytes.now) ∷ [])
    ∙ omega (arith, c.requires.marked, ap (length {A = ℕ}) bytes, length-append c.args.self.now.bytes.items c.args.bytes.now)
