use Rattle.std.proofs.Common.{◌∙◌, ◌*◌, ◌++◌, ap, List, ℕ}
use Rattle.hy_code.specs.declared.pick.Pick.{Pick}
use Rattle.hy_code.proofs.PartLemmas.{padded}
use Rattle.hy_code.proofs.parts.part.Goals as goal

pub returns : goal.returns
returns c =
    let pick_of : List ℕ → Pick = λ bytes. record { cloud = c.args.number; bytes = bytes } in
    ap pick_of
    (c.of.ensures
    ∙ padded c.args.value.now c.extend_from_slice.new.self.items c.resize.new.self.items (c.args.number * c.args.size) c.args.size _
    (c.in_ok-extend_from_slice.ensures.items ∙ ap (λ xs. xs ++ c.cut.result.now) c.in_ok-bytes.ensures.items ∙ c.cut.ensures)
    c.extend_from_slice.new.self.ok.0 c.in_ok-resize.ensures.items)
