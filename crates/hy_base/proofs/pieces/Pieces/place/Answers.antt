use Rattle.std.proofs.Common.{List, [], ◌∷◌, ap, ◌∙◌, refl, arith}
use Rattle.hy_base.specs.declared.pieces.Run.{Run}
use Rattle.hy_base.specs.Pieces.{total, bytes_in}
use Rattle.hy_base.proofs.Runs.{total-append, bytes_in-push}
use Rattle.hy_base.proofs.pieces.Pieces.place.Goals as goal

pub returns-in-None-clause-same : goal.returns-in-None-clause-same
returns-in-None-clause-same c = λ conn. ap (λ (l : List Run). bytes_in l c.args.self.now.bytes.items conn) c.push_reserved.ensures.items
    ∙ bytes_in-push c.args.self.now.runs.items (record { conn = c.args.conn; size = 0 }) c.args.self.now.bytes.items conn refl

pub returns-in-None-clause-keeps : goal.returns-in-None-clause-keeps
unfolding total
returns-in-None-clause-keeps c = record {
  total = omega (arith, c.requires.total, ap total c.push_reserved.ensures.items, total-append c.args.self.now.runs.items (record { conn = c.args.conn; size = 0 } ∷ []));
  runs = omega (arith, c.push_reserved.ensures.len);
  room_for_bytes = omega arith;
  room_for_runs = omega (arith, c.push_reserved.ensures.capacity);
}
