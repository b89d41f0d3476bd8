use Rattle.std.proofs.Common.{◌≡◌, ◌≤◌, ◌+◌, ◌==◌, ℕ, List, [], ◌++◌, length, set, get_or, sym, ap, ◌∙◌, arith, subst}
use Rattle.std.specs.Prelude.{if◌then◌else◌}
use Rattle.std.specs.Global.{Vec}
use Rattle.hy_base.specs.declared.pieces.Run.{Run}
use Rattle.hy_base.specs.Pieces.{total, bytes_in, with_piece, IsRun}
use Rattle.hy_base.proofs.Runs.{longer, run-at, run-ends, total-longer, bytes_in-longer, length-with_piece}
use Rattle.hy_base.proofs.pieces.Pieces.add.Goals as goal

module _ (runs : List Run) (conn : ℕ) (place : ℕ × ℕ) (is : IsRun runs conn place) where
  ends : (run : Run) → run ≡ get_or runs place.0 run → place.1 + run.size ≤ total runs
  ends run here = subst (λ (r : Run). place.1 + r.size ≤ total runs) (sym (here ∙ run-at runs conn place is run)) (run-ends runs conn place is)

  total-after : (run : Run) (size : ℕ) → run ≡ get_or runs place.0 run → total (set runs place.0 (longer run size)) ≡ total runs + size
  total-after run size here =
      subst (λ (r : Run). total (set runs place.0 (longer r size)) ≡ total runs + size) (sym (here ∙ run-at runs conn place is run)) (total-longer runs conn place is size)

  bytes-after : (run same : Run) (piece old new : List ℕ) → run ≡ get_or runs place.0 run → same ≡ get_or runs place.0 same → total runs ≡ length old
      → new ≡ with_piece (place.1 + run.size) piece old → (c : ℕ)
      → bytes_in (set runs place.0 (longer same (length piece))) new c ≡ bytes_in runs old c ++ (if conn == c then piece else [])
  bytes-after run same piece old new here there cut items c =
      subst (λ (r : Run). bytes_in (set runs place.0 (longer r (length piece))) new c ≡ bytes_in runs old c ++ (if conn == c then piece else [])) (sym (there ∙ run-at runs conn place is same))
      (subst (λ (l : List ℕ). bytes_in (set runs place.0 (longer is.run (length piece))) l c ≡ bytes_in runs old c ++ (if conn == c then piece else []))
      (sym (items ∙ ap (λ (r : Run). with_piece (place.1 + r.size) piece old) (here ∙ run-at runs conn place is run)))
      (bytes_in-longer runs conn place is piece old cut c))

pub overflow_add-end : goal.overflow_add-end
overflow_add-end c = omega (arith, ends _ _ _ c.place-index.ensures.run _ c.index.ensures, c.place-index.ensures.keeps.total)

pub insert-requires-clause-within : goal.insert-requires-clause-within
insert-requires-clause-within c = omega (arith, ends _ _ _ c.place-index.ensures.run _ c.index.ensures, c.place-index.ensures.keeps.total)

pub overflow_add-index_mut : goal.overflow_add-index_mut
overflow_add-index_mut c = omega (arith, ends _ _ _ c.place-index.ensures.run _ c.index_mut.ensures.value, c.place-index.ensures.keeps.total, c.requires.bytes, ap (λ (v : Vec ℕ). length v.items) c.place-index.ensures.bytes)

pub returns-clause-bytes_in : goal.returns-clause-bytes_in
returns-clause-bytes_in c = λ conn.
    let p = c.place-index in
    bytes-after p.new.self.runs.items c.args.conn p.result p.ensures.run c.index.result.now c.index_mut.result.now c.args.piece.now p.new.self.bytes.items c.insert.new.bytes.items
    c.index.ensures c.index_mut.ensures.value p.ensures.keeps.total c.insert.ensures.items conn
    ∙ ap (λ (bytes : List ℕ). bytes ++ (if c.args.conn == conn then c.args.piece.now else []))
    (ap (λ (v : Vec ℕ). bytes_in p.new.self.runs.items v.items conn) p.ensures.bytes ∙ p.ensures.same conn)

pub returns-clause-keeps : goal.returns-clause-keeps
returns-clause-keeps c =
    let p = c.place-index in
    let inserted = ap (λ (l : List ℕ). length l) c.insert.ensures.items ∙ length-with_piece (p.result.1 + c.index.result.now.size) c.args.piece.now p.new.self.bytes.items (omega (arith, ends _ _ _ p.ensures.run _ c.index.ensures, p.ensures.keeps.total)) in
    record {
      total = omega (arith, total-after _ _ _ p.ensures.run c.index_mut.result.now (length c.args.piece.now) c.index_mut.ensures.value, p.ensures.keeps.total, inserted);
      runs = omega (arith, p.ensures.keeps.runs);
      room_for_bytes = omega (arith, p.ensures.keeps.room_for_bytes, c.insert.ensures.room);
      room_for_runs = omega (arith, p.ensures.keeps.room_for_runs);
    }
