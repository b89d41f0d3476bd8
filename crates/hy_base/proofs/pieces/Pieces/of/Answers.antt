use Rattle.std.proofs.Common.{◌≡◌, ◌≤◌, ◌+◌, ◌-◌, ℕ, List, length, take, drop, get_or, sym, ap, ◌∙◌, arith, subst}
use Rattle.hy_base.specs.declared.pieces.Run.{Run}
use Rattle.hy_base.specs.Pieces.{total, bytes_in, IsRun, LacksRun}
use Rattle.hy_base.proofs.Runs.{run-at, run-ends, bytes_in-run, bytes_in-none}
use Rattle.hy_base.proofs.pieces.Pieces.of.Goals as goal

ends : (runs items : List Run) (conn : ℕ) (place : ℕ × ℕ) → items ≡ runs → IsRun items conn place → (run : Run) → run ≡ get_or runs place.0 run → place.1 + run.size ≤ total runs
ends runs items conn place same found run here =
    let is = subst (λ (l : List Run). IsRun l conn place) same found in
    subst (λ (r : Run). place.1 + r.size ≤ total runs) (sym (here ∙ run-at runs conn place is run)) (run-ends runs conn place is)

part : (runs items : List Run) (conn : ℕ) (place : ℕ × ℕ) → items ≡ runs → IsRun items conn place → (run : Run) → run ≡ get_or runs place.0 run
    → (bytes same-bytes : List ℕ) → same-bytes ≡ bytes → take ((place.1 + run.size) - place.1) (drop place.1 same-bytes) ≡ bytes_in runs bytes conn
part runs items conn place same found run here bytes same-bytes are =
    let is = subst (λ (l : List Run). IsRun l conn place) same found in
    let size : (place.1 + run.size) - place.1 ≡ run.size = omega arith in
    ap (λ n. take n (drop place.1 same-bytes)) size ∙ ap (λ (l : List ℕ). take run.size (drop place.1 l)) are
    ∙ ap (λ (r : Run). take r.size (drop place.1 bytes)) (here ∙ run-at runs conn place is run) ∙ bytes_in-run runs conn place is bytes

pub overflow_add-result : goal.overflow_add-result
overflow_add-result c = omega (arith, ends c.args.self.now.runs.items _ _ _ c.deref.ensures.value c.in-Some.ensures c.index.result.now c.index.ensures, c.requires)

pub slice_bounds-result-end : goal.slice_bounds-result-end
slice_bounds-result-end c = omega (arith, ends c.args.self.now.runs.items _ _ _ c.deref.ensures.value c.in-Some.ensures c.index.result.now c.index.ensures, c.requires, ap (λ (l : List ℕ). length l) c.deref-in-Some.ensures.value)

pub returns-in-Some : goal.returns-in-Some
returns-in-Some c = part c.args.self.now.runs.items _ _ (c.in-Some.index, c.in-Some.start) c.deref.ensures.value c.in-Some.ensures c.index.result.now c.index.ensures c.args.self.now.bytes.items c.deref-in-Some.result.now c.deref-in-Some.ensures.value

pub returns-in-None : goal.returns-in-None
returns-in-None c = sym (bytes_in-none c.args.self.now.runs.items c.args.self.now.bytes.items c.args.conn (subst (λ (l : List Run). LacksRun c.args.conn l) c.deref.ensures.value c.in-None.ensures))
