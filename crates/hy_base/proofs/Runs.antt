-- Lemmas on the runs of connections, and on a piece that is put behind one.
use Rattle.std.proofs.Common.{◌≡◌, ◌≤◌, ◌<◌, ◌+◌, ◌-◌, ◌==◌, ℕ, Bool, true, false, List, [], ◌∷◌, ◌++◌, length, get_or, set, take, drop, refl, sym, ap, ◌∙◌, append_assoc, add_assoc, zero-add, add-zero, add-one, arith, eq-eqb, cond, take-append-drop, drop-drop, length-append, length-drop, drop-cons}
use Rattle.std.proofs.lemmas.List.{length-take-le, take-append-le, drop-append-le, take-take, drop-take, append-nil}
use Rattle.std.proofs.lemmas.Bool.{cases_Bool, cond-true, cond-false, eqb-true}
use Rattle.std.proofs.Math.Seq.{take-suc, take-append-add, drop-append-add, take-append_seam, drop-append_seam, set-append_seam, get_or-append_seam}
use Rattle.std.proofs.Math.Logic.{⊎_elim}
use Rattle.std.specs.Prelude.{if◌then◌else◌}
use Rattle.hy_base.specs.declared.pieces.Run.{Run}
use Rattle.hy_base.specs.Pieces.{total, bytes_in, LacksRun, IsRun, with_piece}

pub total-append : (a b : List Run) → total (a ++ b) ≡ total a + total b
unfolding total
total-append [] b = sym (zero-add (total b))
total-append (run ∷ a) b = ap (λ n. run.size + n) (total-append a b) ∙ sym (add_assoc run.size (total a) (total b))

pub not-equal : (a b : ℕ) → ¬ (a ≡ b) → (a == b) ≡ false
not-equal a b other = ⊎_elim (λ y. absurd (other (eqb-true a b y))) (λ n. n) (cases_Bool (a == b))

-- one run more
pub total-more : (runs : List Run) (i : ℕ) (d : Run) → i < length runs → total (take (i + 1) runs) ≡ total (take i runs) + (get_or runs i d).size
unfolding total
total-more runs i d within = rw (add-one, take-suc runs i d within) (total-append (take i runs) (get_or runs i d ∷ []) ∙ ap (λ n. total (take i runs) + n) (add-zero (get_or runs i d).size))

-- a front has no more bytes than all
pub total-front : (runs : List Run) (i : ℕ) → total (take i runs) ≤ total runs
total-front runs i = omega (arith, total-append (take i runs) (drop i runs), ap total (take-append-drop i runs))

LacksRun-append : (conn : ℕ) (a b : List Run) → LacksRun conn a → LacksRun conn b → LacksRun conn (a ++ b)
LacksRun-append conn [] b first second = second
LacksRun-append conn (run ∷ a) b first second = (first.0, LacksRun-append conn a b first.1 second)

pub LacksRun-more : (conn : ℕ) (runs : List Run) (i : ℕ) (d : Run) → i < length runs → LacksRun conn (take i runs) → ((get_or runs i d).conn == conn) ≡ false → LacksRun conn (take (i + 1) runs)
LacksRun-more conn runs i d within lacks other = rw (add-one, take-suc runs i d within) (LacksRun-append conn (take i runs) (get_or runs i d ∷ []) lacks (other, tt))

pub IsRun-found : (runs : List Run) (conn i start : ℕ) (d : Run) → i < length runs → (get_or runs i d).conn ≡ conn → LacksRun conn (take i runs) → start ≡ total (take i runs) → IsRun runs conn (i, start)
IsRun-found runs conn i start d within here lacks is = record {
  before = take i runs;
  run = get_or runs i d;
  after = drop (i + 1) runs;
  parts = sym (take-append-drop i runs) ∙ ap (λ rest. take i runs ++ rest) (drop-cons runs i d within ∙ ap (λ n. get_or runs i d ∷ drop n runs) (sym (add-one i)));
  others = lacks;
  here = here;
  index = sym (length-take-le i runs (omega (arith, within)));
  start = is;
}

-- where the connection's bytes lie
pub bytes_in-at : (before : List Run) (run : Run) (after : List Run) (bytes : List ℕ) (conn : ℕ) → LacksRun conn before → run.conn ≡ conn
    → bytes_in (before ++ run ∷ after) bytes conn ≡ take run.size (drop (total before) bytes)
unfolding bytes_in total
bytes_in-at [] run after bytes conn lacks here = cond-true (run.conn == conn) _ _ (eq-eqb run.conn conn here)
bytes_in-at (first ∷ before) run after bytes conn lacks here =
    cond-false (first.conn == conn) _ _ lacks.0 ∙ bytes_in-at before run after (drop first.size bytes) conn lacks.1 here
    ∙ ap (λ (l : List ℕ). take run.size l) (drop-drop (total before) first.size bytes)

pub bytes_in-none : (runs : List Run) (bytes : List ℕ) (conn : ℕ) → LacksRun conn runs → bytes_in runs bytes conn ≡ []
unfolding bytes_in
bytes_in-none [] bytes conn lacks = refl
bytes_in-none (run ∷ runs) bytes conn lacks = cond-false (run.conn == conn) _ _ lacks.0 ∙ bytes_in-none runs (drop run.size bytes) conn lacks.1

cond-same : (b : Bool) (l : List ℕ) → cond b l l ≡ l
cond-same true l = refl
cond-same false l = refl

-- an empty run behind all
pub bytes_in-push : (runs : List Run) (run : Run) (bytes : List ℕ) (c : ℕ) → run.size ≡ 0 → bytes_in (runs ++ run ∷ []) bytes c ≡ bytes_in runs bytes c
unfolding bytes_in
bytes_in-push [] run bytes c empty = rw empty (cond-same (run.conn == c) [])
bytes_in-push (first ∷ runs) run bytes c empty =
    ap (λ (l : List ℕ). cond (first.conn == c) (take first.size bytes) l) (bytes_in-push runs run (drop first.size bytes) c empty)

-- the run with so many bytes more
abbrev pub longer : Run → ℕ → Run
longer run size = record { conn = run.conn; size = run.size + size }

take-front : (a b : ℕ) (piece bytes : List ℕ) → a + b ≤ length bytes → take a (with_piece (a + b) piece bytes) ≡ take a bytes
take-front a b piece bytes fits =
    take-append-le a (take (a + b) bytes) (piece ++ drop (a + b) bytes) (omega (arith, length-take-le (a + b) bytes fits))
    ∙ take-take a (a + b) bytes (omega arith)

drop-front : (a b : ℕ) (piece bytes : List ℕ) → a + b ≤ length bytes → drop a (with_piece (a + b) piece bytes) ≡ with_piece b piece (drop a bytes)
drop-front a b piece bytes fits =
    drop-append-le a (take (a + b) bytes) (piece ++ drop (a + b) bytes) (omega (arith, length-take-le (a + b) bytes fits))
    ∙ ap (λ (l : List ℕ). l ++ (piece ++ drop (a + b) bytes)) (drop-take a b bytes)
    ∙ ap (λ (l : List ℕ). take b (drop a bytes) ++ (piece ++ l)) (sym (drop-drop b a bytes))

take-piece : (n : ℕ) (piece bytes : List ℕ) → n ≤ length bytes → take (n + length piece) (with_piece n piece bytes) ≡ take n bytes ++ piece
take-piece n piece bytes fits =
    ap (λ m. take (m + length piece) (with_piece n piece bytes)) (sym (length-take-le n bytes fits))
    ∙ take-append-add (take n bytes) (piece ++ drop n bytes) (length piece)
    ∙ ap (λ (l : List ℕ). take n bytes ++ l) (take-append_seam piece (drop n bytes))

drop-piece : (n : ℕ) (piece bytes : List ℕ) → n ≤ length bytes → drop (n + length piece) (with_piece n piece bytes) ≡ drop n bytes
drop-piece n piece bytes fits =
    ap (λ m. drop (m + length piece) (with_piece n piece bytes)) (sym (length-take-le n bytes fits))
    ∙ drop-append-add (take n bytes) (piece ++ drop n bytes) (length piece)
    ∙ drop-append_seam piece (drop n bytes)

same-conn : (a b c : ℕ) → (a == b) ≡ false → (a == c) ≡ true → (b == c) ≡ false
same-conn a b c other here = ap (λ n. b == n) (sym (eqb-true a c here)) ∙ ⊎_elim (λ y. absurd (let no : false ≡ true = sym other ∙ eq-eqb a b (sym (eqb-true b a y)) in cc)) (λ n. n) (cases_Bool (b == a))

either : (p q : Bool) (x y u v piece : List ℕ) → (p ≡ true → q ≡ false) → x ≡ u → (p ≡ false → y ≡ v ++ cond q piece []) → cond p x y ≡ cond p u v ++ cond q piece []
either true true x y u v piece apart first second = absurd (let no : true ≡ false = apart refl in cc)
either true false x y u v piece apart first second = first ∙ sym (append-nil u)
either false q x y u v piece apart first second = second refl

-- a piece behind the connection's run
pub bytes_in-insert : (before : List Run) (run : Run) (after : List Run) (bytes piece : List ℕ) (conn : ℕ) → LacksRun conn before → run.conn ≡ conn
    → total before + run.size ≤ length bytes → (c : ℕ)
    → bytes_in (before ++ longer run (length piece) ∷ after) (with_piece (total before + run.size) piece bytes) c
    ≡ bytes_in (before ++ run ∷ after) bytes c ++ (if conn == c then piece else [])
unfolding bytes_in total
bytes_in-insert [] run after bytes piece conn lacks here fits c =
    rw (zero-add run.size, here) (⊎_elim
    (λ y. rw y (take-piece run.size piece bytes (omega (arith, fits))))
    (λ n. rw n (ap (λ (l : List ℕ). bytes_in after l c) (drop-piece run.size piece bytes (omega (arith, fits))) ∙ sym (append-nil (bytes_in after (drop run.size bytes) c))))
    (cases_Bool (conn == c)))
bytes_in-insert (first ∷ before) run after bytes piece conn lacks here fits c =
    rw (add_assoc first.size (total before) run.size)
    (either (first.conn == c) (conn == c) _ _ _ _ piece (same-conn first.conn conn c lacks.0)
    (take-front first.size (total before + run.size) piece bytes (omega (arith, fits)))
    (λ n. ap (λ (l : List ℕ). bytes_in (before ++ longer run (length piece) ∷ after) l c) (drop-front first.size (total before + run.size) piece bytes (omega (arith, fits)))
    ∙ bytes_in-insert before run after (drop first.size bytes) piece conn lacks.1 here (omega (arith, fits, length-drop first.size bytes)) c))

-- a piece that is rotated into its place
pub rotated : (at : ℕ) (piece bytes : List ℕ) → at ≤ length bytes
    → drop (length bytes - at) ((drop at bytes ++ take at bytes) ++ piece) ++ take (length bytes - at) ((drop at bytes ++ take at bytes) ++ piece) ≡ with_piece at piece bytes
rotated at piece bytes fits =
    rw (← length-drop at bytes, append_assoc (drop at bytes) (take at bytes) piece, drop-append_seam (drop at bytes) (take at bytes ++ piece), take-append_seam (drop at bytes) (take at bytes ++ piece))
    (append_assoc (take at bytes) piece (drop at bytes))

pub length-with_piece : (at : ℕ) (piece bytes : List ℕ) → at ≤ length bytes → length (with_piece at piece bytes) ≡ length bytes + length piece
length-with_piece at piece bytes fits =
    omega (arith, length-append (take at bytes) (piece ++ drop at bytes), length-append piece (drop at bytes), length-take-le at bytes fits, length-drop at bytes)

module _ (runs : List Run) (conn : ℕ) (place : ℕ × ℕ) (is : IsRun runs conn place) where
  pub run-at : (d : Run) → get_or runs place.0 d ≡ is.run
  run-at d = ap (λ i. get_or runs i d) is.index ∙ ap (λ (l : List Run). get_or l (length is.before) d) is.parts ∙ get_or-append_seam is.before is.run is.after d

  pub run-within : place.0 < length runs
  run-within = omega (arith, is.index, ap length is.parts, length-append is.before (is.run ∷ is.after))

  pub run-ends : place.1 + is.run.size ≤ total runs
  unfolding total
  run-ends = omega (arith, is.start, ap total is.parts, total-append is.before (is.run ∷ is.after))

  pub with-longer : (size : ℕ) → set runs place.0 (longer is.run size) ≡ is.before ++ longer is.run size ∷ is.after
  with-longer size = ap (λ i. set runs i (longer is.run size)) is.index ∙ ap (λ (l : List Run). set l (length is.before) (longer is.run size)) is.parts ∙ set-append_seam is.before is.run is.after (longer is.run size)

  pub total-longer : (size : ℕ) → total (set runs place.0 (longer is.run size)) ≡ total runs + size
  unfolding total
  total-longer size = omega (arith, ap total (with-longer size), ap total is.parts, total-append is.before (is.run ∷ is.after), total-append is.before (longer is.run size ∷ is.after))

  pub bytes_in-longer : (piece bytes : List ℕ) → total runs ≡ length bytes → (c : ℕ)
      → bytes_in (set runs place.0 (longer is.run (length piece))) (with_piece (place.1 + is.run.size) piece bytes) c ≡ bytes_in runs bytes c ++ (if conn == c then piece else [])
  bytes_in-longer piece bytes cut c =
      ap (λ (l : List Run). bytes_in l (with_piece (place.1 + is.run.size) piece bytes) c) (with-longer (length piece))
      ∙ ap (λ n. bytes_in (is.before ++ longer is.run (length piece) ∷ is.after) (with_piece (n + is.run.size) piece bytes) c) is.start
      ∙ bytes_in-insert is.before is.run is.after bytes piece conn is.others is.here (omega (arith, run-ends, cut, is.start)) c
      ∙ ap (λ (l : List Run). bytes_in l bytes c ++ (if conn == c then piece else [])) (sym is.parts)

  pub bytes_in-run : (bytes : List ℕ) → take is.run.size (drop place.1 bytes) ≡ bytes_in runs bytes conn
  bytes_in-run bytes =
      ap (λ n. take is.run.size (drop n bytes)) is.start ∙ sym (bytes_in-at is.before is.run is.after bytes conn is.others is.here)
      ∙ ap (λ (l : List Run). bytes_in l bytes conn) (sym is.parts)
