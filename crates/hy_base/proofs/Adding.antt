-- Lemmas on moves that are added one after the other.
use Rattle.std.proofs.Common.{◌≡◌, List, [], ◌∷◌, ◌++◌, sym, subst, append_assoc}
use Rattle.hy_base.specs.Moves.{Move}
use Rattle.hy_base.specs.Net.{Adds, Moves}

-- nothing was done yet
pub Adds-none : {S : Type 0} (told : S → Type 0) (tells : S → List Move → Type 0) (net : S) (P : List Move → Type 0)
    → P [] → Adds told tells net net P
Adds-none told tells net P holds = record {
  was = λ t. t;
  adds = λ t before is. record { moves = []; holds = holds; told = is };
}

-- some moves, and then some more
pub Adds-append : {S : Type 0} (told : S → Type 0) (tells : S → List Move → Type 0) (old mid new : S) (P Q R : List Move → Type 0)
    → Adds told tells old mid P → Adds told tells mid new Q
    → ((first second : List Move) → P first → Q second → R (second ++ first)) → Adds told tells old new R
Adds-append told tells old mid new P Q R first second step = record {
  was = λ t. first.was (second.was t);
  adds = λ t before is.
      let f = first.adds (second.was t) before is in
      let s = second.adds t (f.moves ++ before) f.told in record {
        moves = s.moves ++ f.moves;
        holds = step f.moves s.moves f.holds s.holds;
        told = subst (tells new) (sym (append_assoc s.moves f.moves before)) s.told;
      };
}

-- one more move
pub Adds-more : {S : Type 0} (told : S → Type 0) (tells : S → List Move → Type 0) (old mid new : S) (P Q : List Move → Type 0) (move : Move)
    → Adds told tells old mid P → Moves told tells mid new move
    → ((moves : List Move) → P moves → Q (move ∷ moves)) → Adds told tells old new Q
Adds-more told tells old mid new P Q move first second step =
    Adds-append told tells old mid new P _ Q first second
    (λ moves one p is. subst (λ (m : List Move). Q (m ++ moves)) (sym is) (step moves p))

-- a call that added nothing
pub Adds-kept : {S : Type 0} (told : S → Type 0) (tells : S → List Move → Type 0) (old mid new : S) (P Q : List Move → Type 0)
    → Adds told tells old mid P → Adds told tells mid new (λ moves. moves ≡ [])
    → ((moves : List Move) → P moves → Q moves) → Adds told tells old new Q
Adds-kept told tells old mid new P Q first second step =
    Adds-append told tells old mid new P _ Q first second
    (λ moves none p is. subst (λ (m : List Move). Q (m ++ moves)) (sym is) (step moves p))

-- the same moves, of which something else is said
pub Adds-weaken : {S : Type 0} (told : S → Type 0) (tells : S → List Move → Type 0) (old new : S) (P Q : List Move → Type 0)
    → Adds told tells old new P → ((moves : List Move) → P moves → Q moves) → Adds told tells old new Q
Adds-weaken told tells old new P Q all step = record {
  was = all.was;
  adds = λ t before is.
      let f = all.adds t before is in record { moves = f.moves; holds = step f.moves f.holds; told = f.told };
}
