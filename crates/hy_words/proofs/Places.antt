-- The first place in a list of what each element is seen as, and operands that are left.
use Rattle.std.proofs.Common.{◌≡◌, ◌<◌, Bool, not, List, [], ◌∷◌, map, length, String, Err, refl, arith}
use Rattle.std.specs.List.{position, prefix_len}
use Rattle.std.proofs.lemmas.List.{length-map}
use Rattle.std.specs.declared.alloc.Global.{Global}
use Rattle.hy_base.specs.declared.fault.Cause.TheVariants.{Extra}
use Rattle.hy_text.specs.Slot.{end_of}
use Rattle.hy_words.specs.Operands.{operands_left}

prefix_len-map : {X Y : Type 0} (p : Y → Bool) (f : X → Y) (xs : List X) → prefix_len p (map f xs) ≡ prefix_len (λ x. p (f x)) xs
prefix_len-map p f [] = refl
prefix_len-map p f (x ∷ xs) = rw (prefix_len-map p f xs) refl

pub position-map : {X Y : Type 0} (p : Y → Bool) (f : X → Y) (xs : List X) → position p (map f xs) ≡ position (λ x. p (f x)) xs
position-map p f xs = rw (prefix_len-map (λ x. not (p x)) f xs, length-map xs f) refl

-- an operand before the option is one too many
pub one_left : (front back : List (String Global)) → 0 < length front → end_of (operands_left front back) ≡ Err Extra
one_left [] back some = absurd (omega (arith, some))
one_left (word ∷ front) back some = refl
