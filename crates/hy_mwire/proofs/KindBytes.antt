-- A byte names at most one kind, and each kind has its byte.
use Rattle.std.proofs.Common.{◌≡◌, ◌≢◌, ℕ, Bool, true, false, cond, List, [], ◌∷◌, Option, Some, None, refl, sym, ap, ◌∙◌}
use Rattle.std.specs.Prelude.{◌==◌}
use Rattle.std.specs.List.{find}
use Rattle.std.proofs.lemmas.Bool.{eqb-true}
use Rattle.hy_mwire.specs.declared.kind.MessageKind.{MessageKind}
use Rattle.hy_mwire.specs.declared.kind.MessageKind.TheVariants.{Join, Joined, Full, Ask, Say}
use Rattle.hy_mwire.specs.declared.kind.AskKind.TheVariants.{Read, Update, Watch, Olds, Forget}
use Rattle.hy_mwire.specs.declared.kind.SayKind.TheVariants.{Has, Applied, Kept, Fired, OldList, Forgot}
use Rattle.hy_mwire.specs.Kind.{kind_byte, all_kinds, kind_of}

-- what is found passes the test
find-passes : {X : Type 0} (p : X → Bool) (xs : List X) (x : X) → find p xs ≡ Some x → p x ≡ true
find-passes p [] x e = absurd cc
find-passes p (y ∷ xs) x e = at (p y) refl e (find-passes p xs x)
  where
    at : (b : Bool) → p y ≡ b → cond b (Some y) (find p xs) ≡ Some x → (find p xs ≡ Some x → p x ≡ true) → p x ≡ true
    at true passes found later = let same : y ≡ x = cc in ap p (sym same) ∙ passes
    at false fails found later = later found

-- the byte of a kind names it
pub kind_of-kind_byte : (kind : MessageKind) → kind_of (kind_byte kind) ≡ Some kind
kind_of-kind_byte Join = refl
kind_of-kind_byte Joined = refl
kind_of-kind_byte Full = refl
kind_of-kind_byte (Ask Read) = refl
kind_of-kind_byte (Ask Update) = refl
kind_of-kind_byte (Ask Watch) = refl
kind_of-kind_byte (Ask Olds) = refl
kind_of-kind_byte (Ask Forget) = refl
kind_of-kind_byte (Say Has) = refl
kind_of-kind_byte (Say Applied) = refl
kind_of-kind_byte (Say Kept) = refl
kind_of-kind_byte (Say Fired) = refl
kind_of-kind_byte (Say OldList) = refl
kind_of-kind_byte (Say Forgot) = refl

-- a byte that names a kind is its byte
pub kind_byte-kind_of : (byte : ℕ) (kind : MessageKind) → kind_of byte ≡ Some kind → kind_byte kind ≡ byte
kind_byte-kind_of byte kind e = eqb-true (kind_byte kind) byte (find-passes (λ k. kind_byte k == byte) all_kinds kind e)

-- no kind has a byte that names none
pub kind_of-none : (byte : ℕ) → kind_of byte ≡ None → (kind : MessageKind) → kind_byte kind ≢ byte
kind_of-none byte none kind same = let some : kind_of byte ≡ Some kind = ap kind_of (sym same) ∙ kind_of-kind_byte kind in absurd (let clash = sym none ∙ some in cc)

-- a byte that no kind has names none
pub kind_of-strange : (byte : ℕ) → ((kind : MessageKind) → kind_byte kind ≢ byte) → kind_of byte ≡ None
kind_of-strange byte strange = at (kind_of byte) refl
  where
    at : (found : Option MessageKind) → kind_of byte ≡ found → kind_of byte ≡ None
    at None is = is
    at (Some kind) is = absurd (strange kind (kind_byte-kind_of byte kind is))
