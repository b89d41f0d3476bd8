-- The three methods are tokens, so what is no token is none of them.
use Rattle.std.proofs.Common.{◌≡◌, ℕ, Bool, true, false, List, [], ◌∷◌, None, refl, sym, subst, lit<}
use Rattle.std.specs.Prelude.{codes, bytes_eq, IsTrue}
use Rattle.std.proofs.lemmas.List.Elements.{All-nil, All-cons}
use Rattle.std.proofs.lemmas.Slice.Eq.{bytes_eq-Decides}
use Rattle.http_header.specs.Token.{IsToken, is_token_byte}
use Rattle.hy_cwire.specs.Asks.{kind_named}

abbrev Passes : ℕ → Type 0
Passes b = IsTrue (is_token_byte b)

put_token : IsToken (codes "PUT")
unfolding is_token_byte
put_token = (lit< tt, All-cons Passes 80 (85 ∷ 84 ∷ []) refl (All-cons Passes 85 (84 ∷ []) refl (All-cons Passes 84 [] refl (All-nil Passes))))

get_token : IsToken (codes "GET")
unfolding is_token_byte
get_token = (lit< tt, All-cons Passes 71 (69 ∷ 84 ∷ []) refl (All-cons Passes 69 (84 ∷ []) refl (All-cons Passes 84 [] refl (All-nil Passes))))

delete_token : IsToken (codes "DELETE")
unfolding is_token_byte
delete_token = (lit< tt, All-cons Passes 68 (69 ∷ 76 ∷ 69 ∷ 84 ∷ 69 ∷ []) refl (All-cons Passes 69 (76 ∷ 69 ∷ 84 ∷ 69 ∷ []) refl (All-cons Passes 76 (69 ∷ 84 ∷ 69 ∷ []) refl (All-cons Passes 69 (84 ∷ 69 ∷ []) refl (All-cons Passes 84 (69 ∷ []) refl (All-cons Passes 69 [] refl (All-nil Passes)))))))

other : (method text : List ℕ) → IsToken text → ¬ (IsToken method) → bytes_eq method text ≡ false
other method text token none = at (bytes_eq method text) refl
  where
    at : (b : Bool) → bytes_eq method text ≡ b → bytes_eq method text ≡ false
    at true is = absurd (none (subst IsToken (sym ((bytes_eq-Decides method text).0 is)) token))
    at false is = is

pub kind_named-none : (method : List ℕ) → ¬ (IsToken method) → kind_named method ≡ None
kind_named-none method none =
    let put = other method (codes "PUT") put_token none in
    let get = other method (codes "GET") get_token none in
    let delete = other method (codes "DELETE") delete_token none in
    rw (put, get, delete) refl
