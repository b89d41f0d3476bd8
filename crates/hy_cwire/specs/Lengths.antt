-- What the fields of a head say of the body.
use Rattle.std.specs.Prelude.{ℕ, ◌-◌, ◌^◌, min, Bool, ◌&&◌, List, [], ◌∷◌, length, filter, map, Option, Some, None, Result, Ok, Err, if◌then◌else◌, nat_lt, codes}
use Rattle.std.specs.List.{list_all}
use Rattle.std.specs.Str.{str_eq_ignore_ascii_case}
use Rattle.std.specs.Char.{is_ascii_digit}
use Rattle.std.specs.Str.Parse.{digits_value}
use Rattle.hy_cwire.specs.declared.fault.HttpFault.{HttpFault}
use Rattle.hy_cwire.specs.declared.fault.HttpFault.TheVariants.{Coding, LengthTwice, NoLength, BodyTooLong}

-- a field's name, and its value without the white space around it
abbrev pub Pair : Type 0
Pair = List ℕ × List ℕ

-- the field has this name; names ignore case
abbrev pub has_name : List ℕ → Pair → Bool
has_name name field = str_eq_ignore_ascii_case field.0 name

-- the values of the fields of this name
unfoldable pub values_named : List ℕ → List Pair → List (List ℕ)
values_named name fields = map (λ (field : Pair). field.1) (filter (has_name name) fields)

-- the number that one or more digits spell, or the greatest of 64 bits
abbrev pub length_of : List ℕ → Option ℕ
length_of value =
    if nat_lt 0 (length value) && list_all is_ascii_digit value then Some (min (digits_value 10 value) (2 ^ 64 - 1))
    else None

abbrev pub at_most : ℕ → Option ℕ → Result ℕ HttpFault
at_most limit None = Err NoLength
at_most limit (Some size) = if nat_lt limit size then Err (BodyTooLong size) else Ok size

-- the size of a body, by the values of its length: whether one is needed, and the limit
abbrev pub size_by : Bool → ℕ → List (List ℕ) → Result ℕ HttpFault
size_by needed limit [] = if needed then Err NoLength else Ok 0
size_by needed limit (value ∷ []) = at_most limit (length_of value)
size_by needed limit (value ∷ other ∷ more) = Err LengthTwice

-- a coded body is refused
abbrev pub unless_coded : List (List ℕ) → Result ℕ HttpFault → Result ℕ HttpFault
unless_coded [] size = size
unless_coded (coding ∷ more) size = Err Coding

-- the size of the body of a message that has these fields
abbrev pub body_size : Bool → ℕ → List Pair → Result ℕ HttpFault
body_size needed limit fields =
    unless_coded (values_named (codes "transfer-encoding") fields)
    (size_by needed limit (values_named (codes "content-length") fields))

-- the size of a body that is not there, whatever length is given
abbrev pub no_body : List Pair → Result ℕ HttpFault
no_body fields = unless_coded (values_named (codes "transfer-encoding") fields) (Ok 0)
