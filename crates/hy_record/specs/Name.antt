-- The names under which clouds hold fragments: the key, and the two numbers of the timestamp in hexadecimal.
use Rattle.std.specs.Prelude.{ℕ, List, ◌++◌, codes}
use Rattle.hex.specs.Hex.{encode_lower}
use Rattle.byteorder.specs.Endian.{big_bytes}
use Rattle.hy_record.specs.Stamp.{Timestamp}

-- the number in eight digits
unfoldable pub hex_number : ℕ → List ℕ
hex_number n = encode_lower (big_bytes 4 n)

-- the parts of a name, put together
abbrev pub name_text : List ℕ → List ℕ → List ℕ → List ℕ
name_text key sn cid = codes "/o/" ++ (key ++ (codes "/" ++ (sn ++ cid)))

-- the name of what a write of this timestamp stored under the key
abbrev pub object_name : List ℕ → Timestamp → List ℕ
object_name key stamp = name_text key (hex_number stamp.sn) (hex_number stamp.cid)
