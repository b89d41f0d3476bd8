-- Worked values of the formats, a line each.
use Rattle.std.specs.Prelude.{ℕ, List, [], ◌∷◌, ◌++◌, codes, map, slice_index_or}
use Rattle.std.specs.List.{range_with_len}
use Rattle.std.specs.Fmt.{decimal}
use Rattle.hy_code.specs.Fragments.{fragment_of, rebuilt_value}
use Rattle.hy_code.specs.declared.pick.Pick.{Pick}
use Rattle.hy_gf.specs.Gf.{gf_product, gf_inverse}
use Rattle.hy_mwire.specs.Frames.{frame_of}
use Rattle.hy_mwire.specs.declared.message.Message.{Message}
use Rattle.hy_mwire.specs.declared.message.Message.TheVariants.{Join, Ask}
use Rattle.hy_record.specs.Name.{object_name}
use Rattle.hy_record.specs.Record.{tombstone}
use Rattle.hy_record.specs.Spelling.{record_bytes}
use Rattle.hy_record.specs.Stamp.{Timestamp}
use Rattle.hy_record.specs.declared.message.MetaAsk.TheVariants.{Read}
use Rattle.hy_text.specs.Line.{line_text}
use Rattle.hy_text.specs.Slot.{value_word}
use Rattle.sha2.specs.Sha256.{sha256}

-- a hash
abbrev pub hash_line : List ℕ → List ℕ
hash_line bytes = line_text (codes "sha256" ∷ value_word bytes ∷ value_word (sha256 bytes) ∷ [])

-- a product of the field
abbrev pub product_line : ℕ → ℕ → List ℕ
product_line a b = line_text (codes "times" ∷ value_word (a ∷ []) ∷ value_word (b ∷ []) ∷ value_word (gf_product a b ∷ []) ∷ [])

-- an inverse of the field
abbrev pub inverse_line : ℕ → List ℕ
inverse_line a = line_text (codes "inverse" ∷ value_word (a ∷ []) ∷ value_word (gf_inverse a ∷ []) ∷ [])

-- the fragments of the bytes 1 and 2, cut into two parts for four clouds
unfoldable pub four_fragments : List (List ℕ)
four_fragments = map (fragment_of (1 ∷ 2 ∷ []) 2) (range_with_len 0 4)

-- the words of the first four fragments
abbrev pub four_words : List (List ℕ) → List (List ℕ)
four_words fragments =
    value_word (slice_index_or fragments 0 []) ∷ value_word (slice_index_or fragments 1 [])
    ∷ value_word (slice_index_or fragments 2 []) ∷ value_word (slice_index_or fragments 3 []) ∷ []

-- the value and these fragments of it
abbrev pub fragments_line : List (List ℕ) → List ℕ
fragments_line fragments = line_text (codes "split" ∷ value_word (1 ∷ 2 ∷ []) ∷ decimal 2 ∷ decimal 4 ∷ four_words fragments)

-- the value and its fragments
abbrev pub split_line : List ℕ
split_line = fragments_line four_fragments

-- the fragments of the clouds 2 and 3
abbrev pub parity_picks : List Pick
parity_picks = record { cloud = 2; bytes = 7 ∷ [] } ∷ record { cloud = 3; bytes = 4 ∷ [] } ∷ []

-- the same value again, of the fragments of the clouds 2 and 3
abbrev pub rebuild_line : List ℕ
rebuild_line =
    line_text (codes "rebuild" ∷ decimal 2 ∷ decimal 2 ∷ codes "2:07" ∷ codes "3:04" ∷ value_word (rebuilt_value 2 2 parity_picks) ∷ [])

-- the first timestamp of client 1
abbrev pub first_stamp : Timestamp
first_stamp = record { sn = 1; cid = 1 }

-- the name of an object
abbrev pub name_line : List ℕ
name_line = line_text (codes "name" ∷ codes "a" ∷ decimal 1 ∷ decimal 1 ∷ object_name (codes "a") first_stamp ∷ [])

-- the spelling of a record
abbrev pub tomb_line : List ℕ
tomb_line = line_text (codes "tomb" ∷ decimal 1 ∷ decimal 1 ∷ value_word (record_bytes (tombstone first_stamp)) ∷ [])

-- the frame of a message that asks for a session
abbrev pub join_line : List ℕ
join_line = line_text (codes "frame" ∷ codes "join" ∷ value_word (frame_of Join) ∷ [])

-- the frame of a message that asks for the record of a key
abbrev pub read_line : List ℕ
read_line =
    line_text (codes "frame" ∷ codes "read" ∷ decimal 1 ∷ decimal 1 ∷ codes "a" ∷ value_word (frame_of (Ask (Read 1 1 (codes "a")))) ∷ [])

-- all lines
abbrev pub vectors_text : List ℕ
vectors_text =
    hash_line [] ++ hash_line (codes "abc") ++ product_line 2 128 ++ inverse_line 2 ++ product_line 2 142
    ++ split_line ++ rebuild_line ++ name_line ++ tomb_line ++ join_line ++ read_line
