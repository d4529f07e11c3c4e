-- How a record starts: "A record starts with its length in two bytes, then a two-byte kind, all little-endian; the length
-- counts the whole record" (rule Records; 02, ticket 1); and when a whole record starts at the front of some bytes. Assumes nothing.
use Rattle.std.specs.Prelude.{Bool, ◌&&◌, List, ◌++◌, ℕ, ◌+◌, leb, length, take, drop}
use Rattle.wire.specs.Words.{word_bytes, word_at}

unfoldable pub length_field : List ℕ → ℕ
length_field bytes = word_at bytes 0

unfoldable pub kind_field : List ℕ → ℕ
kind_field bytes = word_at bytes 2

-- how a record of a size and a kind starts
unfoldable pub record_start : ℕ → ℕ → List ℕ
record_start size kind = word_bytes size ++ word_bytes kind

-- a whole record of a kind, around its contents
unfoldable pub record_of : ℕ → List ℕ → List ℕ
record_of kind contents = record_start (4 + length contents) kind ++ contents

-- where the numbers of a record begin: after the length, the kind and four bytes
abbrev pub start : ℕ
start = 8

-- the least length of a record in a trace: "outside 8 to" the greatest it is none
abbrev pub shortest : ℕ
shortest = 8

unfoldable pub is_length : ℕ → ℕ → Bool
is_length most n = leb shortest n && leb n most

-- a whole record starts here: its length is one, up to the greatest, and so many bytes are there
unfoldable pub starts_record : ℕ → List ℕ → Bool
starts_record most bytes = is_length most (length_field bytes) && leb (length_field bytes) (length bytes)

-- the record that starts here, and the bytes behind it
unfoldable pub record_in : List ℕ → List ℕ
record_in bytes = take (length_field bytes) bytes

unfoldable pub behind : List ℕ → List ℕ
behind bytes = drop (length_field bytes) bytes
