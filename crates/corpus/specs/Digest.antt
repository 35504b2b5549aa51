-- FNV-1a with 64 bits, as the stored corpus of the other implementation has it.
use Rattle.std.specs.Prelude.{ℕ, ◌*◌, ◌/◌, ◌%◌, ◌^◌, List, [], ◌∷◌, bit_xor}

abbrev pub prime : ℕ
prime = 1099511628211

-- what the digest of nothing is
abbrev pub empty : ℕ
empty = 14695981039346656037

-- one byte more
unfoldable pub with_byte : ℕ → ℕ → ℕ
with_byte h b = (bit_xor h b * prime) % 2 ^ 64

unfoldable pub digest_from : ℕ → List ℕ → ℕ
digest_from h [] = h
digest_from h (b ∷ bytes) = digest_from (with_byte h b) bytes

-- one word more, as four bytes, the lowest first
unfoldable pub with_word : ℕ → ℕ → ℕ
with_word h w = with_byte (with_byte (with_byte (with_byte h (w % 256)) (w / 256 % 256)) (w / 65536 % 256))
    (w / 16777216 % 256)

unfoldable pub words_from : ℕ → List ℕ → ℕ
words_from h [] = h
words_from h (w ∷ words) = words_from (with_word h w) words
