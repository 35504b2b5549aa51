-- The digest, byte by byte and word by word.
use Rattle.std.proofs.Common.{◌≡◌, ℕ, zero, suc, ◌+◌, ◌*◌, ◌/◌, ◌%◌, ◌^◌, ◌<◌, ◌≤◌, List, [], ◌∷◌, length, get_or, drop, sym, refl, ap, ◌∙◌, add-one, arith, drop-cons}
use lib.Seq.{drop-length}
use Rattle.corpus.specs.Digest.{with_byte, digest_from, with_word, words_from}

-- what is left gives what the whole gives
pub bytes_next : (h so_far i x : ℕ) (bytes : List ℕ) → digest_from h bytes ≡ digest_from so_far (drop i bytes) → i < length bytes → x ≡ with_byte so_far (get_or bytes i 0) → digest_from h bytes ≡ digest_from x (drop (i + 1) bytes)
unfolding digest_from
bytes_next h so_far i x bytes e l f = e ∙ rw (f, add-one i) (ap (digest_from so_far) (drop-cons bytes i 0 l))

pub bytes_end : (h so_far i : ℕ) (bytes : List ℕ) → digest_from h bytes ≡ digest_from so_far (drop i bytes) → i ≡ length bytes → so_far ≡ digest_from h bytes
unfolding digest_from
bytes_end h so_far i bytes e l = sym (e ∙ rw (l, drop-length bytes))

pub words_next : (h so_far i x : ℕ) (words : List ℕ) → words_from h words ≡ words_from so_far (drop i words) → i < length words → x ≡ with_word so_far (get_or words i 0) → words_from h words ≡ words_from x (drop (i + 1) words)
unfolding words_from
words_next h so_far i x words e l f = e ∙ rw (f, add-one i) (ap (words_from so_far) (drop-cons words i 0 l))

pub words_end : (h so_far i : ℕ) (words : List ℕ) → words_from h words ≡ words_from so_far (drop i words) → i ≡ length words → so_far ≡ words_from h words
unfolding words_from
words_end h so_far i words e l = sym (e ∙ rw (l, drop-length words))
