-- The rooms that hold any message within the limits, each by what stands in it.
use Rattle.std.specs.Prelude.{ℕ, ◌+◌, ◌*◌, ◌/◌}
use Rattle.model.specs.Limits.{max_rows, max_names, max_constructors, max_arity, max_mails}
use Rattle.model.specs.Limits.{max_ceilings, max_counters}

-- a word for each row, one for the end, and one for where what belongs to the end ends
abbrev pub row_room : ℕ
row_room = max_rows + 2

-- four tables of so many words, one behind the other
abbrev pub rule_words : ℕ
rule_words = 4 * row_room

-- the words of a set of values: a bit for each row, and one for the class of the start
abbrev pub set_words : ℕ
set_words = max_rows / 64 + 1

-- a set for each name, and one for the start
abbrev pub name_sets_of : ℕ
name_sets_of = (max_names + 1) * set_words

-- a set for each row
abbrev pub row_sets_of : ℕ
row_sets_of = max_rows * set_words

-- a set of names for each row
abbrev pub fitting_sets_of : ℕ
fitting_sets_of = max_rows * (max_names / 64 + 1)

-- the number of each letter, and room for one that is too many
abbrev pub letter_codes_of : ℕ
letter_codes_of = max_counters + 1

-- the words of a set of letters
abbrev pub letter_words : ℕ
letter_words = max_counters / 64 + 1

-- a set of letters for each digit and each head, and for each mail entry; a set and a word for each state find room
-- with them, since states and letters together are no more than the counters
abbrev pub letter_sets_of : ℕ
letter_sets_of = ((max_arity + 1) * (max_constructors + 2) + max_mails) * letter_words

-- for each counter two sets of ceilings, a bit for each ceiling
abbrev pub mask_pairs_of : ℕ
mask_pairs_of = max_counters * 8

-- for each counter, which every state is, three sets of ceilings
abbrev pub mask_triples_of : ℕ
mask_triples_of = max_counters * 12

-- a limit for each counter under each ceiling
abbrev pub limit_room : ℕ
limit_room = max_counters * max_ceilings
