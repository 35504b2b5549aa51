-- Document 01, "Station A": what the program prints. "A program reads the message from standard input, lends 16,384
-- words, and prints number and place, then, if safe, the four system sizes, then a tag and number a line."
use Rattle.std.specs.Prelude.{ℕ, ◌+◌, ◌*◌, List, [], ◌++◌, replicate}
use Rattle.model.specs.declared.Verdict.{Verdict}
use Rattle.model.specs.Verdict.{number, place}
use Rattle.model.specs.Message.{max_words}
use Rattle.model.specs.Verify.{verdict, if_safe, lent_after}
use Rattle.text.specs.Text.{line}
use Rattle.report.specs.System.{system_text}

abbrev pub lent_words : ℕ
lent_words = 16384

-- Document 02, (vi): "the printing program reads it whole", the longest message; the byte behind it tells a longer one
abbrev pub most_read : ℕ
most_read = 2 * max_words + 1

-- what is told of a message
unfoldable pub told : List ℕ → List ℕ
told bytes =
    let v : Verdict = verdict bytes lent_words in
    line (number v) (place v) ++ if_safe v (system_text (lent_after bytes (replicate lent_words 0))) []

-- no text is longer: a line for the verdict, one for the sizes, and 8,190 rows
abbrev pub most_text : ℕ
most_text = 350000
