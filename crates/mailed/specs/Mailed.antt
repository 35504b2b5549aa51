-- The scan of refusal 22, in parts with names; 22 "between 8 and 9".
use Rattle.std.specs.Prelude.{ℕ, Bool, ◌||◌, eqb}
use Rattle.model.specs.declared.Sizes.{Sizes}
use Rattle.model.specs.Limits.{present}
use Rattle.model.specs.Tags.{tag_function, tag_global}
use Rattle.model.specs.Index.{first}
use Rattle.model.specs.Words.{right}
use Rattle.model.specs.Verdict.{Check, ◌>>◌}
use Rattle.model.specs.Rows.{Program, tag}
use Rattle.model.specs.Tables.{Tables, mailed_check_of}
use Rattle.model.specs.Counters.{counter_check_of}

-- the value of mail entry i "has tag 3 or 11"
abbrev pub does_mail_function : Program → Tables → ℕ → Bool
does_mail_function p t i =
    eqb (tag p (right t.mail i)) tag_function || eqb (tag p (right t.mail i)) tag_global

-- the first such entry from entry i on; M where there is none
unfoldable pub mails_from : Program → Tables → ℕ → ℕ
mails_from p t i = first i t.mail.size (does_mail_function p t)

-- refusals 22 and 9, in that order
unfoldable pub mailed_then_counters : Sizes → Program → Tables → Check
mailed_then_counters s p t = mailed_check_of s p t >> counter_check_of present s p t
