-- The rules that read or put a letter which is asked for, passed on to the crates that ask for them.
unfoldable pub use Rattle.rules.specs.Within.{letter_passes, only_passing}
pub use Rattle.rules.specs.Within.{AskedLetters, RulesWithin}
