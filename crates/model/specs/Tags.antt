-- Document 01: each tag by its name, once. (src/lib.rt has the same numbers as constants for the code; a contract of
-- the code that reads one is refused where the two differ.)
use Rattle.std.specs.Prelude.{ℕ}

-- "Expressions, by their head", and the rows before them
-- gives back a name, or ends
abbrev pub tag_give : ℕ
tag_give = 1

-- builds a value
abbrev pub tag_build : ℕ
tag_build = 2

-- makes a function
abbrev pub tag_function : ℕ
tag_function = 3

-- calls
abbrev pub tag_call : ℕ
tag_call = 4

-- sends
abbrev pub tag_send : ℕ
tag_send = 5

-- spawns
abbrev pub tag_spawn : ℕ
tag_spawn = 6

-- the process's own address
abbrev pub tag_self : ℕ
tag_self = 7

-- case
abbrev pub tag_case : ℕ
tag_case = 8

-- receive
abbrev pub tag_receive : ℕ
tag_receive = 9

-- a constructor and its arity
abbrev pub tag_constructor : ℕ
tag_constructor = 10

-- a function that holds everywhere
abbrev pub tag_global : ℕ
tag_global = 11

-- the rows behind a head
-- the constructor that a build applies
abbrev pub tag_made : ℕ
tag_made = 20

-- a name read
abbrev pub tag_operand : ℕ
tag_operand = 21

-- how many parameters or arguments
abbrev pub tag_count : ℕ
tag_count = 22

-- a parameter
abbrev pub tag_parameter : ℕ
tag_parameter = 23

-- how many branches a case has
abbrev pub tag_branches : ℕ
tag_branches = 25

-- "Patterns"
-- a pattern: a name
abbrev pub tag_pattern_name : ℕ
tag_pattern_name = 30

-- a pattern: a constructor
abbrev pub tag_pattern_constructor : ℕ
tag_pattern_constructor = 31

-- a pattern: any value
abbrev pub tag_pattern_any : ℕ
tag_pattern_any = 32

-- a pattern: a held name
abbrev pub tag_pattern_held : ℕ
tag_pattern_held = 33

-- the rows of bads
-- an item of a bad: its class
abbrev pub tag_class : ℕ
tag_class = 40

-- its head
abbrev pub tag_head : ℕ
tag_head = 41

-- or its letter
abbrev pub tag_letter : ℕ
tag_letter = 42

-- its minimum
abbrev pub tag_minimum : ℕ
tag_minimum = 43

-- the head of an argument of its letter
abbrev pub tag_argument : ℕ
tag_argument = 45

-- closes a bad
abbrev pub tag_bad_end : ℕ
tag_bad_end = 44

-- the rows of the listing
-- a rule: takes from
abbrev pub tag_from : ℕ
tag_from = 50

-- adds to
abbrev pub tag_to : ℕ
tag_to = 51

-- reads
abbrev pub tag_reads : ℕ
tag_reads = 52

-- puts
abbrev pub tag_puts : ℕ
tag_puts = 53

-- starts
abbrev pub tag_starts : ℕ
tag_starts = 54
