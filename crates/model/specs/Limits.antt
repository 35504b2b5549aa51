-- Document 01, "The message", Limits, and document 02, (v) and (vi): each limit by its name, once. (src/lib.rt has the
-- same numbers as constants for the code; antt can't cite a constant of Rattle, and a contract of the code that reads
-- one is refused where the two differ.)
use Rattle.std.specs.Prelude.{ℕ}

-- The limits that request (vi) of document 02 raises: of R, of S and of the counters. A verdict is a function of them.
pub record Limits : Type 0 where
  pub rows : ℕ
  pub states : ℕ
  pub counters : ℕ

-- Document 01: "R 1 to 1,024", "M and S to 512", "counters to 512"
abbrev pub former : Limits
former = record { rows = 1024; states = 512; counters = 512 }

-- Document 02, (vi): "R to 1,536, and S and counters to 1,024"
abbrev pub present : Limits
present = record { rows = 1536; states = 1024; counters = 1024 }

-- the present ones, each by its name
abbrev pub max_rows : ℕ
max_rows = present.rows

abbrev pub max_states : ℕ
max_states = present.states

abbrev pub max_counters : ℕ
max_counters = present.counters

-- V 1 to 512
abbrev pub max_names : ℕ
max_names = 512

-- C and G to 64
abbrev pub max_constructors : ℕ
max_constructors = 64

abbrev pub max_functions : ℕ
max_functions = 64

-- B 1 to 16
abbrev pub max_bads : ℕ
max_bads = 16

-- bad rows 4 to 256
abbrev pub min_bad_rows : ℕ
min_bad_rows = 4

abbrev pub max_bad_rows : ℕ
max_bad_rows = 256

-- F to 4,096
abbrev pub max_flows : ℕ
max_flows = 4096

-- M to 512
abbrev pub max_mails : ℕ
max_mails = 512

-- K to 256
abbrev pub max_ceilings : ℕ
max_ceilings = 256

-- ceiling entries to 8,192
abbrev pub max_ceiling_entries : ℕ
max_ceiling_entries = 8192

-- document 02, (v): "W lines (1 to 16) and E entries (to 8,192)", "weights 1 to 1,000"
abbrev pub max_lines : ℕ
max_lines = 16

abbrev pub max_weight_entries : ℕ
max_weight_entries = 8192

abbrev pub max_weight : ℕ
max_weight = 1000

-- Arity, parameters and a call's count to 8
abbrev pub max_arity : ℕ
max_arity = 8

-- branches 1 to 16
abbrev pub max_branches : ℕ
max_branches = 16

-- pattern depth to 4 (a name has depth 1)
abbrev pub max_depth : ℕ
max_depth = 4

-- "limits 1 to 65,535, the last meaning unbounded"
abbrev pub omega_limit : ℕ
omega_limit = 65535
