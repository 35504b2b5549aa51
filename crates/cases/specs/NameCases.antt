-- Document 02, (xi): cases of the test of a process (NamesHeld.antt), worked out by hand: runs in which every name that
-- is read holds something, and programs that do not pass 5, in whose runs one does not.
use Rattle.std.specs.Prelude.{ℕ, zero, suc, ◌+◌, Bool, true, false, ◌&&◌, List, [], ◌∷◌, ◌++◌, map, length, take, replicate}
use Rattle.std.proofs.Math.Option.{some, none}
use Rattle.model.specs.declared.Verdict.TheVariants.{Scope}
use Rattle.model.specs.Verdict.{Check}
use Rattle.model.specs.Rows.{Program}
use Rattle.model.specs.Values.{Value, closure, built, address, Bindings, empty, bind, Process, process}
use Rattle.model.specs.Run.{run}
use Rattle.model.specs.Verify.{program_check}
use Rattle.model.specs.NamesHeld.{each_passes, holds_some, pattern_held, reads_held, outside_held, value_held}
use Rattle.model.specs.NamesHeld.{bindings_held, names_held}
use Rattle.cases.specs.Shown.{station}

-- A program with its refusal by 3 to 5, a list of numbers, the places of the processes then, and whether each name is
-- held in each process after each number.
pub record NameCase : Type 0 where
  pub program : Program
  pub check : Check
  pub numbers : List ℕ
  pub locations : List ℕ
  pub held : Bool

unfoldable pub held_after : Program → List ℕ → Bool
held_after p is = each_passes (names_held p) (run p is)

-- after the first k numbers, for each k up to n
unfoldable pub held_throughout : Program → List ℕ → ℕ → Bool
held_throughout p is zero = held_after p []
held_throughout p is (suc n) = held_after p (take (suc n) is) && held_throughout p is n

unfoldable pub obtained_case : NameCase → NameCase
obtained_case k =
    record {
      program = k.program;
      check = program_check k.program;
      numbers = k.numbers;
      locations = map (λ q. q.location) (run k.program k.numbers);
      held = held_throughout k.program k.numbers (length k.numbers);
    }

-- a program that passes 3 to 5, with a run that comes to these places
unfoldable pub held_run : Program → List ℕ → List ℕ → NameCase
held_run p is locations = record { program = p; check = none; numbers = is; locations = locations; held = true }

-- one that is refused by 5 at this place, with a run that meets an empty name
unfoldable pub empty_run : ℕ → Program → List ℕ → List ℕ → NameCase
empty_run at p is locations =
    record { program = p; check = some (Scope at); numbers = is; locations = locations; held = false }

-- x = self; f = fun () -> (g = fun () -> x; a = g(); a); b = f(); c = send b b; receive { =b -> c }: a function in a
-- function, a call in a call, a held name in a receive
unfoldable pub nested_functions : Program
nested_functions =
    station 6 0 0
    ((7, 0) ∷
    (3, 1) ∷ (22, 0) ∷ (3, 2) ∷ (22, 0) ∷ (1, 0) ∷ (4, 3) ∷ (21, 2) ∷ (22, 0) ∷ (1, 3) ∷
    (4, 4) ∷ (21, 1) ∷ (22, 0) ∷
    (5, 5) ∷ (21, 4) ∷ (21, 4) ∷
    (9, 1) ∷ (33, 4) ∷ (1, 5) ∷ [])

-- x = self; h = fun () -> x; m = c0(h); w = fun () -> receive { c0(k) -> a = k(); s = send a m; s }; p = spawn w; t =
-- send p m; receive { c0(_) -> p }: functions in bindings, in arguments and in mailboxes of two processes
unfoldable pub mailed_function : Program
mailed_function =
    station 9 1 0
    ((10, 1) ∷ (7, 0) ∷
    (3, 1) ∷ (22, 0) ∷ (1, 0) ∷
    (2, 2) ∷ (20, 0) ∷ (21, 1) ∷
    (3, 3) ∷ (22, 0) ∷ (9, 1) ∷ (31, 0) ∷ (30, 4) ∷
    (4, 5) ∷ (21, 4) ∷ (22, 0) ∷ (5, 6) ∷ (21, 5) ∷ (21, 2) ∷ (1, 6) ∷
    (6, 7) ∷ (21, 3) ∷
    (5, 8) ∷ (21, 7) ∷ (21, 2) ∷
    (9, 1) ∷ (31, 0) ∷ (32, 0) ∷ (1, 7) ∷ [])

-- g(a, b) = case a of { c0(=b) -> b; y -> y }; x = self; m = c0(x); r = g(m, x); s = g(x, x); r: parameters, a held
-- name under a constructor, either branch
unfoldable pub parameters_held : Program
parameters_held =
    station 8 1 1
    ((10, 1) ∷
    (11, 0) ∷ (22, 2) ∷ (23, 1) ∷ (23, 2) ∷ (8, 1) ∷ (25, 2) ∷ (31, 0) ∷ (33, 2) ∷ (1, 2) ∷ (30, 3) ∷ (1, 3) ∷
    (7, 4) ∷ (2, 5) ∷ (20, 0) ∷ (21, 4) ∷
    (4, 6) ∷ (21, 0) ∷ (22, 2) ∷ (21, 5) ∷ (21, 4) ∷
    (4, 7) ∷ (21, 0) ∷ (22, 2) ∷ (21, 4) ∷ (21, 4) ∷ (1, 6) ∷ [])

-- make() = x = self; h = fun () -> x; h; k = make(); b = k(); b: where h is called no x is bound, where it was made
-- there was
unfoldable pub made_elsewhere : Program
made_elsewhere =
    station 5 0 1
    ((11, 0) ∷ (22, 0) ∷ (7, 1) ∷ (3, 2) ∷ (22, 0) ∷ (1, 1) ∷ (1, 2) ∷
    (4, 3) ∷ (21, 0) ∷ (22, 0) ∷
    (4, 4) ∷ (21, 3) ∷ (22, 0) ∷ (1, 4) ∷ [])

-- f = fun () -> (x = self; x); x: the row behind the scope of x
unfoldable pub row_late : Program
row_late = station 2 0 0 ((3, 0) ∷ (22, 0) ∷ (7, 1) ∷ (1, 1) ∷ (1, 1) ∷ [])

-- x = self; case x of { c0(y) -> x; _ -> y }: the name of a branch in the next
unfoldable pub next_branch : Program
next_branch =
    station 2 1 0
    ((10, 1) ∷ (7, 0) ∷ (8, 0) ∷ (25, 2) ∷ (31, 0) ∷ (30, 1) ∷ (1, 0) ∷ (32, 0) ∷ (1, 1) ∷ [])

-- x = self; case x of { c0(y) -> x; c0(=y) -> x; _ -> x }: the same in a pattern, and the branch is not taken
unfoldable pub next_pattern : Program
next_pattern =
    station 2 1 0
    ((10, 1) ∷ (7, 0) ∷ (8, 0) ∷ (25, 3) ∷
    (31, 0) ∷ (30, 1) ∷ (1, 0) ∷ (31, 0) ∷ (33, 1) ∷ (1, 0) ∷ (32, 0) ∷ (1, 0) ∷ [])

-- x = self; receive { c0(y) -> x; c0(=y) -> x }: the same in a receive
unfoldable pub next_receive : Program
next_receive =
    station 2 1 0
    ((10, 1) ∷ (7, 0) ∷ (9, 2) ∷ (31, 0) ∷ (30, 1) ∷ (1, 0) ∷ (31, 0) ∷ (33, 1) ∷ (1, 0) ∷ [])

-- f = fun () -> y; y = self; y: a function that is kept, and never called, reads a name from outside that is bound
-- after it was made
unfoldable pub bound_later : Program
bound_later = station 2 0 0 ((3, 0) ∷ (22, 0) ∷ (1, 1) ∷ (7, 1) ∷ (1, 1) ∷ [])

-- f = fun () -> f(): a function's name does not hold in its own body
unfoldable pub own_body : Program
own_body = station 2 0 0 ((3, 0) ∷ (22, 0) ∷ (4, 1) ∷ (21, 0) ∷ (22, 0) ∷ (1, 1) ∷ (1, 0) ∷ [])

unfoldable pub name_cases : List NameCase
name_cases =
    held_run nested_functions (replicate 9 0) (18 ∷ []) ∷
    held_run mailed_function (replicate 6 0 ++ replicate 4 1 ++ 0 ∷ []) (28 ∷ 19 ∷ []) ∷
    held_run parameters_held (replicate 8 0) (26 ∷ []) ∷
    held_run made_elsewhere (replicate 6 0) (13 ∷ []) ∷
    -- the places of refusal are 4 and the row
    empty_run 8 row_late (replicate 1 0) (4 ∷ []) ∷
    empty_run 12 next_branch (replicate 2 0) (8 ∷ []) ∷
    empty_run 12 next_pattern (replicate 1 0) (2 ∷ []) ∷
    empty_run 11 next_receive (replicate 1 0) (2 ∷ []) ∷
    empty_run 6 bound_later (replicate 1 0) (3 ∷ []) ∷
    empty_run 7 own_body (replicate 1 0) (6 ∷ []) ∷
    []

-- The function of `bound_later` that keeps nothing, so that the name which it reads from outside is empty, and the same
-- that keeps it
unfoldable pub keeps_nothing : Value
keeps_nothing = closure 0 empty

unfoldable pub keeps_name : Value
keeps_name = closure 0 (bind 1 (address 0) empty)

-- a process at the start of `bound_later`, where no name is read, with these bindings, pushed bindings and messages
unfoldable pub process_with : Bindings → List Bindings → List Value → Process
process_with held pushed mailbox = process 5 3 held (map (λ b. record { call = 0; held = b }) pushed) mailbox

-- Processes that no run comes to, each with a function in one place, and whether each name is held
unfoldable pub kept_cases : List (Process × Bool)
kept_cases =
    (process_with empty [] [], true) ∷
    (process_with (bind 0 keeps_name empty) (bind 0 keeps_name empty ∷ []) (keeps_name ∷ []), true) ∷
    -- in the bindings, the older too; in an argument; in what another function keeps
    (process_with (bind 0 keeps_nothing empty) [] [], false) ∷
    (process_with (bind 0 (address 0) (bind 0 keeps_nothing empty)) [] [], false) ∷
    (process_with (bind 0 (built 2 0 (bind 0 keeps_nothing empty)) empty) [] [], false) ∷
    (process_with (bind 0 (closure 0 (bind 1 keeps_nothing empty)) empty) [] [], false) ∷
    -- in the bindings of a pushed call, the first and a later one
    (process_with empty (bind 0 keeps_nothing empty ∷ []) [], false) ∷
    (process_with empty (empty ∷ bind 0 keeps_nothing empty ∷ []) [], false) ∷
    -- in the mailbox, the first message and a later one
    (process_with empty [] (keeps_nothing ∷ []), false) ∷
    (process_with empty [] (address 0 ∷ built 2 0 (bind 0 keeps_nothing empty) ∷ []), false) ∷
    []

-- the definitions above opened at once, for the theorems that compute the tables
unfoldable pub name_cases_opens : Unit {0}
unfolding each_passes holds_some pattern_held reads_held outside_held value_held bindings_held names_held held_after
    held_throughout obtained_case held_run empty_run nested_functions mailed_function parameters_held made_elsewhere
    row_late next_branch next_pattern next_receive bound_later own_body name_cases keeps_nothing keeps_name process_with
    kept_cases
name_cases_opens = tt
