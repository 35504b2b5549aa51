-- The invariant of every run: each process is at a state of the tables, and all that it keeps is covered by them.
use Prim.Native.Nat.{ℕ, zero, suc, ◌+◌}
use mathlib.Core.Path.{◌≡◌, sym, subst}
use mathlib.Core.Bool.{true}
use mathlib.Core.List.{List, [], ◌∷◌, ◌++◌, map, Memᴰ}
use mathlib.Core.Option.{some, some-injective, none-ne-some}
use lib.ListN.{get_elem?, set}
use Rattle.model.specs.Rows.{Program, tag}
use Rattle.model.specs.Heads.{is_class_of}
use Rattle.model.specs.Values.{Value, Frame, Process, Processes}
use Rattle.model.specs.Tables.{Tables}
use Rattle.model.specs.Tables.{state as triple}
use Rattle.model.specs.Letters.{return_of, state_in}
use Rattle.model.specs.Wanted.{Member, ListedState}
use Rattle.model.proofs.Covering.{row_for, Covered, Held}
use Rattle.model.proofs.Grow.{row_for_grown, covered_grown, held_grown}
use Rattle.model.proofs.Parse.Locations.{Location}

-- the class of each process
unfoldable pub classes_of : Processes → List ℕ
classes_of qs = map (λ q. q.class) qs

-- a pushed call of a process of class c, which itself returns to b, is at a state of the tables
pub record Waits (p : Program) (t : Tables) (classes : List ℕ) (c b : ℕ) (f : Frame) : Type 0 where
  pub location : Location p f.call
  pub is_call : tag p f.call ≡ 4
  pub present : ListedState t (triple c f.call b)
  pub held : Held p t classes f.held

-- each pushed call, with the one before it as its return
abbrev pub Frames : Program → Tables → List ℕ → ℕ → List Frame → Type 0
Frames p t classes c [] = Unit {0}
Frames p t classes c (f ∷ fs) = Waits p t classes c (return_of p fs) f × Frames p t classes c fs

-- each message is covered, and mail has it
abbrev pub Mailed : Program → Tables → List ℕ → ℕ → List Value → Type 0
Mailed p t classes c vs = (v : Value) → Memᴰ v vs → Member t.mail c (row_for classes v) × Covered p t classes v

pub record Good (p : Program) (t : Tables) (classes : List ℕ) (q : Process) : Type 0 where
  pub location : Location p q.location
  pub class : is_class_of p q.class ≡ true
  pub present : ListedState t (state_in p q)
  pub held : Held p t classes q.held
  pub frames : Frames p t classes q.class q.frames
  pub mailbox : Mailed p t classes q.class q.mailbox

abbrev pub AllGood : Program → Tables → List ℕ → Processes → Type 0
AllGood p t classes [] = Unit {0}
AllGood p t classes (q ∷ qs) = Good p t classes q × AllGood p t classes qs

module _ (p : Program) (t : Tables) (classes : List ℕ) where
  pub good_at : (qs : Processes) (i : ℕ) (q : Process) → AllGood p t classes qs → get_elem? qs i ≡ some q → Good p t classes q
  good_at [] i q g e = absurd (none-ne-some q e)
  good_at (x ∷ qs) zero q g e = subst (Good p t classes) (some-injective x q e) g.0
  good_at (x ∷ qs) (suc i) q g e = good_at qs i q g.1 e

  pub good_set : (qs : Processes) (i : ℕ) (q : Process) → AllGood p t classes qs → Good p t classes q → AllGood p t classes (set qs i q)
  good_set [] i q g h = tt
  good_set (x ∷ qs) zero q g h = (h, g.1)
  good_set (x ∷ qs) (suc i) q g h = (g.0, good_set qs i q g.1 h)

  pub good_append : (qs : Processes) (q : Process) → AllGood p t classes qs → Good p t classes q → AllGood p t classes (qs ++ (q ∷ []))
  good_append [] q g h = (h, tt)
  good_append (x ∷ qs) q g h = (g.0, good_append qs q g.1 h)

-- a new process changes nothing of the others
module _ (p : Program) (t : Tables) (classes more : List ℕ) where
  frames_grown : (c : ℕ) (fs : List Frame) → Frames p t classes c fs → Frames p t (classes ++ more) c fs
  frames_grown c [] h = tt
  frames_grown c (f ∷ fs) h =
      let w = h.0 in (
        record {
          location = w.location;
          is_call = w.is_call;
          present = w.present;
          held = held_grown p t classes more f.held w.held;
        },
        frames_grown c fs h.1,
      )

  pub good_grown : (q : Process) → Good p t classes q → Good p t (classes ++ more) q
  good_grown q g =
      record {
        location = g.location;
        class = g.class;
        present = g.present;
        held = held_grown p t classes more q.held g.held;
        frames = frames_grown q.class q.frames g.frames;
        mailbox = λ v m. let h = g.mailbox v m in
            (subst (Member t.mail q.class) (sym (row_for_grown p t classes more v h.1)) h.0, covered_grown p t classes more v h.1);
      }

  pub all_good_grown : (qs : Processes) → AllGood p t classes qs → AllGood p t (classes ++ more) qs
  all_good_grown [] g = tt
  all_good_grown (q ∷ qs) g = (good_grown q g.0, all_good_grown qs g.1)
