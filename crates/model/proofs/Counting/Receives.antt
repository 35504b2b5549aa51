-- What a receive takes (`receive_from` of specs/Matching.antt), and by which branch.
use Prim.Native.Nat.{ℕ, ◌+◌}
use mathlib.Core.Path.{◌≡◌, refl, sym, ◌∙◌, ap}
use mathlib.Core.List.Memᴰ
use mathlib.Core.List.{List, ◌∷◌, Memᴰ}
use mathlib.Core.Logic.{⊎_elim}
use mathlib.Core.Option.{some}
use Rattle.model.specs.Keys.{same_key}
use Rattle.model.specs.Rows.{Program}
use Rattle.model.specs.Heads.{branch_body_of}
use Rattle.model.specs.Values.{Value, Bindings}
use Rattle.model.specs.Matching.{match, Taken, first_branch, Received, receive_from}
use Rattle.model.specs.Letters.{Letter, value_letter, one_if, letters_in}
use Rattle.model.proofs.Transitions.Patterns.{match_exactly}
use Rattle.model.proofs.Transitions.Branches.{TakenBy, branch_gives, branch_has, TakenFrom, message_has}
use Rattle.model.proofs.Counting.Mailboxes.{letters_among}

-- a branch that is taken matches
pub record Chosen (p : Program) (held : Bindings) (bs : List ℕ) (v : Value) (t : Taken) : Type 0 where
  pub branch : ℕ
  pub listed : Memᴰ branch bs
  pub matches : match p held branch v ≡ some t.held
  pub goes_on : t.location ≡ branch_body_of p branch

pub chosen : (p : Program) (held : Bindings) (bs : List ℕ) (v : Value) (t : Taken) → first_branch p held bs v ≡ some t → Chosen p held bs v t
chosen p held bs v t h = by_first (branch_has p held v bs t h)
  where
    by_first : TakenBy p held v bs t → Chosen p held bs v t
    by_first r =
        let f = r.chosen in
        record {
          branch = r.branch;
          listed = rw f.there (Memᴰ.append_right f.before (Memᴰ.head refl));
          matches = rw r.is ((match_exactly p held r.branch v).gives r.held' f.matches);
          goes_on = ap (λ (u : Taken). u.location) r.is;
        }

-- a message that is received was there, and is no more; the others stay
pub record Got (p : Program) (held : Bindings) (bs : List ℕ) (vs : List Value) (m : Received) : Type 0 where
  pub message : Value
  pub was_there : Memᴰ message vs
  pub taken : first_branch p held bs message ≡ some m.taken
  pub counts : (l : Letter) → letters_in p vs l ≡ letters_in p m.mailbox l + one_if (same_key (value_letter p message) l)
  pub stays : (w : Value) → Memᴰ w m.mailbox → Memᴰ w vs

pub got : (p : Program) (held : Bindings) (bs : List ℕ) (vs : List Value) (m : Received) → receive_from p held bs vs ≡ some m → Got p held bs vs m
got p held bs vs m h = by_earliest (message_has p held bs vs m h)
  where
    by_earliest : TakenFrom p held bs vs m → Got p held bs vs m
    by_earliest g =
        record {
          message = g.message;
          was_there = rw g.there (Memᴰ.append_right g.before (Memᴰ.head refl));
          taken = branch_gives p held g.message g.by.chosen ∙ ap some (sym g.by.is);
          counts = λ l. rw (g.there, g.others) (letters_among p g.before g.behind g.message l);
          stays = λ w n. rw g.there
              (⊎_elim (Memᴰ.append_left (g.message ∷ g.behind)) (λ k. Memᴰ.append_right g.before (Memᴰ.tail k))
              (Memᴰ.append_cases g.before (rw g.others at n)));
        }
