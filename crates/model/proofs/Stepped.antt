-- Every step keeps the invariant and follows a rule of the system.
use Prim.Native.Nat.{ℕ, zero, suc, ◌+◌, ◌<◌}
use native.Mathlib.Omega.{arith}
use mathlib.Core.Path.{◌≡◌, refl, sym, ◌∙◌, ap, subst}
use mathlib.Core.Bool.{true}
use mathlib.Core.List.{List, [], ◌∷◌, ◌++◌, Memᴰ}
use mathlib.Core.Option.{some, some-injective, none-ne-some}
use lib.ListN.{length, get_or, get_elem?, set, length-map}
use Rattle.model.specs.Rows.{Program, size, tag, kind}
use Rattle.model.specs.Scopes.{rest}
use Rattle.model.specs.Heads.{body}
use Rattle.model.specs.Letters.{head_count, row_head_of, value_letter, return_of, state_in}
use Rattle.model.specs.Values.{Value, Process, process, Processes}
use Rattle.model.specs.Run.{moved, spawned, act, step_of}
use Rattle.model.specs.Tables.{Tables, State, onward}
use Rattle.model.specs.Tables.{state as triple}
use Rattle.model.specs.Counters.{letters_allowed, has_letter}
use Rattle.model.specs.Rules.{rules}
use Rattle.model.specs.Wanted.{Member, ListedState, Closed}
use Rattle.model.proofs.Reader.{by_option}
use Rattle.model.proofs.Heads.{by_kind}
use Rattle.model.proofs.Acts.{act_other}
use Rattle.model.proofs.Covering.{row_for}
use Rattle.model.proofs.Numbering.Letters.{key_of, key_has}
use Rattle.model.proofs.Counting.Deliveries.{Delivery, deliver_some}
use Rattle.model.proofs.Follow.Changes.{Change, no_change, read_one, put_one, start_one, Moves, Known, rule_of}
use Rattle.model.proofs.Follow.Steps.{moves_on, receives_one, sends_one, starts_one}
use Rattle.model.proofs.Parse.Reached.{RowsFit}
use Rattle.model.proofs.Parse.Lengths.{ColumnsWhole}
use Rattle.model.proofs.Invariant.{classes_of, Good, AllGood, good_at, good_set, good_append, all_good_grown}
use Rattle.model.proofs.Steps.Letters.{Classes}
use Rattle.model.proofs.Steps.Quiet.{Quietly, build_step, function_step, self_step, call_step, give_step, case_step}
use Rattle.model.proofs.Steps.Receive.{Receives, receive_step}
use Rattle.model.proofs.Steps.Send.{Sent, send_step, mailed_more}
use Rattle.model.proofs.Steps.Spawn.{Spawned, spawn_step}

-- a step with the rule that follows it
pub record Stepped (p : Program) (t : Tables) (qs qs' : Processes) : Type 0 where
  pub from : State
  pub to : State
  pub change : Change
  pub is_rule : Memᴰ (rule_of p t from to change) (rules p t)
  pub moves : Moves p qs qs' from to change
  pub from_there : ListedState t from
  pub to_there : ListedState t to
  pub known : Known p t change
  pub good : AllGood p t (classes_of qs') qs'

-- the classes of processes, one of which is changed or one of which is new

classes_at : (qs : Processes) (i : ℕ) (q : Process) → get_elem? qs i ≡ some q → (i < length (classes_of qs)) × (get_or (classes_of qs) i 0 ≡ q.class)
unfolding classes_of
classes_at [] i q h = absurd (none-ne-some q h)
classes_at (x ∷ qs) zero q h = (omega arith, ap (λ (y : Process). y.class) (some-injective x q h))
classes_at (x ∷ qs) (suc i) q h = let (a, b) = classes_at qs i q h in (omega arith, b)

classes_set : (qs : Processes) (i : ℕ) (q q' : Process) → get_elem? qs i ≡ some q → q'.class ≡ q.class → classes_of (set qs i q') ≡ classes_of qs
unfolding classes_of
classes_set [] i q q' h e = refl
classes_set (x ∷ qs) zero q q' h e = ap {B = List ℕ} (λ c. c ∷ classes_of qs) (e ∙ sym (ap (λ (y : Process). y.class) (some-injective x q h)))
classes_set (x ∷ qs) (suc i) q q' h e = ap {B = List ℕ} (λ l. x.class ∷ l) (classes_set qs i q q' h e)

classes_append : (qs : Processes) (q : Process) → classes_of (qs ++ (q ∷ [])) ≡ classes_of qs ++ (q.class ∷ [])
unfolding classes_of
classes_append [] q = refl
classes_append (x ∷ qs) q = ap {B = List ℕ} (λ l. x.class ∷ l) (classes_append qs q)

-- every process has a class
pub classed : (p : Program) (t : Tables) (classes : List ℕ) (qs : Processes) → AllGood p t classes qs → Classes p (classes_of qs)
unfolding classes_of
classed p t classes [] g i h = absurd (omega arith)
classed p t classes (q ∷ qs) g zero h = g.0.class
classed p t classes (q ∷ qs) g (suc i) h = classed p t classes qs g.1 i (omega arith)

sized : (qs : Processes) → length qs ≡ length (classes_of qs)
unfolding classes_of
sized qs = sym (length-map qs (λ q. q.class))

module _ (p : Program) (t : Tables) (fit : RowsFit p) (w : ColumnsWhole p) (past_end : tag p (size p) ≡ 0) (low : (v : ℕ) → row_head_of p v < head_count p) (closed : Closed p t) (qs : Processes) (good : AllGood p t (classes_of qs) qs) (i : ℕ) (q : Process) (there : get_elem? qs i ≡ some q) (qs' : Processes) where
  abbrev classes : List ℕ
  classes = classes_of qs

  -- one process changed, of the same class: the others are as they were
  set_good : (q' : Process) → q'.class ≡ q.class → Good p t classes q' → AllGood p t (classes_of (set qs i q')) (set qs i q')
  set_good q' e h = rw (classes_set qs i q q' there e) (good_set p t classes qs i q' good h)

  q_good : Good p t classes q
  q_good = good_at p t classes qs i q good there

  -- a covered value that mail has, has a letter counter
  letter_known : (c : ℕ) (v : Value) → Member t.mail c (row_for classes v) → Memᴰ (value_letter p v) (letters_allowed p t (row_for classes v)) → has_letter p t c (value_letter p v) ≡ true
  letter_known c v m a = key_has p t c (value_letter p v) (key_of p t c (row_for classes v) (value_letter p v) m a)

  quietly : Quietly p t classes qs i q qs' → Stepped p t qs qs'
  quietly x =
      let q' : Process = process q.class x.to x.held x.frames q.mailbox in
      subst (Stepped p t qs) (sym x.result)
      (record {
        from = state_in p q;
        to = state_in p q';
        change = no_change;
        is_rule = x.follows;
        moves = moves_on p qs i q q' there refl refl;
        from_there = q_good.present;
        to_there = x.good.present;
        known = tt;
        good = set_good q' refl x.good;
      })

  receiving : Receives p t classes qs i q qs' → Stepped p t qs qs'
  receiving x =
      let q' : Process = process q.class x.to x.held q.frames x.received.mailbox in
      let v : Value = x.taken.message in
      let (mailed, allowed) = x.mailed in
      subst (Stepped p t qs) (sym x.result)
      (record {
        from = state_in p q;
        to = state_in p q';
        change = read_one q.class (value_letter p v);
        is_rule = x.follows;
        moves = receives_one p qs i q q' there refl x.branches x.received x.taken refl;
        from_there = q_good.present;
        to_there = x.good.present;
        known = letter_known q.class v mailed allowed;
        good = set_good q' refl x.good;
      })

  delivered_good : (x : Sent p t classes qs i q qs') → Delivery (set qs i (moved q (rest p q.location) x.held)) x.target x.message qs' → AllGood p t (classes_of qs') qs'
  unfolding moved
  delivered_good x d =
      let q' : Process = moved q (rest p q.location) x.held in
      let b : Process = d.target in
      let ps : Processes = set qs i q' in
      let before : AllGood p t classes ps = good_set p t classes qs i q' good x.good in
      let gb = good_at p t classes ps x.target b before d.found in
      let same : classes_of ps ≡ classes = classes_set qs i q q' there refl in
      let b' : Process = process b.class b.location b.held b.frames (b.mailbox ++ (x.message ∷ [])) in
      let (inside, class) = classes_at ps x.target b d.found in
      let mailed : Member t.mail b.class (row_for classes x.message) = subst (λ (c : ℕ). Member t.mail c (row_for classes x.message)) (sym (ap (λ (l : List ℕ). get_or l x.target 0) same) ∙ class) x.mailed in
      subst (λ (rs : Processes). AllGood p t (classes_of rs) rs) (sym d.result)
      (rw (classes_set ps x.target b b' d.found refl ∙ same)
      (good_set p t classes ps x.target b' before
      (record {
        location = gb.location;
        class = gb.class;
        present = gb.present;
        held = gb.held;
        frames = gb.frames;
        mailbox = mailed_more p t classes b.class b.mailbox x.message gb.mailbox mailed x.covered;
      })))

  sending : Sent p t classes qs i q qs' → Stepped p t qs qs'
  unfolding moved
  sending x =
      let q' : Process = moved q (rest p q.location) x.held in
      let v : Value = x.message in
      let (a, found, moves) = sends_one p qs i q q' there refl x.target v qs' refl x.result in
      let (inside, same_Class) = classes_at qs x.target a found in
      record {
        from = state_in p q;
        to = onward (state_in p q) (rest p q.location);
        change = put_one a.class (value_letter p v);
        is_rule = subst (λ (c : ℕ). Memᴰ (rule_of p t (state_in p q) (onward (state_in p q) (rest p q.location)) (put_one c (value_letter p v))) (rules p t)) same_Class x.follows;
        moves = moves;
        from_there = q_good.present;
        to_there = x.good.present;
        known = subst (λ (c : ℕ). Known p t (put_one c (value_letter p v))) same_Class (letter_known (get_or classes x.target 0) v x.mailed x.allowed);
        good = delivered_good x (deliver_some (set qs i q') x.target v qs' x.result);
      }

  -- a process spawned: classes grow by its own
  spawning : Spawned p t classes qs i q qs' → Stepped p t qs qs'
  unfolding moved spawned return_of
  spawning x =
      let q' : Process = moved q (rest p q.location) x.held in
      let new : Process = spawned p q.location x.function in
      let grown : classes_of (set qs i q' ++ (new ∷ [])) ≡ classes ++ (q.location ∷ []) =
      classes_append (set qs i q') new ∙ ap {B = List ℕ} (λ l. l ++ (q.location ∷ [])) (classes_set qs i q q' there refl) in
      subst (Stepped p t qs) (sym x.result)
      (record {
        from = state_in p q;
        to = onward (state_in p q) (rest p q.location);
        change = start_one (triple q.location (body p x.function.row) (size p));
        is_rule = x.follows;
        moves = starts_one p qs i q q' there refl new refl refl;
        from_there = q_good.present;
        to_there = x.good.present;
        known = x.new_good.present;
        good = rw grown
            (good_append p t (classes ++ (q.location ∷ [])) (set qs i q') new
            (good_set p t (classes ++ (q.location ∷ [])) qs i q' (all_good_grown p t classes (q.location ∷ []) qs good) x.good) x.new_good);
      })

  acted : act p qs i q ≡ some qs' → Stepped p t qs qs'
  acted h =
      let g = q_good in
      let cs = classed p t classes qs good in
      let (inside, own) = classes_at qs i q there in
      by_kind (kind (tag p q.location))
      (λ k. quietly (give_step p t fit w closed classes qs i q qs' g h k))
      (λ k. quietly (build_step p t fit w closed classes qs i q qs' g h k))
      (λ k. quietly (function_step p t fit w closed classes qs i q qs' g h k))
      (λ k. quietly (call_step p t fit w closed classes qs i q qs' g h k))
      (λ k. sending (send_step p t fit w past_end low closed classes cs qs i q qs' g k h))
      (λ k. spawning (spawn_step p t fit w closed classes qs (sized qs) i q qs' g k h))
      (λ k. quietly (self_step p t fit w closed classes qs i q qs' g h own inside k))
      (λ k. quietly (case_step p t fit w closed classes qs i q qs' g h cs k))
      (λ k. receiving (receive_step p t fit w past_end low closed classes cs qs i q qs' g k h))
      (λ k. absurd (none-ne-some qs' (sym (act_other p qs i q k) ∙ h)))

-- "For each number in turn that process steps"
pub step_stepped : (p : Program) (t : Tables) → RowsFit p → ColumnsWhole p → tag p (size p) ≡ 0 → ((v : ℕ) → row_head_of p v < head_count p) → Closed p t → (qs : Processes) → AllGood p t (classes_of qs) qs → (i : ℕ) (qs' : Processes) → step_of p qs i ≡ some qs' → Stepped p t qs qs'
unfolding step_of
step_stepped p t fit w past_end low closed qs good i qs' h =
    by_option (get_elem? qs i) (λ e. absurd (none-ne-some qs' (rw (e, step_of) at h)))
    (λ q e. acted p t fit w past_end low closed qs good i q e qs' (rw (e, step_of) at h))
