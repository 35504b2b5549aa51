-- Which branch takes a value and which message a receive takes: `first_branch` and `receive_from` (specs/Matching.antt) are `FirstBranch` and the
-- earliest message that a branch matches.
use Prim.Native.Nat.{ℕ}
use mathlib.Core.Logic.{⊎_elim}
use mathlib.Core.Path.{◌≡◌, refl, sym, ◌∙◌, ap, subst}
use mathlib.Core.List.Memᴰ
use mathlib.Core.List.{List, [], ◌∷◌, ◌++◌, Memᴰ, append-nil}
use mathlib.Core.Option.{some, none, some-injective, none-ne-some, some-ne-none}
use Rattle.model.specs.Rows.{Program}
use Rattle.model.specs.Heads.{branch_body_of}
use Rattle.model.specs.Values.{Value, Bindings}
use Rattle.model.specs.Matching.{match, Taken, first_branch, Received, receive_from}
use Rattle.model.specs.Patterns.{Match, Refuses, FirstBranch}
use Rattle.model.proofs.Reader.{by_option}
use Rattle.model.proofs.Transitions.Exactly.{gives_none, has_none}
use Rattle.model.proofs.Transitions.Patterns.{match_exactly}

-- each element of the list
abbrev pub Every : {A : Type 0} (P : A → Type 0) → List A → Type 0
Every {A} P xs = (a : A) → Memᴰ a xs → P a

every_cons : {A : Type 0} (P : A → Type 0) {x : A} {xs : List A} → P x → Every P xs → Every P (x ∷ xs)
every_cons P {x} h others a m = ⊎_elim (λ (z : a ≡ x). subst P (sym z) h) (λ k. others a k) (Memᴰ.cases_cons m)

module _ (p : Program) (held : Bindings) where
  -- the branch at row b, with what it binds
  abbrev taken : ℕ → Bindings → Taken
  taken b held' = record { location = branch_body_of p b; held = held' }

  -- no branch of these matches
  abbrev pub RefusedBy : List ℕ → Value → Type 0
  RefusedBy bs v = Every (λ b. Refuses p held b v) bs

  module _ (v : Value) where
    -- branches that do not match are passed over
    passed_over : (before bs : List ℕ) → RefusedBy before v → first_branch p held (before ++ bs) v ≡ first_branch p held bs v
    unfolding first_branch
    passed_over [] bs none-matches = refl
    passed_over (b ∷ before) bs none-matches =
        rw (has_none (match_exactly p held b v) (none-matches b (Memᴰ.head refl)), first_branch)
        (passed_over before bs (λ c m. none-matches c (Memᴰ.tail m)))

    matching_taken : (b : ℕ) (bs : List ℕ) (held' : Bindings) → Match p held b v held' → first_branch p held (b ∷ bs) v ≡ some (taken b held')
    unfolding first_branch
    matching_taken b bs held' k = rw ((match_exactly p held b v).gives held' k, first_branch)

    pub branch_gives : {bs : List ℕ} {b : ℕ} {held' : Bindings} → FirstBranch p held bs v b held' → first_branch p held bs v ≡ some (taken b held')
    branch_gives {bs} {b} {held'} f =
        ap (λ (cs : List ℕ). first_branch p held cs v) f.there ∙ passed_over f.before (b ∷ f.behind) f.first ∙
        matching_taken b f.behind held' f.matches

    pub branch_refused : (bs : List ℕ) → first_branch p held bs v ≡ none → RefusedBy bs v
    unfolding first_branch
    branch_refused [] h = λ b m. absurd (Memᴰ.not-nil m)
    branch_refused (b ∷ bs) h =
        by_option (match p held b v)
        (λ e. every_cons (λ c. Refuses p held c v) (gives_none (match_exactly p held b v) e) (branch_refused bs (rw (e, first_branch) at h)))
        (λ held' e. absurd (some-ne-none (taken b held') (rw (e, first_branch) at h)))

    -- the branch that is taken
    pub record TakenBy (bs : List ℕ) (t : Taken) : Type 0 where
      pub branch : ℕ
      pub held' : Bindings
      pub chosen : FirstBranch p held bs v branch held'
      pub is : t ≡ taken branch held'

    pub branch_has : (bs : List ℕ) (t : Taken) → first_branch p held bs v ≡ some t → TakenBy bs t
    unfolding first_branch
    branch_has [] t h = absurd (none-ne-some t h)
    branch_has (b ∷ bs) t h =
        by_option (match p held b v)
        (λ e.
        let r = branch_has bs t (rw (e, first_branch) at h) in
        let f = r.chosen in
        record {
          branch = r.branch;
          held' = r.held';
          chosen = record {
            before = b ∷ f.before;
            behind = f.behind;
            there = ap {B = List ℕ} (λ cs. b ∷ cs) f.there;
            matches = f.matches;
            first = every_cons (λ c. Refuses p held c v) (gives_none (match_exactly p held b v) e) f.first;
          };
          is = r.is;
        })
        (λ held' e.
        record {
          branch = b;
          held' = held';
          chosen = record {
            before = [];
            behind = bs;
            there = refl;
            matches = (match_exactly p held b v).has held' e;
            first = λ c m. absurd (Memᴰ.not-nil m);
          };
          is = sym (some-injective (taken b held') t (rw (e, first_branch) at h));
        })

    pub branches_none : (bs : List ℕ) → RefusedBy bs v → first_branch p held bs v ≡ none
    unfolding first_branch
    branches_none bs h = ap (λ (cs : List ℕ). first_branch p held cs v) (sym (append-nil bs)) ∙ passed_over bs [] h

  module _ (bs : List ℕ) where
    -- no branch matches any of these messages
    abbrev pub AllRefused : List Value → Type 0
    AllRefused vs = Every (RefusedBy bs) vs

    -- the mailbox without the message
    abbrev left_over : List Value → Received → Received
    left_over before r = record { taken = r.taken; mailbox = before ++ r.mailbox }

    pub message_gives : {v : Value} {b : ℕ} {held' : Bindings} (before behind : List Value) → AllRefused before → FirstBranch p held bs v b held' → receive_from p held bs (before ++ v ∷ behind) ≡ some (record { taken = taken b held'; mailbox = before ++ behind })
    unfolding receive_from
    message_gives {v} [] behind h f = rw (branch_gives v f, receive_from)
    message_gives {v} (w ∷ before) behind h f =
        rw (branches_none w bs (h w (Memᴰ.head refl)), receive_from, message_gives before behind (λ u m. h u (Memᴰ.tail m)) f)

    pub messages_refused : (vs : List Value) → receive_from p held bs vs ≡ none → AllRefused vs
    unfolding receive_from
    messages_refused [] h = λ v m. absurd (Memᴰ.not-nil m)
    messages_refused (v ∷ vs) h =
        by_option (first_branch p held bs v)
        (λ e. by_option (receive_from p held bs vs)
        (λ f. every_cons (RefusedBy bs) (branch_refused v bs e) (messages_refused vs f))
        (λ r f. absurd (some-ne-none (left_over (v ∷ []) r) (rw (e, f, receive_from) at h))))
        (λ t e. absurd (some-ne-none (record { taken = t; mailbox = vs }) (rw (e, receive_from) at h)))

    pub messages_none : (vs : List Value) → AllRefused vs → receive_from p held bs vs ≡ none
    unfolding receive_from
    messages_none [] h = refl
    messages_none (v ∷ vs) h =
        rw (branches_none v bs (h v (Memᴰ.head refl)), receive_from, messages_none vs (λ w m. h w (Memᴰ.tail m)))

    -- the message that is taken
    pub record TakenFrom (vs : List Value) (r : Received) : Type 0 where
      pub before : List Value
      pub behind : List Value
      pub message : Value
      pub there : vs ≡ before ++ message ∷ behind
      pub earliest : AllRefused before
      pub by : TakenBy message bs r.taken
      pub others : r.mailbox ≡ before ++ behind

    pub message_has : (vs : List Value) (r : Received) → receive_from p held bs vs ≡ some r → TakenFrom vs r
    unfolding receive_from
    message_has [] r h = absurd (none-ne-some r h)
    message_has (v ∷ vs) r h =
        by_option (first_branch p held bs v)
        (λ e. by_option (receive_from p held bs vs)
        (λ f. absurd (none-ne-some r (rw (e, f, receive_from) at h)))
        (λ r' f.
        let g = message_has vs r' f in
        subst (TakenFrom (v ∷ vs)) (some-injective (left_over (v ∷ []) r') r (rw (e, f, receive_from) at h))
        (record {
          before = v ∷ g.before;
          behind = g.behind;
          message = g.message;
          there = ap {B = List Value} (λ us. v ∷ us) g.there;
          earliest = every_cons (RefusedBy bs) (branch_refused v bs e) g.earliest;
          by = g.by;
          others = ap {B = List Value} (λ us. v ∷ us) g.others;
        })))
        (λ t e. subst (TakenFrom (v ∷ vs)) (some-injective (record { taken = t; mailbox = vs }) r (rw (e, receive_from) at h))
        (record {
          before = [];
          behind = vs;
          message = v;
          there = refl;
          earliest = λ w m. absurd (Memᴰ.not-nil m);
          by = branch_has v bs t e;
          others = refl;
        }))
