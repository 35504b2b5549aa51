-- What one layer's tables say is what the next one asks.
use Prim.Native.Nat.{ℕ, ◌+◌, ◌*◌, ◌-◌, ◌/◌, ◌≤◌, ◌<◌}
use native.Mathlib.Nat.{mul-le-mul_left, mul-le-mul_right}
use native.Mathlib.Decide.{ℕ_discrete}
use native.Mathlib.Omega.{arith}
use mathlib.Core.Path.{◌≡◌, refl, sym, ap, ◌∙◌}
use mathlib.Core.List.{List, ◌++◌}
use mathlib.Core.Option.{none}
use lib.ListN.{length, take, drop, length-drop, length-append}
use lib.Seq.{length-take-le}
use borrow.Author.Rules.{part_to_end}
use borrow.Author.Tests.{leb-true, eq-eqb, ne_eqb}
use Rattle.rooms.specs.Rooms.{letter_sets_of, rule_words}
use Rattle.rooms.specs.Cleared.{Cleared}
use Rattle.model.specs.declared.Sizes.{Sizes}
use Rattle.model.specs.Verdict.{◌>>◌}
use Rattle.model.specs.Words.{columns}
use Rattle.model.specs.Rows.{Program, program, row_check_of}
use Rattle.model.specs.Limits.{present, max_counters}
use Rattle.model.specs.Tables.{Tables, tables, entries, entry_check_of}
use Rattle.model.specs.Scopes.{name_check_of, scope_check_of}
use Rattle.model.specs.Closed.{open_check}
use Rattle.model.specs.Letters.{head_count}
use Rattle.model.specs.Counters.{letter_count_of, counter_count, counter_check_of}
use Rattle.model.specs.Ceilings.{ceiling_check_of}
use Rattle.model.specs.Weights.{weight_check_of}
use Rattle.model.specs.Verify.{program_check}
use Rattle.model.proofs.Exact.Checks.{unless_none}
use Rattle.model.proofs.Logic.{chosen_true, chosen_false}
use Rattle.model.proofs.Exact.Entries.{ceiling_none, weight_none}
use Rattle.model.proofs.Numbering.Within.{within_exactly}
use Rattle.lists.specs.Lists.{Starts}
use Rattle.lists.specs.Ready.{Ready}
use Rattle.layout.specs.Tables.{Ends}
use Rattle.positions.specs.Branches.{BranchBits}
use Rattle.values.specs.Values.{width, Empty}
use Rattle.matching_names.specs.Names.{FittingSets}
use Rattle.evidence.specs.Whole.{PartsWhole}
use Rattle.ceilings_form.specs.Parts as ceilings
use Rattle.bads_rows.specs.Items.{BadsInForm}
use Rattle.closure_sized.proofs.Opening.{sets_fit, empty_sets}
use Rattle.system_letters.specs.Letters.{ClassLetters, letter_width_of, allowed_set, LetterSets}
use Rattle.letter_codes.specs.Codes.{capped}
use Rattle.letter_codes.proofs.Capped.{capped_few}
use Rattle.letter_sets.specs.Sets.{LetterRoom}
use Rattle.rules.specs.Derived.{read_set, owner_at, Reads}
use Rattle.pattern_heads.specs.Fitting.{MatchTables}
use Rattle.branch_letters.specs.Kept.{OwnersRoom}
use Rattle.rule_tables.specs.Joined.{table_room, flow_from, branches_from, letter_from, JoinedTables, SameBelow, Joined}
use Rattle.rule_tables.proofs.Joining.{ends_kept, starts_kept, branches_kept, same_part, put_rest, put_below}
use Rattle.stages.specs.Order.{form_check}
use Rattle.stages.specs.Scratch.{Formed, Lined, Numbered, ClosedTables, Lettered}

-- refusals 3 to 5 found nothing
pub program_passes : (p : Program) → row_check_of p ≡ none → name_check_of p ≡ none → scope_check_of p ≡ none → program_check p ≡ none
unfolding program_check ◌>>◌
program_passes p r n h = rw (r, n, h)

pub ready : (ws : List ℕ) (s : Sizes) → PartsWhole ws s → program_check (program ws s) ≡ none → entry_check_of s (program ws s) (tables ws s) ≡ none → Ready ws s
ready ws s w p e =
    record { whole = w.program; held = w.held; limits = w.limits; well_formed = p; in_form = e }

pub ceilings_whole : (ws : List ℕ) (s : Sizes) → PartsWhole ws s → ceilings.Whole ws s
ceilings_whole ws s w = record { limits = w.limits; held = w.held }

-- the bounds in form are those that the message has
pub numbered : (ws : List ℕ) (s : Sizes) (n : ℕ) → Formed ws s n → s.lines ≡ 0 → Numbered ws s n
unfolding form_check
numbered ws s n h e =
    let f = sym (chosen_true _ (ceiling_check_of ws s n) _ (eq-eqb s.lines 0 e)) ∙ h.in_form in
    record { counted = h.counted; in_form = (ceiling_none ws s n).0 f; bads = h.bads }

pub lined : (ws : List ℕ) (s : Sizes) (n : ℕ) → Formed ws s n → 1 ≤ s.lines → Lined ws s n
unfolding form_check
lined ws s n h e =
    let f = sym (chosen_false _ _ (weight_check_of ws s n) (ne_eqb s.lines 0 (λ z. omega arith))) ∙ h.in_form in
    record { some = e; counted = h.counted; in_form = (weight_none ws s n).0 f; bads = h.bads }

-- a table of words as long as it was made
module _ (ws : List ℕ) (s : Sizes) (before after : List ℕ) (h : Ready ws s) (l : length after ≡ rule_words) where
  front_kept : (n : ℕ) → table_room ≤ n → length before ≡ rule_words → SameBelow n before after → Ends (program ws s) before → Ends (program ws s) after
  unfolding program columns
  front_kept n m e k = ends_kept (program ws s) n before after (let z = h.limits.rows.1 in omega arith) (l ∙ sym e) k

  flow_kept : (starts : List ℕ) → SameBelow (s.names + 1) starts (drop flow_from after) → Starts (tables ws s).flow s.names starts → Starts (tables ws s).flow s.names (drop flow_from after)
  flow_kept starts = starts_kept (tables ws s).flow s.names starts (drop flow_from after) (let z = h.limits.names.1 in let y = length-drop flow_from after in omega arith)

  bits_kept : (branches : List ℕ) → SameBelow s.states branches (drop branches_from after) → BranchBits (program ws s) (tables ws s) branches → BranchBits (program ws s) (tables ws s) (drop branches_from after)
  unfolding tables entries columns
  bits_kept branches = branches_kept (program ws s) (tables ws s) branches (drop branches_from after) (let z = h.limits.states in let y = length-drop branches_from after in omega arith)

-- what refusal 8 leaves, joined in
pub closed_tables : (ws : List ℕ) (s : Sizes) (starts branches before after fitting : List ℕ) → Ready ws s → ceilings.Whole ws s → BadsInForm ws s → open_check s (program ws s) (tables ws s) ≡ none → length before ≡ rule_words → Ends (program ws s) before → Starts (tables ws s).flow s.names starts → FittingSets (program ws s) (tables ws s) fitting → BranchBits (program ws s) (tables ws s) branches → Joined s starts branches before after → ClosedTables ws s after fitting
closed_tables ws s starts branches before after fitting h w b o e a f g i j =
    let long = j.long ∙ e in
    record {
      ready = h;
      whole = w;
      bads = b;
      closed = o;
      room = long;
      ends = front_kept ws s before after h long flow_from (omega arith) e j.front a;
      flow_starts = flow_kept ws s before after h long starts (λ x l. j.flow x (omega arith)) f;
      fitting_sets_of = g;
      branch_bits = bits_kept ws s before after h long branches j.branch i;
    }

-- a list whose rest behind a was lent is as long when it comes back
part_long : (a : ℕ) (xs ys : List ℕ) → a ≤ length xs → length ys ≡ length (take (length xs - a) (drop a xs)) → length (take a xs ++ (ys ++ drop (length xs - a) (drop a xs))) ≡ length xs
part_long a xs ys h e =
    let d = length-drop a xs in
    let r = length-drop (length xs - a) (drop a xs) in
    let p = ap length (part_to_end xs a) in
    let t = length-take-le a xs h in
    simp length-append (omega arith)

-- there is room for where the letters of each class begin
pub letters_fit : (ws : List ℕ) (s : Sizes) (narrow fitting : List ℕ) → ClosedTables ws s narrow fitting → s.rows + 1 < length (take (length narrow - letter_from) (drop letter_from narrow))
letters_fit ws s narrow fitting c =
    let p = ap length (part_to_end narrow letter_from) in
    let d = length-drop letter_from narrow in
    let l = c.ready.limits.rows.1 in
    let r = c.room in
    omega arith

-- the part for the letters, lent and come back as ys
module _ (ws : List ℕ) (s : Sizes) (narrow fitting ys : List ℕ) (c : ClosedTables ws s narrow fitting) where
  letters_put : List ℕ
  letters_put = take letter_from narrow ++ (ys ++ drop (length narrow - letter_from) (drop letter_from narrow))

  letters_begin : letter_from ≤ length narrow
  letters_begin = let z = c.room in omega arith

  pub closed_kept : length ys ≡ length (take (length narrow - letter_from) (drop letter_from narrow)) → ClosedTables ws s (take letter_from narrow ++ (ys ++ drop (length narrow - letter_from) (drop letter_from narrow))) fitting
  unfolding letters_put
  closed_kept e =
      let h = c.ready in
      let same = put_below letter_from narrow (ys ++ drop (length narrow - letter_from) (drop letter_from narrow)) letters_begin in
      let long : length letters_put ≡ rule_words = part_long letter_from narrow ys letters_begin e ∙ c.room in
      record {
        ready = h;
        whole = c.whole;
        bads = c.bads;
        closed = c.closed;
        room = long;
        ends = front_kept ws s narrow letters_put h long letter_from (omega arith) c.room same c.ends;
        flow_starts = flow_kept ws s narrow letters_put h long (drop flow_from narrow) (same_part flow_from (s.names + 1) letter_from narrow letters_put (let z = h.limits.names.1 in omega arith) same) c.flow_starts;
        fitting_sets_of = c.fitting_sets_of;
        branch_bits = bits_kept ws s narrow letters_put h long (drop branches_from narrow) (same_part branches_from s.states letter_from narrow letters_put (let z = h.limits.states in omega arith) same) c.branch_bits;
      }

  pub letters_kept : ClassLetters (program ws s) (tables ws s) ys → ClassLetters (program ws s) (tables ws s) (drop letter_from (take letter_from narrow ++ (ys ++ drop (length narrow - letter_from) (drop letter_from narrow))))
  letters_kept h = rw (put_rest letter_from narrow ys letters_begin) h

-- all that the rules are derived from
module _ (ws : List ℕ) (s : Sizes) (narrow fitting names codes : List ℕ) (n : ℕ) (c : Lettered ws s narrow fitting names codes n) where
  pub letters_from : letter_from ≤ length narrow
  letters_from = let z = c.closed_tables.room in omega arith

  pub lent_classes : ClassLetters (program ws s) (tables ws s) (take (length narrow - letter_from) (drop letter_from narrow))
  lent_classes = rw (part_to_end narrow letter_from) c.class_letters

  pub counters_few : counter_count (program ws s) (tables ws s) ≤ max_counters
  counters_few = omega (arith, c.formed.counted, c.few)

  pub match_tables : (w : ℕ) → w ≡ width s.names → MatchTables ws s w fitting names
  match_tables w e = record { ready = c.closed_tables.ready; name_width = e; fitting_sets_of = c.closed_tables.fitting_sets_of; name_heads = c.name_heads }

  pub rule_tables : (letters : List ℕ) → LetterSets (program ws s) (tables ws s) letters → Reads (program ws s) (tables ws s) letters → JoinedTables ws s narrow fitting names letters
  rule_tables letters d e =
      let k = c.closed_tables in
      record {
        ready = k.ready;
        closed = k.closed;
        few = counters_few;
        ends = k.ends;
        flow_starts = k.flow_starts;
        name_width = refl;
        fitting_sets_of = k.fitting_sets_of;
        name_heads = c.name_heads;
        class_letters = c.class_letters;
        letter_sets_of = d;
        reads = e;
        branch_bits = k.branch_bits;
      }

-- no message needs more words for sets of letters: where there are more letters there are fewer states
sets_words : (r k n w : ℕ) → r ≤ 1106 + k → k + n ≤ 1024 → w ≡ n / 64 + 1 → r * w + k ≤ 18802
sets_words r k n w a b e =
    let d = 17 - w in
    let wide : w ≤ 17 = omega arith in
    let few : k ≤ 64 * d = omega arith in
    let x : r * w ≤ (1106 + k) * w = mul-le-mul_right w a in
    let y : k * w ≤ 64 * d * w = mul-le-mul_right w few in
    let z : d * w ≤ d * 16 = elim (ℕ_discrete w 17) [ yes q ↦ omega (arith, none d w q refl) | no q ↦ mul-le-mul_left d (omega arith) ] in
    omega arith
  where
    none : (d w : ℕ) → w ≡ 17 → d ≡ 17 - w → d * w ≡ 0
    none d w q e = let z : d ≡ 0 = omega arith in rw z (omega arith)

-- the sets of letters, and their words
module _ (ws : List ℕ) (s : Sizes) where
  pub words_most : Ready ws s → counter_count (program ws s) (tables ws s) ≤ max_counters → owner_at (program ws s) (tables ws s) s.states ≤ letter_sets_of
  unfolding owner_at read_set allowed_set head_count letter_width_of counter_count program tables entries columns
  words_most h few =
      let a = h.limits.constructors in
      let b = h.limits.mails in
      sets_words (9 * (s.constructors + 2) + s.mails + s.states) s.states (letter_count_of (program ws s) (tables ws s)) (letter_count_of (program ws s) (tables ws s) / 64 + 1) (omega arith) (omega arith) refl

  pub words_told : (m w n : ℕ) → m ≡ 9 * (s.constructors + 2) + s.mails + s.states → w ≡ letter_width_of (program ws s) (tables ws s) → n ≡ m * w + s.states → n ≡ owner_at (program ws s) (tables ws s) s.states
  unfolding owner_at read_set allowed_set head_count program tables entries columns
  words_told m w n e f g = g ∙ rw (e, f)

  -- a cleared table with so many words has room for all of it
  pub letters_room : (n : ℕ) (letters : List ℕ) → Cleared n letters → owner_at (program ws s) (tables ws s) s.states ≤ n → LetterRoom (program ws s) (tables ws s) letters × OwnersRoom (program ws s) (tables ws s) letters
  unfolding owner_at read_set tables entries columns
  letters_room n letters h b =
      let z : allowed_set (program ws s) s.mails * letter_width_of (program ws s) (tables ws s) ≤ (allowed_set (program ws s) s.mails + s.states) * letter_width_of (program ws s) (tables ws s) = mul-le-mul_right (letter_width_of (program ws s) (tables ws s)) (omega arith) in
      (sets_fit _ _ (allowed_set (program ws s) s.mails) (letter_width_of (program ws s) (tables ws s)) n letters h (omega arith) (omega arith) (omega arith), record { room = let q = h.room in omega arith })

-- a cleared table of so many words is all that is asked for where the sets need no more
module _ (ws : List ℕ) (s : Sizes) (narrow fitting names codes : List ℕ) (n : ℕ) (c : Lettered ws s narrow fitting names codes n) where
  pub letters_lent : (words : ℕ) (letters : List ℕ) → owner_at (program ws s) (tables ws s) s.states ≤ words → Cleared words letters → Lettered ws s narrow fitting names codes n × (Empty (letter_width_of (program ws s) (tables ws s)) letters × (LetterRoom (program ws s) (tables ws s) letters × OwnersRoom (program ws s) (tables ws s) letters))
  letters_lent words letters h r = let room = letters_room ws s words letters r h in (c, (empty_sets _ _ _ r, (room.0, room.1)))

  pub all_words : owner_at (program ws s) (tables ws s) s.states ≤ letter_sets_of
  all_words = words_most ws s c.closed_tables.ready (counters_few ws s narrow fitting names codes n c)

-- a table that keeps its length keeps its room
pub owners_kept : (ws : List ℕ) (s : Sizes) (u v : List ℕ) → OwnersRoom (program ws s) (tables ws s) u → length v ≡ length u → OwnersRoom (program ws s) (tables ws s) v
owners_kept ws s u v r e = record { room = omega (arith, r.room) }

-- what `fill_codes` has counted, where refusal 9 finds nothing
module _ (ws : List ℕ) (s : Sizes) (l : ℕ) (e : l ≡ capped max_counters (letter_count_of (program ws s) (tables ws s))) (h : counter_check_of present s (program ws s) (tables ws s) ≡ none) where
  few : counter_count (program ws s) (tables ws s) ≤ max_counters
  unfolding counter_check_of
  few = leb-true _ _ (sym (within_exactly (program ws s) (tables ws s) max_counters) ∙ (unless_none _ _).0 h)

  pub all_counted : (s.states + l ≡ counter_count (program ws s) (tables ws s)) × (s.states + l ≤ max_counters)
  unfolding counter_count tables entries columns
  all_counted =
      let f = few in
      let z = capped_few max_counters (letter_count_of (program ws s) (tables ws s)) (omega arith) in
      (omega arith, omega arith)
