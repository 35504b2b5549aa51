-- Letters that are kept for the states that branches lead to.
use Prim.Native.Nat.{ℕ, ◌+◌, ◌*◌, ◌/◌, ◌%◌, ◌≤◌, ◌<◌}
use native.Mathlib.Decide.{ℕ_discrete, dec_lt}
use native.Mathlib.Nat.{mul-le-mul_right}
use native.Mathlib.Omega.{arith}
use mathlib.Core.Path.{◌≡◌, sym, ◌∙◌, ap}
use mathlib.Core.Bool.{true}
use mathlib.Core.List.{List, Memᴰ}
use mathlib.Core.Logic.{◌↔◌, ◌⊎◌, inl, inr, ⊎_elim}
use lib.Dec.{eqb}
use borrow.Author.Tests.{eqb-true}
use lib.ListN.{length, get_or, set, length-set}
use lib.Seq.{get_or-set_same, get_or-set_other}
use Rattle.bits.specs.Bits.{bit, member, Row, Filled, SetIs}
use Rattle.model.specs.declared.Sizes.{Sizes}
use Rattle.model.specs.Words.{left, columns}
use Rattle.model.specs.Rows.{Program, program}
use Rattle.model.specs.Letters.{head_count}
use Rattle.model.specs.Tables.{Tables, tables, entries}
use Rattle.model.specs.Counters.{letter_count_of}
use Rattle.model.specs.Rules.{from_each, letters_read}
use Rattle.system_letters.specs.Letters.{digits, class_at, letter_at_of, letter_width_of, digit_set, allowed_set, LetterSets, Found}
use Rattle.rules.specs.Derived.{read_set, owner_at, Reads}
use Rattle.pattern_letters.specs.Tables.{PatternTables}
use Rattle.branch_letters.specs.Kept.{OwnersRoom, KeptFor, KeptTables, ReadTables}
use Rattle.sent_letters.proofs.Found.{letter_inside, row_kept}

-- the numbers of sets and words, as the code has them
module _ (ws : List ℕ) (s : Sizes) where
  pub read_number : (x n : ℕ) → n ≡ digits * (s.constructors + 2) + s.mails + x → n ≡ read_set (program ws s) (tables ws s) x
  unfolding read_set allowed_set head_count program tables entries columns
  read_number x n e = e

  pub owner_number : (x n m words : ℕ) → m ≡ digits * (s.constructors + 2) + s.mails + s.states → words ≡ letter_width_of (program ws s) (tables ws s) → n ≡ m * words + x → n ≡ owner_at (program ws s) (tables ws s) x
  unfolding owner_at tables entries columns
  owner_number x n m words e f g = g ∙ rw (f, read_number s.states m e)

  pub owners_room : (letters : List ℕ) (m words : ℕ) → OwnersRoom (program ws s) (tables ws s) letters → m ≡ digits * (s.constructors + 2) + s.mails + s.states → words ≡ letter_width_of (program ws s) (tables ws s) → m * words + s.states ≤ length letters
  unfolding owner_at tables entries columns
  owners_room letters m words r e f = rw (f, read_number s.states m e) r.room

  -- whose letters are kept, as the code looks at it
  pub kept_for : (letters : List ℕ) (c q x k at w v : ℕ) → x < s.states → k ≡ left (tables ws s).states x → k ≡ c → at ≡ owner_at (program ws s) (tables ws s) x → w ≡ get_or letters at 0 → v ≡ q + 1 → eqb w v ≡ true → KeptFor (program ws s) (tables ws s) letters c q x
  unfolding tables entries columns
  kept_for letters c q x k at w v low e f g h i z = record { low = low; class = sym e ∙ f; owner = ap (λ j. get_or letters j 0) (sym g) ∙ (sym h ∙ (eqb-true w v z ∙ i)) }

-- so much stands before the words of set b
pub before : (a b w j : ℕ) → a < b → j < w → a * w + j < b * w
before a b w j h l = let z : (a + 1) * w ≤ b * w = mul-le-mul_right w (omega arith) in omega arith

pub member_same : (t u : List ℕ) (w n y : ℕ) → get_or t (n * w + y / 64) 0 ≡ get_or u (n * w + y / 64) 0 → member t w n y ≡ member u w n y
unfolding member
member_same t u w n y e = ap (λ x. bit x (y % 64)) e

-- a set that stands in a table of its own
member_at : (t u : List ℕ) (w n y : ℕ) → get_or t (n * w + y / 64) 0 ≡ get_or u (y / 64) 0 → member t w n y ≡ member u w 0 y
unfolding member
member_at t u w n y e = ap (λ x. bit x (y % 64)) (e ∙ ap (λ i. get_or u i 0) (first w (y / 64)))
  where
    first : (w j : ℕ) → j ≡ 0 * w + j
    first w j = omega arith

module _ (p : Program) (t : Tables) where
  pub word_inside : (y : ℕ) → y < letter_count_of p t → y / 64 < letter_width_of p t
  unfolding letter_width_of
  word_inside y l = omega arith

  pub owner_low : (letters : List ℕ) → Reads p t letters → (x : ℕ) → x < t.states.size → owner_at p t x < length letters
  unfolding owner_at
  owner_low letters r x l = omega (arith, r.room)

  pub read_row : (letters : List ℕ) → Reads p t letters → (x w n : ℕ) → x < t.states.size → w ≡ letter_width_of p t → n ≡ read_set p t x → Row letters w n
  unfolding owner_at read_set
  read_row letters r x w n l e f =
      let z : (allowed_set p t.mail.size + x + 1) * letter_width_of p t ≤ (allowed_set p t.mail.size + t.states.size) * letter_width_of p t = mul-le-mul_right (letter_width_of p t) (omega arith) in
      rw (e, f) (record { room = omega (arith, r.room) })

  -- a set that is kept for state x
  pub found_kept : (letters u u' : List ℕ) (c q x w n : ℕ) → Reads p t letters → KeptFor p t letters c q x → w ≡ letter_width_of p t → n ≡ read_set p t x → Row u (letter_width_of p t) 0 → SetIs w 0 (member letters w n) u u' → Found p t c (from_each t.mail c (letters_read p t q)) u'
  found_kept letters u u' c q x w n r k e f row is = record {
    row = row_kept (letter_width_of p t) 0 u u' row is.long;
    has = λ y l.
        let here : member u' (letter_width_of p t) 0 y ≡ member letters (letter_width_of p t) (read_set p t x) y = rw (e, f) at (is.here y (rw e (letter_inside p t y l))) in
        let (to, from) = rw k.class at (r.has x q y k.low l k.owner) in
        (λ h. to (sym here ∙ h), λ h. here ∙ from h);
  }

  pub digit_low : (i h : ℕ) → i < digits → h < head_count p → digit_set p i h < allowed_set p t.mail.size
  unfolding digit_set allowed_set
  digit_low i h a b = let z : (i + 1) * head_count p ≤ digits * head_count p = mul-le-mul_right (head_count p) (omega arith) in omega arith

  pub entry_low : (j : ℕ) → j < t.mail.size → allowed_set p j < allowed_set p t.mail.size
  unfolding allowed_set
  entry_low j a = omega arith

  -- letters found that are put there
  module _ (found u v : List ℕ) (c q x : ℕ) (sets : LetterSets p t u) (r : Reads p t u) (low : x < t.states.size) (class : left t.states x ≡ c) (is : Found p t c (from_each t.mail c (letters_read p t q)) found) (put : Filled u v (read_set p t x * letter_width_of p t) (letter_width_of p t) (λ j. get_or found j 0)) where
    abbrev w : ℕ
    w = letter_width_of p t

    abbrev v' : List ℕ
    v' = set v (owner_at p t x) (q + 1)

    owner_room : owner_at p t x < length v
    owner_room = let z = owner_low u r x low in omega (arith, put.long)

    -- all words but those of the set and of its owner are as they were
    word_kept : (i : ℕ) → (i < read_set p t x * w) ⊎ (read_set p t x * w + w ≤ i) → (i ≡ owner_at p t x → ⊥) → get_or v' i 0 ≡ get_or u i 0
    word_kept i side ne = get_or-set_other v (owner_at p t x) i (q + 1) 0 ne ∙ ⊎_elim (λ h. put.below i h) (λ h. put.above i h) side

    -- the words of sets stand before the owners
    set_before : (n j : ℕ) → n < read_set p t t.states.size → j < w → n * w + j < owner_at p t 0
    unfolding owner_at
    set_before n j h l = let z = before n (read_set p t t.states.size) w j h l in omega arith

    apart : (n y : ℕ) → n < read_set p t t.states.size → (n ≡ read_set p t x → ⊥) → y < letter_count_of p t → member v' w n y ≡ member u w n y
    unfolding owner_at
    apart n y h ne l =
        let j = word_inside y l in
        let b = set_before n (y / 64) h j in
        member_same v' u w n y (word_kept (n * w + y / 64)
        (elim (dec_lt n (read_set p t x)) [
          | yes z ↦ inl (before n (read_set p t x) w (y / 64) z j)
          | no z ↦ inr (let k : (read_set p t x + 1) * w ≤ n * w = mul-le-mul_right w (omega arith) in omega arith)
        ]) (λ z. omega arith))

    pub sets_kept : LetterSets p t v'
    unfolding read_set
    sets_kept = record {
      room = λ n l. let z = (sets.room n l).room in record { room = omega (arith, put.long, length-set v (owner_at p t x) (q + 1)) };
      digit = λ i h y a b l. apart (digit_set p i h) y (let z = digit_low i h a b in omega arith) (λ z. let k = digit_low i h a b in omega arith) l ∙ sets.digit i h y a b l;
      allowed = λ j y a l.
          let same = apart (allowed_set p j) y (let z = entry_low j a in omega arith) (λ z. let k = entry_low j a in omega arith) l in
          let (to, from) = sets.allowed j y a l in
          (λ h. to (sym same ∙ h), λ h. same ∙ from h);
    }

    pub reads_kept : Reads p t v'
    unfolding read_set owner_at
    reads_kept = record {
      room = omega (arith, r.room, put.long, length-set v (owner_at p t x) (q + 1));
      has = λ x2 q2 y a l o. elim (ℕ_discrete x2 x) [
        | yes z ↦
            let same_q : q2 ≡ q = let e = sym o ∙ (ap (λ k. get_or v' (owner_at p t k) 0) z ∙ get_or-set_same v (owner_at p t x) (q + 1) 0 owner_room) in omega arith in
            rw (z, same_q, class) (here y l)
        | no z ↦
            let owner = sym (word_kept (owner_at p t x2) (inr (owners_behind x2)) (λ e. z (omega arith))) ∙ o in
            let same = apart (read_set p t x2) y (omega arith) (λ e. z (omega arith)) l in
            let (to, from) = r.has x2 q2 y a l owner in
            (λ h. to (sym same ∙ h), λ h. same ∙ from h)
      ];
    }
      where
        owners_behind : (x2 : ℕ) → read_set p t x * w + w ≤ owner_at p t x2
        owners_behind x2 = let k : (read_set p t x + 1) * w ≤ read_set p t t.states.size * w = mul-le-mul_right w (omega arith) in omega arith

        here : (y : ℕ) → y < letter_count_of p t → (member v' w (read_set p t x) y ≡ true) ↔ ((class_at p t y ≡ c) × Memᴰ (letter_at_of p t y) (from_each t.mail c (letters_read p t q)))
        here y l =
            let j = word_inside y l in
            let b = set_before (read_set p t x) (y / 64) (omega arith) j in
            let same : member v' w (read_set p t x) y ≡ member found w 0 y = member_at v' found w (read_set p t x) y
            (get_or-set_other v (owner_at p t x) (read_set p t x * w + y / 64) (q + 1) 0 (λ z. omega arith) ∙ put.done (y / 64) j) in
            let (to, from) = is.has y l in
            (λ h. to (sym same ∙ h), λ h. same ∙ from h)

  -- ... as the code has its numbers
  pub kept_all : (found u v v' : List ℕ) (c q x : ℕ) → LetterSets p t u → Reads p t u → x < t.states.size → left t.states x ≡ c → Found p t c (from_each t.mail c (letters_read p t q)) found → (words n at o : ℕ) → v' ≡ set v at o → words ≡ letter_width_of p t → n ≡ read_set p t x → at ≡ owner_at p t x → o ≡ q + 1 → Filled u v (n * words) words (λ j. get_or found j 0) → LetterSets p t v' × Reads p t v'
  kept_all found u v v' c q x sets r low class is words n at o k e f g h put =
      let put' : Filled u v (read_set p t x * letter_width_of p t) (letter_width_of p t) (λ j. get_or found j 0) = rw (e, f) at put in
      rw (k, g, h) (sets_kept found u v c q x sets r low class is put', reads_kept found u v c q x sets r low class is put')

  -- nothing is kept for any state once 0 is put for the owner of each
  pub forgotten : (u v : List ℕ) (at : ℕ) → LetterSets p t u → OwnersRoom p t u → at ≡ owner_at p t 0 → Filled u v at t.states.size (λ j. 0) → LetterSets p t v × Reads p t v
  unfolding owner_at read_set
  forgotten u v at sets r e f = (
    record {
      room = λ n l. let z = (sets.room n l).room in record { room = omega (arith, f.long) };
      digit = λ i h y a b l. same (digit_set p i h) y (let z = digit_low i h a b in omega arith) l ∙ sets.digit i h y a b l;
      allowed = λ j y a l.
          let e = same (allowed_set p j) y (let z = entry_low j a in omega arith) l in
          let (to, from) = sets.allowed j y a l in
          (λ h. to (sym e ∙ h), λ h. e ∙ from h);
    },
    record {
      room = omega (arith, r.room, f.long);
      has = λ k q y l a o. absurd (let z = none k l in omega arith);
    },
  )
    where
      same : (n y : ℕ) → n < allowed_set p t.mail.size + t.states.size → y < letter_count_of p t → member v (letter_width_of p t) n y ≡ member u (letter_width_of p t) n y
      same n y h l =
          let z = before n (allowed_set p t.mail.size + t.states.size) (letter_width_of p t) (y / 64) h (word_inside y l) in
          member_same v u (letter_width_of p t) n y (f.below (n * letter_width_of p t + y / 64) (omega arith))

      none : (k : ℕ) → k < t.states.size → get_or v (owner_at p t k) 0 ≡ 0
      none k l = let z : owner_at p t k ≡ at + k = omega arith in rw z (f.done k l)

-- what is kept, as a part of what branches read
module _ {ws : List ℕ} {s : Sizes} {afters : List ℕ} {w : ℕ} {fitting names letter_at_of letters : List ℕ} where
  pub kept_tables : ReadTables ws s afters w fitting names letter_at_of letters → KeptTables ws s letter_at_of letters
  kept_tables h = record { letter_tables = h.pattern_tables.letter_tables; reads = h.reads }

  -- the tables once the sets of letters are others
  pub read_tables : PatternTables ws s afters w fitting names letter_at_of letters → {letters' : List ℕ} → LetterSets (program ws s) (tables ws s) letters' → Reads (program ws s) (tables ws s) letters' → ReadTables ws s afters w fitting names letter_at_of letters'
  read_tables h sets reads =
      let l = h.letter_tables in
      record {
        pattern_tables = record {
          match_tables = h.match_tables;
          ends = h.ends;
          letter_tables = record { ready = l.ready; few = l.few; class_letters = l.class_letters; letter_sets_of = sets };
        };
        reads = reads;
      }
