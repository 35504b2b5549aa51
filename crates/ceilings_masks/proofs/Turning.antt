-- One ceiling beside the others, counter by counter.
use Prim.Native.Nat.{ℕ, zero, suc, ◌+◌, ◌*◌, ◌-◌, ◌≤◌, ◌<◌}
use native.Mathlib.Decide.{ℕ_discrete, dec_lt}
use native.Mathlib.Omega.{arith}
use mathlib.Core.Path.{◌≡◌, refl, sym, ◌∙◌, ap}
use mathlib.Core.Bool.{Bool, true, false, not, ◌&&◌, ◌||◌}
use mathlib.Core.List.{List}
use lib.Dec.{leb, ltb, eqb}
use lib.ListN.{length, get_or}
use borrow.Author.Tests.{eq-eqb, ne_eqb, le-leb, lt-leb, lt-ltb, le-ltb}
use Rattle.model.specs.Limits.{omega_limit}
use Rattle.model.specs.Index.{count}
use Rattle.model.specs.Words.{Columns, left}
use Rattle.model.specs.Ceilings.{allowed, highest}
use Rattle.model.proofs.Logic.{test, not_fails, and_left, and_right}
use Rattle.model.proofs.Index.{count_end, count_last, count_last_miss}
use Rattle.bits.specs.Bits.{member}
use Rattle.masks.specs.declared.Mask.{Mask}
use Rattle.masks.specs.Masks.{has}
use Rattle.ceilings_form.proofs.Limited.{highest_limit}
use Rattle.ceilings.specs.Table.{held}
use Rattle.ceilings.proofs.Ahead.{Ahead, CounterHere, ahead_counter, ahead_none, ahead_inside}
use Rattle.ceilings_masks.specs.declared.Over.{Over}
use Rattle.steps.specs.Steps.{raised, limit_from_sum}
use Rattle.steps.proofs.Raising.{next_allowed}
use Rattle.ceilings_masks.specs.Compared.{TwoPut, Holders, Beside, allows, most, exceeds, exceeds_by_one, takes_more, exceeded, Counted, MoreFrom, MoreAt, Above, Neighbours}

-- nothing passes from a up to b
count_gap : (a d : ℕ) (f : ℕ → Bool) → ((y : ℕ) → a ≤ y → y < a + d → f y ≡ false) → count 0 (a + d) f ≡ count 0 a f
count_gap a zero f h = let z : a + 0 ≡ a = omega arith in rw z
count_gap a (suc d) f h =
    let z : a + suc d ≡ (a + d) + 1 = omega arith in
    rw z (count_last_miss 0 (a + d) f (omega arith) (h (a + d) (omega arith) (omega arith))) ∙ count_gap a d f (λ y l b. h y l (omega arith))

pub counts_same : (a b : ℕ) (f : ℕ → Bool) → a ≤ b → ((y : ℕ) → a ≤ y → y < b → f y ≡ false) → count 0 b f ≡ count 0 a f
counts_same a b f l h = let z : b ≡ a + (b - a) = omega arith in rw z (count_gap a (b - a) f (λ y p q. h y p (omega arith)))

-- the three counts at one counter more
once_more : (c : ℕ) (b : Bool) → (leb 1 c || b) ≡ leb 1 (c + (elim b [ true ↦ 1 | false ↦ 0 ]))
once_more zero true = refl
once_more zero false = refl
once_more (suc c) b = rw (le-leb 1 (suc c) (omega arith)) (sym (le-leb 1 (suc c + (elim b [ true ↦ 1 | false ↦ 0 ])) (omega arith)))

twice_more : (c : ℕ) (b : Bool) → (leb 2 c || leb 1 c && b) ≡ leb 2 (c + (elim b [ true ↦ 1 | false ↦ 0 ]))
twice_more zero true = refl
twice_more zero false = refl
twice_more (suc zero) true = refl
twice_more (suc zero) false = refl
twice_more (suc (suc c)) b = rw (le-leb 2 (suc (suc c)) (omega arith)) (sym (le-leb 2 (suc (suc c) + (elim b [ true ↦ 1 | false ↦ 0 ])) (omega arith)))

thrice_more : (c : ℕ) (b : Bool) → (leb 3 c || leb 2 c && b) ≡ leb 3 (c + (elim b [ true ↦ 1 | false ↦ 0 ]))
thrice_more zero true = refl
thrice_more zero false = refl
thrice_more (suc zero) true = refl
thrice_more (suc zero) false = refl
thrice_more (suc (suc zero)) true = refl
thrice_more (suc (suc zero)) false = refl
thrice_more (suc (suc (suc c))) b = rw (le-leb 3 (suc (suc (suc c))) (omega arith)) (sym (le-leb 3 (suc (suc (suc c)) + (elim b [ true ↦ 1 | false ↦ 0 ])) (omega arith)))

pub count_more : (e : ℕ) (f : ℕ → Bool) → count 0 (e + 1) f ≡ count 0 e f + (elim (f e) [ true ↦ 1 | false ↦ 0 ])
count_more e f = test (f e) (λ t. count_last 0 e f (omega arith) t ∙ rw t) (λ t. count_last_miss 0 e f (omega arith) t ∙ let z : count 0 e f ≡ count 0 e f + 0 = omega arith in rw t z)

and_not_and : (p q : Bool) → (p && not (p && q)) ≡ (p && not q)
and_not_and true q = refl
and_not_and false q = refl

module _ (limits : List ℕ) (ceilings k : ℕ) where
  -- a counter without a limit exceeds nothing
  pub exceeds_none : (k' x : ℕ) → held limits ceilings k x ≡ 0 → exceeds limits ceilings k k' x ≡ false
  unfolding exceeds allowed
  exceeds_none k' x z =
      let low : highest (held limits ceilings k) x ≡ 0 = sym (highest_limit (held limits ceilings k) x 0 (sym z) (λ w. omega arith)) in
      let fine : allowed (held limits ceilings k' x) (highest (held limits ceilings k) x) ≡ true =
      elim (ℕ_discrete (held limits ceilings k' x) omega_limit) [
        | yes e ↦ rw (eq-eqb (held limits ceilings k' x) omega_limit e)
        | no e ↦ rw (ne_eqb (held limits ceilings k' x) omega_limit e, low) (le-leb 0 (held limits ceilings k' x) (omega arith))
      ] in
      not_fails _ fine

  -- by what a counter says of the others
  module _ (x h : ℕ) (is-most : h ≡ most limits ceilings k x) where
    pub exceeds_as : (m held_by whole : Mask) → ((j : ℕ) → j < 256 → has whole j ≡ ltb j ceilings) → ((j : ℕ) → j < 256 → has held_by j ≡ allows limits ceilings x h j) → ((j : ℕ) → has m j ≡ (has whole j && not (has held_by j))) → (j : ℕ) → j < 256 → has m j ≡ (ltb j ceilings && exceeds limits ceilings k j x)
    unfolding exceeds allows
    exceeds_as m held_by whole a b is j l = is j ∙ rw (a j l, b j l, is-most) (and_not_and (ltb j ceilings) _)

    pub by_one_as : (m fewer held_by : Mask) (low : ℕ) → low ≡ h - 1 → ((j : ℕ) → j < 256 → has fewer j ≡ allows limits ceilings x low j) → ((j : ℕ) → j < 256 → has held_by j ≡ allows limits ceilings x h j) → ((j : ℕ) → has m j ≡ (has fewer j && not (has held_by j))) → (j : ℕ) → j < 256 → has m j ≡ exceeds_by_one limits ceilings k x j
    unfolding exceeds_by_one
    by_one_as m fewer held_by low z a b is j l = is j ∙ rw (a j l, b j l, z, is-most)

    pub more_as : (m : Mask) (high : ℕ) → high ≡ raised (limit_from_sum h) → ((i : ℕ) → get_or limits i 0 < 65536) → ((j : ℕ) → j < 256 → has m j ≡ allows limits ceilings x high j) → (j : ℕ) → j < 256 → has m j ≡ takes_more limits ceilings k x j
    unfolding takes_more allows
    more_as m high z small a j l =
        a j l ∙ (ap (λ b. ltb j ceilings && b) (next_allowed (held limits ceilings j x) h high (let b = small (x * ceilings + j) in omega arith) z) ∙ rw is-most)

  -- no counter yet
  pub counted_start : (over : Over) → ((j : ℕ) → has over.once j ≡ false) → ((j : ℕ) → has over.twice j ≡ false) → ((j : ℕ) → has over.thrice j ≡ false) → Counted limits ceilings 0 k over
  counted_start over a b c =
      let none : (j m : ℕ) → 1 ≤ m → leb m (exceeded limits ceilings 0 k j) ≡ false = λ j m h. rw (count_end 0 0 (exceeds limits ceilings k j) (omega arith)) (lt-leb m 0 (omega arith)) in
      record { once = λ j h. a j ∙ sym (none j 1 (omega arith)); twice = λ j h. b j ∙ sym (none j 2 (omega arith)); thrice = λ j h. c j ∙ sym (none j 3 (omega arith)) }

  -- counters without a limit change nothing
  pub counted_gap : (a b : ℕ) (over : Over) → a ≤ b → ((x : ℕ) → a ≤ x → x < b → held limits ceilings k x ≡ 0) → Counted limits ceilings a k over → Counted limits ceilings b k over
  counted_gap a b over l gap c =
      let same : (j : ℕ) → exceeded limits ceilings a k j ≡ exceeded limits ceilings b k j = λ j. sym (counts_same a b (exceeds limits ceilings k j) l (λ y p q. exceeds_none j y (gap y p q))) in
      record {
        once = λ j h. c.once j h ∙ ap (leb 1) (same j);
        twice = λ j h. c.twice j h ∙ ap (leb 2) (same j);
        thrice = λ j h. c.thrice j h ∙ ap (leb 3) (same j);
      }

  -- one counter more
  pub counted_next : (x : ℕ) (o r : Over) (m : Mask) → ceilings ≤ 256 → ((j : ℕ) → j < 256 → has m j ≡ (ltb j ceilings && exceeds limits ceilings k j x)) → ((j : ℕ) → has r.once j ≡ (has o.once j || has m j)) → ((j : ℕ) → has r.twice j ≡ (has o.twice j || has o.once j && has m j)) → ((j : ℕ) → has r.thrice j ≡ (has o.thrice j || has o.twice j && has m j)) → Counted limits ceilings x k o → Counted limits ceilings (x + 1) k r
  counted_next x o r m few is a b d c =
      let here : (j : ℕ) → j < ceilings → has m j ≡ exceeds limits ceilings k j x = λ j h. is j (omega arith) ∙ rw (lt-ltb j ceilings h) in
      let more : (j : ℕ) → exceeded limits ceilings x k j + (elim (exceeds limits ceilings k j x) [ true ↦ 1 | false ↦ 0 ]) ≡ exceeded limits ceilings (x + 1) k j = λ j. sym (count_more x (exceeds limits ceilings k j)) in
      record {
        once = λ j h. a j ∙ (rw (c.once j h, here j h) (once_more (exceeded limits ceilings x k j) (exceeds limits ceilings k j x)) ∙ ap (leb 1) (more j));
        twice = λ j h. b j ∙ (rw (c.twice j h, c.once j h, here j h) (twice_more (exceeded limits ceilings x k j) (exceeds limits ceilings k j x)) ∙ ap (leb 2) (more j));
        thrice = λ j h. d j ∙ (rw (c.thrice j h, c.twice j h, here j h) (thrice_more (exceeded limits ceilings x k j) (exceeds limits ceilings k j x)) ∙ ap (leb 3) (more j));
      }

  -- the same of the ceilings that hold one more, from any counter on
  module _ (low : ℕ) where
    more_start : (m : Mask) → MoreFrom limits ceilings low 0 k m
    unfolding MoreFrom
    more_start m x j from l = absurd (omega arith)

    more_gap : (a b : ℕ) (m : Mask) → ((x : ℕ) → a ≤ x → x < b → held limits ceilings k x ≡ 0) → MoreFrom limits ceilings low a k m → MoreFrom limits ceilings low b k m
    unfolding MoreFrom
    more_gap a b m gap c x j from h one = elim (dec_lt x a) [ yes w ↦ c x j from w one | no w ↦ absurd (let z = gap x (omega arith) h in omega arith) ]

    more_next : (x : ℕ) (m next r : Mask) → ((j : ℕ) → j < 256 → has next j ≡ takes_more limits ceilings k x j) → MoreAt low x m next r → MoreFrom limits ceilings low x k m → MoreFrom limits ceilings low (x + 1) k r
    unfolding MoreFrom MoreAt
    more_next x m next r is at c y j from l one h t = elim (ℕ_discrete y x) [
      | yes z ↦ rw z (sym (is j h) ∙ (rw (le-ltb x low (omega arith)) at (and_right (has m j) (ltb x low || has next j) (sym (at j) ∙ t))))
      | no z ↦ c y j from (omega arith) one h (and_left (has m j) (ltb x low || has next j) (sym (at j) ∙ t))
    ]

  module _ (states : ℕ) where
    above_start : (over : Over) → Above limits ceilings states 0 k over
    above_start over = record { above = more_start 0 _; letters = more_start states _ }

    above_gap : (a b : ℕ) (over : Over) → ((x : ℕ) → a ≤ x → x < b → held limits ceilings k x ≡ 0) → Above limits ceilings states a k over → Above limits ceilings states b k over
    above_gap a b over gap c = record { above = more_gap 0 a b _ gap c.above; letters = more_gap states a b _ gap c.letters }

    above_next : (x : ℕ) (o r : Over) (next : Mask) → ((j : ℕ) → j < 256 → has next j ≡ takes_more limits ceilings k x j) → MoreAt 0 x o.above next r.above → MoreAt states x o.letters next r.letters → Above limits ceilings states x k o → Above limits ceilings states (x + 1) k r
    above_next x o r next is a l c = record { above = more_next 0 x _ next _ is a c.above; letters = more_next states x _ next _ is l c.letters }

  pub near_gap : (a b : ℕ) (near : List ℕ) → ((x : ℕ) → a ≤ x → x < b → held limits ceilings k x ≡ 0) → Neighbours limits ceilings a k near → Neighbours limits ceilings b k near
  near_gap a b near gap c =
      record {
        by_one = λ x j l one. elim (dec_lt x a) [ yes h ↦ c.by_one x j h one | no h ↦ absurd (let z = gap x (omega arith) l in omega arith) ];
        one_more = λ x j l one. elim (dec_lt x a) [ yes h ↦ c.one_more x j h one | no h ↦ absurd (let z = gap x (omega arith) l in omega arith) ];
      }

  pub near_next : (x : ℕ) (near near' : List ℕ) → TwoPut x (exceeds_by_one limits ceilings k x) (takes_more limits ceilings k x) near near' → Neighbours limits ceilings x k near → Neighbours limits ceilings (x + 1) k near'
  near_next x near near' p c =
      record {
        by_one = λ y j l one h. elim (ℕ_discrete y x) [ yes z ↦ rw z (p.first j h) | no z ↦ p.others (2 * y) j h (λ e. z (omega arith)) ∙ c.by_one y j (omega arith) one h ];
        one_more = λ y j l one h. elim (ℕ_discrete y x) [ yes z ↦ rw z (p.second j h) | no z ↦ p.others (2 * y + 1) j h (λ e. z (omega arith)) ∙ c.one_more y j (omega arith) one h ];
      }

-- the counters of the entries before i are done
pub record Turning (n : ℕ) (entries : Columns) (limits : List ℕ) (ceilings states k end i : ℕ) (over : Over) (near : List ℕ) : Type 0 where
  pub least : ℕ
  pub low : least ≤ n
  pub ahead : Ahead n entries (held limits ceilings k) end i least
  pub counted : Counted limits ceilings least k over
  pub rising : Above limits ceilings states least k over
  pub neighbours : Neighbours limits ceilings least k near

module _ (n : ℕ) (entries : Columns) (limits : List ℕ) (ceilings states k end i : ℕ) (over : Over) (near : List ℕ) where
  pub turning_start : Ahead n entries (held limits ceilings k) end i 0 → Counted limits ceilings 0 k over → Turning n entries limits ceilings states k end i over near
  turning_start a c =
      record {
        least = 0;
        low = omega arith;
        ahead = a;
        counted = c;
        rising = above_start limits ceilings k states over;
        neighbours = record { by_one = λ x j l. absurd (omega arith); one_more = λ x j l. absurd (omega arith) };
      }

  module _ (t : Turning n entries limits ceilings states k end i over near) where
    pub turning_inside : i < entries.size
    turning_inside = ahead_inside n entries _ end i _ t.ahead

    pub turning_counter : (left entries i ≡ n → ⊥) → left entries i < n
    turning_counter h = (ahead_counter n entries _ end i _ t.ahead h).below

    pub turning_end : (holders : List ℕ) → left entries i ≡ n → k < ceilings → Holders limits ceilings n holders → n * 8 ≤ length near → Beside limits ceilings n k holders over near × Above limits ceilings states n k over
    turning_end holders h low held_by room =
        let gap = ahead_none n entries _ end i _ t.ahead h in (
          record {
            ceiling = low;
            held_by = held_by;
            counted = counted_gap limits ceilings k t.least n over t.low gap t.counted;
            room = room;
            neighbours = near_gap limits ceilings k t.least n near gap t.neighbours;
          },
          above_gap limits ceilings k states t.least n over gap t.rising,
        )

    pub turning_next : (r : Over) (m next : Mask) (near' : List ℕ) (x : ℕ) → x ≡ left entries i → (left entries i ≡ n → ⊥) → ceilings ≤ 256 → ((j : ℕ) → j < 256 → has m j ≡ (ltb j ceilings && exceeds limits ceilings k j x)) → ((j : ℕ) → has r.once j ≡ (has over.once j || has m j)) → ((j : ℕ) → has r.twice j ≡ (has over.twice j || has over.once j && has m j)) → ((j : ℕ) → has r.thrice j ≡ (has over.thrice j || has over.twice j && has m j)) → ((j : ℕ) → j < 256 → has next j ≡ member near' 4 (2 * x + 1) j) → MoreAt 0 x over.above next r.above → MoreAt states x over.letters next r.letters → TwoPut x (exceeds_by_one limits ceilings k x) (takes_more limits ceilings k x) near near' → Turning n entries limits ceilings states k end (i + 1) r near'
    turning_next r m next near' x z h few is a b d is-more above letters p =
        let here : CounterHere n entries (held limits ceilings k) end i t.least = ahead_counter n entries _ end i _ t.ahead h in
        let gap : (y : ℕ) → t.least ≤ y → y < x → held limits ceilings k y ≡ 0 = λ y l b. here.gap y l (omega arith) in
        let low : t.least ≤ x = let w = here.low in omega arith in
        record {
          least = x + 1;
          low = let w = here.below in omega arith;
          ahead = rw z here.next;
          counted = counted_next limits ceilings k x over r m few is a b d (counted_gap limits ceilings k t.least x over low gap t.counted);
          rising = above_next limits ceilings k states x over r next (λ j l. is-more j l ∙ p.second j l) above letters (above_gap limits ceilings k states t.least x over gap t.rising);
          neighbours = near_next limits ceilings k x near near' p (near_gap limits ceilings k t.least x near gap t.neighbours);
        }
