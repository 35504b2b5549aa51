-- Four sizes, and all rows put behind them: the words are those of the listing, and the words beyond stay.
use Prim.Native.Nat.{ℕ, zero, suc, ◌+◌, ◌*◌, ◌-◌, ◌≤◌, ◌<◌}
use native.Mathlib.Decide.{dec_lt}
use native.Mathlib.Omega.{arith}
use mathlib.Core.Path.{◌≡◌, refl, sym, ◌∙◌, ap}
use mathlib.Core.List.{List, [], ◌∷◌, ◌++◌, map, append_assoc}
use lib.ListN.{length, get_or, set, drop, length-set, length-map, get_or-append}
use lib.Seq.{get_or-set_same, get_or-set_other, get_or-append-add, get_or-drop, ext_get_or}
use Rattle.model.specs.Rows.{Program}
use Rattle.model.specs.Tables.{Tables}
use Rattle.model.specs.Counters.{letter_count_of}
use Rattle.model.specs.Rules.{Rule, rules}
use Rattle.model.specs.Listing.{Line, listing, system_words, written}
use Rattle.model.proofs.Listed.{length_listing, length_written, length_system}
use Rattle.system_totals.specs.declared.Totals.{Totals}
use Rattle.system_totals.specs.Lines.{lines, counted}
use Rattle.system_listing.specs.Putting.{put_line, put_lines, Room, Put}
use Rattle.system_totals.proofs.Lined.{words_told}
use Rattle.system_listing.proofs.Putting.{put_length}

abbrev tags : List Line → List ℕ
tags = map (λ l. l.tag)

abbrev numbers : List Line → List ℕ
numbers = map (λ l. l.number)

-- a word that no row is put to
put_other : (ls : List Line) (out : List ℕ) (n x k : ℕ) → ((i : ℕ) → i < length ls → (k ≡ 4 + x + i → ⊥) × (k ≡ 4 + n + x + i → ⊥)) → get_or (put_lines out n x ls) k 0 ≡ get_or out k 0
unfolding put_lines put_line
put_other [] out n x k h = refl
put_other (l ∷ ls) out n x k h =
    let (a, b) = h 0 (omega arith) in
    put_other ls (put_line out n x l) n (x + 1) k (λ i m. let (c, d) = h (suc i) (omega arith) in ((λ e. c (omega arith)), (λ e. d (omega arith)))) ∙
    (get_or-set_other (set out (4 + x) l.tag) (4 + n + x) k l.number 0 (λ e. b (omega arith)) ∙
    get_or-set_other out (4 + x) k l.tag 0 (λ e. a (omega arith)))

-- the words of row i
put_tag : (ls : List Line) (out : List ℕ) (n x i : ℕ) → x + length ls ≤ n → 4 + 2 * n ≤ length out → i < length ls → get_or (put_lines out n x ls) (4 + x + i) 0 ≡ get_or (tags ls) i 0
unfolding put_lines put_line
put_tag [] out n x i r w b = absurd (omega arith)
put_tag (l ∷ ls) out n x zero r w b =
    let z : 4 + x + zero ≡ 4 + x = omega arith in
    rw z
    (put_other ls (put_line out n x l) n (x + 1) (4 + x) (λ i m. ((λ e. omega arith), (λ e. omega arith))) ∙
    (get_or-set_other (set out (4 + x) l.tag) (4 + n + x) (4 + x) l.number 0 (λ e. omega arith) ∙
    get_or-set_same out (4 + x) l.tag 0 (omega arith)))
put_tag (l ∷ ls) out n x (suc i) r w b =
    let z : 4 + x + suc i ≡ 4 + (x + 1) + i = omega arith in
    let k = length-set (set out (4 + x) l.tag) (4 + n + x) l.number ∙ length-set out (4 + x) l.tag in
    rw z (put_tag ls (put_line out n x l) n (x + 1) i (omega arith) (omega arith) (omega arith))

put_number : (ls : List Line) (out : List ℕ) (n x i : ℕ) → x + length ls ≤ n → 4 + 2 * n ≤ length out → i < length ls → get_or (put_lines out n x ls) (4 + n + x + i) 0 ≡ get_or (numbers ls) i 0
unfolding put_lines put_line
put_number [] out n x i r w b = absurd (omega arith)
put_number (l ∷ ls) out n x zero r w b =
    let z : 4 + n + x + zero ≡ 4 + n + x = omega arith in
    let k = length-set out (4 + x) l.tag in
    rw z
    (put_other ls (put_line out n x l) n (x + 1) (4 + n + x) (λ i m. ((λ e. omega arith), (λ e. omega arith))) ∙
    get_or-set_same (set out (4 + x) l.tag) (4 + n + x) l.number 0 (omega arith))
put_number (l ∷ ls) out n x (suc i) r w b =
    let z : 4 + n + x + suc i ≡ 4 + n + (x + 1) + i = omega arith in
    let k = length-set (set out (4 + x) l.tag) (4 + n + x) l.number ∙ length-set out (4 + x) l.tag in
    rw z (put_number ls (put_line out n x l) n (x + 1) i (omega arith) (omega arith) (omega arith))

-- the four sizes
abbrev headed : List ℕ → ℕ → ℕ → ℕ → ℕ → List ℕ
headed out a b c d = set (set (set (set out 0 a) 1 b) 2 c) 3 d

headed_length : (out : List ℕ) (a b c d : ℕ) → length (headed out a b c d) ≡ length out
headed_length out a b c d = simp length-set

module _ (out : List ℕ) (a b c d : ℕ) (room : 4 ≤ length out) where
  head_0 : get_or (headed out a b c d) 0 0 ≡ a
  head_0 =
      get_or-set_other (set (set (set out 0 a) 1 b) 2 c) 3 0 d 0 (λ e. omega arith) ∙
      (get_or-set_other (set (set out 0 a) 1 b) 2 0 c 0 (λ e. omega arith) ∙
      (get_or-set_other (set out 0 a) 1 0 b 0 (λ e. omega arith) ∙ get_or-set_same out 0 a 0 (omega arith)))

  head_1 : get_or (headed out a b c d) 1 0 ≡ b
  head_1 =
      get_or-set_other (set (set (set out 0 a) 1 b) 2 c) 3 1 d 0 (λ e. omega arith) ∙
      (get_or-set_other (set (set out 0 a) 1 b) 2 1 c 0 (λ e. omega arith) ∙
      get_or-set_same (set out 0 a) 1 b 0 (omega (arith, length-set out 0 a)))

  head_2 : get_or (headed out a b c d) 2 0 ≡ c
  head_2 =
      get_or-set_other (set (set (set out 0 a) 1 b) 2 c) 3 2 d 0 (λ e. omega arith) ∙
      get_or-set_same (set (set out 0 a) 1 b) 2 c 0 (omega (arith, length-set (set out 0 a) 1 b, length-set out 0 a))

  head_3 : get_or (headed out a b c d) 3 0 ≡ d
  head_3 = get_or-set_same (set (set (set out 0 a) 1 b) 2 c) 3 d 0 (omega (arith, length-set (set (set out 0 a) 1 b) 2 c, length-set (set out 0 a) 1 b, length-set out 0 a))

  head_beyond : (k : ℕ) → 4 ≤ k → get_or (headed out a b c d) k 0 ≡ get_or out k 0
  head_beyond k l =
      get_or-set_other (set (set (set out 0 a) 1 b) 2 c) 3 k d 0 (λ e. omega arith) ∙
      (get_or-set_other (set (set out 0 a) 1 b) 2 k c 0 (λ e. omega arith) ∙
      (get_or-set_other (set out 0 a) 1 k b 0 (λ e. omega arith) ∙ get_or-set_other out 0 k a 0 (λ e. omega arith)))

module _ (out : List ℕ) (states letters : ℕ) (ρs : List Rule) (room : 4 + 2 * length (lines ρs) ≤ length out) where
  begun : List ℕ
  begun = headed out states letters (length ρs) (length (lines ρs))

  all_put : List ℕ
  all_put = put_lines begun (length (lines ρs)) 0 (lines ρs)

  words : List ℕ
  words = listing states letters ρs

  -- the words of the listing, in their parts
  tail : List ℕ
  tail = tags (lines ρs) ++ (numbers (lines ρs) ++ drop (length words) out)

  parts : written words out ≡ (states ∷ letters ∷ length ρs ∷ length (lines ρs) ∷ []) ++ tail
  unfolding written words listing lines tail
  parts = rw append_assoc

  word_tag : (i : ℕ) → i < length (lines ρs) → get_or (written words out) (4 + i) 0 ≡ get_or (tags (lines ρs)) i 0
  unfolding tail
  word_tag i b =
      let s = length-map (lines ρs) (λ l. l.tag) in
      rw parts (get_or-append-add (states ∷ letters ∷ length ρs ∷ length (lines ρs) ∷ []) tail i 0 ∙
      get_or-append (tags (lines ρs)) (numbers (lines ρs) ++ drop (length words) out) 0 i (omega arith))

  word_number : (i : ℕ) → i < length (lines ρs) → get_or (written words out) (4 + length (lines ρs) + i) 0 ≡ get_or (numbers (lines ρs)) i 0
  unfolding tail
  word_number i b =
      let s = length-map (lines ρs) (λ l. l.tag) in
      let s' = length-map (lines ρs) (λ l. l.number) in
      let z : 4 + length (lines ρs) + i ≡ 4 + (length (tags (lines ρs)) + i) = omega arith in
      rw (parts, z) (get_or-append-add (states ∷ letters ∷ length ρs ∷ length (lines ρs) ∷ []) tail (length (tags (lines ρs)) + i) 0 ∙
      (get_or-append-add (tags (lines ρs)) (numbers (lines ρs) ++ drop (length words) out) i 0 ∙
      get_or-append (numbers (lines ρs)) (drop (length words) out) 0 i (omega arith)))

  words_length : length words ≡ 4 + 2 * length (lines ρs)
  unfolding words lines
  words_length = length_listing states letters ρs

  word_beyond : (k : ℕ) → 4 + 2 * length (lines ρs) ≤ k → get_or (written words out) k 0 ≡ get_or out k 0
  unfolding written
  word_beyond k l =
      let e = words_length in
      let z : k ≡ length words + (k - length words) = omega arith in
      rw z (get_or-append-add words (drop (length words) out) (k - length words) 0 ∙ get_or-drop (length words) out (k - length words) 0)

  -- a size is no word of a row
  size_stays : (k : ℕ) → k < 4 → get_or all_put k 0 ≡ get_or begun k 0
  unfolding all_put
  size_stays k l = put_other (lines ρs) begun (length (lines ρs)) 0 k (λ i b. ((λ e. omega arith), (λ e. omega arith)))

  begun_length : length begun ≡ length out
  unfolding begun
  begun_length = headed_length out states letters (length ρs) (length (lines ρs))

  tag_same : (i : ℕ) → i < length (lines ρs) → get_or all_put (4 + i) 0 ≡ get_or (written words out) (4 + i) 0
  unfolding all_put
  tag_same i b =
      let z : 4 + 0 + i ≡ 4 + i = omega arith in
      let e = begun_length in
      rw z at (put_tag (lines ρs) begun (length (lines ρs)) 0 i (omega arith) (omega arith) b) ∙ sym (word_tag i b)

  number_same : (i : ℕ) → i < length (lines ρs) → get_or all_put (4 + length (lines ρs) + i) 0 ≡ get_or (written words out) (4 + length (lines ρs) + i) 0
  unfolding all_put
  number_same i b =
      let z : 4 + length (lines ρs) + 0 + i ≡ 4 + length (lines ρs) + i = omega arith in
      let e = begun_length in
      rw z at (put_number (lines ρs) begun (length (lines ρs)) 0 i (omega arith) (omega arith) b) ∙ sym (word_number i b)

  beyond_same : (k : ℕ) → 4 + 2 * length (lines ρs) ≤ k → get_or all_put k 0 ≡ get_or (written words out) k 0
  unfolding all_put begun
  beyond_same k l =
      put_other (lines ρs) begun (length (lines ρs)) 0 k (λ i b. ((λ e. omega arith), (λ e. omega arith))) ∙
      (head_beyond out states letters (length ρs) (length (lines ρs)) (omega arith) k (omega arith) ∙ sym (word_beyond k l))

  size_same : (k : ℕ) → k < 4 → get_or begun k 0 ≡ get_or (written words out) k 0
  unfolding begun
  size_same zero l = head_0 out states letters (length ρs) (length (lines ρs)) (omega arith) ∙ sym (ap (λ ws. get_or ws 0 0) parts)
  size_same (suc zero) l = head_1 out states letters (length ρs) (length (lines ρs)) (omega arith) ∙ sym (ap (λ ws. get_or ws 1 0) parts)
  size_same (suc (suc zero)) l = head_2 out states letters (length ρs) (length (lines ρs)) (omega arith) ∙ sym (ap (λ ws. get_or ws 2 0) parts)
  size_same (suc (suc (suc zero))) l = head_3 out states letters (length ρs) (length (lines ρs)) (omega arith) ∙ sym (ap (λ ws. get_or ws 3 0) parts)
  size_same (suc (suc (suc (suc k)))) l = absurd (omega arith)

  -- each word, by its part
  word_same : (k : ℕ) → get_or all_put k 0 ≡ get_or (written words out) k 0
  word_same k = elim (dec_lt k 4) [
    | yes a ↦ size_stays k a ∙ size_same k a
    | no a ↦ elim (dec_lt k (4 + length (lines ρs))) [
      | yes b ↦ let z : 4 + (k - 4) ≡ k = omega arith in rw z at (tag_same (k - 4) (omega arith))
      | no b ↦ elim (dec_lt k (4 + 2 * length (lines ρs))) [
        | yes c ↦
            let z : 4 + length (lines ρs) + (k - (4 + length (lines ρs))) ≡ k = omega arith in
            rw z at (number_same (k - (4 + length (lines ρs))) (omega arith))
        | no c ↦ beyond_same k (omega arith)
      ]
    ]
  ]

  -- the words are those of the listing
  pub put_whole : put_lines (headed out states letters (length ρs) (length (lines ρs))) (length (lines ρs)) 0 (lines ρs) ≡ written (listing states letters ρs) out
  unfolding all_put begun words
  put_whole =
      let e = put_length (lines ρs) begun (length (lines ρs)) 0 in
      let f = begun_length in
      let g = words_length in
      let k = length_written words out (omega arith) in
      ext_get_or 0 all_put (written words out) (omega arith) (λ i l. word_same i)

-- the same, from the numbers that the code has
module _ (p : Program) (t : Tables) (out begun : List ℕ) (n : Totals) (room : length (system_words p t) ≤ length out) (same : n ≡ counted (rules p t)) where
  pub system_written : (end : List ℕ) (states letters e : ℕ) → states ≡ t.states.size → letters ≡ letter_count_of p t → begun ≡ headed out states letters n.rules n.rows → Put begun end n.rows 0 e (lines (rules p t)) → end ≡ written (system_words p t) out
  unfolding counted system_words lines
  system_written end states letters e s l b h =
      let x : n.rules ≡ length (rules p t) = ap (λ m. m.rules) same in
      let y : n.rows ≡ length (lines (rules p t)) = ap (λ m. m.rows) same in
      h.put ∙ (rw (b, x, y, s, l) (put_whole out t.states.size (letter_count_of p t) (rules p t) (omega (arith, length_system p t))))

  pub rules_room : length begun ≡ length out → Room begun n.rows 0 (lines (rules p t))
  unfolding counted
  rules_room kept =
      let y : n.rows ≡ length (lines (rules p t)) = ap (λ m. m.rows) same in
      let w = words_told p t n same in
      record { words = omega arith; rows = omega arith }
