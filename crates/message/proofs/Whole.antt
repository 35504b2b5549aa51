-- What a caller has after `Ok s`: the sizes are those of the message, within their limits, and the bytes are its words and no more.
use Prim.Native.Nat.{ℕ}
use native.Mathlib.Omega.{arith}
use mathlib.Core.Path.{◌≡◌, refl, subst}
use mathlib.Core.List.{List}
use mathlib.Core.Option.{some, none}
use Rattle.std.proofs.Common.{Ok, Err}
use Rattle.model.specs.Limits.{present}
use Rattle.model.specs.declared.Sizes.{Sizes}
use Rattle.model.specs.declared.Verdict.{Verdict}
use Rattle.model.specs.Words.{words}
use Rattle.model.specs.Verdict.{Check}
use Rattle.model.specs.Message.{sizes, parts_check}
use Rattle.model.proofs.Exact.Parts.{parts_none, end_upto}
use Rattle.message.specs.Parts.{answered, parts_in}
use Rattle.message.specs.Whole.{WholeMessage}
use Rattle.words.proofs.Words.{words_length}

-- what the code answers says what the model's check is
answered_whole : (k : Check) (t s : Sizes) → answered k t ≡ Ok s → (k ≡ none) × (t ≡ s)
unfolding answered
answered_whole none t s h = (refl, cc)
answered_whole (some v) t s h = (cc, cc)

answered_refused : (k : Check) (t : Sizes) (v : Verdict) → answered k t ≡ Err v → k ≡ some v
unfolding answered
answered_refused none t v h = cc
answered_refused (some w) t v h = cc

-- the parts refuse nothing, and nothing is left
pub whole_check : (bytes : List ℕ) → parts_check present bytes ≡ none → WholeMessage bytes (sizes (words bytes))
whole_check bytes h =
    let (left, limits) = (parts_none present bytes).0 h in
    let half = words_length bytes in
    record {
      passes = h;
      of_message = refl;
      limits = limits;
      words_end = omega arith;
      bytes_end = left;
      longest = end_upto (words bytes) limits;
      placed = omega arith;
    }

pub whole_message : (bytes : List ℕ) (s : Sizes) → parts_in bytes ≡ Ok s → WholeMessage bytes s
unfolding parts_in
whole_message bytes s h =
    let (e, z) = answered_whole (parts_check present bytes) (sizes (words bytes)) s h in
    subst (WholeMessage bytes) z (whole_check bytes e)

-- what `Err v` says
pub refused_message : (bytes : List ℕ) (v : Verdict) → parts_in bytes ≡ Err v → parts_check present bytes ≡ some v
unfolding parts_in
refused_message bytes v h = answered_refused (parts_check present bytes) (sizes (words bytes)) v h
