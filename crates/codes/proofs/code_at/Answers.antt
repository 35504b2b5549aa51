use mathlib.Core.Path.{refl}
use native.Mathlib.Omega.{arith}
use Rattle.codes.proofs.Kept.{codes_inside, code_known, codes_more}
use borrow.Author.Rules.{rules}
use Rattle.codes.proofs.code_at.Goals as goal

pub bounds-codes-r : goal.bounds-codes-r
bounds-codes-r c = codes_inside _ _ _ _ _ c.requires.codes.0 c.requires.codes.1

pub overflow_cast-known : goal.overflow_cast-known
overflow_cast-known c = omega (arith, c.type_inv.codes c.args.r)

pub returns-then-known-gt0 : goal.returns-then-known-gt0
returns-then-known-gt0 c = record { settled = code_known _ c.requires.codes.0 _ _ refl (search rules); codes_2 = c.requires.codes.0 }

pub settle-k-requires : goal.settle-k-requires
settle-k-requires c = c.requires.closure_ready

pub overflow_add-word : goal.overflow_add-word
overflow_add-word c = omega (arith, c.settle-k.ensures.most)

pub overflow_cast-codes : goal.overflow_cast-codes
overflow_cast-codes c = omega (arith, c.settle-k.ensures.most)

pub bounds-codes-r-2 : goal.bounds-codes-r-2
bounds-codes-r-2 c = codes_inside _ _ _ _ _ c.requires.codes.0 c.requires.codes.1

pub returns : goal.returns
returns c = record {
  settled = c.settle-k.ensures;
  codes_2 = codes_more _ c.requires.codes.0 _ _ _ refl (codes_inside _ _ _ _ _ c.requires.codes.0 c.requires.codes.1) c.settle-k.ensures;
}
