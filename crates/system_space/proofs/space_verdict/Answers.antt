use native.Mathlib.Omega.{arith}
use Rattle.system_totals.proofs.Lined.{words_told}
use Rattle.system_space.proofs.Spacing.{too_long, fits}
use Rattle.system_space.proofs.space_verdict.Goals as goal

pub overflow_mul-needed : goal.overflow_mul-needed
overflow_mul-needed c = record { fits = omega (arith, c.requires.totalled.few_rows) }

pub overflow_add-needed : goal.overflow_add-needed
overflow_add-needed c = record { fits = omega (arith, c.requires.totalled.few_rows) }

pub returns-then-needed-lent : goal.returns-then-needed-lent
returns-then-needed-lent c =
    let z = too_long _ _ _ _ (words_told _ _ _ c.requires.totalled.told) (omega arith) in record { value = z.0; lent_after = z.1 }

pub write_listing-requires : goal.write_listing-requires
write_listing-requires c =
    let n = c.requires.totalled in
    record {
      joined_tables = c.requires.joined_tables;
      rule_room = c.requires.rule_room;
      n_value = n.told;
      rules_bound = (omega (arith, n.few_rules), omega (arith, n.few_rows));
      s_in_bounds = omega (arith, words_told _ _ _ n.told);
    }

pub returns : goal.returns
returns c =
    let z = fits _ _ _ _ (omega (arith, words_told _ _ _ c.requires.totalled.told)) c.write_listing.ensures in record { value = z.0; lent_after = z.1 }
