-- The checks of a message go by those that find nothing.
use Prim.Native.Nat.{ℕ}
use mathlib.Core.Path.{◌≡◌}
use mathlib.Core.List.{List}
use mathlib.Core.Option.{none}
use Rattle.model.specs.declared.Sizes.{Sizes}
use Rattle.model.specs.Limits.{present}
use Rattle.model.specs.Rows.{program, row_check_of}
use Rattle.model.specs.Scopes.{name_check_of, scope_check_of}
use Rattle.model.specs.Bads.{bad_check_of}
use Rattle.model.specs.Tables.{tables, entry_check_of}
use Rattle.model.specs.Closed.{open_check}
use Rattle.model.specs.Verify.{message_check}
use Rattle.stages.specs.Order.{taken, from_3, from_4, from_5, from_6, from_7, from_8, from_22}
use Rattle.stages.proofs.Answering.{in_order, goes_by}

module _ (ws : List ℕ) (s : Sizes) (n : ℕ) (rows : row_check_of (program ws s) ≡ none) where
  pub goes_4 : message_check present (taken ws s) n ≡ from_4 ws s n
  unfolding from_3
  goes_4 = goes_by _ _ _ (in_order ws s n) rows

  module _ (names : name_check_of (program ws s) ≡ none) where
    pub goes_5 : message_check present (taken ws s) n ≡ from_5 ws s n
    unfolding from_4
    goes_5 = goes_by _ _ _ goes_4 names

    module _ (scopes : scope_check_of (program ws s) ≡ none) where
      pub goes_6 : message_check present (taken ws s) n ≡ from_6 ws s n
      unfolding from_5
      goes_6 = goes_by _ _ _ goes_5 scopes

      module _ (bads : bad_check_of ws s (program ws s) ≡ none) where
        pub goes_7 : message_check present (taken ws s) n ≡ from_7 ws s n
        unfolding from_6
        goes_7 = goes_by _ _ _ goes_6 bads

        module _ (entries : entry_check_of s (program ws s) (tables ws s) ≡ none) where
          pub goes_8 : message_check present (taken ws s) n ≡ from_8 ws s n
          unfolding from_7
          goes_8 = goes_by _ _ _ goes_7 entries

          pub goes_22 : open_check s (program ws s) (tables ws s) ≡ none → message_check present (taken ws s) n ≡ from_22 ws s n
          unfolding from_8
          goes_22 closed = goes_by _ _ _ goes_8 closed
