use native.Mathlib.Omega.{arith}
use Rattle.scopes.proofs.Binding.{binds_head, binds_other, binds_none}
use Rattle.scopes.proofs.names.binds.Goals as goal

pub returns-in-11 : goal.returns-in-11
returns-in-11 c = binds_other _ c.in-11.is

pub returns-in-2-to-7 : goal.returns-in-2-to-7
returns-in-2-to-7 c = binds_head _ (omega arith) (omega arith)

pub returns-in_default : goal.returns-in_default
returns-in_default c = binds_none _ (λ a. omega arith) c.in_default.in_default-own.rest.1

pub returns-in_default-2 : goal.returns-in_default-2
returns-in_default-2 c = binds_none _ (λ a. omega arith) c.in_default.in_default-own.rest.1
