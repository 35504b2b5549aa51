use Rattle.scopes.proofs.Scoping.{uses_these, uses_none}
use Rattle.scopes.proofs.scope.uses.Goals as goal

pub returns-in-1 : goal.returns-in-1
returns-in-1 c = uses_these _ c.in-1.is

pub returns-in_default : goal.returns-in_default
returns-in_default c = uses_none _ c.in_default.in_default-own.rest.1
