-- `plainly::spreading::value_of` meets its contract.
use Rattle.scan.proofs.Basics.{arith, rules}
use Rattle.plainly.proofs.LookUp.{value-small, value_found, value-absent}
use Rattle.plainly.proofs.spreading.value_of.Goals as goal

pub overflow_add-result : goal.overflow_add-result
overflow_add-result c = omega (arith, value-small _ (search rules) _ c.find.ensures _ c.in-Some.is)

pub returns-in-Some : goal.returns-in-Some
returns-in-Some c = search (value_found, rules)

pub returns-in-None : goal.returns-in-None
returns-in-None c = search (value-absent, rules)
