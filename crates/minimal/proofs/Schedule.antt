-- The quotient of a schedule is a schedule of the same net.
use Rattle.scan.proofs.Basics.{ℕ}
use Rattle.automaton.specs.Automaton.{Automaton, Closed}
use Rattle.automaton.specs.Equivalence.{Fires}
use Rattle.automaton.specs.Quotient.{Quotient}
use Rattle.automaton.proofs.Kept.{quotient-carries}
use Rattle.sequential.specs.Petri.{PetriNet, fire}
use Rattle.sequential.specs.Schedule.{IsSchedule}
use Rattle.sequential.proofs.Carried.{carried-schedule, schedule-on-reached}

-- arcs of a schedule fire
pub schedule-fires : (N : PetriNet) (A : Automaton) → IsSchedule N A → Fires (fire N) A
schedule-fires N A s = record { fires = s.lands }

pub quotient-schedule : (N : PetriNet) (A M : Automaton) (f : ℕ → ℕ) → Quotient A M f → Closed A → IsSchedule N A → IsSchedule N M
quotient-schedule N A M f Q c s = (carried-schedule N (quotient-carries Q)).1 (schedule-on-reached N A c s)
