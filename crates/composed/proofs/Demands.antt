-- A term for each statement of specs/Demands.
use Rattle.composed.specs.Demands.{AwaitsMeans, ComposedIsSchedule, DependentExactly, DependentEarly, DependentSigned, CorollaryOne, OneTask}
use Rattle.composed.proofs.Composed.{awaits↔, composed-schedule, composed-breadth-first}
use Rattle.composed.proofs.Dependent.{independent↔composable, dependent-early}
use Rattle.composed.proofs.Counts.{independent↔signed}
use Rattle.composed.proofs.Corollary.{corollary-one, one-task}

pub awaits-means : AwaitsMeans
awaits-means = awaits↔

pub composed-is-schedule : ComposedIsSchedule
composed-is-schedule N X H I = (composed-schedule N X H I, composed-breadth-first N X H)

pub dependent-exactly : DependentExactly
dependent-exactly = independent↔composable

pub dependent-is-early : DependentEarly
dependent-is-early = dependent-early

pub dependent-signed : DependentSigned
dependent-signed = independent↔signed

pub corollary : CorollaryOne
corollary = corollary-one

pub one-task-independent : OneTask
one-task-independent = one-task
