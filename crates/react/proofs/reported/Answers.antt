-- `react::reported` meets its contract.
use Rattle.refusal.proofs.Verdicts.{passed_on}
use Rattle.scan.proofs.Basics.{sym, ◌∙◌}
use Rattle.react.proofs.Done.{arcs-readable, judged, nodes_told, loops-refused, all-passed, too_short, report-written}
use Rattle.react.proofs.reported.Goals as goal

pub starts-starts-requires : goal.starts-starts-requires
starts-starts-requires c = arcs-readable _ _ _ c.requires

pub returns-in_err-awaits : goal.returns-in_err-awaits
returns-in_err-awaits c = absurd (nodes_told _ _ _ c.requires (sym c.nodes.ensures ∙ c.in_err-awaits.was))

pub invariant_of-schedule : goal.invariant_of-schedule
invariant_of-schedule c = record { judged = judged _ _ _ c.requires c.starts-starts.ensures (sym c.nodes.ensures ∙ c.in_ok-awaits.was) }

pub returns-in_err-loops_fault : goal.returns-in_err-loops_fault
returns-in_err-loops_fault c =
    rw (passed_on _ c.from_residual-in_err-loops_fault.ensures.1)
    (loops-refused _ _ _ c.requires c.loops_fault.ensures c.in_err-loops_fault.was _)

pub returns-in_err-output_fault : goal.returns-in_err-output_fault
returns-in_err-output_fault c =
    rw (passed_on _ c.from_residual-in_err-output_fault.ensures.1)
    (too_short _ _ _ c.requires c.loops_fault.ensures c.in_ok-loops_fault.was c.size-size.ensures _ c.output_fault.ensures c.in_err-output_fault.was)

pub invariant_of-durations : goal.invariant_of-durations
invariant_of-durations c =
    record { shape = rw c.transitions.ensures (all-passed _ _ _ c.requires c.loops_fault.ensures c.in_ok-loops_fault.was).durations_pass.shape }

pub invariant_of-timed : goal.invariant_of-timed
invariant_of-timed c = record { passed = all-passed _ _ _ c.requires c.loops_fault.ensures c.in_ok-loops_fault.was }

pub returns : goal.returns
returns c =
    report-written _ _ _ c.requires c.loops_fault.ensures c.in_ok-loops_fault.was c.size-size.ensures _ c.output_fault.ensures c.in_ok-output_fault.was
    c.write.ensures
