-- The promises of the net's weights and accessors, each proved.
use Rattle.net.specs.Demands.{AccessorsMean, OutsideNothing, WithoutCapacities, WeightsLimited}
use Rattle.net.proofs.Checks.{net-judged, net-entries}
use Rattle.net.proofs.Accessors.{accessors-right}
use Rattle.net.proofs.Laws as laws

pub accessors-mean : AccessorsMean
accessors-mean net h = accessors-right net (net-entries net h)

pub outside-nothing : OutsideNothing
outside-nothing net = record {
  taken_no_transition = laws.taken_no_transition net;
  taken_no_place = laws.taken_no_place net;
  put_no_transition = laws.put_no_transition net;
  put_no_place = laws.put_no_place net;
  start_no_place = laws.start_no_place net;
  capacity_no_place = laws.capacity_no_place net;
}

pub without-capacities : WithoutCapacities
without-capacities = laws.no-capacity

pub weights-limited : WeightsLimited
weights-limited net h =
    let a = (net-judged net).accepts.1 h in
    record {
      takes = laws.taken_most net a;
      puts = laws.put_most net a;
      starts = laws.start-most net a;
      some_capacity = laws.capacity-some net a;
      capacities = laws.capacity-most net a;
      starts_within = laws.start-within net a;
    }
